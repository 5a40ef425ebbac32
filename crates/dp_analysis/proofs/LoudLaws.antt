-- Walks over the functions of a program, each of which keeps the names of those that stay.
use mathlib.Core.Path.{fun_ext}
use Rattle.std.proofs.Common.{◌≡◌, ℕ, zero, suc, ◌+◌, ◌-◌, ◌≤◌, Bool, not, List, Some, None, refl, sym, ap, ◌∙◌, arith}
use Rattle.std.specs.List.{list_all}
use Rattle.dp_analysis.specs.Still.{is_named}
use Rattle.dp_tree.specs.declared.bundle.Bundle.{Bundle}
use Rattle.dp_analysis.specs.Quiet.{any_function, is_loud, is_quiet, most_calls}
use Rattle.dp_analysis.specs.inner.Parts.{stays}

module _ (lines : List ℕ) where
  pub first_walk : (bundle : Bundle) (name : List ℕ)
      → any_function (stays lines None) bundle name ≡ is_loud lines bundle 0 name
  unfolding is_loud
  first_walk bundle name = refl

  -- a walk from names that are those of so many walks
  pub next_walk : (n : ℕ) (bundle : Bundle) (names : List (List ℕ))
      → ((name : List ℕ) → is_named names name ≡ is_loud lines bundle n name) → (name : List ℕ)
      → any_function (stays lines (Some names)) bundle name ≡ is_loud lines bundle (n + 1) name
  unfolding is_loud
  next_walk n bundle names same name =
      ap (λ (deep : List ℕ → Bool). any_function (λ f. not (list_all (is_quiet lines
      deep) f.body)) bundle name) (fun_ext same)
      ∙ ap (λ k. is_loud lines bundle k name) (let e : suc n ≡ n + 1 = omega arith in e)

  -- where a walk kept all names, each further one does
  settled : (m n : ℕ) (bundle : Bundle) → is_loud lines bundle (n + 1) ≡ is_loud lines bundle n
      → is_loud lines bundle (m + n) ≡ is_loud lines bundle n
  unfolding is_loud
  settled zero n bundle same = ap (λ k. is_loud lines bundle k) (let e : 0 + n ≡ n = omega arith in e)
  settled (suc m) n bundle same =
      ap (λ k. is_loud lines bundle k) (let e : suc m + n ≡ suc (m + n) = omega arith in e)
      ∙ ap (λ (deep : List ℕ → Bool). any_function (λ f. not (list_all (is_quiet lines deep) f.body)) bundle)
      (settled m n bundle same)
      ∙ ap (λ k. is_loud lines bundle k) (let e : suc n ≡ n + 1 = omega arith in e)
      ∙ same

  pub last_walk : (n : ℕ) (bundle : Bundle) (deep fewer : List (List ℕ)) → n ≤ most_calls
      → ((name : List ℕ) → is_named deep name ≡ is_loud lines bundle n name)
      → ((name : List ℕ) → is_named fewer name ≡ any_function (stays lines (Some deep)) bundle name)
      → ((name : List ℕ) → is_named fewer name ≡ is_named deep name)
      → (name : List ℕ) → is_named deep name ≡ is_loud lines bundle most_calls name
  last_walk n bundle deep fewer within is walked same name =
      is name
      ∙ sym (ap (λ (t : List ℕ → Bool). t name) (settled (most_calls - n) n bundle (fun_ext kept)))
      ∙ ap (λ k. is_loud lines bundle k name) (let e : most_calls - n + n ≡ most_calls = omega arith in e)
    where
      kept : (other : List ℕ) → is_loud lines bundle (n + 1) other ≡ is_loud lines bundle n other
      kept other = sym (next_walk n bundle deep is other) ∙ sym (walked other) ∙ same other ∙ is other
