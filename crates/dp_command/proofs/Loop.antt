-- Items one after the other, as a loop takes them.
use Rattle.std.proofs.Common.{◌≡◌, ℕ, suc, ◌-◌, ◌+◌, ◌≤◌, ◌<◌, List, [], ◌∷◌, ◌++◌, Option, Some, None, refl, sym, ap, ◌∙◌, append_assoc, arith}
use Rattle.std.proofs.lemmas.List.{append-nil}
use Rattle.dp_command.specs.declared.errors.LineError.{LineError}
use Rattle.dp_command.specs.declared.errors.LineError.TheVariants as errors
use Rattle.dp_command.specs.inner.Parts.{◌>>=◌, items_at}
use Rattle.dp_command.specs.Lines.{Fails}

-- what was taken before, and what is still taken
abbrev pub with_front : {A : Type 0} → List A → Option (List A × List ℕ) → Option (List A × List ℕ)
with_front front read = read >>= λ x. Some (front ++ x.0, x.1)

regroup : {A : Type 0} (front : List A) (a : A) (read : Option (List A × List ℕ))
    → with_front front (read >>= λ x. Some (a ∷ x.0, x.1)) ≡ with_front (front ++ a ∷ []) read
regroup {A} front a (Some x) = ap (λ (all : List A). Some (all, x.1)) (simp append_assoc)
regroup front a None = refl

pub goes_on : {A : Type 0} (step : List ℕ → Option (Option A × List ℕ)) (front : List A) (count i : ℕ) (bytes : List ℕ)
    (a : A) (after : List ℕ) (total : Option (List A × List ℕ)) → i < count → step bytes ≡ Some (Some a, after)
    → with_front front (items_at step (count - i) bytes) ≡ total
    → with_front (front ++ a ∷ []) (items_at step (count - (i + 1)) after) ≡ total
unfolding items_at
goes_on step front count i bytes a after total lt h so_far =
    let k : count - i ≡ suc (count - (i + 1)) = omega arith in
    let one : with_front front (items_at step (count - i) bytes) ≡ with_front (front ++ a ∷ [])
    (items_at step (count - (i + 1)) after) = rw (k, h) (regroup front a (items_at step (count - (i + 1)) after)) in
    sym one ∙ so_far

pub stops : {A : Type 0} (step : List ℕ → Option (Option A × List ℕ)) (front : List A) (count i : ℕ)
    (bytes after : List ℕ) (total : Option (List A × List ℕ)) → i < count → step bytes ≡ Some (None, after)
    → with_front front (items_at step (count - i) bytes) ≡ total → total ≡ Some (front, after)
unfolding items_at
stops {A} step front count i bytes after total lt h so_far =
    let k : count - i ≡ suc (count - (i + 1)) = omega arith in
    let one : with_front front (items_at step (count - i) bytes) ≡ Some (front, after) = rw (k, h)
    (ap (λ (all : List A). Some (all, after)) (append-nil front)) in
    sym so_far ∙ one

pub ends : {A : Type 0} (step : List ℕ → Option (Option A × List ℕ)) (e : LineError) (front : List A) (count i : ℕ)
    (bytes : List ℕ) (total : Option (List A × List ℕ)) → i < count → Fails e (step bytes)
    → with_front front (items_at step (count - i) bytes) ≡ total → Fails e total
unfolding items_at
ends step errors.Memory front count i bytes total lt h so_far = tt
ends step errors.Parse front count i bytes total lt h so_far =
    let k : count - i ≡ suc (count - (i + 1)) = omega arith in
    let one : with_front front (items_at step (count - i) bytes) ≡ None = rw (k, h) refl in
    sym so_far ∙ one

pub is_done : {A : Type 0} (step : List ℕ → Option (Option A × List ℕ)) (front : List A) (count i : ℕ) (bytes : List ℕ)
    (total : Option (List A × List ℕ)) → count ≤ i → with_front front (items_at step (count - i) bytes) ≡ total
    → total ≡ Some (front, bytes)
unfolding items_at
is_done {A} step front count i bytes total le so_far =
    let k : count - i ≡ 0 = omega arith in
    let one : with_front front (items_at step (count - i) bytes) ≡ Some (front, bytes) = rw k
    (ap (λ (all : List A). Some (all, bytes)) (append-nil front)) in
    sym so_far ∙ one
