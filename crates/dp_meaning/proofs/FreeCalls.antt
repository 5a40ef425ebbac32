-- A call of a function that is not loud has no moment on a watched line.
use mathlib.Core.Path.{fun_ext}
use Rattle.std.proofs.Common.{◌≡◌, ℕ, zero, suc, Bool, true, false, not, ◌&&◌, ◌||◌, List, [], ◌∷◌, Option, Some, None, is_some, refl, sym, ap, ◌∙◌}
use Rattle.std.proofs.lemmas.Slice.Eq.{bytes_eq-Decides}
use Rattle.std.specs.List.{list_all, list_any}
use Rattle.std.specs.Option.{option_map_or}
use Rattle.std.specs.Prelude.{slice_get}
use Rattle.std.specs.Str.{bytes_eq, str_eq_ignore_ascii_case, str_to_ascii_lowercase}
use Rattle.dp_value.specs.declared.value.Value.{Value}
use Rattle.dp_tree.specs.declared.bundle.Bundle.{Bundle}
use Rattle.dp_tree.specs.declared.bundle.BundleFile.{BundleFile}
use Rattle.dp_tree.specs.declared.bundle.FunctionRef.{FunctionRef}
use Rattle.dp_tree.specs.declared.tree.Function.{Function}
use Rattle.dp_tree.specs.declared.tree.Statement.{Statement}
use Rattle.dp_tree.specs.Files.{function_at}
use Rattle.dp_state.specs.declared.state.State.{State}
use Rattle.dp_actions.specs.Statements.{statement_run}
use Rattle.dp_meaning.specs.Programs.{setting_of}
use Rattle.dp_meaning.specs.Unwatched.{IsUnwatched, OnFree}
use Rattle.dp_analysis.specs.Quiet.{AreLoud, any_function, is_loud, is_quiet, most_calls}
use Rattle.dp_analysis.specs.Still.{calls_of, is_declared}
use Rattle.dp_tree.specs.Builtins.{builtin_of}
use Rattle.dp_meaning.proofs.FreeExpressions.{Fits, free-taken, free-then, no-calls, was-not}
use Rattle.dp_meaning.proofs.FreeRuns.{free-body, free-statement}

-- ---- a function of a bundle

none-at : {A : Type 0} (test : A → Bool) (xs : List A) (i : ℕ) (x : A) → list_any test xs ≡ false
    → slice_get xs i ≡ Some x → test x ≡ false
none-at test [] i x none at = absurd (cc)
none-at test (y ∷ ys) zero x none at =
    let same : y ≡ x = cc in ap test (sym same) ∙ first-off (test y) (list_any test ys) none
  where
    first-off : (b c : Bool) → (b || c) ≡ false → b ≡ false
    first-off true c e = absurd (cc)
    first-off false c e = refl
none-at test (y ∷ ys) (suc i) x none at = none-at test ys i x (rest-off (test y) (list_any test ys) none) at
  where
    rest-off : (b c : Bool) → (b || c) ≡ false → c ≡ false
    rest-off true c e = absurd (cc)
    rest-off false c e = e

module _ (bundle : Bundle) (test : Function → Bool) (name : List ℕ) (reference : FunctionRef) (f : Function)
    (none : any_function test bundle name ≡ false) where
  abbrev passes : Function → Bool
  passes g = test g && str_eq_ignore_ascii_case g.name name

  not-in : (o : Option BundleFile) → slice_get bundle.files reference.file ≡ o
      → option_map_or (λ file. slice_get file.tree.functions reference.function) o None ≡ Some f → passes f ≡ false
  not-in None at is = absurd (cc)
  not-in (Some file) at is =
      none-at passes file.tree.functions reference.function f
      (none-at (λ (g : BundleFile). list_any passes g.tree.functions) bundle.files reference.file file none at) is

  same-name : str_eq_ignore_ascii_case name f.name ≡ true → str_eq_ignore_ascii_case f.name name ≡ true
  same-name named =
      let one : str_to_ascii_lowercase name ≡ str_to_ascii_lowercase f.name =
      (bytes_eq-Decides (str_to_ascii_lowercase name) (str_to_ascii_lowercase f.name)).0 named in
      (λ i. bytes_eq (sym one i) (one i)) ∙ named

  and-off : (b c : Bool) → c ≡ true → (b && c) ≡ false → b ≡ false
  and-off true true is e = absurd (cc)
  and-off true false is e = absurd (cc)
  and-off false c is e = refl

  -- where no function of this name passes, none that has it does
  pub none-named : function_at bundle reference ≡ Some f → str_eq_ignore_ascii_case name f.name ≡ true → test f ≡ false
  none-named at named =
      and-off (test f) (str_eq_ignore_ascii_case f.name name) (same-name named)
      (not-in (slice_get bundle.files reference.file) refl at)

-- ---- calls, within calls

module _ (lines : List ℕ) (bundle : Bundle) (bound : ℕ) where
  abbrev loud : ℕ → List ℕ → Bool
  loud n = is_loud lines bundle n

  same : (depth : ℕ) → (setting_of bundle bound depth).bundle ≡ bundle
  unfolding setting_of
  same zero = refl
  same (suc depth) = refl

  abbrev FreeCalls : (List ℕ → Bool) → ℕ → Type 0
  FreeCalls l depth =
      (reference : FunctionRef) (f : Function) (name : List ℕ) → function_at bundle reference ≡ Some f
      → str_eq_ignore_ascii_case name f.name ≡ true → builtin_of name ≡ None → l name ≡ false
      → (values : List Value) (s : State)
      → OnFree lines true ((setting_of bundle bound depth).call reference.file f values s)

  fits-by : (l : List ℕ → Bool) (depth : ℕ) → FreeCalls l depth
      → Fits (IsUnwatched lines true) bundle l (setting_of bundle bound depth)
  fits-by l depth free = record { same_bundle = same depth; calls = free }

  quiet-body : (n : ℕ) (reference : FunctionRef) (f : Function) (name : List ℕ) → function_at bundle reference ≡ Some f
      → str_eq_ignore_ascii_case name f.name ≡ true → loud (suc n) name ≡ false
      → list_all (is_quiet lines (loud n)) f.body ≡ true
  unfolding is_loud
  quiet-body n reference f name at named quiet =
      was-not _ false (none-named bundle (λ g. not (list_all (is_quiet lines (loud n)) g.body)) name reference f
      quiet at named)

  free-calls : (n depth : ℕ) → FreeCalls (loud n) depth
  unfolding setting_of is_loud
  free-calls zero depth reference f name at named other quiet values s =
      absurd (let no : true ≡ false = none-named bundle (λ g. true) name reference f quiet at named in cc)
  free-calls (suc n) zero reference f name at named other quiet values s = tt
  free-calls (suc n) (suc depth) reference f name at named other quiet values s =
      let fits = fits-by (loud n) depth (free-calls n depth) in
      free-then (IsUnwatched lines true) _ _ (free-taken (IsUnwatched lines true) _ s) (λ _ t. (
        refl,
        λ u.
            free-then (IsUnwatched lines true) _ _
            (free-body lines true bundle (loud n) (setting_of bundle bound depth) fits f.body
            (quiet-body n reference f name at named quiet) u)
            (λ g w. (refl, λ x. tt)),
      ))

-- ---- a statement that is quiet

pub free-quiet : (lines : List ℕ) (names : Option (List (List ℕ))) (statement : Statement)
    → is_quiet lines (calls_of names) statement ≡ true → (bundle : Bundle) → AreLoud lines bundle names
    → (bound depth : ℕ) (s : State)
    → OnFree lines (is_some names) (statement_run statement (setting_of bundle bound depth) s)
free-quiet lines None statement quiet bundle loud bound depth =
    let setting = setting_of bundle bound depth in
    free-statement lines false setting.bundle is_declared setting (no-calls (IsUnwatched lines false) setting) statement
    quiet
free-quiet lines (Some names) statement quiet bundle are_loud bound depth =
    let loud = is_loud lines bundle most_calls in
    let setting = setting_of bundle bound depth in
    let fits = fits-by lines bundle bound loud depth (free-calls lines bundle bound most_calls depth) in
    free-statement lines true bundle loud setting fits statement
    (ap (λ (calls : List ℕ → Bool). is_quiet lines calls statement) (sym (fun_ext are_loud)) ∙ quiet)
