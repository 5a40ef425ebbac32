-- What is kept by each step of a program is kept by calls, once it is by what is called.
use Rattle.std.proofs.Common.{◌≡◌, ℕ, zero, suc, ◌<◌, Bool, true, false, List, [], ◌∷◌, length, Option, Some, None, refl, sym, subst, arith, slice_get}
use Rattle.std.specs.Prelude.{nat_lt, cond, position}
use Rattle.std.specs.List.{position_or_len}
use Rattle.std.proofs.lemmas.Bool.{ltb-true}
use Rattle.std.specs.Option.{option_map_or}
use Rattle.dp_tree.specs.declared.bundle.Bundle.{Bundle}
use Rattle.dp_tree.specs.declared.bundle.BundleFile.{BundleFile}
use Rattle.dp_tree.specs.declared.bundle.FunctionRef.{FunctionRef}
use Rattle.dp_tree.specs.Files.{file_named}
use Rattle.dp_tree.specs.declared.operators.Native.{Native}
use Rattle.dp_value.specs.declared.value.Value.{Value}
use Rattle.dp_value.specs.Value.{data_of}
use Rattle.dp_operations.specs.Text.{text_of}
use Rattle.dp_state.specs.declared.state.State.{State}
use Rattle.dp_state.specs.Functions.{declared_function}
use Rattle.dp_tree.specs.declared.tree.Function.{Function}
use Rattle.dp_tree.specs.declared.tree.Inclusion.{Inclusion}
use Rattle.dp_tree.specs.declared.tree.Inclusion.TheVariants.{Include, Require}
use Rattle.dp_tree.specs.Builtins.{builtin_of as builtin_named}
use Rattle.dp_actions.specs.Calls.{Callee, BuiltIn, Declared, callee, declared_callee, callee_run, call_run, inclusion_run, include_run}
use Rattle.dp_actions.specs.Run.{Run}
use Rattle.dp_actions.specs.Setting.{Setting, Part}
use Rattle.dp_meaning.proofs.NativeRuns.{native-is}
use Rattle.dp_meaning.proofs.Alike.{Alike, Alike-native, AreAlike, Facts, IsFunction, IsKept, KeepsPart, Keeps-and_then}

-- ---- files that are found stand in the bundle

pub within-found : {X : Type 0} (xs : List X) (k : ℕ) (x : X) → slice_get xs k ≡ Some x → k < length xs
within-found [] k x e = absurd (cc)
within-found (y ∷ ys) zero x e = omega arith
within-found (y ∷ ys) (suc k) x e = let h : k < length ys = within-found ys k x e in omega arith

pub within-position : {X : Type 0} (test : X → Bool) (xs : List X) (k : ℕ) → position test xs ≡ Some k → k < length xs
within-position test xs k e = go (nat_lt (position_or_len test xs) (length xs)) refl e
  where
    go : (b : Bool) → nat_lt (position_or_len test xs) (length xs) ≡ b
        → cond b (Some (position_or_len test xs)) None ≡ Some k → k < length xs
    go true h f = let same : position_or_len test xs ≡ k = cc in subst (λ i. i < length xs) same (ltb-true _ _ h)
    go false h f = absurd (cc)

-- ---- what is called

abbrev IsWithin : Bundle → Callee → Type 0
IsWithin bundle (BuiltIn b) = Unit {0}
IsWithin bundle (Declared file f) = IsFunction bundle file f

abbrev AreWithin : Bundle → Option Callee → Type 0
AreWithin bundle None = Unit {0}
AreWithin bundle (Some c) = IsWithin bundle c

within-declared : (bundle : Bundle) (reference : FunctionRef) → AreWithin bundle (declared_callee bundle reference)
within-declared bundle reference = go (slice_get bundle.files reference.file) refl
  where
    found : (g : BundleFile) → slice_get bundle.files reference.file ≡ Some g → (o : Option Function)
        → slice_get g.tree.functions reference.function ≡ o
        → AreWithin bundle (option_map_or (λ f. Some (Declared reference.file f)) o None)
    found g e None h = tt
    found g e (Some f) h = (g, e, reference.function, h)

    go : (o : Option BundleFile) → slice_get bundle.files reference.file ≡ o
        → AreWithin bundle (option_map_or (λ f. Some (Declared reference.file f)) (option_map_or
        (λ file. slice_get file.tree.functions reference.function) o None) None)
    go None e = tt
    go (Some g) e = found g e (slice_get g.tree.functions reference.function) refl

within-callee : (bundle : Bundle) (name : List ℕ) (s : State) → AreWithin bundle (callee bundle name s)
within-callee bundle name s = go (builtin_named name) (declared_function bundle name s.declared)
  where
    go : (o : Option Native) (r : Option FunctionRef)
        → AreWithin bundle (option_map_or (λ b. Some (BuiltIn b)) o (option_map_or (declared_callee bundle) r None))
    go None None = tt
    go None (Some reference) = within-declared bundle reference
    go (Some b) r = tt

module _ {D : Type 0} (F : Facts D) (bundle : Bundle) (kept : IsKept F bundle) (d : D) (x y : Setting)
    (good : AreAlike F bundle d x y) where
  Keeps-callee : (c : Callee) (values : List Value) → IsWithin bundle c → KeepsPart F d x y (callee_run c values)
  Keeps-callee (BuiltIn b) values within n s p = Alike-native F bundle kept _ d n s (native-is b values s) p
  Keeps-callee (Declared file f) values within n s p = good.call file f values within n s p

  Keeps-call : (o : Option Callee) (arguments : Part (List Value)) → KeepsPart F d x y arguments → AreWithin bundle o
      → KeepsPart F d x y (call_run o arguments)
  Keeps-call None arguments keep within n s p = (d, p, tt, refl, refl)
  Keeps-call (Some c) arguments keep within n s p =
      Keeps-and_then F d n _ _ _ _ (keep n s p) (λ values. Keeps-callee c values within)

  Keeps-inclusion : (how : Inclusion) (o : Option ℕ) → ((file : ℕ) → o ≡ Some file → file < length bundle.files)
      → KeepsPart F d x y (inclusion_run how o)
  Keeps-inclusion Include None within n s p = (p, refl, refl)
  Keeps-inclusion Require None within n s p = (d, p, tt, refl, refl)
  Keeps-inclusion Include (Some file) within n s p = good.include file (within file refl) n s p
  Keeps-inclusion Require (Some file) within n s p = good.include file (within file refl) n s p

  -- both settings are of the bundle
  in-bundle : {A : Type 0} (n : ℕ) (f g : Bundle → Run A) → Alike F d n (f bundle) (g bundle)
      → Alike F d n (f x.bundle) (g y.bundle)
  in-bundle n f g h =
      subst (λ b. Alike F d n (f x.bundle) (g b)) (sym good.right)
      (subst (λ b. Alike F d n (f b) (g bundle)) (sym good.left) h)

  pub Keeps-named : (name : List ℕ) (arguments : Part (List Value)) → KeepsPart F d x y arguments
      → KeepsPart F d x y (λ setting s. call_run (callee setting.bundle name s) arguments setting s)
  Keeps-named name arguments keep n s p =
      in-bundle n (λ b. call_run (callee b name s) arguments x s) (λ b. call_run (callee b name s) arguments y s)
      (Keeps-call (callee bundle name s) arguments keep (within-callee bundle name s) n s p)

  pub Keeps-include : (how : Inclusion) (v : Value) → KeepsPart F d x y (include_run how v)
  Keeps-include how v n s p =
      let name : List ℕ = text_of (data_of v) in
      in-bundle n (λ b. inclusion_run how (file_named b name) x s) (λ b. inclusion_run how (file_named b name) y s)
      (Keeps-inclusion how (file_named bundle name) (λ file e. within-position _ bundle.files file e) n s p)
