-- Two runs that go alike: what is kept by each step of a program is true at each of their moments and at their ends,
-- and they differ at most in where they are over by the bound.
use Rattle.std.proofs.Common.{◌≡◌, ℕ, ◌+◌, ◌<◌, ◌≤◌, Bool, true, false, List, length, Option, Some, Result, Ok, Err, refl, sym, subst, arith}
use Rattle.std.specs.Prelude.{if◌then◌else◌, slice_get}
use Rattle.dp_tree.specs.CodeLines.{file_lines}
use Rattle.dp_tree.specs.declared.bundle.Bundle.{Bundle}
use Rattle.dp_tree.specs.declared.bundle.BundleFile.{BundleFile}
use Rattle.dp_tree.specs.declared.tree.Function.{Function}
use Rattle.dp_value.specs.declared.errors.ValueError.{ValueError}
use Rattle.dp_value.specs.declared.errors.WriteError.{WriteError}
use Rattle.dp_value.specs.declared.key.Key.{Key}
use Rattle.dp_value.specs.declared.value.Value.{Value}
use Rattle.dp_value.specs.Data.{Data}
use Rattle.dp_state.specs.declared.moments.FatalKind.{FatalKind}
use Rattle.dp_state.specs.declared.moments.MomentKind.{MomentKind}
use Rattle.dp_state.specs.declared.moments.MomentKind.TheVariants.{Place, Enter, Leave}
use Rattle.dp_state.specs.declared.moments.Outcome.{Outcome}
use Rattle.dp_state.specs.declared.moments.Outcome.TheVariants as way
use Rattle.dp_state.specs.declared.state.State.{State}
use Rattle.dp_state.specs.Constants.{with_constant}
use Rattle.dp_state.specs.Functions.{called, included}
use Rattle.dp_state.specs.Places.{assigned, unset, with_global}
use Rattle.dp_state.specs.States.{printed, left}
use Rattle.dp_actions.specs.Run.{Run, Done, Over, At, and_then, taken}
use Rattle.dp_actions.specs.Setting.{Setting, Part}
use Rattle.dp_actions.specs.Values.{value_run, write_run}
use Rattle.dp_meaning.proofs.NativeRuns.{IsNative, WithConstant, WithFault, WithValue}
use Rattle.dp_meaning.proofs.Each.{Each, each-all}

-- what is true along a run whose frames are told by a D
pub record Facts (D : Type 0) : Type 1 where
  -- of a state after so many moments
  pub state : D → ℕ → State → Type 0
  -- of the line of a moment before a statement, a test or a binding
  pub line : D → ℕ → Type 0
  -- with one frame more, of this file
  pub down : ℕ → D → D
  -- how many moments there are at least where a run is over by the bound
  pub bound : ℕ

-- how a run of a program can end by itself, after so many moments
abbrev pub CanEnd : ℕ → ℕ → Outcome → Type 0
CanEnd bound n way.Done = Unit {0}
CanEnd bound n (way.Exit status) = status ≤ 199
CanEnd bound n (way.Fatal kind file line) = Unit {0}
CanEnd bound n way.Bound = bound ≤ n

-- a function of the file of this number
abbrev pub IsFunction : Bundle → ℕ → Function → Type 0
IsFunction bundle file f =
    (g : BundleFile) × (slice_get bundle.files file ≡ Some g) × (k : ℕ) × (slice_get g.tree.functions k ≡ Some f)

module _ {D : Type 0} (F : Facts D) where
  abbrev pub Stands : D → MomentKind → ℕ → Type 0
  Stands d Place line = F.line d line
  Stands d Enter line = Unit {0}
  Stands d Leave line = Unit {0}

  -- It is true along both, whatever is done to the states at the moments that leaves it true. Where one is over by the
  -- bound, the other may be at a moment: no more moments come there.
  abbrev pub Alike : {A : Type 0} → D → ℕ → Run A → Run A → Type 0
  Alike d n (Done a s) (Done b t) = F.state d n s × (a ≡ b) × (s ≡ t)
  Alike d n (Over o s) (Over p t) = (e : D) × F.state e n s × CanEnd F.bound n o × (o ≡ p) × (s ≡ t)
  Alike d n (Over o s) (At kind line t go) = (e : D) × F.state e n s × (F.bound ≤ n) × (o ≡ way.Bound) × (s ≡ t)
  Alike d n (At kind line s go) (Over p t) = (e : D) × F.state e n s × (F.bound ≤ n) × (p ≡ way.Bound) × (s ≡ t)
  Alike d n (At kind line s go) (At other there t on) =
      (e : D) × F.state e n s × ((u : State) → F.state e (n + 1) u → Alike d (n + 1) (go u) (on u)) × Stands e kind line
      × (kind ≡ other) × (line ≡ there)
      × (s ≡ t)
  Alike d n r q = ⊥

  -- each step of a program keeps it, in files of this bundle
  pub record IsKept (bundle : Bundle) : Type 0 where
    pub assigns : (d : D) (n : ℕ) (level : ℕ) (name : List ℕ) (keys : List (Option Key)) (push : Bool) (v : Value)
        (s t : State)
        → assigned level name keys push v s ≡ Ok t → F.state d n s → F.state d n t
    pub unsets : (d : D) (n : ℕ) (name : List ℕ) (keys : List (Option Key)) (s t : State) → unset name keys s ≡ Ok t
        → F.state d n s → F.state d n t
    pub binds : (d : D) (n : ℕ) (name : List ℕ) (s : State) → F.state d n s → F.state d n (with_global name s)
    pub defines : (d : D) (n : ℕ) (name : List ℕ) (v : Value) (s : State) → F.state d n s
        → F.state d n (with_constant name v s)
    pub prints : (d : D) (n : ℕ) (piece : List ℕ) (s t : State) → printed piece s ≡ Ok t → F.state d n s → F.state d n t
    pub calls : (d : D) (n file : ℕ) (f : Function) (values : List Value) (s t : State)
        → file < length bundle.files → called file f values s ≡ Ok t → F.state d n s → F.state (F.down file d) n t
    pub includes : (d : D) (n file : ℕ) (s t : State) → file < length bundle.files → included bundle file s ≡ Ok t
        → F.state d n s
        → F.state (F.down file d) n t
    pub leaves : (d : D) (n file : ℕ) (s : State) → F.state (F.down file d) n s → F.state d n (left s)

  -- the lines of a file have it where the file is on top
  abbrev pub HaveLines : Bundle → Type 0
  HaveLines bundle =
      (d : D) (file : ℕ) (f : BundleFile) → slice_get bundle.files file ≡ Some f
      → Each (F.line (F.down file d)) (file_lines f.tree)

  pub all-lines : (bundle : Bundle) → ((d : D) (line : ℕ) → F.line d line) → HaveLines bundle
  all-lines bundle all d file f e = each-all _ (all (F.down file d)) (file_lines f.tree)

  -- steps of two runs from each state
  abbrev pub Keeps : {A : Type 0} → D → (State → Run A) → (State → Run A) → Type 0
  Keeps d f g = (n : ℕ) (s : State) → F.state d n s → Alike d n (f s) (g s)

  pub Alike-and_then : {A B : Type 0} (d e : D) (n : ℕ) (r q : Run A) (f g : A → State → Run B)
      → Alike d n r q → ((a : A) (m : ℕ) (s : State) → n ≤ m → F.state d m s → Alike e m (f a s) (g a s))
      → Alike e n (and_then r f) (and_then q g)
  unfolding and_then
  Alike-and_then d e n (Done a s) (Done b t) f g h k =
      subst (λ t. Alike e n (f a s) (g b t)) h.2 (subst (λ b. Alike e n (f a s) (g b s)) h.1
      (k a n s (omega arith) h.0))
  Alike-and_then d e n (Over o s) (Over p t) f g h k = h
  Alike-and_then d e n (Over o s) (At kind line t go) f g h k = h
  Alike-and_then d e n (At kind line s go) (Over p t) f g h k = h
  Alike-and_then d e n (At kind line s go) (At other there t on) f g h k = (
    h.0,
    h.1,
    λ u p. Alike-and_then d e (n + 1) (go u) (on u) f g (h.2 u p) (λ a m s le q. k a m s (omega (arith, le)) q),
    h.3,
    h.4,
    h.5,
    h.6,
  )
  Alike-and_then d e n r q f g h k = absurd h

  -- one after the other, with as many frames as before
  pub Keeps-and_then : {A B : Type 0} (d : D) (n : ℕ) (r q : Run A) (f g : A → State → Run B) → Alike d n r q
      → ((a : A) → Keeps d (f a) (g a))
      → Alike d n (and_then r f) (and_then q g)
  Keeps-and_then d n r q f g h k = Alike-and_then d d n r q f g h (λ a m s le p. k a m s p)

  pub Alike-if : {A : Type 0} (b : Bool) (d : D) (n : ℕ) (w x y z : Run A) → Alike d n w y → Alike d n x z
      → Alike d n (if b then w else x) (if b then y else z)
  Alike-if true d n w x y z h k = h
  Alike-if false d n w x y z h k = k

  pub Alike-taken : (r : Result State FatalKind) (d e : D) (n : ℕ) (s : State) → F.state e n s
      → ((t : State) → r ≡ Ok t → F.state d n t)
      → Alike d n (taken r s) (taken r s)
  Alike-taken (Ok t) d e n s p k = (k t refl, refl, refl)
  Alike-taken (Err kind) d e n s p k = (e, p, tt, refl, refl)

  pub Keeps-value : (r : Result Data ValueError) (d : D) → Keeps d (value_run r) (value_run r)
  Keeps-value (Ok v) d n s p = (p, refl, refl)
  Keeps-value (Err e) d n s p = (d, p, tt, refl, refl)

  pub Keeps-write : (r : Result Data WriteError) (d : D) → Keeps d (write_run r) (write_run r)
  Keeps-write (Ok v) d n s p = (p, refl, refl)
  Keeps-write (Err e) d n s p = (d, p, tt, refl, refl)

  -- a built-in function
  pub Alike-native : (bundle : Bundle) → IsKept bundle → (r : Run Value) (d : D) (n : ℕ) (s : State) → IsNative s r
      → F.state d n s → Alike d n r r
  Alike-native bundle kept r d n s (WithValue v e) p = subst (λ (r : Run Value). Alike d n r r) (sym e) (p, refl, refl)
  Alike-native bundle kept r d n s (WithConstant name v given e) p =
      subst (λ (r : Run Value). Alike d n r r) (sym e) (kept.defines d n name v s p, refl, refl)
  Alike-native bundle kept r d n s (WithFault kind e) p =
      subst (λ (r : Run Value). Alike d n r r) (sym e) (d, p, tt, refl, refl)

  -- Two settings in which calls and included files keep it, from these frames on, and a loop has enough turns
  pub record AreAlike (bundle : Bundle) (d : D) (x y : Setting) : Type 0 where
    pub left : x.bundle ≡ bundle
    pub right : y.bundle ≡ bundle
    pub turns_left : F.bound ≤ x.bound
    pub turns_right : F.bound ≤ y.bound
    pub call : (file : ℕ) (f : Function) (values : List Value) → IsFunction bundle file f
        → Keeps d (x.call file f values) (y.call file f values)
    pub include : (file : ℕ) → file < length bundle.files → Keeps d (x.include file) (y.include file)

  -- a part of a program does, as two settings have it
  abbrev pub KeepsPart : {A : Type 0} → D → Setting → Setting → Part A → Type 0
  KeepsPart d x y part = Keeps d (part x) (part y)
