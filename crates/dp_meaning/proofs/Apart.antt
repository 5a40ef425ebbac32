-- A part of a state that hangs on no variable and no constant stays as it is where these are written.
use Rattle.std.proofs.Common.{◌≡◌, ℕ, ◌+◌, Bool, true, false, if◌then◌else◌, List, [], ◌∷◌, ◌++◌, length, Option, Some, None, Result, Ok, Err, refl, sym, ap, ◌∙◌}
use Rattle.std.specs.Prelude.{◌==◌, nat_le, unwrap_or}
use Rattle.std.specs.Option.{option_map_or}
use Rattle.dp_tree.specs.declared.bundle.Bundle.{Bundle}
use Rattle.dp_tree.specs.declared.bundle.FunctionRef.{FunctionRef}
use Rattle.dp_tree.specs.declared.tree.Function.{Function}
use Rattle.dp_tree.specs.Files.{functions_of}
use Rattle.dp_value.specs.declared.errors.WriteError.{WriteError}
use Rattle.dp_value.specs.declared.key.Key.{Key}
use Rattle.dp_value.specs.declared.value.Value.{Value}
use Rattle.dp_value.specs.declared.value.Value.TheVariants.{Null}
use Rattle.dp_value.specs.Data.{Data}
use Rattle.dp_value.specs.Entry.{write_result, removed}
use Rattle.dp_value.specs.Value.{data_of, value_of}
use Rattle.dp_state.specs.declared.moments.FatalKind.{FatalKind}
use Rattle.dp_state.specs.declared.moments.FatalKind.TheVariants.{Arguments, Redeclared, TooDeep}
use Rattle.dp_state.specs.declared.state.Frame.{Frame}
use Rattle.dp_state.specs.declared.state.State.{State}
use Rattle.dp_state.specs.declared.vars.Slot.TheVariants.{Bound}
use Rattle.dp_state.specs.Constants.{with_constant}
use Rattle.dp_state.specs.Functions.{called, called_frame, included, included_frame, any_declared}
use Rattle.dp_state.specs.Places.{assigned, unset, then_state, with_global, with_null, with_own, with_value, with_variables, with_vars}
use Rattle.dp_state.specs.States.{entered, frame_limit, owner_at, read_at, variables_at}
use Rattle.dp_state.specs.Variables.{Variables, with_slot, without}

module _ {X : Type 0} (part : State → X) where
  pub record IsApart : Type 0 where
    pub globals : (variables : Variables) (s : State) → part (record s { globals = variables }) ≡ part s
    pub own : (at : ℕ) (variables : Variables) (s : State)
        → part (record s { frames = with_vars at variables s.frames }) ≡ part s
    pub constants : (constants : Variables) (s : State) → part (record s { constants = constants }) ≡ part s

  either : (b : Bool) (s t : State) (x : X) → part s ≡ x → part t ≡ x → part (if b then s else t) ≡ x
  either true s t x h k = h
  either false s t x h k = k

  part-then : (r : Result Data WriteError) (f : Data → State) (x : X) (t : State) → ((d : Data) → part (f d) ≡ x)
      → then_state r f ≡ Ok t → part t ≡ x
  part-then (Ok d) f x t h e = let same : f d ≡ t = cc in ap part (sym same) ∙ h d
  part-then (Err w) f x t h e = absurd (cc)

  module _ (apart : IsApart) where
    part-own : (at : ℕ) (variables : Variables) (s : State) → part (with_own at variables s) ≡ part s
    part-own at variables s = either _ _ _ (part s) (apart.globals variables s) (apart.own at variables s)

    part-value : (level : ℕ) (name : List ℕ) (v : Value) (s : State) → part (with_value level name v s) ≡ part s
    part-value level name v s = either _ _ _ (part s) (apart.globals _ s) (part-own (owner_at s level) _ s)

    pub part-assigned : (level : ℕ) (name : List ℕ) (keys : List (Option Key)) (push : Bool) (v : Value) (s t : State)
        → assigned level name keys push v s ≡ Ok t → part t ≡ part s
    part-assigned level name keys push v s t e =
        part-then (write_result keys push (data_of v) (data_of (unwrap_or (read_at s level name) Null))) _ (part s) t
        (λ d. part-value level name (value_of d) s) e

    part-without : (o : Option Value) (name : List ℕ) (keys : List (Option Key)) (s t : State)
        → option_map_or (λ value. then_state (removed keys (data_of value)) (λ d. with_value 0 name (value_of d) s)) o
        (Ok s) ≡ Ok t
        → part t ≡ part s
    part-without None name keys s t e = let same : s ≡ t = cc in ap part (sym same)
    part-without (Some v) name keys s t e =
        part-then (removed keys (data_of v)) _ (part s) t (λ d. part-value 0 name (value_of d) s) e

    pub part-unset : (name : List ℕ) (keys : List (Option Key)) (s t : State) → unset name keys s ≡ Ok t
        → part t ≡ part s
    part-unset name [] s t e =
        let less : Variables = without (variables_at s 0) name in
        let same : with_variables 0 less s ≡ t = cc in ap part (sym same) ∙ part-own (owner_at s 0) less s
    part-unset name (key ∷ keys) s t e = part-without (read_at s 0 name) name (key ∷ keys) s t e

    pub part-global : (name : List ℕ) (s : State) → part (with_global name s) ≡ part s
    part-global name s =
        let g : State = record s { globals = with_null name s.globals } in
        let more : Variables = with_slot (variables_at s 0) name Bound in
        let same : part g ≡ part s = apart.globals _ s in
        either (owner_at s 0 == 0) g (with_variables 0 more g) (part s) same (part-own (owner_at g 0) more g ∙ same)

    pub part-constant : (name : List ℕ) (v : Value) (s : State) → part (with_constant name v s) ≡ part s
    part-constant name v s = either _ _ _ (part s) refl (apart.constants _ s)

-- ---- new frames

pub either-ok : (b : Bool) (s t : State) (kind : FatalKind) → (if b then Ok s else Err kind) ≡ Ok t → s ≡ t
either-ok true s t kind e = cc
either-ok false s t kind e = absurd (cc)

pub called-entered : (file : ℕ) (f : Function) (values : List Value) (s t : State) → called file f values s ≡ Ok t
    → entered (called_frame file f values) s ≡ Ok t
called-entered file f values s t e = go (nat_le (length f.parameters) (length values)) e
  where
    go : (b : Bool) → (if b then entered (called_frame file f values) s else Err Arguments) ≡ Ok t
        → entered (called_frame file f values) s ≡ Ok t
    go true e = e
    go false e = absurd (cc)

-- with the functions of a file
abbrev pub with_functions : Bundle → ℕ → State → State
with_functions bundle file s = record s { declared = s.declared ++ functions_of bundle file }

pub included-entered : (bundle : Bundle) (file : ℕ) (s t : State) → included bundle file s ≡ Ok t
    → entered (included_frame file) (with_functions bundle file s) ≡ Ok t
included-entered bundle file s t e =
    go (nat_le (length s.frames + 1) frame_limit) (any_declared bundle s.declared (functions_of bundle file)) e
  where
    more : Result State FatalKind
    more = entered (included_frame file) (with_functions bundle file s)

    go : (b c : Bool) → (if b then (if c then Err Redeclared else more) else Err TooDeep) ≡ Ok t → more ≡ Ok t
    go true true e = absurd (cc)
    go true false e = e
    go false c e = absurd (cc)

module _ {X : Type 0} (part : State → X) where
  -- nor on frames and functions
  pub record IsBeside : Type 0 where
    pub frames : (frames : List Frame) (s : State) → part (record s { frames = frames }) ≡ part s
    pub declared : (declared : List FunctionRef) (s : State) → part (record s { declared = declared }) ≡ part s

  module _ (beside : IsBeside) where
    part-entered : (frame : Frame) (s t : State) → entered frame s ≡ Ok t → part t ≡ part s
    part-entered frame s t e = ap part (sym (either-ok _ _ _ _ e)) ∙ beside.frames _ s

    pub part-called : (file : ℕ) (f : Function) (values : List Value) (s t : State) → called file f values s ≡ Ok t
        → part t ≡ part s
    part-called file f values s t e =
        part-entered (called_frame file f values) s t (called-entered file f values s t e)

    pub part-included : (bundle : Bundle) (file : ℕ) (s t : State) → included bundle file s ≡ Ok t → part t ≡ part s
    part-included bundle file s t e =
        part-entered (included_frame file) (with_functions bundle file s) t (included-entered bundle file s t e)
        ∙ beside.declared _ s
