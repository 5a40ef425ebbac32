-- Each step leaves a state of the bundle of which the state before it is.
use Rattle.std.proofs.Common.{◌≡◌, ℕ, zero, suc, ◌+◌, ◌-◌, ◌<◌, ◌≤◌, ◌==◌, nat_le, Bool, true, false, if◌then◌else◌, List, [], ◌∷◌, ◌++◌, length, take, All, Option, Some, None, is_some, unwrap_or, Result, Ok, Err, refl, sym, ap, subst, arith}
use Rattle.std.specs.List.{AllByRecursion}
use Rattle.std.specs.Option.{option_map_or}
use Rattle.std.specs.Str.{bytes_eq}
use Rattle.std.proofs.lemmas.List.Elements.{All-from_recursion, recursion_from_All, All-append, All-push, All-nil}
use Rattle.dp_tree.specs.declared.bundle.Bundle.{Bundle}
use Rattle.dp_tree.specs.declared.bundle.FunctionRef.{FunctionRef}
use Rattle.dp_tree.specs.Files.{first_functions, function_count, functions_of}
use Rattle.dp_tree.specs.declared.tree.Function.{Function}
use Rattle.dp_value.specs.declared.errors.WriteError.{WriteError}
use Rattle.dp_value.specs.declared.key.Key.{Key}
use Rattle.dp_value.specs.declared.value.Value.{Value}
use Rattle.dp_value.specs.declared.value.Value.TheVariants.{Null}
use Rattle.dp_value.specs.Data.{Data}
use Rattle.dp_value.proofs.PairLemmas.{by_test}
use Rattle.dp_value.specs.Entry.{removed, write_result}
use Rattle.dp_value.specs.Value.{data_of, value_of}
use Rattle.dp_state.specs.declared.moments.FatalKind.TheVariants.{Arguments, OutputFull, Redeclared, TooDeep}
use Rattle.dp_state.specs.declared.state.Frame.{Frame}
use Rattle.dp_state.specs.declared.state.FrameKind.TheVariants as frame_kind
use Rattle.dp_state.specs.declared.state.State.{State}
use Rattle.dp_state.specs.declared.vars.Slot.{Slot}
use Rattle.dp_state.specs.declared.vars.Slot.TheVariants.{Held, Bound}
use Rattle.dp_state.specs.Constants.{constant, with_constant}
use Rattle.dp_state.specs.Functions.{any_declared, called, called_frame, included, included_frame}
use Rattle.dp_state.specs.Places.{assigned, then_state, unset, with_global, with_null, with_own, with_value, with_vars, without_variable}
use Rattle.dp_state.specs.inner.Parts.{home}
use Rattle.dp_state.specs.States.{counted, entered, first_frame, frame_limit, left, on_line, opening, output_limit, own_variables, owner_at, printed, read_at, variables_at, with_line, HasValue, IsOf}
use Rattle.dp_state.specs.Variables.{Variables, slot_of, with_slot, without}
use Rattle.dp_state.proofs.Homes.{above, is_above}
use Rattle.dp_state.proofs.VariableSteps.{value-home}

-- the lowest frame is the main one and does not share
abbrev IsBase : List Frame → Type 0
IsBase [] = ⊥
IsBase (f ∷ fs) = (f.kind ≡ frame_kind.Main) × (f.shares ≡ false)

-- a variable that is no mark
abbrev IsGlobal : List ℕ × Slot → Type 0
IsGlobal variable = HasValue variable.1

-- ---- variables
abbrev Globals : Variables → Type 0
Globals vs = AllByRecursion IsGlobal vs

held-with_slot : (name : List ℕ) (v : Value) (vs : Variables) → Globals vs → Globals (with_slot vs name (Held v))
held-with_slot name v =
    by_test (λ (e : List ℕ × Slot). bytes_eq name e.0) _ (λ all. (tt, tt)) (λ e es h rest all. rw h (tt, all.1))
    (λ e es h rest all. rw h (all.0, rest all.1))

held-without : (name : List ℕ) (vs : Variables) → Globals vs → Globals (without vs name)
held-without name =
    by_test (λ (e : List ℕ × Slot). bytes_eq name e.0) _ (λ all. tt) (λ e es h rest all. rw h all.1)
    (λ e es h rest all. rw h (all.0, rest all.1))

held-with_null : (vs : Variables) (name : List ℕ) → Globals vs → Globals (with_null name vs)
held-with_null vs name all = by (is_some (slot_of vs name))
  where
    by : (b : Bool) → Globals (if b then vs else with_slot vs name (Held Null))
    by true = all
    by false = held-with_slot name Null vs all

-- ---- frames
base-with_line : (n : ℕ) (fs : List Frame) → IsBase fs → IsBase (with_line n fs)
base-with_line n [] base = base
base-with_line n (f ∷ []) base = base
base-with_line n (f ∷ g ∷ fs) base = base

base-with_vars : (at : ℕ) (vs : Variables) (fs : List Frame) → IsBase fs → IsBase (with_vars at vs fs)
base-with_vars at vs [] base = base
base-with_vars zero vs (f ∷ fs) base = base
base-with_vars (suc at) vs (f ∷ fs) base = base

base-push : (fs : List Frame) (g : Frame) → IsBase fs → IsBase (fs ++ g ∷ [])
base-push [] g base = absurd base
base-push (f ∷ fs) g base = base

base-take : (n : ℕ) (fs : List Frame) → 0 < n → IsBase fs → IsBase (take n fs)
base-take zero fs some base = absurd (omega arith)
base-take (suc n) [] some base = base
base-take (suc n) (f ∷ fs) some base = base

module _ (P : Frame → Type 0) where
  all-take : (n : ℕ) (fs : List Frame) → AllByRecursion P fs → AllByRecursion P (take n fs)
  all-take zero fs all = tt
  all-take (suc n) [] all = tt
  all-take (suc n) (f ∷ fs) all = (all.0, all-take n fs all.1)

  module _ (same : (f g : Frame) → f.file ≡ g.file → P f → P g) where
    all-with_line : (n : ℕ) (fs : List Frame) → AllByRecursion P fs → AllByRecursion P (with_line n fs)
    all-with_line n [] all = tt
    all-with_line n (f ∷ []) all = (same f (record f { line = n }) refl all.0, tt)
    all-with_line n (f ∷ g ∷ fs) all = (all.0, all-with_line n (g ∷ fs) all.1)

    all-with_vars : (at : ℕ) (vs : Variables) (fs : List Frame) → AllByRecursion P fs
        → AllByRecursion P (with_vars at vs fs)
    all-with_vars at vs [] all = tt
    all-with_vars zero vs (f ∷ fs) all = (same f (record f { vars = vs }) refl all.0, all.1)
    all-with_vars (suc at) vs (f ∷ fs) all = (all.0, all-with_vars at vs fs all.1)

-- ---- states of a bundle
module _ (bundle : Bundle) where
  abbrev HasFile : Frame → Type 0
  HasFile frame = frame.file < length bundle.files

  abbrev IsThere : FunctionRef → Type 0
  IsThere f = f.function < function_count bundle f.file

  base : (s : State) → IsOf bundle s → IsBase s.frames
  base s is = subst IsBase (sym is.frames) (is.lowest, is.apart)

  -- with other frames
  of-frames : (s : State) (fs : List Frame) → IsBase fs → AllByRecursion HasFile fs → IsOf bundle s
      → IsOf bundle (record s { frames = fs })
  of-frames s [] lowest files is = absurd lowest
  of-frames s (f ∷ fs) lowest files is = record {
    main = f;
    above = fs;
    frames = refl;
    lowest = lowest.0;
    apart = lowest.1;
    globals = is.globals;
    constants = is.constants;
    files = All-from_recursion HasFile (f ∷ fs) files;
    declared = is.declared;
  }

  -- with all else of another one
  of-others : (s : State) (globals constants : Variables) (declared : List FunctionRef) (output : List ℕ) (moments : ℕ)
      → All IsGlobal globals → All IsGlobal constants → All IsThere declared → IsOf bundle s → IsOf bundle
      (record s { globals = globals; constants = constants; declared = declared; output = output; moments = moments })
  of-others s globals constants declared output moments held fixed there is = record {
    main = is.main;
    above = is.above;
    frames = is.frames;
    lowest = is.lowest;
    apart = is.apart;
    globals = held;
    constants = fixed;
    files = is.files;
    declared = there;
  }

  moved : (f g : Frame) → f.file ≡ g.file → HasFile f → HasFile g
  moved f g same h = subst (λ n. n < length bundle.files) same h

  pub of-on_line : (n : ℕ) (s : State) → IsOf bundle s → IsOf bundle (on_line n s)
  of-on_line n s is =
      of-frames s (with_line n s.frames) (base-with_line n s.frames (base s is))
      (all-with_line HasFile moved n s.frames (recursion_from_All HasFile s.frames is.files)) is

  pub of-counted : (s : State) → IsOf bundle s → IsOf bundle (counted s)
  of-counted s is =
      of-others s s.globals s.constants s.declared s.output (s.moments + 1) is.globals is.constants is.declared is

  printed-by : (piece : List ℕ) (s t : State) (b : Bool)
      → (if b then Ok (record s { output = s.output ++ piece }) else Err OutputFull) ≡ Ok t →
      t ≡ record s { output = s.output ++ piece }
  printed-by piece s t true g = cc
  printed-by piece s t false g = cc

  pub of-printed : (piece : List ℕ) (s t : State) → printed piece s ≡ Ok t → IsOf bundle s → IsOf bundle t
  of-printed piece s t h is =
      subst (IsOf bundle) (sym (printed-by piece s t (nat_le (length s.output + length piece) output_limit) h))
      (of-others s s.globals s.constants s.declared (s.output ++ piece) s.moments is.globals is.constants is.declared
      is)

  entered-by : (frame : Frame) (s t : State) (b : Bool)
      → (if b then Ok (record s { frames = s.frames ++ frame ∷ [] }) else Err TooDeep) ≡ Ok t →
      t ≡ record s { frames = s.frames ++ frame ∷ [] }
  entered-by frame s t true g = cc
  entered-by frame s t false g = cc

  pub of-entered : (frame : Frame) (s t : State) → entered frame s ≡ Ok t → HasFile frame → IsOf bundle s
      → IsOf bundle t
  of-entered frame s t h there is =
      subst (IsOf bundle) (sym (entered-by frame s t (nat_le (length s.frames + 1) frame_limit) h))
      (of-frames s (s.frames ++ frame ∷ []) (base-push s.frames frame (base s is))
      (recursion_from_All HasFile (s.frames ++ frame ∷ []) (All-push HasFile s.frames frame is.files there)) is)

  -- where a frame stands above the main one
  pub of-left : (s : State) → 1 < length s.frames → IsOf bundle s → IsOf bundle (left s)
  of-left s some is =
      of-frames s (take (length s.frames - 1) s.frames)
      (base-take (length s.frames - 1) s.frames (omega arith) (base s is))
      (all-take HasFile (length s.frames - 1) s.frames (recursion_from_All HasFile s.frames is.files)) is

  of-with_own : (at : ℕ) (vs : Variables) (s : State) → (at ≡ 0 → Globals vs) → IsOf bundle s
      → IsOf bundle (with_own at vs s)
  of-with_own zero vs s held is =
      of-others s vs s.constants s.declared s.output s.moments (All-from_recursion IsGlobal vs (held refl)) is.constants
      is.declared is
  of-with_own (suc at) vs s held is =
      subst (IsOf bundle) (sym (above at vs s))
      (of-frames s (with_vars (suc at) vs s.frames) (base-with_vars (suc at) vs s.frames (base s is))
      (all-with_vars HasFile moved (suc at) vs s.frames (recursion_from_All HasFile s.frames is.files)) is)

  own-held : (s : State) (at : ℕ) → IsOf bundle s → at ≡ 0 → Globals (own_variables s at)
  own-held s at is lowest = subst (λ n. Globals (own_variables s n)) (sym lowest)
      (recursion_from_All IsGlobal s.globals is.globals)

  pub of-with_value : (level : ℕ) (name : List ℕ) (v : Value) (s : State) → IsOf bundle s
      → IsOf bundle (with_value level name v s)
  of-with_value level name v s is =
      subst (IsOf bundle) (sym (value-home s level name v))
      (of-with_own (home s level name) (with_slot (own_variables s (home s level name)) name (Held v)) s
      (λ lowest. held-with_slot name v (own_variables s (home s level name)) (own-held s (home s level name) is lowest))
      is)

  then-kept : (r : Result Data WriteError) (f : Data → State) (t : State) → then_state r f ≡ Ok t
      → ((d : Data) → IsOf bundle (f d)) → IsOf bundle t
  then-kept (Ok d) f t h kept = let same : f d ≡ t = cc in subst (IsOf bundle) same (kept d)
  then-kept (Err e) f t h kept = cc

  pub of-assigned : (level : ℕ) (name : List ℕ) (keys : List (Option Key)) (push : Bool) (value : Value) (s t : State)
      → assigned level name keys push value s ≡ Ok t →
      IsOf bundle s → IsOf bundle t
  of-assigned level name keys push value s t h is =
      then-kept (write_result keys push (data_of value) (data_of (unwrap_or (read_at s level name) Null)))
      (λ d. with_value level name (value_of d) s) t h
      (λ d. of-with_value level name (value_of d) s is)

  of-without_variable : (name : List ℕ) (s : State) → IsOf bundle s → IsOf bundle (without_variable name s)
  of-without_variable name s is =
      of-with_own (owner_at s 0) (without (own_variables s (owner_at s 0)) name) s
      (λ lowest. held-without name (own_variables s (owner_at s 0)) (own-held s (owner_at s 0) is lowest)) is

  entry-kept : (name : List ℕ) (keys : List (Option Key)) (s t : State) (o : Option Value) →
      option_map_or (λ value. then_state (removed keys (data_of value)) (λ d. with_value 0 name (value_of d) s)) o
      (Ok s) ≡ Ok t → IsOf bundle s → IsOf bundle t
  entry-kept name keys s t None h is = let same : s ≡ t = cc in subst (IsOf bundle) same is
  entry-kept name keys s t (Some value) h is =
      then-kept (removed keys (data_of value)) (λ d. with_value 0 name (value_of d) s) t h
      (λ d. of-with_value 0 name (value_of d) s is)

  pub of-unset : (name : List ℕ) (keys : List (Option Key)) (s t : State) → unset name keys s ≡ Ok t → IsOf bundle s
      → IsOf bundle t
  of-unset name [] s t h is =
      let same : without_variable name s ≡ t = cc in subst (IsOf bundle) same (of-without_variable name s is)
  of-unset name (key ∷ keys) s t h is = entry-kept name (key ∷ keys) s t (read_at s 0 name) h is

  of-made : (name : List ℕ) (s : State) → IsOf bundle s → IsOf bundle (record s { globals = with_null name s.globals })
  of-made name s is =
      of-with_own 0 (with_null name s.globals) s
      (λ _. held-with_null s.globals name (recursion_from_All IsGlobal s.globals is.globals)) is

  global-by : (name : List ℕ) (s : State) (at : ℕ) → IsOf bundle s →
      IsOf bundle (if at == 0 then record s { globals = with_null name s.globals }
      else with_own at (with_slot (variables_at s 0) name Bound) (record s { globals = with_null name s.globals }))
  global-by name s zero is = of-made name s is
  global-by name s (suc n) is =
      let u : State = record s { globals = with_null name s.globals } in
      subst (IsOf bundle) (ap (λ b. if b then u else with_own (suc n) (with_slot (variables_at s 0) name Bound) u)
      (sym (is_above n)))
      (of-with_own (suc n) (with_slot (variables_at s 0) name Bound) u (λ lowest. absurd (omega arith))
      (of-made name s is))

  pub of-with_global : (name : List ℕ) (s : State) → IsOf bundle s → IsOf bundle (with_global name s)
  of-with_global name s is = global-by name s (owner_at s 0) is

  -- a constant has a value of its own
  pub of-with_constant : (name : List ℕ) (v : Value) (s : State) → IsOf bundle s → IsOf bundle (with_constant name v s)
  of-with_constant name v s is = by (is_some (constant name s))
    where
      by : (b : Bool) → IsOf bundle (if b then s else record s { constants = with_slot s.constants name (Held v) })
      by true = is
      by false =
          let constants = with_slot s.constants name (Held v) in
          of-others s s.globals constants s.declared s.output s.moments is.globals
          (All-from_recursion IsGlobal constants
          (held-with_slot name v s.constants (recursion_from_All IsGlobal s.constants is.constants))) is.declared is

  called-by : (file : ℕ) (function : Function) (values : List Value) (s t : State) (b : Bool) →
      (if b then entered (called_frame file function values) s else Err Arguments) ≡ Ok t
      → entered (called_frame file function values) s ≡ Ok t
  called-by file function values s t true h = h
  called-by file function values s t false h = cc

  pub of-called : (file : ℕ) (function : Function) (values : List Value) (s t : State)
      → called file function values s ≡ Ok t → file < length bundle.files →
      IsOf bundle s → IsOf bundle t
  of-called file function values s t h there is =
      of-entered (called_frame file function values) s t (called-by file function values s t
      (nat_le (length function.parameters) (length values)) h) there is

  -- the functions of a file are there
  first-there : (file n : ℕ) → n ≤ function_count bundle file → All IsThere (first_functions file n)
  first-there file zero few = All-nil IsThere
  first-there file (suc n) few =
      let f : FunctionRef = record { file = file; function = n } in
      All-push IsThere (first_functions file n) f (first-there file n (omega arith)) (omega arith)

  of-declared : (file : ℕ) (s : State) → IsOf bundle s
      → IsOf bundle (record s { declared = s.declared ++ functions_of bundle file })
  of-declared file s is =
      of-others s s.globals s.constants (s.declared ++ functions_of bundle file) s.output s.moments is.globals
      is.constants
      (All-append IsThere s.declared (functions_of bundle file) is.declared
      (first-there file (function_count bundle file) (omega arith))) is

  included-by : (file : ℕ) (s t : State) (b d : Bool) →
      (if b then (if d then Err Redeclared
      else entered (included_frame file) (record s { declared = s.declared ++ functions_of bundle file }))
      else Err TooDeep) ≡ Ok t →
      entered (included_frame file) (record s { declared = s.declared ++ functions_of bundle file }) ≡ Ok t
  included-by file s t true true g = cc
  included-by file s t true false g = g
  included-by file s t false d g = cc

  pub of-included : (file : ℕ) (s t : State) → included bundle file s ≡ Ok t → file < length bundle.files
      → IsOf bundle s → IsOf bundle t
  of-included file s t h there is =
      of-entered (included_frame file) (record s { declared = s.declared ++ functions_of bundle file }) t
      (included-by file s t (nat_le (length s.frames + 1) frame_limit)
      (any_declared bundle s.declared (functions_of bundle file)) h) there (of-declared file s is)

  pub of-opening : 0 < length bundle.files → IsOf bundle (opening bundle)
  of-opening some = record {
    main = first_frame;
    above = [];
    frames = refl;
    lowest = refl;
    apart = refl;
    globals = All-nil IsGlobal;
    constants = All-nil IsGlobal;
    files = All-from_recursion HasFile (first_frame ∷ []) (some, tt);
    declared = first-there 0 (function_count bundle 0) (omega arith);
  }
