-- The own variables of a frame, changed where they stand.
use Rattle.std.proofs.Common.{◌≡◌, ◌≢◌, ℕ, zero, suc, ◌-◌, ◌<◌, ◌≤◌, ◌==◌, ℤ, Bool, true, false, if◌then◌else◌, List, [], ◌∷◌, length, slice_get, slice_set, get_or, Option, Some, None, is_some, refl, sym, ap, ◌∙◌, arith}
use Rattle.std.proofs.lemmas.Bool.Decides.{nat_tests}
use Rattle.std.specs.Option.{option_map_or}
use Rattle.dp_state.specs.declared.state.Frame.{Frame}
use Rattle.dp_state.specs.declared.state.State.{State}
use Rattle.dp_state.specs.declared.vars.Slot.TheVariants.{Held}
use Rattle.dp_state.specs.inner.Parts.{vars_in, with_replaced, with_sum}
use Rattle.dp_state.specs.Places.{with_own, with_variables, with_vars}
use Rattle.dp_state.specs.States.{own_variables, owner_at, variables_at}
use Rattle.dp_state.specs.Variables.{Variables, slot_of, value_held, with_slot}
use Rattle.dp_value.specs.declared.value.Value.{Value}
use Rattle.dp_value.specs.declared.value.Value.TheVariants.{Int}

-- ---- frames
pub length-with_vars : (at : ℕ) (vs : Variables) (fs : List Frame) → length (with_vars at vs fs) ≡ length fs
length-with_vars at vs [] = refl
length-with_vars zero vs (f ∷ fs) = refl
length-with_vars (suc at) vs (f ∷ fs) = ap suc (length-with_vars at vs fs)

with_vars-same : (at : ℕ) (fs : List Frame) (f : Frame) → slice_get fs at ≡ Some f → with_vars at f.vars fs ≡ fs
with_vars-same at [] f found = refl
with_vars-same zero (g ∷ fs) f found =
    let same : g ≡ f = cc in ap (λ (h : Frame). (record g { vars = h.vars }) ∷ fs) (sym same)
with_vars-same (suc at) (g ∷ fs) f found = ap (λ gs. g ∷ gs) (with_vars-same at fs f found)

-- the frame at this position gets other variables
pub set-vars : (at : ℕ) (fs : List Frame) (f : Frame) (vs : Variables) → f ≡ get_or fs at f → at < length fs
    → slice_set fs at (record f { vars = vs }) ≡ with_vars at vs fs
set-vars at [] f vs is within = absurd (omega arith)
set-vars zero (g ∷ fs) f vs is within = ap (λ (h : Frame). (record h { vars = vs }) ∷ fs) is
set-vars (suc at) (g ∷ fs) f vs is within = ap (λ gs. g ∷ gs) (set-vars at fs f vs is (omega arith))

-- ---- states
pub is_above : (at : ℕ) → (suc at == 0) ≡ false
is_above at = grind (arith, nat_tests)

pub apart-test : (at : ℕ) → at ≢ 0 → (at == 0) ≡ false
apart-test zero apart = absurd (apart refl)
apart-test (suc at) apart = is_above at

pub above : (at : ℕ) (vs : Variables) (s : State)
    → with_own (suc at) vs s ≡ record s { frames = with_vars (suc at) vs s.frames }
above at vs s =
    ap (λ b. if b then record s { globals = vs } else record s { frames = with_vars (suc at) vs s.frames })
    (is_above at)

own-above : (at : ℕ) (s : State)
    → own_variables s (suc at) ≡ option_map_or (λ f. f.vars) (slice_get s.frames (suc at)) s.globals
own-above at s =
    ap (λ b. if b then s.globals else option_map_or (λ f. f.vars) (slice_get s.frames (suc at)) s.globals) (is_above at)

frame_at : (fs : List Frame) (at : ℕ) → at < length fs → (f : Frame) × (slice_get fs at ≡ Some f)
frame_at [] at within = absurd (omega arith)
frame_at (f ∷ fs) zero within = (f, refl)
frame_at (f ∷ fs) (suc at) within = frame_at fs at (omega arith)

own-frame : (at : ℕ) (s : State) (f : Frame) → slice_get s.frames (suc at) ≡ Some f → own_variables s (suc at) ≡ f.vars
own-frame at s f found = own-above at s ∙ ap (λ (o : Option Frame). option_map_or (λ g. g.vars) o s.globals) found

same-by : (at : ℕ) (s : State) (f : Frame) → slice_get s.frames (suc at) ≡ Some f
    → with_own (suc at) (own_variables s (suc at)) s ≡ s
same-by at s f found =
    ap (λ (vs : Variables). with_own (suc at) vs s) (own-frame at s f found)
    ∙ above at f.vars s
    ∙ ap (λ (fs : List Frame). record s { frames = fs }) (with_vars-same (suc at) s.frames f found)

-- what was taken out and put back changes nothing
pub with_own-same : (at : ℕ) (s : State) → at ≤ length s.frames - 1 → with_own at (own_variables s at) s ≡ s
with_own-same zero s within = refl
with_own-same (suc at) s within = let found = frame_at s.frames (suc at) (omega arith) in same-by at s found.0 found.1

-- the own variables of a frame above the lowest are those that stand in it
own-vars : (at : ℕ) (s : State) → at ≢ 0 → at ≤ length s.frames - 1 → own_variables s at ≡ vars_in s.frames at
own-vars zero s apart within = absurd (apart refl)
own-vars (suc at) s apart within =
    let found = frame_at s.frames (suc at) (omega arith) in
    own-frame at s found.0 found.1
    ∙ sym (ap (λ (o : Option Frame). let none : Variables = [] in option_map_or (λ f. f.vars) o none) found.1)

-- they do not depend on the global ones
pub own-apart : (at : ℕ) (s : State) (globals : Variables) → at ≢ 0 → at ≤ length s.frames - 1
    → own_variables (record s { globals = globals }) at ≡ own_variables s at
own-apart at s globals apart within =
    own-vars at (record s { globals = globals }) apart within ∙ sym (own-vars at s apart within)

-- ---- the variables that the top frame uses, changed where they stand
module _ (at : ℕ) (s : State) (vs : Variables) (is : at ≡ owner_at s 0) (own : vs ≡ own_variables s at) where
  pub top-vars : vs ≡ variables_at s 0
  top-vars = own ∙ ap (own_variables s) is

  pub top-changed : (s₂ : State) (ws : Variables) (change : Variables → Variables) → s₂ ≡ with_own at ws s
      → ws ≡ change vs → s₂ ≡ with_variables 0 (change (variables_at s 0)) s
  top-changed s₂ ws change left made =
      left
      ∙ ap (λ (x : Variables). with_own at x s) (made ∙ ap change top-vars)
      ∙ ap (λ (n : ℕ). with_own n (change (variables_at s 0)) s) is

module _ (at : ℕ) (s : State) (is : at ≡ owner_at s 0) (within : at ≤ length s.frames - 1) where
  unchanged : with_variables 0 (variables_at s 0) s ≡ s
  unchanged = with_own-same (owner_at s 0) s (omega arith)

  if-by : (b : Bool) (vs : Variables) → with_variables 0 (if b then vs else variables_at s 0) s
      ≡ (if b then with_variables 0 vs s else s)
  if-by true vs = refl
  if-by false vs = unchanged

  pub top-replaced : (name : List ℕ) (v : Value) → with_variables 0 (with_replaced name v (variables_at s 0)) s
      ≡ (if is_some (value_held (slot_of (variables_at s 0) name))
      then with_variables 0 (with_slot (variables_at s 0) name (Held v)) s else s)
  top-replaced name v =
      if-by (is_some (value_held (slot_of (variables_at s 0) name))) (with_slot (variables_at s 0) name (Held v))

  pub top-summed : (name : List ℕ) (sum : Option ℤ) → with_variables 0 (with_sum name sum (variables_at s 0)) s
      ≡ option_map_or (λ n. with_variables 0 (with_slot (variables_at s 0) name (Held (Int n))) s) sum s
  top-summed name None = unchanged
  top-summed name (Some n) = refl
