-- A step on a variable, by the own variables of one frame: they are lent, and changed.
use Rattle.std.proofs.Common.{◌≡◌, ◌≢◌, ◌⊎◌, inl, inr, ℕ, ◌-◌, ◌≤◌, ◌==◌, Bool, true, false, not, if◌then◌else◌, List, [], ◌∷◌, length, Option, Some, None, is_some, unwrap_or, Result, Ok, Err, IfErr, OnOk, OnErr, refl, sym, ap, ◌∙◌, subst}
use Rattle.std.specs.Option.{option_map_or}
use Rattle.dp_state.specs.declared.moments.FatalKind.{FatalKind}
use Rattle.dp_state.specs.declared.state.Fault.{Fault}
use Rattle.dp_state.specs.declared.state.Fault.TheVariants as fault
use Rattle.dp_state.specs.declared.state.State.{State}
use Rattle.dp_state.specs.declared.vars.Slot.{Slot}
use Rattle.dp_state.specs.declared.vars.Slot.TheVariants.{Held, Bound}
use Rattle.dp_state.specs.Places.{assigned, is_bound, then_state, unset, with_global, with_null, with_own, with_value, without_entry}
use Rattle.dp_state.specs.inner.Parts.{assigned_in, home, removed_in, then_variables, IsCauseIn, IsSureIn}
use Rattle.dp_state.specs.States.{own_variables, owner_at, read_at, variables_at, IsCause, IsSure}
use Rattle.dp_state.specs.Variables.{Variables, slot_of, value_held, value_through, with_slot, without}
use Rattle.dp_value.specs.declared.errors.WriteError.{WriteError}
use Rattle.dp_value.specs.declared.key.Key.{Key}
use Rattle.dp_value.specs.declared.value.Value.{Value}
use Rattle.dp_value.specs.declared.value.Value.TheVariants.{Null}
use Rattle.dp_value.specs.Data.{Data}
use Rattle.dp_value.specs.Entry.{removed, write_result}
use Rattle.dp_value.specs.Value.{data_of, value_of}
use Rattle.dp_state.proofs.Homes.{apart-test, own-apart, with_own-same}
use Rattle.dp_state.proofs.Slots.{without-new}

-- a state with what a step on the own variables of a frame gives
abbrev pub with_result : ℕ → State → Result Variables FatalKind → Result State FatalKind
with_result at s (Ok vs) = Ok (with_own at vs s)
with_result at s (Err kind) = Err kind

cause-by : (at : ℕ) (s : State) (part : Result Variables FatalKind) (f : Fault) → IsCauseIn part f
    → IsCause (with_result at s part) f
cause-by at s part fault.Memory h = tt
cause-by at s part (fault.Fatal kind) h = ap (with_result at s) h

refused-by : (at : ℕ) (s : State) (part : Result Variables FatalKind) (kind : FatalKind)
    → with_result at s part ≡ Err kind → part ≡ Err kind
refused-by at s (Ok vs) kind h = absurd (cc)
refused-by at s (Err other) kind h = cc

-- vs are the own variables of a frame, and ws what is left for them
module _ (at : ℕ) (s s₂ : State) (vs ws : Variables) (own : vs ≡ own_variables s at)
    (left : s₂ ≡ with_own at ws s) where
  pub left_same : at ≤ length s.frames - 1 → ws ≡ vs → s₂ ≡ s
  left_same within same = left ∙ ap (λ (x : Variables). with_own at x s) (same ∙ own) ∙ with_own-same at s within

  module _ (asked : Result State FatalKind) (part : Variables → Result Variables FatalKind)
      (is : asked ≡ with_result at s (part (own_variables s at))) where
    asked-by : asked ≡ with_result at s (part vs)
    asked-by = is ∙ ap (λ (x : Variables). with_result at s (part x)) (sym own)

    done-by : part vs ≡ Ok ws → asked ≡ Ok s₂
    done-by h =
        asked-by ∙ ap (with_result at s) h ∙ ap (λ (t : State). let r : Result State FatalKind = Ok t in r) (sym left)

    pub on_ok : {X : Type 0} (r : Result X Fault) → OnOk r (part vs ≡ Ok ws) → OnOk r (asked ≡ Ok s₂)
    on_ok (Ok x) h = done-by h
    on_ok (Err e) h = tt

    pub on_refused : {X : Type 0} (r : Result X Fault) → IfErr r (IsCauseIn (part vs)) → IfErr r (IsCause asked)
    on_refused (Ok x) h = tt
    on_refused (Err e) h =
        subst (λ (a : Result State FatalKind). IsCause a e) (sym asked-by) (cause-by at s (part vs) e h)

    -- what stands once memory ran out
    pub on_either : at ≤ length s.frames - 1 → (ws ≡ vs) ⊎ (part vs ≡ Ok ws) → (s₂ ≡ s) ⊎ (asked ≡ Ok s₂)
    on_either within (inl same) = inl (left_same within same)
    on_either within (inr done) = inr (done-by done)

    pub on_sure : {X : Type 0} (r : Result X Fault) → IsSureIn (part vs) r → IsSure asked r
    on_sure r h kind refused = h kind (refused-by at s (part vs) kind (sym asked-by ∙ refused))

  pub on_err : {X E : Type 0} (r : Result X E) → at ≤ length s.frames - 1 → OnErr r (ws ≡ vs) → OnErr r (s₂ ≡ s)
  on_err (Ok x) within h = tt
  on_err (Err e) within h = left_same within h

-- ---- the frame among whose variables a variable stands
module _ (s : State) (level : ℕ) (name : List ℕ) where
  read-by : (o : Option Slot) → slot_of (variables_at s level) name ≡ o →
      value_through o (value_held (slot_of s.globals name)) ≡ value_held
      (slot_of (own_variables s (if is_bound o then 0 else owner_at s level)) name)
  read-by None h = sym (ap value_held h)
  read-by (Some Bound) h = refl
  read-by (Some (Held v)) h = sym (ap value_held h)

  pub read-home : read_at s level name ≡ value_held (slot_of (own_variables s (home s level name)) name)
  read-home = read-by (slot_of (variables_at s level) name) refl

  value-by : (b : Bool) (v : Value) →
      (if b then record s { globals = with_slot s.globals name (Held v) }
      else with_own (owner_at s level) (with_slot (variables_at s level) name (Held v)) s)
      ≡ with_own (if b then 0
      else owner_at s level) (with_slot (own_variables s (if b then 0 else owner_at s level)) name (Held v)) s
  value-by true v = refl
  value-by false v = refl

  pub value-home : (v : Value)
      → with_value level name v s ≡ with_own (home s level name)
      (with_slot (own_variables s (home s level name)) name (Held v)) s
  value-home v = value-by (is_bound (slot_of (variables_at s level) name)) v

  then-home : (r : Result Data WriteError) → then_state r (λ d. with_value level name (value_of d) s)
      ≡ with_result (home s level name) s (then_variables name (own_variables s (home s level name)) r)
  then-home (Ok d) = ap (λ (t : State). let r : Result State FatalKind = Ok t in r) (value-home (value_of d))
  then-home (Err e) = refl

  pub assigned-home : (keys : List (Option Key)) (push : Bool) (value : Value) → assigned level name keys push value s
      ≡ with_result (home s level name) s (assigned_in name keys push value (own_variables s (home s level name)))
  assigned-home keys push value =
      ap (λ (o : Option Value). then_state (write_result keys push (data_of value) (data_of (unwrap_or o Null)))
      (λ d. with_value level name (value_of d) s)) read-home
      ∙ then-home (write_result keys push (data_of value) (data_of
      (unwrap_or (value_held (slot_of (own_variables s (home s level name)) name)) Null)))

  pub assigned-at : (at : ℕ) → at ≡ home s level name → (keys : List (Option Key)) (push : Bool) (value : Value)
      → assigned level name keys push value s ≡ with_result at s
      (assigned_in name keys push value (own_variables s at))
  assigned-at at is keys push value =
      assigned-home keys push value
      ∙ ap (λ (n : ℕ). with_result n s (assigned_in name keys push value (own_variables s n))) (sym is)

-- ---- unset
removed-by : (s : State) (name : List ℕ) (keys : List (Option Key)) (o : Option Value)
    → home s 0 name ≤ length s.frames - 1 →
    option_map_or (λ value. then_state (removed keys (data_of value)) (λ d. with_value 0 name (value_of d) s)) o (Ok s)
    ≡ with_result (home s 0 name) s (option_map_or (λ value. then_variables name (own_variables s (home s 0 name))
    (removed keys (data_of value))) o (Ok (own_variables s (home s 0 name))))
removed-by s name keys None within =
    ap (λ (t : State). let r : Result State FatalKind = Ok t in r) (sym (with_own-same (home s 0 name) s within))
removed-by s name keys (Some value) within = then-home s 0 name (removed keys (data_of value))

unset-some : (name : List ℕ) (keys : List (Option Key)) (s : State) → (length keys == 0) ≡ false
    → unset name keys s ≡ without_entry name keys s
unset-some name [] s some = cc
unset-some name (key ∷ keys) s some = refl

pub unset-home : (name : List ℕ) (keys : List (Option Key)) (s : State) (at : ℕ) → at ≡ home s 0 name
    → (length keys == 0) ≡ false → at ≤ length s.frames - 1 →
    unset name keys s ≡ with_result at s (removed_in name keys (own_variables s at))
unset-home name keys s at is some within =
    unset-some name keys s some
    ∙ ap (λ (o : Option Value). option_map_or (λ value. then_state (removed keys (data_of value))
    (λ d. with_value 0 name (value_of d) s)) o (Ok s)) (read-home s 0 name)
    ∙ removed-by s name keys (value_held (slot_of (own_variables s (home s 0 name)) name)) (rw is at within)
    ∙ ap (λ (n : ℕ). with_result n s (removed_in name keys (own_variables s n))) (sym is)

-- ---- global
module _ (s : State) (name : List ℕ) (globals : Variables) (made : globals ≡ with_null name s.globals) where
  pub global-bound : (at : ℕ) (vs : Variables) (s₃ : State) → at ≡ owner_at s 0 → at ≢ 0 → at ≤ length s.frames - 1 →
      vs ≡ own_variables (record s { globals = globals }) at
      → s₃ ≡ with_own at (with_slot vs name Bound) (record s { globals = globals }) → s₃ ≡ with_global name s
  global-bound at vs s₃ is apart within taken given =
      let own : vs ≡ variables_at s 0 = taken ∙ own-apart at s globals apart within ∙ ap (own_variables s) is in
      let test : (owner_at s 0 == 0) ≡ false = ap (λ n. n == 0) (sym is) ∙ apart-test at apart in
      given
      ∙ ap (λ (x : Variables). with_own at (with_slot x name Bound) (record s { globals = globals })) own
      ∙ ap (λ (n : ℕ). with_own n (with_slot (variables_at s 0) name Bound) (record s { globals = globals })) is
      ∙ ap (λ (g : Variables). with_own (owner_at s 0) (with_slot (variables_at s 0) name Bound)
      (record s { globals = g })) made
      ∙ ap (λ b. if b then record s { globals = with_null name s.globals }
      else with_own (owner_at s 0) (with_slot (variables_at s 0) name Bound)
      (record s { globals = with_null name s.globals })) (sym test)

  -- the global variable that was made goes again
  undone-by : (o : Option Slot) → slot_of s.globals name ≡ o → not (is_some o) ≡ true → without globals name ≡ s.globals
  undone-by None missing h =
      let new : globals ≡ with_slot s.globals name (Held Null) =
      made ∙ ap (λ o. if is_some o then s.globals else with_slot s.globals name (Held Null)) missing in
      ap (λ (g : Variables). without g name) new ∙ without-new name (Held Null) s.globals missing
  undone-by (Some x) there h = cc

  pub global-undone : not (is_some (slot_of s.globals name)) ≡ true → record s { globals = without globals name } ≡ s
  global-undone h = ap (λ (g : Variables). record s { globals = g }) (undone-by (slot_of s.globals name) refl h)

  kept-by : (o : Option Slot) → slot_of s.globals name ≡ o → not (is_some o) ≡ false → globals ≡ s.globals
  kept-by None missing h = cc
  kept-by (Some x) there h =
      made ∙ ap (λ o. if is_some o then s.globals else with_slot s.globals name (Held Null)) there

  pub global-kept : not (is_some (slot_of s.globals name)) ≡ false → record s { globals = globals } ≡ s
  global-kept h = ap (λ (g : Variables). record s { globals = g }) (kept-by (slot_of s.globals name) refl h)
