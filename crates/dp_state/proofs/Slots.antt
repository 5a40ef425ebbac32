-- What is under a name once it got a slot.
use Rattle.std.proofs.Common.{◌≡◌, Bool, true, false, if◌then◌else◌, List, [], ◌∷◌, ℕ, ℤ, Option, Some, None, is_some, unwrap_or, Result, Ok, refl, sym, ap, ◌∙◌}
use Rattle.std.specs.Option.{option_map_or}
use Rattle.std.specs.Str.{bytes_eq}
use Rattle.std.proofs.lemmas.Option.{same_Some}
use Rattle.dp_state.specs.declared.moments.FatalKind.{FatalKind}
use Rattle.dp_state.specs.declared.vars.Slot.{Slot}
use Rattle.dp_state.specs.declared.vars.Slot.TheVariants.{Held, Bound}
use Rattle.dp_state.specs.inner.Parts.{data_in, then_variables, with_replaced, with_sum}
use Rattle.dp_state.specs.Variables.{Variables, slot_of, value_held, with_slot, without}
use Rattle.dp_value.specs.declared.errors.WriteError.{WriteError}
use Rattle.dp_value.specs.declared.key.Key.TheVariants.{Text}
use Rattle.dp_value.specs.declared.value.Value.{Value}
use Rattle.dp_value.specs.declared.value.Value.TheVariants.{Int, Null}
use Rattle.dp_value.specs.Data.{Data, null}
use Rattle.dp_value.specs.Value.{data_of}
use Rattle.dp_value.proofs.KeyLemmas.{key_eq_equivalence}
use Rattle.dp_state.proofs.ValueLemmas.{value_of-data_of}

module _ (name : List ℕ) where
  itself : bytes_eq name name ≡ true
  itself = key_eq_equivalence.refl (Text name)

  module _ (w : Slot) where
    -- the slot that is there changes nothing
    with_slot-same-more : (e : List ℕ × Slot) (es : Variables) (b : Bool) → bytes_eq name e.0 ≡ b
        → (slot_of es name ≡ Some w → with_slot es name w ≡ es) →
        slot_of (e ∷ es) name ≡ Some w → with_slot (e ∷ es) name w ≡ e ∷ es
    with_slot-same-more e es true h rest found =
        rw h (ap (λ (s : Slot). let x : List ℕ × Slot = (e.0, s) in x ∷ es) (sym (same_Some e.1 w (rw h at found))))
    with_slot-same-more e es false h rest found = rw h (ap (λ fs. e ∷ fs) (rest (rw h at found)))

    pub with_slot-same : (es : Variables) → slot_of es name ≡ Some w → with_slot es name w ≡ es
    with_slot-same [] found = cc
    with_slot-same (e ∷ es) found = with_slot-same-more e es (bytes_eq name e.0) refl (with_slot-same es) found

    -- a new name goes as it came
    without-new-more : (e : List ℕ × Slot) (es : Variables) (b : Bool) → bytes_eq name e.0 ≡ b
        → (slot_of es name ≡ None → without (with_slot es name w) name ≡ es) →
        slot_of (e ∷ es) name ≡ None → without (with_slot (e ∷ es) name w) name ≡ e ∷ es
    without-new-more e es true h rest missing = let there : Some e.1 ≡ None = rw h at missing in cc
    without-new-more e es false h rest missing = rw (h, h) (ap (λ fs. e ∷ fs) (rest (rw h at missing)))

    pub without-new : (es : Variables) → slot_of es name ≡ None → without (with_slot es name w) name ≡ es
    without-new [] missing = rw itself refl
    without-new (e ∷ es) missing = without-new-more e es (bytes_eq name e.0) refl (without-new es) missing

  -- ---- a value in the place of another
  -- the slot that a name has becomes another one
  module _ (es : Variables) (s w : Slot) (there : Some s ≡ slot_of es name) where
    pub same-slot : w ≡ s → with_slot es name w ≡ es
    same-slot same = ap (with_slot es name) same ∙ with_slot-same s es (sym there)

    pub summed : (sum : Option ℤ) → w ≡ option_map_or (λ i. Held (Int i)) sum s
        → with_slot es name w ≡ with_sum name sum es
    summed None new = same-slot new
    summed (Some i) new = ap (with_slot es name) new

  -- the value that a name holds
  module _ (es : Variables) (v : Value) (there : Some v ≡ value_held (slot_of es name)) where
    held-by : (o : Option Slot) → Some v ≡ value_held o → o ≡ Some (Held v)
    held-by None h = cc
    held-by (Some Bound) h = cc
    held-by (Some (Held x)) h = ap (λ (y : Value). let s : Slot = Held y in Some s) (sym (same_Some v x h))

    held : slot_of es name ≡ Some (Held v)
    held = held-by (slot_of es name) there

    pub data_there : data_in es name ≡ data_of v
    data_there = ap (λ (o : Option Value). data_of (unwrap_or o Null)) (sym there)

    pub held_replaced : (w : Value) → with_slot es name (Held w) ≡ with_replaced name w es
    held_replaced w = ap (λ (o : Option Value). if is_some o then with_slot es name (Held w) else es) there

    -- the same value is left
    pub held_same : (w : Value) → w ≡ v → with_slot es name (Held w) ≡ es
    held_same w same = ap (λ (x : Value). with_slot es name (Held x)) same ∙ with_slot-same (Held v) es held

  -- what a write or a removal gives is left
  pub then_held : (es : Variables) (w : Value) (asked : Result Data WriteError) → asked ≡ Ok (data_of w)
      → then_variables name es asked ≡ Ok (with_slot es name (Held w))
  then_held es w asked is =
      ap (then_variables name es) is
      ∙ ap (λ (x : Value). let r : Result Variables FatalKind = Ok (with_slot es name (Held x)) in r)
      (value_of-data_of w)

  -- a name that holds no value gets one
  module _ (es : Variables) (none : value_held (slot_of es name) ≡ None) where
    pub data_missing : data_in es name ≡ null
    data_missing = ap (λ (o : Option Value). data_of (unwrap_or o Null)) none

    pub then_new : (w : Value) (m : Variables) (asked : Data → Result Data WriteError) → m ≡ with_slot es name (Held w)
        → asked null ≡ Ok (data_of w) → then_variables name es (asked (data_in es name)) ≡ Ok m
    then_new w m asked set is =
        ap (λ (d : Data). then_variables name es (asked d)) data_missing
        ∙ then_held es w (asked null) is
        ∙ ap (λ (x : Variables). let r : Result Variables FatalKind = Ok x in r) (sym set)
