-- The position of a name among variables.
use Rattle.std.proofs.Common.{◌≡◌, ℕ, ◌+◌, List, position, slice_get, drop, Some, None, sym, ◌∙◌}
use Rattle.std.specs.Map.{keys_of, values_of}
use Rattle.std.specs.Str.{bytes_eq}
use Rattle.indexmap.specs.IndexMap.{set_value_at}
use Rattle.indexmap.proofs.MapLemmas.{insert_entry-first, Found-position, Missing-position}
use Rattle.dp_state.specs.declared.vars.Slot.{Slot}
use Rattle.dp_state.specs.Variables.{Variables, slot_of, with_slot}
use Rattle.dp_state.proofs.Fronts.{set-drop, value-behind}

module _ (name : List ℕ) (es : Variables) where
  pub missing : None ≡ position (bytes_eq name) (keys_of es) → None ≡ slot_of es name
  missing e = sym (Missing-position (bytes_eq name) es (sym e)).value

  module _ (i : ℕ) (at : Some i ≡ position (bytes_eq name) (keys_of es)) where
    pub there : slice_get (values_of es) i ≡ slot_of es name
    there = sym (Found-position (bytes_eq name) es i (sym at)).value

-- the row of a name, where so many in front of it are gone
module _ (name : List ℕ) (g i : ℕ) (rows : Variables)
    (at : Some i ≡ position (bytes_eq name) (keys_of (drop g rows))) where
  pub row-slot : slice_get (values_of rows) (g + i) ≡ slot_of (drop g rows) name
  row-slot = value-behind g i rows ∙ there name (drop g rows) i at

  pub row-set : (w : Slot) → drop g (set_value_at rows (g + i) w) ≡ with_slot (drop g rows) name w
  row-set w =
      set-drop g i rows w
      ∙ sym (insert_entry-first bytes_eq name w (drop g rows) i
      (Found-position (bytes_eq name) (drop g rows) i (sym at)).first)
