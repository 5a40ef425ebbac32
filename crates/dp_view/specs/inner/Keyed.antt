-- That keys are distinct in what is shown.
use Rattle.std.specs.Prelude.{◌≡◌, ℕ, zero, suc, ◌+◌, ◌*◌, ◌<◌, ◌≤◌, List, [], slice_get, Some}
use Rattle.std.specs.List.{IsDistinct}
use Rattle.dp_value.specs.declared.key.Key.{Key}
use Rattle.dp_value.specs.Data.{Data, array, pairs_of}
use Rattle.dp_value.specs.Key.{key_eq}
use Rattle.dp_value.specs.Table.{keys_of}
use Rattle.dp_value.specs.Value.{data_of}
use Rattle.dp_value.specs.declared.value.Value.{Value}
use Rattle.dp_state.specs.declared.vars.Slot.{Slot}
use Rattle.dp_state.specs.Variables.{Variables}
use Rattle.dp_view.specs.declared.paging.Paging.{Paging}
use Rattle.dp_view.specs.Properties.{variable_value}

-- the pairs of an array; another value has none
abbrev pub pairs_in : Data → List (Key × Data)
pairs_in (array es largest) = pairs_of es
pairs_in d = []

-- it holds of the values from one position up to another
abbrev pub HoldsWithin : (Data → Type 0) → List (Key × Data) → ℕ → ℕ → Type 0
HoldsWithin P pairs start end =
    (k : ℕ) (e : Key × Data) → start ≤ k → k < end → slice_get pairs k ≡ Some e → P e.1

-- it holds of the values on a page
abbrev pub HoldsOn : (Data → Type 0) → List (Key × Data) → ℕ → ℕ → Type 0
HoldsOn P pairs page size = HoldsWithin P pairs (page * size) (page * size + size)

-- the keys of an array are distinct, and so many levels down those of the arrays on its page
abbrev pub IsKeyed : ℕ → ℕ → ℕ → Data → Type 0
IsKeyed size page zero d = Unit {0}
IsKeyed size page (suc levels) d =
    IsDistinct key_eq (keys_of (pairs_in d))
    × HoldsOn (IsKeyed size 0 levels) (pairs_in d) page size

-- so are those on a page of these pairs
abbrev pub AreKeyed : ℕ → ℕ → ℕ → List (Key × Data) → Type 0
AreKeyed size page zero pairs = Unit {0}
AreKeyed size page (suc levels) pairs = HoldsOn (IsKeyed size 0 levels) pairs page size

-- so is the value of the variable at a position, if it has one
abbrev pub VariableIsKeyed : Paging → Variables → Variables → ℕ → Type 0
VariableIsKeyed p globals variables at = (v : List ℕ × Slot) (value : Value)
    → slice_get variables at ≡ Some v → variable_value globals v ≡ Some value
    → IsKeyed p.children p.page p.depth (data_of value)

-- so are those of all before a position
abbrev pub VariablesAreKeyed : Paging → Variables → Variables → ℕ → Type 0
VariablesAreKeyed p globals variables end =
    (k : ℕ) → k < end → VariableIsKeyed p globals variables k
