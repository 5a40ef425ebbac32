-- What the run of a part of a program goes by.
use Rattle.std.specs.Prelude.{ℕ, List}
use Rattle.dp_tree.specs.declared.tree.Function.{Function}
use Rattle.dp_tree.specs.declared.bundle.Bundle.{Bundle}
use Rattle.dp_state.specs.declared.state.State.{State}
use Rattle.dp_value.specs.declared.value.Value.{Value}
use Rattle.dp_actions.specs.Run.{Run}

pub record Setting : Type 0 where
  pub bundle : Bundle
  -- how many moments a run may have
  pub bound : ℕ
  -- a call of a function of the file of this number, with values
  pub call : ℕ → Function → List Value → State → Run Value
  -- the run of the file of this number
  pub include : ℕ → State → Run Value

-- what a part does
abbrev pub Part : Type 0 → Type 0
Part A = Setting → State → Run A
