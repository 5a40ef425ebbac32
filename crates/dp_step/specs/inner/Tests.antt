-- A test that is found at once, or not.
use Rattle.std.specs.Prelude.{◌≡◌, Option, Some, None, Result, Ok, Err}
use Rattle.dp_state.specs.declared.state.State.{State}
use Rattle.dp_actions.specs.declared.halt.Halt.{Halt}
use Rattle.dp_actions.specs.AtOnce.{AtOnce}
use Rattle.dp_actions.specs.Run.{Run}
use Rattle.dp_actions.specs.Setting.{Setting}
use Rattle.dp_meaning.specs.declared.whole.Whole.{Whole}
use Rattle.dp_meaning.specs.Programs.{setting_of}

abbrev pub setting_by : Whole → Setting
setting_by by = setting_of by.bundle.now by.bound by.depth

-- it is done at once, or nothing is done
abbrev pub FindsBy : {A : Type 0} → Run A → Result (Option A) Halt → State → State → Type 0
FindsBy run (Ok (Some a)) s t = AtOnce run (Ok a) t
FindsBy run (Ok None) s t = t ≡ s
FindsBy run (Err why) s t = AtOnce run (Err why) t

pub record Finds {A : Type 0} (run : Run A) (result : Result (Option A) Halt) (s t : State)
    : Type 0 where
  pub finds : FindsBy run result s t
