-- What an evaluator goes by, as the definitions have it.
use Rattle.std.specs.Prelude.{ℕ, List}
use Rattle.dp_tree.specs.declared.tree.Expression.{Expression}
use Rattle.dp_tree.specs.declared.tree.Binding.{Binding}
use Rattle.dp_actions.specs.Expressions.{ExpressionRun, evaluations}
use Rattle.dp_meaning.specs.declared.evaluator.Evaluator.{Evaluator}
use Rattle.dp_actions.specs.declared.signal.Signal.{Signal}
use Rattle.dp_meaning.specs.Programs.{setting_of}
use Rattle.dp_actions.specs.Run.{◌>>=◌}
use Rattle.dp_actions.specs.Setting.{Setting, Part}
use Rattle.dp_actions.specs.Statements.{each_turns, for_turns}

abbrev pub goes_by : {O : Type 0} → Evaluator O → Setting
goes_by evaluator = setting_of evaluator.bundle.now evaluator.bound evaluator.depth

-- ---- loops

-- a `for`, from its first expressions on
abbrev pub for_part : ℕ → List Expression → List Expression → List Expression → Part Signal
    → Part Signal
for_part line before tests after body setting s =
    evaluations before setting s >>= for_turns line tests after body setting

-- a `foreach`, from its subject on
abbrev pub foreach_part : ℕ → Binding → ExpressionRun → Part Signal → Part Signal
foreach_part line binding subject body setting s =
    subject.value setting s >>= each_turns line binding body setting
