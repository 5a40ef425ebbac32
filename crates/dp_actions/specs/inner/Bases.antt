-- An expression under indices, by how entries are read.
use Rattle.std.specs.Prelude.{List}
use Rattle.dp_value.specs.declared.value.Value.{Value}
use Rattle.dp_actions.specs.declared.entry_reads.Reading.{Reading}
use Rattle.dp_actions.specs.declared.entry_reads.Reading.TheVariants.{Plain, Found}
use Rattle.dp_actions.specs.InPlace.{entries_by}
use Rattle.dp_actions.specs.Expressions.{ExpressionRun, indices_run}
use Rattle.dp_actions.specs.Run.{◌>>=◌}
use Rattle.dp_actions.specs.Setting.{Part}

-- the value of what indices stand behind
abbrev pub base_run : Reading → ExpressionRun → Part Value
base_run Plain base = base.value
base_run Found base = base.found

-- an expression under indices
abbrev pub entry_under : Reading → ExpressionRun → List ExpressionRun → Part Value
entry_under reading base indices setting s =
    base_run reading base setting s >>= λ v t. indices_run (entries_by reading) indices v setting t
