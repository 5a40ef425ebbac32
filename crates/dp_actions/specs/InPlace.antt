-- How entries are read.
use Rattle.std.specs.Prelude.{Result}
use Rattle.dp_value.specs.declared.errors.ValueError.{ValueError}
use Rattle.dp_value.specs.Data.{Data}
use Rattle.dp_operations.specs.Indices.{indexed, looked_up}
use Rattle.dp_actions.specs.declared.entry_reads.Reading.{Reading}
use Rattle.dp_actions.specs.declared.entry_reads.Reading.TheVariants.{Plain, Found}

-- the table by which entries are read
abbrev pub entries_by : Reading → Data → Data → Result Data ValueError
entries_by Plain = indexed
entries_by Found = looked_up
