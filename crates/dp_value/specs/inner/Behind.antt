-- What stands behind an array's pointer: its columns, or nothing while it never had an entry.
use Rattle.std.specs.Option.{option_map_or}
use Rattle.dp_value.specs.declared.value.PhpArray.TheInside.{Inside}
use Rattle.dp_value.specs.Data.{Table}
use Rattle.dp_value.specs.Table.{empty}

abbrev pub table_behind : Inside → Table
table_behind a = option_map_or (λ b. b.value) a.columns empty
