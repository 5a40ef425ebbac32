-- Sizes by which a recursion falls from an array to its columns, and from those to their values.
use Rattle.std.specs.Prelude.{ℕ, ◌+◌, suc}
use Rattle.dp_value.specs.Data.{Table, table_depth}

abbrev pub columns_size : Table → ℕ
columns_size t = table_depth t + table_depth t

abbrev pub array_size : Table → ℕ
array_size t = suc (columns_size t)
