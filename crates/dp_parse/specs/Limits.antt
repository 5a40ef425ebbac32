-- How deep programs nest.
use Rattle.std.specs.Prelude.{ℕ}
use Rattle.dp_parse.specs.Statements.{Depth}

abbrev pub expression_levels : ℕ
expression_levels = 32

abbrev pub body_levels : ℕ
body_levels = 32

abbrev pub limits : Depth
limits = record { expressions = expression_levels; bodies = body_levels }
