-- A line that is short enough for a command: whatever is answered to it fits a packet.
use Rattle.std.specs.Prelude.{◌≤◌, length, Option, Some, None}
use Rattle.std.specs.List.{AllByRecursion}
use Rattle.dp_command.specs.Grammar.{command_name_limit}
use Rattle.dp_command.specs.declared.line.Line.{Line}
use Rattle.dp_wire.specs.Frames.{command_limit}

-- the name and the values of the options have no more bytes than a command may have
pub record IsShort (line : Line) : Type 0 where
  pub name : length line.name ≤ command_name_limit
  pub values : AllByRecursion (λ o. length o.1 ≤ command_limit) line.options

-- the same of what bytes spell, which may be no line
abbrev pub IsShortLine : Option Line → Type 0
IsShortLine None = Unit {0}
IsShortLine (Some line) = IsShort line
