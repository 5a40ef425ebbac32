-- What of a line is a continuation on its way.
use Rattle.std.specs.Prelude.{◌≡◌, Option, Some, None}
use Rattle.dp_command.specs.declared.line.Line.{Line}
use Rattle.dp_engine.specs.declared.passes.Going.{Going}
use Rattle.dp_engine.specs.Passes.{SetsOut, departing}
use Rattle.dp_engine.specs.Session.{State}

-- the continuation that a line asks for, if it asks for one
abbrev pub GivesGoing : State → Option Line → Option Going → Type 0
GivesGoing state line None = departing state line ≡ None
GivesGoing state line (Some going) = SetsOut state line going
