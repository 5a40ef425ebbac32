-- The command that a line is, by the table of commands. Of a line that fits its row, each part that
-- is required is there and each number is one; what stands for a part that is missing is said here
-- for the others.
use Rattle.std.specs.Prelude.{[], Option, unwrap_or}
use Rattle.std.specs.Option.{option_map}
use Rattle.dp_command.specs.declared.line.Line.{Line}
use Rattle.dp_command.specs.declared.names.CommandName.{CommandName}
use Rattle.dp_command.specs.declared.names.CommandName.TheVariants.{Status, FeatureGet, FeatureSet, Run, StepInto, StepOver, StepOut, Stop, Detach, BreakpointSet, BreakpointGet, BreakpointRemove, BreakpointUpdate, BreakpointList, StackDepth, StackGet, ContextNames, ContextGet, PropertyGet, PropertyValue, PropertySet, Source, Stdout, Stderr, Eval}
use Rattle.dp_command.specs.declared.command.Command.{Command}
use Rattle.dp_command.specs.declared.command.Request.{Request}
use Rattle.dp_command.specs.declared.command.Request.TheVariants.{Session, Breakpoints, Look, Write}
use Rattle.dp_command.specs.declared.command.SessionRequest.TheVariants as session
use Rattle.dp_command.specs.declared.command.BreakpointRequest.TheVariants as breakpoints
use Rattle.dp_command.specs.declared.command.LookRequest.TheVariants as look
use Rattle.dp_command.specs.declared.command.WriteRequest.TheVariants as write
use Rattle.dp_command.specs.declared.command.Continuation.TheVariants as continuation
use Rattle.dp_command.specs.declared.command.Finish.TheVariants as finish
use Rattle.dp_command.specs.declared.command.BreakpointAction.TheVariants as action
use Rattle.dp_command.specs.declared.command.Stream.TheVariants as stream
use Rattle.dp_command.specs.declared.command.PropertyPlace.{PropertyPlace}
use Rattle.dp_command.specs.Letters as letter
use Rattle.dp_command.specs.Options.{Options, given, text_given, number_given, number_or_zero, mode_given}
use Rattle.dp_command.specs.Names.{name_of}
use Rattle.dp_command.specs.Refusals.{id_of}

-- a property's name, the level and the context that it is looked for in
abbrev pub place_of : Options → PropertyPlace
place_of options = record {
  name = text_given letter.n options;
  level = number_or_zero letter.d options;
  context = number_or_zero letter.c options;
}

abbrev pub breakpoint_set : Line → Request
breakpoint_set line = Breakpoints (breakpoints.Set (record {
  kind = text_given letter.t line.options;
  state = given letter.s line.options;
  file = given letter.f line.options;
  line = given letter.n line.options;
  function = given letter.m line.options;
  exception = given letter.x line.options;
  hit_value = number_or_zero letter.h line.options;
  hit_rule = given letter.o line.options;
  temporary = given letter.r line.options;
  expression = line.payload;
}))

abbrev pub breakpoint_update : Options → Request
breakpoint_update options = Breakpoints (breakpoints.Update (record {
  id = number_or_zero letter.d options;
  state = given letter.s options;
  line = number_given letter.n options;
  hit_value = number_given letter.h options;
  hit_rule = given letter.o options;
}))

abbrev pub property_set : Line → Request
property_set line = Write (write.PropertySet (record {
  place = place_of line.options;
  kind = given letter.t line.options;
  length = number_given letter.l line.options;
  value = unwrap_or line.payload [];
}))

abbrev pub source : Options → Request
source options = Look (look.Source (record {
  file = given letter.f options;
  first = number_given letter.b options;
  last = number_given letter.e options;
}))

-- what a command of this name asks for
unfoldable pub request_of : CommandName → Line → Request
request_of Status line = Session session.Status
request_of FeatureGet line = Session (session.FeatureGet (text_given letter.n line.options))
request_of FeatureSet line =
    Session (session.FeatureSet (text_given letter.n line.options)
    (text_given letter.v line.options))
request_of Run line = Session (session.Continue continuation.Run)
request_of StepInto line = Session (session.Continue continuation.StepInto)
request_of StepOver line = Session (session.Continue continuation.StepOver)
request_of StepOut line = Session (session.Continue continuation.StepOut)
request_of Stop line = Session (session.Finish finish.Stop)
request_of Detach line = Session (session.Finish finish.Detach)
request_of BreakpointSet line = breakpoint_set line
request_of BreakpointGet line =
    Breakpoints (breakpoints.One action.Get (number_or_zero letter.d line.options))
request_of BreakpointRemove line =
    Breakpoints (breakpoints.One action.Remove (number_or_zero letter.d line.options))
request_of BreakpointUpdate line = breakpoint_update line.options
request_of BreakpointList line = Breakpoints breakpoints.List
request_of StackDepth line = Look look.StackDepth
request_of StackGet line = Look (look.StackGet (number_given letter.d line.options))
request_of ContextNames line = Look look.ContextNames
request_of ContextGet line =
    Look (look.ContextGet (number_or_zero letter.d line.options)
    (number_or_zero letter.c line.options))
request_of PropertyGet line =
    Look (look.PropertyGet (place_of line.options) (number_or_zero letter.p line.options)
    (number_given letter.m line.options))
request_of PropertyValue line =
    Look (look.PropertyValue (place_of line.options) (number_given letter.m line.options))
request_of PropertySet line = property_set line
request_of Source line = source line.options
request_of Stdout line = Session (session.Redirect stream.Stdout (mode_given letter.c line.options))
request_of Stderr line = Session (session.Redirect stream.Stderr (mode_given letter.c line.options))
request_of Eval line = Write (write.Eval (unwrap_or line.payload []))

abbrev pub command_as : Line → CommandName → Command
command_as line name = record { id = id_of line; request = request_of name line }

-- the command that a line is, where its name is known
abbrev pub command_of : Line → Option Command
command_of line = option_map (command_as line) (name_of line.name)
