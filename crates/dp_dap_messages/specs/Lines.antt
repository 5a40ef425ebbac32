-- The lines that the gateway sends to its session, as values: `-i 1` first, then the options in the
-- order of their command.
use Rattle.std.specs.Prelude.{ℕ, Bool, List, [], ◌∷◌, Option, Some, None, codes, decimal, if◌then◌else◌}
use Rattle.dp_command.specs.declared.command.Continuation.{Continuation}
use Rattle.dp_command.specs.declared.command.Continuation.TheVariants as going
use Rattle.dp_command.specs.declared.line.Line.{Line}
use Rattle.dp_command.specs.declared.names.CommandName.{CommandName}
use Rattle.dp_command.specs.declared.names.CommandName.TheVariants.{FeatureSet, Run, StepInto, StepOver, StepOut, Stop, Detach, BreakpointSet, BreakpointRemove, StackGet, ContextNames, ContextGet, PropertyGet, Eval}
use Rattle.dp_command.specs.Names.{text_of}
use Rattle.dp_command.specs.Options.{Options}
use Rattle.dp_dap_messages.specs.declared.lines.Place.{Place}

abbrev pub line_with : CommandName → Options → Option (List ℕ) → Line
line_with name options payload = record {
  name = text_of name;
  options = (105, codes "1") ∷ options;
  payload = payload;
}

abbrev pub plain_line : CommandName → Line
plain_line name = line_with name [] None

-- nothing of an array or of a text is left out
abbrev pub feature_line : List ℕ → Line
feature_line feature =
    line_with FeatureSet ((110, feature) ∷ (118, codes "1048576") ∷ []) None

abbrev pub going_name : Continuation → CommandName
going_name going.Run = Run
going_name going.StepInto = StepInto
going_name going.StepOver = StepOver
going_name going.StepOut = StepOut

abbrev pub going_line : Continuation → Line
going_line mode = plain_line (going_name mode)

abbrev pub finish_name : Bool → CommandName
finish_name detaches = if detaches then Detach else Stop

abbrev pub finish_line : Bool → Line
finish_line detaches = plain_line (finish_name detaches)

-- it stops at the hit of this number alone; 0 is each hit
abbrev pub hit_options : Option ℕ → Options
hit_options None = []
hit_options (Some hits) = (104, decimal hits) ∷ (111, codes "==") ∷ []

abbrev pub set_line : List ℕ → ℕ → Option ℕ → Option (List ℕ) → Line
set_line path line hits condition =
    line_with BreakpointSet
    ((116, codes "line") ∷ (102, path) ∷ (110, decimal line) ∷ hit_options hits) condition

abbrev pub remove_line : ℕ → Line
remove_line id = line_with BreakpointRemove ((100, decimal id) ∷ []) None

abbrev pub stack_line : Line
stack_line = plain_line StackGet

abbrev pub frame_line : ℕ → Line
frame_line level = line_with StackGet ((100, decimal level) ∷ []) None

abbrev pub contexts_line : Line
contexts_line = plain_line ContextNames

-- the variables of a context, or the entries of the array of this name
abbrev pub look_line : Option (List ℕ) → Place → Line
look_line None place =
    line_with ContextGet ((100, decimal place.level) ∷ (99, decimal place.context) ∷ []) None
look_line (Some name) place =
    line_with PropertyGet
    ((110, name) ∷ (100, decimal place.level) ∷ (99, decimal place.context) ∷ []) None

abbrev pub place_line : Place → Line
place_line place = look_line place.name place

abbrev pub eval_line : List ℕ → Line
eval_line expression = line_with Eval [] (Some expression)
