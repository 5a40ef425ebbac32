-- The names of the commands that are known. DBGp 1.0, "Core Commands", "Extended Commands".
use Rattle.std.specs.Prelude.{ℕ, List, [], ◌∷◌, Option, codes}
use Rattle.std.specs.List.{find}
use Rattle.std.specs.Str.{bytes_eq}
use Rattle.dp_command.specs.declared.names.CommandName.{CommandName}
use Rattle.dp_command.specs.declared.names.CommandName.TheVariants.{Status, FeatureGet, FeatureSet, Run, StepInto, StepOver, StepOut, Stop, Detach, BreakpointSet, BreakpointGet, BreakpointRemove, BreakpointUpdate, BreakpointList, StackDepth, StackGet, ContextNames, ContextGet, PropertyGet, PropertyValue, PropertySet, Source, Stdout, Stderr, Eval}

-- a command's name in a line
abbrev pub text_of : CommandName → List ℕ
text_of Status = codes "status"
text_of FeatureGet = codes "feature_get"
text_of FeatureSet = codes "feature_set"
text_of Run = codes "run"
text_of StepInto = codes "step_into"
text_of StepOver = codes "step_over"
text_of StepOut = codes "step_out"
text_of Stop = codes "stop"
text_of Detach = codes "detach"
text_of BreakpointSet = codes "breakpoint_set"
text_of BreakpointGet = codes "breakpoint_get"
text_of BreakpointRemove = codes "breakpoint_remove"
text_of BreakpointUpdate = codes "breakpoint_update"
text_of BreakpointList = codes "breakpoint_list"
text_of StackDepth = codes "stack_depth"
text_of StackGet = codes "stack_get"
text_of ContextNames = codes "context_names"
text_of ContextGet = codes "context_get"
text_of PropertyGet = codes "property_get"
text_of PropertyValue = codes "property_value"
text_of PropertySet = codes "property_set"
text_of Source = codes "source"
text_of Stdout = codes "stdout"
text_of Stderr = codes "stderr"
text_of Eval = codes "eval"

abbrev pub every_name : List CommandName
every_name =
    Status ∷ FeatureGet ∷ FeatureSet ∷ Run ∷ StepInto ∷ StepOver ∷ StepOut ∷ Stop ∷ Detach
    ∷ BreakpointSet ∷ BreakpointGet ∷ BreakpointRemove ∷ BreakpointUpdate ∷ BreakpointList
    ∷ StackDepth ∷ StackGet ∷ ContextNames ∷ ContextGet ∷ PropertyGet ∷ PropertyValue ∷ PropertySet
    ∷ Source ∷ Stdout ∷ Stderr ∷ Eval ∷ []

-- the command that a name in a line names, if one does
unfoldable pub name_of : List ℕ → Option CommandName
name_of text = find (λ n. bytes_eq (text_of n) text) every_name
