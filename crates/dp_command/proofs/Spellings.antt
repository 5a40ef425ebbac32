-- Each command has a name of its own.
use Rattle.std.proofs.Common.{◌≡◌, Some, refl}
use Rattle.dp_command.specs.declared.names.CommandName.{CommandName}
use Rattle.dp_command.specs.declared.names.CommandName.TheVariants.{Status, FeatureGet, FeatureSet, Run, StepInto, StepOver, StepOut, Stop, Detach, BreakpointSet, BreakpointGet, BreakpointRemove, BreakpointUpdate, BreakpointList, StackDepth, StackGet, ContextNames, ContextGet, PropertyGet, PropertyValue, PropertySet, Source, Stdout, Stderr, Eval}
use Rattle.dp_command.specs.Names.{text_of, name_of}

pub named : (n : CommandName) → name_of (text_of n) ≡ Some n
unfolding name_of
named Status = refl
named FeatureGet = refl
named FeatureSet = refl
named Run = refl
named StepInto = refl
named StepOver = refl
named StepOut = refl
named Stop = refl
named Detach = refl
named BreakpointSet = refl
named BreakpointGet = refl
named BreakpointRemove = refl
named BreakpointUpdate = refl
named BreakpointList = refl
named StackDepth = refl
named StackGet = refl
named ContextNames = refl
named ContextGet = refl
named PropertyGet = refl
named PropertyValue = refl
named PropertySet = refl
named Source = refl
named Stdout = refl
named Stderr = refl
named Eval = refl
