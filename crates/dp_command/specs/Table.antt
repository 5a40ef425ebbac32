-- The table of commands: which options each has besides -i, and whether a payload. DBGp 1.0, "Core
-- Commands", "Extended Commands"; which part of a command must be there is this engine's own where
-- the standard leaves it open.
use Rattle.std.specs.Prelude.{List, [], ◌∷◌}
use Rattle.dp_command.specs.Letters as letter
use Rattle.dp_command.specs.declared.names.CommandName.{CommandName}
use Rattle.dp_command.specs.declared.names.CommandName.TheVariants.{Status, FeatureGet, FeatureSet, Run, StepInto, StepOver, StepOut, Stop, Detach, BreakpointSet, BreakpointGet, BreakpointRemove, BreakpointUpdate, BreakpointList, StackDepth, StackGet, ContextNames, ContextGet, PropertyGet, PropertyValue, PropertySet, Source, Stdout, Stderr, Eval}
use Rattle.dp_command.specs.declared.slots.Slot.{Slot}
use Rattle.dp_command.specs.declared.slots.Slot.TheVariants.{Required, Optional}
use Rattle.dp_command.specs.declared.slots.Kind.TheVariants.{Text, Number, Mode}
use Rattle.dp_command.specs.declared.slots.Presence.{Presence}
use Rattle.dp_command.specs.declared.slots.Presence.TheVariants as presence

unfoldable pub slots_of : CommandName → List Slot
slots_of Status = []
slots_of FeatureGet = Required letter.n Text ∷ []
slots_of FeatureSet = Required letter.n Text ∷ Required letter.v Text ∷ []
slots_of Run = []
slots_of StepInto = []
slots_of StepOver = []
slots_of StepOut = []
slots_of Stop = []
slots_of Detach = []
slots_of BreakpointSet =
    Required letter.t Text ∷ Optional letter.s Text ∷ Optional letter.f Text
    ∷ Optional letter.n Text ∷ Optional letter.m Text ∷ Optional letter.x Text
    ∷ Optional letter.h Number ∷ Optional letter.o Text ∷ Optional letter.r Text ∷ []
slots_of BreakpointGet = Required letter.d Number ∷ []
slots_of BreakpointRemove = Required letter.d Number ∷ []
slots_of BreakpointUpdate =
    Required letter.d Number ∷ Optional letter.s Text ∷ Optional letter.n Number
    ∷ Optional letter.h Number ∷ Optional letter.o Text ∷ []
slots_of BreakpointList = []
slots_of StackDepth = []
slots_of StackGet = Optional letter.d Number ∷ []
slots_of ContextNames = Optional letter.d Number ∷ []
slots_of ContextGet = Optional letter.d Number ∷ Optional letter.c Number ∷ []
slots_of PropertyGet =
    Required letter.n Text ∷ Optional letter.d Number ∷ Optional letter.c Number
    ∷ Optional letter.p Number ∷ Optional letter.m Number ∷ []
slots_of PropertyValue =
    Required letter.n Text ∷ Optional letter.d Number ∷ Optional letter.c Number
    ∷ Optional letter.m Number ∷ []
slots_of PropertySet =
    Required letter.n Text ∷ Optional letter.d Number ∷ Optional letter.c Number
    ∷ Optional letter.t Text ∷ Optional letter.l Number ∷ []
slots_of Source = Optional letter.f Text ∷ Optional letter.b Number ∷ Optional letter.e Number ∷ []
slots_of Stdout = Required letter.c Mode ∷ []
slots_of Stderr = Required letter.c Mode ∷ []
slots_of Eval = []

unfoldable pub payload_of : CommandName → Presence
payload_of BreakpointSet = presence.Optional
payload_of PropertySet = presence.Required
payload_of Eval = presence.Required
payload_of name = presence.Never
