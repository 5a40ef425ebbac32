-- When a breakpoint hits, and when one that hits stops the program: DBGp 1.0, "Breakpoints". That a
-- hit is counted only where the expression is true is this engine's own.
use Rattle.std.specs.Prelude.{ℕ, ◌%◌, ◌==◌, nat_le, Bool, true, false, ◌&&◌, ◌||◌, if◌then◌else◌, List, Option, Some, None, is_some}
use Rattle.std.specs.Option.{option_map_or}
use Rattle.std.specs.Str.{str_eq_ignore_ascii_case}
use Rattle.dp_tree.specs.declared.bundle.Bundle.{Bundle}
use Rattle.dp_actions.specs.Expressions.{evaluation}
use Rattle.dp_actions.specs.Run.{Run, Done, Over, At}
use Rattle.dp_actions.specs.Values.{holds}
use Rattle.dp_meaning.specs.Writes.{evaluation_setting}
use Rattle.dp_packet.specs.declared.packet.BreakKind.{BreakKind}
use Rattle.dp_packet.specs.declared.packet.BreakKind.TheVariants.{Line, Call, Return, Conditional}
use Rattle.dp_packet.specs.declared.packet.HitRule.{HitRule}
use Rattle.dp_packet.specs.declared.packet.HitRule.TheVariants.{AtLeast, Exactly, Multiple}
use Rattle.dp_state.specs.declared.moments.Moment.{Moment}
use Rattle.dp_state.specs.declared.moments.MomentKind.{MomentKind}
use Rattle.dp_state.specs.declared.moments.MomentKind.TheVariants.{Place, Enter, Leave}
use Rattle.dp_state.specs.declared.state.State.{State}
use Rattle.dp_tree.specs.declared.tree.Expression.{Expression}
use Rattle.dp_value.specs.declared.value.Value.{Value}
use Rattle.dp_break.specs.declared.breakpoint.Breakpoint.{Breakpoint}

-- ---- expressions

-- it gives a value that holds; one that is fatal does not
abbrev pub gives_truth : Run Value → Bool
gives_truth (Done v s) = holds v
gives_truth (Over outcome s) = false
gives_truth (At kind line s go) = false

-- an expression that changes nothing is true in a state
unfoldable pub is_true_in : Bundle → Expression → State → Bool
is_true_in bundle e s = gives_truth (evaluation e (evaluation_setting bundle) s)

-- ---- places

-- a breakpoint on a function, and not on a line
abbrev pub is_of_function : BreakKind → Bool
is_of_function Line = false
is_of_function Call = true
is_of_function Return = true
is_of_function Conditional = false

-- what a breakpoint of this kind waits for
abbrev pub awaits : BreakKind → MomentKind → Bool
awaits Line Place = true
awaits Conditional Place = true
awaits Call Enter = true
awaits Return Leave = true
awaits kind moment = false

-- a number that was given is met by itself, one that was not is met by each
abbrev pub is_met_by : Option ℕ → ℕ → Bool
is_met_by (Some given) number = given == number
is_met_by None number = true

-- the same name, in any case of letters
abbrev pub is_named_by : Option (List ℕ) → Option (List ℕ) → Bool
is_named_by (Some given) (Some name) = str_eq_ignore_ascii_case given name
is_named_by given name = false

-- a moment of its kind, in its file, and of its function or on its line
abbrev pub is_place_of : Breakpoint → Moment → Bool
is_place_of b moment =
    awaits b.kind moment.kind && is_met_by b.file moment.file
    && (if is_of_function b.kind then is_named_by b.function moment.function
    else is_met_by b.line moment.line)

-- ---- hits

-- it is enabled, its place matches, and its expression is missing or true in the state of the
-- moment
abbrev pub hits : Bundle → Moment × State → Breakpoint → Bool
hits bundle at b =
    b.enabled && is_place_of b at.0 && option_map_or (λ e. is_true_in bundle e at.1) b.parsed true

-- whether it hits there depends on its expression
abbrev pub depends_on_expression : Moment → Breakpoint → Bool
depends_on_expression moment b = b.enabled && is_place_of b moment && is_some b.parsed

-- its hit rule holds of a count; with the hit value 0 it always does
abbrev pub rule_holds : HitRule → ℕ → ℕ → Bool
rule_holds AtLeast value count = nat_le value count
rule_holds Exactly value count = count == value
rule_holds Multiple value count = count % value == 0

abbrev pub is_enough_for : HitRule → ℕ → ℕ → Bool
is_enough_for rule value count = value == 0 || rule_holds rule value count

abbrev pub is_enough : Breakpoint → ℕ → Bool
is_enough b count = is_enough_for b.hit_rule b.hit_value count
