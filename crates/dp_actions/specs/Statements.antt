-- What statements do. Source: the PHP manual, "Control Structures".
use Rattle.std.specs.Prelude.{ℕ, if◌then◌else◌, List, [], ◌∷◌, map, Option, Some, None}
use Rattle.dp_value.specs.declared.value.Value.{Value}
use Rattle.dp_value.specs.declared.value.Value.TheVariants.{Null}
use Rattle.dp_tree.specs.declared.tree.Arm.{Arm, fold-Arm}
use Rattle.dp_tree.specs.declared.tree.Binding.{Binding}
use Rattle.dp_tree.specs.declared.tree.Definition.{Definition}
use Rattle.dp_tree.specs.declared.tree.Expression.{Expression}
use Rattle.dp_tree.specs.declared.tree.Statement.{Statement, fold-Statement}
use Rattle.dp_tree.specs.declared.tree.StatementKind.TheOpen.{Statement-F, StatementKind-F, Arm-F}
use Rattle.dp_state.specs.declared.moments.MomentKind.TheVariants as moment
use Rattle.dp_state.specs.declared.moments.Outcome.TheVariants.{Exit}
use Rattle.dp_state.specs.declared.state.State.{State}
use Rattle.dp_state.specs.Constants.{with_constant}
use Rattle.dp_actions.specs.declared.signal.Signal.{Signal}
use Rattle.dp_actions.specs.declared.signal.Signal.TheVariants.{Next, Break, Continue, Return}
use Rattle.dp_actions.specs.Expressions.{ExpressionRun, expression_run, evaluation, evaluations, place_run}
use Rattle.dp_actions.specs.Effects.{exit_run, print_run, with_globals}
use Rattle.dp_actions.specs.Loops.{turns, do_turns, each_run, entries}
use Rattle.dp_actions.specs.Places.{unset_run}
use Rattle.dp_actions.specs.Run.{Run, Done, Over, At, ◌>>=◌}
use Rattle.dp_actions.specs.Setting.{Setting, Part}
use Rattle.dp_actions.specs.Values.{holds}

-- what a statement does has its moments from the line of its first token on
abbrev pub KindRun : Type 0
KindRun = ℕ → Part Signal

-- an arm of an `if`, by what is done where its test does not hold
abbrev pub ArmRun : Type 0
ArmRun = Part Signal → Part Signal

-- a moment before a statement, a test or a binding on this line
abbrev pub placed : {A : Type 0} → ℕ → State → (State → Run A) → Run A
placed line s next = At moment.Place line s next

-- the next statement, unless the one before broke off
abbrev pub go_on : Signal → (State → Run Signal) → State → Run Signal
go_on Next next s = next s
go_on (Break loops) next s = Done (Break loops) s
go_on (Continue loop) next s = Done (Continue loop) s
go_on (Return v) next s = Done (Return v) s

-- statements, one after another
abbrev pub sequence : List (Part Signal) → Part Signal
sequence [] setting s = Done Next s
sequence (first ∷ rest) setting s = first setting s >>= λ g t. go_on g (sequence rest setting) t

-- an operand of `echo` is written, and then come the others
abbrev pub echoed : (State → Run Signal) → Value → State → Run Signal
echoed rest v s = print_run v s >>= λ _ t. rest t

-- `echo`: each operand is evaluated and written before the next
abbrev pub echoes : List ExpressionRun → Part Signal
echoes [] setting s = Done Next s
echoes (first ∷ rest) setting s = first.value setting s >>= echoed (echoes rest setting)

-- a constant gets a value, unless there is one of its name, and then come the others
abbrev pub constant_then : List ℕ → (State → Run Signal) → Value → State → Run Signal
constant_then name rest v s = rest (with_constant name v s)

-- `const`: each value is evaluated and its constant defined before the next
abbrev pub constants_run : List Definition → Part Signal
constants_run [] setting s = Done Next s
constants_run (first ∷ rest) setting s =
    evaluation first.value setting s >>= constant_then first.name (constants_run rest setting)

-- the arms of an `if`, and what is done where no test holds
abbrev pub arms_run : List ArmRun → Option (Part Signal) → Part Signal
arms_run [] None setting s = Done Next s
arms_run [] (Some otherwise) setting s = otherwise setting s
arms_run (arm ∷ arms) otherwise setting s = arm (arms_run arms otherwise) setting s

-- out of the function or the file, with a value
abbrev pub returning : Value → State → Run Signal
returning v s = Done (Return v) s

-- `return`
abbrev pub return_run : Option Expression → Part Signal
return_run None setting s = Done (Return Null) s
return_run (Some e) setting s = evaluation e setting s >>= returning

-- `exit`
abbrev pub end_run : Option Expression → Part Signal
end_run None setting s = Over (Exit 0) s
end_run (Some e) setting s = evaluation e setting s >>= exit_run

-- ---- what is left of a statement whose first part is done

-- on with the next statement
abbrev pub then_next : {A : Type 0} → A → State → Run Signal
then_next a s = Done Next s

-- of an arm, by the value of its test: its body, or what is done where the test does not hold
abbrev pub branch : Part Signal → Part Signal → Setting → Value → State → Run Signal
branch body otherwise setting v s = if holds v then body setting s else otherwise setting s

-- of a `for`: its turns
abbrev pub for_turns : ℕ → List Expression → List Expression → Part Signal → Setting → List Value
    → State → Run Signal
for_turns line tests after body setting before s =
    turns setting.bound line (evaluations tests setting) (evaluations after setting)
    (body setting) s

-- of a `foreach`, by its subject: its turns
abbrev pub each_turns : ℕ → Binding → Part Signal → Setting → Value → State → Run Signal
each_turns line binding body setting v s = each_run line binding (entries v) (body setting) s

-- ---- each layer of a tree, where the runs of its parts are known

abbrev pub statement_layer : Statement-F KindRun ArmRun (Part Signal) → Part Signal
statement_layer statement = statement.kind statement.line

-- a test stands on the line of its `if`, `elseif` or `else if`
abbrev pub arm_layer : Arm-F KindRun ArmRun (Part Signal) → ArmRun
arm_layer arm otherwise setting s =
    placed arm.line s (λ t. evaluation arm.test setting t >>= branch arm.body otherwise setting)

abbrev pub kind_layer : StatementKind-F KindRun ArmRun (Part Signal) → KindRun
kind_layer (StatementKind-F.Expression e) line setting s =
    placed line s (λ t. evaluation e setting t >>= then_next)
kind_layer (StatementKind-F.Echo operands) line setting s =
    placed line s (λ t. echoes (map expression_run operands) setting t)
kind_layer (StatementKind-F.Block statements) line setting s = sequence statements setting s
kind_layer StatementKind-F.Empty line setting s = Done Next s
kind_layer (StatementKind-F.If arms otherwise) line setting s = arms_run arms otherwise setting s
kind_layer (StatementKind-F.While test body) line setting s =
    turns setting.bound line (evaluations (test ∷ []) setting) (evaluations [] setting)
    (body setting) s
kind_layer (StatementKind-F.DoWhile body end test) line setting s =
    do_turns setting.bound end (evaluation test setting) (body setting) s
kind_layer (StatementKind-F.For before tests after body) line setting s =
    placed line s (λ t. evaluations before setting t >>= for_turns line tests after body setting)
kind_layer (StatementKind-F.Foreach subject binding body) line setting s =
    placed line s (λ t. evaluation subject setting t >>= each_turns line binding body setting)
kind_layer (StatementKind-F.Break loops) line setting s = placed line s (λ t. Done (Break loops) t)
kind_layer (StatementKind-F.Continue loop) line setting s =
    placed line s (λ t. Done (Continue loop) t)
kind_layer (StatementKind-F.Return value) line setting s =
    placed line s (λ t. return_run value setting t)
kind_layer (StatementKind-F.Global names) line setting s =
    placed line s (λ t. Done Next (with_globals names t))
kind_layer (StatementKind-F.Unset places) line setting s =
    placed line s (λ t. unset_run (map place_run places) setting t >>= then_next)
kind_layer (StatementKind-F.Constants all) line setting s =
    placed line s (λ t. constants_run all setting t)
kind_layer (StatementKind-F.Exit value) line setting s =
    placed line s (λ t. end_run value setting t)

-- ---- whole trees

unfoldable pub arm_run : Arm → ArmRun
arm_run = fold-Arm KindRun ArmRun (Part Signal) kind_layer arm_layer statement_layer

unfoldable pub statement_run : Statement → Part Signal
statement_run = fold-Statement KindRun ArmRun (Part Signal) kind_layer arm_layer statement_layer

-- the statements of a function or a file
abbrev pub body_run : List Statement → Part Signal
body_run statements = sequence (map statement_run statements)
