-- What is still to be done, as a run: the pending work is finished whole, the innermost part first.
use Rattle.std.specs.Prelude.{Bool, if◌then◌else◌, List, [], ◌∷◌, map}
use Rattle.std.specs.Prelude.{ℕ, Option, Some, None, drop, option_map}
use Rattle.dp_value.specs.declared.key.Key.{Key}
use Rattle.dp_value.specs.declared.value.Value.{Value}
use Rattle.dp_value.specs.Data.{Data}
use Rattle.dp_tree.specs.declared.tree.Arm.{Arm}
use Rattle.dp_tree.specs.declared.tree.Expression.{Expression}
use Rattle.dp_tree.specs.declared.tree.Place.{Place}
use Rattle.dp_tree.specs.declared.tree.Statement.{Statement}
use Rattle.dp_state.specs.declared.moments.MomentKind.{MomentKind}
use Rattle.dp_state.specs.declared.moments.MomentKind.TheVariants as moment
use Rattle.dp_state.specs.declared.moments.Outcome.TheVariants as way
use Rattle.dp_state.specs.declared.state.State.{State}
use Rattle.dp_state.specs.Places.{keys_of_indices, unset}
use Rattle.dp_actions.specs.declared.signal.Signal.{Signal}
use Rattle.dp_actions.specs.declared.signal.Signal.TheVariants.{Next, Return}
use Rattle.dp_actions.specs.Calls.{include_run}
use Rattle.dp_actions.specs.Expressions.{evaluation, evaluations, expression_run}
use Rattle.dp_actions.specs.Expressions.{place_run}
use Rattle.dp_actions.specs.Statements.{arm_run}
use Rattle.dp_actions.specs.Loops.{bind, do_turns, each_run, entries, last_holds, after_body, turns}
use Rattle.dp_actions.specs.Places.{unset_run}
use Rattle.dp_actions.specs.Bodies.{leaving, left_call, left_file}
use Rattle.dp_actions.specs.Run.{Run, Done, Over, At, taken, ◌>>=◌}
use Rattle.dp_actions.specs.Setting.{Setting, Part}
use Rattle.dp_actions.specs.Statements.{arms_run, body_run, constants_run, constant_then}
use Rattle.dp_actions.specs.Statements.{echoed, echoes}
use Rattle.dp_actions.specs.Statements.{each_turns, go_on, statement_run}
use Rattle.dp_actions.specs.Effects.{exit_run, with_globals}
use Rattle.dp_actions.specs.Values.{holds}
use Rattle.dp_small_steps.specs.declared.work.Given.TheVariants as given
use Rattle.dp_small_steps.specs.Parts.{Follows, to_signal, to_value}
use Rattle.dp_small_steps.specs.Parts.{indices_after, isset_after, items_after, links_after}
use Rattle.dp_small_steps.specs.Parts.{part_rest, value_rest, values_after, values_rest}
use Rattle.dp_small_steps.specs.declared.work.Hand.{Hand}
use Rattle.dp_small_steps.specs.declared.work.Hand.TheVariants as hand
use Rattle.dp_small_steps.specs.declared.work.AfterValue.{AfterValue}
use Rattle.dp_small_steps.specs.declared.work.AfterValue.TheVariants as after_work
use Rattle.dp_small_steps.specs.declared.work.AfterValues.{AfterValues}
use Rattle.dp_small_steps.specs.declared.work.AfterValues.TheVariants as values_work
use Rattle.dp_small_steps.specs.declared.work.ForSignal.{ForSignal}
use Rattle.dp_small_steps.specs.declared.work.ForSignal.TheVariants as signal_work
use Rattle.dp_small_steps.specs.declared.work.Head.{Head}
use Rattle.dp_small_steps.specs.declared.work.Head.TheVariants.{While, For}
use Rattle.dp_small_steps.specs.declared.work.Turns.{Turns}
use Rattle.dp_small_steps.specs.declared.work.DoTurns.{DoTurns}
use Rattle.dp_small_steps.specs.declared.work.EachTurns.{EachTurns}
use Rattle.dp_small_steps.specs.declared.work.Small.{Small}
use Rattle.dp_small_steps.specs.declared.work.Waiting.{Waiting}
use Rattle.dp_small_steps.specs.declared.work.Waiting.TheVariants as waiting
use Rattle.dp_small_steps.specs.declared.work.Work.{Work}
use Rattle.dp_small_steps.specs.declared.work.Work.TheVariants as work
use Rattle.dp_small_steps.specs.declared.work.Next.{Next as NextWork}

-- on with the next statement
abbrev pub next_to : {A : Type 0} → Follows → A → State → Run Signal
next_to k a s = k (given.Signal Next) s

-- ---- what is left of lists of parts, and then what follows

abbrev pub echo_after : Setting → List Expression → Follows → State → Run Signal
echo_after setting operands k s = echoes (map expression_run operands) setting s >>= to_signal k

abbrev pub arms_part : List Arm → Option Statement → Part Signal
arms_part arms otherwise = arms_run (map arm_run arms) (option_map statement_run otherwise)

-- of the first of these arms, by whether its test holds
abbrev pub branch_decided : List Arm → Option Statement → Setting → Bool → State → Run Signal
branch_decided [] otherwise setting b s = Done Next s
branch_decided (arm ∷ arms) otherwise setting b s =
    if b then statement_run arm.body setting s else arms_part arms otherwise setting s

abbrev pub branch_of : List Arm → Option Statement → Setting → Value → State → Run Signal
branch_of arms otherwise setting v s = branch_decided arms otherwise setting (holds v) s

-- of the first of these arms, whose moment has come: its test, and then by whether it holds
abbrev pub chosen : List Arm → Option Statement → Part Signal
chosen [] otherwise setting s = Done Next s
chosen (arm ∷ arms) otherwise setting s =
    evaluation arm.test setting s >>= branch_of (arm ∷ arms) otherwise setting

abbrev pub unset_after : Setting → List Place → Follows → State → Run Signal
unset_after setting places k s = unset_run (map place_run places) setting s >>= next_to k

-- ---- what is left of loops, and then what follows

-- the tests of a loop, and what comes after its body; nothing does in a `while`
abbrev pub tests_of : Head → List Expression
tests_of (While test) = test.now ∷ []
tests_of (For tests after) = tests.now

abbrev pub after_of : Head → List Expression
after_of (While test) = []
after_of (For tests after) = after.now

abbrev pub turns_of : Setting → Turns → ℕ → State → Run Signal
turns_of setting loop left s =
    turns left loop.line (evaluations (tests_of loop.head) setting)
    (evaluations (after_of loop.head) setting)
    (statement_run loop.body.now setting) s

-- the turns, once what comes between two of them is evaluated
abbrev pub turns_next : Setting → Turns → ℕ → State → Run Signal
turns_next setting loop left s =
    evaluations (after_of loop.head) setting s >>= λ _ t. turns_of setting loop left t

-- a turn whose tests hold or do not
abbrev pub turns_decided : Setting → Turns → ℕ → Bool → State → Run Signal
turns_decided setting loop left b s =
    if b
    then (
    statement_run loop.body.now setting s >>= λ g t. after_body g (turns_next setting loop left) t
    )
    else Done Next s

abbrev pub turns_tested : Setting → Turns → ℕ → List Value → State → Run Signal
turns_tested setting loop left values s = turns_decided setting loop left (last_holds values) s

abbrev pub do_turns_of : Setting → DoTurns → ℕ → State → Run Signal
do_turns_of setting loop left s =
    do_turns left loop.line (evaluation loop.test.now setting) (statement_run loop.body.now setting)
    s

abbrev pub do_decided : Setting → DoTurns → ℕ → Bool → State → Run Signal
do_decided setting loop left b s = if b then do_turns_of setting loop left s else Done Next s

abbrev pub do_tested : Setting → DoTurns → ℕ → Value → State → Run Signal
do_tested setting loop left v s = do_decided setting loop left (holds v) s

abbrev pub do_test : Setting → DoTurns → ℕ → State → Run Signal
do_test setting loop left s =
    At moment.Place loop.line s
    (λ t. evaluation loop.test.now setting t >>= do_tested setting loop left)

-- a `foreach` from the entry at a position on
abbrev pub each_from : Setting → EachTurns → Value → ℕ → State → Run Signal
each_from setting loop subject at s =
    each_run loop.line loop.binding.now (drop at (entries subject))
    (statement_run loop.body.now setting) s

-- the turn of the first of these entries, whose moment has come
abbrev pub each_turn : Setting → EachTurns → List (Key × Data) → State → Run Signal
each_turn setting loop [] s = Done Next s
each_turn setting loop (entry ∷ more) s =
    bind loop.binding.now entry s >>= λ _ t. statement_run loop.body.now setting t
    >>= λ g u. after_body g
    (each_run loop.line loop.binding.now more (statement_run loop.body.now setting)) u

-- a loop whose body gave a signal; or whose tests are due, or a turn, since its moment has come
abbrev pub turn_rest : Setting → Turns → ℕ → Bool → Signal → State → Run Signal
turn_rest setting loop left due g s =
    if due
    then (evaluations (tests_of loop.head) setting s >>= turns_tested setting loop left)
    else after_body g (turns_next setting loop left) s

abbrev pub do_rest : Setting → DoTurns → ℕ → Bool → Signal → State → Run Signal
do_rest setting loop left due g s =
    if due
    then (evaluation loop.test.now setting s >>= do_tested setting loop left)
    else after_body g (do_test setting loop left) s

abbrev pub each_rest : Setting → EachTurns → Value → ℕ → Bool → Signal → State → Run Signal
each_rest setting loop subject at due g s =
    if due
    then each_turn setting loop (drop at (entries subject)) s
    else after_body g (each_from setting loop subject at) s

-- ---- what is in hand is done, and then what follows

abbrev pub hand_rest : Setting → Hand → Follows → State → Run Signal
hand_rest setting (hand.Give g) k s = k g s
hand_rest setting (hand.Evaluate e) k s = evaluation e.now setting s >>= to_value k
hand_rest setting (hand.Find e) k s = (expression_run e.now).found setting s >>= to_value k
hand_rest setting (hand.Values before rest at) k s =
    values_after setting before (drop at rest.now) k s
hand_rest setting (hand.Items array items at) k s =
    items_after setting (drop at items.now) k array s
hand_rest setting (hand.Links left links at) k s = links_after setting (drop at links.now) k left s
hand_rest setting (hand.Under how v indices at) k s =
    indices_after setting how (drop at indices.now) k v s
hand_rest setting (hand.Isset places) k s = isset_after setting places.now k s
hand_rest setting (hand.Call file f values) k s = setting.call file f.now values s >>= to_value k
hand_rest setting (hand.Include file) k s = setting.include file s >>= to_value k
hand_rest setting (hand.Run statement) k s = statement_run statement.now setting s >>= to_signal k
hand_rest setting (hand.Effect e) k s = evaluation e.now setting s >>= next_to k
hand_rest setting (hand.Returning e) k s =
    evaluation e.now setting s >>= λ v t. to_signal k (Return v) t
hand_rest setting (hand.Choose arms at otherwise) k s =
    chosen (drop at arms.now) otherwise.now setting s >>= to_signal k
hand_rest setting (hand.Each statements at) k s =
    body_run (drop at statements.now) setting s >>= to_signal k
hand_rest setting (hand.Echo operands at) k s = echo_after setting (drop at operands.now) k s
hand_rest setting (hand.Arms arms at otherwise) k s =
    arms_part (drop at arms.now) otherwise.now setting s >>= to_signal k
hand_rest setting (hand.Global names) k s = k (given.Signal Next) (with_globals names.now s)
hand_rest setting (hand.Unset places) k s = unset_after setting places.now k s
hand_rest setting (hand.Constants all at) k s =
    constants_run (drop at all.now) setting s >>= to_signal k
hand_rest setting (hand.Turn loop left) k s = turns_of setting loop left s >>= to_signal k
hand_rest setting (hand.DoTurn loop left) k s = do_turns_of setting loop left s >>= to_signal k
hand_rest setting (hand.EachTurn loop subject at) k s =
    each_from setting loop subject at s >>= to_signal k
hand_rest setting (hand.Left g) k s = left_call g s >>= to_value k
hand_rest setting (hand.LeftFile g) k s = left_file g s >>= to_value k
hand_rest setting (hand.Over outcome) k s = Over outcome s
hand_rest setting hand.Failed k s = Over way.Bound s

-- ---- what a part that waits does with what it is given

-- a statement
abbrev pub after_rest : Setting → AfterValue → Value → Follows → State → Run Signal
after_rest setting after_work.Discard v k s = next_to k v s
after_rest setting (after_work.Echoed operands at) v k s =
    echoed (echoes (map expression_run (drop at operands.now)) setting) v s >>= to_signal k
after_rest setting (after_work.Defined name all at) v k s =
    constant_then name.now (constants_run (drop at all.now) setting) v s >>= to_signal k
after_rest setting (after_work.Branch arms at otherwise) v k s =
    branch_of (drop at arms.now) otherwise.now setting v s >>= to_signal k
after_rest setting after_work.ReturnIt v k s = to_signal k (Return v) s
after_rest setting after_work.ExitWith v k s = exit_run v s >>= to_signal k
after_rest setting (after_work.Test loop left) v k s =
    turns_decided setting loop left (holds v) s >>= to_signal k
after_rest setting (after_work.DoTest loop left) v k s =
    do_tested setting loop left v s >>= to_signal k
after_rest setting (after_work.Subject loop) v k s =
    each_turns loop.line loop.binding.now (statement_run loop.body.now) setting v s >>= to_signal k

-- the same of a part that waits for values
abbrev pub after_values_rest : Setting → AfterValues → List Value → Follows → State → Run Signal
after_values_rest setting (values_work.Call file f) values k s =
    setting.call file f.now values s >>= to_value k
after_values_rest setting (values_work.Unset name places) indices k s =
    taken (unset name.now (keys_of_indices indices) s) s >>= λ _ t.
    unset_after setting places.now k t
after_values_rest setting (values_work.Turns loop left) values k s =
    turns_of setting loop left s >>= to_signal k
after_values_rest setting (values_work.Tests loop left) values k s =
    turns_tested setting loop left values s >>= to_signal k

-- the same of a part that waits for a signal
abbrev pub signal_rest : Setting → ForSignal → Signal → Follows → State → Run Signal
signal_rest setting (signal_work.Rest statements at) g k s =
    go_on g (body_run (drop at statements.now) setting) s >>= to_signal k
signal_rest setting (signal_work.Body loop left due) g k s =
    turn_rest setting loop left due g s >>= to_signal k
signal_rest setting (signal_work.DoBody loop left due) g k s =
    do_rest setting loop left due g s >>= to_signal k
signal_rest setting (signal_work.EachBody loop subject at due) g k s =
    each_rest setting loop subject at due g s >>= to_signal k

-- It waits for one kind of thing; what is of another kind it passes on.
abbrev pub work_rest : Setting → Work → Follows → Follows
work_rest setting (work.ForPart w) k (given.Value v) s = part_rest setting w v k s
work_rest setting (work.ForValue w) k (given.Value v) s = value_rest setting w v k s
work_rest setting (work.ForValues w) k (given.Values values) s = values_rest setting w values k s
work_rest setting (work.Include how) k (given.Value v) s =
    include_run how v setting s >>= to_value k
work_rest setting (work.AfterValue w) k (given.Value v) s = after_rest setting w v k s
work_rest setting (work.AfterValues w) k (given.Values values) s =
    after_values_rest setting w values k s
work_rest setting (work.ForSignal w) k (given.Signal g) s = signal_rest setting w g k s
work_rest setting w k g s = k g s

-- the same of an item of the pending work
abbrev pub waiting_rest : Setting → Waiting → Follows → Follows
waiting_rest setting (waiting.Part w) k g s = work_rest setting w k g s
waiting_rest setting (waiting.EndCall depth) k (given.Signal g) s = leaving g s >>= to_value k
waiting_rest setting (waiting.EndFile depth) k (given.Signal g) s = left_file g s >>= to_value k
waiting_rest setting w k g s = k g s

-- what waits, if anything does
abbrev pub waits_rest : Setting → Option Work → Follows → Follows
waits_rest setting None k = k
waits_rest setting (Some w) k = work_rest setting w k

abbrev pub next_rest : Setting → NextWork → Follows → State → Run Signal
next_rest setting next k s =
    hand_rest setting next.hand (waits_rest setting next.waits k) s

-- this behind a moment, if there is one
abbrev pub behind : Option (MomentKind × ℕ) → (State → Run Signal) → State → Run Signal
behind None go s = go s
behind (Some m) go s = At m.0 m.1 s go

-- what a small step comes to
abbrev pub small_rest : Setting → Small → Follows → State → Run Signal
small_rest setting small k s = behind small.moment (next_rest setting small.next k) s
