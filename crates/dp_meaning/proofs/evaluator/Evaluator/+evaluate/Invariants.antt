-- The measures of the evaluator's recursion, and what its loops keep: what the rest of a list gives, the whole list
-- gives.
use Rattle.std.proofs.Common.{◌+◌, ◌-◌, ◌*◌, Bool, max, List, map, drop, Result}
use Rattle.std.specs.Prelude.{option_map}
use Rattle.std.specs.Option.{option_map_or}
use denote.Param.Weighed.{most}
use Rattle.dp_state.specs.declared.state.State.{State}
use Rattle.dp_tree.specs.declared.tree.Expression.{size-Expression}
use Rattle.dp_tree.specs.declared.tree.Item.{size-Item}
use Rattle.dp_tree.specs.declared.tree.Link.{size-Link}
use Rattle.dp_tree.specs.declared.tree.Place.{size-Place}
use Rattle.dp_value.specs.declared.value.Value.{Value}
use Rattle.dp_value.specs.declared.value.Value.TheVariants as variant
use Rattle.dp_value.specs.Table.{empty}
use Rattle.dp_actions.specs.declared.halt.Halt.{Halt}
use Rattle.dp_actions.specs.declared.signal.Signal.{Signal}
use Rattle.dp_meaning.specs.inner.Drive.{Evaluates}
use Rattle.dp_meaning.specs.inner.Evaluation.{goes_by}
use Rattle.dp_actions.specs.InPlace.{entries_by}
use Rattle.dp_actions.specs.Expressions.{evaluation, evaluations, expression_run, indices_run, items_run, links_run, place_run}
use Rattle.dp_actions.specs.Expressions.{item_run_of, link_run}
use Rattle.dp_actions.specs.Loops.{do_turns, each_run, entries, last_holds, turns}
use Rattle.dp_actions.specs.Run.{Done, and_then}
use Rattle.dp_actions.specs.Places.{isset_run, unset_run}
use Rattle.dp_actions.specs.Bodies.{statements_of}
use Rattle.dp_meaning.specs.inner.Sizes.{arm_size, body_size, definitions_size, expression_size, expressions_size, frame_size, optional_size, sizes_sum, statement_size}
use Rattle.dp_actions.specs.Statements.{arms_run, body_run, constants_run, echoes, statement_run}
use Rattle.dp_actions.specs.Statements.{arm_run}
use Rattle.dp_meaning.proofs.GivenUp.{test_from, without_values}
use Rattle.dp_meaning.proofs.ListLaws.{more_values}
use Rattle.dp_meaning.proofs.evaluator.Evaluator.+evaluate.Given as goal

abbrev pub decreases-arms : goal.decreases-arms
decreases-arms g l = l.self.now.depth * frame_size l.self.now.bundle.now + (sizes_sum
    (map arm_size l.arms.now) + option_map_or statement_size l.otherwise.now 0 + 1)

abbrev pub decreases-array : goal.decreases-array
decreases-array g l = l.self.now.depth * frame_size l.self.now.bundle.now + (5 * most size-Item l.items.now + 2)

abbrev pub decreases-assign : goal.decreases-assign
decreases-assign g l =
    l.self.now.depth * frame_size l.self.now.bundle.now + (5 * max (size-Place l.place.now)
    (size-Expression l.right.now) + 3)

abbrev pub decreases-base : goal.decreases-base
decreases-base g l = l.self.now.depth * frame_size l.self.now.bundle.now + (expression_size l.e.now + 2)

abbrev pub decreases-body : goal.decreases-body
decreases-body g l = l.self.now.depth * frame_size l.self.now.bundle.now + body_size l.statements.now

abbrev pub decreases-call : goal.decreases-call
decreases-call g l = l.self.now.depth * frame_size l.self.now.bundle.now

abbrev pub decreases-chain : goal.decreases-chain
decreases-chain g l =
    l.self.now.depth * frame_size l.self.now.bundle.now + (5 * max (size-Expression l.first.now)
    (most size-Link l.links.now) + 3)

abbrev pub decreases-chosen : goal.decreases-chosen
decreases-chosen g l =
    l.self.now.depth * frame_size l.self.now.bundle.now + (5 * option_map_or size-Expression l.middle.now 0 + 1)

abbrev pub decreases-call_builtin : goal.decreases-call_builtin
decreases-call_builtin g l =
    l.self.now.depth * frame_size l.self.now.bundle.now + (expressions_size l.arguments.now + 1)

abbrev pub decreases-coalesce : goal.decreases-coalesce
decreases-coalesce g l = l.self.now.depth * frame_size l.self.now.bundle.now + (5 * max (size-Expression l.left.now)
    (size-Expression l.right.now) + 3)

abbrev pub decreases-coalesce_assign : goal.decreases-coalesce_assign
decreases-coalesce_assign g l = l.self.now.depth * frame_size l.self.now.bundle.now + (5 * max (size-Place l.place.now)
    (size-Expression l.right.now) + 3)

abbrev pub decreases-coalesce_under : goal.decreases-coalesce_under
decreases-coalesce_under g l =
    l.self.now.depth * frame_size l.self.now.bundle.now + (5 * size-Expression l.right.now + 2)

abbrev pub decreases-compound : goal.decreases-compound
decreases-compound g l =
    l.self.now.depth * frame_size l.self.now.bundle.now + (5 * max (size-Place l.place.now)
    (size-Expression l.right.now) + 3)

abbrev pub decreases-compound_under : goal.decreases-compound_under
decreases-compound_under g l =
    l.self.now.depth * frame_size l.self.now.bundle.now + (5 * size-Expression l.right.now + 2)

abbrev pub decreases-conditional : goal.decreases-conditional
decreases-conditional g l =
    l.self.now.depth * frame_size l.self.now.bundle.now + (5 * max (size-Expression l.test.now) (max
    (option_map_or size-Expression l.middle.now 0) (size-Expression l.otherwise.now)) + 3)

abbrev pub decreases-constants : goal.decreases-constants
decreases-constants g l = l.self.now.depth * frame_size l.self.now.bundle.now + (definitions_size l.all.now + 1)

abbrev pub decreases-do_turns : goal.decreases-do_turns
decreases-do_turns g l =
    l.self.now.depth * frame_size l.self.now.bundle.now + (expression_size l.test.now + statement_size l.body.now + 2)

abbrev pub decreases-each : goal.decreases-each
decreases-each g l = l.self.now.depth * frame_size l.self.now.bundle.now + (statement_size l.body.now + 2)

abbrev pub decreases-echo : goal.decreases-echo
decreases-echo g l = l.self.now.depth * frame_size l.self.now.bundle.now + (expressions_size l.operands.now + 1)

abbrev pub decreases-for_turns : goal.decreases-for_turns
decreases-for_turns g l = l.self.now.depth * frame_size l.self.now.bundle.now +
    (expressions_size l.before.now + expressions_size l.tests.now + expressions_size l.after.now + statement_size
    l.body.now + 2)

abbrev pub decreases-foreach : goal.decreases-foreach
decreases-foreach g l =
    l.self.now.depth * frame_size l.self.now.bundle.now + (expression_size l.subject.now + statement_size l.body.now +
    3)

abbrev pub decreases-effect : goal.decreases-effect
decreases-effect g l = l.self.now.depth * frame_size l.self.now.bundle.now + (expression_size l.e.now + 1)

abbrev pub decreases-effects : goal.decreases-effects
decreases-effects g l = l.self.now.depth * frame_size l.self.now.bundle.now + expressions_size l.all.now

abbrev pub decreases-exit : goal.decreases-exit
decreases-exit g l = l.self.now.depth * frame_size l.self.now.bundle.now + (optional_size l.value.now + 3)

abbrev pub decreases-expression : goal.decreases-expression
decreases-expression g l = l.self.now.depth * frame_size l.self.now.bundle.now + expression_size l.e.now

abbrev pub decreases-file : goal.decreases-file
decreases-file g l = l.self.now.depth * frame_size l.self.now.bundle.now

abbrev pub decreases-found : goal.decreases-found
decreases-found g l = l.self.now.depth * frame_size l.self.now.bundle.now + (expression_size l.e.now + 1)

abbrev pub decreases-holds : goal.decreases-holds
decreases-holds g l = l.self.now.depth * frame_size l.self.now.bundle.now + (expression_size l.e.now + 1)

abbrev pub decreases-loop_body : goal.decreases-loop_body
decreases-loop_body g l = l.self.now.depth * frame_size l.self.now.bundle.now + (statement_size l.body.now + 1)

abbrev pub decreases-missing_at : goal.decreases-missing_at
decreases-missing_at g l = l.self.now.depth * frame_size l.self.now.bundle.now + (5 * size-Place l.place.now + 2)

abbrev pub decreases-function : goal.decreases-function
decreases-function g l = l.self.now.depth * frame_size l.self.now.bundle.now + (body_size l.function.now.body + 1)

abbrev pub decreases-include : goal.decreases-include
decreases-include g l = l.self.now.depth * frame_size l.self.now.bundle.now + 1

abbrev pub decreases-included : goal.decreases-included
decreases-included g l =
    l.self.now.depth * frame_size l.self.now.bundle.now + (body_size (statements_of l.self.now.bundle.now l.file) + 1)

abbrev pub decreases-inclusion : goal.decreases-inclusion
decreases-inclusion g l = l.self.now.depth * frame_size l.self.now.bundle.now + (5 * size-Expression l.file.now + 2)

abbrev pub decreases-index : goal.decreases-index
decreases-index g l = l.self.now.depth * frame_size l.self.now.bundle.now + (5 * max (size-Expression l.base.now)
    (most size-Expression l.indices.now) + 3)

abbrev pub decreases-isset : goal.decreases-isset
decreases-isset g l = l.self.now.depth * frame_size l.self.now.bundle.now + (5 * most size-Place l.places.now + 3)

abbrev pub decreases-item : goal.decreases-item
decreases-item g l = l.self.now.depth * frame_size l.self.now.bundle.now + (5 * size-Item l.item.now + 1)

abbrev pub decreases-keyed : goal.decreases-keyed
decreases-keyed g l =
    l.self.now.depth * frame_size l.self.now.bundle.now + (5 * max (size-Expression l.key.now)
    (size-Expression l.item.now) + 2)

abbrev pub decreases-link : goal.decreases-link
decreases-link g l = l.self.now.depth * frame_size l.self.now.bundle.now + (5 * size-Link l.link.now + 1)

abbrev pub decreases-links : goal.decreases-links
decreases-links g l = l.self.now.depth * frame_size l.self.now.bundle.now + (5 * most size-Link l.links.now + 2)

abbrev pub decreases-named : goal.decreases-named
decreases-named g l = l.self.now.depth * frame_size l.self.now.bundle.now + (expressions_size l.arguments.now + 2)

abbrev pub decreases-put : goal.decreases-put
decreases-put g l =
    l.self.now.depth * frame_size l.self.now.bundle.now + (5 * max (size-Place l.place.now)
    (size-Expression l.right.now) + 3)

abbrev pub decreases-put_combined : goal.decreases-put_combined
decreases-put_combined g l = l.self.now.depth * frame_size l.self.now.bundle.now + (expression_size l.right.now + 3)

abbrev pub decreases-put_compound : goal.decreases-put_compound
decreases-put_compound g l =
    l.self.now.depth * frame_size l.self.now.bundle.now + (5 * max (size-Place l.place.now)
    (size-Expression l.right.now) + 4)

abbrev pub decreases-put_entry : goal.decreases-put_entry
decreases-put_entry g l =
    l.self.now.depth * frame_size l.self.now.bundle.now + (5 * max (size-Expression l.index.now)
    (size-Expression l.right.now) + 2)

abbrev pub decreases-put_assigned : goal.decreases-put_assigned
decreases-put_assigned g l =
    l.self.now.depth * frame_size l.self.now.bundle.now + (5 * max (size-Place l.place.now)
    (size-Expression l.right.now) + 4)

abbrev pub decreases-put_variable : goal.decreases-put_variable
decreases-put_variable g l = l.self.now.depth * frame_size l.self.now.bundle.now + (expression_size l.right.now + 1)

abbrev pub decreases-put_step : goal.decreases-put_step
decreases-put_step g l = l.self.now.depth * frame_size l.self.now.bundle.now + (5 * size-Place l.place.now + 3)

abbrev pub decreases-return_value : goal.decreases-return_value
decreases-return_value g l = l.self.now.depth * frame_size l.self.now.bundle.now + (optional_size l.value.now + 3)

abbrev pub decreases-statement : goal.decreases-statement
decreases-statement g l = l.self.now.depth * frame_size l.self.now.bundle.now + statement_size l.statement.now

abbrev pub decreases-step : goal.decreases-step
decreases-step g l = l.self.now.depth * frame_size l.self.now.bundle.now + (5 * size-Place l.place.now + 3)

abbrev pub decreases-test : goal.decreases-test
decreases-test g l = l.self.now.depth * frame_size l.self.now.bundle.now + expressions_size l.all.now

abbrev pub decreases-turns : goal.decreases-turns
decreases-turns g l = l.self.now.depth * frame_size l.self.now.bundle.now +
    (expressions_size l.tests.now + expressions_size l.after.now + statement_size l.body.now + 1)

abbrev pub decreases-under : goal.decreases-under
decreases-under g l = l.self.now.depth * frame_size l.self.now.bundle.now + (5 * most size-Expression l.indices.now + 2)

abbrev pub decreases-unset : goal.decreases-unset
decreases-unset g l = l.self.now.depth * frame_size l.self.now.bundle.now + (5 * most size-Place l.places.now + 3)

abbrev pub decreases-value : goal.decreases-value
decreases-value g l = l.self.now.depth * frame_size l.self.now.bundle.now + (expression_size l.e.now + 1)

abbrev pub decreases-values : goal.decreases-values
decreases-values g l = l.self.now.depth * frame_size l.self.now.bundle.now + expressions_size l.all.now

abbrev pub invariant-values-loop-e : goal.invariant-values-loop-e
invariant-values-loop-e g l = (x : Result (List Value) Halt) (t : State)
    → Evaluates (g.O.Outside.rules l.self.outside.now) (more_values (drop l.e-index l.all) l.values.items
    (goes_by l.self) l.state) x t
    → Evaluates (g.O.Outside.rules l.self.outside.now) (evaluations l.all (goes_by l.self) l.fn.state) x t

abbrev pub invariant-test-loop-e : goal.invariant-test-loop-e
invariant-test-loop-e g l = (x : Result Bool Halt) (t : State)
    → Evaluates (g.O.Outside.rules l.self.outside.now) (test_from (goes_by l.self) l.holds (drop l.e-index l.all)
    l.state) x t
    → Evaluates (g.O.Outside.rules l.self.outside.now) (and_then (evaluations l.all (goes_by l.self) l.fn.state)
    (λ values u. Done (last_holds values) u)) x t

abbrev pub invariant-effects-loop-e : goal.invariant-effects-loop-e
invariant-effects-loop-e g l = (x : Result Unit Halt) (t : State)
    → Evaluates (g.O.Outside.rules l.self.outside.now) (without_values (goes_by l.self) (drop l.e-index l.all) l.state)
    x t
    → Evaluates (g.O.Outside.rules l.self.outside.now) (without_values (goes_by l.self) l.all l.fn.state) x t

abbrev pub invariant-array-loop-item : goal.invariant-array-loop-item
invariant-array-loop-item g l = (x : Result Value Halt) (t : State)
    → Evaluates (g.O.Outside.rules l.self.outside.now) (items_run (map item_run_of (drop l.item-index l.items)) l.array
    (goes_by l.self) l.state) x t
    → Evaluates (g.O.Outside.rules l.self.outside.now) (items_run (map item_run_of l.items)
    (variant.Array empty) (goes_by l.self) l.fn.state) x t

abbrev pub invariant-links-loop-link : goal.invariant-links-loop-link
invariant-links-loop-link g l = (x : Result Value Halt) (t : State)
    → Evaluates (g.O.Outside.rules l.self.outside.now) (links_run (map link_run (drop l.link-index l.links)) l.value
    (goes_by l.self) l.state) x t
    → Evaluates (g.O.Outside.rules l.self.outside.now) (links_run (map link_run l.links) l.fn.first
    (goes_by l.self) l.fn.state) x t

abbrev pub invariant-isset-loop-place : goal.invariant-isset-loop-place
invariant-isset-loop-place g l = (x : Result Value Halt) (t : State)
    → Evaluates (g.O.Outside.rules l.self.outside.now) (isset_run (map place_run (drop l.place-index l.places))
    (goes_by l.self) l.state) x t
    → Evaluates (g.O.Outside.rules l.self.outside.now) (isset_run (map place_run l.places) (goes_by l.self) l.fn.state)
    x t

abbrev pub invariant-unset-loop-place : goal.invariant-unset-loop-place
invariant-unset-loop-place g l = (x : Result Unit Halt) (t : State)
    → Evaluates (g.O.Outside.rules l.self.outside.now) (unset_run (map place_run (drop l.place-index l.places))
    (goes_by l.self) l.state) x t
    → Evaluates (g.O.Outside.rules l.self.outside.now) (unset_run (map place_run l.places) (goes_by l.self) l.fn.state)
    x t

abbrev pub invariant-body-loop-statement : goal.invariant-body-loop-statement
invariant-body-loop-statement g l = (x : Result Signal Halt) (t : State)
    → Evaluates (g.O.Outside.rules l.self.outside.now) (body_run (drop l.statement-index l.statements)
    (goes_by l.self) l.state) x t
    → Evaluates (g.O.Outside.rules l.self.outside.now) (body_run l.statements (goes_by l.self) l.fn.state) x t

abbrev pub invariant-echo-loop-operand : goal.invariant-echo-loop-operand
invariant-echo-loop-operand g l = (x : Result Signal Halt) (t : State)
    → Evaluates (g.O.Outside.rules l.self.outside.now) (echoes (map expression_run (drop l.operand-index l.operands))
    (goes_by l.self) l.state) x t
    → Evaluates (g.O.Outside.rules l.self.outside.now) (echoes (map expression_run l.operands)
    (goes_by l.self) l.fn.state) x t

abbrev pub invariant-constants-loop-definition : goal.invariant-constants-loop-definition
invariant-constants-loop-definition g l = (x : Result Signal Halt) (t : State)
    → Evaluates (g.O.Outside.rules l.self.outside.now) (constants_run (drop l.definition-index l.all)
    (goes_by l.self) l.state) x t
    → Evaluates (g.O.Outside.rules l.self.outside.now) (constants_run l.all (goes_by l.self) l.fn.state) x t

abbrev pub invariant-arms-loop-arm : goal.invariant-arms-loop-arm
invariant-arms-loop-arm g l = (x : Result Signal Halt) (t : State)
    → Evaluates (g.O.Outside.rules l.self.outside.now) (arms_run (map arm_run (drop l.arm-index l.arms))
    (option_map statement_run l.otherwise)
    (goes_by l.self) l.state) x t → Evaluates (g.O.Outside.rules l.self.outside.now) (arms_run (map arm_run l.arms)
    (option_map statement_run l.otherwise) (goes_by l.self) l.fn.state) x t

abbrev pub invariant-turns-loop-turn : goal.invariant-turns-loop-turn
invariant-turns-loop-turn g l = (x : Result Signal Halt) (t : State)
    → Evaluates (g.O.Outside.rules l.self.outside.now) (turns (l.left - l._turn) l.line
    (evaluations l.tests (goes_by l.self))
    (evaluations l.after (goes_by l.self)) (statement_run l.body (goes_by l.self)) l.state) x t
    → Evaluates (g.O.Outside.rules l.self.outside.now) (turns l.left l.line (evaluations l.tests (goes_by l.self))
    (evaluations l.after
    (goes_by l.self)) (statement_run l.body (goes_by l.self)) l.fn.state) x t

abbrev pub invariant-do_turns-loop-turn : goal.invariant-do_turns-loop-turn
invariant-do_turns-loop-turn g l = (x : Result Signal Halt) (t : State)
    → Evaluates (g.O.Outside.rules l.self.outside.now) (do_turns (l.left - l._turn) l.line
    (evaluation l.test (goes_by l.self))
    (statement_run l.body (goes_by l.self)) l.state) x t
    → Evaluates (g.O.Outside.rules l.self.outside.now) (do_turns l.left l.line (evaluation l.test (goes_by l.self))
    (statement_run l.body
    (goes_by l.self)) l.fn.state) x t

abbrev pub invariant-each-loop-at : goal.invariant-each-loop-at
invariant-each-loop-at g l = (x : Result Signal Halt) (t : State)
    → Evaluates (g.O.Outside.rules l.self.outside.now) (each_run l.line l.binding (drop l.at l.array.pairs)
    (statement_run l.body
    (goes_by l.self)) l.state) x t
    → Evaluates (g.O.Outside.rules l.self.outside.now) (each_run l.line l.binding (drop l.from (entries l.fn.subject))
    (statement_run l.body
    (goes_by l.self)) l.fn.state) x t

abbrev pub invariant-under-loop-e : goal.invariant-under-loop-e
invariant-under-loop-e g l = (x : Result Value Halt) (t : State)
    → Evaluates (g.O.Outside.rules l.self.outside.now) (indices_run (entries_by l.reading)
    (map expression_run (drop l.e-index l.indices)) l.value
    (goes_by l.self) l.state) x t
    → Evaluates (g.O.Outside.rules l.self.outside.now) (indices_run (entries_by l.reading)
    (map expression_run l.indices) l.fn.base (goes_by l.self) l.fn.state) x t
