-- What the evaluator answers is what its parts give, one after another.
use Rattle.std.proofs.Common.{◌≡◌, ◌+◌, ◌-◌, ◌≤◌, [], ◌∷◌, drop, length, rules, sym, ap, ◌∙◌, add-one, arith}
use Rattle.std.specs.Prelude.{option_map}
use Rattle.std.proofs.Math.ListN.{drop_of_length-le as at_end}
use Rattle.std.proofs.lemmas.Int.{to_z-of_z}
use mir.Syntax.{w64}
use mir.Val.{SFits}
use Rattle.dp_meaning.specs.inner.Evaluation.{goes_by}
use Rattle.dp_actions.specs.Calls.{callee_of}
use Rattle.dp_actions.specs.Expressions.{evaluation, evaluations}
use Rattle.dp_meaning.specs.inner.Sizes.{arm_size, body_size, definitions_size, expressions_size, statement_size}
use Rattle.dp_actions.specs.declared.signal.Signal.TheVariants.{Next}
use Rattle.dp_actions.specs.Effects.{print_run}
use Rattle.dp_actions.specs.Run.{Done, and_then, given_up}
use Rattle.dp_actions.specs.Statements.{for_turns, statement_run}
use Rattle.dp_actions.specs.Values.{holds}
use Rattle.dp_meaning.proofs.CallLaws.{next-done, suc-call, suc-include, zero-call, zero-include}
use Rattle.dp_meaning.proofs.ByEvaluator.{by-arm, by-bundle, by-call, by-do, by-file, by-for, by-turns}
use Rattle.dp_meaning.proofs.Drives.{at_once, breaks_off, ends, exits, gives, goes_on, joined_off, joined_on, passes, stops_at, tested_off, tested_on, then_at, then_on}
use Rattle.dp_actions.proofs.GivenUp.{assign-given_up}
use Rattle.dp_actions.proofs.LinkedValues.{only}
use Rattle.dp_actions.proofs.Layers.{found-plain, run-Array, run-Assign, run-Bool, run-Call, run-Chain, run-Coalesce, run-CoalesceAssign, run-Compound, run-Conditional, run-Constant, run-Include, run-Index, run-Isset, run-item-None, run-item-Some, run-link, run-Null, run-Number, run-place, run-Push, run-Step, run-Text, run-Unary, run-Variable}
use Rattle.dp_actions.proofs.StatementLayers.{kind-Block, kind-Break, kind-Constants, kind-Continue, kind-DoWhile, kind-Echo, kind-Empty, kind-Exit, kind-Expression, kind-For, kind-Foreach, kind-Global, kind-If, kind-Return, kind-Unset, kind-While, run-arm, run-statement}
use Rattle.dp_meaning.proofs.ListLaws.{constant_off, constant_on, front, front-at, no_items, place_off, place_on, values-all, values-break, values-first, values-more}
use Rattle.dp_meaning.proofs.GivenUp.{assignment-given_up, entry-given_up, step-given_up, test-all, test-break, test-first, test-more, variable-given_up, without-all, without-break, without-more}
use Rattle.dp_meaning.proofs.LoopLaws.{bind-breaks, body-breaks, body-out, do-body-breaks, do-body-out, do-end, do-goes-on, do-stops, do-test-breaks, each-body-breaks, each-goes-on, each-out, each-stops, next-breaks, test-breaks, turn-goes-on, turn-stops, turns-end}
use Rattle.dp_meaning.proofs.SizeLaws.{arms_size, frame-callee, frame-file, frame_less, places_size, size-arm, size-Block, size-Constants, size-definition, size-DoWhile, size-Echo, size-Exit, size-Expression, size-For, size-Foreach, size-If, size-in, size-Return, size-some, size-Unset, size-While, sized}
use Rattle.dp_actions.proofs.Tails.{kept-none, kept-some, present-none, present-some}
use Rattle.dp_meaning.proofs.evaluator.Evaluator.+evaluate.Goals as goal

pub expression-returns-in-Null : goal.expression-returns-in-Null
expression-returns-in-Null g t c = rw (c.in-Null.is, run-Null) gives

pub expression-returns-in-Bool : goal.expression-returns-in-Bool
expression-returns-in-Bool g t c = rw (c.in-Bool.is, run-Bool) gives

pub expression-returns-in-Number : goal.expression-returns-in-Number
expression-returns-in-Number g t c = let fits : SFits w64 c.in-Number.n = search rules in rw
    (c.in-Number.is, run-Number, to_z-of_z w64 c.in-Number.n fits) gives

pub expression-returns-in-Text : goal.expression-returns-in-Text
expression-returns-in-Text g t c = rw (c.in-Text.is, run-Text) (at_once (c.text_value.ensures _))

pub expression-returns-in-Variable : goal.expression-returns-in-Variable
expression-returns-in-Variable g t c = rw (c.in-Variable.is, run-Variable) (at_once c.variable_value.ensures)

pub expression-returns-in-Constant : goal.expression-returns-in-Constant
expression-returns-in-Constant g t c = rw (c.in-Constant.is, run-Constant) (at_once c.constant_value.ensures.run)

pub expression-returns-in-Array : goal.expression-returns-in-Array
expression-returns-in-Array g t c = rw (c.in-Array.is, run-Array) (rw c.as_slice.ensures at c.array.ensures)

pub expression-returns-in-Call : goal.expression-returns-in-Call
expression-returns-in-Call g t c = let same = by-call c.args.self.now c.in-Call.name (evaluations c.in-Call.arguments)
    c.args.state.now in rw (c.in-Call.is, run-Call, same) (rw c.as_slice-in-Call.ensures at c.named.ensures)

pub expression-returns-in-Isset : goal.expression-returns-in-Isset
expression-returns-in-Isset g t c = rw (c.in-Isset.is, run-Isset) (rw c.as_slice-in-Isset.ensures at c.isset.ensures)

pub expression-returns-in-Index : goal.expression-returns-in-Index
expression-returns-in-Index g t c = rw (c.in-Index.is, run-Index) (rw (c.as_ref.ensures, c.as_slice-in-Index.ensures) at
    c.index.ensures)

pub expression-returns-in-Unary : goal.expression-returns-in-Unary
expression-returns-in-Unary g t c = rw (c.in-Unary.is, run-Unary) (then_on (rw c.as_ref-in-Unary.ensures at
    c.expression.ensures) c.then_unary.ensures)

pub expression-returns-in-Step : goal.expression-returns-in-Step
expression-returns-in-Step g t c = rw (c.in-Step.is, run-Step) c.step.ensures

pub expression-returns-in-Chain : goal.expression-returns-in-Chain
expression-returns-in-Chain g t c = rw (c.in-Chain.is, run-Chain) (rw
    (c.as_ref-in-Chain.ensures, c.as_slice-in-Chain.ensures) at c.chain.ensures)

pub expression-returns-in-Coalesce : goal.expression-returns-in-Coalesce
expression-returns-in-Coalesce g t c = rw (c.in-Coalesce.is, run-Coalesce) (rw
    (c.as_ref-in-Coalesce.ensures, c.as_ref-in-Coalesce-2.ensures) at c.coalesce.ensures)

pub expression-returns-in-Conditional : goal.expression-returns-in-Conditional
expression-returns-in-Conditional g t c = rw (c.in-Conditional.is, run-Conditional) (rw
    (c.as_ref-in-Conditional.ensures, c.as_ref-in-Conditional-2.ensures) at c.conditional.ensures)

pub expression-returns-in-Include : goal.expression-returns-in-Include
expression-returns-in-Include g t c = rw (c.in-Include.is, run-Include) (rw c.as_ref-in-Include.ensures at
    c.inclusion.ensures)

pub expression-returns-in-Assign : goal.expression-returns-in-Assign
expression-returns-in-Assign g t c = rw (c.in-Assign.is, run-Assign) (rw c.as_ref-in-Assign.ensures at c.assign.ensures)

pub expression-returns-in-Compound : goal.expression-returns-in-Compound
expression-returns-in-Compound g t c = rw (c.in-Compound.is, run-Compound) (rw c.as_ref-in-Compound.ensures at
    c.compound.ensures)

pub expression-returns-in-CoalesceAssign : goal.expression-returns-in-CoalesceAssign
expression-returns-in-CoalesceAssign g t c = rw (c.in-CoalesceAssign.is, run-CoalesceAssign) (rw
    c.as_ref-in-CoalesceAssign.ensures at c.coalesce_assign.ensures)

pub expression-returns-in-Push : goal.expression-returns-in-Push
expression-returns-in-Push g t c = rw (c.in-Push.is, run-Push) (rw c.as_ref-in-Push.ensures at c.assign-in-Push.ensures)

pub found-returns-in-Index : goal.found-returns-in-Index
found-returns-in-Index g t c = rw (c.in-Index.is, run-Index) (rw (c.as_ref.ensures, c.as_slice.ensures) at
    c.index.ensures)

pub found-returns-in_default : goal.found-returns-in_default
found-returns-in_default g t c = rw (found-plain c.args.e.now c.in_default.not-Index) c.expression.ensures

pub holds-returns-in-Some : goal.holds-returns-in-Some
holds-returns-in-Some g t c = let seen = rw c.in-Some.is at c.truth.ensures in at_once (seen _)

pub holds-returns-in-None : goal.holds-returns-in-None
holds-returns-in-None g t c = then_on c.expression.ensures (c.then_holds.ensures _)

pub value-returns-in-Some : goal.value-returns-in-Some
value-returns-in-Some g t c = let fits : SFits w64 c.in-Some.n = search rules in let seen = rw c.in-Some.is at
    c.integer.ensures in rw (to_z-of_z w64 c.in-Some.n fits) (at_once (seen _))

pub values-loop-e-init : goal.values-loop-e-init
values-loop-e-init g t c = λ x u e. values-first _ _ _ _ x u (rw c.new-values.ensures.items at e)

pub values-returns-in_err-value : goal.values-returns-in_err-value
values-returns-in_err-value g t c = exits c.from_residual.ensures.1 (c.loop-e.invariant _ _ (rw (front _
    c.loop-e-test.true c.e-item.is) (values-break _ _ _ _ _ _ _ _ c.in_err-value.ensures)))

pub values-loop-e-preserved : goal.values-loop-e-preserved
values-loop-e-preserved g t c = λ x u e. c.loop-e.invariant x u (rw (front _ c.loop-e-test.true c.e-item.is)
    (values-more _ _ _ _ _ _ _ _ x u c.in_ok-value.ensures (rw c.in_ok-push.ensures.items at e)))

pub values-returns : goal.values-returns
values-returns g t c = c.loop-e.invariant _ _ (rw (at_end _ c.loop-e-test.false, c.of.ensures) (values-all _ (goes_by
    c.args.self.now) _ _))

pub test-loop-e-init : goal.test-loop-e-init
test-loop-e-init g t c = λ x u e. test-first _ _ _ _ x u e

pub test-returns-in_err-holds : goal.test-returns-in_err-holds
test-returns-in_err-holds g t c = exits c.from_residual.ensures.1 (c.loop-e.invariant _ _ (rw (front _
    c.loop-e-test.true c.e-item.is) (test-break _ _ _ _ _ _ c.in_err-holds.ensures)))

pub test-loop-e-preserved : goal.test-loop-e-preserved
test-loop-e-preserved g t c = λ x u e. c.loop-e.invariant x u (rw (front _ c.loop-e-test.true c.e-item.is) (test-more _
    _ _ _ _ _ c.in_ok-holds.ensures e))

pub test-returns : goal.test-returns
test-returns g t c = c.loop-e.invariant _ _ (rw (at_end _ c.loop-e-test.false) (test-all _ (goes_by c.args.self.now) _
    _))

pub effects-returns-in_err-effect : goal.effects-returns-in_err-effect
effects-returns-in_err-effect g t c = exits c.from_residual.ensures.1 (c.loop-e.invariant _ _ (rw (front _
    c.loop-e-test.true c.e-item.is) (without-break _ _ _ _ _ c.in_err-effect.ensures)))

pub effects-loop-e-preserved : goal.effects-loop-e-preserved
effects-loop-e-preserved g t c = λ x u e. c.loop-e.invariant x u (rw (front _ c.loop-e-test.true c.e-item.is)
    (without-more _ _ _ _ _ c.in_ok-effect.ensures e))

pub effects-returns : goal.effects-returns
effects-returns g t c = c.loop-e.invariant _ _ (rw (at_end _ c.loop-e-test.false) (without-all _ (goes_by
    c.args.self.now) _))

pub effect-returns-in-Assign : goal.effect-returns-in-Assign
effect-returns-in-Assign g t c = rw (c.in-Assign.is, run-Assign) (rw c.as_ref.ensures at c.put_assigned.ensures)

pub effect-returns-in-Step : goal.effect-returns-in-Step
effect-returns-in-Step g t c = rw (c.in-Step.is, run-Step) (c.put_step.ensures _)

pub effect-returns-in-Push : goal.effect-returns-in-Push
effect-returns-in-Push g t c = rw (c.in-Push.is, run-Push) (rw c.as_ref-in-Push.ensures at c.put.ensures)

pub effect-returns-in-Compound : goal.effect-returns-in-Compound
effect-returns-in-Compound g t c = rw (c.in-Compound.is, run-Compound) (rw c.as_ref-in-Compound.ensures at
    c.put_compound.ensures)

pub effect-returns-in_ok-value-in_default : goal.effect-returns-in_ok-value-in_default
effect-returns-in_ok-value-in_default g t c = goes_on given_up c.in_ok-value-in_default.ensures gives

pub inclusion-returns : goal.inclusion-returns
inclusion-returns g t c = goes_on _ c.in_ok-value.ensures c.include-answer.ensures

pub index-returns : goal.index-returns
index-returns g t c = goes_on _ c.in_ok-value.ensures c.under.ensures

pub under-loop-e-init : goal.under-loop-e-init
under-loop-e-init g t c = λ x u e. e

pub under-returns-in_err-value : goal.under-returns-in_err-value
under-returns-in_err-value g t c = exits c.from_residual.ensures.1 (c.loop-e.invariant _ _ (rw (front _
    c.loop-e-test.true c.e-item.is) (joined_off _ _ _ (then_on c.expression-at.ensures c.in_err-value.ensures))))

pub under-loop-e-preserved : goal.under-loop-e-preserved
under-loop-e-preserved g t c = λ x u e. c.loop-e.invariant x u (rw (front _ c.loop-e-test.true c.e-item.is) (joined_on _
    _ _ (then_on c.expression-at.ensures c.in_ok-value.ensures) e))

pub under-returns : goal.under-returns
under-returns g t c = c.loop-e.invariant _ _ (rw (at_end _ c.loop-e-test.false) gives)

pub base-returns-in-Plain : goal.base-returns-in-Plain
base-returns-in-Plain g t c = rw c.in-Plain.is c.expression.ensures

pub base-returns-in-Found : goal.base-returns-in-Found
base-returns-in-Found g t c = rw c.in-Found.is c.found.ensures

pub array-returns-in_err-array : goal.array-returns-in_err-array
array-returns-in_err-array g t c = exits c.from_residual.ensures.1 (c.loop-item.invariant _ _ (rw (front _
    c.loop-item-test.true c.item-item.is) (breaks_off _ c.in_err-array.ensures)))

pub array-loop-item-preserved : goal.array-loop-item-preserved
array-loop-item-preserved g t c = λ x u e. c.loop-item.invariant x u (rw (front _ c.loop-item-test.true c.item-item.is)
    (goes_on _ c.in_ok-array.ensures e))

pub array-returns : goal.array-returns
array-returns g t c = c.loop-item.invariant _ _ (rw (at_end _ c.loop-item-test.false) gives)

pub item-returns-in-None : goal.item-returns-in-None
item-returns-in-None g t c = rw (run-item-None c.args.item.now c.in-None.is) (then_on c.expression.ensures
    c.then_pushed.ensures)

pub item-returns-in-Some : goal.item-returns-in-Some
item-returns-in-Some g t c = rw (run-item-Some c.args.item.now _ c.in-Some.is) c.keyed.ensures

pub keyed-returns-in-Ok : goal.keyed-returns-in-Ok
keyed-returns-in-Ok g t c = goes_on _ (rw c.in-Ok.is at c.expression.ensures) (then_on c.expression-in-Ok.ensures
    c.then_put-answer.ensures)

pub keyed-returns-in-Err : goal.keyed-returns-in-Err
keyed-returns-in-Err g t c = breaks_off _ (rw c.in-Err.is at c.expression.ensures)

pub chain-returns : goal.chain-returns
chain-returns g t c = goes_on _ c.in_ok-value.ensures c.links.ensures

pub links-returns-in_err-value : goal.links-returns-in_err-value
links-returns-in_err-value g t c = exits c.from_residual.ensures.1 (c.loop-link.invariant _ _ (rw (front _
    c.loop-link-test.true c.link-item.is) (breaks_off _ c.in_err-value.ensures)))

pub links-loop-link-preserved : goal.links-loop-link-preserved
links-loop-link-preserved g t c = λ x u e. c.loop-link.invariant x u (rw (front _ c.loop-link-test.true c.link-item.is)
    (goes_on _ c.in_ok-value.ensures e))

pub links-returns : goal.links-returns
links-returns g t c = c.loop-link.invariant _ _ (rw (at_end _ c.loop-link-test.false) gives)

pub link-returns-then-holds : goal.link-returns-then-holds
link-returns-then-holds g t c = rw (run-link, c.in-Or.is, sym c.holds.ensures ∙ c.if-holds.true) gives

pub link-returns-else-holds : goal.link-returns-else-holds
link-returns-else-holds g t c = rw (run-link, c.in-Or.is, sym c.holds.ensures ∙ c.if-holds.false) (then_on
    c.expression.ensures (c.then_truth.ensures _))

pub link-returns-then-not-holds : goal.link-returns-then-not-holds
link-returns-then-not-holds g t c = rw (run-link, c.in-And.is, sym c.holds-in-And.ensures ∙ c.if-not-holds.true) gives

pub link-returns-else-not-holds : goal.link-returns-else-not-holds
link-returns-else-not-holds g t c = rw (run-link, c.in-And.is, sym c.holds-in-And.ensures ∙ c.if-not-holds.false)
    (then_on c.expression-in-And.ensures (c.then_truth-in-And.ensures _))

pub link-returns-in-Of : goal.link-returns-in-Of
link-returns-in-Of g t c = rw (run-link, c.in-Of.is) (then_on c.expression-in-Of.ensures c.then_binary.ensures)

pub coalesce-returns-in-Some : goal.coalesce-returns-in-Some
coalesce-returns-in-Some g t c = let k = present-some _ _ (sym c.present.ensures ∙ c.in-Some.is) in goes_on _
    c.in_ok-value.ensures (rw (k.0, k.1) gives)

pub coalesce-returns-in-None : goal.coalesce-returns-in-None
coalesce-returns-in-None g t c = goes_on _ c.in_ok-value.ensures (rw (present-none _ (sym c.present.ensures ∙
    c.in-None.is)) c.expression.ensures)

pub conditional-returns-in-Some : goal.conditional-returns-in-Some
conditional-returns-in-Some g t c = let k = kept-some c.in_ok-value.value _ (sym c.kept.ensures ∙ c.in-Some.is) in
    goes_on _ c.in_ok-value.ensures (rw (k.0, k.1) c.chosen.ensures)

pub conditional-returns-in-None : goal.conditional-returns-in-None
conditional-returns-in-None g t c = goes_on _ c.in_ok-value.ensures (rw (kept-none c.in_ok-value.value (sym
    c.kept.ensures ∙ c.in-None.is)) c.expression-in-None.ensures)

pub chosen-returns-in-None : goal.chosen-returns-in-None
chosen-returns-in-None g t c = rw c.in-None.is gives

pub chosen-returns-in-Some : goal.chosen-returns-in-Some
chosen-returns-in-Some g t c = rw c.in-Some.is (rw c.as_ref.ensures at c.expression.ensures)

pub assign-returns-in_err-indices : goal.assign-returns-in_err-indices
assign-returns-in_err-indices g t c = exits c.from_residual.ensures.1 (rw run-place (breaks_off _ (rw c.as_slice.ensures
    at c.in_err-indices.ensures)))

pub assign-returns : goal.assign-returns
assign-returns g t c = rw run-place (goes_on _ (rw c.as_slice.ensures at c.in_ok-indices.ensures) (then_on
    c.expression.ensures (rw c.as_slice-2.ensures at c.then_assign.ensures)))

pub put_assigned-returns-then-is_empty : goal.put_assigned-returns-then-is_empty
unfolding and_then
put_assigned-returns-then-is_empty g t c = let none = no_items c.as_slice.ensures c.is_empty.ensures c.if-is_empty.true
    in rw (run-place, none) c.put_variable.ensures

pub put_variable-returns-in-Some : goal.put_variable-returns-in-Some
put_variable-returns-in-Some g t c = let fits : SFits w64 c.in-Some.n = search rules in let seen = rw c.in-Some.is at
    c.integer.ensures in rw variable-given_up (goes_on _ (at_once (seen _)) (at_once (rw (to_z-of_z w64 c.in-Some.n
    fits) at c.assign_integer.ensures)))

pub put_variable-returns-in_ok-value-in-None : goal.put_variable-returns-in_ok-value-in-None
put_variable-returns-in_ok-value-in-None g t c = rw variable-given_up (goes_on _ c.in_ok-value-in-None.ensures (at_once
    c.assign_variable.ensures))

pub put-returns-in-len1 : goal.put-returns-in-len1
put-returns-in-len1 g t c = let slice = c.as_slice.result.now in let one : slice ≡ c.index-item.result ∷ [] = only
    slice _ (omega arith) (omega arith) c.index-item.is in rw (run-place, sym c.as_slice.ensures ∙ one)
    c.put_entry.ensures

pub put-returns-in_err-indices : goal.put-returns-in_err-indices
put-returns-in_err-indices g t c = exits c.from_residual.ensures.1 (rw (assignment-given_up, run-place) (breaks_off _
    (rw c.as_slice-2.ensures at c.in_err-indices.ensures)))

pub put-returns : goal.put-returns
put-returns g t c = rw (assignment-given_up, run-place) (goes_on _ (rw c.as_slice-2.ensures at c.in_ok-indices.ensures)
    (then_on c.expression.ensures (rw c.as_slice-3.ensures at c.then_put_place.ensures)))

pub put_entry-returns-in_err-index : goal.put_entry-returns-in_err-index
put_entry-returns-in_err-index g t c = exits c.from_residual.ensures.1 (breaks_off _ (breaks_off _ (breaks_off _
    c.in_err-index.ensures)))

pub put_entry-returns : goal.put_entry-returns
put_entry-returns g t c = rw (entry-given_up c.args.push c.args.name.now (evaluations (c.args.index.now ∷ []))
    (evaluation c.args.right.now) (goes_by c.args.self.now) c.args.state.now) (goes_on _ (goes_on _
    c.in_ok-index.ensures (goes_on _ gives gives)) (then_on c.value-2.ensures (rw c.from_ref.ensures.value at
    c.then_put_place-done.ensures)))

pub put_step-returns-then-is_empty : goal.put_step-returns-then-is_empty
unfolding and_then
put_step-returns-then-is_empty g t c = let none = no_items c.as_slice.ensures c.is_empty.ensures c.if-is_empty.true in λ
    order. rw (run-place, none) (at_once (c.step_variable.ensures order))

pub put_step-returns : goal.put_step-returns
put_step-returns g t c = λ order. rw (step-given_up, run-place) (then_on (rw c.as_slice-2.ensures at c.values.ensures)
    (c.then_put_step.ensures order))

pub compound-returns-in_err-indices : goal.compound-returns-in_err-indices
compound-returns-in_err-indices g t c = exits c.from_residual.ensures.1 (rw run-place (breaks_off _ (rw
    c.as_slice.ensures at c.in_err-indices.ensures)))

pub compound-returns : goal.compound-returns
compound-returns g t c = rw run-place (goes_on _ (rw c.as_slice.ensures at c.in_ok-indices.ensures) (rw
    c.as_slice-2.ensures at c.compound_under.ensures))

pub put_compound-returns-then-is_empty : goal.put_compound-returns-then-is_empty
unfolding and_then
put_compound-returns-then-is_empty g t c = let none = no_items c.as_slice.ensures c.is_empty.ensures c.if-is_empty.true
    in rw (run-place, none) c.put_combined.ensures

pub put_compound-returns : goal.put_compound-returns
put_compound-returns g t c = goes_on given_up c.in_ok-value.ensures gives

pub put_combined-returns-in-Some : goal.put_combined-returns-in-Some
put_combined-returns-in-Some g t c = let fits : SFits w64 c.in-Some.n = search rules in let seen = rw c.in-Some.is at
    c.combined_integer.ensures in rw (seen (goes_by c.args.self.now), assign-given_up) (at_once (rw (to_z-of_z w64
    c.in-Some.n fits) at c.assign_integer.ensures))

pub put_combined-returns : goal.put_combined-returns
put_combined-returns g t c = goes_on given_up c.in_ok-value.ensures gives

pub coalesce_assign-returns-in_err-indices : goal.coalesce_assign-returns-in_err-indices
coalesce_assign-returns-in_err-indices g t c = exits c.from_residual.ensures.1 (rw run-place (breaks_off _ (rw
    c.as_slice.ensures at c.in_err-indices.ensures)))

pub coalesce_assign-returns : goal.coalesce_assign-returns
coalesce_assign-returns g t c = rw run-place (goes_on _ (rw c.as_slice.ensures at c.in_ok-indices.ensures) (rw
    c.as_slice-2.ensures at c.coalesce_under.ensures))

pub step-returns : goal.step-returns
step-returns g t c = rw run-place (then_on (rw c.as_slice.ensures at c.values.ensures) c.then_step.ensures)

pub missing_at-returns : goal.missing_at-returns
missing_at-returns g t c = rw run-place (then_on (rw c.as_slice.ensures at c.values.ensures) c.then_missing.ensures)

pub compound_under-returns-in_err-old : goal.compound_under-returns-in_err-old
compound_under-returns-in_err-old g t c = exits c.from_residual.ensures.1 (breaks_off _ (at_once c.in_err-old.ensures))

pub compound_under-returns : goal.compound_under-returns
compound_under-returns g t c = goes_on _ (at_once c.in_ok-old.ensures) (then_on c.value-value.ensures
    c.then_combine.ensures)

pub coalesce_under-returns-in_err-old : goal.coalesce_under-returns-in_err-old
coalesce_under-returns-in_err-old g t c = exits c.from_residual.ensures.1 (breaks_off _ (at_once c.in_err-old.ensures))

pub coalesce_under-returns-in-Some : goal.coalesce_under-returns-in-Some
coalesce_under-returns-in-Some g t c = let k = present-some _ _ (sym c.present.ensures ∙ c.in-Some.is) in goes_on _
    (at_once c.in_ok-old.ensures) (rw (k.0, k.1) gives)

pub coalesce_under-returns-in-None : goal.coalesce_under-returns-in-None
coalesce_under-returns-in-None g t c = goes_on _ (at_once c.in_ok-old.ensures) (rw (present-none _ (sym
    c.present.ensures ∙ c.in-None.is)) (then_on c.expression.ensures c.then_assign.ensures))

pub isset-returns-in_err-missing : goal.isset-returns-in_err-missing
isset-returns-in_err-missing g t c = exits c.from_residual.ensures.1 (c.loop-place.invariant _ _ (rw (front _
    c.loop-place-test.true c.place-item.is) (place_off c.place-item.result (drop (c.loop-place.place-index + 1)
    c.args.places.now) c.args.self.now _ c.in_err-missing.ensures)))

pub isset-returns-then-missing : goal.isset-returns-then-missing
isset-returns-then-missing g t c = c.loop-place.invariant _ _ (rw (front _ c.loop-place-test.true c.place-item.is)
    (place_on c.place-item.result (drop (c.loop-place.place-index + 1) c.args.places.now) c.args.self.now _
    c.in_ok-missing.ensures (rw c.if-missing.true gives)))

pub isset-loop-place-preserved : goal.isset-loop-place-preserved
isset-loop-place-preserved g t c = λ x u e. c.loop-place.invariant x u (rw (front _ c.loop-place-test.true
    c.place-item.is) (place_on c.place-item.result (drop (c.loop-place.place-index + 1) c.args.places.now)
    c.args.self.now _ c.in_ok-missing.ensures (rw c.if-missing.false e)))

pub isset-returns : goal.isset-returns
isset-returns g t c = c.loop-place.invariant _ _ (rw (at_end _ c.loop-place-test.false) gives)

pub unset-returns-in_err-indices : goal.unset-returns-in_err-indices
unset-returns-in_err-indices g t c = exits c.from_residual.ensures.1 (c.loop-place.invariant _ _ (rw (front _
    c.loop-place-test.true c.place-item.is) (rw run-place (breaks_off _ (rw c.as_slice.ensures at
    c.in_err-indices.ensures)))))

pub unset-returns-in_err-unset_place : goal.unset-returns-in_err-unset_place
unset-returns-in_err-unset_place g t c = exits c.from_residual-in_err-unset_place.ensures.1 (c.loop-place.invariant _ _
    (rw (front _ c.loop-place-test.true c.place-item.is) (rw run-place (goes_on _ (rw c.as_slice.ensures at
    c.in_ok-indices.ensures) (breaks_off _ (at_once (rw c.as_slice-in-loop-place.ensures at
    c.in_err-unset_place.ensures)))))))

pub unset-loop-place-preserved : goal.unset-loop-place-preserved
unset-loop-place-preserved g t c = λ x u e. c.loop-place.invariant x u (rw (front _ c.loop-place-test.true
    c.place-item.is) (rw run-place (goes_on _ (rw c.as_slice.ensures at c.in_ok-indices.ensures) (goes_on _ (at_once (rw
    c.as_slice-in-loop-place.ensures at c.in_ok-unset_place.ensures)) e))))

pub unset-returns : goal.unset-returns
unset-returns g t c = c.loop-place.invariant _ _ (rw (at_end _ c.loop-place-test.false) gives)

pub named-returns-in-None : goal.named-returns-in-None
named-returns-in-None g t c = rw (sym c.look_up.ensures ∙ ap (option_map callee_of) c.in-None.is, c.fatal.ensures) ends

pub named-returns-in-Some-BuiltIn : goal.named-returns-in-Some-BuiltIn
named-returns-in-Some-BuiltIn g t c = rw (sym c.look_up.ensures ∙ ap (option_map callee_of) c.in-Some-BuiltIn.is) (rw
    c.in-Some-BuiltIn.field-0-is c.call_builtin.ensures)

pub call_builtin-returns : goal.call_builtin-returns
call_builtin-returns g t c = goes_on _ c.in_ok-values.ensures (at_once (rw c.as_slice.ensures at
    c.native_call.ensures.run))

pub named-returns-in_err-values-in-Some-Declared : goal.named-returns-in_err-values-in-Some-Declared
named-returns-in_err-values-in-Some-Declared g t c = exits c.from_residual.ensures.1 (rw (sym c.look_up.ensures ∙ ap
    (option_map callee_of) c.in-Some-Declared.is) (breaks_off _ c.in_err-values-in-Some-Declared.ensures))

pub named-returns-in_ok-values-in-Some-Declared : goal.named-returns-in_ok-values-in-Some-Declared
named-returns-in_ok-values-in-Some-Declared g t c = rw (sym c.look_up.ensures ∙ ap (option_map callee_of)
    c.in-Some-Declared.is) (rw c.in-Some-Declared.field-0-is (goes_on _ c.in_ok-values-in-Some-Declared.ensures
    c.call.ensures))

pub named-call-requires : goal.named-call-requires
named-call-requires g t c = let found = rw c.in-Some-Declared.field-0-is at (sym c.look_up.ensures ∙ ap (option_map
    callee_of) c.in-Some-Declared.is) in let fits = frame-callee c.args.self.now.bundle.now c.args.name.now
    c.args.state.now c.in-Some-Declared.file c.in-Some-Declared.function.now found in λ κs h.
    (omega (arith, c.decreases), (h, fits))

pub call-returns-then-self-eq0 : goal.call-returns-then-self-eq0
call-returns-then-self-eq0 g t c = rw (zero-call _ _ _ c.if-self-eq0.true, c.fatal.ensures) ends

pub call-returns : goal.call-returns
call-returns g t c = rw (suc-call _ _ _ c.if-self-eq0.false) c.function.ensures

pub call-function-requires : goal.call-function-requires
call-function-requires g t c = λ κs h.
    (omega (arith, frame_less c.args.self.now.depth _ _ c.if-self-eq0.false c.requires, c.decreases), h)

pub function-returns-in_err-enter_call : goal.function-returns-in_err-enter_call
function-returns-in_err-enter_call g t c = exits c.from_residual.ensures.1 (breaks_off _ (at_once
    c.in_err-enter_call.ensures))

pub function-returns-in_err-at_moment : goal.function-returns-in_err-at_moment
function-returns-in_err-at_moment g t c = exits c.from_residual-in_err-at_moment.ensures.1 (goes_on _ (at_once
    c.in_ok-enter_call.ensures) (stops_at c.in_err-at_moment.ensures))

pub function-returns-in_err-signal : goal.function-returns-in_err-signal
function-returns-in_err-signal g t c = exits c.from_residual-in_err-signal.ensures.1 (goes_on _ (at_once
    c.in_ok-enter_call.ensures) (passes c.in_ok-at_moment.ensures (breaks_off _ (rw c.as_slice.ensures at
    c.in_err-signal.ensures))))

pub function-returns : goal.function-returns
function-returns g t c = goes_on _ (at_once c.in_ok-enter_call.ensures) (passes c.in_ok-at_moment.ensures (goes_on _ (rw
    c.as_slice.ensures at c.in_ok-signal.ensures) c.leave.ensures))

pub include-returns-in-None : goal.include-returns-in-None
include-returns-in-None g t c = rw (by-bundle c.args.self.now, sym c.in_ok-file_named_by.ensures ∙ c.in-None.is)
    (at_once (c.not_included.ensures _))

pub include-returns-in-Some : goal.include-returns-in-Some
include-returns-in-Some g t c = rw (by-bundle c.args.self.now, sym c.in_ok-file_named_by.ensures ∙ c.in-Some.is)
    c.file.ensures

pub file-returns-then-self-eq0 : goal.file-returns-then-self-eq0
file-returns-then-self-eq0 g t c = rw (zero-include _ _ _ c.if-self-eq0.true, c.fatal.ensures) ends

pub file-returns : goal.file-returns
file-returns g t c = rw (suc-include _ _ _ c.if-self-eq0.false) c.included.ensures

pub file-included-requires : goal.file-included-requires
file-included-requires g t c = let fits = frame-file c.args.self.now.bundle.now c.args.file in λ κs h.
    (omega (arith, frame_less c.args.self.now.depth _ _ c.if-self-eq0.false fits, c.decreases), h)

pub included-returns-in_err-enter_file : goal.included-returns-in_err-enter_file
included-returns-in_err-enter_file g t c = exits c.from_residual.ensures.1 (rw (by-file c.args.self.now c.args.file
    c.args.state.now) (breaks_off _ (at_once c.in_err-enter_file.ensures)))

pub included-returns-in_err-signal : goal.included-returns-in_err-signal
included-returns-in_err-signal g t c = exits c.from_residual-in_err-signal.ensures.1 (rw (by-file c.args.self.now
    c.args.file c.args.state.now) (goes_on _ (at_once c.in_ok-enter_file.ensures) (breaks_off _ (rw
    c.statements_of.ensures at c.in_err-signal.ensures))))

pub included-returns : goal.included-returns
included-returns g t c = rw (by-file c.args.self.now c.args.file c.args.state.now) (goes_on _ (at_once
    c.in_ok-enter_file.ensures) (goes_on _ (rw c.statements_of.ensures at c.in_ok-signal.ensures) (rw
    (c.leave.ensures, c.returned.ensures) gives)))

pub body-returns-in_err-statement : goal.body-returns-in_err-statement
body-returns-in_err-statement g t c = exits c.from_residual.ensures.1 (c.loop-statement.invariant _ _ (rw (front _
    c.loop-statement-test.true c.statement-item.is) (breaks_off _ c.in_err-statement.ensures)))

pub body-loop-statement-preserved : goal.body-loop-statement-preserved
body-loop-statement-preserved g t c = λ x u e. c.loop-statement.invariant x u (rw (front _ c.loop-statement-test.true
    c.statement-item.is) (goes_on _ (rw c.in-Next.is at c.in_ok-statement.ensures) e))

pub body-returns-in-Break : goal.body-returns-in-Break
body-returns-in-Break g t c = c.loop-statement.invariant _ _ (rw (front _ c.loop-statement-test.true
    c.statement-item.is) (goes_on _ (rw c.in-Break.is at c.in_ok-statement.ensures) gives))

pub body-returns-in-Continue : goal.body-returns-in-Continue
body-returns-in-Continue g t c = c.loop-statement.invariant _ _ (rw (front _ c.loop-statement-test.true
    c.statement-item.is) (goes_on _ (rw c.in-Continue.is at c.in_ok-statement.ensures) gives))

pub body-returns-in-Return : goal.body-returns-in-Return
body-returns-in-Return g t c = c.loop-statement.invariant _ _ (rw (front _ c.loop-statement-test.true
    c.statement-item.is) (goes_on _ (rw c.in-Return.is at c.in_ok-statement.ensures) gives))

pub body-returns : goal.body-returns
body-returns g t c = c.loop-statement.invariant _ _ (rw (at_end _ c.loop-statement-test.false) gives)

pub loop_body-returns-in-Block : goal.loop_body-returns-in-Block
loop_body-returns-in-Block g t c = rw (run-statement, c.in-Block.is, kind-Block) (rw c.as_slice.ensures at
    c.body.ensures)

pub statement-returns-in_err-place-in-Expression : goal.statement-returns-in_err-place-in-Expression
statement-returns-in_err-place-in-Expression g t c = exits c.from_residual.ensures.1 (rw
    (run-statement, c.in-Expression.is, kind-Expression) (stops_at c.in_err-place-in-Expression.ensures))

pub statement-returns-in_err-effect-in-Expression : goal.statement-returns-in_err-effect-in-Expression
statement-returns-in_err-effect-in-Expression g t c = exits c.from_residual-in_err-effect-in-Expression.ensures.1 (rw
    (run-statement, c.in-Expression.is, kind-Expression) (passes c.in_ok-place-in-Expression.ensures (tested_off (λ _.
    tt) _ (λ _ u. Done Next u) c.in_err-effect-in-Expression.ensures)))

pub statement-returns-in_ok-effect-in-Expression : goal.statement-returns-in_ok-effect-in-Expression
statement-returns-in_ok-effect-in-Expression g t c = rw (run-statement, c.in-Expression.is, kind-Expression) (passes
    c.in_ok-place-in-Expression.ensures (tested_on (λ _. tt) _ (λ _ u. Done Next u) c.in_ok-effect-in-Expression.ensures
    gives))

pub statement-returns-in_err-place-in-Echo : goal.statement-returns-in_err-place-in-Echo
statement-returns-in_err-place-in-Echo g t c = exits c.from_residual-in_err-place-in-Echo.ensures.1 (rw
    (run-statement, c.in-Echo.is, kind-Echo) (stops_at c.in_err-place-in-Echo.ensures))

pub statement-returns-in_ok-place-in-Echo : goal.statement-returns-in_ok-place-in-Echo
statement-returns-in_ok-place-in-Echo g t c = rw (run-statement, c.in-Echo.is, kind-Echo) (passes
    c.in_ok-place-in-Echo.ensures (rw c.as_slice.ensures at c.echo.ensures))

pub statement-returns-in-Block : goal.statement-returns-in-Block
statement-returns-in-Block g t c = rw (run-statement, c.in-Block.is, kind-Block) (rw c.as_slice-in-Block.ensures at
    c.body.ensures)

pub statement-returns-in-Empty : goal.statement-returns-in-Empty
statement-returns-in-Empty g t c = rw (run-statement, c.in-Empty.is, kind-Empty) gives

pub statement-returns-in-If : goal.statement-returns-in-If
statement-returns-in-If g t c = rw (run-statement, c.in-If.is, kind-If) (rw c.as_slice-in-If.ensures at c.arms.ensures)

pub statement-returns-in-While : goal.statement-returns-in-While
statement-returns-in-While g t c = let same = by-turns c.args.self.now c.args.statement.now.line c.in-While.body
    c.args.state.now (c.in-While.test ∷ []) [] in rw (run-statement, c.in-While.is, kind-While, same) (rw
    (c.from_ref.ensures.value, c.as_ref.ensures) at c.turns.ensures)

pub statement-returns-in-DoWhile : goal.statement-returns-in-DoWhile
statement-returns-in-DoWhile g t c = let same = by-do c.args.self.now c.in-DoWhile.end c.in-DoWhile.body
    c.args.state.now c.in-DoWhile.test in rw (run-statement, c.in-DoWhile.is, kind-DoWhile, same) (rw
    c.as_ref-in-DoWhile.ensures at c.do_turns.ensures)

pub statement-returns-in_err-place-in-For : goal.statement-returns-in_err-place-in-For
statement-returns-in_err-place-in-For g t c = exits c.from_residual-in_err-place-in-For.ensures.1 (rw
    (run-statement, c.in-For.is, kind-For) (stops_at c.in_err-place-in-For.ensures))

pub statement-returns-in_ok-place-in-For : goal.statement-returns-in_ok-place-in-For
statement-returns-in_ok-place-in-For g t c = rw (run-statement, c.in-For.is, kind-For) (passes
    c.in_ok-place-in-For.ensures (rw (
      c.as_slice-in-For.ensures,
      c.as_slice-in-For-2.ensures,
      c.as_slice-in-For-3.ensures,
      c.as_ref-in-For.ensures,
    ) at c.for_turns.ensures))

pub statement-returns-in_err-place-in-Foreach : goal.statement-returns-in_err-place-in-Foreach
statement-returns-in_err-place-in-Foreach g t c = exits c.from_residual-in_err-place-in-Foreach.ensures.1 (rw
    (run-statement, c.in-Foreach.is, kind-Foreach) (stops_at c.in_err-place-in-Foreach.ensures))

pub statement-returns-in_ok-place-in-Foreach : goal.statement-returns-in_ok-place-in-Foreach
statement-returns-in_ok-place-in-Foreach g t c = rw (run-statement, c.in-Foreach.is, kind-Foreach) (passes
    c.in_ok-place-in-Foreach.ensures (rw c.as_ref-in-Foreach.ensures at c.foreach.ensures))

pub statement-returns-in-Break : goal.statement-returns-in-Break
statement-returns-in-Break g t c = rw (run-statement, c.in-Break.is, kind-Break) (then_at c.place-in-Break.ensures
    (c.then_signal.ensures _))

pub statement-returns-in-Continue : goal.statement-returns-in-Continue
statement-returns-in-Continue g t c = rw (run-statement, c.in-Continue.is, kind-Continue) (then_at
    c.place-in-Continue.ensures (c.then_signal-in-Continue.ensures _))

pub statement-returns-in_err-place-in-Return : goal.statement-returns-in_err-place-in-Return
statement-returns-in_err-place-in-Return g t c = exits c.from_residual-in_err-place-in-Return.ensures.1 (rw
    (run-statement, c.in-Return.is, kind-Return) (stops_at c.in_err-place-in-Return.ensures))

pub statement-returns-in_ok-place-in-Return : goal.statement-returns-in_ok-place-in-Return
statement-returns-in_ok-place-in-Return g t c = rw (run-statement, c.in-Return.is, kind-Return) (passes
    c.in_ok-place-in-Return.ensures c.return_value.ensures)

pub statement-returns-in_err-place-in-Global : goal.statement-returns-in_err-place-in-Global
statement-returns-in_err-place-in-Global g t c = exits c.from_residual-in_err-place-in-Global.ensures.1 (rw
    (run-statement, c.in-Global.is, kind-Global) (stops_at c.in_err-place-in-Global.ensures))

pub statement-returns-in_ok-place-in-Global : goal.statement-returns-in_ok-place-in-Global
statement-returns-in_ok-place-in-Global g t c = rw (run-statement, c.in-Global.is, kind-Global) (passes
    c.in_ok-place-in-Global.ensures (next-done (then_on (at_once (rw c.as_slice-in-Global.ensures at
    c.bind_all.ensures)) (c.then_signal-in-Global.ensures _))))

pub statement-returns-in_err-place-in-Unset : goal.statement-returns-in_err-place-in-Unset
statement-returns-in_err-place-in-Unset g t c = exits c.from_residual-in_err-place-in-Unset.ensures.1 (rw
    (run-statement, c.in-Unset.is, kind-Unset) (stops_at c.in_err-place-in-Unset.ensures))

pub statement-returns-in_ok-place-in-Unset : goal.statement-returns-in_ok-place-in-Unset
statement-returns-in_ok-place-in-Unset g t c = rw (run-statement, c.in-Unset.is, kind-Unset) (passes
    c.in_ok-place-in-Unset.ensures (then_on (rw c.as_slice-in-Unset.ensures at c.unset.ensures)
    (c.then_signal-in-Unset.ensures _)))

pub statement-returns-in_err-place-in-Constants : goal.statement-returns-in_err-place-in-Constants
statement-returns-in_err-place-in-Constants g t c = exits c.from_residual-in_err-place-in-Constants.ensures.1 (rw
    (run-statement, c.in-Constants.is, kind-Constants) (stops_at c.in_err-place-in-Constants.ensures))

pub statement-returns-in_ok-place-in-Constants : goal.statement-returns-in_ok-place-in-Constants
statement-returns-in_ok-place-in-Constants g t c = rw (run-statement, c.in-Constants.is, kind-Constants) (passes
    c.in_ok-place-in-Constants.ensures (rw c.as_slice-in-Constants.ensures at c.constants.ensures))

pub statement-returns-in_err-place-in-Exit : goal.statement-returns-in_err-place-in-Exit
statement-returns-in_err-place-in-Exit g t c = exits c.from_residual-in_err-place-in-Exit.ensures.1 (rw
    (run-statement, c.in-Exit.is, kind-Exit) (stops_at c.in_err-place-in-Exit.ensures))

pub statement-returns-in_ok-place-in-Exit : goal.statement-returns-in_ok-place-in-Exit
statement-returns-in_ok-place-in-Exit g t c = rw (run-statement, c.in-Exit.is, kind-Exit) (passes
    c.in_ok-place-in-Exit.ensures c.exit.ensures)

pub for_turns-returns-in_err-effects : goal.for_turns-returns-in_err-effects
for_turns-returns-in_err-effects g t c = exits c.from_residual.ensures.1 (tested_off (λ _. tt) _ (λ _. for_turns
    c.args.line c.args.tests.now c.args.after.now (statement_run c.args.body.now) (goes_by c.args.self.now) [])
    c.in_err-effects.ensures)

pub for_turns-returns : goal.for_turns-returns
for_turns-returns g t c = tested_on (λ _. tt) _ (λ _. for_turns c.args.line c.args.tests.now c.args.after.now
    (statement_run c.args.body.now) (goes_by c.args.self.now) []) c.in_ok-effects.ensures (by-for c.args.self.now
    c.args.line c.args.body.now c.effects.new.state c.args.tests.now c.args.after.now c.turns.ensures)

pub echo-returns-in_err-then_print : goal.echo-returns-in_err-then_print
echo-returns-in_err-then_print g t c = exits c.from_residual.ensures.1 (c.loop-operand.invariant _ _ (rw (front _
    c.loop-operand-test.true c.operand-item.is) (joined_off _ print_run _ (then_on c.expression.ensures
    c.in_err-then_print.ensures))))

pub echo-loop-operand-preserved : goal.echo-loop-operand-preserved
echo-loop-operand-preserved g t c = λ x u e. c.loop-operand.invariant x u (rw (front _ c.loop-operand-test.true
    c.operand-item.is) (joined_on _ print_run _ (then_on c.expression.ensures c.in_ok-then_print.ensures) e))

pub echo-returns : goal.echo-returns
echo-returns g t c = c.loop-operand.invariant _ _ (rw (at_end _ c.loop-operand-test.false) gives)

pub constants-returns-in_err-then_define : goal.constants-returns-in_err-then_define
constants-returns-in_err-then_define g t c = exits c.from_residual.ensures.1 (c.loop-definition.invariant _ _
    (constant_off _ c.loop-definition-test.true c.definition-item.is (goes_by c.args.self.now) _ (then_on
    c.expression.ensures c.in_err-then_define.ensures)))

pub constants-loop-definition-preserved : goal.constants-loop-definition-preserved
constants-loop-definition-preserved g t c = λ x u e. c.loop-definition.invariant x u (constant_on _
    c.loop-definition-test.true c.definition-item.is (goes_by c.args.self.now) _ (then_on c.expression.ensures
    c.in_ok-then_define.ensures) e)

pub constants-returns : goal.constants-returns
constants-returns g t c = c.loop-definition.invariant _ _ (rw (at_end _ c.loop-definition-test.false) gives)

pub arms-returns-in_err-place : goal.arms-returns-in_err-place
arms-returns-in_err-place g t c = exits c.from_residual.ensures.1 (c.loop-arm.invariant _ _ (rw (front _
    c.loop-arm-test.true c.arm-item.is) (rw run-arm (stops_at c.in_err-place.ensures))))

pub arms-returns-in_err-holds : goal.arms-returns-in_err-holds
arms-returns-in_err-holds g t c = exits c.from_residual-in_err-holds.ensures.1 (c.loop-arm.invariant _ _ (rw (front _
    c.loop-arm-test.true c.arm-item.is) (rw run-arm (passes c.in_ok-place.ensures (tested_off holds _ (by-arm
    c.args.self.now c.arm-item.result (drop (c.loop-arm.arm-index + 1) c.args.arms.now) c.args.otherwise.now)
    c.in_err-holds.ensures)))))

pub arms-returns-then-holds : goal.arms-returns-then-holds
arms-returns-then-holds g t c = c.loop-arm.invariant _ _ (rw (front _ c.loop-arm-test.true c.arm-item.is) (rw run-arm
    (passes c.in_ok-place.ensures (tested_on holds _ (by-arm c.args.self.now c.arm-item.result (drop
    (c.loop-arm.arm-index + 1) c.args.arms.now) c.args.otherwise.now) c.in_ok-holds.ensures (rw c.if-holds.true
    c.statement.ensures)))))

pub arms-loop-arm-preserved : goal.arms-loop-arm-preserved
arms-loop-arm-preserved g t c = λ x u e. c.loop-arm.invariant x u (rw (front _ c.loop-arm-test.true c.arm-item.is) (rw
    run-arm (passes c.in_ok-place.ensures (tested_on holds _ (by-arm c.args.self.now c.arm-item.result (drop
    (c.loop-arm.arm-index + 1) c.args.arms.now) c.args.otherwise.now) c.in_ok-holds.ensures (rw c.if-holds.false e)))))

pub arms-returns-in-None : goal.arms-returns-in-None
arms-returns-in-None g t c = c.loop-arm.invariant _ _ (rw (at_end _ c.loop-arm-test.false) (rw c.in-None.is gives))

pub arms-returns-in-Some : goal.arms-returns-in-Some
arms-returns-in-Some g t c = c.loop-arm.invariant _ _ (rw (at_end _ c.loop-arm-test.false) (rw c.in-Some.is (rw
    c.as_ref.ensures at c.statement-in-Some.ensures)))

pub return_value-returns-in-None : goal.return_value-returns-in-None
return_value-returns-in-None g t c = rw c.in-None.is gives

pub return_value-returns-in-Some : goal.return_value-returns-in-Some
return_value-returns-in-Some g t c = rw c.in-Some.is (then_on c.value.ensures (c.then_return.ensures _))

pub exit-returns-in-None : goal.exit-returns-in-None
exit-returns-in-None g t c = rw c.in-None.is ends

pub exit-returns-in-Some : goal.exit-returns-in-Some
exit-returns-in-Some g t c = rw c.in-Some.is (then_on c.expression.ensures c.then_exit.ensures)

pub turns-returns-in_err-place : goal.turns-returns-in_err-place
turns-returns-in_err-place g t c = exits c.from_residual.ensures.1 (c.loop-turn.invariant _ _ (turn-stops _
    c.args.self.now (c.args.left - c.loop-turn._turn) c.args.line c.args.tests.now c.args.after.now c.args.body.now
    (omega arith) c.in_err-place.ensures))

pub turns-returns-in_err-on : goal.turns-returns-in_err-on
turns-returns-in_err-on g t c = exits c.from_residual-in_err-on.ensures.1 (c.loop-turn.invariant _ _ (test-breaks _
    c.args.self.now (c.args.left - c.loop-turn._turn) c.args.line c.args.tests.now c.args.after.now c.args.body.now
    (omega arith) c.in_ok-place.ensures c.in_err-on.ensures))

pub turns-returns-then-not-on : goal.turns-returns-then-not-on
turns-returns-then-not-on g t c = c.loop-turn.invariant _ _ (turns-end _ c.args.self.now (c.args.left -
    c.loop-turn._turn) c.args.line c.args.tests.now c.args.after.now c.args.body.now (omega arith) c.in_ok-place.ensures
    c.in_ok-on.ensures c.if-not-on.true)

pub turns-returns-in_err-loop_body : goal.turns-returns-in_err-loop_body
turns-returns-in_err-loop_body g t c = exits c.from_residual-in_err-loop_body.ensures.1 (c.loop-turn.invariant _ _
    (body-breaks _ c.args.self.now (c.args.left - c.loop-turn._turn) c.args.line c.args.tests.now c.args.after.now
    c.args.body.now (omega arith) c.in_ok-place.ensures c.in_ok-on.ensures c.if-not-on.false
    c.in_err-loop_body.ensures))

pub turns-returns-in-Out : goal.turns-returns-in-Out
turns-returns-in-Out g t c = c.loop-turn.invariant _ _ (body-out _ c.args.self.now (c.args.left - c.loop-turn._turn)
    c.args.line c.args.tests.now c.args.after.now c.args.body.now (omega arith) c.in_ok-place.ensures c.in_ok-on.ensures
    c.if-not-on.false c.in_ok-loop_body.ensures (sym c.after_body.ensures ∙ c.in-Out.is))

pub turns-returns-in_err-effects : goal.turns-returns-in_err-effects
turns-returns-in_err-effects g t c = exits c.from_residual-in_err-effects.ensures.1 (c.loop-turn.invariant _ _
    (next-breaks _ c.args.self.now (c.args.left - c.loop-turn._turn) c.args.line c.args.tests.now c.args.after.now
    c.args.body.now (omega arith) c.in_ok-place.ensures c.in_ok-on.ensures c.if-not-on.false c.in_ok-loop_body.ensures
    (sym c.after_body.ensures ∙ c.in-On.is) c.in_err-effects.ensures))

pub turns-loop-turn-preserved : goal.turns-loop-turn-preserved
turns-loop-turn-preserved g t c = λ x u e. let n : c.args.left - (c.loop-turn._turn + 1) ≡ c.args.left -
    c.loop-turn._turn - 1 = omega arith in c.loop-turn.invariant x u (turn-goes-on _ c.args.self.now (c.args.left -
    c.loop-turn._turn) c.args.line c.args.tests.now c.args.after.now c.args.body.now (omega arith) c.in_ok-place.ensures
    c.in_ok-on.ensures c.if-not-on.false c.in_ok-loop_body.ensures (sym c.after_body.ensures ∙ c.in-On.is) x u
    c.in_ok-effects.ensures (rw n at e))

pub turns-returns : goal.turns-returns
turns-returns g t c = let n : c.args.left - c.loop-turn._turn ≡ 0 = omega arith in c.loop-turn.invariant _ _ (rw n ends)

pub do_turns-returns-in_err-loop_body : goal.do_turns-returns-in_err-loop_body
do_turns-returns-in_err-loop_body g t c = exits c.from_residual.ensures.1 (c.loop-turn.invariant _ _ (do-body-breaks _
    c.args.self.now (c.args.left - c.loop-turn._turn) c.args.line c.args.test.now c.args.body.now (omega arith) _
    c.in_err-loop_body.ensures))

pub do_turns-returns-in-Out : goal.do_turns-returns-in-Out
do_turns-returns-in-Out g t c = c.loop-turn.invariant _ _ (do-body-out _ c.args.self.now (c.args.left -
    c.loop-turn._turn) c.args.line c.args.test.now c.args.body.now (omega arith) _ c.in_ok-loop_body.ensures (sym
    c.after_body.ensures ∙ c.in-Out.is))

pub do_turns-returns-in_err-place : goal.do_turns-returns-in_err-place
do_turns-returns-in_err-place g t c = exits c.from_residual-in_err-place.ensures.1 (c.loop-turn.invariant _ _ (do-stops
    _ c.args.self.now (c.args.left - c.loop-turn._turn) c.args.line c.args.test.now c.args.body.now (omega arith) _
    c.in_ok-loop_body.ensures (sym c.after_body.ensures ∙ c.in-On.is) c.in_err-place.ensures))

pub do_turns-returns-in_err-holds : goal.do_turns-returns-in_err-holds
do_turns-returns-in_err-holds g t c = exits c.from_residual-in_err-holds.ensures.1 (c.loop-turn.invariant _ _
    (do-test-breaks _ c.args.self.now (c.args.left - c.loop-turn._turn) c.args.line c.args.test.now c.args.body.now
    (omega arith) _ c.in_ok-loop_body.ensures (sym c.after_body.ensures ∙ c.in-On.is) c.in_ok-place.ensures
    c.in_err-holds.ensures))

pub do_turns-returns-then-not-holds : goal.do_turns-returns-then-not-holds
do_turns-returns-then-not-holds g t c = c.loop-turn.invariant _ _ (do-end _ c.args.self.now (c.args.left -
    c.loop-turn._turn) c.args.line c.args.test.now c.args.body.now (omega arith) _ c.in_ok-loop_body.ensures (sym
    c.after_body.ensures ∙ c.in-On.is) c.in_ok-place.ensures c.in_ok-holds.ensures c.if-not-holds.true)

pub do_turns-loop-turn-preserved : goal.do_turns-loop-turn-preserved
do_turns-loop-turn-preserved g t c = λ x u e. let n : c.args.left - (c.loop-turn._turn + 1) ≡ c.args.left -
    c.loop-turn._turn - 1 = omega arith in c.loop-turn.invariant x u (do-goes-on _ c.args.self.now (c.args.left -
    c.loop-turn._turn) c.args.line c.args.test.now c.args.body.now (omega arith) _ c.in_ok-loop_body.ensures (sym
    c.after_body.ensures ∙ c.in-On.is) c.in_ok-place.ensures c.in_ok-holds.ensures c.if-not-holds.false x u (rw n at e))

pub do_turns-returns : goal.do_turns-returns
do_turns-returns g t c = let n : c.args.left - c.loop-turn._turn ≡ 0 = omega arith in c.loop-turn.invariant _ _ (rw n
    ends)

pub foreach-returns : goal.foreach-returns
foreach-returns g t c = goes_on _ c.in_ok-subject.ensures c.each-answer.ensures

pub each-loop-at-init : goal.each-loop-at-init
each-loop-at-init g t c = λ x u e. rw c.in-Array.is e

pub each-returns-in_err-place : goal.each-returns-in_err-place
each-returns-in_err-place g t c = let r = front-at c.in-Array.array.pairs c.loop-at.at (omega
    (arith, c.len-at-end.ensures.len)) in exits c.from_residual.ensures.1 (c.loop-at.invariant _ _ (rw r.2 (each-stops _
    c.args.self.now c.args.line c.args.binding.now r.0 _ c.args.body.now c.in_err-place.ensures)))

pub each-returns-in_err-bind_entry : goal.each-returns-in_err-bind_entry
each-returns-in_err-bind_entry g t c = let r = front-at c.in-Array.array.pairs c.loop-at.at (omega
    (arith, c.len-at-end.ensures.len)) in exits c.from_residual-in_err-bind_entry.ensures.1 (c.loop-at.invariant _ _ (rw
    r.2 (bind-breaks _ c.args.self.now c.args.line c.args.binding.now r.0 _ c.args.body.now c.in_ok-place.ensures
    (at_once (c.in_err-bind_entry.ensures.entry r.0 r.1)))))

pub each-returns-in_err-loop_body : goal.each-returns-in_err-loop_body
each-returns-in_err-loop_body g t c = let r = front-at c.in-Array.array.pairs c.loop-at.at (omega
    (arith, c.len-at-end.ensures.len)) in exits c.from_residual-in_err-loop_body.ensures.1 (c.loop-at.invariant _ _ (rw
    r.2 (each-body-breaks _ c.args.self.now c.args.line c.args.binding.now r.0 _ c.args.body.now c.in_ok-place.ensures
    (at_once (c.in_ok-bind_entry.ensures.entry r.0 r.1)) c.in_err-loop_body.ensures)))

pub each-returns-in-Out : goal.each-returns-in-Out
each-returns-in-Out g t c = let r = front-at c.in-Array.array.pairs c.loop-at.at (omega
    (arith, c.len-at-end.ensures.len)) in c.loop-at.invariant _ _ (rw r.2 (each-out _ c.args.self.now c.args.line
    c.args.binding.now r.0 _ c.args.body.now c.in_ok-place.ensures (at_once (c.in_ok-bind_entry.ensures.entry r.0 r.1))
    c.in_ok-loop_body.ensures (sym c.after_body.ensures ∙ c.in-Out.is)))

pub each-loop-at-preserved : goal.each-loop-at-preserved
each-loop-at-preserved g t c = λ x u e. let r = front-at c.in-Array.array.pairs c.loop-at.at (omega
    (arith, c.len-at-end.ensures.len)) in c.loop-at.invariant x u (rw r.2 (each-goes-on _ c.args.self.now c.args.line
    c.args.binding.now r.0 _ c.args.body.now c.in_ok-place.ensures (at_once (c.in_ok-bind_entry.ensures.entry r.0 r.1))
    c.in_ok-loop_body.ensures (sym c.after_body.ensures ∙ c.in-On.is) x u (rw add-one at e)))

pub each-returns : goal.each-returns
each-returns g t c = let h : length c.in-Array.array.pairs ≤ c.loop-at.at = omega (arith, c.len-at-end.ensures.len) in
    c.loop-at.invariant _ _ (rw (at_end c.in-Array.array.pairs h) gives)

pub statement-effect-requires : goal.statement-effect-requires
statement-effect-requires g t c = let size = sized c.args.statement.now c.in-Expression.is (size-Expression _) in λ κs
    h. (omega (arith, size, c.decreases), h)

pub statement-echo-requires : goal.statement-echo-requires
statement-echo-requires g t c = let size = sized c.args.statement.now c.in-Echo.is (size-Echo _) in λ κs h.
    (omega (arith, size, ap expressions_size c.as_slice.ensures, c.decreases), h)

pub statement-body-requires : goal.statement-body-requires
statement-body-requires g t c = let size = sized c.args.statement.now c.in-Block.is (size-Block _) in λ κs h.
    (omega (arith, size, ap body_size c.as_slice-in-Block.ensures, c.decreases), h)

pub statement-arms-requires : goal.statement-arms-requires
statement-arms-requires g t c = let size = sized c.args.statement.now c.in-If.is (size-If _ _) in λ κs h.
    (omega (arith, size, ap arms_size c.as_slice-in-If.ensures, c.decreases), h)

pub statement-turns-requires : goal.statement-turns-requires
statement-turns-requires g t c = let size = sized c.args.statement.now c.in-While.is (size-While _ _) in let tests = ap
    expressions_size c.from_ref.ensures.value in λ κs h.
    (omega (arith, size, tests, ap statement_size c.as_ref.ensures, c.decreases), h)

pub statement-do_turns-requires : goal.statement-do_turns-requires
statement-do_turns-requires g t c = let size = sized c.args.statement.now c.in-DoWhile.is (size-DoWhile _ _ _) in λ κs
    h. (omega (arith, size, ap statement_size c.as_ref-in-DoWhile.ensures, c.decreases), h)

pub statement-for_turns-requires : goal.statement-for_turns-requires
statement-for_turns-requires g t c = let size = sized c.args.statement.now c.in-For.is (size-For _ _ _ _) in let before
    = ap expressions_size c.as_slice-in-For.ensures in let tests = ap expressions_size c.as_slice-in-For-2.ensures in
    let after = ap expressions_size c.as_slice-in-For-3.ensures in let body = ap statement_size c.as_ref-in-For.ensures
    in λ κs h. (omega (arith, size, before, tests, after, body, c.decreases), h)

pub statement-foreach-requires : goal.statement-foreach-requires
statement-foreach-requires g t c = let size = sized c.args.statement.now c.in-Foreach.is (size-Foreach _ _ _) in λ κs h.
    (omega (arith, size, ap statement_size c.as_ref-in-Foreach.ensures, c.decreases), h)

pub statement-return_value-requires : goal.statement-return_value-requires
statement-return_value-requires g t c = let size = sized c.args.statement.now c.in-Return.is (size-Return _) in λ κs h.
    (omega (arith, size, c.decreases), h)

pub statement-unset-requires : goal.statement-unset-requires
statement-unset-requires g t c = let size = sized c.args.statement.now c.in-Unset.is (size-Unset _) in λ κs h.
    (omega (arith, size, ap places_size c.as_slice-in-Unset.ensures, c.decreases), h)

pub statement-constants-requires : goal.statement-constants-requires
statement-constants-requires g t c = let size = sized c.args.statement.now c.in-Constants.is (size-Constants _) in λ κs
    h. (omega (arith, size, ap definitions_size c.as_slice-in-Constants.ensures, c.decreases), h)

pub constants-expression-requires : goal.constants-expression-requires
constants-expression-requires g t c = let size = size-definition c.args.all.now _ c.definition-item.result
    c.loop-definition-test.true c.definition-item.is in λ κs h. (omega (arith, size, c.decreases), h)

pub statement-exit-requires : goal.statement-exit-requires
statement-exit-requires g t c = let size = sized c.args.statement.now c.in-Exit.is (size-Exit _) in λ κs h.
    (omega (arith, size, c.decreases), h)

pub loop_body-body-requires : goal.loop_body-body-requires
loop_body-body-requires g t c = let size = sized c.args.body.now c.in-Block.is (size-Block _) in λ κs h.
    (omega (arith, size, ap body_size c.as_slice.ensures, c.decreases), h)

pub body-statement-requires : goal.body-statement-requires
body-statement-requires g t c = let size = size-in statement_size c.args.statements.now _ c.statement-item.result
    c.loop-statement-test.true c.statement-item.is in λ κs h. (omega (arith, size, c.decreases), h)

pub arms-holds-requires : goal.arms-holds-requires
arms-holds-requires g t c = let size = size-in arm_size c.args.arms.now _ c.arm-item.result c.loop-arm-test.true
    c.arm-item.is in λ κs h. (omega (arith, size, size-arm c.arm-item.result, c.decreases), h)

pub arms-statement-requires : goal.arms-statement-requires
arms-statement-requires g t c = let size = size-in arm_size c.args.arms.now _ c.arm-item.result c.loop-arm-test.true
    c.arm-item.is in λ κs h. (omega (arith, size, size-arm c.arm-item.result, c.decreases), h)

pub arms-statement-requires-in-Some : goal.arms-statement-requires-in-Some
arms-statement-requires-in-Some g t c = let size = size-some statement_size c.args.otherwise.now _ c.in-Some.is in λ κs
    h. (omega (arith, size, ap statement_size c.as_ref.ensures, c.decreases), h)
