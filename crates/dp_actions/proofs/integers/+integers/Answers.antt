use Rattle.std.proofs.Common.{rules, refl}
use Rattle.std.proofs.Math.ListN.{drop_of_length-le}
use Rattle.std.proofs.lemmas.Int.{to_z-of_z}
use mir.Syntax.{w64}
use mir.Val.{SFits}
use Rattle.dp_value.specs.declared.value.Value.TheVariants as variant
use Rattle.dp_actions.proofs.AtOnceLaws.{first_done, gives}
use Rattle.dp_actions.proofs.Layers.{run-Chain}
use Rattle.dp_actions.proofs.LinkedValues.{linked}
use Rattle.dp_actions.proofs.ObservedValues.{front}
use Rattle.dp_actions.proofs.integers.+integers.Goals as goal

pub operand-returns-in-Chain : goal.operand-returns-in-Chain
operand-returns-in-Chain t c =
    rw (c.in-Chain.is, run-Chain) (rw (c.as_ref.ensures, c.as_slice.ensures) at c.joined.ensures)

pub joined-loop-link-init : goal.joined-loop-link-init
joined-loop-link-init t c =
    λ setting. let fits : SFits w64 c.in-Some.n = search rules in rw (to_z-of_z w64 c.in-Some.n fits)
    (first_done _ (c.in-Some.ensures setting))

pub joined-loop-link-preserved : goal.joined-loop-link-preserved
joined-loop-link-preserved t c =
    λ setting. let m = c.in-Some-operand.m in
    let next = c.in-Some-integer_result.next in
    let fits : SFits w64 m = search rules in
    let next_fits : SFits w64 next = search rules in rw (
      to_z-of_z w64 next next_fits,
      c.loop-link.invariant setting,
      front _ c.loop-link.link-index c.link-item.result c.loop-link-test.true c.link-item.is,
    ) (first_done _ (linked c.link-item.result c.in-Of.op _ m _ _ (variant.Int next) setting c.args.state.now c.in-Of.is
    (c.in-Some-operand.ensures setting) refl (to_z-of_z w64 m fits) c.in-Some-integer_result.ensures))

pub joined-returns : goal.joined-returns
joined-returns t c =
    λ setting. rw (
      c.loop-link.invariant setting,
      drop_of_length-le c.args.links.now c.loop-link-test.false,
    ) gives
