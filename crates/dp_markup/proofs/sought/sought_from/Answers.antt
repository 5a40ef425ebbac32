use Rattle.std.proofs.Common.{rules, arith, ◌∙◌, sym, subst}
use Rattle.std.proofs.lemmas.Grind.{common_steps}
use Rattle.dp_markup.specs.inner.Input.{Reads}
use Rattle.dp_markup.proofs.TagTurns.{sought_stops, sought_goes_on}
use Rattle.dp_markup.proofs.sought.sought_from.Goals as goal

pub returns-then-sees_end : goal.returns-then-sees_end
returns-then-sees_end c =
    let l = c.loop-turn in
    let e = l.invariant ∙ sought_stops _ l._turn l.input c.loop-turn-test.true c.args.is_root c.args.wanted.now l.state
    (sym c.sees_end.ensures ∙ c.if-sees_end.true) in
    subst (λ o. Reads o c.sought_end.result c.sought_end.new.input) (sym e) c.sought_end.ensures

pub returns-in_err-state : goal.returns-in_err-state
returns-in_err-state c =
    let l = c.loop-turn in
    let e = l.invariant ∙ sought_goes_on _ l._turn l.input c.loop-turn-test.true c.args.is_root c.args.wanted.now
    l.state (sym c.sees_end.ensures ∙ c.if-sees_end.false) in
    first_of (search rules, grind (arith, common_steps))

pub loop-turn-preserved : goal.loop-turn-preserved
loop-turn-preserved c =
    let l = c.loop-turn in
    let e = l.invariant ∙ sought_goes_on _ l._turn l.input c.loop-turn-test.true c.args.is_root c.args.wanted.now
    l.state (sym c.sees_end.ensures ∙ c.if-sees_end.false) in
    first_of (search rules, grind (arith, common_steps))
