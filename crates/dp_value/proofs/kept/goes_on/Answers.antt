use Rattle.std.proofs.Common.{◌≡◌, ◌-◌, ℕ, true, nat_lt, [], length, get_or, ap, ◌∙◌, arith}
use Rattle.std.proofs.lemmas.Bool.Decides.{nat_tests}
use Rattle.std.proofs.lemmas.List.{nil_from_length}
use Rattle.dp_value.specs.inner.Left.{left}
use Rattle.dp_value.proofs.LeftLemmas.{length-left}
use Rattle.dp_value.proofs.RisingLemmas.{order-push, order-last}
use Rattle.dp_value.proofs.kept.goes_on.Goals as goal

pub overflow_sub-rows : goal.overflow_sub-rows
overflow_sub-rows c = omega (arith, c.requires.within)

pub returns-then-rows-eq0 : goal.returns-then-rows-eq0
returns-then-rows-eq0 c =
    let none : left c.args.start c.args.gone c.args.keys.now ≡ [] =
    nil_from_length (left c.args.start c.args.gone c.args.keys.now)
    (omega (arith, length-left c.args.start c.args.gone c.args.keys.now c.requires.within, c.if-rows-eq0.true)) in
    rw none c.is_integer.ensures

pub nth-requires-clause-there : goal.nth-requires-clause-there
nth-requires-clause-there c =
    omega (arith, length-left c.args.start c.args.gone c.args.keys.now c.requires.within, c.if-rows-eq0.false)

pub returns : goal.returns
returns c =
    let ks = left c.args.start c.args.gone c.args.keys.now in
    let k = c.nth.result.now in
    let long = length-left c.args.start c.args.gone c.args.keys.now c.requires.within in
    let last : (length c.args.keys.now - c.args.gone) - 1 ≡ length ks - 1 = omega (arith, long) in
    let read : k ≡ get_or ks (length ks - 1) k = c.nth.ensures ∙ ap (λ (n : ℕ). get_or ks n k) last in
    let some : true ≡ nat_lt 0 (length ks) = grind (arith, nat_tests, long, c.if-rows-eq0.false) in (
      λ below. order-push ks k c.args.key.now c.requires.rises read (c.is_below.ensures.0 below),
      λ rise. c.is_below.ensures.1 (order-last ks k c.args.key.now rise some read),
    )
