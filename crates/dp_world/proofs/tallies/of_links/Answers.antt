use Rattle.std.proofs.Common.{◌≡◌, ℕ, List, sym, subst}
use Rattle.dp_world.specs.declared.shown.Shown.{Shown}
use Rattle.dp_world.specs.declared.numbers.Tally.{Tally}
use Rattle.dp_world.specs.Tallies.{in_words}
use Rattle.dp_world.specs.inner.LinkLines.{AllShown}
use Rattle.dp_world.specs.inner.LinkTallies.{tallies_of}
use Rattle.dp_world.proofs.TallyLaws.{IsAdded, none_added, added_one, added_all}
use Rattle.dp_world.proofs.TranscriptLaws.{all_shown}
use Rattle.dp_world.proofs.tallies.of_links.Goals as goal

pub links-init : goal.links-init
links-init g c = none_added (g.A.Engines.known c.args.engines.now) c.into_iter-left.result

pub links-preserved : goal.links-preserved
links-preserved g c =
    let k = g.A.Engines.known c.args.engines.now in
    let e : ℕ × Shown _ _ = (c.in-Some._link, c.in-Some.shown) in
    subst (λ (t : Tally). IsAdded k c.into_iter-left.result c.next.new.self t) (sym c.both-tally.ensures)
    (added_one k c.into_iter-left.result c.links.left c.next.new.self e c.links.tally c.in_ok-one.one c.links.invariant
    c.in-Some.ensures.steps (λ of is. c.in_ok-one.ensures of is))

pub returns : goal.returns
returns g c = λ past are.
    let k = g.A.Engines.known c.args.engines.now in
    let gives = c.into_iter-left.ensures.into_iter_gives in
    let all = subst (AllShown k past) (sym gives.0)
    (all_shown k past c.args.links.entries gives.4 are) in
    subst (λ (l : List (ℕ × Shown _ _)). c.links.tally ≡ in_words (tallies_of k past l)) gives.0
    (added_all k c.into_iter-left.result c.links.left c.links.tally c.links.invariant c.in_default.ensures.steps.0
    past all)
