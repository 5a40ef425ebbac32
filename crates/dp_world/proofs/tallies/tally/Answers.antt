use Rattle.std.proofs.Common.{◌≡◌, List, IfOk, ap, subst, ◌∙◌}
use Rattle.dp_events.specs.declared.event.Event.{Event}
use Rattle.dp_world.specs.declared.numbers.Tally.{Tally}
use Rattle.dp_world.specs.Engines.{past_of}
use Rattle.dp_world.specs.Tallies.{in_words, tally_of}
use Rattle.dp_world.proofs.TallyLaws.{all_tallies}
use Rattle.dp_world.proofs.tallies.tally.Goals as goal

pub returns : goal.returns
returns g c =
    let engines = g.A.Engines.known c.args.engines.now in
    let followed = c.events.result.now in
    let past = past_of engines followed in
    let links = c.in_ok-links.links.entries in
    subst (λ (all : Tally). IfOk c.of_links.result (λ tally. tally ≡ in_words all))
    (all_tallies engines past followed links c.in_ok-links.ensures.keys
    ∙ ap (λ (es : List Event). tally_of engines es) c.events.ensures.same)
    (c.of_links.ensures past c.in_ok-links.ensures.shown)
