use Rattle.std.proofs.Common.{◌≡◌, ℕ, length, ap, subst, ◌∙◌, arith}
use Rattle.dp_lanes.specs.declared.lane.LaneKind.TheVariants.{Up, Down}
use Rattle.dp_lanes.specs.Lanes.{texts_in}
use Rattle.dp_world.specs.Tallies.{tally_on}
use Rattle.dp_world.proofs.TallyLaws.{counted, counts_session}
use Rattle.dp_world.proofs.tallies.served.Goals as goal

pub returns : goal.returns
returns g c = λ of key host port has.
    let k = g.A.Engines.known c.args.engines.now in
    let end = c.in_ok-end.ensures in
    let size : length c.in_ok-end.end.own.items ≡ c.len.result = omega (arith, c.len.ensures) in
    subst (λ (n : ℕ). counted c.in_ok-packets.packets c.in_ok-commands.commands n ≡ tally_on k of) size
    (counts_session k key host port c.args.engine c.in_ok-end.end c.in_ok-packets.packets c.in_ok-commands.commands
    end.received end.given end.own end.outcome
    (c.in_ok-packets.ensures ∙ ap (λ l. length (texts_in Up l)) c.as_slice.ensures.value)
    (c.in_ok-commands.ensures ∙ ap (λ l. length (texts_in Down l)) c.as_slice-2.ensures.value) of has)
