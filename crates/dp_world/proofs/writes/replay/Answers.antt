use Rattle.std.proofs.Common.{List, ℕ, ap, subst, ◌∙◌}
use Rattle.dp_outside.specs.Changes.{change}
use Rattle.dp_events.specs.declared.event.Event.{Event}
use Rattle.dp_world.specs.Engines.{past_of}
use Rattle.dp_world.specs.Transcript.{shown_of}
use Rattle.dp_world.specs.inner.LinkLines.{Writes}
use Rattle.dp_world.proofs.EngineLaws.{grows}
use Rattle.dp_world.proofs.HeadlineLaws.{holds}
use Rattle.dp_world.proofs.TranscriptLaws.{all_lines, replays}
use Rattle.dp_world.proofs.writes.replay.Goals as goal

pub returns-clause-replays : goal.returns-clause-replays
returns-clause-replays g c =
    let engines = g.A.Engines.known c.args.engines.now in
    let followed = c.events.result.now in
    let past = past_of engines followed in
    let out = change g.K.Sink.taken g.K.Sink.faults c.args.out.now c.write_all.new.out in
    let links = c.in_ok-links.links.entries in
    replays c.write_all.result engines c.args.events.now out
    (subst (λ (text : List ℕ). Writes c.write_all.result text out)
    (all_lines engines past followed links c.in_ok-links.ensures.keys
    ∙ ap (λ (es : List Event). shown_of engines (past_of engines es) es) c.events.ensures.same)
    (c.write_all.ensures.writes past c.in_ok-links.ensures.shown))

pub returns-in_err-links-clause-headline : goal.returns-in_err-links-clause-headline
returns-in_err-links-clause-headline g c =
    let engines = g.A.Engines.known c.args.engines.now in
    holds engines (grows engines) c.args.events.now

pub returns-clause-headline : goal.returns-clause-headline
returns-clause-headline g c =
    let engines = g.A.Engines.known c.args.engines.now in
    holds engines (grows engines) c.args.events.now
