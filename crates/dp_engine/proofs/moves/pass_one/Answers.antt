use Rattle.dp_engine.specs.Stops.{stops}
use Rattle.dp_engine.proofs.NextMoments.{passes_end, passes_moment}
use Rattle.dp_engine.proofs.moves.pass_one.Goals as goal

pub returns-in_ok-stops-in-At : goal.returns-in_ok-stops-in-At
returns-in_ok-stops-in-At g c = λ bound writes n stands.
    let goes = rw c.in-At.is at (c.in_ok-progress.ensures.goes_on c.args.bundle.now bound writes n stands) in
    let counted = rw c.in-At.is at c.in_ok-progress.ensures.counted in
    passes_moment (stops c.args.mode c.args.depth) c.args.bundle.now bound writes n c.args.breaks.now c.args.machine.now
    stands c.args.steps.now c.in-At.moment c.step.new.self goes c.step.new.steps counted c.state.result.now
    c.state.ensures c.pass.new.breaks c.in_ok-stops-in-At.ensures.breaks c.in_ok-stops-in-At.stops
    c.in_ok-stops-in-At.ensures.stop

pub returns-in-Ended : goal.returns-in-Ended
returns-in-Ended g c = λ bound writes n stands.
    let goes = rw c.in-Ended.is at (c.in_ok-progress.ensures.goes_on c.args.bundle.now bound writes n stands) in
    let counted = rw c.in-Ended.is at c.in_ok-progress.ensures.counted in
    passes_end (stops c.args.mode c.args.depth) c.args.bundle.now bound writes n c.args.breaks.now c.args.machine.now
    stands c.args.steps.now c.in-Ended.outcome c.step.new.self goes c.step.new.steps counted
