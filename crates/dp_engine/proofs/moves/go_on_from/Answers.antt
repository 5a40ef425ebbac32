use Rattle.dp_engine.specs.Stops.{stops}
use Rattle.dp_engine.proofs.Free.{goes-free}
use Rattle.dp_engine.proofs.moves.go_on_from.Goals as goal

pub returns-in_ok-outcome : goal.returns-in_ok-outcome
returns-in_ok-outcome g c = λ bound writes n stands.
    let free = c.is_free.ensures in
    goes-free (stops c.args.mode c.args.depth) (free.mode c.if-is_free.true c.args.depth) c.args.bundle.now bound writes
    c.args.breaks.now (free.none c.if-is_free.true) n c.in_ok-outcome.outcome c.run_out.new.self c.args.steps.now
    c.run_out.new.steps
    (c.in_ok-outcome.ensures.end c.args.bundle.now bound writes n stands)
    (c.in_ok-outcome.ensures.counted c.args.bundle.now bound writes n stands)
