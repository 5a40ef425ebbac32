use Rattle.std.proofs.Common.{ap, sym, ◌∙◌}
use Rattle.dp_polled.specs.Arrivals.{bytes_of}
use Rattle.dp_polled.proofs.Coming.{bytes_next}
use Rattle.dp_polled.proofs.arrivals.Arrivals.skip.Goals as goal

pub returns-clause-bytes : goal.returns-clause-bytes
returns-clause-bytes c =
    sym (bytes_next c.silent.self.left) ∙ ap bytes_of c.silent.invariant.0 ∙ bytes_next c.args.self.now.left
