use Rattle.std.proofs.Common.{rules, ◌∙◌}
use Rattle.dp_polled.proofs.Coming.{take_rest}
use Rattle.dp_polled.proofs.arrivals.Arrivals.first_bytes.Goals as goal

pub returns-in-len1-up : goal.returns-in-len1-up
returns-in-len1-up c = take_rest c.deref-in-len1-up.result.now c.self.inside.at ∙ search rules
