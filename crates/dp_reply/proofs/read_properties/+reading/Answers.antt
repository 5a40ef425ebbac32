use Rattle.std.proofs.Common.{subst}
use Rattle.dp_reply.specs.Verdict.{Finds}
use Rattle.dp_reply.proofs.Levels.{one_deeper}
use Rattle.dp_reply.proofs.read_properties.+reading.Goals as goal

pub property-returns-else-level-eq0 : goal.property-returns-else-level-eq0
property-returns-else-level-eq0 t c =
    subst (λ read. Finds (λ p. p) c.property_at.result read) (one_deeper c.args.level c.args.e.now c.if-level-eq0.false)
    c.property_at.ensures
