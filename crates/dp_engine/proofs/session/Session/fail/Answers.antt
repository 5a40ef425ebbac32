use Rattle.dp_engine.proofs.KeptLaws.{still_kept}
use Rattle.dp_engine.proofs.session.Session.fail.Goals as goal

pub invariant_of-self : goal.invariant_of-self
invariant_of-self c =
    (still_kept c.self.inside c.self.invariant.0, c.self.invariant.1, c.self.invariant.2)
