use Rattle.std.proofs.Common.{ℕ, List, subst}
use Rattle.dp_registry.specs.Verdicts.{admit_verdict, IsAnswer}
use Rattle.dp_registry.proofs.Hosts.{pass_reached}
use Rattle.dp_registry.proofs.registry.Registry.admit.Goals as goal

pub returns-clause-verdict : goal.returns-clause-verdict
returns-clause-verdict c =
    subst (λ (k : List ℕ). IsAnswer (admit_verdict c.args.self.now k) c.admit_owned.result) c.in_ok-key.ensures
    c.admit_owned.ensures.verdict

pub returns-clause-reached : goal.returns-clause-reached
returns-clause-reached c =
    pass_reached c.args.self.now c.in_ok-key.key c.admit_owned.result c.is_crowded.ensures.legal
    c.admit_owned.ensures.verdict
