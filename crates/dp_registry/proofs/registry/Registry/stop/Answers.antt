use Rattle.std.proofs.Common.{ℕ, List, subst}
use Rattle.dp_registry.specs.Verdicts.{stop_verdict, IsAnswer}
use Rattle.dp_registry.proofs.registry.Registry.stop.Goals as goal

pub returns-clause-verdict : goal.returns-clause-verdict
returns-clause-verdict c =
    subst (λ (h : List ℕ). IsAnswer (stop_verdict c.args.self.now h c.args.key.now) c.stop_owned.result)
    c.in_ok-host.ensures
    (subst (λ (k : List ℕ). IsAnswer (stop_verdict c.args.self.now c.in_ok-host.host k) c.stop_owned.result)
    c.in_ok-key.ensures c.stop_owned.ensures.verdict)
