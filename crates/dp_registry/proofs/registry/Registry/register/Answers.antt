use Rattle.std.proofs.Common.{ℕ, List, subst}
use Rattle.dp_registry.specs.Verdicts.{register_verdict, IsAnswer}
use Rattle.dp_registry.proofs.registry.Registry.register.Goals as goal

pub returns-clause-verdict : goal.returns-clause-verdict
returns-clause-verdict c =
    subst (λ (h : List ℕ). IsAnswer (register_verdict c.args.self.now h c.args.port c.args.key.now)
    c.register_owned.result) c.in_ok-host.ensures
    (subst (λ (k : List ℕ). IsAnswer (register_verdict c.args.self.now c.in_ok-host.host c.args.port k)
    c.register_owned.result) c.in_ok-key.ensures c.register_owned.ensures.verdict)
