use Rattle.std.proofs.Common.{List, ℕ, sym, ap, ◌∙◌, inl, inr}
use Rattle.dp_registry.specs.Verdicts.{register_verdict, stop_verdict}
use Rattle.dp_proxy.specs.Replies.{verdict_on}
use Rattle.dp_proxy.proofs.replies.verdict_on.Goals as goal

pub returns-in-Register-clause-verdict : goal.returns-in-Register-clause-verdict
returns-in-Register-clause-verdict c = elim c.register.ensures.verdict [
  | inl memory ↦ inl memory
  | inr is ↦ inr (is
      ∙ ap (λ (k : List ℕ). register_verdict c.args.registry.now c.args.host.now c.in-Register.port k)
      c.as_slice.ensures
      ∙ ap (verdict_on c.args.registry.now c.args.host.now) (sym c.in-Register.is))
]

pub returns-in-Stop-clause-verdict : goal.returns-in-Stop-clause-verdict
returns-in-Stop-clause-verdict c = elim c.stop.ensures.verdict [
  | inl memory ↦ inl memory
  | inr is ↦ inr (is
      ∙ ap (λ (k : List ℕ). stop_verdict c.args.registry.now c.args.host.now k) c.as_slice-in-Stop.ensures
      ∙ ap (verdict_on c.args.registry.now c.args.host.now) (sym c.in-Stop.is))
]
