use Rattle.std.proofs.Common.{◌∙◌, ◌==◌, ℕ, ap}
use Rattle.dp_records.proofs.BalanceLaws.{front_iff, never_front}
use Rattle.dp_records.proofs.balances.Balance.is_front.Goals as goal

pub returns-then-self : goal.returns-then-self
returns-then-self c = λ told other b.
    let owed = c.args.self.now.«record» in
    front_iff c.is_empty.result told other c.args.self.now.session.items owed.items
    (rw c.if-self.true at b) (c.is_empty.ensures ∙ ap (λ (n : ℕ). n == 0) owed.ok.0)

pub returns-else-self : goal.returns-else-self
returns-else-self c = λ told other b. (
  λ yes. absurd (cc),
  λ front. absurd (never_front told other (rw c.if-self.false at b) front),
)
