use Rattle.std.proofs.Common.{◌∙◌, ◌==◌, ℕ, ap, sym}
use Rattle.dp_records.proofs.BalanceLaws.{apart_not, even_iff, uneven}
use Rattle.dp_records.proofs.balances.Balance.is_even.Goals.{then-self, else-self}
use Rattle.dp_records.proofs.balances.Balance.is_even.Goals as goal

pub returns-then-is_empty : goal.returns-then-is_empty
returns-then-is_empty c = λ told other b.
    let now = c.args.self.now in
    elim c.if-self.branch [
      | then-self w ↦
          even_iff c.is_empty-then-is_empty.result told other now.session.items now.«record».items
          (rw w.if-self.true at b)
          (sym (ap (λ (n : ℕ). n == 0) now.«record».ok.0) ∙ sym w.is_empty.ensures ∙ sym w.value-is ∙
          c.if-is_empty.true)
          (c.is_empty-then-is_empty.ensures ∙ ap (λ (n : ℕ). n == 0) now.session.ok.0)
      | else-self w ↦ absurd (cc)
    ]

pub returns-else-is_empty : goal.returns-else-is_empty
returns-else-is_empty c = λ told other b. (
  λ yes. absurd (cc),
  λ same.
      let now = c.args.self.now in
      elim c.if-self.branch [
        | then-self w ↦
            absurd (uneven told other now.session.items now.«record».items (rw w.if-self.true at b)
            (sym (ap (λ (n : ℕ). n == 0) now.«record».ok.0) ∙ sym w.is_empty.ensures ∙ sym w.value-is
            ∙ c.if-is_empty.false) same)
        | else-self w ↦ absurd (apart_not told other (rw w.if-self.false at b) same)
      ],
)
