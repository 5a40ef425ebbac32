use Rattle.std.proofs.Common.{◌≡◌, Some, length, ap, sym, ◌∙◌, subst, true}
use Rattle.dp_polled.specs.Posts.{Known, after_empty, after_take}
use Rattle.dp_polled.specs.Posted.{State, HasOnlyTaken, IsKept, given, is_spent}
use Rattle.dp_polled.proofs.Giving.{goes_empty, goes_take, keeps_next, took_given}
use Rattle.dp_polled.proofs.posted.Posted.ask.Goals as goal

pub invariant_of-self : goal.invariant_of-self
invariant_of-self g c =
    let s = c.self.inside in
    let spent : is_spent s.kept s.at ≡ true =
    ap (λ (v : State). is_spent v.kept v.at) c.self.view_is ∙ sym c.is_spent.ensures ∙ c.if-not-is_spent.false in (
      ap (λ (k : Known). k.post) c.in-Some.ensures ∙ c.self.invariant.0,
      ap (λ (k : Known). k.may_take) c.in-Some.ensures ∙ c.self.invariant.1,
      subst (λ (k : Known). IsKept k.taken (Some c.in-Some.piece) 0 s.faults) (sym c.in-Some.ensures)
          (keeps_next s.seat.taken s.kept s.at s.faults c.in-Some.piece spent c.self.invariant.2),
    )

pub returns-in-Some-clause-given : goal.returns-in-Some-clause-given
returns-in-Some-clause-given g c =
    let s = c.self.inside in
    let spent : is_spent s.kept s.at ≡ true =
    ap (λ (v : State). is_spent v.kept v.at) c.self.view_is ∙ sym c.is_spent.ensures ∙ c.if-not-is_spent.false in
    let v : State =
    record { seat = s.seat; kept = s.kept; at = s.at; looks = length s.looks.items; faults = s.faults } in
    took_given c.take.new.seat v c.in-Some.piece c.in-Some.ensures spent ∙ ap given c.self.view_is

pub returns-in-Some-clause-seat : goal.returns-in-Some-clause-seat
returns-in-Some-clause-seat g c =
    let s = c.self.inside in
    subst (λ (k : Known). HasOnlyTaken c.args.self.now.seat k) (sym c.in-Some.ensures)
    (subst (λ (v : State). HasOnlyTaken v.seat (after_take c.in-Some.piece s.seat)) c.self.view_is
    (goes_take s.seat c.in-Some.piece))

pub returns-in_default-clause-seat : goal.returns-in_default-clause-seat
returns-in_default-clause-seat g c =
    let s = c.self.inside in
    subst (λ (k : Known). HasOnlyTaken c.args.self.now.seat k) (sym c.in_default.ensures)
    (subst (λ (v : State). HasOnlyTaken v.seat (after_empty s.seat)) c.self.view_is (goes_empty s.seat))
