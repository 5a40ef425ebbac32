use Rattle.std.proofs.Common.{List, ℕ, ◌≡◌, ◌++◌}
use Rattle.dp_records.specs.inner.Balances.{IsBalance}
use Rattle.dp_records.proofs.BalanceLaws.{session_paid, told_apart}
use Rattle.dp_records.proofs.ResultLaws.{if_so}
use Rattle.dp_records.proofs.balances.Balance.session_reports.Goals as goal

pub returns-in-Some : goal.returns-in-Some
returns-in-Some c =
    let now = c.args.self.now in
    if_so c.owe.result _ _
    (λ (owed : c.owe.new.owed.items ≡ now.session.items ++ c.in-Some.rest.now) (told other : List ℕ)
    (b : IsBalance now told other).
    session_paid now.same told other now.session.items now.«record».items c.pay.new.owed.items c.args.bytes.now
    c.in-Some.rest.now c.owe.new.owed.items c.if-not-self.false b c.in-Some.ensures.paid owed) c.owe.ensures

pub returns-in-None : goal.returns-in-None
returns-in-None c = λ told other b.
    told_apart told other c.args.self.now.session.items c.args.self.now.«record».items c.args.bytes.now
    (rw c.if-not-self.false at b) c.in-None.ensures.apart
