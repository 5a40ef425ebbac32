use Rattle.std.proofs.Common.{ℕ, List, ◌+◌, ◌++◌, sym, subst}
use Rattle.dp_records.specs.Behaviours.{behaviour_of}
use Rattle.dp_records.specs.Verdicts.{DiffersAt, IsBadAt, Judges}
use Rattle.dp_records.proofs.JudgeLaws.{judged_bad, judged_different}
use Rattle.dp_records.proofs.records.audit.Goals as goal

pub returns-in-Differs-clause-judged : goal.returns-in-Differs-clause-judged
returns-in-Differs-clause-judged g c = λ bytes left_is.
    let t = c.in_ok-halt.ensures.halts c.args.session c.args.init.now bytes left_is c.in_ok-reading.ensures in
    let line = (rw c.in_ok-line.ensures.ok_part at c.checked_add.ensures).1 in
    let number = c.read_lines.new.reading.number in
    subst (λ n. DiffersAt (behaviour_of g.A.Responder.step g.A.Recorded.rest_after g.A.Recorded.ending_after
    c.args.session c.args.init.now) bytes n) (sym line)
    (subst (λ (l : List ℕ). DiffersAt
    (behaviour_of g.A.Responder.step g.A.Recorded.rest_after g.A.Recorded.ending_after c.args.session c.args.init.now)
    l (number + 1))
    (sym t.2.whole)
    (judged_different g.A.Responder.step g.A.Recorded.rest_after g.A.Recorded.ending_after c.args.session
    c.args.init.now
    t.2.read t.0 number (rw c.in-Differs.is at t.2.halts)))

pub returns-in-Bad-clause-judged : goal.returns-in-Bad-clause-judged
returns-in-Bad-clause-judged g c = λ bytes left_is.
    let t = c.in_ok-halt.ensures.halts c.args.session c.args.init.now bytes left_is c.in_ok-reading.ensures in
    let line = (rw c.in_ok-line.ensures.ok_part at c.checked_add.ensures).1 in
    let number = c.read_lines.new.reading.number in
    subst (λ n. IsBadAt (behaviour_of g.A.Responder.step g.A.Recorded.rest_after g.A.Recorded.ending_after
    c.args.session c.args.init.now) bytes n) (sym line)
    (subst (λ (l : List ℕ). IsBadAt
    (behaviour_of g.A.Responder.step g.A.Recorded.rest_after g.A.Recorded.ending_after c.args.session c.args.init.now)
    l (number + 1))
    (sym t.2.whole)
    (judged_bad g.A.Responder.step g.A.Recorded.rest_after g.A.Recorded.ending_after c.args.session c.args.init.now
    (t.2.read ++ t.0) number (rw c.in-Bad.is at t.2.halts)))

pub returns-in-Ends-clause-judged : goal.returns-in-Ends-clause-judged
returns-in-Ends-clause-judged g c = λ bytes left_is.
    let t = c.in_ok-halt.ensures.halts c.args.session c.args.init.now bytes left_is c.in_ok-reading.ensures in
    subst (λ (l : List ℕ). Judges
    (behaviour_of g.A.Responder.step g.A.Recorded.rest_after g.A.Recorded.ending_after c.args.session c.args.init.now)
    l c.judge_end.result)
    (sym t.2.whole)
    (c.judge_end.ensures.judged c.args.session c.args.init.now t.2.read t.0 t.1 (rw c.in-Ends.is at t.2.halts))
