use Rattle.std.proofs.Common.{◌+◌, ◌++◌, sym, ap, ◌∙◌, subst}
use Rattle.dp_records.specs.Behaviours.{behaviour_of}
use Rattle.dp_records.specs.Verdicts.{DiffersAt, IsBadAt}
use Rattle.dp_records.proofs.JudgeLaws.{judged_behind, judged_end, judged_honest, nothing_more, some_first, some_left}
use Rattle.dp_records.proofs.records.judge_end.Goals as goal

pub returns-then-not-right-clause-judged : goal.returns-then-not-right-clause-judged
returns-then-not-right-clause-judged g c = λ start init read left left_is e.
    let decides = c.in_ok-right.ensures start init e.entries e.audit in
    subst (λ n. DiffersAt (behaviour_of g.A.Responder.step g.A.Recorded.rest_after g.A.Recorded.ending_after start
    init) (read ++ left) n) (sym c.requires)
    (judged_end g.A.Responder.step g.A.Recorded.rest_after g.A.Recorded.ending_after start init c.args.status
    c.args.more read left c.args.reading e
    (λ right. let yes = decides.1 right in absurd (cc)))

pub returns-then-more-clause-judged : goal.returns-then-more-clause-judged
returns-then-more-clause-judged g c = λ start init read left left_is e.
    let decides = c.in_ok-right.ensures start init e.entries e.audit in
    let behind = (rw c.in_ok-behind.ensures.ok_part at c.checked_add.ensures).1 in
    subst (λ n. IsBadAt (behaviour_of g.A.Responder.step g.A.Recorded.rest_after g.A.Recorded.ending_after start init)
    (read ++ left) n) (sym (behind ∙ ap (λ n. n + 1) c.requires))
    (judged_behind g.A.Responder.step g.A.Recorded.rest_after g.A.Recorded.ending_after start init c.args.status
    c.args.more read left c.args.reading e
    (decides.0 c.if-not-right.false) (some_first e.rest left (e.is_more.0 c.if-more.true)))

pub returns-then-not-at_end-clause-judged : goal.returns-then-not-at_end-clause-judged
returns-then-not-at_end-clause-judged g c = λ start init read left left_is e.
    let decides = c.in_ok-right.ensures start init e.entries e.audit in
    let behind = (rw c.in_ok-behind.ensures.ok_part at c.checked_add.ensures).1 in
    let ends = c.in_ok-at_end.ensures.is left left_is in
    subst (λ n. IsBadAt (behaviour_of g.A.Responder.step g.A.Recorded.rest_after g.A.Recorded.ending_after start init)
    (read ++ left) n) (sym (behind ∙ ap (λ n. n + 1) c.requires))
    (judged_behind g.A.Responder.step g.A.Recorded.rest_after g.A.Recorded.ending_after start init c.args.status
    c.args.more read left c.args.reading e
    (decides.0 c.if-not-right.false) (some_left e.rest left (λ none. let yes = ends.1 none in absurd (cc))))

pub returns-clause-judged : goal.returns-clause-judged
returns-clause-judged g c = λ start init read left left_is e.
    let decides = c.in_ok-right.ensures start init e.entries e.audit in
    let none = nothing_more c.args.more e.rest e.is_more c.if-more.false in
    let end = (c.in_ok-at_end.ensures.is left left_is).0 c.if-not-at_end.false in
    judged_honest g.A.Responder.step g.A.Recorded.rest_after g.A.Recorded.ending_after start init c.args.status
    c.args.more read left c.args.reading e
    (decides.0 c.if-not-right.false) (λ i. none i ++ end i)
