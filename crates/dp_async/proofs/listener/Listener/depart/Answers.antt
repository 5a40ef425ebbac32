use Rattle.std.proofs.Common.{◌≡◌, take, refl}
use Rattle.std.proofs.lemmas.Result.{IfOk-weaker}
use Rattle.dp_command.specs.Lines.{line_of}
use Rattle.dp_async.proofs.Departures.{departs_by, departs_own}
use Rattle.dp_async.proofs.listener.Listener.depart.Goals as goal

pub returns-in-None-clause-departs : goal.returns-in-None-clause-departs
returns-in-None-clause-departs g c =
    let line : c.in_ok-line.line ≡ line_of (take c.args.end c.args.self.now.held.held) =
    rw c.bytes.ensures at c.in_ok-line.ensures.value in
    let own = rw c.in-None.is at c.in_ok-own_text.ensures.text in
    IfOk-weaker c.depart_read.result _ _ (λ departure h. departs_by _ _ _ c.in_ok-line.line departure line own h)
    c.depart_read.ensures.departs

pub returns-in_ok-answer_of-in-Some-clause-departs : goal.returns-in_ok-answer_of-in-Some-clause-departs
returns-in_ok-answer_of-in-Some-clause-departs g c =
    let line : c.in_ok-line.line ≡ line_of (take c.args.end c.args.self.now.held.held) =
    rw c.bytes.ensures at c.in_ok-line.ensures.value in
    let own = rw c.in-Some.is at c.in_ok-own_text.ensures.text in
    departs_own _ _ _ c.in_ok-line.line c.in-Some.text _ line own c.in_ok-answer_of-in-Some.ensures refl
