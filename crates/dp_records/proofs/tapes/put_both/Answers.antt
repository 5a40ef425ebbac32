use Rattle.std.proofs.Common.{[]}
use Rattle.std.proofs.lemmas.Result.{err_from_is_err_and}
use Rattle.dp_records.proofs.TapeLaws.{front_join, front_out, front_own, put_join, put_out, put_own}
use Rattle.dp_records.proofs.tapes.put_both.Goals as goal

pub returns-in_err-put_lines-clause-front : goal.returns-in_err-put_lines-clause-front
returns-in_err-put_lines-clause-front g c =
    let p = err_from_is_err_and c.from_residual.result c.from_residual.ensures.1 in
    rw p.1 (front_out c.args.sent.now c.args.own.now (g.K.Sink.taken c.args.sink.now)
    (g.K.Sink.taken c.put_lines.new.sink) c.in_err-put_lines.ensures.front)

pub returns-in_err-put_lines-2-clause-front : goal.returns-in_err-put_lines-2-clause-front
returns-in_err-put_lines-2-clause-front g c =
    let p = err_from_is_err_and c.from_residual-in_err-put_lines-2.result
    c.from_residual-in_err-put_lines-2.ensures.1 in
    let sent = c.args.sent.now in
    let own = c.args.own.now in
    let old = g.K.Sink.taken c.args.sink.now in
    let mid = g.K.Sink.taken c.put_lines.new.sink in
    let new = g.K.Sink.taken c.put_lines-2.new.sink in
    rw p.1 (front_join sent own [] own old mid new (put_out sent own old mid c.in_ok-put_lines.ensures.all)
    (front_own [] own mid new c.in_err-put_lines-2.ensures.front))

pub returns-clause-all : goal.returns-clause-all
returns-clause-all g c =
    let sent = c.args.sent.now in
    let own = c.args.own.now in
    let old = g.K.Sink.taken c.args.sink.now in
    let mid = g.K.Sink.taken c.put_lines.new.sink in
    let new = g.K.Sink.taken c.put_lines-2.new.sink in
    put_join sent own [] own [] [] old mid new (put_out sent own old mid c.in_ok-put_lines.ensures.all)
    (put_own [] own mid new c.in_ok-put_lines-2.ensures.all)
