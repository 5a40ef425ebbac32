use Rattle.std.proofs.lemmas.Result.{err_from_is_err_and}
use Rattle.dp_records.proofs.TapeLaws.{front_own, put_own}
use Rattle.dp_records.proofs.tapes.Taping.put_own.Goals as goal

pub returns-in_err-put_lines-clause-front : goal.returns-in_err-put_lines-clause-front
returns-in_err-put_lines-clause-front g c =
    let p = err_from_is_err_and c.from_residual.result c.from_residual.ensures.1 in
    rw p.1 (front_own c.args.self.now.sent.items c.args.self.now.own.items (g.K.Sink.taken c.args.sink.now)
    (g.K.Sink.taken c.put_lines.new.sink) (rw c.as_slice.ensures.value at c.in_err-put_lines.ensures.front))

pub returns-clause-all : goal.returns-clause-all
returns-clause-all g c =
    rw c.clear.ensures.items
    (put_own c.args.self.now.sent.items c.args.self.now.own.items (g.K.Sink.taken c.args.sink.now)
    (g.K.Sink.taken c.put_lines.new.sink) (rw c.as_slice.ensures.value at c.in_ok-put_lines.ensures.all))
