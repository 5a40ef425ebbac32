use Rattle.std.proofs.Common.{[], ◌∷◌, ◌++◌, arith}
use Rattle.std.proofs.KnownBytes.{Appends-nil}
use Rattle.std.proofs.lemmas.Result.{err_from_is_err_and}
use Rattle.dp_records.specs.declared.entry.Entry.{Entry}
use Rattle.dp_records.proofs.TapeLaws.{line_front, line_put, on_more, on_none}
use Rattle.dp_records.proofs.tapes.put_lines.Goals as goal

pub lines-init : goal.lines-init
lines-init g c = (
  omega arith,
  ([], on_none c.args.stream c.args.bytes.now, Appends-nil (g.K.Sink.taken c.args.sink.now)),
)

pub lines-preserved : goal.lines-preserved
lines-preserved g c =
    let inv = c.lines.invariant.1 in
    let cut = c.first_piece in
    let e : Entry = record { stream = c.args.stream; bytes = cut.result.0.now } in (
      omega (arith, c.in_ok-put_line.ensures.later),
      (
        inv.0 ++ e ∷ [],
        on_more c.args.stream c.args.bytes.now c.lines.rest.now cut.result.0.now cut.result.1.now inv.0 inv.1
            cut.ensures.whole cut.ensures.piece,
        line_put (g.K.Sink.taken c.args.sink.now) (g.K.Sink.taken c.lines.sink) (g.K.Sink.taken c.put_line.new.sink)
            inv.0 e inv.2 c.in_ok-put_line.ensures.taken,
      ),
    )

pub returns-in_err-put_line-clause-front : goal.returns-in_err-put_line-clause-front
returns-in_err-put_line-clause-front g c =
    let p = err_from_is_err_and c.from_residual.result c.from_residual.ensures.1 in
    let inv = c.lines.invariant.1 in
    let cut = c.first_piece in
    let e : Entry = record { stream = c.args.stream; bytes = cut.result.0.now } in
    rw p.1 (record {
      entries = inv.0 ++ e ∷ [];
      rest = cut.result.1.now;
      on = on_more c.args.stream c.args.bytes.now c.lines.rest.now cut.result.0.now cut.result.1.now inv.0 inv.1
          cut.ensures.whole cut.ensures.piece;
      written = line_front (g.K.Sink.taken c.args.sink.now) (g.K.Sink.taken c.lines.sink)
          (g.K.Sink.taken c.put_line.new.sink) inv.0 e inv.2 c.in_err-put_line.ensures.taken;
    })
