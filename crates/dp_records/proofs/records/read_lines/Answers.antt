use Rattle.std.proofs.Common.{[], ◌++◌, refl, ap, ◌∙◌, take, arith}
use Rattle.dp_records.proofs.ReadingLaws.{gives_end, gives_on, halts_at_end, halts_in, whole_on}
use Rattle.dp_records.proofs.TapingLaws.{rose_since}
use Rattle.dp_records.proofs.records.read_lines.Goals as goal

pub pieces-init : goal.pieces-init
pieces-init g c = (omega arith, λ start init bytes left_is h. ([], bytes, refl, left_is, h))

pub returns-in-Err-clause-fails : goal.returns-in-Err-clause-fails
returns-in-Err-clause-fails g c =
    rose_since (g.S.Source.faults c.args.source.now) (g.S.Source.faults c.pieces.source)
    (g.S.Source.faults c.take.new.self) c.pieces.invariant.0 c.in-Err.ensures.cause.failed

pub returns-then-count-eq0-clause-halts : goal.returns-then-count-eq0-clause-halts
returns-then-count-eq0-clause-halts g c = λ start init bytes left_is h.
    let i = c.pieces.invariant.1 start init bytes left_is h in
    let end = gives_end i.1 c.take.new.buf c.in-Ok.count (g.S.Source.left c.pieces.source)
    (g.S.Source.left c.take.new.self) i.3
    c.in-Ok.ensures.left c.if-count-eq0.true (omega (arith, c.take.auto.buf)) in (
      [],
      end.1,
      record {
        read = i.0;
        whole = i.2 ∙ ap (λ l. i.0 ++ l) end.0;
        halts = halts_at_end g.A.Responder.step start init i.0 c.pieces.reading i.4;
      },
    )

pub returns-in-Some-clause-halts : goal.returns-in-Some-clause-halts
returns-in-Some-clause-halts g c = λ start init bytes left_is h.
    let i = c.pieces.invariant.1 start init bytes left_is h in
    let piece = take c.in-Ok.count c.take.new.buf in
    let on = gives_on i.1 piece (g.S.Source.left c.pieces.source) (g.S.Source.left c.take.new.self) i.3
    c.in-Ok.ensures.left.0 in
    let halts = rw c.in-Some.is at (c.in_ok-halt.ensures start init i.0 i.4) in (
      on.rest,
      on.is,
      record {
        read = i.0 ++ piece;
        whole = whole_on bytes i.0 i.1 piece on.rest i.2 on.whole;
        halts = halts_in g.A.Responder.step start init c.in-Some.halt (i.0 ++ piece) on.rest c.take_piece.new.self
            halts;
      },
    )

pub pieces-preserved : goal.pieces-preserved
pieces-preserved g c = (
  omega (arith, c.pieces.invariant.0, c.in-Ok.ensures.cause.later),
  λ start init bytes left_is h.
      let i = c.pieces.invariant.1 start init bytes left_is h in
      let piece = take c.in-Ok.count c.take.new.buf in
      let on = gives_on i.1 piece (g.S.Source.left c.pieces.source) (g.S.Source.left c.take.new.self) i.3
      c.in-Ok.ensures.left.0 in (
        i.0 ++ piece,
        on.rest,
        whole_on bytes i.0 i.1 piece on.rest i.2 on.whole,
        on.is,
        rw c.in_default.is at (c.in_ok-halt.ensures start init i.0 i.4),
      ),
)
