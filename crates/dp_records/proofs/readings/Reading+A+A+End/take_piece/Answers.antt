use Rattle.std.proofs.Common.{List, ℕ, ◌++◌, refl, sym, ap, ◌∙◌, subst, append_assoc, arith}
use Rattle.dp_records.specs.declared.readings.Reading.{Reading}
use Rattle.dp_records.specs.inner.Audits.{ComesNone, HaltsBy, IsReading}
use Rattle.dp_records.proofs.ReadingLaws.{halts_long, line_on, piece_on, reads_line, reads_part, some_is}
use Rattle.dp_records.proofs.readings.Reading+A+A+End.take_piece.Goals as goal

pub returns-in-Some-2 : goal.returns-in-Some-2
returns-in-Some-2 g c = λ start init bytes h.
    let inv = c.lines.invariant in
    let cut = c.in-Some.ensures.cut in
    let line = c.in-Some.line.now in
    let behind = c.in-Some.behind.now in
    let new : Reading g.row.A.Denot g.row.A-End.Denot =
    record { audit = c.lines.self.audit; line = c.extend_from_slice.new.self; number = c.lines.self.number } in
    let has = reads_line g.A.Responder.step start init (bytes ++ inv.0) line c.lines.self new (inv.2 start init bytes h)
    cut.0 c.in_ok-extend_from_slice.ensures.items refl refl in
    let halts = rw c.in-Some-2.is at (c.in_ok-halt.ensures start init ((bytes ++ inv.0) ++ line) behind
    (some_is c.is_empty.result behind c.is_empty.ensures) has) in
    subst (λ (l : List ℕ). HaltsBy g.A.Responder.step start init c.in-Some-2.halt l c.take_line.new.self)
    (line_on bytes inv.0 c.lines.rest.now line behind c.args.piece.now inv.1 cut.1) halts

pub lines-preserved : goal.lines-preserved
lines-preserved g c =
    let inv = c.lines.invariant in
    let cut = c.in-Some.ensures.cut in
    let line = c.in-Some.line.now in
    let behind = c.in-Some.behind.now in
    let new : Reading g.row.A.Denot g.row.A-End.Denot =
    record { audit = c.lines.self.audit; line = c.extend_from_slice.new.self; number = c.lines.self.number } in (
      inv.0 ++ line,
      inv.1 ∙ ap (λ l. inv.0 ++ l) cut.1 ∙ sym (append_assoc inv.0 line behind),
      λ start init bytes h.
          let has = reads_line g.A.Responder.step start init (bytes ++ inv.0) line c.lines.self new
          (inv.2 start init bytes h) cut.0 c.in_ok-extend_from_slice.ensures.items refl refl in
          let reads = rw c.in_default-2.is at (c.in_ok-halt.ensures start init ((bytes ++ inv.0) ++ line) behind
          (some_is c.is_empty.result behind c.is_empty.ensures) has) in
          subst (λ (l : List ℕ). IsReading g.A.Responder.step start init l c.take_line.new.self)
          (append_assoc bytes inv.0 line) reads,
    )

pub returns-then-len-gt-LINE_LIMIT : goal.returns-then-len-gt-LINE_LIMIT
returns-then-len-gt-LINE_LIMIT g c = λ start init bytes h.
    let inv = c.lines.invariant in
    let rest = c.lines.rest.now in
    let new : Reading g.row.A.Denot g.row.A-End.Denot =
    record { audit = c.lines.self.audit; line = c.extend_from_slice-2.new.self; number = c.lines.self.number } in
    let reads = reads_part g.A.Responder.step start init (bytes ++ inv.0) rest c.lines.self new
    (inv.2 start init bytes h)
    c.in_default.ensures.none c.in_ok-extend_from_slice-2.ensures.items refl refl in
    let long = c.if-len-gt-LINE_LIMIT.true in
    subst (λ (l : List ℕ). ComesNone g.A.Responder.step start init l c.lines.self.number)
    (piece_on bytes inv.0 rest c.args.piece.now inv.1)
    (halts_long g.A.Responder.step start init ((bytes ++ inv.0) ++ rest) new reads
    (omega (arith, long, c.len.ensures, c.extend_from_slice-2.new.self.ok.0)))

pub returns : goal.returns
returns g c = λ start init bytes h.
    let inv = c.lines.invariant in
    let rest = c.lines.rest.now in
    let new : Reading g.row.A.Denot g.row.A-End.Denot =
    record { audit = c.lines.self.audit; line = c.extend_from_slice-2.new.self; number = c.lines.self.number } in
    subst (λ (l : List ℕ). IsReading g.A.Responder.step start init l new)
    (piece_on bytes inv.0 rest c.args.piece.now inv.1)
    (reads_part g.A.Responder.step start init (bytes ++ inv.0) rest c.lines.self new (inv.2 start init bytes h)
    c.in_default.ensures.none c.in_ok-extend_from_slice-2.ensures.items refl refl)
