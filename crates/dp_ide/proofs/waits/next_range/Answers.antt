use Rattle.std.proofs.Common.{rules, ◌++◌, ◌∙◌, inr, ap, append_assoc, arith, refl, Ok}
use Rattle.std.proofs.KnownBytes.{Consumes-trans}
use Rattle.dp_outside.specs.Changes.{change}
use Rattle.dp_wire.specs.Frames.{IsPartialPacket}
use Rattle.dp_wire.specs.Places.{refused_at}
use Rattle.dp_ide.proofs.AwaitLaws.{first_wanted, piece_failed, refused_next}
use Rattle.dp_ide.proofs.waits.next_range.Goals as goal

pub returns-in-Err-clause-err : goal.returns-in-Err-clause-err
returns-in-Err-clause-err g c =
    let here = c.pieces.invariant.1 in record {
      piece = here.0;
      consumed = here.1;
      lacks =
          inr (refused_next c.args.packets.now c.pieces.packets here.0 c.in-Err.why c.place.result here.2
          (c.next.ensures.refused.0 (search rules)) c.in-Err.ensures.cause
          (c.place.ensures ∙ ap (refused_at c.in-Err.why) c.dropped.ensures));
    }

pub returns-in-Err-read_piece-clause-err : goal.returns-in-Err-read_piece-clause-err
returns-in-Err-read_piece-clause-err g c =
    let here = c.pieces.invariant.1 in
    let partial : IsPartialPacket c.pieces.packets.held = c.next.ensures.partial.0
    (c.in-Ok-None.is ∙ ap Ok c.in-Ok-None.field-0-is) in
    piece_failed c.in-Err-read_piece.why c.args.packets.now c.pieces.packets here.0
    (change g.S.Source.left g.S.Source.faults c.pieces.source c.read_piece.new.source)
    (change g.S.Source.left g.S.Source.faults c.args.source.now c.read_piece.new.source)
    here.2 here.1 c.pieces.invariant.0 refl refl partial c.in-Err-read_piece.ensures.err

pub pieces-preserved : goal.pieces-preserved
pieces-preserved g c =
    let before = c.pieces.invariant.1 in
    let more = c.in-Ok.ensures.ok in (
      omega (arith, c.pieces.invariant.0, c.read_piece.ensures.later),
      (
        before.0 ++ more.0,
        Consumes-trans _ _ _ before.0 more.0 before.1 more.1,
        record {
          held =
              more.2.held ∙ ap (λ l. l ++ more.0) before.2.held ∙ append_assoc c.args.packets.now.held before.0 more.0;
          dropped = more.2.dropped ∙ before.2.dropped;
        },
        first_wanted c.args.packets.now c.pieces.packets before.0 more.0 before.2
            (c.next.ensures.none (c.in-Ok-None.is ∙ ap Ok c.in-Ok-None.field-0-is)) (omega (arith, more.3, more.4)),
      ),
    )
