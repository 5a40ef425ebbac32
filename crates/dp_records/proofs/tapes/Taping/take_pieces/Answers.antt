use Rattle.std.proofs.Common.{◌≡◌, [], ◌+◌, ◌≤◌, ◌++◌, length, take, rules, refl, sym, arith, length-append, length-take}
use Rattle.std.proofs.KnownBytes.{Consumes-kept, Consumes-nil, Consumes-trans}
use Rattle.std.proofs.lemmas.Result.{err_from_is_err_and}
use Rattle.dp_conversation.specs.Service.{byte_limit}
use Rattle.dp_records.specs.Records.{piece_limit}
use Rattle.dp_records.proofs.TapingLaws.{read_end, read_here, read_on, rose_since}
use Rattle.dp_records.proofs.TurnLaws.{over_not}
use Rattle.dp_records.proofs.tapes.Taping.take_pieces.Goals as goal

pub pieces-init : goal.pieces-init
pieces-init g c = (
  omega arith,
  omega arith,
  omega arith,
  λ start init before h. ([], refl, Consumes-nil (g.S.Source.left c.args.source.now), h),
)

pub returns-in-Err-clause-taped : goal.returns-in-Err-clause-taped
returns-in-Err-clause-taped g c = λ start init before h.
    let inv = c.pieces.invariant in
    let i = inv.3 start init before h in
    let less = c.pieces-test.true in
    record {
      read = i.0;
      has = record {
        within = omega (arith, i.1, less);
        up_to = read_here g.A.Responder.step start init i.0 before (g.K.Sink.taken c.pieces.sink) c.pieces.self i.3;
        consumed = Consumes-kept (g.S.Source.left c.args.source.now) (g.S.Source.left c.pieces.source)
            (g.S.Source.left c.take.new.self)
            i.0 i.2 c.in-Err.ensures.left;
      };
      stops = (
        rose_since (g.S.Source.faults c.args.source.now) (g.S.Source.faults c.pieces.source)
            (g.S.Source.faults c.take.new.self) inv.0 c.in-Err.ensures.cause.failed,
        omega (arith, i.1, less),
      );
      taping = i.3;
    }

pub returns-then-more-eq0-clause-taped : goal.returns-then-more-eq0-clause-taped
returns-then-more-eq0-clause-taped g c = λ start init before h.
    let inv = c.pieces.invariant in
    let i = inv.3 start init before h in
    let less = c.pieces-test.true in
    let none = c.if-more-eq0.true in
    let end = read_end (g.S.Source.left c.args.source.now) (g.S.Source.left c.pieces.source)
    (g.S.Source.left c.take.new.self)
    i.0 c.take.new.buf c.in-Ok.more i.2 c.in-Ok.ensures.left none (omega (
      arith,
      less,
      c.take.auto.buf,
      c.min-room.ensures,
      length-take c.min-room.result c.pieces.buffer,
      c.min-room.array_long,
    )) in
    record {
      read = i.0;
      has = record {
        within = omega (arith, i.1, less);
        up_to = read_here g.A.Responder.step start init i.0 before (g.K.Sink.taken c.pieces.sink) c.pieces.self i.3;
        consumed = end.0;
      };
      stops = (sym i.1, λ goes. (end.1, omega (arith, i.1, less)));
      taping = i.3;
    }

pub returns-in_err-over-clause-cut : goal.returns-in_err-over-clause-cut
returns-in_err-over-clause-cut g c =
    let p = err_from_is_err_and c.from_residual.result c.from_residual.ensures.1 in
    rw p.1 (λ start init before h.
    let inv = c.pieces.invariant in
    let i = inv.3 start init before h in
    let piece = take c.in-Ok.more c.take.new.buf in
    let count = length-take c.in-Ok.more c.take.new.buf in
    let bound = c.in-Ok.ensures.bound in
    let most = length-take c.min-room.result c.pieces.buffer in
    let kept = c.take.auto.buf in
    let short : length piece ≤ piece_limit = omega (arith, count, bound, kept, most, c.min-room.ensures) in
    let fits : length (i.0 ++ piece) ≤ byte_limit =
    omega (arith, i.1, count, bound, kept, most, c.min-room.ensures, length-append i.0 piece) in
    let counted : length (i.0 ++ piece) ≡ c.pieces.count + c.in-Ok.more =
    omega (arith, i.1, count, bound, length-append i.0 piece) in
    record {
      read = i.0 ++ piece;
      has = record {
        within = omega (arith, fits);
        up_to = read_on g.A.Responder.step start init i.0 before (g.K.Sink.taken c.pieces.sink) c.pieces.self i.3 piece
            short;
        consumed = Consumes-trans (g.S.Source.left c.args.source.now) (g.S.Source.left c.pieces.source)
            (g.S.Source.left c.take.new.self)
            i.0 piece i.2 c.in-Ok.ensures.left.0;
      };
      cut = c.in_err-over.ensures.cut start init i.0 before fits i.3;
    })

pub pieces-preserved : goal.pieces-preserved
pieces-preserved g c =
    let inv = c.pieces.invariant in (
      omega (arith, c.in-Ok.ensures.cause.later),
      omega (arith, c.in_ok-over.ensures.later),
      omega (
        arith,
        c.in-Ok.ensures.bound,
        c.take.auto.buf,
        c.min-room.ensures,
        length-take c.min-room.result c.pieces.buffer,
      ),
      λ start init before h.
          let i = inv.3 start init before h in
          let piece = take c.in-Ok.more c.take.new.buf in
          let count = length-take c.in-Ok.more c.take.new.buf in
          let bound = c.in-Ok.ensures.bound in
          let most = length-take c.min-room.result c.pieces.buffer in
          let kept = c.take.auto.buf in
          let short : length piece ≤ piece_limit = omega (arith, count, bound, kept, most, c.min-room.ensures) in
          let fits : length (i.0 ++ piece) ≤ byte_limit =
          omega (arith, i.1, count, bound, kept, most, c.min-room.ensures, length-append i.0 piece) in
          let counted : length (i.0 ++ piece) ≡ c.pieces.count + c.in-Ok.more =
          omega (arith, i.1, count, bound, length-append i.0 piece) in (
            i.0 ++ piece,
            counted,
            Consumes-trans (g.S.Source.left c.args.source.now) (g.S.Source.left c.pieces.source)
                (g.S.Source.left c.take.new.self)
                i.0 piece i.2 c.in-Ok.ensures.left.0,
            rw c.in-Open.is at (c.in_ok-over.ensures.taped start init i.0 before fits i.3),
          ),
    )

pub returns-in_default : goal.returns-in_default
returns-in_default g c = record {
  taped = λ start init before h.
      let inv = c.pieces.invariant in
      let i = inv.3 start init before h in
      let piece = take c.in-Ok.more c.take.new.buf in
      let count = length-take c.in-Ok.more c.take.new.buf in
      let bound = c.in-Ok.ensures.bound in
      let most = length-take c.min-room.result c.pieces.buffer in
      let kept = c.take.auto.buf in
      let short : length piece ≤ piece_limit = omega (arith, count, bound, kept, most, c.min-room.ensures) in
      let fits : length (i.0 ++ piece) ≤ byte_limit =
      omega (arith, i.1, count, bound, kept, most, c.min-room.ensures, length-append i.0 piece) in
      let counted : length (i.0 ++ piece) ≡ c.pieces.count + c.in-Ok.more =
      omega (arith, i.1, count, bound, length-append i.0 piece) in
      let taping = c.in_ok-over.ensures.taped start init i.0 before fits i.3 in
      record {
        read = i.0 ++ piece;
        has = record {
          within = omega (arith, fits);
          up_to = read_on g.A.Responder.step start init i.0 before (g.K.Sink.taken c.pieces.sink) c.pieces.self i.3
              piece
              short;
          consumed = Consumes-trans (g.S.Source.left c.args.source.now) (g.S.Source.left c.pieces.source)
              (g.S.Source.left c.take.new.self)
              i.0 piece i.2 c.in-Ok.ensures.left.0;
        };
        stops = (
          sym counted,
          λ goes. absurd (over_not g.A.Responder.step c.in_ok-over.over _ _ _ c.in_default.not-Open
              taping.stops goes.0 goes.1),
        );
        taping = taping;
      };
  cut = tt;
  cause = search rules;
  source_later = omega (arith, c.in-Ok.ensures.cause.later);
  sink_later = omega (arith, c.in_ok-over.ensures.later);
}

pub returns-clause-taped : goal.returns-clause-taped
returns-clause-taped g c = λ start init before h.
    let inv = c.pieces.invariant in
    let i = inv.3 start init before h in
    let most = inv.2 in
    let full = c.pieces-test.false in
    record {
      read = i.0;
      has = record {
        within = omega (arith, i.1, most);
        up_to = read_here g.A.Responder.step start init i.0 before (g.K.Sink.taken c.pieces.sink) c.pieces.self i.3;
        consumed = i.2;
      };
      stops = omega (arith, i.1, most, full);
      taping = i.3;
    }
