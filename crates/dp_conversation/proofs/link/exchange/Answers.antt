use Rattle.std.proofs.Common.{◌≡◌, ℕ, None, List, [], ◌++◌, length, refl, sym, ap, ◌∙◌, subst, arith, append-nil, length-append, length-take}
use Rattle.std.proofs.lemmas.Result.{err_from_is_err_and}
use Rattle.std.specs.List.{flat_map}
use Rattle.dp_wire.specs.Frames.{IsPartialCommand, command_frame}
use Rattle.dp_wire.proofs.NextLaws.{none_partial}
use Rattle.dp_outside.specs.Changes.{change}
use Rattle.dp_conversation.specs.inner.Exchanges.{Conversation}
use Rattle.dp_conversation.specs.Folds.{replies}
use Rattle.dp_conversation.proofs.CutLaws.{cut_answering, cut_at_start, cut_reading}
use Rattle.dp_conversation.proofs.EndLaws.{is_served, read_up_to}
use Rattle.dp_conversation.proofs.ServiceLaws.{talk_first, talk_kept, talk_goes_on, talk_same}
use Rattle.dp_conversation.proofs.link.exchange.Goals as goal

pub pieces-init : goal.pieces-init
pieces-init g c =
    let first = talk_first g.A.Responder.step g.S.Source.left g.S.Source.faults g.K.Sink.taken g.K.Sink.faults
    g.E.Sink.taken g.E.Sink.faults
    c.args.talk.now.session c.args.init.now c.args.source.now c.args.sink.now c.send.new.sink c.args.out.now
    c.in_ok-send.ensures.taken in
    let none : [] ≡ c.args.talk.now.held.held = sym c.requires.fed in (
      omega arith,
      omega (arith, c.in_ok-send.ensures.later),
      omega arith,
      omega arith,
      subst IsPartialCommand none (none_partial [] refl (omega arith)),
      (
        [],
        refl,
        subst (λ (l : List ℕ). (talk : Conversation g.A.Responder.step c.args.talk.now.session c.args.talk.now.session
            c.args.init.now [] l
            (change g.S.Source.left g.S.Source.faults c.args.source.now c.args.source.now)
            (change g.K.Sink.taken g.K.Sink.faults c.args.sink.now c.send.new.sink)
            (change g.E.Sink.taken g.E.Sink.faults c.args.out.now c.args.out.now))
            × ((replies g.A.Responder.step c.args.talk.now.session talk.taken).ended ≡ None)) none first,
      ),
    )

pub returns-in-Failed-clause-ok : goal.returns-in-Failed-clause-ok
returns-in-Failed-clause-ok g c =
    let piece = rw c.in-Failed.is at c.in_ok-read_piece.ensures.ok in
    let inv = c.pieces.invariant in
    let talk = talk_same g.A.Responder.step c.args.talk.now.session c.pieces.talk.session c.read_piece.new.talk.session
    c.args.init.now inv.5.0 c.pieces.talk.held.held
    (change g.S.Source.left g.S.Source.faults c.args.source.now c.pieces.source)
    (change g.K.Sink.taken g.K.Sink.faults c.args.sink.now c.pieces.sink)
    (change g.E.Sink.taken g.E.Sink.faults c.args.out.now c.pieces.out)
    c.in_ok-read_piece.ensures.session inv.5.2.0 inv.5.2.1 in
    let kept = talk_kept g.A.Responder.step g.S.Source.left g.S.Source.faults g.K.Sink.taken g.K.Sink.faults
    g.E.Sink.taken g.E.Sink.faults
    _ _ _ inv.5.0 c.pieces.talk.held.held c.read_piece.new.talk.held.held c.args.source.now c.pieces.source
    c.read_piece.new.source _ _ talk.0 piece.0 piece.2 in
    is_served g.A.Responder.step _ _ _ _ _ _ _ (record {
      read = inv.5.0;
      held = c.read_piece.new.talk.held.held;
      within = omega (arith, inv.3, inv.5.1);
      up_to =
          read_up_to g.A.Responder.step c.args.talk.now.session inv.5.0 c.pieces.talk.held.held [] inv.5.0 talk.0.taken
          talk.0.place talk.1 inv.4 (sym (append-nil inv.5.0)) (omega arith);
      talk = kept.0;
      ends = (
        ap (λ l. (replies g.A.Responder.step c.args.talk.now.session l).ended) kept.1
            ∙ talk.1,
        subst IsPartialCommand (sym piece.2) inv.4,
        omega (arith, piece.1, inv.0),
        omega (arith, inv.5.1),
      );
    })

pub returns-in-End-clause-ok : goal.returns-in-End-clause-ok
returns-in-End-clause-ok g c =
    let piece = rw c.in-End.is at c.in_ok-read_piece.ensures.ok in
    let inv = c.pieces.invariant in
    let talk = talk_same g.A.Responder.step c.args.talk.now.session c.pieces.talk.session c.read_piece.new.talk.session
    c.args.init.now inv.5.0 c.pieces.talk.held.held
    (change g.S.Source.left g.S.Source.faults c.args.source.now c.pieces.source)
    (change g.K.Sink.taken g.K.Sink.faults c.args.sink.now c.pieces.sink)
    (change g.E.Sink.taken g.E.Sink.faults c.args.out.now c.pieces.out)
    c.in_ok-read_piece.ensures.session inv.5.2.0 inv.5.2.1 in
    let kept = talk_kept g.A.Responder.step g.S.Source.left g.S.Source.faults g.K.Sink.taken g.K.Sink.faults
    g.E.Sink.taken g.E.Sink.faults
    _ _ _ inv.5.0 c.pieces.talk.held.held c.read_piece.new.talk.held.held c.args.source.now c.pieces.source
    c.read_piece.new.source _ _ talk.0 piece.0 piece.2 in
    is_served g.A.Responder.step _ _ _ _ _ _ _ (record {
      read = inv.5.0;
      held = c.read_piece.new.talk.held.held;
      within = omega (arith, inv.3, inv.5.1);
      up_to =
          read_up_to g.A.Responder.step c.args.talk.now.session inv.5.0 c.pieces.talk.held.held [] inv.5.0 talk.0.taken
          talk.0.place talk.1 inv.4 (sym (append-nil inv.5.0)) (omega arith);
      talk = kept.0;
      ends = (
        ap (λ l. (replies g.A.Responder.step c.args.talk.now.session l).ended) kept.1
            ∙ talk.1,
        subst IsPartialCommand (sym piece.2) inv.4,
        piece.1,
        omega (arith, inv.5.1),
      );
    })

pub returns-in-Ended-clause-ok : goal.returns-in-Ended-clause-ok
returns-in-Ended-clause-ok g c =
    let piece = rw c.in-Came.is at c.in_ok-read_piece.ensures.ok in
    let answers = c.in_ok-end.ensures.ok in
    let inv = c.pieces.invariant in
    let talk = talk_same g.A.Responder.step c.args.talk.now.session c.pieces.talk.session c.read_piece.new.talk.session
    c.args.init.now inv.5.0 c.pieces.talk.held.held
    (change g.S.Source.left g.S.Source.faults c.args.source.now c.pieces.source)
    (change g.K.Sink.taken g.K.Sink.faults c.args.sink.now c.pieces.sink)
    (change g.E.Sink.taken g.E.Sink.faults c.args.out.now c.pieces.out)
    c.in_ok-read_piece.ensures.session inv.5.2.0 inv.5.2.1 in
    let after = talk_goes_on g.A.Responder.step g.S.Source.left g.S.Source.faults g.K.Sink.taken g.K.Sink.faults
    g.E.Sink.taken g.E.Sink.faults
    _ _ _ _ inv.5.0 c.pieces.talk.held.held c.read_piece.new.talk.held.held piece.2.0 c.answer_held.new.talk.held.held
    c.args.source.now c.pieces.source c.read_piece.new.source c.args.sink.now c.pieces.sink c.answer_held.new.sink
    c.args.out.now c.pieces.out c.answer_held.new.out
    talk.0 talk.1 piece.2.1 piece.2.2 answers.reached in
    let stops = rw c.in-Ended.is at answers.stops in
    is_served g.A.Responder.step _ _ _ _ _ _ _ (record {
      read = inv.5.0 ++ piece.2.0;
      held = c.answer_held.new.talk.held.held;
      within = omega (
        arith,
        piece.1,
        piece.2.3,
        inv.5.1,
        c.min-room.ensures,
        length-append inv.5.0 piece.2.0,
        length-take c.min-room.result c.pieces.buffer,
      );
      up_to = read_up_to g.A.Responder.step c.args.talk.now.session inv.5.0 c.pieces.talk.held.held piece.2.0
          (inv.5.0 ++ piece.2.0) talk.0.taken talk.0.place talk.1 inv.4 refl
          (omega (arith, piece.1, piece.2.3, c.min-room.ensures, length-take c.min-room.result c.pieces.buffer));
      talk = after.0;
      ends = after.1 ∙ stops;
    })

pub overflow_sub-offset : goal.overflow_sub-offset
overflow_sub-offset g c =
    let piece = rw c.in-Came.is at c.in_ok-read_piece.ensures.ok in
    let answers = c.in_ok-end.ensures.ok in
    let fed = answers.reached.place.whole in
    let inv = c.pieces.invariant in
    let whole = inv.5.2.0.place.whole in
    omega (
      arith,
      ap length c.bytes.ensures,
      ap length fed,
      ap length piece.2.2,
      ap length whole,
      piece.2.3,
      inv.5.1,
      length-append (flat_map command_frame answers.reached.taken) c.answer_held.new.talk.held.held,
      length-append c.pieces.talk.held.held piece.2.0,
      length-append (flat_map command_frame inv.5.2.0.taken) c.pieces.talk.held.held,
    )

pub returns-in-TooLong-clause-ok : goal.returns-in-TooLong-clause-ok
returns-in-TooLong-clause-ok g c =
    let piece = rw c.in-Came.is at c.in_ok-read_piece.ensures.ok in
    let answers = c.in_ok-end.ensures.ok in
    let inv = c.pieces.invariant in
    let talk = talk_same g.A.Responder.step c.args.talk.now.session c.pieces.talk.session c.read_piece.new.talk.session
    c.args.init.now inv.5.0 c.pieces.talk.held.held
    (change g.S.Source.left g.S.Source.faults c.args.source.now c.pieces.source)
    (change g.K.Sink.taken g.K.Sink.faults c.args.sink.now c.pieces.sink)
    (change g.E.Sink.taken g.E.Sink.faults c.args.out.now c.pieces.out)
    c.in_ok-read_piece.ensures.session inv.5.2.0 inv.5.2.1 in
    let after = talk_goes_on g.A.Responder.step g.S.Source.left g.S.Source.faults g.K.Sink.taken g.K.Sink.faults
    g.E.Sink.taken g.E.Sink.faults
    _ _ _ _ inv.5.0 c.pieces.talk.held.held c.read_piece.new.talk.held.held piece.2.0 c.answer_held.new.talk.held.held
    c.args.source.now c.pieces.source c.read_piece.new.source c.args.sink.now c.pieces.sink c.answer_held.new.sink
    c.args.out.now c.pieces.out c.answer_held.new.out
    talk.0 talk.1 piece.2.1 piece.2.2 answers.reached in
    let stops = rw c.in-TooLong.is at answers.stops in
    is_served g.A.Responder.step _ _ _ _ _ _ _ (record {
      read = inv.5.0 ++ piece.2.0;
      held = c.answer_held.new.talk.held.held;
      within = omega (
        arith,
        piece.1,
        piece.2.3,
        inv.5.1,
        c.min-room.ensures,
        length-append inv.5.0 piece.2.0,
        length-take c.min-room.result c.pieces.buffer,
      );
      up_to = read_up_to g.A.Responder.step c.args.talk.now.session inv.5.0 c.pieces.talk.held.held piece.2.0
          (inv.5.0 ++ piece.2.0) talk.0.taken talk.0.place talk.1 inv.4 refl
          (omega (arith, piece.1, piece.2.3, c.min-room.ensures, length-take c.min-room.result c.pieces.buffer));
      talk = after.0;
      ends = (
        after.1 ∙ stops.0,
        stops.1,
        omega (
          arith,
          ap length c.bytes.ensures,
          ap length after.0.place.whole,
          piece.2.3,
          inv.5.1,
          length-append inv.5.0 piece.2.0,
          length-append (flat_map command_frame after.0.taken) c.answer_held.new.talk.held.held,
        ),
      );
    })

pub pieces-preserved : goal.pieces-preserved
pieces-preserved g c =
    let piece = rw c.in-Came.is at c.in_ok-read_piece.ensures.ok in
    let answers = c.in_ok-end.ensures.ok in
    let inv = c.pieces.invariant in
    let talk = talk_same g.A.Responder.step c.args.talk.now.session c.pieces.talk.session c.read_piece.new.talk.session
    c.args.init.now inv.5.0 c.pieces.talk.held.held
    (change g.S.Source.left g.S.Source.faults c.args.source.now c.pieces.source)
    (change g.K.Sink.taken g.K.Sink.faults c.args.sink.now c.pieces.sink)
    (change g.E.Sink.taken g.E.Sink.faults c.args.out.now c.pieces.out)
    c.in_ok-read_piece.ensures.session inv.5.2.0 inv.5.2.1 in
    let after = talk_goes_on g.A.Responder.step g.S.Source.left g.S.Source.faults g.K.Sink.taken g.K.Sink.faults
    g.E.Sink.taken g.E.Sink.faults
    _ _ _ _ inv.5.0 c.pieces.talk.held.held c.read_piece.new.talk.held.held piece.2.0 c.answer_held.new.talk.held.held
    c.args.source.now c.pieces.source c.read_piece.new.source c.args.sink.now c.pieces.sink c.answer_held.new.sink
    c.args.out.now c.pieces.out c.answer_held.new.out
    talk.0 talk.1 piece.2.1 piece.2.2 answers.reached in
    let stops = rw c.in-Partial.is at answers.stops in (
      omega (arith, c.in_ok-read_piece.ensures.later),
      omega (arith, c.in_ok-end.ensures.sink_later),
      omega (arith, c.in_ok-end.ensures.out_later),
      omega (arith, piece.1, c.min-room.ensures, length-take c.min-room.result c.pieces.buffer),
      stops.1,
      (
        inv.5.0 ++ piece.2.0,
        omega (arith, length-append inv.5.0 piece.2.0, piece.2.3, inv.5.1),
        (after.0, after.1 ∙ stops.0),
      ),
    )

pub returns-clause-ok : goal.returns-clause-ok
returns-clause-ok g c =
    let inv = c.pieces.invariant in
    is_served g.A.Responder.step _ _ _ _ _ _ _ (record {
      read = inv.5.0;
      held = c.pieces.talk.held.held;
      within = omega (arith, inv.3, inv.5.1);
      up_to =
          read_up_to g.A.Responder.step c.args.talk.now.session inv.5.0 c.pieces.talk.held.held [] inv.5.0
          inv.5.2.0.taken inv.5.2.0.place inv.5.2.1 inv.4 (sym (append-nil inv.5.0)) (omega arith);
      talk = inv.5.2.0;
      ends = (inv.5.2.1, inv.4, omega (arith, inv.5.1));
    })

pub returns-in_err-send-clause-cut : goal.returns-in_err-send-clause-cut
returns-in_err-send-clause-cut g c =
    let p = err_from_is_err_and c.from_residual.result c.from_residual.ensures.1 in
    rw (p.1, p.2)
    (cut_at_start g.A.Responder.step g.K.Sink.taken g.K.Sink.faults g.E.Sink.taken g.E.Sink.faults g.S.Source.left
    g.S.Source.faults
    c.args.talk.now.session c.args.init.now _ c.args.source.now c.args.sink.now c.send.new.sink c.args.out.now
    c.in_err-send.ensures.taken c.in_err-send.ensures.cause)

pub returns-in_err-read_piece-clause-cut : goal.returns-in_err-read_piece-clause-cut
returns-in_err-read_piece-clause-cut g c =
    let p = err_from_is_err_and c.from_residual-in_err-read_piece.result c.from_residual-in_err-read_piece.ensures.1 in
    let inv = c.pieces.invariant in
    let talk = talk_same g.A.Responder.step c.args.talk.now.session c.pieces.talk.session c.read_piece.new.talk.session
    c.args.init.now inv.5.0 c.pieces.talk.held.held
    (change g.S.Source.left g.S.Source.faults c.args.source.now c.pieces.source)
    (change g.K.Sink.taken g.K.Sink.faults c.args.sink.now c.pieces.sink)
    (change g.E.Sink.taken g.E.Sink.faults c.args.out.now c.pieces.out)
    c.in_err-read_piece.ensures.session inv.5.2.0 inv.5.2.1 in
    let read = c.in_err-read_piece.ensures.err in
    rw (p.1, p.2)
    (cut_reading g.A.Responder.step g.K.Sink.taken g.K.Sink.faults g.E.Sink.taken g.E.Sink.faults g.S.Source.left
    g.S.Source.faults
    c.args.talk.now.session c.read_piece.new.talk.session c.args.init.now inv.5.0 c.pieces.talk.held.held read.0
    c.args.source.now c.pieces.source c.read_piece.new.source
    c.args.sink.now c.pieces.sink c.args.out.now c.pieces.out talk.0 talk.1 inv.4
    (omega (
      arith,
      read.2,
      inv.5.1,
      c.min-room.ensures,
      length-append inv.5.0 read.0,
      length-take c.min-room.result c.pieces.buffer,
    )) (omega (arith, read.2, c.min-room.ensures, length-take c.min-room.result c.pieces.buffer))
    read.1 inv.1 inv.2)

pub returns-in_err-end-clause-cut : goal.returns-in_err-end-clause-cut
returns-in_err-end-clause-cut g c =
    let p = err_from_is_err_and c.from_residual-in_err-end.result c.from_residual-in_err-end.ensures.1 in
    let piece = rw c.in-Came.is at c.in_ok-read_piece.ensures.ok in
    let inv = c.pieces.invariant in
    let talk = talk_same g.A.Responder.step c.args.talk.now.session c.pieces.talk.session c.read_piece.new.talk.session
    c.args.init.now inv.5.0 c.pieces.talk.held.held
    (change g.S.Source.left g.S.Source.faults c.args.source.now c.pieces.source)
    (change g.K.Sink.taken g.K.Sink.faults c.args.sink.now c.pieces.sink)
    (change g.E.Sink.taken g.E.Sink.faults c.args.out.now c.pieces.out)
    c.in_ok-read_piece.ensures.session inv.5.2.0 inv.5.2.1 in
    rw (p.1, p.2)
    (cut_answering g.A.Responder.step g.K.Sink.taken g.K.Sink.faults g.E.Sink.taken g.E.Sink.faults g.S.Source.left
    g.S.Source.faults
    c.args.talk.now.session c.read_piece.new.talk.session c.answer_held.new.talk.session c.args.init.now inv.5.0
    c.pieces.talk.held.held c.read_piece.new.talk.held.held piece.2.0 _
    c.args.source.now c.pieces.source c.read_piece.new.source c.args.sink.now c.pieces.sink c.answer_held.new.sink
    c.args.out.now c.pieces.out c.answer_held.new.out
    talk.0 talk.1 inv.4
    (omega (
      arith,
      piece.1,
      piece.2.3,
      inv.5.1,
      c.min-room.ensures,
      length-append inv.5.0 piece.2.0,
      length-take c.min-room.result c.pieces.buffer,
    )) (omega (arith, piece.1, piece.2.3, c.min-room.ensures, length-take c.min-room.result c.pieces.buffer))
    piece.2.1 piece.2.2 inv.1 inv.2 c.in_err-end.ensures.cut)
