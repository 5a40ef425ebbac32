use Rattle.std.proofs.Common.{◌≡◌, ◌≤◌, None, ℕ, List, [], ◌∷◌, ◌++◌, length, refl, sym, ap, ◌∙◌, subst, arith, length-append, length-take}
use Rattle.std.proofs.lemmas.Result.{err_from_is_err_and}
use Rattle.std.proofs.KnownBytes.{Consumes-kept, Consumes-nil, Consumes-trans}
use Rattle.dp_bodies.specs.Frames.{IsPartialBody, body_frame}
use Rattle.dp_conversation.specs.declared.link.SessionOver.TheVariants as over
use Rattle.dp_conversation.specs.Service.{piece_limit}
use Rattle.dp_wire.specs.Received.{Received}
use Rattle.dp_outside.specs.Changes.{change}
use Rattle.dp_dap.specs.inner.Exchanges.{Answered}
use Rattle.dp_dap.proofs.CutLaws.{cut_answering, cut_reading}
use Rattle.dp_dap.proofs.ExchangeLaws.{over_bad, over_there, stands_fed, stands_now}
use Rattle.dp_dap.proofs.ServiceLaws.{answered_first, ended_with}
use Rattle.dp_dap.proofs.service.exchange.Goals as goal

-- nothing that is held is a part of a body
none_held : (held : List ℕ) → held ≡ [] → IsPartialBody held
none_held held none =
    let text : List ℕ = 0 ∷ [] in
    record {
      text = text;
      more = body_frame text;
      is_text = record { some_byte = omega arith; fits = omega arith };
      comes = λ e. cc;
      whole = ap (λ l. l ++ body_frame text) none;
    }

pub pieces-init : goal.pieces-init
pieces-init g c = (
  omega arith,
  omega arith,
  omega arith,
  omega (arith, c.new-bodies.ensures.dropped, ap length c.new-bodies.ensures.held),
  none_held _ c.new-bodies.ensures.held,
  (
    [],
    refl,
    Consumes-nil (g.S.Source.left c.args.source.now),
    subst (λ (l : List ℕ). (a : Answered c.args.gateway.now c.args.gateway.now [] l
        (change g.K.Sink.taken g.K.Sink.faults c.args.sink.now c.args.sink.now))
        × (ended_with c.args.gateway.now a.texts ≡ None)) (sym c.new-bodies.ensures.held)
        (answered_first g.K.Sink.taken g.K.Sink.faults c.args.gateway.now [] c.args.sink.now),
  ),
)

pub returns-in-Failed-clause-ok : goal.returns-in-Failed-clause-ok
returns-in-Failed-clause-ok g c =
    let piece = rw c.in-Failed.is at c.in_ok-read_piece.ensures.ok in
    let inv = c.pieces.invariant in
    let read = inv.5.0 in
    let s = stands_now c.args.gateway.now c.pieces.gateway read c.pieces.bodies.held
    (change g.K.Sink.taken g.K.Sink.faults c.args.sink.now c.pieces.sink) inv.5.3.0 inv.5.3.1 inv.4 in
    over_there c.args.gateway.now c.pieces.gateway read c.pieces.bodies.held
    (change g.S.Source.left g.S.Source.faults c.args.source.now c.read_piece.new.source)
    (change g.K.Sink.taken g.K.Sink.faults c.args.sink.now c.pieces.sink) s.0 (omega (arith, inv.2, inv.5.1))
    (Consumes-kept _ _ _ read inv.5.2 piece.0) over.ReadFault (
      ap (ended_with c.args.gateway.now) s.1 ∙ inv.5.3.1,
      record { requests = s.0.answered.are_requests; partial = inv.4 },
      omega (arith, piece.1, inv.0),
      omega (arith, inv.5.1),
    )

pub returns-in-End-clause-ok : goal.returns-in-End-clause-ok
returns-in-End-clause-ok g c =
    let piece = rw c.in-End.is at c.in_ok-read_piece.ensures.ok in
    let inv = c.pieces.invariant in
    let read = inv.5.0 in
    let s = stands_now c.args.gateway.now c.pieces.gateway read c.pieces.bodies.held
    (change g.K.Sink.taken g.K.Sink.faults c.args.sink.now c.pieces.sink) inv.5.3.0 inv.5.3.1 inv.4 in
    over_there c.args.gateway.now c.pieces.gateway read c.pieces.bodies.held
    (change g.S.Source.left g.S.Source.faults c.args.source.now c.read_piece.new.source)
    (change g.K.Sink.taken g.K.Sink.faults c.args.sink.now c.pieces.sink) s.0 (omega (arith, inv.2, inv.5.1))
    (Consumes-kept _ _ _ read inv.5.2 piece.0) over.LinkEnd (
      ap (ended_with c.args.gateway.now) s.1 ∙ inv.5.3.1,
      record { requests = s.0.answered.are_requests; partial = inv.4 },
      piece.1,
      omega (arith, inv.5.1),
    )

pub answer_held-requires : goal.answer_held-requires
answer_held-requires g c =
    let piece = rw c.in-Came.is at c.in_ok-read_piece.ensures.ok in
    let fed = piece.2.2 in
    omega (
      arith,
      piece.1,
      piece.2.3,
      c.pieces.invariant.3,
      c.min-room.ensures,
      ap (λ (r : Received). r.dropped) fed,
      ap (λ (r : Received). length r.held) fed,
      length-append c.pieces.bodies.held piece.2.0,
      length-take c.min-room.result c.pieces.buffer,
    )

pub returns-in-Ended-clause-ok : goal.returns-in-Ended-clause-ok
returns-in-Ended-clause-ok g c =
    let piece = rw c.in-Came.is at c.in_ok-read_piece.ensures.ok in
    let inv = c.pieces.invariant in
    let read = inv.5.0 in
    let answers = c.in_ok-end.ensures.ok in
    let s = stands_fed g.K.Sink.taken g.K.Sink.faults c.args.gateway.now c.pieces.gateway c.answer_held.new.gateway
    read c.pieces.bodies.held c.read_piece.new.bodies.held piece.2.0 c.answer_held.new.bodies.held c.args.sink.now
    c.pieces.sink c.answer_held.new.sink inv.5.3.0 inv.5.3.1 inv.4 (ap (λ (r : Received). r.held) piece.2.2)
    (omega (arith, piece.1, piece.2.3, c.min-room.ensures, length-take c.min-room.result c.pieces.buffer)) answers.0 in
    over_there c.args.gateway.now c.answer_held.new.gateway (read ++ piece.2.0) c.answer_held.new.bodies.held
    (change g.S.Source.left g.S.Source.faults c.args.source.now c.read_piece.new.source)
    (change g.K.Sink.taken g.K.Sink.faults c.args.sink.now c.answer_held.new.sink) s.0
    (omega (
      arith,
      piece.1,
      piece.2.3,
      inv.5.1,
      c.min-room.ensures,
      length-append read piece.2.0,
      length-take c.min-room.result c.pieces.buffer,
    )) (Consumes-trans _ _ _ read piece.2.0 inv.5.2 piece.2.1) (over.Ended c.in-Ended.end)
    (s.1 ∙ rw c.in-Ended.is at answers.1)

pub returns-in-Bad-clause-ok : goal.returns-in-Bad-clause-ok
returns-in-Bad-clause-ok g c =
    let piece = rw c.in-Came.is at c.in_ok-read_piece.ensures.ok in
    let inv = c.pieces.invariant in
    let read = inv.5.0 in
    let answers = c.in_ok-end.ensures.ok in
    let stops = rw c.in-Bad.is at answers.1 in
    let fed = piece.2.2 in
    let s = stands_fed g.K.Sink.taken g.K.Sink.faults c.args.gateway.now c.pieces.gateway c.answer_held.new.gateway
    read c.pieces.bodies.held c.read_piece.new.bodies.held piece.2.0 c.answer_held.new.bodies.held c.args.sink.now
    c.pieces.sink c.answer_held.new.sink inv.5.3.0 inv.5.3.1 inv.4 (ap (λ (r : Received). r.held) fed)
    (omega (arith, piece.1, piece.2.3, c.min-room.ensures, length-take c.min-room.result c.pieces.buffer)) answers.0 in
    over_bad c.args.gateway.now c.answer_held.new.gateway (read ++ piece.2.0) c.answer_held.new.bodies.held
    (change g.S.Source.left g.S.Source.faults c.args.source.now c.read_piece.new.source)
    (change g.K.Sink.taken g.K.Sink.faults c.args.sink.now c.answer_held.new.sink) s.0
    (omega (
      arith,
      piece.1,
      piece.2.3,
      inv.5.1,
      c.min-room.ensures,
      length-append read piece.2.0,
      length-take c.min-room.result c.pieces.buffer,
    )) (Consumes-trans _ _ _ read piece.2.0 inv.5.2 piece.2.1) (s.1 ∙ stops.0) c.answer_held.new.bodies.dropped
    c.bad_place.result
    (omega (
      arith,
      piece.2.3,
      inv.3,
      inv.5.1,
      c.in_ok-end.ensures.place,
      ap (λ (r : Received). r.dropped) fed,
      ap (λ (r : Received). length r.held) fed,
      length-append read piece.2.0,
      length-append c.pieces.bodies.held piece.2.0,
    )) stops.1 c.bad_place.ensures.body c.bad_place.ensures.rest

pub pieces-preserved : goal.pieces-preserved
pieces-preserved g c =
    let piece = rw c.in-Came.is at c.in_ok-read_piece.ensures.ok in
    let inv = c.pieces.invariant in
    let read = inv.5.0 in
    let answers = c.in_ok-end.ensures.ok in
    let stops = rw c.in-Partial.is at answers.1 in
    let fed = piece.2.2 in
    let short : length piece.2.0 ≤ piece_limit =
    omega (arith, piece.1, piece.2.3, c.min-room.ensures, length-take c.min-room.result c.pieces.buffer) in
    let s = stands_fed g.K.Sink.taken g.K.Sink.faults c.args.gateway.now c.pieces.gateway c.answer_held.new.gateway
    read c.pieces.bodies.held c.read_piece.new.bodies.held piece.2.0 c.answer_held.new.bodies.held c.args.sink.now
    c.pieces.sink c.answer_held.new.sink inv.5.3.0 inv.5.3.1 inv.4 (ap (λ (r : Received). r.held) fed) short
    answers.0 in (
      omega (arith, inv.0, c.in_ok-read_piece.ensures.source_later),
      omega (arith, inv.1, c.in_ok-end.ensures.sink_later),
      omega (arith, piece.1, c.min-room.ensures, length-take c.min-room.result c.pieces.buffer),
      omega (
        arith,
        piece.2.3,
        inv.3,
        c.in_ok-end.ensures.place,
        ap (λ (r : Received). r.dropped) fed,
        ap (λ (r : Received). length r.held) fed,
        length-append c.pieces.bodies.held piece.2.0,
      ),
      stops.1,
      (
        read ++ piece.2.0,
        omega (arith, length-append read piece.2.0, piece.2.3, inv.5.1),
        Consumes-trans _ _ _ read piece.2.0 inv.5.2 piece.2.1,
        (s.0.answered, s.1 ∙ stops.0),
      ),
    )

pub returns-clause-ok : goal.returns-clause-ok
returns-clause-ok g c =
    let inv = c.pieces.invariant in
    let read = inv.5.0 in
    let s = stands_now c.args.gateway.now c.pieces.gateway read c.pieces.bodies.held
    (change g.K.Sink.taken g.K.Sink.faults c.args.sink.now c.pieces.sink) inv.5.3.0 inv.5.3.1 inv.4 in
    over_there c.args.gateway.now c.pieces.gateway read c.pieces.bodies.held
    (change g.S.Source.left g.S.Source.faults c.args.source.now c.pieces.source)
    (change g.K.Sink.taken g.K.Sink.faults c.args.sink.now c.pieces.sink) s.0 (omega (arith, inv.2, inv.5.1)) inv.5.2
    over.ByteLimit (
      ap (ended_with c.args.gateway.now) s.1 ∙ inv.5.3.1,
      record { requests = s.0.answered.are_requests; partial = inv.4 },
      omega (arith, inv.2, inv.5.1),
    )

pub returns-in_err-read_piece-clause-cut : goal.returns-in_err-read_piece-clause-cut
returns-in_err-read_piece-clause-cut g c =
    let p = err_from_is_err_and c.from_residual.result c.from_residual.ensures.1 in
    let inv = c.pieces.invariant in
    let came = c.in_err-read_piece.ensures.err in
    rw (p.1, p.2)
    (cut_reading g.K.Sink.taken g.K.Sink.faults g.S.Source.left g.S.Source.faults c.args.gateway.now c.pieces.gateway
    inv.5.0 c.pieces.bodies.held came.0 c.args.source.now c.pieces.source c.read_piece.new.source c.args.sink.now
    c.pieces.sink inv.5.3.0 inv.5.3.1 inv.4 inv.5.2 came.1
    (omega (
      arith,
      came.2,
      inv.5.1,
      c.min-room.ensures,
      length-append inv.5.0 came.0,
      length-take c.min-room.result c.pieces.buffer,
    )) (omega (arith, came.2, c.min-room.ensures, length-take c.min-room.result c.pieces.buffer)) inv.1)

pub returns-in_err-end-clause-cut : goal.returns-in_err-end-clause-cut
returns-in_err-end-clause-cut g c =
    let p = err_from_is_err_and c.from_residual-in_err-end.result c.from_residual-in_err-end.ensures.1 in
    let piece = rw c.in-Came.is at c.in_ok-read_piece.ensures.ok in
    let inv = c.pieces.invariant in
    rw (p.1, p.2)
    (cut_answering g.K.Sink.taken g.K.Sink.faults g.S.Source.left g.S.Source.faults c.args.gateway.now
    c.pieces.gateway c.answer_held.new.gateway inv.5.0 c.pieces.bodies.held c.read_piece.new.bodies.held piece.2.0 _
    c.args.source.now c.pieces.source c.read_piece.new.source c.args.sink.now c.pieces.sink c.answer_held.new.sink
    inv.5.3.0 inv.5.3.1 inv.4 inv.5.2 piece.2.1 (ap (λ (r : Received). r.held) piece.2.2)
    (omega (
      arith,
      piece.1,
      piece.2.3,
      inv.5.1,
      c.min-room.ensures,
      length-append inv.5.0 piece.2.0,
      length-take c.min-room.result c.pieces.buffer,
    )) (omega (arith, piece.1, piece.2.3, c.min-room.ensures, length-take c.min-room.result c.pieces.buffer)) inv.1
    c.in_err-end.ensures.cut)
