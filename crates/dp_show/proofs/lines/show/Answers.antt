use Rattle.std.proofs.Common.{◌≡◌, List, ℕ, true, eqb, length, [], ◌++◌, refl, sym, ap, ◌∙◌, subst, arith, append-nil}
use Rattle.std.proofs.lemmas.Bool.{eqb-true, false≢true}
use Rattle.std.proofs.lemmas.List.{nil_from_length}
use Rattle.std.proofs.KnownBytes.{Consumes-nil, Consumes-trans}
use Rattle.dp_wire.specs.Frames.{IsPartialPacket}
use Rattle.dp_wire.proofs.LengthLaws.{unfinished_partial}
use Rattle.dp_outside.specs.Changes.{change}
use Rattle.dp_show.proofs.ShowLaws.{nothing_shown, piece_held, stopped, ends_whole, ends_inside, ends_piece, ends_held, ends_cut}
use Rattle.dp_show.proofs.lines.show.Goals as goal

none_left : (bytes : List ℕ) → eqb (length bytes) 0 ≡ true → bytes ≡ []
none_left bytes e = nil_from_length bytes (eqb-true (length bytes) 0 e)

pub pieces-init : goal.pieces-init
pieces-init g c = (
  omega arith,
  omega arith,
  subst IsPartialPacket (sym c.new-packets.ensures.held) (unfinished_partial 0 (omega arith)),
  (
    [],
    Consumes-nil (g.S.Source.left c.args.input.now),
    nothing_shown c.new-packets.result (g.K.Sink.taken c.args.out.now) c.new-packets.ensures.held
        c.new-packets.ensures.dropped,
  ),
)

pub returns-in-Ok-eq0-clause-ends : goal.returns-in-Ok-eq0-clause-ends
returns-in-Ok-eq0-clause-ends g c =
    let inv = c.pieces.invariant in
    let piece = c.in-Ok-eq0.ensures.ok in
    ends_whole (inv.3.0 ++ piece.0) c.read_piece.new.packets (g.K.Sink.taken c.args.out.now)
    (g.K.Sink.taken c.pieces.out)
    (piece_held inv.3.0 piece.0 c.pieces.packets c.read_piece.new.packets _ _ inv.3.2 piece.2
    c.read_piece.ensures.dropped)
    (change g.S.Source.left g.S.Source.faults c.args.input.now c.read_piece.new.input)
    (change g.K.Sink.taken g.K.Sink.faults c.args.out.now c.pieces.out)
    (Consumes-trans _ _ _ inv.3.0 piece.0 inv.3.1 piece.1) refl refl
    (sym c.bytes.ensures ∙ none_left c.bytes.result.now (sym c.is_empty.ensures ∙ c.if-is_empty.true))
    (c.in-Ok-eq0.ensures.end c.in-Ok-eq0.field-0-test)

pub returns-in-Ok-eq0-2-clause-ends : goal.returns-in-Ok-eq0-2-clause-ends
returns-in-Ok-eq0-2-clause-ends g c =
    let inv = c.pieces.invariant in
    let piece = c.in-Ok-eq0.ensures.ok in
    let zero = c.in-Ok-eq0.field-0-test in
    ends_inside (inv.3.0 ++ piece.0) c.read_piece.new.packets (g.K.Sink.taken c.args.out.now)
    (g.K.Sink.taken c.pieces.out)
    (piece_held inv.3.0 piece.0 c.pieces.packets c.read_piece.new.packets _ _ inv.3.2 piece.2
    c.read_piece.ensures.dropped)
    (change g.S.Source.left g.S.Source.faults c.args.input.now c.read_piece.new.input)
    (change g.K.Sink.taken g.K.Sink.faults c.args.out.now c.pieces.out)
    (Consumes-trans _ _ _ inv.3.0 piece.0 inv.3.1 piece.1) refl refl
    (λ none. false≢true (sym (sym c.is_empty.ensures ∙ c.if-is_empty.false)
    ∙ ap (λ (l : List ℕ). eqb (length l) 0) (c.bytes.ensures ∙ none)))
    (subst IsPartialPacket (sym (piece.2
    ∙ ap (λ l. c.pieces.packets.held ++ l) (nil_from_length piece.0 (sym piece.3 ∙ zero))
    ∙ append-nil c.pieces.packets.held)) inv.2)
    (c.in-Ok-eq0.ensures.end zero)

pub returns-in-Err-clause-ends : goal.returns-in-Err-clause-ends
returns-in-Err-clause-ends g c =
    let inv = c.pieces.invariant in
    ends_piece (g.S.Source.left c.args.input.now) (g.S.Source.left c.pieces.input)
    (g.S.Source.left c.read_piece.new.input)
    (g.S.Source.faults c.args.input.now) (g.S.Source.faults c.pieces.input)
    (g.S.Source.faults c.read_piece.new.input) inv.0
    c.in-Err.why inv.3.0 c.pieces.packets (change g.K.Sink.taken g.K.Sink.faults c.args.out.now c.pieces.out) inv.3.1
    inv.3.2 inv.2 c.in-Err.ensures.err

pub returns-in-Err-show_held-clause-ends : goal.returns-in-Err-show_held-clause-ends
returns-in-Err-show_held-clause-ends g c =
    let inv = c.pieces.invariant in
    let piece = c.in-Ok.ensures.ok in
    ends_held (g.K.Sink.taken c.args.out.now) (g.K.Sink.taken c.pieces.out) (g.K.Sink.taken c.show_held.new.out)
    (g.K.Sink.faults c.args.out.now) (g.K.Sink.faults c.pieces.out) (g.K.Sink.faults c.show_held.new.out) inv.1
    c.in-Err-show_held.why (inv.3.0 ++ piece.0) c.read_piece.new.packets c.show_held.new.packets
    (change g.S.Source.left g.S.Source.faults c.args.input.now c.read_piece.new.input)
    (Consumes-trans _ _ _ inv.3.0 piece.0 inv.3.1 piece.1)
    (piece_held inv.3.0 piece.0 c.pieces.packets c.read_piece.new.packets _ _ inv.3.2 piece.2
    c.read_piece.ensures.dropped)
    c.in-Err-show_held.ensures.err

pub pieces-preserved : goal.pieces-preserved
pieces-preserved g c =
    let inv = c.pieces.invariant in
    let piece = c.in-Ok.ensures.ok in (
      omega (arith, inv.0, c.read_piece.ensures.later),
      omega (arith, inv.1, c.show_held.ensures.later),
      c.in-Ok-show_held.ensures.partial,
      (
        inv.3.0 ++ piece.0,
        Consumes-trans _ _ _ inv.3.0 piece.0 inv.3.1 piece.1,
        c.in-Ok-show_held.ensures.shown (inv.3.0 ++ piece.0) (g.K.Sink.taken c.args.out.now)
            (piece_held inv.3.0 piece.0 c.pieces.packets c.read_piece.new.packets _ _ inv.3.2 piece.2
            c.read_piece.ensures.dropped),
      ),
    )

pub returns-clause-ends : goal.returns-clause-ends
returns-clause-ends g c =
    let inv = c.pieces.invariant in
    ends_cut inv.3.0 (g.K.Sink.taken c.args.out.now) (g.K.Sink.taken c.pieces.out)
    (stopped c.pieces.packets (g.K.Sink.taken c.pieces.out) (g.K.Sink.taken c.pieces.out) refl inv.3.0
    (g.K.Sink.taken c.args.out.now) inv.3.2)
    (change g.S.Source.left g.S.Source.faults c.args.input.now c.pieces.input)
    (change g.K.Sink.taken g.K.Sink.faults c.args.out.now c.pieces.out) inv.3.1 refl refl
