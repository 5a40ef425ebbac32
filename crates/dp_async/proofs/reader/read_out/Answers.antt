use Rattle.std.proofs.Common.{rules, ◌≡◌, [], Option, None, Some, refl, subst, true, false, true≢false}
use Rattle.dp_polled.specs.declared.piece.Piece.{Piece}
use Rattle.dp_polled.specs.declared.piece.Piece.TheVariants as piece
use Rattle.dp_async.specs.Beside.{flow_of}
use Rattle.dp_async.specs.inner.Reading.{NextPiece}
use Rattle.dp_async.proofs.Reading.{reads_first, reads_more, reads_out}
use Rattle.dp_async.proofs.reader.read_out.Goals as goal

pub pieces-init : goal.pieces-init
pieces-init g c = reads_first _ _ _ c.requires

pub returns-in-None-next_piece : goal.returns-in-None-next_piece
returns-in-None-next_piece g c =
    let before = flow_of g.S.Source c.args.source.now in
    let mid = flow_of g.S.Source c.pieces.source in
    let now = flow_of g.S.Source c.next_piece.new.source in
    let is : c.next_piece.result ≡ None = search rules in
    let next = subst (λ (o : Option Piece). NextPiece mid now o) is c.next_piece.ensures.next in
    record {
      reads = reads_out before mid now _ _ _ c.pieces.invariant c.next_piece.ensures.later piece.Failed true next.0
          c.put_on.ensures refl next.1 (λ e. absurd (true≢false e)) (λ e _. absurd (true≢false e));
    }

pub pieces-preserved : goal.pieces-preserved
pieces-preserved g c =
    let before = flow_of g.S.Source c.args.source.now in
    let mid = flow_of g.S.Source c.pieces.source in
    let now = flow_of g.S.Source c.next_piece.new.source in
    let is : c.next_piece.result ≡ Some (piece.Bytes c.in-Some-Bytes.bytes) = search rules in
    let next = subst (λ (o : Option Piece). NextPiece mid now o) is c.next_piece.ensures.next in
    reads_more before mid now _ _ _ c.pieces.invariant c.next_piece.ensures.later c.in-Some-Bytes.bytes
    c.put_on-in-Some-Bytes.ensures next

pub returns-in-Some-End : goal.returns-in-Some-End
returns-in-Some-End g c =
    let before = flow_of g.S.Source c.args.source.now in
    let mid = flow_of g.S.Source c.pieces.source in
    let now = flow_of g.S.Source c.next_piece.new.source in
    let is : c.next_piece.result ≡ Some piece.End = search rules in
    let next = subst (λ (o : Option Piece). NextPiece mid now o) is c.next_piece.ensures.next in
    record {
      reads = reads_out before mid now _ _ _ c.pieces.invariant c.next_piece.ensures.later piece.End false []
          c.put_on-in-Some-End.ensures refl next (λ _. refl) (λ _ e. absurd cc);
    }

pub returns-in-Some-Failed : goal.returns-in-Some-Failed
returns-in-Some-Failed g c =
    let before = flow_of g.S.Source c.args.source.now in
    let mid = flow_of g.S.Source c.pieces.source in
    let now = flow_of g.S.Source c.next_piece.new.source in
    let is : c.next_piece.result ≡ Some piece.Failed = search rules in
    let next = subst (λ (o : Option Piece). NextPiece mid now o) is c.next_piece.ensures.next in
    record {
      reads = reads_out before mid now _ _ _ c.pieces.invariant c.next_piece.ensures.later piece.Failed false []
          c.put_on-in-Some-Failed.ensures refl next.0 (λ _. refl) (λ _ _. next.1);
    }
