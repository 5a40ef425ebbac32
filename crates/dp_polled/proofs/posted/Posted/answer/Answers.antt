use Rattle.std.proofs.Common.{rules, ◌≡◌, Some, ◌+◌, ◌≤◌, ◌++◌, List, ℕ, length, take, drop, ap, ◌∙◌, arith}
use Rattle.std.proofs.lemmas.List.{length-drop}
use Rattle.dp_polled.specs.declared.piece.Piece.TheVariants as piece
use Rattle.dp_polled.specs.Posted.{State, given}
use Rattle.dp_polled.proofs.Coming.{take_rest}
use Rattle.dp_polled.proofs.Giving.{copied_is, kept_within, keeps_more, moved_given}
use Rattle.dp_polled.proofs.posted.Posted.answer.Goals as goal

pub slice_bounds-rest-count : goal.slice_bounds-rest-count
slice_bounds-rest-count g c =
    let is : c.self.inside.kept ≡ Some (piece.Bytes c.in-Some-Bytes.bytes) = search rules in
    let within = kept_within _ _ c.in-Some-Bytes.bytes _ _ is c.self.invariant.2 in
    let same = ap (λ (l : List ℕ). length l) c.as_slice.ensures in omega (arith, within, same)

pub slice_bounds-rest-start : goal.slice_bounds-rest-start
slice_bounds-rest-start g c =
    let is : c.self.inside.kept ≡ Some (piece.Bytes c.in-Some-Bytes.bytes) = search rules in
    let within = kept_within _ _ c.in-Some-Bytes.bytes _ _ is c.self.invariant.2 in
    let same = ap (λ (l : List ℕ). length l) c.as_slice.ensures in
    let starts : c.self.inside.at ≤ length c.as_slice.result.now = omega (arith, within, same) in starts

pub invariant_of-self : goal.invariant_of-self
invariant_of-self g c =
    let is : c.self.inside.kept ≡ Some (piece.Bytes c.in-Some-Bytes.bytes) = search rules in
    let s = c.self.inside in
    let slice = c.as_slice.result.now in
    let within = kept_within _ _ c.in-Some-Bytes.bytes _ _ is c.self.invariant.2 in
    let same = ap (λ (l : List ℕ). length l) c.as_slice.ensures in
    let whole = ap (λ (l : List ℕ). length l) (take_rest slice s.at) in
    let size = length-drop s.at slice in
    let most : s.at + c.min-count.result ≤ length c.in-Some-Bytes.bytes =
    omega (arith, within, same, whole, size, c.min-count.ensures) in (
      c.self.invariant.0,
      c.self.invariant.1,
      keeps_more s.seat.taken s.kept c.in-Some-Bytes.bytes s.at c.min-count.result s.faults is most
          c.self.invariant.2,
    )

pub returns-else-is_empty-clause-given : goal.returns-else-is_empty-clause-given
returns-else-is_empty-clause-given g c =
    let is : c.self.inside.kept ≡ Some (piece.Bytes c.in-Some-Bytes.bytes) = search rules in
    let s = c.self.inside in
    let n = c.min-count.result in
    let bytes = c.in-Some-Bytes.bytes in
    let copied = copied_is c.copy_from_slice.new.self bytes c.as_slice.result.now c.args.buf.now s.at n
    c.as_slice.ensures c.copy_from_slice.ensures.len c.min-count.ensures c.copy_from_slice.ensures.after in
    let v : State =
    record { seat = s.seat; kept = s.kept; at = s.at; looks = length s.looks.items; faults = s.faults } in
    moved_given v bytes n is c.self.invariant.2
    ∙ ap (λ (v : State). given v ++ take n (drop s.at bytes)) c.self.view_is
    ∙ ap (λ (l : List ℕ). given c.args.self.now ++ l) copied
