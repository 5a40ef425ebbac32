-- A lane of either kind.
use Rattle.std.proofs.Common.{◌≡◌, ℕ, ◌+◌, ◌-◌, ◌<◌, ◌≤◌, List, [], ◌∷◌, ◌++◌, Option, Some, None, Result, Ok, Err, IfOk, length, take, drop, slice_range, decimal}
use Rattle.std.proofs.Common.{sym, ap, subst, ◌∙◌, arith, length-append, length-drop, length-take}
use Rattle.std.specs.Option.{IfSome}
use Rattle.dp_wire.specs.declared.errors.WireError.{WireError}
use Rattle.dp_wire.specs.Frames.{BeginsPacket, BeginsCommand, packet_frame, command_frame, packets_in, commands_in}
use Rattle.dp_wire.specs.Received.{Received}
use Rattle.dp_lanes.specs.declared.lane.Lane.{Lane}
use Rattle.dp_lanes.specs.declared.lane.LaneKind.{LaneKind}
use Rattle.dp_lanes.specs.declared.lane.LaneKind.TheVariants.{Up, Down}
use Rattle.dp_lanes.specs.Places.{IsFront, kind_of, received_in}

-- what holds of one lane holds of an equal one
pub at_lane : (P : LaneKind → Received → Type 0) (l m : Lane) → l ≡ m → P (kind_of l) (received_in l)
    → P (kind_of m) (received_in m)
at_lane P l m e h = subst (λ (x : Lane). P (kind_of x) (received_in x)) e h

packet_at : (held : List ℕ) (start end : ℕ) → (start ≤ end) × (end < length held)
    → start ≡ length (decimal (end - start)) + 1
    → BeginsPacket held (slice_range held start end) (drop (end + 1) held)
    → ((more : List ℕ) → packets_in (held ++ more) ≡ slice_range held start end
    ∷ packets_in (drop (end + 1) held ++ more)) → IsFront Up held start end
packet_at held start end within place whole first = record {
  before = within.0;
  within = within.1;
  whole = whole;
  framed =
      let before = within.0 in
      let inside = within.1 in
      omega (
        arith,
        ap length whole.whole,
        length-append (packet_frame (slice_range held start end))
            (drop (end + 1) held),
        length-drop (end + 1) held,
      );
  stays = first;
}

command_at : (held : List ℕ) (start end : ℕ) → start ≡ 0 → BeginsCommand held (take end held) (drop (end + 1) held)
    → ((more : List ℕ) → commands_in (held ++ more) ≡ take end held ∷ commands_in (drop (end + 1) held ++ more))
    → IsFront Down held start end
command_at held start end none whole first =
    let same : slice_range held start end ≡ take end held = ap (λ (s : ℕ). slice_range held s end) none
    ∙ all_of held end in
    let long = ap length whole.whole in
    let frame = length-append (take end held) (0 ∷ []) in
    let joined = length-append (command_frame (take end held)) (drop (end + 1) held) in
    let short = length-take end held in
    let left = length-drop (end + 1) held in
    let within : end < length held = omega arith in
    record {
      before = omega arith;
      within = within;
      whole = subst (λ (t : List ℕ). BeginsCommand held t (drop (end + 1) held)) (sym same) whole;
      framed = ap_framed held end same within;
      stays = λ more. first more ∙ ap (λ (t : List ℕ). t ∷ commands_in (drop (end + 1) held ++ more)) (sym same);
    }
  where
    all_of : (held : List ℕ) (end : ℕ) → slice_range held 0 end ≡ take end held
    all_of held end = grind arith

    ap_framed : (held : List ℕ) (end : ℕ) → slice_range held start end ≡ take end held → end < length held
        → end + 1 ≡ length (command_frame (slice_range held start end))
    ap_framed held end same less =
        omega (
          arith,
          ap (λ (t : List ℕ). length (command_frame t)) same,
          length-append (take end held) (0 ∷ []),
          length-take end held,
        )

module _ {R : Type 0} (start end : R → ℕ) (held : List ℕ) where
  pub up_front : (r : Result (Option R) WireError)
      → IfOk r (λ found. IfSome found (λ range. (start range ≤ end range) × (end range < length held)))
      → IfOk r (λ found. IfSome found (λ range. start range ≡ length (decimal (end range - start range)) + 1))
      → IfOk r (λ found. IfSome found (λ range. BeginsPacket held (slice_range held (start range) (end range))
      (drop (end range + 1) held)))
      → IfOk r (λ found. IfSome found (λ range. (more : List ℕ) → packets_in (held ++ more)
      ≡ slice_range held (start range) (end range) ∷ packets_in (drop (end range + 1) held ++ more)))
      → IfOk r (λ found. IfSome found (λ range. IsFront Up held (start range) (end range)))
  up_front (Err why) within place whole first = tt
  up_front (Ok None) within place whole first = tt
  up_front (Ok (Some range)) within place whole first =
      packet_at held (start range) (end range) within place whole first

  pub down_front : (r : Result (Option R) WireError) → IfOk r (λ found. IfSome found (λ range. start range ≡ 0))
      → IfOk r (λ found. IfSome found (λ range. BeginsCommand held (take (end range) held) (drop (end range + 1) held)))
      → IfOk r (λ found. IfSome found (λ range. (more : List ℕ) → commands_in (held ++ more)
      ≡ take (end range) held ∷ commands_in (drop (end range + 1) held ++ more)))
      → IfOk r (λ found. IfSome found (λ range. IsFront Down held (start range) (end range)))
  down_front (Err why) none whole first = tt
  down_front (Ok None) none whole first = tt
  down_front (Ok (Some range)) none whole first = command_at held (start range) (end range) none whole first
