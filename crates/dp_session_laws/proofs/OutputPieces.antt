-- The pieces in which output goes to the IDE are the output, and each but the last is full.
use Rattle.std.proofs.Common.{◌≡◌, ℕ, zero, suc, ◌+◌, ◌-◌, ◌/◌, ◌≤◌, ◌<◌, List, [], ◌∷◌, ◌++◌, length, take, drop, sym, ap, subst, refl, ◌∙◌, arith, length-drop}
use Rattle.std.specs.List.{flat_map}
use Rattle.std.proofs.lemmas.List.{length-take-le, take-append-drop, take_all}
use Rattle.dp_packet.specs.Parts.{Text}
use Rattle.dp_engine.specs.Responses.{first_pieces, pieces, stream_size}
use Rattle.dp_session_laws.specs.Pieces.{AreFull}

-- the first piece of output and the others
pieces_on : (output : Text) → 0 < length output
    → pieces output ≡ take stream_size output ∷ pieces (drop stream_size output)
pieces_on output some =
    let count : (length output + 4096 - 1) / 4096 ≡ suc ((length (drop 4096 output) + 4096 - 1) / 4096) = omega
    (arith, some, length-drop 4096 output) in
    ap (λ (n : ℕ). first_pieces n output) count

joined : (room : ℕ) (output : Text) → length output ≤ room → flat_map (λ piece. piece) (pieces output) ≡ output
joined room [] few = refl
joined zero (b ∷ rest) few = absurd (omega (arith, few))
joined (suc room) (b ∷ rest) few =
    let output : Text = b ∷ rest in
    let left : length (drop stream_size output) ≤ room = omega (arith, few, length-drop 4096 output) in
    ap (flat_map (λ piece. piece)) (pieces_on output (omega arith))
    ∙ ap (λ (l : Text). take stream_size output ++ l) (joined room (drop stream_size output) left)
    ∙ take-append-drop stream_size output

-- a full piece before others, or the last one
full_on : (output rest : Text) → rest ≡ drop stream_size output → 0 < length output → AreFull (pieces rest)
    → AreFull (take stream_size output ∷ pieces rest)
full_on output [] is some full =
    let none : length output ≤ 4096 = omega (arith, ap (λ (l : Text). length l) is, length-drop 4096 output) in
    let same : take stream_size output ≡ output = take_all 4096 output none in
    subst (λ (l : Text). (0 < length l) × (length l ≤ stream_size)) (sym same) (some, none)
full_on output (b ∷ rest) is some full =
    let long : 4096 ≤ length output = omega (arith, ap (λ (l : Text). length l) is, length-drop 4096 output) in
    let next = pieces_on (b ∷ rest) (omega arith) in
    subst (λ (l : List Text). AreFull (take stream_size output ∷ l)) (sym next)
    (length-take-le 4096 output long, subst AreFull next full)

all_full : (room : ℕ) (output : Text) → length output ≤ room → AreFull (pieces output)
all_full room [] few = tt
all_full zero (b ∷ rest) few = absurd (omega (arith, few))
all_full (suc room) (b ∷ rest) few =
    let output : Text = b ∷ rest in
    let left : length (drop stream_size output) ≤ room = omega (arith, few, length-drop 4096 output) in
    subst AreFull (sym (pieces_on output (omega arith)))
    (full_on output (drop stream_size output) refl (omega arith) (all_full room (drop stream_size output) left))

pub pieces_whole : (output : Text) → flat_map (λ piece. piece) (pieces output) ≡ output
pieces_whole output = joined (length output) output (omega arith)

pub pieces_full : (output : Text) → AreFull (pieces output)
pieces_full output = all_full (length output) output (omega arith)
