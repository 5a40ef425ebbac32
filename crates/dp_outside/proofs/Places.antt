-- A place in the bytes and one in the sizes, moved over a piece.
use Rattle.std.proofs.Common.{◌≡◌, ℕ, ◌+◌, ◌≤◌, List, length, take, drop, refl}
use Rattle.std.proofs.lemmas.List.{drop-drop, drop_all}
use Rattle.std.proofs.Math.Seq.{take-add}
use Rattle.dp_outside.specs.Fakes.{Tape, after_piece}

abbrev pub tape_at : List ℕ → List ℕ → ℕ → ℕ → Tape
tape_at bytes cuts at used = record { given = take at bytes; left = drop at bytes; cuts = drop used cuts }

-- a size was used
pub used_one : (bytes cuts : List ℕ) (at used n : ℕ)
    → tape_at bytes cuts (at + n) (used + 1) ≡ after_piece (tape_at bytes cuts at used) n
used_one bytes cuts at used n = rw (take-add at n bytes, drop-drop n at bytes, drop-drop 1 used cuts) refl

-- none was left
pub used_none : (bytes cuts : List ℕ) (at used n : ℕ) → length cuts ≤ used
    → tape_at bytes cuts (at + n) used ≡ after_piece (tape_at bytes cuts at used) n
used_none bytes cuts at used n none = rw (take-add at n bytes, drop-drop n at bytes, drop_all used cuts none) refl
