-- What contracts see of the sources, sinks and shelves in memory.
use Rattle.std.specs.Prelude.{ℕ, ◌+◌, ◌-◌, ◌^◌, ◌==◌, min, max, Bool, if◌then◌else◌, List, [], ◌∷◌, ◌++◌, length, take, drop}
use Rattle.std.specs.List.{list_any}

-- one more, where a count of 64 bits stands still at its end
abbrev pub one_more : ℕ → ℕ
one_more count = min (count + 1) (2 ^ 64 - 1)

-- the numbers of those calls that fail, counted from 1; the calls so far; the faults so far
pub record Plan : Type 0 where
  pub fails : List ℕ
  pub calls : ℕ
  pub faults : ℕ

-- whether the next call is one of those that fail
abbrev pub is_due : Plan → Bool
is_due plan = list_any (λ number. number == one_more plan.calls) plan.fails

-- the plan after one more call, which was a fault or not
abbrev pub after_call : Plan → Bool → Plan
after_call plan fault = record {
  fails = plan.fails;
  calls = one_more plan.calls;
  faults = if fault then one_more plan.faults else plan.faults;
}

-- bytes that are given in pieces: those given, those still left, and the sizes of the pieces to
-- come
pub record Tape : Type 0 where
  pub given : List ℕ
  pub left : List ℕ
  pub cuts : List ℕ

-- the size of the next piece for a buffer of this length, were there bytes enough: 0 counts as 1
abbrev pub next_cut : List ℕ → ℕ → ℕ
next_cut [] room = room
next_cut (cut ∷ cuts) room = min (max cut 1) room

-- the length of the next piece
abbrev pub piece_length : Tape → ℕ → ℕ
piece_length tape room = min (next_cut tape.cuts room) (length tape.left)

-- the tape after a piece of n bytes
abbrev pub after_piece : Tape → ℕ → Tape
after_piece tape n = record {
  given = tape.given ++ take n tape.left;
  left = drop n tape.left;
  cuts = drop 1 tape.cuts;
}

-- a tape from which nothing was given yet
abbrev pub whole_tape : List ℕ → List ℕ → Tape
whole_tape bytes cuts = record { given = []; left = bytes; cuts = cuts }

-- a plan with no call yet
abbrev pub first_plan : List ℕ → Plan
first_plan fails = record { fails = fails; calls = 0; faults = 0 }

-- a source in memory
pub record SourceState : Type 0 where
  pub tape : Tape
  pub plan : Plan

-- a sink in memory: what it has taken, and how much it can hold in all
pub record SinkState : Type 0 where
  pub taken : List ℕ
  pub room : ℕ
  pub plan : Plan

-- a shelf in memory: the names and contents of its files, and the names that it was asked for
pub record ShelfState : Type 0 where
  pub files : List (List ℕ × List ℕ)
  pub fetched : List (List ℕ)
  pub plan : Plan

-- a shelf in memory that never fails
pub record SureShelfState : Type 0 where
  pub files : List (List ℕ × List ℕ)
  pub fetched : List (List ℕ)

-- a spawner in memory: which starts it refuses, and of each start so far whether it was granted
pub record TurnState : Type 0 where
  pub plan : Plan
  pub starts : List Bool
