-- More commands only add: what the first commands lead to stays as it is, and what more of them
-- lead to follows it.
use Rattle.std.specs.Prelude.{◌≡◌, ℕ, List, ◌++◌, Some}
use Rattle.dp_wire.specs.Frames.{commands_in}
use Rattle.dp_conversation.specs.Folds.{Reply, replies}

-- one list of bytes begins another
abbrev pub Begins : List ℕ → List ℕ → Type 0
Begins front bytes = (rest : List ℕ) × (bytes ≡ front ++ rest)

-- what these bytes lead to, from this state on
abbrev pub served : {S E : Type 0} → (S → List ℕ → Reply S E) → S → List ℕ → Reply S E
served step start bytes = replies step start (commands_in bytes)

-- the second reply goes on where the first stands; one that has ended the session is not gone on
-- from
pub record GrowsInto {S E : Type 0} (first second : Reply S E) : Type 0 where
  pub packets : List (List ℕ)
  pub program : List ℕ
  pub more_packets : second.packets ≡ first.packets ++ packets
  pub more_program : second.program ≡ first.program ++ program
  pub over : (end : E) → first.ended ≡ Some end → second ≡ first
