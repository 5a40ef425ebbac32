-- What sessions do, as their records have it.
use Rattle.std.specs.Prelude.{ℕ, nat_lt, Bool, false, if◌then◌else◌, List, ◌++◌, length, Option, Some, None}
use Rattle.std.specs.List.{flat_map}
use Rattle.dp_conversation.specs.Folds.{Reply}
use Rattle.dp_conversation.specs.Growth.{served}
use Rattle.dp_state.specs.Statuses.{status}
use Rattle.dp_records.specs.Statuses.{bad_status}
use Rattle.dp_state.specs.declared.moments.Outcome.{Outcome}
use Rattle.dp_wire.specs.Frames.{command_limit, packet_frame, rest_of}

-- What a session sends that is sent some bytes, and that is over then; what goes to its program's
-- own output; how that ends, if it does; and whether what is left of the bytes is cut off: no
-- command has ended the session, and none begins there.
pub record Behaviour : Type 0 where
  pub sent : List ℕ → List ℕ
  pub own : List ℕ → List ℕ
  pub ending : List ℕ → Option Outcome
  pub is_cut_off : List ℕ → Bool

-- the status with which it is recorded to end
abbrev pub status_by : Behaviour → List ℕ → ℕ
status_by behaviour bytes =
    if behaviour.is_cut_off bytes then bad_status else status (behaviour.ending bytes)

-- ---- a session that answers commands

-- Where no command has ended it: more bytes are left than a command has, so however they go on,
-- none begins them.
abbrev pub is_left_off : {E : Type 0} → Option E → List ℕ → Bool
is_left_off None left = nat_lt command_limit (length left)
is_left_off (Some end) left = false

-- By what commands lead to, what its program writes once it is over, and how that ends, if it does;
-- by what it knows first, and the text of its first packet.
abbrev pub behaviour_of : {S E : Type 0} → (S → List ℕ → Reply S E) → (Option E → S → List ℕ)
    → (Option E → S → Option Outcome) → S → List ℕ → Behaviour
behaviour_of step rest_after ending_after start init = record {
  sent = λ bytes. packet_frame init ++ flat_map packet_frame (served step start bytes).packets;
  own =
      λ bytes. (served step start bytes).program
      ++ rest_after (served step start bytes).ended (served step start bytes).state;
  ending =
      λ bytes. ending_after (served step start bytes).ended (served step start bytes).state;
  is_cut_off = λ bytes. is_left_off (served step start bytes).ended (rest_of bytes);
}
