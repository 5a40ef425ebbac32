-- A session answers commands one after another. What each command means is the step; this says what
-- it comes to over a list of commands, up to the first that ends the session.
use Rattle.std.specs.Prelude.{ℕ, List, [], ◌∷◌, ◌++◌, Option, None, Some}
use Rattle.dp_conversation.specs.declared.responder.Answer.{Answer}

-- What a command leads to: the texts of the packets that are sent, what goes to the program's own
-- output, what the session knows then, and how it has ended, if it has.
pub record Reply (S E : Type 0) : Type 0 where
  pub packets : List (List ℕ)
  pub program : List ℕ
  pub state : S
  pub ended : Option E

-- no command: nothing is sent
abbrev pub nothing_sent : {S E : Type 0} → S → Reply S E
nothing_sent state = record { packets = []; program = []; state = state; ended = None }

abbrev pub unless_ended : {S E : Type 0} → Option E → Reply S E → Reply S E → Reply S E
unless_ended (Some end) first rest = first
unless_ended None first rest = record {
  packets = first.packets ++ rest.packets;
  program = first.program ++ rest.program;
  state = rest.state;
  ended = rest.ended;
}

-- one reply, and then another if the first has not ended the session
abbrev pub followed : {S E : Type 0} → Reply S E → Reply S E → Reply S E
followed first rest = unless_ended first.ended first rest

-- what the commands lead to, from this state on
abbrev pub replies : {S E : Type 0} → (S → List ℕ → Reply S E) → S → List (List ℕ) → Reply S E
replies step state [] = nothing_sent state
replies step state (line ∷ lines) =
    followed (step state line) (replies step (step state line).state lines)

-- an answer, with what the session knows then
abbrev pub reply_of : {S E : Type 0} → Answer E → S → Reply S E
reply_of answer state =
    record {
      packets = answer.packets;
      program = answer.program;
      state = state;
      ended = answer.ended;
    }
