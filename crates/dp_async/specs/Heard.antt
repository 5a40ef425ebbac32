-- What a session that listens comes to by what it heard: arrivals, each with the number of the
-- moment at which it came.
--
-- While no continuation is on its way, each whole command at the front of the bytes held is
-- answered, and something arrives only where none is held. A continuation goes on from moment to
-- moment, up to the first at which it stops, or to the program's end. At each moment at which it
-- does not stop the session looks once, what has arrived is held, and then each `status` and
-- `break` at the front is answered; a `break` that is not refused stops the program there. Any
-- other command stays at the front, and none overtakes another.
use Rattle.std.specs.Prelude.{◌≡◌, ◌≢◌, ◌⊎◌, ℕ, ◌+◌, ◌<◌, ◌≤◌, Bool, true, false, List, [], ◌∷◌, ◌++◌, length, codes, Option, Some, None, is_none}
use Rattle.std.specs.List.{flat_map}
use Rattle.dp_conversation.specs.Folds.{Reply}
use Rattle.dp_command.specs.Lines.{line_of}
use Rattle.dp_packet.specs.declared.packet.Response.{Response}
use Rattle.dp_packet.specs.Parts.{Text}
use Rattle.dp_wire.specs.Frames.{BeginsCommand, BeginsNoCommand, IsPartialCommand}
use Rattle.dp_tree.specs.declared.bundle.Bundle.{Bundle}
use Rattle.dp_engine.specs.declared.passes.Going.{Going}
use Rattle.dp_engine.specs.declared.passes.Passing.TheVariants.{On, Stop, End}
use Rattle.dp_engine.specs.declared.session.SessionEnd.{SessionEnd}
use Rattle.dp_engine.specs.declared.states.Phase.{Phase}
use Rattle.dp_engine.specs.declared.states.Phase.TheVariants.{Starting, Break, Stopping}
use Rattle.dp_engine.specs.Answers.{answer}
use Rattle.dp_engine.specs.Passes.{SetsOut, addressee_of, arrived, departing, depth_from, mode_of, passed, passing, shown_before}
use Rattle.dp_engine.specs.Responses.{response_text}
use Rattle.dp_engine.specs.Session.{State, opening}
use Rattle.dp_async.specs.declared.arrival.Arrival.{Arrival}
use Rattle.dp_async.specs.Listens.{asks_for_status, asks_to_break, break_refusal, break_response, is_heard, own_response, running_response}

-- the most bytes that one session reads
abbrev pub byte_limit : ℕ
byte_limit = 16777216

-- the bytes that arrived
abbrev pub bytes_of : List Arrival → List ℕ
bytes_of arrivals = flat_map (λ a. a.bytes) arrivals

-- ---- where a session stands

-- A continuation on its way has just set out, and hears nothing before its first moment; or it goes
-- on; or the program has stopped, at a stop, at its end, or by a `break`.
pub data Stage : Type 0 where
  SetOut : Stage
  GoesOn : Stage
  Stopped : Stage

pub record OnItsWay : Type 0 where
  pub going : Going
  pub stage : Stage

-- What the session knows, how many moments of its program have come, the bytes that are held, the
-- continuation that is on its way, and whether no more is read.
pub record Situation : Type 0 where
  pub state : State
  pub moments : ℕ
  pub held : List ℕ
  pub way : Option OnItsWay
  pub over : Bool

-- it reads on
abbrev pub standing : Option OnItsWay → State → ℕ → List ℕ → Situation
standing way state moments held = record {
  state = state;
  moments = moments;
  held = held;
  way = way;
  over = false;
}

-- no more is read
abbrev pub at_end : Option OnItsWay → State → ℕ → List ℕ → Situation
at_end way state moments held = record {
  state = state;
  moments = moments;
  held = held;
  way = way;
  over = true;
}

abbrev pub on_its_way : Going → Stage → Option OnItsWay
on_its_way going stage = Some (record { going = going; stage = stage })

-- once it has heard a command, which stops the program or does not
abbrev pub stage_after : Bool → Stage
stage_after true = Stopped
stage_after false = GoesOn

-- a session that was fed nothing yet
abbrev pub before_all : Bundle → ℕ → Situation
before_all bundle bound = standing None (opening bundle bound) 0 []

-- The number of what arrives: that of the current moment, which is how many have come; once the
-- program has ended one more than that of its last moment, or 1 where it had none.
abbrev pub number_by : Phase → ℕ → ℕ
number_by Starting moments = moments
number_by Break moments = moments
number_by Stopping moments = moments + 1

abbrev pub number_of_arrival : State → ℕ → ℕ
number_of_arrival state moments = number_by state.phase moments

-- ---- what was done

-- the texts of the packets that were sent, what went to the program's own output, and how often the
-- input was looked at
pub record Done : Type 0 where
  pub packets : List Text
  pub program : List ℕ
  pub looks : ℕ

abbrev pub nothing : Done
nothing = record { packets = []; program = []; looks = 0 }

abbrev pub with_reply : Reply State SessionEnd → Done → Done
with_reply reply done = record done {
  packets = done.packets ++ reply.packets;
  program = done.program ++ reply.program;
}

abbrev pub with_response : Response → Done → Done
with_response r done = record done { packets = done.packets ++ response_text r ∷ [] }

abbrev pub with_look : Done → Done
with_look done = record done { looks = done.looks + 1 }

-- what is answered to a continuation where its program has stopped
abbrev pub arrival_of : Going → State → Reply State SessionEnd
arrival_of going state =
    arrived (addressee_of going).command (addressee_of going).id (shown_before going) state

-- where nothing more is asked for, output goes as after this command
abbrev pub program_alone : State → State
program_alone state = (answer state (codes "stdout -i 1 -c 0")).state

-- What a continuation has written on its way, which goes to the program's own output without a
-- response where no more is read.
abbrev pub left_alone : Going → State → Reply State SessionEnd
left_alone going state =
    let alone = arrival_of going (program_alone state) in
    record { packets = []; program = alone.program; state = alone.state; ended = None }

-- ---- what may come next

-- a whole command is at the front, but none that a running program hears
pub record FrontIsOther (held : List ℕ) : Type 0 where
  pub line : List ℕ
  pub rest : List ℕ
  pub begins : BeginsCommand held line rest
  pub other : is_heard (line_of line) ≡ false

-- no whole command is at the front
abbrev pub HoldsNone : List ℕ → Type 0
HoldsNone held = IsPartialCommand held ⊎ BeginsNoCommand held

-- nothing that a running program hears is at the front
abbrev pub HearsNone : List ℕ → Type 0
HearsNone held = HoldsNone held ⊎ FrontIsOther held

-- it passes to the next moment: it has just set out, or has heard all that is at the front
abbrev pub MayGoOn : Stage → List ℕ → Type 0
MayGoOn SetOut held = Unit {0}
MayGoOn GoesOn held = HearsNone held
MayGoOn Stopped held = ⊥

-- no limit was passed: a command may still begin what is held, and more may be read
abbrev pub IsFree : List Arrival → List ℕ → Type 0
IsFree log held = (BeginsNoCommand held → ⊥) × (length (bytes_of log) < byte_limit)

-- a limit was passed
abbrev pub IsTooMuch : List Arrival → List ℕ → Type 0
IsTooMuch log held = BeginsNoCommand held ⊎ (byte_limit ≤ length (bytes_of log))

-- These arrivals led a session over this program to this situation, and that was done on the way.
pub data Heard (bundle : Bundle) (bound : ℕ) : List Arrival → Done → Situation → Type 0 where
  Begins : Heard bundle bound [] nothing (before_all bundle bound)
  -- while no continuation is on its way: the command at the front is answered by this session
  -- alone, or as in every session
  AnswersOwn : {log : List Arrival} {done : Done} {state : State} {moments : ℕ} {held : List ℕ}
      → Heard bundle bound log done (standing None state moments held)
      → (line rest : List ℕ) → BeginsCommand held line rest
      → (response : Response) → own_response (line_of line) ≡ Some response
      → Heard bundle bound log (with_response response done) (standing None state moments rest)
  Answers : {log : List Arrival} {done : Done} {state : State} {moments : ℕ} {held : List ℕ}
      → Heard bundle bound log done (standing None state moments held)
      → (line rest : List ℕ) → BeginsCommand held line rest
      → own_response (line_of line) ≡ None → departing state (line_of line) ≡ None
      → (answer state line).ended ≡ None
      → Heard bundle bound log (with_reply (answer state line) done)
      (standing None (answer state line).state moments rest)
  -- it is a continuation, which sets out
  Departs : {log : List Arrival} {done : Done} {state : State} {moments : ℕ} {held : List ℕ}
      → Heard bundle bound log done (standing None state moments held)
      → (line rest : List ℕ) → BeginsCommand held line rest
      → own_response (line_of line) ≡ None
      → (going : Going) → SetsOut state (line_of line) going
      → Heard bundle bound log done (standing (on_its_way going SetOut) state moments rest)
  -- where none is held whole something arrives, or the end of the input, which has no bytes
  Comes : {log : List Arrival} {done : Done} {state : State} {moments : ℕ} {held : List ℕ}
      → Heard bundle bound log done (standing None state moments held)
      → IsPartialCommand held → IsFree log held
      → (a : Arrival) → a.moment ≡ number_of_arrival state moments → a.bytes ≢ []
      → Heard bundle bound (log ++ a ∷ []) done (standing None state moments (held ++ a.bytes))
  Ceases : {log : List Arrival} {done : Done} {state : State} {moments : ℕ} {held : List ℕ}
      → Heard bundle bound log done (standing None state moments held)
      → IsPartialCommand held → IsFree log held
      → (a : Arrival) → a.moment ≡ number_of_arrival state moments → a.bytes ≡ []
      → Heard bundle bound (log ++ a ∷ []) done (at_end None state moments held)
  -- or no more may: a limit was passed
  Fills : {log : List Arrival} {done : Done} {state : State} {moments : ℕ} {held : List ℕ}
      → Heard bundle bound log done (standing None state moments held)
      → HoldsNone held → IsTooMuch log held
      → Heard bundle bound log done (at_end None state moments held)
  -- a continuation passes a moment at which it does not stop, and a look finds nothing
  Passes : {log : List Arrival} {done : Done} {state : State} {moments : ℕ} {held : List ℕ}
      (going : Going) (stage : Stage)
      → Heard bundle bound log done (standing (on_its_way going stage) state moments held)
      → MayGoOn stage held → IsFree log held
      → passing (mode_of going) (depth_from going) state ≡ On
      → Heard bundle bound log (with_look done)
      (standing (on_its_way going GoesOn) (passed state) (moments + 1) held)
  -- or what has arrived there, or the end of the input
  PassesTo : {log : List Arrival} {done : Done} {state : State} {moments : ℕ} {held : List ℕ}
      (going : Going) (stage : Stage)
      → Heard bundle bound log done (standing (on_its_way going stage) state moments held)
      → MayGoOn stage held → IsFree log held
      → passing (mode_of going) (depth_from going) state ≡ On
      → (a : Arrival) → a.moment ≡ number_of_arrival (passed state) (moments + 1) → a.bytes ≢ []
      → Heard bundle bound (log ++ a ∷ []) (with_look done)
      (standing (on_its_way going GoesOn) (passed state) (moments + 1) (held ++ a.bytes))
  PassesToEnd : {log : List Arrival} {done : Done} {state : State} {moments : ℕ} {held : List ℕ}
      (going : Going) (stage : Stage)
      → Heard bundle bound log done (standing (on_its_way going stage) state moments held)
      → MayGoOn stage held → IsFree log held
      → passing (mode_of going) (depth_from going) state ≡ On
      → (a : Arrival) → a.moment ≡ number_of_arrival (passed state) (moments + 1) → a.bytes ≡ []
      → Heard bundle bound (log ++ a ∷ []) (with_look done)
      (at_end (on_its_way going GoesOn) (passed state) (moments + 1) held)
  -- or it comes to a moment at which it stops, or to the program's end; there is no look
  Stops : {log : List Arrival} {done : Done} {state : State} {moments : ℕ} {held : List ℕ}
      (going : Going) (stage : Stage)
      → Heard bundle bound log done (standing (on_its_way going stage) state moments held)
      → MayGoOn stage held → IsFree log held
      → passing (mode_of going) (depth_from going) state ≡ Stop
      → Heard bundle bound log done
      (standing (on_its_way going Stopped) (passed state) (moments + 1) held)
  Ends : {log : List Arrival} {done : Done} {state : State} {moments : ℕ} {held : List ℕ}
      (going : Going) (stage : Stage)
      → Heard bundle bound log done (standing (on_its_way going stage) state moments held)
      → MayGoOn stage held → IsFree log held
      → passing (mode_of going) (depth_from going) state ≡ End
      → Heard bundle bound log done
      (standing (on_its_way going Stopped) (passed state) moments held)
  -- or a limit was passed
  PassesLimit : {log : List Arrival} {done : Done} {state : State} {moments : ℕ} {held : List ℕ}
      (going : Going) (stage : Stage)
      → Heard bundle bound log done (standing (on_its_way going stage) state moments held)
      → MayGoOn stage held → IsTooMuch log held
      → Heard bundle bound log done (at_end (on_its_way going stage) state moments held)
  -- it answers a `status` at the front, and a `break`, which stops it unless it is refused
  TellsStatus : {log : List Arrival} {done : Done} {state : State} {moments : ℕ} {held : List ℕ}
      (going : Going)
      → Heard bundle bound log done (standing (on_its_way going GoesOn) state moments held)
      → (line rest : List ℕ) → BeginsCommand held line rest
      → asks_to_break (line_of line) ≡ false → asks_for_status (line_of line) ≡ true
      → Heard bundle bound log (with_response (running_response (line_of line)) done)
      (standing (on_its_way going GoesOn) state moments rest)
  HearsBreak : {log : List Arrival} {done : Done} {state : State} {moments : ℕ} {held : List ℕ}
      (going : Going)
      → Heard bundle bound log done (standing (on_its_way going GoesOn) state moments held)
      → (line rest : List ℕ) → BeginsCommand held line rest
      → asks_to_break (line_of line) ≡ true
      → Heard bundle bound log (with_response (break_response true (line_of line)) done)
      (standing (on_its_way going (stage_after (is_none (break_refusal true (line_of line)))))
      state moments rest)
  -- where its program has stopped it is answered
  Arrives : {log : List Arrival} {done : Done} {state : State} {moments : ℕ} {held : List ℕ}
      (going : Going)
      → Heard bundle bound log done (standing (on_its_way going Stopped) state moments held)
      → Heard bundle bound log (with_reply (arrival_of going state) done)
      (standing None state moments held)
  -- where no more is read only what it has written goes out
  Leaves : {log : List Arrival} {done : Done} {state : State} {moments : ℕ} {held : List ℕ}
      (going : Going) (stage : Stage)
      → Heard bundle bound log done (at_end (on_its_way going stage) state moments held)
      → Heard bundle bound log (with_reply (left_alone going state) done)
      (at_end None (left_alone going state).state moments held)

-- ---- how it ends

-- They led it to its end: no more is read, and nothing is on its way; or a command has ended it.
-- This is what the session knows then, and what is left of the bytes held.
pub data HeardTo (bundle : Bundle) (bound : ℕ) : List Arrival → Done → Option SessionEnd → State →
    List ℕ → Type 0 where
  IsRead : {log : List Arrival} {done : Done} {state : State} {moments : ℕ} {held : List ℕ}
      → Heard bundle bound log done (at_end None state moments held)
      → HeardTo bundle bound log done None state held
  IsEnded : {log : List Arrival} {done : Done} {state : State} {moments : ℕ} {held : List ℕ}
      → Heard bundle bound log done (standing None state moments held)
      → (line rest : List ℕ) → BeginsCommand held line rest
      → own_response (line_of line) ≡ None → departing state (line_of line) ≡ None
      → (end : SessionEnd) → (answer state line).ended ≡ Some end
      → HeardTo bundle bound log (with_reply (answer state line) done) (Some end)
      (answer state line).state rest
