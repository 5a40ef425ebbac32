-- What a session that listens delivers, one thing after another, and what that tells of its
-- program.
use Rattle.std.specs.Prelude.{◌≡◌, ◌≢◌, ℕ, List, [], ◌∷◌, ◌++◌, Option}
use Rattle.std.specs.List.{AllByRecursion, flat_map}
use Rattle.dp_async.specs.Heard.{Done}
use Rattle.dp_command.specs.declared.command.StreamMode.{StreamMode}
use Rattle.dp_command.specs.declared.command.StreamMode.TheVariants.{Redirect}
use Rattle.dp_engine.specs.Answers.{to_ide, to_program}
use Rattle.dp_engine.specs.Responses.{notice_text, response_text}
use Rattle.dp_engine.specs.Served.{ending_after, rest_after}
use Rattle.dp_engine.specs.Session.{State}
use Rattle.dp_engine.specs.declared.session.SessionEnd.{SessionEnd}
use Rattle.dp_meaning.specs.declared.writes.NumberedWrite.{NumberedWrite}
use Rattle.dp_packet.specs.Parts.{Text}
use Rattle.dp_packet.specs.declared.packet.Notify.{Notify}
use Rattle.dp_packet.specs.declared.packet.Response.{Response}
use Rattle.dp_session_laws.specs.AllOutput.{IsRunWith}
use Rattle.dp_tree.specs.declared.bundle.Bundle.{Bundle}

-- output of the program, which goes where the mode says; news; or a response
pub data Delivery : Type 0 where
  Writes : StreamMode → List ℕ → Delivery
  Notifies : Notify → Delivery
  Responds : Response → Delivery

-- the texts of the packets in which it goes to the IDE
abbrev pub packets_in : Delivery → List Text
packets_in (Writes mode written) = to_ide mode written
packets_in (Notifies n) = notice_text n ∷ []
packets_in (Responds r) = response_text r ∷ []

-- what of it goes to the program's own output
abbrev pub printed_in : Delivery → List ℕ
printed_in (Writes mode written) = to_program mode written
printed_in (Notifies n) = []
printed_in (Responds r) = []

-- what the program wrote, wherever it goes
abbrev pub written_in : Delivery → List ℕ
written_in (Writes mode written) = written
written_in (Notifies n) = []
written_in (Responds r) = []

-- it is no output that goes to the IDE alone
abbrev pub IsPrinted : Delivery → Type 0
IsPrinted (Writes mode written) = mode ≢ Redirect
IsPrinted (Notifies n) = Unit {0}
IsPrinted (Responds r) = Unit {0}

-- What was done is to deliver these. What the program wrote in them, and behind it what it writes
-- once the session is over, are what it writes with these writes, and it ends as with them; of one
-- that was killed they are a front of that. Where none of it went to the IDE alone, so are its own
-- output and that.
pub record ReportsRun (bundle : Bundle) (bound : ℕ) (writes : List NumberedWrite) (done : Done)
    (ended : Option SessionEnd) (state : State) : Type 0 where
  pub deliveries : List Delivery
  pub sent : done.packets ≡ flat_map packets_in deliveries
  pub printed : done.program ≡ flat_map printed_in deliveries
  pub run : IsRunWith bundle bound writes
      (flat_map written_in deliveries ++ rest_after ended state) (ending_after ended state)
  pub own : AllByRecursion IsPrinted deliveries
      → IsRunWith bundle bound writes
      (done.program ++ rest_after ended state) (ending_after ended state)
