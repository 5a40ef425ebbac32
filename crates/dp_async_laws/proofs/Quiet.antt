-- `stdout -i 1 -c 0` sends the program's output to its own output, before the program's end.
use Rattle.std.proofs.Common.{◌≡◌, ◌≢◌, ℕ, true, List, [], ◌∷◌, Option, Some, None, refl, ap, ◌∙◌, arith, codes}
use Rattle.std.specs.Prelude.{not}
use Rattle.std.specs.List.{list_all}
use Rattle.std.specs.Option.{option_map_or}
use Rattle.std.proofs.lemmas.Bool.{and_parts}
use Rattle.dp_command.specs.declared.command.StreamMode.TheVariants.{Disable}
use Rattle.dp_command.specs.declared.errors.Refusal.TheVariants.{Duplicate, NoId, Unimplemented}
use Rattle.dp_command.specs.declared.line.Line.{Line}
use Rattle.dp_command.specs.declared.names.CommandName.TheVariants.{Stdout}
use Rattle.dp_command.specs.Canonical.{canonical, IsWellFormed}
use Rattle.dp_command.specs.Commands.{request_of}
use Rattle.dp_command.specs.Lines.{line_of}
use Rattle.dp_command.specs.Names.{name_of, text_of}
use Rattle.dp_command.specs.Refusals.{coded, fits_row}
use Rattle.dp_command.specs.Sorts.{Each, is_name_byte}
use Rattle.dp_command.specs.Table.{payload_of, slots_of}
use Rattle.dp_command.specs.Tests.{first_code}
use Rattle.dp_command.proofs.LineLaws.{line_again}
use Rattle.dp_command.proofs.Written.{written_is}
use Rattle.dp_engine.specs.declared.states.Phase.{Phase}
use Rattle.dp_engine.specs.declared.states.Phase.TheVariants.{Starting, Break, Stopping}
use Rattle.dp_engine.specs.Answers.{answer, turn, turn_of}
use Rattle.dp_engine.specs.Refusals.{of_command, refusal_of_line, row_tests}
use Rattle.dp_engine.specs.Session.{State}
use Rattle.dp_engine.specs.States.{allows}
use Rattle.dp_packet.specs.declared.error_codes.ErrorCode.{ErrorCode}
use Rattle.dp_packet.specs.declared.error_codes.ErrorCode.TheVariants.{CommandNotAvailable}

-- the line
abbrev quiet_line : Line
quiet_line = record {
  name = text_of Stdout;
  options = (105, codes "1") ∷ (99, codes "0") ∷ [];
  payload = None;
}

each_of : (text : List ℕ) → list_all is_name_byte text ≡ true → Each is_name_byte text
each_of [] e = tt
each_of (b ∷ t) e =
    let both = and_parts (is_name_byte b) (list_all is_name_byte t) e in (both.0, each_of t both.1)

formed : IsWellFormed quiet_line
formed = record {
  name = (each_of (text_of Stdout) refl, omega arith, omega arith);
  letters = (refl, (refl, tt));
  payload = tt;
}

spelt_so : line_of (codes "stdout -i 1 -c 0") ≡ Some quiet_line
spelt_so = line_again (canonical quiet_line) quiet_line (written_is quiet_line formed)

-- the code of its refusal, in a session that is in this phase
abbrev code_in : State → Phase → Option ErrorCode
code_in state phase =
    first_code (coded quiet_line Duplicate ∷ coded quiet_line Unimplemented ∷ coded quiet_line NoId
    ∷ (not (of_command (allows phase) (name_of quiet_line.name)), CommandNotAvailable)
    ∷ option_map_or (row_tests state quiet_line) (name_of quiet_line.name) [])

-- it has none before the end
unrefused : (state : State) (phase : Phase) → phase ≢ Stopping → code_in state phase ≡ None
unfolding name_of fits_row slots_of payload_of request_of
unrefused state Starting before = refl
unrefused state Break before = refl
unrefused state Stopping before = absurd (before refl)

-- and is done
done_so : (state : State) → (turn_of (Some quiet_line) None state).next ≡ record state { stdout = Disable }
unfolding name_of request_of
done_so state = refl

turned_so : (state : State) → state.phase ≢ Stopping
    → (turn state (codes "stdout -i 1 -c 0")).next ≡ record state { stdout = Disable }
unfolding turn
turned_so state before =
    let refused : refusal_of_line state (line_of (codes "stdout -i 1 -c 0")) ≡ None =
    ap (refusal_of_line state) spelt_so ∙ unrefused state state.phase before in
    (λ i. (turn_of (spelt_so i) (refused i) state).next) ∙ done_so state

-- where a session stands behind it
abbrev pub quieted : State → State
quieted state = (answer state (codes "stdout -i 1 -c 0")).state

pub quiet_is : (state : State) → state.phase ≢ Stopping → quieted state ≡ record state { stdout = Disable }
unfolding answer
quiet_is state before = turned_so state before

pub quiet_off : (state : State) → state.phase ≢ Stopping → (quieted state).stdout ≡ Disable
quiet_off state before = ap (λ (s : State). s.stdout) (quiet_is state before)
