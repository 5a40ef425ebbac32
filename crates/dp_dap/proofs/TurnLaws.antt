-- What the lines of the gateway lead to in the session: one that is refused, and one that looks at the program,
-- changes nothing.
use Rattle.std.proofs.Common.{◌≡◌, ℕ, true, List, [], ◌∷◌, Option, Some, None, refl, sym, subst, ◌∙◌, arith, option_map}
use Rattle.std.specs.List.{list_all}
use Rattle.std.proofs.lemmas.Bool.{and_parts}
use Rattle.dp_command.specs.declared.line.Line.{Line}
use Rattle.dp_command.specs.declared.names.CommandName.{CommandName}
use Rattle.dp_command.specs.declared.names.CommandName.TheVariants.{ContextGet, ContextNames, PropertyGet, StackGet}
use Rattle.dp_command.specs.Canonical.{canonical, IsWellFormed}
use Rattle.dp_command.specs.Commands.{command_as, request_of}
use Rattle.dp_command.specs.Grammar.{IsName}
use Rattle.dp_command.specs.Lines.{line_of}
use Rattle.dp_command.specs.Names.{name_of, text_of}
use Rattle.dp_command.specs.Refusals.{id_of}
use Rattle.dp_command.specs.Sorts.{Each, is_name_byte}
use Rattle.dp_command.proofs.LineLaws.{line_again}
use Rattle.dp_command.proofs.Spellings.{named}
use Rattle.dp_command.proofs.Written.{written_is}
use Rattle.dp_packet.specs.declared.error_codes.ErrorCode.{ErrorCode}
use Rattle.dp_packet.specs.Messages.{number}
use Rattle.dp_engine.specs.Answers.{Turn, performed, refused, turn, turn_by_command, turn_of}
use Rattle.dp_engine.specs.Refusals.{refusal, refusal_of_line}
use Rattle.dp_engine.specs.Responses.{fault_in}
use Rattle.dp_engine.specs.Session.{State}
use Rattle.dp_engine.proofs.RefusalLaws.{refused_exactly}
use Rattle.dp_dap_messages.specs.declared.lines.Place.{Place}
use Rattle.dp_dap_messages.specs.Lines.{contexts_line, frame_line, look_line, place_line, stack_line}

-- ---- what is refused

turn_stays : (line : Option Line) (r : Option ErrorCode) (state : State) (code : ℕ) → option_map number r ≡ Some code
    → (turn_of line r state).next ≡ state
turn_stays line (Some c) state code e = refl
turn_stays line None state code e = absurd cc

pub refused_stays : (state : State) (bytes : List ℕ) (code : ℕ)
    → fault_in (turn state bytes).response.body ≡ Some code → (turn state bytes).next ≡ state
unfolding turn refusal
refused_stays state bytes code e =
    turn_stays (line_of bytes) (refusal_of_line state (line_of bytes)) state code
    (sym (refused_exactly state bytes) ∙ e)

-- ---- what is looked at

-- each byte of a name may stand in one
pub each_of : (text : List ℕ) → list_all is_name_byte text ≡ true → Each is_name_byte text
each_of [] e = tt
each_of (b ∷ t) e =
    let both = and_parts (is_name_byte b) (list_all is_name_byte t) e in (both.0, each_of t both.1)

-- what holds of a turn of a line: if it is refused, and if what it asks for is done
pub turned_to : (P : Turn → Type 0) (state : State) (line : Line) (name : CommandName) → IsWellFormed line
    → name_of line.name ≡ Some name → ((code : ErrorCode) → P (refused line.name (id_of line) code state))
    → P (performed line.name (id_of line) (request_of name line) state) → P (turn state (canonical line))
unfolding turn
turned_to P state line name formed called refuses does =
    subst (λ (l : Option Line). P (turn_of l (refusal_of_line state l) state))
    (sym (line_again (canonical line) line (written_is line formed))) (go (refusal_of_line state (Some line)))
  where
    go : (r : Option ErrorCode) → P (turn_of (Some line) r state)
    go (Some code) = refuses code
    go None =
        subst
        (λ (n : Option CommandName).
        P (turn_by_command line.name (id_of line) (option_map (command_as line) n) state))
        (sym called) does

turned_by : (state : State) (line : Line) (name : CommandName) → IsWellFormed line → name_of line.name ≡ Some name
    → (performed line.name (id_of line) (request_of name line) state).next ≡ state
    → (turn state (canonical line)).next ≡ state
turned_by state line name formed called stays =
    turned_to (λ (t : Turn). t.next ≡ state) state line name formed called (λ code. refl) stays

stack_name : IsName (text_of StackGet)
stack_name = (each_of (text_of StackGet) refl, omega arith, omega arith)

names_name : IsName (text_of ContextNames)
names_name = (each_of (text_of ContextNames) refl, omega arith, omega arith)

context_name : IsName (text_of ContextGet)
context_name = (each_of (text_of ContextGet) refl, omega arith, omega arith)

property_name : IsName (text_of PropertyGet)
property_name = (each_of (text_of PropertyGet) refl, omega arith, omega arith)

pub stack_stays : (state : State) → (turn state (canonical stack_line)).next ≡ state
unfolding request_of
stack_stays state =
    turned_by state stack_line StackGet (record { name = stack_name; letters = (refl, tt); payload = tt })
    (named StackGet) refl

pub frame_stays : (state : State) (level : ℕ) → (turn state (canonical (frame_line level))).next ≡ state
unfolding request_of
frame_stays state level =
    turned_by state (frame_line level) StackGet
    (record { name = stack_name; letters = (refl, (refl, tt)); payload = tt }) (named StackGet) refl

pub contexts_stay : (state : State) → (turn state (canonical contexts_line)).next ≡ state
unfolding request_of
contexts_stay state =
    turned_by state contexts_line ContextNames (record { name = names_name; letters = (refl, tt); payload = tt })
    (named ContextNames) refl

look_stays : (state : State) (name : Option (List ℕ)) (place : Place)
    → (turn state (canonical (look_line name place))).next ≡ state
unfolding request_of
look_stays state None place =
    turned_by state (look_line None place) ContextGet
    (record { name = context_name; letters = (refl, (refl, (refl, tt))); payload = tt }) (named ContextGet) refl
look_stays state (Some name) place =
    turned_by state (look_line (Some name) place) PropertyGet
    (record { name = property_name; letters = (refl, (refl, (refl, (refl, tt)))); payload = tt }) (named PropertyGet)
    refl

pub place_stays : (state : State) (place : Place) → (turn state (canonical (place_line place))).next ≡ state
place_stays state place = look_stays state place.name place
