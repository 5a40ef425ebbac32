-- What the lines of the gateway lead to in its session.
use Rattle.std.proofs.Common.{◌≡◌, ℕ, Bool, true, false, List, [], ◌∷◌, Option, Some, None, refl, sym, subst, ap, arith, option_map, codes}
use Rattle.std.specs.Prelude.{IfSome}
use Rattle.std.specs.List.{list_all}
use Rattle.std.proofs.lemmas.Bool.{and_parts}
use Rattle.base64.specs.GeneralPurpose.{IsBytes}
use Rattle.dp_break.specs.Tables.{Table}
use Rattle.dp_command.specs.declared.command.Continuation.{Continuation}
use Rattle.dp_command.specs.declared.command.Continuation.TheVariants as going
use Rattle.dp_command.specs.declared.line.Line.{Line}
use Rattle.dp_command.specs.declared.names.CommandName.{CommandName}
use Rattle.dp_command.specs.declared.names.CommandName.TheVariants.{BreakpointRemove, BreakpointSet, Detach, FeatureSet, Run, StepInto, StepOut, StepOver, Stop}
use Rattle.dp_command.specs.Canonical.{canonical, IsWellFormed}
use Rattle.dp_command.specs.Commands.{command_as, request_of}
use Rattle.dp_command.specs.Names.{name_of, text_of}
use Rattle.dp_command.specs.Refusals.{id_of}
use Rattle.dp_command.specs.Sorts.{Each, is_name_byte}
use Rattle.dp_command.proofs.LineLaws.{line_again}
use Rattle.dp_command.proofs.Spellings.{named}
use Rattle.dp_command.proofs.Written.{written_is}
use Rattle.dp_dap_messages.specs.Lines.{feature_line, finish_line, going_line, remove_line, set_line}
use Rattle.dp_dap_laws.proofs.Leads.{IsSame}
use Rattle.dp_engine.specs.declared.states.Phase.{Phase}
use Rattle.dp_engine.specs.declared.states.Phase.TheVariants.{Starting, Break, Stopping}
use Rattle.dp_engine.specs.Answers.{continued, gone_on, moved, performed, turn, turn_by_command, turn_of}
use Rattle.dp_engine.specs.Refusals.{refusal_of_line}
use Rattle.dp_engine.specs.Session.{State, breaks_of, output_by, stop_of}
use Rattle.dp_features.specs.Features.{Features}
use Rattle.dp_packet.specs.declared.error_codes.ErrorCode.{ErrorCode}
use Rattle.dp_packet.specs.Parts.{Text}

-- ---- a line that is spelt is taken as what it is

each_of : (text : List ℕ) → list_all is_name_byte text ≡ true → Each is_name_byte text
each_of [] e = tt
each_of (b ∷ t) e =
    let both = and_parts (is_name_byte b) (list_all is_name_byte t) e in (both.0, each_of t both.1)

-- it is done, or refused, which changes nothing
turned_to : (Holds : State → Type 0) (state : State) (line : Line) (name : CommandName) → IsWellFormed line
    → name_of line.name ≡ Some name → Holds state
    → Holds (performed line.name (id_of line) (request_of name line) state).next
    → Holds (turn state (canonical line)).next
unfolding turn
turned_to Holds state line name formed called stays done =
    subst (λ (l : Option Line). Holds (turn_of l (refusal_of_line state l) state).next)
    (sym (line_again (canonical line) line (written_is line formed))) (go (refusal_of_line state (Some line)))
  where
    go : (r : Option ErrorCode) → Holds (turn_of (Some line) r state).next
    go (Some code) = stays
    go None =
        subst
        (λ (n : Option CommandName).
        Holds (turn_by_command line.name (id_of line) (option_map (command_as line) n) state).next)
        (sym called) done

-- ---- what changes nothing of the output

unchanged : (state : State) → IsSame state state
unchanged state = record { output = refl; writes = refl }

featured : (state : State) (features : Features) → IsSame state (record state { features = features })
featured state features = record { output = by state.phase; writes = refl } where
  by : (phase : Phase) → output_by phase (record state { features = features }) ≡ output_by phase state
  by Starting = refl
  by Break = refl
  by Stopping = refl

holding : (state : State) (breaks : Table) → IsSame state (record state { breaks = breaks })
holding state breaks = record { output = by state.phase; writes = refl } where
  by : (phase : Phase) → output_by phase (record state { breaks = breaks }) ≡ output_by phase state
  by Starting = refl
  by Break = refl
  by Stopping = refl

pub feature_same : (state : State) (feature : List ℕ)
    → IsSame state (turn state (canonical (feature_line feature))).next
unfolding request_of
feature_same state feature =
    turned_to (IsSame state) state (feature_line feature) FeatureSet (record {
      name = (each_of (text_of FeatureSet) refl, omega arith, omega arith);
      letters = (refl, (refl, (refl, tt)));
      payload = tt;
    }) (named FeatureSet) (unchanged state) (featured state _)

pub remove_same : (state : State) (id : ℕ) → IsSame state (turn state (canonical (remove_line id))).next
unfolding request_of
remove_same state id =
    turned_to (IsSame state) state (remove_line id) BreakpointRemove (record {
      name = (each_of (text_of BreakpointRemove) refl, omega arith, omega arith);
      letters = (refl, (refl, tt));
      payload = tt;
    }) (named BreakpointRemove) (unchanged state) (holding state _)

set_formed : (path : List ℕ) (line : ℕ) (hits : Option ℕ) (condition : Option (List ℕ)) → IfSome condition IsBytes
    → IsWellFormed (set_line path line hits condition)
set_formed path line None condition bytes = record {
  name = (each_of (text_of BreakpointSet) refl, omega arith, omega arith);
  letters = (refl, (refl, (refl, (refl, tt))));
  payload = bytes;
}
set_formed path line (Some n) condition bytes = record {
  name = (each_of (text_of BreakpointSet) refl, omega arith, omega arith);
  letters = (refl, (refl, (refl, (refl, (refl, (refl, tt))))));
  payload = bytes;
}

pub set_same : (state : State) (path : List ℕ) (line : ℕ) (hits : Option ℕ) (condition : Option (List ℕ))
    → IfSome condition IsBytes → IsSame state (turn state (canonical (set_line path line hits condition))).next
unfolding request_of
set_same state path line hits condition bytes =
    turned_to (IsSame state) state (set_line path line hits condition) BreakpointSet
    (set_formed path line hits condition bytes) (named BreakpointSet) (unchanged state) (holding state _)

pub finish_same : (state : State) (detaches : Bool)
    → IsSame state (turn state (canonical (finish_line detaches))).next
unfolding request_of
finish_same state true =
    turned_to (IsSame state) state (finish_line true) Detach (record {
      name = (each_of (text_of Detach) refl, omega arith, omega arith);
      letters = (refl, tt);
      payload = tt;
    }) (named Detach) (unchanged state) (unchanged state)
finish_same state false =
    turned_to (IsSame state) state (finish_line false) Stop (record {
      name = (each_of (text_of Stop) refl, omega arith, omega arith);
      letters = (refl, tt);
      payload = tt;
    }) (named Stop) (unchanged state) (unchanged state)

-- ---- going on

gone_keeps : (mode : Continuation) (state : State) → (gone_on mode state).writes ≡ state.writes
gone_keeps mode state = by (stop_of mode state) where
  by : (stop : Option ℕ) → (moved (record state { breaks = breaks_of mode state }) stop).writes ≡ state.writes
  by None = refl
  by (Some n) = refl

continued_keeps : (command id : Text) (mode : Continuation) (phase : Phase) (state : State)
    → (continued command id mode phase state).next.writes ≡ state.writes
continued_keeps command id mode Starting state = gone_keeps mode state
continued_keeps command id mode Break state = gone_keeps mode state
continued_keeps command id mode Stopping state = refl

run_formed : IsWellFormed (going_line going.Run)
run_formed = record {
  name = (each_of (codes "run") refl, omega arith, omega arith);
  letters = (refl, tt);
  payload = tt;
}

-- no write is accepted
pub going_keeps : (mode : Continuation) (state : State)
    → (turn state (canonical (going_line mode))).next.writes ≡ state.writes
unfolding request_of
going_keeps going.Run state =
    turned_to (λ (s : State). s.writes ≡ state.writes) state (going_line going.Run) Run run_formed (named Run) refl
    (continued_keeps (codes "run") (id_of (going_line going.Run)) going.Run state.phase state)
going_keeps going.StepInto state =
    turned_to (λ (s : State). s.writes ≡ state.writes) state (going_line going.StepInto) StepInto (record {
      name = (each_of (codes "step_into") refl, omega arith, omega arith);
      letters = (refl, tt);
      payload = tt;
    }) (named StepInto) refl
    (continued_keeps (codes "step_into") (id_of (going_line going.StepInto)) going.StepInto state.phase state)
going_keeps going.StepOver state =
    turned_to (λ (s : State). s.writes ≡ state.writes) state (going_line going.StepOver) StepOver (record {
      name = (each_of (codes "step_over") refl, omega arith, omega arith);
      letters = (refl, tt);
      payload = tt;
    }) (named StepOver) refl
    (continued_keeps (codes "step_over") (id_of (going_line going.StepOver)) going.StepOver state.phase state)
going_keeps going.StepOut state =
    turned_to (λ (s : State). s.writes ≡ state.writes) state (going_line going.StepOut) StepOut (record {
      name = (each_of (codes "step_out") refl, omega arith, omega arith);
      letters = (refl, tt);
      payload = tt;
    }) (named StepOut) refl
    (continued_keeps (codes "step_out") (id_of (going_line going.StepOut)) going.StepOut state.phase state)

-- once the program has ended, one run more leaves the session as it is
pub run_over : (state : State) → state.phase ≡ Stopping
    → (turn state (canonical (going_line going.Run))).next ≡ state
unfolding request_of
run_over state over =
    turned_to (λ (s : State). s ≡ state) state (going_line going.Run) Run run_formed (named Run) refl
    (ap (λ (p : Phase). (continued (codes "run") (id_of (going_line going.Run)) going.Run p state).next) over)
