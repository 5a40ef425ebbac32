-- Lines that a session takes one behind the other and that do not end it: where they lead to, and what the program
-- writes meanwhile.
use Rattle.std.proofs.Common.{◌≡◌, ◌⊎◌, ℕ, List, [], ◌∷◌, ◌++◌, length, drop, Option, None, Some, refl, sym, ap, ◌∙◌, subst, inl, inr, append_assoc, append-nil}
use Rattle.std.proofs.Math.Seq.{drop-length}
use Rattle.dp_command.specs.declared.command.Command.{Command}
use Rattle.dp_command.specs.declared.command.Finish.TheVariants.{Stop, Detach}
use Rattle.dp_command.specs.declared.command.Request.{Request}
use Rattle.dp_command.specs.declared.command.Request.TheVariants.{Session, Breakpoints, Look, Write}
use Rattle.dp_command.specs.declared.command.SessionRequest.{SessionRequest}
use Rattle.dp_command.specs.declared.command.SessionRequest.TheVariants as request
use Rattle.dp_command.specs.declared.command.Stream.TheVariants.{Stdout, Stderr}
use Rattle.dp_command.specs.declared.line.Line.{Line}
use Rattle.dp_command.specs.Commands.{command_of}
use Rattle.dp_command.specs.Lines.{line_of}
use Rattle.dp_command.specs.Refusals.{id_of}
use Rattle.dp_conversation.specs.Folds.{Reply, replies, unless_ended}
use Rattle.dp_engine.specs.declared.session.SessionEnd.{SessionEnd}
use Rattle.dp_engine.specs.declared.session.SessionEnd.TheVariants.{Finished, Killed, Detached}
use Rattle.dp_engine.specs.declared.states.Phase.{Phase}
use Rattle.dp_engine.specs.declared.states.Phase.TheVariants.{Starting, Break, Stopping}
use Rattle.dp_engine.specs.Answers.{Turn, answer, continued, performed, session_done, turn, turn_by_command, turn_of}
use Rattle.dp_engine.specs.Refusals.{refusal_of_line}
use Rattle.dp_engine.specs.Served.{ending_after, rest_after}
use Rattle.dp_engine.specs.Session.{State, opening, outcome_of, output_so_far, unwritten, written_between}
use Rattle.dp_meaning.specs.declared.writes.NumberedWrite.{NumberedWrite}
use Rattle.dp_packet.specs.declared.error_codes.ErrorCode.{ErrorCode}
use Rattle.dp_packet.specs.Parts.{Text}
use Rattle.dp_session_laws.specs.AllOutput.{IsRunWith, all_output_with, writing}
use Rattle.dp_session_laws.proofs.WatchedRuns.{is_run}
use Rattle.dp_state.specs.declared.moments.Outcome.{Outcome}
use Rattle.dp_tree.specs.declared.bundle.Bundle.{Bundle}

-- ---- a line that ends a session leaves it as it is

abbrev EndsNotOrStays : Turn → State → Type 0
EndsNotOrStays taken state = (taken.ended ≡ None) ⊎ (taken.next ≡ state)

session_ends : (command id : Text) (r : SessionRequest) (state : State)
    → EndsNotOrStays (session_done command id r state) state
session_ends command id (request.Continue mode) state = by state.phase where
  by : (phase : Phase) → EndsNotOrStays (continued command id mode phase state) state
  by Starting = inl refl
  by Break = inl refl
  by Stopping = inr refl
session_ends command id (request.Finish Stop) state = inr refl
session_ends command id (request.Finish Detach) state = inr refl
session_ends command id (request.Redirect Stdout mode) state = inl refl
session_ends command id (request.Redirect Stderr mode) state = inl refl
session_ends command id r state = inl refl

done_ends : (command id : Text) (r : Request) (state : State) → EndsNotOrStays (performed command id r state) state
done_ends command id (Session r) state = session_ends command id r state
done_ends command id (Breakpoints r) state = inl refl
done_ends command id (Look r) state = inl refl
done_ends command id (Write r) state = inl refl

turn_of_ends : (line : Option Line) (code : Option ErrorCode) (state : State)
    → EndsNotOrStays (turn_of line code state) state
turn_of_ends line (Some code) state = inl refl
turn_of_ends None None state = inl refl
turn_of_ends (Some line) None state = by (command_of line) where
  by : (command : Option Command) → EndsNotOrStays (turn_by_command line.name (id_of line) command state) state
  by None = inl refl
  by (Some c) = done_ends line.name c.id c.request state

turn_ends : (state : State) (bytes : List ℕ) → EndsNotOrStays (turn state bytes) state
unfolding turn
turn_ends state bytes = turn_of_ends (line_of bytes) (refusal_of_line state (line_of bytes)) state

-- ---- lines one behind the other

-- none of these lines ends the session; they lead to this one, and the program writes this
abbrev pub Leads : State → List (List ℕ) → State → List ℕ → Type 0
Leads state [] next written = (next ≡ state) × (written ≡ [])
Leads state (line ∷ lines) next written =
    (later : List ℕ) × ((answer state line).ended ≡ None)
    × (written ≡ written_between state (answer state line).state ++ later)
    × Leads (answer state line).state lines next later

nothing_between : (state next : State) → output_so_far next ≡ output_so_far state → written_between state next ≡ []
nothing_between state next same =
    ap (drop (length (output_so_far state))) same ∙ drop-length (output_so_far state)

-- a line leads where its turn does: one that ends the session need not be taken
pub leads_one : (state : State) (bytes : List ℕ) → (lines : List (List ℕ))
    × Leads state lines (turn state bytes).next (written_between state (turn state bytes).next)
unfolding answer
leads_one state bytes = by (turn_ends state bytes) where
  by : EndsNotOrStays (turn state bytes) state → (lines : List (List ℕ))
      × Leads state lines (turn state bytes).next (written_between state (turn state bytes).next)
  by (inl none) =
      (bytes ∷ [], ([], none, sym (append-nil (written_between state (turn state bytes).next)), (refl, refl)))
  by (inr stays) = ([], (stays, nothing_between state (turn state bytes).next (ap output_so_far stays)))

pub leads_both : (a : State) (ls : List (List ℕ)) (b : State) (v : List ℕ) (ms : List (List ℕ)) (c : State)
    (w : List ℕ) → Leads a ls b v → Leads b ms c w → Leads a (ls ++ ms) c (v ++ w)
leads_both a [] b v ms c w h k =
    subst (λ (s : State). Leads s ms c (v ++ w)) h.0
    (subst (λ (x : List ℕ). Leads b ms c (x ++ w)) (sym h.1) k)
leads_both a (line ∷ ls) b v ms c w h k = (
  h.0 ++ w,
  h.1,
  ap (λ (x : List ℕ). x ++ w) h.2 ∙ append_assoc (written_between a (answer a line).state) h.0 w,
  leads_both (answer a line).state ls b h.0 ms c w h.3 k,
)

-- ---- what they come to over the whole session

record AreReplied (first : State) (lines : List (List ℕ)) (next : State) (written : List ℕ) : Type 0 where
  state : (replies writing first lines).state ≡ next
  program : (replies writing first lines).program ≡ written
  ended : (replies writing first lines).ended ≡ None
  known : (replies answer first lines).state ≡ next
  over : (replies answer first lines).ended ≡ None

replied_by : (state : State) (lines : List (List ℕ)) (next : State) (written : List ℕ)
    → Leads state lines next written → AreReplied state lines next written
replied_by state [] next written h =
    record { state = sym h.0; program = sym h.1; ended = refl; known = sym h.0; over = refl }
replied_by state (line ∷ lines) next written h =
    let later = replied_by (answer state line).state lines next h.0 h.3 in
    let first = writing state line in
    let rest = replies writing (answer state line).state lines in
    let more = replies answer (answer state line).state lines in
    let whole : unless_ended (answer state line).ended first rest ≡ unless_ended None first rest =
    ap (λ (o : Option SessionEnd). unless_ended o first rest) h.1 in
    let all : unless_ended (answer state line).ended (answer state line) more
    ≡ unless_ended None (answer state line) more =
    ap (λ (o : Option SessionEnd). unless_ended o (answer state line) more) h.1 in
    record {
      state = ap (λ (r : Reply State SessionEnd). r.state) whole ∙ later.state;
      program =
          ap (λ (r : Reply State SessionEnd). r.program) whole
          ∙ ap (λ (x : List ℕ). written_between state (answer state line).state ++ x) later.program ∙ sym h.2;
      ended = ap (λ (r : Reply State SessionEnd). r.ended) whole ∙ later.ended;
      known = ap (λ (r : Reply State SessionEnd). r.state) all ∙ later.known;
      over = ap (λ (r : Reply State SessionEnd). r.ended) all ∙ later.over;
    }

module _ (bundle : Bundle) (bound : ℕ) where
  -- from the opening on, what was written and what is still to be written is the run with the writes
  whole_run : (lines : List (List ℕ)) (next : State) (written : List ℕ)
      → Leads (opening bundle bound) lines next written
      → IsRunWith bundle bound next.writes (written ++ unwritten next) (Some (outcome_of next))
  whole_run lines next written h =
      let r = replied_by (opening bundle bound) lines next written h in
      let wrote : all_output_with bundle bound lines ≡ written ++ unwritten next =
      λ i. r.program i ++ rest_after (r.ended i) (r.state i) in
      let ends : ending_after (replies answer (opening bundle bound) lines).ended
      (replies answer (opening bundle bound) lines).state ≡ Some (outcome_of next) =
      λ i. ending_after (r.over i) (r.known i) in
      subst (λ (e : Option Outcome). IsRunWith bundle bound next.writes (written ++ unwritten next) e) ends
      (subst (λ (o : List ℕ). IsRunWith bundle bound next.writes o
      (ending_after (replies answer (opening bundle bound) lines).ended
      (replies answer (opening bundle bound) lines).state)) wrote
      (subst (λ (w : List NumberedWrite). IsRunWith bundle bound w (all_output_with bundle bound lines)
      (ending_after (replies answer (opening bundle bound) lines).ended
      (replies answer (opening bundle bound) lines).state)) (ap (λ (s : State). s.writes) r.known)
      (is_run bundle bound lines)))

  -- however it ends
  ended_run : (ended : Option SessionEnd) (next : State) (written : List ℕ)
      → IsRunWith bundle bound next.writes (written ++ unwritten next) (Some (outcome_of next))
      → IsRunWith bundle bound next.writes (written ++ rest_after ended next) (ending_after ended next)
  ended_run None next written h = h
  ended_run (Some Detached) next written h = h
  ended_run (Some (Finished o)) next written h = h
  ended_run (Some Killed) next written h =
      (unwritten next, sym h.0 ∙ ap (λ (x : List ℕ). x ++ unwritten next) (sym (append-nil written)))

  pub leads_run : (lines : List (List ℕ)) (ended : Option SessionEnd) (next : State) (written : List ℕ)
      → Leads (opening bundle bound) lines next written
      → IsRunWith bundle bound next.writes (written ++ rest_after ended next) (ending_after ended next)
  leads_run lines ended next written h = ended_run ended next written (whole_run lines next written h)

-- ---- lines in which the program writes nothing

-- the program has written the same, and the same writes were accepted
pub record IsSame (old new : State) : Type 0 where
  pub output : output_so_far new ≡ output_so_far old
  pub writes : new.writes ≡ old.writes

-- lines lead there, the program writes nothing, and no write is accepted
pub record Quiet (old new : State) : Type 0 where
  pub lines : List (List ℕ)
  pub leads : Leads old lines new []
  pub writes : new.writes ≡ old.writes

pub quiet_none : (state : State) → Quiet state state
quiet_none state = record { lines = []; leads = (refl, refl); writes = refl }

pub quiet_one : (state : State) (bytes : List ℕ) → IsSame state (turn state bytes).next
    → Quiet state (turn state bytes).next
quiet_one state bytes same =
    let one = leads_one state bytes in
    record {
      lines = one.0;
      leads = subst (λ (w : List ℕ). Leads state one.0 (turn state bytes).next w)
          (nothing_between state (turn state bytes).next same.output) one.1;
      writes = same.writes;
    }

pub quiet_both : (a b c : State) → Quiet a b → Quiet b c → Quiet a c
quiet_both a b c h k = record {
  lines = h.lines ++ k.lines;
  leads = leads_both a h.lines b [] k.lines c [] h.leads k.leads;
  writes = k.writes ∙ h.writes;
}
