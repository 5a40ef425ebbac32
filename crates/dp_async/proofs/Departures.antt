-- What a session that listens gives of a line, and where it stands then.
use Rattle.std.proofs.Common.{◌≡◌, ℕ, ◌+◌, ◌≤◌, true, false, List, [], ◌∷◌, ◌++◌, length, Option, Some, None, refl, sym, subst, ◌∙◌, append-nil, inl, inr}
use Rattle.std.specs.Prelude.{is_some, option_map}
use Rattle.dp_command.specs.declared.line.Line.{Line}
use Rattle.dp_command.specs.Lines.{line_of}
use Rattle.dp_packet.specs.declared.packet.Response.{Response}
use Rattle.dp_packet.specs.Parts.{Text}
use Rattle.dp_wire.specs.Frames.{BeginsCommand}
use Rattle.dp_conversation.specs.declared.link.SessionOver.{SessionOver}
use Rattle.dp_conversation.specs.declared.responder.Answer.{Answer}
use Rattle.dp_conversation.specs.Folds.{Reply, reply_of}
use Rattle.dp_engine.specs.declared.passes.Departure.{Departure}
use Rattle.dp_engine.specs.declared.passes.Departure.TheVariants.{Answered as AnsweredWith, Goes as SetsOutWith}
use Rattle.dp_engine.specs.declared.passes.Going.{Going}
use Rattle.dp_engine.specs.declared.session.SessionEnd.{SessionEnd}
use Rattle.dp_engine.specs.Answers.{answer as answer_to, sent, turn, turn_of}
use Rattle.dp_engine.specs.Passes.{Departs as DepartsWith, SetsOut, departing}
use Rattle.dp_engine.specs.Refusals.{refusal_of_line}
use Rattle.dp_engine.specs.Responses.{response_text}
use Rattle.dp_engine.specs.Session.{State}
use Rattle.dp_async.specs.declared.arrival.Arrival.{Arrival}
use Rattle.dp_async.specs.Heard.{Answers, AnswersOwn, Departs, Heard, IsEnded as EndedBy, SetOut, on_its_way, standing, with_reply}
use Rattle.dp_async.specs.Listens.{own_response}
use Rattle.dp_async.specs.declared.listener.Listener.{Listener}
use Rattle.dp_async.specs.inner.Standing.{DepartsAt, HeldAnswered, IsDue, Obeyed, StandsAt, AnswerIsDue, AnswerLeads, Objects, Start, IsAt, with_answer}
use Rattle.dp_async.proofs.Turns.{rest_within, stands_as}

-- what every session answers to the line of these bytes
pub answer_is : (state : State) (bytes : List ℕ)
    → sent state (turn_of (line_of bytes) (refusal_of_line state (line_of bytes)) state) ≡ answer_to state bytes
unfolding answer_to turn
answer_is state bytes = refl

-- the texts of a response that is or is not there
none_of : (r : Option Response) → None ≡ option_map response_text r → r ≡ None
none_of None e = refl
none_of (Some r) e = absurd cc

some_of : (r : Option Response) (text : Text) → Some text ≡ option_map response_text r
    → (x : Response) × (r ≡ Some x) × (text ≡ response_text x)
some_of None text e = absurd cc
some_of (Some r) text e = (r, refl, cc)

-- the session was given the line of these bytes, to which a session that listens has no own response
pub departs_by : (state next : State) (bytes : List ℕ) (line : Option Line) (departure : Departure)
    → line ≡ line_of bytes → None ≡ option_map response_text (own_response line)
    → DepartsWith state line next departure → DepartsAt departure state next bytes
departs_by state next bytes line departure e own d =
    by departure (subst (λ (l : Option Line). DepartsWith state l next departure) e d) where
      own_none : own_response (line_of bytes) ≡ None
      own_none =
          none_of (own_response (line_of bytes))
          (subst (λ (l : Option Line). None ≡ option_map response_text (own_response l)) e own)

      by : (d : Departure) → DepartsWith state (line_of bytes) next d → DepartsAt d state next bytes
      by (SetsOutWith going) g = (own_none, g.0, g.1)
      by (AnsweredWith answer) g = inr (own_none, g.0, g.1 ∙ answer_is state bytes)

-- it has one
pub departs_own : (state next : State) (bytes : List ℕ) (line : Option Line) (text : Text) (answer : Answer SessionEnd)
    → line ≡ line_of bytes → Some text ≡ option_map response_text (own_response line)
    → answer ≡ record { packets = text ∷ []; program = []; ended = None } → next ≡ state
    → DepartsAt (AnsweredWith answer) state next bytes
departs_own state next bytes line text answer e own is same =
    let found =
    some_of (own_response (line_of bytes)) text
    (subst (λ (l : Option Line). Some text ≡ option_map response_text (own_response l)) e own) in
    inl (
      found.0,
      found.1,
      is ∙ (λ i. record { packets = found.2 i ∷ []; program = []; ended = None }),
      same,
    )

-- an answer is due once its command was taken
module _ (start : Start) (log : List Arrival) (count : ℕ) (o : Objects) (state next : State) (moments : ℕ)
    (held line rest now : List ℕ) (stands : IsAt start log (standing None state moments held) count o)
    (begins : BeginsCommand held line rest) (dropped : now ≡ rest) where
  fits_now : length now ≤ count
  fits_now =
      subst (λ (l : List ℕ). length l ≤ count) (sym dropped) (rest_within held line rest count begins stands.fits)

  pub due_departure : (going : Going) → own_response (line_of line) ≡ None → SetsOut state (line_of line) going
      → next ≡ state → IsAt start log (standing (on_its_way going SetOut) next moments now) count o
  due_departure going own sets same = record {
    done = stands.done;
    heard =
        subst (λ (s : State). Heard start.bundle start.bound log stands.done
        (standing (on_its_way going SetOut) s moments now)) (sym same)
        (subst (λ (l : List ℕ). Heard start.bundle start.bound log stands.done
        (standing (on_its_way going SetOut) state moments l)) (sym dropped)
        (Departs stands.heard line rest begins own going sets));
    agrees = stands.agrees;
    counted = stands.counted;
    fits = fits_now;
    reads_on = stands.reads_on;
  }

  -- its own answer
  own_leads : (answer : Answer SessionEnd) (r : Response) → own_response (line_of line) ≡ Some r
      → answer ≡ record { packets = response_text r ∷ []; program = []; ended = None } → next ≡ state
      → AnswerLeads answer.ended start (with_answer answer stands.done) log next moments now
  own_leads answer r own is same =
      subst (λ (a : Answer SessionEnd). AnswerLeads a.ended start (with_answer a stands.done) log next moments now)
      (sym is)
      (subst (λ (s : State). Heard start.bundle start.bound log
      (with_answer (record { packets = response_text r ∷ []; program = []; ended = None }) stands.done)
      (standing None s moments now)) (sym same)
      (subst (λ (l : List ℕ). Heard start.bundle start.bound log
      (with_answer (record { packets = response_text r ∷ []; program = []; ended = None }) stands.done)
      (standing None state moments l)) (sym dropped)
      (subst (λ (p : List ℕ). Heard start.bundle start.bound log
      (record { packets = stands.done.packets ++ response_text r ∷ []; program = p; looks = stands.done.looks })
      (standing None state moments rest)) (sym (append-nil stands.done.program))
      (AnswersOwn stands.heard line rest begins r own))))

  -- or that of every session
  leads_by : (ended : Option SessionEnd) → (answer_to state line).ended ≡ ended
      → own_response (line_of line) ≡ None → departing state (line_of line) ≡ None
      → AnswerLeads ended start (with_reply (answer_to state line) stands.done) log (answer_to state line).state moments
      rest
  leads_by None goes own none = Answers stands.heard line rest begins own none goes
  leads_by (Some end) ends own none = EndedBy stands.heard line rest begins own none end ends

  reply_leads : (answer : Answer SessionEnd) → own_response (line_of line) ≡ None
      → departing state (line_of line) ≡ None → reply_of answer next ≡ answer_to state line
      → AnswerLeads answer.ended start (with_answer answer stands.done) log next moments now
  reply_leads answer own none is =
      subst (λ (r : Reply State SessionEnd). AnswerLeads r.ended start (with_reply r stands.done) log r.state moments
      now) (sym is)
      (subst (λ (l : List ℕ). AnswerLeads (answer_to state line).ended start
      (with_reply (answer_to state line) stands.done) log (answer_to state line).state moments l) (sym dropped)
      (leads_by (answer_to state line).ended refl own none))

  pub due_own : (answer : Answer SessionEnd) (r : Response) → own_response (line_of line) ≡ Some r
      → answer ≡ record { packets = response_text r ∷ []; program = []; ended = None } → next ≡ state
      → AnswerIsDue start answer log next moments now count o
  due_own answer r own is same = record {
    done = stands.done;
    leads = own_leads answer r own is same;
    agrees = stands.agrees;
    counted = stands.counted;
    fits = fits_now;
    reads_on = stands.reads_on refl;
  }

  pub due_reply : (answer : Answer SessionEnd) → own_response (line_of line) ≡ None
      → departing state (line_of line) ≡ None → reply_of answer next ≡ answer_to state line
      → AnswerIsDue start answer log next moments now count o
  due_reply answer own none is = record {
    done = stands.done;
    leads = reply_leads answer own none is;
    agrees = stands.agrees;
    counted = stands.counted;
    fits = fits_now;
    reads_on = stands.reads_on refl;
  }

-- the command at the front was given to the session, and taken
pub due_at : (start : Start) (old new : Listener) (o : Objects) (line rest : List ℕ) (departure : Departure)
    → StandsAt start None old o → BeginsCommand old.held.held line rest → new.held.held ≡ rest
    → new.log.items ≡ old.log.items → new.count ≡ old.count → new.moments ≡ old.moments
    → DepartsAt departure old.session new.session line → IsDue departure start new o
due_at start old new o line rest departure stands begins dropped log count moments gives = by departure gives where
  now : IsAt start new.log.items (standing None old.session new.moments old.held.held) new.count o
  now =
      stands_as start _ _ _ _ _ _ o (sym log) (λ i. standing None old.session (sym moments i) old.held.held)
      (sym count) stands

  by : (d : Departure) → DepartsAt d old.session new.session line → IsDue d start new o
  by (SetsOutWith going) g =
      due_departure start new.log.items new.count o old.session new.session new.moments old.held.held line rest
      new.held.held now begins dropped going g.0 g.1 g.2
  by (AnsweredWith answer) (inl g) =
      due_own start new.log.items new.count o old.session new.session new.moments old.held.held line rest
      new.held.held now begins dropped answer g.0 g.1 g.2 g.3
  by (AnsweredWith answer) (inr g) =
      due_reply start new.log.items new.count o old.session new.session new.moments old.held.held line rest
      new.held.held now begins dropped answer g.0 g.1 g.2

-- it goes on, or is over
pub obeyed_none : (start : Start) (l : Listener) (o : Objects) (reason : Option (SessionOver SessionEnd))
    → is_some reason ≡ false → Obeyed reason start l o → StandsAt start None l o
obeyed_none start l o None none obeyed = obeyed
obeyed_none start l o (Some reason) none obeyed = absurd (let no : true ≡ false = none in cc)

pub obeyed_some : (start : Start) (l : Listener) (o : Objects) (reason : Option (SessionOver SessionEnd))
    → is_some reason ≡ true → Obeyed reason start l o → HeldAnswered reason start l o
obeyed_some start l o None some obeyed = absurd (let no : false ≡ true = some in cc)
obeyed_some start l o (Some reason) some obeyed = obeyed
