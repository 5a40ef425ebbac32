-- What stands where a fault has cut the gateway short, and where a piece was read.
use Rattle.std.proofs.Common.{◌≡◌, ◌≤◌, ℕ, true, List, [], ◌∷◌, ◌++◌, length, Option, None, refl, sym, ap, ◌∙◌, subst, arith, append_assoc, append-nil}
use Rattle.std.proofs.lemmas.Bool.{and_from}
use Rattle.std.specs.List.{flat_map, list_all, AllByRecursion}
use Rattle.std.specs.Io.KnownBytes.{Consumes}
use Rattle.std.proofs.KnownBytes.{Appends-nil, Consumes-trans}
use Rattle.dp_bodies.specs.Frames.{IsBody, body_frame, BeginsBody, IsPartialBody}
use Rattle.dp_conversation.specs.declared.link.Fault.{Fault}
use Rattle.dp_conversation.specs.declared.link.Fault.TheVariants.{Write, Out, Memory}
use Rattle.dp_conversation.specs.Folds.{Reply, replies}
use Rattle.dp_conversation.specs.Service.{AppendsPast, IsLeftIn, byte_limit, piece_limit}
use Rattle.dp_conversation.proofs.FrontLaws.{past_after, past_none, past_same}
use Rattle.dp_conversation.proofs.ServiceLaws.{replies_one}
use Rattle.dp_outside.specs.Changes.{Change, change}
use Rattle.dp_outside.specs.Streams.{AppendsFront}
use Rattle.dp_engine.specs.declared.session.SessionEnd.{SessionEnd}
use Rattle.dp_dap.specs.Dap.{is_request, reply}
use Rattle.dp_dap.specs.Known.{Known}
use Rattle.dp_dap.specs.Service.{IsReadUpTo}
use Rattle.dp_dap.specs.declared.effects.DapAnswer.{DapAnswer}
use Rattle.dp_dap.specs.inner.Effects.{Answers}
use Rattle.dp_dap.specs.inner.Exchanges.{Answered, Cut, CutsHeld, SendsNot, sent_of}
use Rattle.dp_dap.proofs.ServiceLaws.{answered_fed, each_joined, ended_with, frames_joined, joins, requests_joined}

-- the state after a fault is that of the reply to the bodies taken
left_in : (why : Fault SessionEnd) (after state : Known) → after ≡ state → IsLeftIn why after state
left_in (Write ended) after state same = same
left_in Out after state same = same
left_in Memory after state same = tt

left_joined : (why : Fault SessionEnd) (all after state : Known) → all ≡ after → IsLeftIn why after state
    → IsLeftIn why all state
left_joined (Write ended) all after state same is = same ∙ is
left_joined Out all after state same is = same ∙ is
left_joined Memory all after state same is = tt

-- the cause of a fault, where other faults may have come before
cause_joined : (why : Fault SessionEnd) (all ended : Option SessionEnd) (a b c : ℕ) → all ≡ ended → a ≤ b
    → SendsNot why ended b c → SendsNot why all a c
cause_joined (Write seen) all ended a b c same later by = (by.0 ∙ sym same, omega (arith, by.1, later))
cause_joined Out all ended a b c same later by = absurd by
cause_joined Memory all ended a b c same later by = tt

-- ---- a piece was read

-- What was read ends with this piece, before which part of a body was held and no request had ended the gateway.
pub read_up_to : (start now : Known) (front held piece read : List ℕ) (sink : Change)
    → (a : Answered start now front held sink) → ended_with start a.texts ≡ None → IsPartialBody held
    → read ≡ front ++ piece → length piece ≤ piece_limit
    → (up_to : IsReadUpTo start read) × (up_to.before ≡ a.texts)
read_up_to start now front held piece read sink a goes_on partial whole short = (
  record {
    front = front;
    piece = piece;
    whole = whole;
    short = short;
    before = a.texts;
    left = held;
    framed = record { whole = a.whole; each = a.are_bodies };
    sound = record { requests = a.are_requests; partial = partial };
    goes_on = goes_on;
  },
  refl,
)

module _ {X : Type 0} (told : X → Option (List ℕ)) (faults : X → ℕ) where
  -- ---- a fault

  -- memory ran out before a body was answered
  pub cut_before : (start now : Known) (held : List ℕ) (x : X)
      → CutsHeld start now held Memory (change told faults x x)
  cut_before start now held x = record {
    done = [];
    last = [];
    behind = held;
    are_bodies = tt;
    are_requests = refl;
    one = omega arith;
    whole = refl;
    state = tt;
    sent = (0, omega arith, Appends-nil (told x));
    by = tt;
  }

  -- a fault came while the answer to this body was sent
  pub cut_within : (state now : Known) (held text rest : List ℕ) (why : Fault SessionEnd) (answer : DapAnswer)
      (x0 x1 : X)
      → BeginsBody held text rest → is_request text ≡ true → Answers (reply state text) answer now
      → AppendsFront (told x0) (told x1) (flat_map body_frame answer.messages)
      → SendsNot why answer.ended (faults x0) (faults x1)
      → CutsHeld state now held why (change told faults x0 x1)
  cut_within state now held text rest why answer x0 x1 begins is answers front by =
      let one = replies_one reply state text ∙ answers in
      record {
        done = [];
        last = text ∷ [];
        behind = rest;
        are_bodies = (begins.is_text, tt);
        are_requests = and_from _ _ is refl;
        one = omega arith;
        whole = begins.whole ∙ ap (λ l. l ++ rest) (sym (append-nil (body_frame text)));
        state = left_in why _ now (ap (λ (r : Reply Known SessionEnd). r.state) one);
        sent =
            subst (λ (r : Reply Known SessionEnd). AppendsPast (told x0) (told x1) [] (flat_map body_frame r.packets))
            (sym one) (past_none (told x0) (told x1) _ front);
        by =
            subst (λ (r : Reply Known SessionEnd). SendsNot why r.ended (faults x0) (faults x1)) (sym one) by;
      }

  -- first bodies were answered whole
  pub cut_after : (start state now : Known) (before held : List ℕ) (why : Fault SessionEnd) (x0 x1 x2 : X)
      → (a : Answered start state before held (change told faults x0 x1)) → ended_with start a.texts ≡ None
      → faults x0 ≤ faults x1 → (c : CutsHeld state now held why (change told faults x1 x2))
      → (all : CutsHeld start now before why (change told faults x0 x2)) × (all.done ≡ a.texts ++ c.done)
  cut_after start state now before held why x0 x1 x2 a goes_on later c =
      let taken = c.done ++ c.last in
      let texts_are : (a.texts ++ c.done) ++ c.last ≡ a.texts ++ taken = append_assoc a.texts c.done c.last in
      let first = joins start state a.texts c.done goes_on a.state in
      let all = joins start state a.texts taken goes_on a.state in (
        record {
          done = a.texts ++ c.done;
          last = c.last;
          behind = c.behind;
          are_bodies =
              subst (AllByRecursion IsBody) (sym texts_are)
              (each_joined IsBody a.texts taken a.are_bodies c.are_bodies);
          are_requests =
              ap (list_all is_request) texts_are ∙ requests_joined a.texts taken a.are_requests c.are_requests;
          one = c.one;
          whole =
              a.whole ∙ ap (λ l. flat_map body_frame a.texts ++ l) c.whole
              ∙ sym (frames_joined a.texts taken c.behind)
              ∙ ap (λ l. flat_map body_frame l ++ c.behind) (sym texts_are);
          state =
              left_joined why _ _ now
              (ap (λ (l : List (List ℕ)). (replies reply start l).state) texts_are ∙ all.state) c.state;
          sent =
              past_same (told x0) (told x2) _ _ _ _ first.sent (ap (sent_of start) texts_are ∙ all.sent)
              (past_after (told x0) (told x1) (told x2) (sent_of start a.texts) (sent_of state c.done)
              (sent_of state taken) a.sent c.sent);
          by =
              cause_joined why _ _ (faults x0) (faults x1) (faults x2)
              (ap (ended_with start) texts_are ∙ all.ended) later c.by;
        },
        refl,
      )

  -- ---- over the link

  module _ {W : Type 0} (left : W → Option (List ℕ)) (breaks : W → ℕ) where
    -- a piece was read, and a fault came while the bodies then held were answered
    pub cut_answering : (start state now : Known) (read held fed piece : List ℕ) (why : Fault SessionEnd)
        (w0 w1 w2 : W) (x0 x1 x2 : X)
        → (a : Answered start state read held (change told faults x0 x1)) → ended_with start a.texts ≡ None
        → IsPartialBody held → Consumes (left w0) (left w1) read → Consumes (left w1) (left w2) piece
        → fed ≡ held ++ piece → length (read ++ piece) ≤ byte_limit → length piece ≤ piece_limit
        → faults x0 ≤ faults x1 → CutsHeld state now fed why (change told faults x1 x2)
        → Cut start now why (change left breaks w0 w2) (change told faults x0 x2)
    cut_answering start state now read held fed piece why w0 w1 w2 x0 x1 x2 a goes_on partial consumed came is_fed
        within short later c =
        let up_to = read_up_to start state read held piece (read ++ piece) (change told faults x0 x1) a goes_on partial
        refl short in
        let more = answered_fed start state read held piece (change told faults x0 x1) a in
        let late = subst (λ (l : List ℕ). CutsHeld state now l why (change told faults x1 x2)) is_fed c in
        let cut = cut_after start state now (read ++ piece) (held ++ piece) why x0 x1 x2 more.0
        (ap (ended_with start) more.1 ∙ goes_on) later late in
        record {
          read = read ++ piece;
          within = within;
          up_to = up_to.0;
          consumed = Consumes-trans (left w0) (left w1) (left w2) read piece consumed came;
          short = cut.0;
          lately = late.done;
          behind = cut.1 ∙ ap (λ (l : List (List ℕ)). l ++ late.done) (more.1 ∙ sym up_to.1);
        }

    -- a piece was read, and memory ran out before it was held
    pub cut_reading : (start now : Known) (read held piece : List ℕ) (w0 w1 w2 : W) (x0 x1 : X)
        → (a : Answered start now read held (change told faults x0 x1)) → ended_with start a.texts ≡ None
        → IsPartialBody held → Consumes (left w0) (left w1) read → Consumes (left w1) (left w2) piece
        → length (read ++ piece) ≤ byte_limit → length piece ≤ piece_limit → faults x0 ≤ faults x1
        → Cut start now Memory (change left breaks w0 w2) (change told faults x0 x1)
    cut_reading start now read held piece w0 w1 w2 x0 x1 a goes_on partial consumed came within short later =
        cut_answering start now now read held (held ++ piece) piece Memory w0 w1 w2 x0 x1 x1 a goes_on partial consumed
        came refl within short later (cut_before now now (held ++ piece) x1)
