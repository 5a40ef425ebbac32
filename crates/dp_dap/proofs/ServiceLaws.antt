-- What the gateway has come to over a link, one body and one piece at a time.
use Rattle.std.proofs.Common.{◌≡◌, ◌<◌, ◌≤◌, ◌+◌, ℕ, true, false, cond, min, List, [], ◌∷◌, ◌++◌, length, take, get_or, Option, None, arith, length-append, refl, sym, ap, ◌∙◌, subst, append_assoc, append-nil}
use Rattle.std.specs.List.{flat_map, list_all, take_while, AllByRecursion}
use Rattle.std.specs.Io.KnownBytes.{Appends}
use Rattle.std.proofs.KnownBytes.{Appends-nil, Appends-trans}
use Rattle.std.proofs.lemmas.Bool.{and_from, and_parts}
use Rattle.std.proofs.lemmas.List.{take_more}
use Rattle.std.proofs.lemmas.List.Concat.{flat_map-append}
use Rattle.std.proofs.lemmas.List.Folds.{list_all-append}
use Rattle.std.proofs.lemmas.List.Sums.{take_while-cons}
use Rattle.dp_bodies.specs.Frames.{IsBody, body_frame, head, BeginsBody}
use Rattle.dp_wire.specs.Received.{Received, last_place}
use Rattle.dp_conversation.specs.Service.{byte_limit}
use Rattle.dp_conversation.specs.Folds.{Reply, followed, replies}
use Rattle.dp_conversation.proofs.ServiceLaws.{followed_open, replies_append, replies_one}
use Rattle.dp_outside.specs.Changes.{Change, change}
use Rattle.dp_engine.specs.declared.session.SessionEnd.{SessionEnd}
use Rattle.dp_dap.specs.Dap.{is_request, reply}
use Rattle.dp_dap.specs.Known.{Known}
use Rattle.dp_dap.specs.declared.effects.DapAnswer.{DapAnswer}
use Rattle.dp_dap.specs.inner.Effects.{Answers}
use Rattle.dp_dap.specs.inner.Exchanges.{Answered, sent_of}

-- ---- what bodies come to

-- how the gateway has ended with these bodies, if it has
abbrev pub ended_with : Known → List (List ℕ) → Option SessionEnd
ended_with start texts = (replies reply start texts).ended

-- what more bodies come to goes on from what the first ones come to
pub record Joins (start mid : Known) (first more : List (List ℕ)) : Type 0 where
  pub sent : sent_of start (first ++ more) ≡ sent_of start first ++ sent_of mid more
  pub state : (replies reply start (first ++ more)).state ≡ (replies reply mid more).state
  pub ended : ended_with start (first ++ more) ≡ ended_with mid more

pub joins : (start state : Known) (first more : List (List ℕ)) → ended_with start first ≡ None
    → state ≡ (replies reply start first).state → Joins start state first more
joins start state first more goes_on is =
    let a = replies reply start first in
    let b = replies reply state more in
    let same : replies reply start (first ++ more)
    ≡ record { packets = a.packets ++ b.packets; program = a.program ++ b.program; state = b.state; ended = b.ended } =
    replies_append reply start first more ∙ ap (λ (s : Known). followed a (replies reply s more)) (sym is)
    ∙ followed_open a b goes_on in
    record {
      sent =
          ap (λ (r : Reply Known SessionEnd). flat_map body_frame r.packets) same
          ∙ flat_map-append body_frame a.packets b.packets;
      state = ap (λ (r : Reply Known SessionEnd). r.state) same;
      ended = ap (λ (r : Reply Known SessionEnd). r.ended) same;
    }

-- ---- lists of bodies

pub each_joined : (P : List ℕ → Type 0) (texts others : List (List ℕ)) → AllByRecursion P texts
    → AllByRecursion P others → AllByRecursion P (texts ++ others)
each_joined P [] others p q = q
each_joined P (text ∷ texts) others p q = (p.0, each_joined P texts others p.1 q)

pub requests_joined : (texts others : List (List ℕ)) → list_all is_request texts ≡ true
    → list_all is_request others ≡ true → list_all is_request (texts ++ others) ≡ true
requests_joined texts others p q = list_all-append is_request texts others ∙ and_from _ _ p q

pub frames_joined : (texts others : List (List ℕ)) (rest : List ℕ)
    → flat_map body_frame (texts ++ others) ++ rest ≡ flat_map body_frame texts ++ (flat_map body_frame others ++ rest)
frames_joined texts others rest =
    ap (λ l. l ++ rest) (flat_map-append body_frame texts others)
    ∙ append_assoc (flat_map body_frame texts) (flat_map body_frame others) rest

-- the frames of the first bodies were taken, and then that of the next
pub frames_more : (a b c : Option (List ℕ)) (texts : List (List ℕ)) (i : ℕ) (text : List ℕ) → i < length texts
    → text ≡ get_or texts i text → Appends a b (flat_map body_frame (take i texts)) → Appends b c (body_frame text)
    → Appends a c (flat_map body_frame (take (i + 1) texts))
frames_more a b c texts i text within is p q =
    let first = flat_map body_frame (take i texts) in
    let next : flat_map body_frame (take (i + 1) texts) ≡ first ++ body_frame text =
    ap (flat_map body_frame) (take_more texts i text within)
    ∙ flat_map-append body_frame (take i texts) (get_or texts i text ∷ [])
    ∙ ap (λ x. first ++ (body_frame x ++ [])) (sym is) ∙ ap (λ l. first ++ l) (append-nil (body_frame text)) in
    subst (Appends a c) (sym next) (Appends-trans a b c first (body_frame text) p q)

-- all of these bodies are requests
pub all_requests : (texts : List (List ℕ)) → list_all is_request texts ≡ true → take_while is_request texts ≡ texts
all_requests [] e = refl
all_requests (text ∷ texts) e =
    let both = and_parts (is_request text) (list_all is_request texts) e in
    take_while-cons is_request text texts ∙ ap (λ b. cond b (text ∷ take_while is_request texts) []) both.0
    ∙ ap (λ l. text ∷ l) (all_requests texts both.1)

-- all but this one
pub requests_before : (texts : List (List ℕ)) (bad : List ℕ) (more : List (List ℕ))
    → list_all is_request texts ≡ true → is_request bad ≡ false → take_while is_request (texts ++ bad ∷ more) ≡ texts
requests_before [] bad more e none =
    take_while-cons is_request bad more ∙ ap (λ b. cond b (bad ∷ take_while is_request more) []) none
requests_before (text ∷ texts) bad more e none =
    let both = and_parts (is_request text) (list_all is_request texts) e in
    take_while-cons is_request text (texts ++ bad ∷ more)
    ∙ ap (λ b. cond b (text ∷ take_while is_request (texts ++ bad ∷ more)) []) both.0
    ∙ ap (λ l. text ∷ l) (requests_before texts bad more both.1 none)

-- ---- the body at the front

-- the first body of what was held is dropped
pub record Drops (old new : Received) (text : List ℕ) : Type 0 where
  pub begins : BeginsBody old.held text new.held
  pub place : new.dropped + length new.held ≡ old.dropped + length old.held
  pub shorter : length new.held < length old.held

pub drops : (old new : Received) (text rest : List ℕ) → BeginsBody old.held text rest → new.held ≡ rest
    → new.dropped ≡ min (old.dropped + length (body_frame text)) last_place
    → old.dropped + length old.held ≤ byte_limit → Drops old new text
drops old new text rest begins is_rest is_dropped fits =
    let some = begins.is_text.some_byte in
    let frame = length-append (head (length text)) text in
    let whole = length-append (body_frame text) rest in
    let parts = ap length begins.whole in
    let left = ap length is_rest in
    record {
      begins = subst (BeginsBody old.held text) (sym is_rest) begins;
      place = omega (arith, is_dropped, fits, frame, whole, parts, left);
      shorter = omega (arith, some, frame, whole, parts, left);
    }

-- ---- answering what is held

-- a body was answered
pub answered_one : (state now : Known) (held text rest : List ℕ) (sink : Change) → BeginsBody held text rest
    → is_request text ≡ true → now ≡ (reply state text).state
    → Appends sink.told_before sink.told (flat_map body_frame (reply state text).packets)
    → (one : Answered state now held rest sink) × (one.texts ≡ text ∷ [])
answered_one state now held text rest sink begins is is_now sent =
    let one : replies reply state (text ∷ []) ≡ reply state text = replies_one reply state text in (
      record {
        texts = text ∷ [];
        are_bodies = (begins.is_text, tt);
        are_requests = and_from _ _ is refl;
        whole = begins.whole ∙ ap (λ l. l ++ rest) (sym (append-nil (body_frame text)));
        state = is_now ∙ ap (λ (r : Reply Known SessionEnd). r.state) (sym one);
        sent =
            subst (λ (r : Reply Known SessionEnd). Appends sink.told_before sink.told (flat_map body_frame r.packets))
            (sym one) sent;
      },
      refl,
    )

-- a piece more was read
pub answered_fed : (start now : Known) (read held piece : List ℕ) (sink : Change)
    → (a : Answered start now read held sink)
    → (fed : Answered start now (read ++ piece) (held ++ piece) sink) × (fed.texts ≡ a.texts)
answered_fed start now read held piece sink a = (
  record {
    texts = a.texts;
    are_bodies = a.are_bodies;
    are_requests = a.are_requests;
    whole = ap (λ l. l ++ piece) a.whole ∙ append_assoc (flat_map body_frame a.texts) held piece;
    state = a.state;
    sent = a.sent;
  },
  refl,
)

module _ {X : Type 0} (told : X → Option (List ℕ)) (faults : X → ℕ) where
  -- nothing was answered yet
  pub answered_first : (start : Known) (held : List ℕ) (x : X)
      → (a : Answered start start held held (change told faults x x)) × (ended_with start a.texts ≡ None)
  answered_first start held x = (
    record {
      texts = [];
      are_bodies = tt;
      are_requests = refl;
      whole = refl;
      state = refl;
      sent = Appends-nil (told x);
    },
    refl,
  )

  -- more bodies were answered
  pub answered_joined : (start state now : Known) (before held rest : List ℕ) (x0 x1 x2 : X)
      → (a : Answered start state before held (change told faults x0 x1)) → ended_with start a.texts ≡ None
      → (b : Answered state now held rest (change told faults x1 x2))
      → (c : Answered start now before rest (change told faults x0 x2)) × (c.texts ≡ a.texts ++ b.texts)
      × (ended_with start c.texts ≡ ended_with state b.texts)
  answered_joined start state now before held rest x0 x1 x2 a goes_on b =
      let both = joins start state a.texts b.texts goes_on a.state in (
        record {
          texts = a.texts ++ b.texts;
          are_bodies = each_joined IsBody a.texts b.texts a.are_bodies b.are_bodies;
          are_requests = requests_joined a.texts b.texts a.are_requests b.are_requests;
          whole =
              a.whole ∙ ap (λ l. flat_map body_frame a.texts ++ l) b.whole
              ∙ sym (frames_joined a.texts b.texts rest);
          state = b.state ∙ sym both.state;
          sent =
              subst (Appends (told x0) (told x2)) (sym both.sent)
              (Appends-trans (told x0) (told x1) (told x2) _ _ a.sent b.sent);
        },
        refl,
        both.ended,
      )

  -- the next body was answered, and its answer sent
  pub answered_next : (start state now : Known) (before held text rest : List ℕ) (answer : DapAnswer) (x0 x1 x2 : X)
      → (a : Answered start state before held (change told faults x0 x1)) → ended_with start a.texts ≡ None
      → BeginsBody held text rest → is_request text ≡ true → Answers (reply state text) answer now
      → Appends (told x1) (told x2) (flat_map body_frame answer.messages)
      → (c : Answered start now before rest (change told faults x0 x2)) × (ended_with start c.texts ≡ answer.ended)
  answered_next start state now before held text rest answer x0 x1 x2 a goes_on begins is answers sent =
      let one = answered_one state now held text rest (change told faults x1 x2) begins is
      (sym (ap (λ (r : Reply Known SessionEnd). r.state) answers))
      (subst (λ (l : List (List ℕ)). Appends (told x1) (told x2) (flat_map body_frame l))
      (sym (ap (λ (r : Reply Known SessionEnd). r.packets) answers)) sent) in
      let all = answered_joined start state now before held rest x0 x1 x2 a goes_on one.0 in (
        all.0,
        all.2 ∙ ap (ended_with state) one.1
            ∙ ap (λ (r : Reply Known SessionEnd). r.ended) (replies_one reply state text ∙ answers),
      )
