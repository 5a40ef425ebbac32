-- How the gateway comes to be over on its link, by what stands then.
use Rattle.std.proofs.Common.{◌≡◌, ◌≤◌, ◌+◌, ◌⊎◌, ℕ, List, [], ◌∷◌, ◌++◌, length, Option, None, refl, sym, ap, ◌∙◌, subst, arith, inl, inr, append-nil, length-append}
use Rattle.std.specs.List.{flat_map, take_while}
use Rattle.std.specs.Io.KnownBytes.{Appends, Consumes}
use Rattle.dp_bodies.specs.declared.errors.BodyError.{BodyError}
use Rattle.dp_bodies.specs.Frames.{IsBody, body_frame, BeginsBody, BeginsNoBody, IsPartialBody}
use Rattle.dp_bodies.specs.Received.{IsCause, refused_at}
use Rattle.dp_conversation.specs.Folds.{replies}
use Rattle.dp_conversation.specs.Service.{byte_limit, piece_limit}
use Rattle.dp_conversation.specs.declared.link.SessionOver.{SessionOver}
use Rattle.dp_conversation.specs.declared.link.SessionOver.TheVariants as over
use Rattle.dp_outside.specs.Changes.{Change, change}
use Rattle.dp_engine.specs.declared.session.SessionEnd.{SessionEnd}
use Rattle.dp_dap.specs.Dap.{is_request, reply}
use Rattle.dp_dap.specs.Known.{Known}
use Rattle.dp_dap.specs.Service.{IsFramed, IsReadUpTo, OverBy}
use Rattle.dp_dap.specs.inner.Exchanges.{Answered, Exchanged, HoldsNoRequest, sent_of}
use Rattle.dp_dap.proofs.CutLaws.{read_up_to}
use Rattle.dp_dap.proofs.ServiceLaws.{all_requests, answered_fed, answered_joined, each_joined, ended_with, frames_joined, requests_before}

-- what was answered of these bytes, which end with one piece
pub record Stands (start now : Known) (read rest : List ℕ) (sink : Change) : Type 0 where
  pub answered : Answered start now read rest sink
  pub up_to : IsReadUpTo start read
  pub lately : List (List ℕ)
  pub behind : answered.texts ≡ up_to.before ++ lately

-- nothing more was read
pub stands_now : (start now : Known) (read held : List ℕ) (sink : Change) → (a : Answered start now read held sink)
    → ended_with start a.texts ≡ None → IsPartialBody held
    → (s : Stands start now read held sink) × (s.answered.texts ≡ a.texts)
stands_now start now read held sink a goes_on partial =
    let up_to = read_up_to start now read held [] read sink a goes_on partial (sym (append-nil read)) (omega arith) in (
      record {
        answered = a;
        up_to = up_to.0;
        lately = [];
        behind = sym up_to.1 ∙ sym (append-nil up_to.0.before);
      },
      refl,
    )

-- a piece was read, and the bodies then held were answered
pub stands_fed : {X : Type 0} (told : X → Option (List ℕ)) (faults : X → ℕ) (start state now : Known)
    (read held fed piece rest : List ℕ) (x0 x1 x2 : X)
    → (a : Answered start state read held (change told faults x0 x1)) → ended_with start a.texts ≡ None
    → IsPartialBody held → fed ≡ held ++ piece → length piece ≤ piece_limit
    → (b : Answered state now fed rest (change told faults x1 x2))
    → (s : Stands start now (read ++ piece) rest (change told faults x0 x2))
    × (ended_with start s.answered.texts ≡ ended_with state b.texts)
stands_fed told faults start state now read held fed piece rest x0 x1 x2 a goes_on partial is_fed short b =
    let up_to = read_up_to start state read held piece (read ++ piece) (change told faults x0 x1) a goes_on partial refl
    short in
    let more = answered_fed start state read held piece (change told faults x0 x1) a in
    let fed_too : (s : Answered start state (read ++ piece) fed (change told faults x0 x1)) × (s.texts ≡ a.texts) =
    subst (λ (l : List ℕ). (s : Answered start state (read ++ piece) l (change told faults x0 x1))
    × (s.texts ≡ a.texts)) (sym is_fed) more in
    let all = answered_joined told faults start state now (read ++ piece) fed rest x0 x1 x2 fed_too.0
    (ap (ended_with start) fed_too.1 ∙ goes_on) b in (
      record {
        answered = all.0;
        up_to = up_to.0;
        lately = b.texts;
        behind = all.1 ∙ ap (λ (l : List (List ℕ)). l ++ b.texts) (fed_too.1 ∙ sym up_to.1);
      },
      all.2,
    )

module _ (start now : Known) (read rest : List ℕ) (source sink : Change) (s : Stands start now read rest sink)
    (within : length read ≤ byte_limit) (consumed : Consumes source.told_before source.told read) where
  abbrev done : List (List ℕ)
  done = s.answered.texts

  -- it is over with these bodies, of which these are the requests before the first that is none
  over_with : (o : SessionOver SessionEnd) (texts : List (List ℕ)) (left : List ℕ) → IsFramed read texts left
      → take_while is_request texts ≡ done → OverBy o (ended_with start done) texts left read source
      → Exchanged start now o source sink
  over_with o texts left framed are ends = record {
    read = read;
    within = within;
    up_to = s.up_to;
    consumed = consumed;
    texts = texts;
    left = left;
    framed = framed;
    sent =
        subst (λ (l : List (List ℕ)). Appends sink.told_before sink.told (sent_of start l)) (sym are) s.answered.sent;
    state = s.answered.state ∙ ap (λ (l : List (List ℕ)). (replies reply start l).state) (sym are);
    lately = s.lately;
    behind = are ∙ s.behind;
    ends = subst (λ (l : List (List ℕ)). OverBy o (ended_with start l) texts left read source) (sym are) ends;
  }

  -- it is over with the bodies that were answered
  pub over_there : (o : SessionOver SessionEnd) → OverBy o (ended_with start done) done rest read source
      → Exchanged start now o source sink
  over_there o ends =
      over_with o done rest (record { whole = s.answered.whole; each = s.answered.are_bodies })
      (all_requests done s.answered.are_requests) ends

  -- a bad frame stands at the front of what is left
  module _ (goes_on : ended_with start done ≡ None) (dropped offset : ℕ) (place : dropped + length rest ≡ length read)
    where
      dropped_is : dropped ≡ length (flat_map body_frame done)
      dropped_is = omega (arith, place, ap length s.answered.whole, length-append (flat_map body_frame done) rest)

      over_no_request : (h : HoldsNoRequest rest) → offset ≡ dropped
          → Exchanged start now (over.BadCommandFrame offset) source sink
      over_no_request h at_front =
          over_with (over.BadCommandFrame offset) (done ++ h.text ∷ []) h.more (record {
            whole =
                s.answered.whole
                ∙ ap (λ l. flat_map body_frame done ++ l)
                (h.begins.whole ∙ ap (λ l. l ++ h.more) (sym (append-nil (body_frame h.text))))
                ∙ sym (frames_joined done (h.text ∷ []) h.more);
            each = each_joined IsBody done (h.text ∷ []) s.answered.are_bodies (h.begins.is_text, tt);
          }) (requests_before done h.text [] s.answered.are_requests h.none) (
            goes_on,
            inl (record {
              front = done;
              text = h.text;
              later = [];
              whole = refl;
              requests = s.answered.are_requests;
              none = h.none;
              place = at_front ∙ dropped_is;
            }),
          )

      over_bad_rest : BeginsNoBody rest
          → (why : BodyError) × IsCause (record { held = rest; dropped = dropped }) why
          × (offset ≡ refused_at why dropped)
          → Exchanged start now (over.BadCommandFrame offset) source sink
      over_bad_rest none cause =
          over_there (over.BadCommandFrame offset) (
            goes_on,
            inr (
              s.answered.are_requests,
              record {
                none = none;
                why = cause.0;
                is_why = subst (λ (d : ℕ). IsCause (record { held = rest; dropped = d }) cause.0) dropped_is cause.1;
                place = cause.2 ∙ ap (refused_at cause.0) dropped_is;
              },
            ),
          )

      pub over_bad : HoldsNoRequest rest ⊎ BeginsNoBody rest
          → ((text more : List ℕ) → BeginsBody rest text more → offset ≡ dropped)
          → (BeginsNoBody rest → (why : BodyError) × IsCause (record { held = rest; dropped = dropped }) why
          × (offset ≡ refused_at why dropped))
          → Exchanged start now (over.BadCommandFrame offset) source sink
      over_bad (inl h) front cause = over_no_request h (front h.text h.more h.begins)
      over_bad (inr none) front cause = over_bad_rest none (cause none)
