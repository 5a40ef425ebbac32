-- What a lane has passed, fed piece by piece and emptied frame by frame.
use Rattle.std.proofs.Common.{◌≡◌, ℕ, ◌+◌, min, false, List, [], ◌∷◌, ◌++◌, length, flat_map}
use Rattle.std.proofs.Common.{refl, sym, ap, subst, ◌∙◌, inl, inr, append_assoc, append-nil, arith}
use Rattle.std.proofs.lemmas.List.Concat.{flat_map-append}
use Rattle.dp_wire.specs.declared.errors.WireError.{WireError}
use Rattle.dp_wire.specs.Frames.{Splits}
use Rattle.dp_wire.specs.Places.{refused_at}
use Rattle.dp_wire.specs.Received.{Received, last_place}
use Rattle.dp_lanes.specs.declared.lane.Lane.{Lane}
use Rattle.dp_lanes.specs.declared.lane.LaneKind.{LaneKind}
use Rattle.dp_lanes.specs.declared.lane.LaneKind.TheVariants.{Up, Down}
use Rattle.dp_lanes.specs.Lanes.{frame, texts_in, rest_in, is_bad}
use Rattle.dp_lanes.specs.Passed.{HasPassed, handed_in_all}
use Rattle.dp_lanes.specs.Places.{IsText, BeginsWith, IsPart, BeginsNone, Causes, IsBadIn, Follows, kind_of, received_in, handed_of}
use Rattle.dp_lanes.specs.inner.Deliveries.{Hands, IsRest}
use Rattle.dp_lanes.proofs.StreamLaws.{splits, one_split, no_more, all_both, split_on, handed_is, hands_more, good_part, bad_none}

-- ---- what keeps it

pub passes_nothing : (kind : LaneKind) (lane : Lane) → kind_of lane ≡ kind → (received_in lane).held ≡ []
    → (received_in lane).dropped ≡ 0
    → HasPassed kind lane [] []
passes_nothing kind lane way none start = record {
  way = way;
  texts = [];
  each = tt;
  whole = sym none;
  put = refl;
  dropped = omega (arith, start);
}

pub passes_fed : (kind : LaneKind) (old new : Lane) (read written piece : List ℕ) → HasPassed kind old read written
    → kind_of new ≡ kind_of old → (received_in new).held ≡ (received_in old).held ++ piece
    → (received_in new).dropped ≡ (received_in old).dropped
    → HasPassed kind new (read ++ piece) written
passes_fed kind old new read written piece h way held dropped =
    let frames = flat_map (frame kind) h.texts in
    record {
      way = way ∙ h.way;
      texts = h.texts;
      each = h.each;
      whole = ap (λ l. l ++ piece) h.whole ∙ append_assoc frames (received_in old).held piece
          ∙ ap (λ l. frames ++ l) (sym held);
      put = h.put;
      dropped = dropped ∙ h.dropped;
    }

pub passes_dropped : (kind : LaneKind) (old new : Lane) (read written text rest : List ℕ)
    → HasPassed kind old read written
    → BeginsWith (kind_of old) (received_in old).held text rest → kind_of new ≡ kind_of old
    → (received_in new).held ≡ rest
    → (received_in new).dropped ≡ min ((received_in old).dropped + length (frame (kind_of old) text)) last_place
    → HasPassed kind new read (written ++ frame kind text)
passes_dropped kind old new read written text rest h begins way held dropped =
    let start : Received = record { held = read; dropped = 0 } in
    let before : Hands kind start (received_in old) [] written = record {
      texts = h.texts;
      each = h.each;
      held = h.whole;
      dropped = λ small. let start = h.dropped ∙ ap (λ l. min (length l) last_place) h.put in omega (arith, start);
      put = h.put;
    } in
    let after = hands_more kind start (received_in old) (received_in new) [] written (written ++ frame kind text) text
    rest before (subst (λ (k : LaneKind). BeginsWith k (received_in old).held text rest) h.way begins) held
    (dropped ∙ ap (λ (k : LaneKind). min ((received_in old).dropped + length (frame k text)) last_place) h.way)
    refl in
    record {
      way = way ∙ h.way;
      texts = after.texts;
      each = after.each;
      whole = after.held;
      put = after.put;
      dropped =
          let end = after.dropped (omega arith) in
          let put = ap length after.put in
          omega (arith, end, put);
    }

-- ---- what it comes to

module _ (kind : LaneKind) (lane : Lane) (read written : List ℕ) (h : HasPassed kind lane read written) where
  abbrev frames : List ℕ
  frames = flat_map (frame kind) h.texts

  all_texts : texts_in kind read ≡ h.texts ++ texts_in kind (received_in lane).held
  all_texts =
      let held = (received_in lane).held in
      let rest = splits kind held in
      let more = texts_in kind held in
      let all : Splits (IsText kind) (frame kind) read (h.texts ++ more) (rest_in kind held) = record {
        whole = h.whole ∙ ap (λ l. frames ++ l) rest.whole
            ∙ sym (append_assoc frames (flat_map (frame kind) more) (rest_in kind held))
            ∙ ap (λ l. l ++ rest_in kind held) (sym (flat_map-append (frame kind) h.texts more));
        each = all_both (IsText kind) h.texts more h.each rest.each;
        no_more = rest.no_more;
      } in
      (one_split kind read (texts_in kind read) (h.texts ++ more) (rest_in kind read) (rest_in kind held)
      (splits kind read) all).0

  pub passes_front : (more : List ℕ) × (flat_map (frame kind) (texts_in kind read) ≡ written ++ more)
  passes_front =
      let more = texts_in kind (received_in lane).held in (
        flat_map (frame kind) more,
        ap (flat_map (frame kind)) all_texts ∙ flat_map-append (frame kind) h.texts more
            ∙ ap (λ l. l ++ flat_map (frame kind) more) (sym h.put),
      )

  module _ (rest : IsRest (kind_of lane) (received_in lane).held) where
    cut : (texts_in kind read ≡ h.texts) × (rest_in kind read ≡ (received_in lane).held)
    cut =
        one_split kind read (texts_in kind read) h.texts (rest_in kind read) (received_in lane).held (splits kind read)
        (record {
          whole = h.whole;
          each = h.each;
          no_more = no_more kind (received_in lane).held (subst (λ (k : LaneKind). IsRest k (received_in lane).held)
              h.way rest);
        })

    pub passes_all : written ≡ flat_map (frame kind) (texts_in kind read)
    passes_all = h.put ∙ ap (flat_map (frame kind)) (sym cut.0)

    pub passes_follows : Follows kind lane read
    passes_follows =
        let start = h.dropped ∙ ap (λ l. min (length l) last_place) passes_all in
        record { way = h.way; rest = λ i. record { held = sym cut.1 i; dropped = start i } }

  pub passes_good : IsPart (kind_of lane) (received_in lane).held → is_bad kind read ≡ false
  passes_good part = good_part kind lane read (passes_follows (inl part)) part

  pub passes_bad : (why : WireError) → BeginsNone (kind_of lane) (received_in lane).held
      → Causes (kind_of lane) (received_in lane) why
      → IsBadIn kind read (refused_at why (received_in lane).dropped)
  passes_bad why none cause = bad_none kind lane read (passes_follows (inr none)) why none cause

-- ---- what all pieces hand out

pub handed_on : (kind : LaneKind) (bytes piece : List ℕ)
    → flat_map (frame kind) (texts_in kind bytes) ++ handed_of kind bytes piece
    ≡ flat_map (frame kind) (texts_in kind (bytes ++ piece))
handed_on kind bytes piece =
    let left = rest_in kind bytes ++ piece in
    let texts = texts_in kind left in
    let more = splits kind left in
    ap (λ l. flat_map (frame kind) (texts_in kind bytes) ++ l)
    (handed_is kind bytes piece texts (rest_in kind left) more)
    ∙ sym (flat_map-append (frame kind) (texts_in kind bytes) texts)
    ∙ ap (flat_map (frame kind)) (sym (split_on kind bytes piece texts (rest_in kind left) more).0)

pub no_texts : (kind : LaneKind) → texts_in kind [] ≡ []
no_texts Up = refl
no_texts Down = refl

handed_behind : (kind : LaneKind) (bytes : List ℕ) (pieces : List (List ℕ))
    → flat_map (frame kind) (texts_in kind bytes) ++ handed_in_all kind bytes pieces
    ≡ flat_map (frame kind) (texts_in kind (bytes ++ flat_map (λ piece. piece) pieces))
handed_behind kind bytes [] =
    append-nil (flat_map (frame kind) (texts_in kind bytes))
    ∙ ap (λ l. flat_map (frame kind) (texts_in kind l)) (sym (append-nil bytes))
handed_behind kind bytes (piece ∷ pieces) =
    let rest = handed_in_all kind (bytes ++ piece) pieces in
    sym (append_assoc (flat_map (frame kind) (texts_in kind bytes)) (handed_of kind bytes piece) rest)
    ∙ ap (λ l. l ++ rest) (handed_on kind bytes piece)
    ∙ handed_behind kind (bytes ++ piece) pieces
    ∙ ap (λ l. flat_map (frame kind) (texts_in kind l)) (append_assoc bytes piece (flat_map (λ p. p) pieces))

pub handed_all : (kind : LaneKind) (pieces : List (List ℕ)) → handed_in_all kind [] pieces
    ≡ flat_map (frame kind) (texts_in kind (flat_map (λ piece. piece) pieces))
handed_all kind pieces =
    ap (λ t. flat_map (frame kind) t ++ handed_in_all kind [] pieces) (sym (no_texts kind))
    ∙ handed_behind kind [] pieces
