-- A stream is cut in one way, in whatever pieces it comes: for both lanes.
use Rattle.std.proofs.Common.{◌≡◌, ℕ, ◌+◌, ◌≤◌, min, true, false, not, List, [], ◌∷◌, ◌++◌, length, drop, flat_map}
use Rattle.std.proofs.Common.{refl, sym, ap, subst, ◌∙◌, inl, inr, append_assoc, append-nil, arith, length-append}
use Rattle.std.proofs.lemmas.List.Concat.{flat_map-append}
use Rattle.std.proofs.Math.Seq.{drop-append_seam}
use Rattle.std.specs.List.{AllByRecursion}
use Rattle.dp_wire.specs.declared.errors.WireError.{WireError}
use Rattle.dp_wire.specs.Frames.{Splits, has_no_nul, rest_of, rest_of_packets}
use Rattle.dp_wire.specs.Places.{refused_at}
use Rattle.dp_wire.specs.Received.{Received, last_place}
use Rattle.dp_wire.proofs.FrameLaws.{no_nul-at, partial_front}
use Rattle.dp_wire.proofs.SplitLaws.{framed, commands_split, one_split_lem}
use Rattle.dp_wire.proofs.PacketLaws.{packets_split, one_packet_split, frame_length}
use Rattle.dp_wire.proofs.LengthLaws.{begins_partial, begins_refused}
use Rattle.dp_lanes.specs.declared.lane.Lane.{Lane}
use Rattle.dp_lanes.specs.declared.lane.LaneKind.{LaneKind}
use Rattle.dp_lanes.specs.declared.lane.LaneKind.TheVariants.{Up, Down}
use Rattle.dp_lanes.specs.Lanes.{frame, texts_in, rest_in, is_bad}
use Rattle.dp_lanes.specs.Places.{IsText, BeginsWith, IsPart, BeginsNone, kind_of, received_in, Causes, start_of_rest, left_of}
use Rattle.dp_lanes.specs.Places.{IsBadAt, IsBadIn, Follows, handed_of, Carries}
use Rattle.dp_lanes.specs.inner.Deliveries.{Hands, IsRest, HandsAll}
use Rattle.dp_lanes.proofs.RestLaws.{part_of_command, none_of_command, part_of_packet, none_of_packet}

-- ---- one split

pub splits : (kind : LaneKind) (bytes : List ℕ)
    → Splits (IsText kind) (frame kind) bytes (texts_in kind bytes) (rest_in kind bytes)
splits Up bytes = packets_split bytes
splits Down bytes = commands_split bytes

pub one_split : (kind : LaneKind) (bytes : List ℕ) (texts others : List (List ℕ)) (rest remains : List ℕ)
    → Splits (IsText kind) (frame kind) bytes texts rest → Splits (IsText kind) (frame kind) bytes others remains
    → (texts ≡ others) × (rest ≡ remains)
one_split Up bytes texts others rest remains p q = one_packet_split bytes texts others rest remains p q
one_split Down bytes texts others rest remains p q = one_split_lem bytes texts others rest remains p q

pub all_both : {X : Type 0} (P : X → Type 0) (a b : List X) → AllByRecursion P a → AllByRecursion P b
    → AllByRecursion P (a ++ b)
all_both P [] b p q = q
all_both P (x ∷ a) b p q = (p.0, all_both P a b p.1 q)

-- no whole frame begins a rest
pub no_more : (kind : LaneKind) (held : List ℕ) → IsRest kind held → (text more : List ℕ) → IsText kind text
    → held ≡ frame kind text ++ more → ⊥
no_more Up held (inl part) text more is e = begins_partial held text more (record { is_text = is; whole = e }) part
no_more Up held (inr none) text more is e = begins_refused held text more (record { is_text = is; whole = e }) none
no_more Down held (inl p) text more is e =
    let clean = (partial_front held p.more p.text p.comes p.is_text.no_nul p.whole).0 in
    no_nul-at text more (subst (λ l. has_no_nul l ≡ true) (e ∙ framed text more) clean)
no_more Down held (inr none) text more is e = none text more [] is (append-nil held ∙ e)

-- ---- more bytes

module _ (kind : LaneKind) (a b : List ℕ) (texts : List (List ℕ)) (rest : List ℕ)
    (more : Splits (IsText kind) (frame kind) (rest_in kind a ++ b) texts rest) where
  both : Splits (IsText kind) (frame kind) (a ++ b) (texts_in kind a ++ texts) rest
  both =
      let first = splits kind a in
      let fa = flat_map (frame kind) (texts_in kind a) in
      record {
        whole = ap (λ l. l ++ b) first.whole ∙ append_assoc fa (rest_in kind a) b ∙ ap (λ l. fa ++ l) more.whole
            ∙ sym (append_assoc fa (flat_map (frame kind) texts) rest)
            ∙ ap (λ l. l ++ rest) (sym (flat_map-append (frame kind) (texts_in kind a) texts));
        each = all_both (IsText kind) (texts_in kind a) texts first.each more.each;
        no_more = more.no_more;
      }

  -- the texts of all, and what is behind them
  pub split_on : (texts_in kind (a ++ b) ≡ texts_in kind a ++ texts) × (rest_in kind (a ++ b) ≡ rest)
  split_on =
      one_split kind (a ++ b) (texts_in kind (a ++ b)) (texts_in kind a ++ texts) (rest_in kind (a ++ b)) rest
      (splits kind (a ++ b)) both

  pub handed_is : handed_of kind a b ≡ flat_map (frame kind) texts
  handed_is =
      ap (λ t. flat_map (frame kind) (drop (length (texts_in kind a)) t)) split_on.0
      ∙ ap (flat_map (frame kind)) (drop-append_seam (texts_in kind a) texts)

  start_is : start_of_rest kind (a ++ b) ≡ min (start_of_rest kind a + length (flat_map (frame kind) texts)) last_place
  start_is =
      let whole : length (flat_map (frame kind) (texts_in kind (a ++ b))) ≡ length
      (flat_map (frame kind) (texts_in kind a)) + length (flat_map (frame kind) texts) =
      ap (λ t. length (flat_map (frame kind) t)) split_on.0
      ∙ ap length (flat_map-append (frame kind) (texts_in kind a) texts)
      ∙ length-append (flat_map (frame kind) (texts_in kind a)) (flat_map (frame kind) texts) in
      sum_min (length (flat_map (frame kind) (texts_in kind (a ++ b))))
      (length (flat_map (frame kind) (texts_in kind a))) (length (flat_map (frame kind) texts)) last_place whole
    where
      sum_min : (s x y m : ℕ) → s ≡ x + y → min s m ≡ min (min x m + y) m
      sum_min s x y m e = omega arith

-- ---- what a lane hands out

module _ (kind : LaneKind) (old mid new : Received) (before so after text rest : List ℕ)
    (hands : Hands kind old mid before so)
    (begins : BeginsWith kind mid.held text rest) where
  pub hands_more : new.held ≡ rest → new.dropped ≡ min (mid.dropped + length (frame kind text)) last_place
      → after ≡ so ++ frame kind text
      → Hands kind old new before after
  hands_more left dropped put =
      let frames : flat_map (frame kind) (hands.texts ++ text ∷ []) ≡ flat_map (frame kind) hands.texts
      ++ frame kind text =
      flat_map-append (frame kind) hands.texts (text ∷ [])
      ∙ ap (λ l. flat_map (frame kind) hands.texts ++ l) (append-nil (frame kind text)) in
      record {
        texts = hands.texts ++ text ∷ [];
        each = all_both (IsText kind) hands.texts (text ∷ []) hands.each (begins.is_text, tt);
        held =
            hands.held ∙ ap (λ l. flat_map (frame kind) hands.texts ++ l)
            (begins.whole ∙ ap (λ l. frame kind text ++ l) (sym left))
            ∙ sym (append_assoc (flat_map (frame kind) hands.texts) (frame kind text) new.held)
            ∙ ap (λ l. l ++ new.held) (sym frames);
        dropped = λ small.
            let long : length (flat_map (frame kind) (hands.texts ++ text ∷ [])) ≡ length
            (flat_map (frame kind) hands.texts) + length (frame kind text) =
            ap length frames ∙ length-append (flat_map (frame kind) hands.texts) (frame kind text) in
            let so_far = hands.dropped small in
            sum_min old.dropped mid.dropped new.dropped (length (flat_map (frame kind) hands.texts))
            (length (frame kind text))
            (length (flat_map (frame kind) (hands.texts ++ text ∷ []))) last_place long so_far dropped;
        put = put ∙ ap (λ l. l ++ frame kind text) hands.put
            ∙ append_assoc before (flat_map (frame kind) hands.texts) (frame kind text)
            ∙ ap (λ l. before ++ l) (sym frames);
      }
    where
      sum_min : (d e f x y z m : ℕ) → z ≡ x + y → e ≡ min (d + x) m → f ≡ min (e + y) m → f ≡ min (d + z) m
      sum_min d e f x y z m p q r = omega arith

pub frame_some : (kind : LaneKind) (text : List ℕ) → 1 ≤ length (frame kind text)
frame_some Up text = omega (arith, frame_length text)
frame_some Down text = omega (arith, length-append text (0 ∷ []))

-- ---- a lane that follows its stream

module _ (kind : LaneKind) (old fed new : Lane) (stream bytes out : List ℕ) (follows : Follows kind old stream)
    (way : kind_of fed ≡ kind_of old)
    (held : (received_in fed).held ≡ (received_in old).held ++ bytes)
    (dropped : (received_in fed).dropped ≡ (received_in old).dropped)
    (all : HandsAll fed new [] out) where
  kind_is : kind_of fed ≡ kind
  kind_is = way ∙ follows.way

  hands : Hands kind (received_in fed) (received_in new) [] out
  hands = subst (λ (k : LaneKind). Hands k (received_in fed) (received_in new) [] out) kind_is all.hands

  rest : IsRest kind (received_in new).held
  rest = subst (λ (k : LaneKind). IsRest k (received_in new).held) kind_is all.rest

  cut : Splits (IsText kind) (frame kind) (rest_in kind stream ++ bytes) hands.texts (received_in new).held
  cut = record {
    whole = ap (λ (r : Received). r.held ++ bytes) (sym follows.rest) ∙ sym held ∙ hands.held;
    each = hands.each;
    no_more = no_more kind (received_in new).held rest;
  }

  place : (received_in new).dropped ≡ start_of_rest kind (stream ++ bytes)
  place =
      let start : (received_in fed).dropped ≡ start_of_rest kind stream = dropped
      ∙ ap (λ (r : Received). r.dropped) follows.rest in
      let small : (received_in fed).dropped ≤ last_place = omega (arith, start) in
      hands.dropped small ∙ ap (λ (d : ℕ). min (d + length (flat_map (frame kind) hands.texts)) last_place) start
      ∙ sym (start_is kind stream bytes hands.texts (received_in new).held cut)

  pub carried : Carries kind new stream bytes out
  carried = record {
    follows = record {
      way = all.way ∙ kind_is;
      rest =
          λ i. record {
            held = sym (split_on kind stream bytes hands.texts (received_in new).held cut).1 i;
            dropped = place
                i;
          };
    };
    put = hands.put ∙ sym (handed_is kind stream bytes hands.texts (received_in new).held cut);
  }

-- ---- where it is bad

pub part_good : (kind : LaneKind) (bytes : List ℕ) → IsPart kind (rest_in kind bytes) → is_bad kind bytes ≡ false
unfolding is_bad
part_good Up bytes p = ap not (part_of_packet (rest_of_packets bytes) p)
part_good Down bytes p = ap not (part_of_command (rest_of bytes) p)

pub none_bad : (kind : LaneKind) (bytes : List ℕ) → BeginsNone kind (rest_in kind bytes) → is_bad kind bytes ≡ true
unfolding is_bad
none_bad Up bytes none = ap not (none_of_packet (rest_of_packets bytes) none)
none_bad Down bytes none = ap not (none_of_command (rest_of bytes) none)

module _ (kind : LaneKind) (lane : Lane) (stream : List ℕ) (follows : Follows kind lane stream) where
  at_rest : (P : LaneKind → List ℕ → Type 0) → P (kind_of lane) (received_in lane).held → P kind (rest_in kind stream)
  at_rest P h =
      subst (λ (r : Received). P kind r.held) follows.rest (subst
      (λ (k : LaneKind). P k (received_in lane).held) follows.way h)

  pub good_part : IsPart (kind_of lane) (received_in lane).held → is_bad kind stream ≡ false
  good_part p = part_good kind stream (at_rest IsPart p)

  pub no_front : (text rest : List ℕ) → BeginsWith (kind_of lane) (received_in lane).held text rest → ⊥
  no_front text rest b =
      let c = at_rest (λ k held. BeginsWith k held text rest) b in
      (splits kind stream).no_more text rest c.is_text c.whole

  pub bad_none : (why : WireError) → BeginsNone (kind_of lane) (received_in lane).held
      → Causes (kind_of lane) (received_in lane) why
      → IsBadIn kind stream (refused_at why (received_in lane).dropped)
  bad_none why none cause = record {
    bad = none_bad kind stream (at_rest BeginsNone none);
    place = subst (λ (r : Received). IsBadAt kind stream (refused_at why r.dropped)) (sym follows.rest)
        (by kind (at_rest BeginsNone none) (subst (λ (r : Received). Causes kind r why) follows.rest
        (subst (λ (k : LaneKind). Causes k (received_in lane) why) follows.way cause)));
  } where
    by : (k : LaneKind) → BeginsNone k (rest_in k stream) → Causes k (left_of k stream) why
        → IsBadAt k stream (refused_at why (start_of_rest k stream))
    by Up none cause = record { none = none; why = why; is_why = cause; place = refl }
    by Down none cause = (none, ap (λ (w : WireError). refused_at w (start_of_rest Down stream)) cause)
