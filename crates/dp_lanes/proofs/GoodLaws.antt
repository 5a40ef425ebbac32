-- Where a stream is not bad, and where it stays bad; how many frames it has.
use Rattle.std.proofs.Common.{◌≡◌, ◌≢◌, ℕ, ◌+◌, ◌<◌, ◌≤◌, true, false, not, List, [], ◌∷◌, ◌++◌, length, take, drop, slice_range, flat_map}
use Rattle.std.proofs.Common.{refl, sym, ap, subst, ◌∙◌, inl, inr, append_assoc, append-nil, arith, length-append, length-drop}
use Rattle.std.proofs.lemmas.Bool.{cases_lt, le-leb, false≢true}
use Rattle.std.proofs.lemmas.List.{take-append-drop, take-append-le, take_at}
use Rattle.std.specs.List.{AllByRecursion}
use Rattle.dp_wire.specs.Frames.{Splits, BeginsNoCommand, command_limit, up_to_nul, rest_of}
use Rattle.dp_wire.proofs.FrameLaws.{no_shorter}
use Rattle.dp_wire.proofs.SplitLaws.{framed}
use Rattle.dp_lanes.specs.declared.lane.LaneKind.{LaneKind}
use Rattle.dp_lanes.specs.declared.lane.LaneKind.TheVariants.{Up, Down}
use Rattle.dp_lanes.specs.Lanes.{frame, texts_in, rest_in, is_bad, may_be_command}
use Rattle.dp_lanes.specs.Places.{IsText, IsPart, IsFront}
use Rattle.dp_lanes.specs.inner.Deliveries.{IsRest}
use Rattle.dp_lanes.proofs.RestLaws.{IsUp, up_is}
use Rattle.dp_lanes.proofs.StreamLaws.{splits, one_split, no_more, split_on, frame_some, part_good, none_bad}

-- ---- a front of whole frames

none_behind : (bytes more : List ℕ) → bytes ++ more ≡ [] → bytes ≡ []
none_behind [] more e = refl
none_behind (b ∷ bytes) more e = absurd cc

-- nothing is a part of any frame
part_nothing : (kind : LaneKind) → IsPart kind []
part_nothing Up = record {
  text = 0 ∷ [];
  more = frame Up (0 ∷ []);
  is_text = record { some_byte = omega arith; fits = omega arith };
  comes = λ e. let some = frame_some Up (0 ∷ []) in let none = ap length e in omega (arith, some, none);
  whole = refl;
}
part_nothing Down = record {
  text = [];
  more = 0 ∷ [];
  is_text = record { no_nul = refl; fits = omega arith };
  comes = λ e. let none = ap length e in omega (arith, none);
  whole = refl;
}

module _ (kind : LaneKind) where
  -- a shorter front of a frame
  shorter_part : (bytes more text rest : List ℕ) → IsText kind text → bytes ++ more ≡ frame kind text ++ rest
      → length bytes < length (frame kind text)
      → IsPart kind bytes
  shorter_part bytes more text rest is e less =
      let whole = frame kind text in
      let n = length bytes in
      let front : bytes ≡ take n whole = sym (take_at bytes more n refl) ∙ ap (take n) e
      ∙ take-append-le n whole rest (omega arith) in
      record {
        text = text;
        more = drop n whole;
        is_text = is;
        comes = λ none. let short = ap length none in omega (arith, short, length-drop n whole);
        whole = ap (λ l. l ++ drop n whole) front ∙ take-append-drop n whole;
      }

  -- a longer one begins with it
  longer_begins : (bytes more text rest : List ℕ) → bytes ++ more ≡ frame kind text ++ rest
      → length (frame kind text) ≤ length bytes
      → bytes ≡ frame kind text ++ drop (length (frame kind text)) bytes
  longer_begins bytes more text rest e long =
      let whole = frame kind text in
      let n = length whole in
      let front : take n bytes ≡ whole = sym (take-append-le n bytes more long) ∙ ap (take n) e
      ∙ take_at whole rest n refl in
      sym (take-append-drop n bytes) ∙ ap (λ l. l ++ drop n bytes) front

  -- behind a rest that no whole frame begins the bytes go on to whole frames: it is a part of the first
  rest_part : (bytes more : List ℕ) (texts : List (List ℕ)) → AllByRecursion (IsText kind) texts
      → bytes ++ more ≡ flat_map (frame kind) texts
      → ((text rest : List ℕ) → IsText kind text → bytes ≡ frame kind text ++ rest → ⊥)
      → IsPart kind bytes
  rest_part bytes more [] each e no_more = subst (IsPart kind) (sym (none_behind bytes more e)) (part_nothing kind)
  rest_part bytes more (text ∷ texts) each e no_more =
      elim (cases_lt (length bytes) (length (frame kind text))) [
        | inl less ↦ shorter_part bytes more text (flat_map (frame kind) texts) each.0 e less
        | inr long ↦ absurd (no_more text (drop (length (frame kind text)) bytes) each.0
            (longer_begins bytes more text (flat_map (frame kind) texts) e long))
      ]

  pub front_good : (bytes more : List ℕ) (texts : List (List ℕ)) → AllByRecursion (IsText kind) texts
      → bytes ++ more ≡ flat_map (frame kind) texts
      → is_bad kind bytes ≡ false
  front_good bytes more texts each e =
      let left = rest_in kind bytes ++ more in
      let cut = splits kind left in
      let all : Splits (IsText kind) (frame kind) (bytes ++ more) texts [] = record {
        whole = e ∙ sym (append-nil (flat_map (frame kind) texts));
        each = each;
        no_more = λ text rest is none.
            let some = frame_some kind text in
            let short = ap length none in
            omega (arith, some, short, length-append (frame kind text) rest);
      } in
      let whole = one_split kind (bytes ++ more) (texts_in kind (bytes ++ more)) texts (rest_in kind (bytes ++ more)) []
      (splits kind (bytes ++ more)) all in
      let on = split_on kind bytes more (texts_in kind left) (rest_in kind left) cut in
      let behind : left ≡ flat_map (frame kind) (texts_in kind left) =
      cut.whole ∙ ap (λ l. flat_map (frame kind) (texts_in kind left) ++ l) (sym on.1 ∙ whole.1)
      ∙ append-nil (flat_map (frame kind) (texts_in kind left)) in
      part_good kind bytes (rest_part (rest_in kind bytes) more (texts_in kind left) cut.each behind
      (splits kind bytes).no_more)

-- ---- a command that is too long

module _ (held : List ℕ) (long : command_limit < length (up_to_nul held)) where
  -- what follows its bytes that have no NUL
  behind_up : IsUp held (up_to_nul held) → (tail : List ℕ) × (held ≡ up_to_nul held ++ tail)
  behind_up up = elim up.cases [
    | inl all ↦ ([], all ∙ sym (append-nil (up_to_nul held)))
    | inr cut ↦ (0 ∷ cut.0, cut.1)
  ]

  never : (more : List ℕ) → BeginsNoCommand (held ++ more)
  never more = λ text rest further is e.
      let up = up_is held in
      let cut = behind_up up in
      let fits = is.fits in
      let front : up_to_nul held ++ (cut.0 ++ (more ++ further)) ≡ text ++ 0 ∷ rest =
      sym (append_assoc (up_to_nul held) cut.0 (more ++ further)) ∙ ap (λ l. l ++ (more ++ further)) (sym cut.1)
      ∙ sym (append_assoc held more further) ∙ e ∙ framed text rest in
      no_shorter (up_to_nul held) text (cut.0 ++ (more ++ further)) rest up.no_nul (omega (arith, fits)) front

too_long : (held : List ℕ) → not (may_be_command held) ≡ true → command_limit < length (up_to_nul held)
too_long held bad = elim (cases_lt command_limit (length (up_to_nul held))) [
  | inl long ↦ long
  | inr short ↦ absurd (false≢true (ap not (sym (le-leb (length (up_to_nul held)) command_limit short)) ∙ bad))
]

pub bad_stays : (bytes more : List ℕ) → is_bad Down bytes ≡ true → is_bad Down (bytes ++ more) ≡ true
unfolding is_bad
bad_stays bytes more bad =
    let held = rest_of bytes in
    let none = never held (too_long held bad) in
    let on = split_on Down bytes more [] (held ++ more) (record {
      whole = refl;
      each = tt;
      no_more = λ text rest is e. none more text rest [] is (append-nil (held ++ more) ∙ e);
    }) in
    none_bad Down (bytes ++ more) (subst BeginsNoCommand (sym on.1) (none more))

-- ---- how many frames

-- frames have the texts of which they are
pub texts_of : (kind : LaneKind) (texts : List (List ℕ)) → AllByRecursion (IsText kind) texts
    → texts_in kind (flat_map (frame kind) texts) ≡ texts
texts_of kind texts each =
    let bytes = flat_map (frame kind) texts in
    (one_split kind bytes (texts_in kind bytes) texts (rest_in kind bytes) [] (splits kind bytes) (record {
      whole = sym (append-nil bytes);
      each = each;
      no_more = λ text rest is none.
          let some = frame_some kind text in
          let short = ap length none in
          omega (arith, some, short, length-append (frame kind text) rest);
    })).0

-- the texts of the frames at the front of any bytes
pub texts_again : (kind : LaneKind) (bytes : List ℕ)
    → texts_in kind (flat_map (frame kind) (texts_in kind bytes)) ≡ texts_in kind bytes
texts_again kind bytes = texts_of kind (texts_in kind bytes) (splits kind bytes).each

pub texts_of_rest : (kind : LaneKind) (held : List ℕ) → IsRest kind held → texts_in kind held ≡ []
texts_of_rest kind held rest =
    (one_split kind held (texts_in kind held) [] (rest_in kind held) held (splits kind held) (record {
      whole = refl;
      each = tt;
      no_more = no_more kind held rest;
    })).0

pub texts_front : (kind : LaneKind) (held : List ℕ) (start end : ℕ) → IsFront kind held start end
    → (length (texts_in kind held) ≡ 1 + length (texts_in kind (drop (end + 1) held)))
    × (length (drop (end + 1) held) + 1 ≤ length held)
texts_front kind held start end front =
    let text = slice_range held start end in
    let rest = drop (end + 1) held in
    let more : texts_in kind held ≡ text ∷ texts_in kind rest =
    ap (texts_in kind) (sym (append-nil held)) ∙ front.stays []
    ∙ ap (λ l. text ∷ texts_in kind l) (append-nil rest) in
    let within = front.within in
    (omega (arith, ap length more), omega (arith, length-drop (end + 1) held))
