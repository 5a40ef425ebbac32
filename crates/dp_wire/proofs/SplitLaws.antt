-- Bytes are split into commands and a rest in one way.
use Rattle.std.proofs.Common.{◌≡◌, ℕ, ◌≤◌, Bool, true, false, cond, eqb, leb, List, [], ◌∷◌, ◌++◌, length, drop, refl, sym, ap, ◌∙◌, subst, append_assoc, append-nil}
use Rattle.std.specs.List.{flat_map, AllByRecursion}
use Rattle.std.proofs.lemmas.Bool.{leb-true, le-leb, eqb-true, false≢true}
use Rattle.std.proofs.Math.Seq.{drop-append_seam}
use Rattle.dp_wire.specs.Frames.{has_no_nul, Splits, IsCommand, command_frame, command_limit, ended_texts, widened, up_to_limit, commands_in, rest_of}
use Rattle.dp_wire.proofs.FrameLaws.{no_nul-at, same_text}

-- a frame and what follows it, with the NUL in its place
pub framed : (line more : List ℕ) → command_frame line ++ more ≡ line ++ 0 ∷ more
framed line more = append_assoc line (0 ∷ []) more

pub same_frame : (a b x y : List ℕ) → IsCommand a → IsCommand b → command_frame a ++ x ≡ command_frame b ++ y
    → (a ≡ b) × (x ≡ y)
same_frame a b x y p q e = same_text a b x y p.no_nul q.no_nul (sym (framed a x) ∙ e ∙ framed b y)

pub no_frame_begins : (one other more : List ℕ) → IsCommand one → IsCommand other
    → command_frame one ++ more ≡ command_frame other → (one ≡ other) × (more ≡ [])
no_frame_begins one other more p q e = same_frame one other more [] p q (e ∙ sym (append-nil (command_frame other)))

-- ---- one split

regroup : (line : List ℕ) (lines : List (List ℕ)) (rest : List ℕ)
    → flat_map command_frame (line ∷ lines) ++ rest ≡ command_frame line ++ (flat_map command_frame lines ++ rest)
regroup line lines rest = append_assoc (command_frame line) (flat_map command_frame lines) rest

abbrev NoMore : List ℕ → Type 0
NoMore rest = (text more : List ℕ) → IsCommand text → rest ≡ command_frame text ++ more → ⊥

same_split : (lines others : List (List ℕ)) (rest remains : List ℕ) → AllByRecursion IsCommand lines
    → AllByRecursion IsCommand others → NoMore rest → NoMore remains
    → flat_map command_frame lines ++ rest ≡ flat_map command_frame others ++ remains
    → (lines ≡ others) × (rest ≡ remains)
same_split [] [] rest remains p q r s e = (refl, e)
same_split [] (other ∷ others) rest remains p q r s e =
    absurd (r other (flat_map command_frame others ++ remains) q.0 (e ∙ regroup other others remains))
same_split (line ∷ lines) [] rest remains p q r s e =
    absurd (s line (flat_map command_frame lines ++ rest) p.0 (sym e ∙ regroup line lines rest))
same_split (line ∷ lines) (other ∷ others) rest remains p q r s e =
    let first = same_frame line other _ _ p.0 q.0 (sym (regroup line lines rest) ∙ e ∙ regroup other others remains) in
    let others_too = same_split lines others rest remains p.1 q.1 r s first.1 in
    (λ i. first.0 i ∷ others_too.0 i, others_too.1)

pub one_split_lem : (bytes : List ℕ) (lines others : List (List ℕ)) (rest remains : List ℕ)
    → Splits IsCommand command_frame bytes lines rest → Splits IsCommand command_frame bytes others remains
    → (lines ≡ others) × (rest ≡ remains)
one_split_lem bytes lines others rest remains p q =
    same_split lines others rest remains p.each q.each p.no_more q.no_more (sym p.whole ∙ q.whole)

-- ---- the whole commands that the bytes begin with are the split

abbrev NoNul : List ℕ → Type 0
NoNul text = has_no_nul text ≡ true

-- the bytes are texts that a NUL ends, and then a text that none ends
record Ended (bytes : List ℕ) (texts : List (List ℕ)) : Type 0 where
  last : List ℕ
  whole : bytes ≡ flat_map command_frame texts ++ last
  each : AllByRecursion NoNul texts
  no_nul : NoNul last

no_nul-cons : (b : ℕ) (bs : List ℕ) → eqb b 0 ≡ false → NoNul bs → NoNul (b ∷ bs)
no_nul-cons b bs e h = rw (e, h) refl

ended-widened : (b : ℕ) (bs : List ℕ) (texts : List (List ℕ)) → eqb b 0 ≡ false → Ended bs texts
    → Ended (b ∷ bs) (widened b texts)
ended-widened b bs [] e h =
    record { last = b ∷ h.last; whole = ap (λ l. b ∷ l) h.whole; each = tt; no_nul = no_nul-cons b h.last e h.no_nul }
ended-widened b bs (text ∷ texts) e h = record {
  last = h.last;
  whole = ap (λ l. b ∷ l) h.whole;
  each = (no_nul-cons b text e h.each.0, h.each.1);
  no_nul = h.no_nul;
}

ended_cons : (b : ℕ) (bs : List ℕ) → Ended bs (ended_texts bs) → (t : Bool) → eqb b 0 ≡ t
    → Ended (b ∷ bs) (cond t ([] ∷ ended_texts bs) (widened b (ended_texts bs)))
ended_cons b bs h true e = record {
  last = h.last;
  whole = λ i. eqb-true b 0 e i ∷ h.whole i;
  each = (refl, h.each);
  no_nul = h.no_nul;
}
ended_cons b bs h false e = ended-widened b bs (ended_texts bs) e h

ended_are : (bytes : List ℕ) → Ended bytes (ended_texts bytes)
ended_are [] = record { last = []; whole = refl; each = tt; no_nul = refl }
ended_are (b ∷ bs) = ended_cons b bs (ended_are bs) (eqb b 0) refl

abbrev Left : List (List ℕ) → List ℕ → List (List ℕ) → Type 0
Left texts last lines =
    (rest : List ℕ) × Splits IsCommand command_frame (flat_map command_frame texts ++ last) lines rest

ends_there : (last : List ℕ) → NoNul last → Splits IsCommand command_frame last [] last
ends_there last h = record {
  whole = refl;
  each = tt;
  no_more = λ text more is e. no_nul-at text more (subst NoNul (e ∙ framed text more) h);
}

fits_in : (text : List ℕ) (texts : List (List ℕ)) (last : List ℕ) → NoNul text → length text ≤ command_limit
    → (lines : List (List ℕ)) → Left texts last lines → Left (text ∷ texts) last (text ∷ lines)
fits_in text texts last h fits lines left = (
  left.0,
  record {
    whole = regroup text texts last ∙ ap (λ l. command_frame text ++ l) left.1.whole ∙ sym (regroup text lines left.0);
    each = (record { no_nul = h; fits = fits }, left.1.each);
    no_more = left.1.no_more;
  },
)

too_long : (text : List ℕ) (texts : List (List ℕ)) (last : List ℕ) → NoNul text → (length text ≤ command_limit → ⊥)
    → Left (text ∷ texts) last []
too_long text texts last h long = (
  flat_map command_frame (text ∷ texts) ++ last,
  record {
    whole = refl;
    each = tt;
    no_more = λ other more is e.
        let same = same_text text other _ more h is.no_nul (sym (regroup text texts last ∙ framed text _) ∙ e
        ∙ framed other more) in
        long (subst (λ (l : List ℕ). length l ≤ command_limit) (sym same.0) is.fits);
  },
)

left_after : (texts : List (List ℕ)) (last : List ℕ) → AllByRecursion NoNul texts → NoNul last
    → Left texts last (up_to_limit texts)
left_after [] last each h = (last, ends_there last h)
left_after (text ∷ texts) last each h =
    left_cons text texts last each.0 (left_after texts last each.1 h) (leb (length text) command_limit) refl where
      left_cons : (text : List ℕ) (texts : List (List ℕ)) (last : List ℕ) → NoNul text →
          Left texts last (up_to_limit texts)
          → (t : Bool) → leb (length text) command_limit ≡ t
          → Left (text ∷ texts) last (cond t (text ∷ up_to_limit texts) [])
      left_cons text texts last h left true e = fits_in text texts last h (leb-true _ _ e) (up_to_limit texts) left
      left_cons text texts last h left false e = too_long text texts last h
          (λ fits. false≢true (sym e ∙ le-leb _ _ fits))

pub commands_split : (bytes : List ℕ) → Splits IsCommand command_frame bytes (commands_in bytes) (rest_of bytes)
commands_split bytes =
    let ended = ended_are bytes in
    let left = left_after (ended_texts bytes) ended.last ended.each ended.no_nul in
    let whole : bytes ≡ flat_map command_frame (commands_in bytes) ++ left.0 = ended.whole ∙ left.1.whole in
    let rest : left.0 ≡ rest_of bytes = sym (ap (drop (length (flat_map command_frame (commands_in bytes)))) whole
    ∙ drop-append_seam (flat_map command_frame (commands_in bytes)) left.0) in
    record {
      whole = whole ∙ ap (λ l. flat_map command_frame (commands_in bytes) ++ l) rest;
      each = left.1.each;
      no_more = subst NoMore rest left.1.no_more;
    }
