-- The lines of a text by how many bytes they have.
use Rattle.std.proofs.Common.{◌≡◌, ◌≢◌, ℕ, zero, suc, ◌+◌, ◌-◌, ◌<◌, ◌≤◌, ◌==◌, Bool, true, false, cond, List, [], ◌∷◌, length, drop, take, Option, Some, None, get_or, refl, sym, ap, ◌∙◌, arith, drop-cons}
use Rattle.std.specs.List.{flat_map}
use Rattle.std.specs.Prelude.{unwrap_or}
use Rattle.std.proofs.lemmas.Bool.{eq-eqb, ne_eqb}
use Rattle.std.proofs.lemmas.List.{drop_all}
use Rattle.dp_grammar.specs.Lines.{begun}
use Rattle.dp_view.specs.Source.{lines_between, lines_of, source_lines}
use Rattle.dp_view.specs.inner.Lines.{lines_length}
use Rattle.dp_grammar.proofs.Runs.{one_more}

abbrev joined : List (List ℕ) → List ℕ
joined lines = flat_map (λ line. line) lines

none_joined : (k : ℕ) → joined (take k []) ≡ []
none_joined zero = refl
none_joined (suc k) = refl

dropped_none : {A : Type 0} (k : ℕ) → drop {A = A} k [] ≡ []
dropped_none zero = refl
dropped_none (suc k) = refl

-- ---- a byte at the front of the first line

front_begun : (b n : ℕ) (lines : List (List ℕ))
    → joined (take (suc n) (begun b lines)) ≡ b ∷ joined (take (suc n) lines)
front_begun b n [] = ap (λ (t : List ℕ). b ∷ t) (none_joined n)
front_begun b n (line ∷ lines) = refl

back_begun : (b n : ℕ) (lines : List (List ℕ)) → drop (suc n) (begun b lines) ≡ drop (suc n) lines
back_begun b n [] = dropped_none n
back_begun b n (line ∷ lines) = refl

-- ---- the first lines, and those behind them

none_of : (n : ℕ) → joined (take n ([] ∷ [])) ≡ []
none_of zero = refl
none_of (suc n) = none_joined n

front_lines : (n : ℕ) (bytes : List ℕ) → joined (take n (lines_of bytes)) ≡ take (lines_length n bytes) bytes
front_lines zero bytes = refl
front_lines (suc n) [] = none_of (suc n)
front_lines (suc n) (b ∷ bytes) = by (b == 10) (front_lines n bytes) (front_lines (suc n) bytes) where
  by : (feed : Bool) → joined (take n (lines_of bytes)) ≡ take (lines_length n bytes) bytes
      → joined (take (suc n) (lines_of bytes)) ≡ take (lines_length (suc n) bytes) bytes
      → joined (take (suc n) (cond feed ((b ∷ []) ∷ lines_of bytes) (begun b (lines_of bytes)))) ≡ take
      (1 + lines_length (cond feed n (suc n)) bytes) (b ∷ bytes)
  by true ended going =
      ap (λ (t : List ℕ). b ∷ t) ended ∙ ap (λ k. take k (b ∷ bytes)) (one_more (lines_length n bytes))
  by false ended going =
      front_begun b n (lines_of bytes) ∙ ap (λ (t : List ℕ). b ∷ t) going
      ∙ ap (λ k. take k (b ∷ bytes)) (one_more (lines_length (suc n) bytes))

back_lines : (n : ℕ) (bytes : List ℕ) → joined (drop n (lines_of bytes)) ≡ drop (lines_length n bytes) bytes
back_lines zero bytes = whole bytes where
  whole : (bytes : List ℕ) → joined (lines_of bytes) ≡ bytes
  whole [] = refl
  whole (b ∷ bytes) = by (b == 10) (whole bytes) where
    by : (feed : Bool) → joined (lines_of bytes) ≡ bytes
        → joined (cond feed ((b ∷ []) ∷ lines_of bytes) (begun b (lines_of bytes))) ≡ b ∷ bytes
    by true more = ap (λ (t : List ℕ). b ∷ t) more
    by false more = begins (lines_of bytes) ∙ ap (λ (t : List ℕ). b ∷ t) more where
      begins : (lines : List (List ℕ)) → joined (begun b lines) ≡ b ∷ joined lines
      begins [] = refl
      begins (line ∷ lines) = refl
back_lines (suc n) [] = ap joined (dropped_none n)
back_lines (suc n) (b ∷ bytes) = by (b == 10) (back_lines n bytes) (back_lines (suc n) bytes) where
  by : (feed : Bool) → joined (drop n (lines_of bytes)) ≡ drop (lines_length n bytes) bytes
      → joined (drop (suc n) (lines_of bytes)) ≡ drop (lines_length (suc n) bytes) bytes
      → joined (drop (suc n) (cond feed ((b ∷ []) ∷ lines_of bytes) (begun b (lines_of bytes)))) ≡ drop
      (1 + lines_length (cond feed n (suc n)) bytes) (b ∷ bytes)
  by true ended going = ended ∙ ap (λ k. drop k (b ∷ bytes)) (one_more (lines_length n bytes))
  by false ended going =
      ap joined (back_begun b n (lines_of bytes)) ∙ going
      ∙ ap (λ k. drop k (b ∷ bytes)) (one_more (lines_length (suc n) bytes))

-- the first lines of what stands behind others
middle_lines : (n k : ℕ) (bytes : List ℕ)
    → joined (take k (drop n (lines_of bytes))) ≡ joined (take k (lines_of (drop (lines_length n bytes) bytes)))
middle_lines zero k bytes = refl
middle_lines (suc n) k [] =
    ap (λ (l : List (List ℕ)). joined (take k l)) (dropped_none n) ∙ none_joined k ∙ sym (none_of k)
middle_lines (suc n) k (b ∷ bytes) = by (b == 10) (middle_lines n k bytes) (middle_lines (suc n) k bytes) where
  by : (feed : Bool) → joined (take k (drop n (lines_of bytes))) ≡ joined
      (take k (lines_of (drop (lines_length n bytes) bytes)))
      → joined (take k (drop (suc n) (lines_of bytes))) ≡ joined
      (take k (lines_of (drop (lines_length (suc n) bytes) bytes)))
      → joined (take k (drop (suc n) (cond feed ((b ∷ []) ∷ lines_of bytes) (begun b (lines_of bytes)))))
      ≡ joined (take k (lines_of (drop (1 + lines_length (cond feed n (suc n)) bytes) (b ∷ bytes))))
  by true ended going =
      ended ∙ ap (λ m. joined (take k (lines_of (drop m (b ∷ bytes))))) (one_more (lines_length n bytes))
  by false ended going =
      ap (λ (l : List (List ℕ)). joined (take k l)) (back_begun b n (lines_of bytes)) ∙ going
      ∙ ap (λ m. joined (take k (lines_of (drop m (b ∷ bytes))))) (one_more (lines_length (suc n) bytes))

between_lines : (before last : ℕ) (bytes : List ℕ)
    → let back =
    drop (lines_length before bytes) bytes in take (lines_length (last - before) back) back ≡ joined
    (lines_between before (Some last) bytes)
between_lines before last bytes =
    sym (middle_lines before (last - before) bytes
    ∙ front_lines (last - before) (drop (lines_length before bytes) bytes))

-- ---- what is asked for

module _ (first last : Option ℕ) (before n : ℕ) (text back : List ℕ) (counted : before ≡ unwrap_or first 1 - 1)
    (n_is : n ≡ lines_length before text) (back_is : back ≡ drop n text) where
  back_same : back ≡ drop (lines_length before text) text
  back_same = back_is ∙ ap (λ k. drop k text) n_is

  pub after_line : last ≡ None → back ≡ source_lines first last text
  after_line none =
      back_same ∙ sym (back_lines before text)
      ∙ ap (λ k. joined (drop k (lines_of text))) counted
      ∙ ap (λ o. source_lines first o text) (sym none)

  pub up_to_line : (line m : ℕ) → last ≡ Some line → m ≡ lines_length (line - before) back
      → take m back ≡ source_lines first last text
  up_to_line line m some m_is =
      ap (λ k. take k back) m_is
      ∙ ap (λ (b : List ℕ). take (lines_length (line - before) b) b) back_same
      ∙ between_lines before line text
      ∙ ap (λ k. joined (lines_between k (Some line) text)) counted
      ∙ ap (λ o. source_lines first o text) (sym some)

-- ---- a turn of the loop

turn : (left at : ℕ) (text : List ℕ) → at < length text → 0 < left
    → lines_length left (drop at text) ≡ 1 + lines_length (cond (get_or text at 0 == 10) (left - 1) left)
    (drop (at + 1) text)
turn zero at text within some = absurd (omega arith)
turn (suc k) at text within some =
    let less : suc k - 1 ≡ k = omega arith in
    let more : at + 1 ≡ suc at = omega arith in
    let here : drop at text ≡ get_or text at 0 ∷ drop (suc at) text = drop-cons text at 0 (omega arith) in
    rw (less, more) (ap (lines_length (suc k)) here)

pub turn_feed : (left at : ℕ) (text : List ℕ) → at < length text → 0 < left → get_or text at 0 ≡ 10
    → lines_length left (drop at text) ≡ 1 + lines_length (left - 1) (drop (at + 1) text)
turn_feed left at text within some is =
    turn left at text within some
    ∙ ap (λ b. 1 + lines_length (cond b (left - 1) left) (drop (at + 1) text)) (eq-eqb (get_or text at 0) 10 is)

pub turn_other : (left at : ℕ) (text : List ℕ) → at < length text → 0 < left → get_or text at 0 ≢ 10
    → lines_length left (drop at text) ≡ 1 + lines_length left (drop (at + 1) text)
turn_other left at text within some is =
    turn left at text within some
    ∙ ap (λ b. 1 + lines_length (cond b (left - 1) left) (drop (at + 1) text)) (ne_eqb (get_or text at 0) 10 is)

pub ended : (left at : ℕ) (text : List ℕ) → length text ≤ at → lines_length left (drop at text) ≡ 0
ended left at text past = ap (lines_length left) (drop_all at text past) ∙ nothing left where
  nothing : (n : ℕ) → lines_length n [] ≡ 0
  nothing zero = refl
  nothing (suc n) = refl
