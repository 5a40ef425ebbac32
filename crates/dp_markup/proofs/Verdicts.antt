-- What `read` and `head_attribute` say of the bytes, by the outcome of the reader.
use Rattle.std.proofs.Common.{◌≡◌, ◌⊎◌, inl, inr, ℕ, ◌-◌, ◌<◌, ◌≤◌, [], length, Ok, Err, sym, refl, ap, ◌∙◌, subst, append-nil, arith}
use Rattle.dp_grammar.specs.declared.refusal.Refusal.{Refusal}
use Rattle.dp_grammar.specs.declared.refusal.Refusal.TheVariants.{Unexpected, TooDeep, Memory}
use Rattle.dp_markup.specs.declared.tree.Element.{Element}
use Rattle.dp_markup.specs.declared.states.StartTag.{StartTag}
use Rattle.dp_markup.specs.Grammar.{Text, Document, limit, IsMarkup, Head, BeginsWithHead, heads}
use Rattle.dp_markup.specs.inner.Readers.{document, head_of}
use Rattle.dp_markup.specs.inner.Search.{sought_head}
use Rattle.dp_markup.specs.Refused.{IsFirstBad, IsFirstTooDeep}
use Rattle.dp_grammar.proofs.Verdicts.{ReadsAll, found, only, unexpected, too_deep, first_unexpected, first_too_deep, one_unexpected, not_both, unexpected_spelled, too_deep_spelled}
use Rattle.dp_markup.proofs.Answers.{Anything, Begins, IsRead, Answers, same_level}
use Rattle.dp_markup.proofs.SearchLaws.{sought_refused}
use Rattle.dp_markup.proofs.WholeTexts.{at_end, document_reads, document_ends, some_document, head_reads, some_head}

some_level : 0 < limit
unfolding limit
some_level = omega arith

reader : ReadsAll ◌≤◌ Document at_end limit (document limit)
reader = record {
  same_level = same_level limit;
  stops = λ e. refl;
  answers = document_reads limit some_level;
  leaves_none = λ ts e new is. let x : Element × Text = (e, new) in document_ends limit ts x is;
  some = some_document limit some_level;
}

-- ---- whole texts

pub left_in : (ts : Text) (left : ℕ)
    → (document limit ts ≡ Err (Unexpected left)) ⊎ (document limit ts ≡ Err (TooDeep left)) → left ≤ length ts
left_in ts left (inl is) = (unexpected reader ts left is).0
left_in ts left (inr is) = (too_deep reader ts left is).0

pub is_bad : (ts : Text) (left : ℕ) → document limit ts ≡ Err (Unexpected left)
    → IsFirstBad Document limit ts (length ts - left)
is_bad ts left is = (unexpected reader ts left is).1

pub is_too_deep : (ts : Text) (left : ℕ) → document limit ts ≡ Err (TooDeep left)
    → IsFirstTooDeep Document limit ts (length ts - left)
is_too_deep ts left is = (too_deep reader ts left is).1

pub is_markup : (ts : Text) (e : Element) (new : Text) → document limit ts ≡ Ok (e, new) → IsMarkup ts e
is_markup ts e new is = found reader ts e new is

pub one_markup : (ts : Text) (e : Element) (new : Text) → document limit ts ≡ Ok (e, new) → (other : Element)
    → IsMarkup ts other → e ≡ other
one_markup ts e new is other h = sym (only reader ts e new is limit other h)

pub not_markup : (ts : Text) (offset : ℕ) (e : Element) → IsFirstBad Document limit ts offset → IsMarkup ts e → ⊥
not_markup ts offset e bad h = unexpected_spelled Document limit limit offset ts e bad h

pub not_deep : (ts : Text) (offset : ℕ) (e : Element) → IsFirstTooDeep Document limit ts offset → IsMarkup ts e → ⊥
not_deep ts offset e deep h = too_deep_spelled Document limit offset ts e deep h

pub same_offset : (ts : Text) (at other : ℕ) → IsFirstBad Document limit ts at → IsFirstBad Document limit ts other
    → at ≡ other
same_offset ts at other = one_unexpected Document limit at other ts

pub one_kind : (ts : Text) (at other : ℕ) → IsFirstBad Document limit ts at → IsFirstTooDeep Document limit ts other → ⊥
one_kind ts at other = not_both Document limit at other ts

-- ---- heads

to_head : (m : ℕ) (ts : Text) (tag : StartTag) → Head ts tag → BeginsWithHead ts tag
to_head m ts tag h = record { front = ts; back = []; split = sym (append-nil ts); spelled = h }

abbrev begins_head : (m : ℕ) (ts : Text) (tag : StartTag) → BeginsWithHead ts tag
    → (r : Text) × Begins (λ _. Head) Anything m ts tag r
begins_head m ts tag b = (b.back, record { text = b.front; split = b.split; spelled = b.spelled; stops = refl })

head_unexpected : (ts : Text) (left : ℕ) → head_of ts ≡ Err (Unexpected left)
    → (left ≤ length ts) × IsFirstBad heads 0 ts (length ts - left)
head_unexpected = first_unexpected ◌≤◌ (λ _. Head) heads Anything 0 to_head begins_head head_of (head_reads 0) some_head

head_too_deep : (ts : Text) (left : ℕ) → head_of ts ≡ Err (TooDeep left)
    → (left ≤ length ts) × IsFirstTooDeep heads 0 ts (length ts - left)
head_too_deep = first_too_deep ◌≤◌ (λ _. Head) heads Anything 0 to_head begins_head head_of (head_reads 0) some_head

pub head_left_in : (ts : Text) (left : ℕ) → (head_of ts ≡ Err (Unexpected left)) ⊎ (head_of ts ≡ Err (TooDeep left))
    → left ≤ length ts
head_left_in ts left (inl is) = (head_unexpected ts left is).0
head_left_in ts left (inr is) = (head_too_deep ts left is).0

pub head_is_bad : (ts : Text) (left : ℕ) → head_of ts ≡ Err (Unexpected left) → IsFirstBad heads 0 ts (length ts - left)
head_is_bad ts left is = (head_unexpected ts left is).1

-- no head nests
pub head_not_deep : (ts : Text) (left : ℕ) → head_of ts ≡ Err (TooDeep left) → ⊥
head_not_deep ts left is = let d = (head_too_deep ts left is).1 in d.here d.beyond.1

module _ (ts : Text) (tag : StartTag) (new : Text) (is : head_of ts ≡ Ok (tag, new)) where
  head_read : IsRead (λ _. Head) Anything 0 ts tag new
  head_read = subst (λ o. Answers (λ _. Head) Anything 0 ts o) is (head_reads 0 ts)

  pub is_head : BeginsWithHead ts tag
  is_head =
      record {
        front = head_read.text;
        back = new;
        split = head_read.split;
        spelled = head_read.spelled 0
            (same_level 0);
      }

  pub one_head : (other : StartTag) → BeginsWithHead ts other → tag ≡ other
  one_head other b =
      let w = head_read.only 0 new refl other b.back (subst (λ l. Begins {L = ℕ} (λ _. Head) Anything 0 l other b.back)
      head_read.split (begins_head 0 ts other b).1) in
      sym w.0

pub not_head : (ts : Text) (offset : ℕ) (tag : StartTag) → IsFirstBad heads 0 ts offset → BeginsWithHead ts tag → ⊥
not_head ts offset tag bad h = unexpected_spelled heads 0 0 offset ts tag bad h

pub same_head_offset : (ts : Text) (at other : ℕ) → IsFirstBad heads 0 ts at → IsFirstBad heads 0 ts other → at ≡ other
same_head_offset ts at other = one_unexpected heads 0 at other ts

-- ---- the outcome at a call

pub found_at : (level : ℕ) (ts input : Text) (e : Element) (new : Text) → level ≡ limit → input ≡ ts
    → document level input ≡ Ok (e, new) → document limit ts ≡ Ok (e, new)
found_at level ts input e new l i is = (λ j. document (sym l j) (sym i j)) ∙ is

pub refused_at : (level : ℕ) (ts input : Text) (r s : Refusal) → level ≡ limit → input ≡ ts → r ≡ s → (s ≡ Memory → ⊥)
    → ((r ≡ Memory → ⊥) → document level input ≡ Err r) → document limit ts ≡ Err s
refused_at level ts input r s l i e other is =
    (λ j. document (sym l j) (sym i j)) ∙ is (λ h. other (sym e ∙ h)) ∙ ap Err e

head_refused_at : (ts input : Text) (r s : Refusal) → input ≡ ts → r ≡ s → (s ≡ Memory → ⊥)
    → ((r ≡ Memory → ⊥) → head_of input ≡ Err r) → head_of ts ≡ Err s
head_refused_at ts input r s i e other is = ap head_of (sym i) ∙ is (λ h. other (sym e ∙ h)) ∙ ap Err e

pub sought_refused_at : (root wanted ts input : Text) (r s : Refusal) → input ≡ ts → r ≡ s → (s ≡ Memory → ⊥)
    → ((r ≡ Memory → ⊥) → sought_head root wanted input ≡ Err r) → head_of ts ≡ Err s
sought_refused_at root wanted ts input r s i e other is =
    head_refused_at ts input r s i e other (λ h. sought_refused root wanted input r (is h))
