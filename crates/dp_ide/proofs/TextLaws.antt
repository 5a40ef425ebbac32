-- What a text spells, byte by byte.
use Rattle.std.proofs.Common.{◌≡◌, ◌≢◌, inl, inr, ℕ, Bool, true, false, cond, eqb, List, [], ◌∷◌, ◌++◌, Option, Some, None, refl, sym, ap, ◌∙◌, subst, append_assoc, append-nil}
use Rattle.std.proofs.lemmas.Bool.{eqb-true, eqb-false, ne_eqb}
use Rattle.dp_ide.specs.Scripts.{InText, Text, byte_of}
use Rattle.dp_ide.specs.inner.Readers.{Reads, ReadsOn, escaped, first_of, in_hexadecimal}
use Rattle.dp_grammar.specs.Prefixes.{◌>>=◌}

-- two pairs that are one
abbrev both : ℕ → List ℕ → Option (ℕ × List ℕ)
both byte rest = Some (byte, rest)

same_pair : (a c : ℕ) (b d : List ℕ) → both a b ≡ both c d → (a ≡ c) × (b ≡ d)
same_pair a c b d same =
    (ap (λ (p : Option (ℕ × List ℕ)). head p) same, ap (λ (p : Option (ℕ × List ℕ)). tail p) same) where
      head : Option (ℕ × List ℕ) → ℕ
      head None = 0
      head (Some p) = p.0

      tail : Option (ℕ × List ℕ) → List ℕ
      tail None = []
      tail (Some p) = p.1

-- ---- the first byte

in_text_first : (byte : ℕ) (front rest : List ℕ) → InText byte front → first_of (front ++ rest) ≡ Some (byte, rest)
in_text_first byte front rest (inl (plain, same)) = rw (same, ne_eqb byte 92 plain) refl
in_text_first byte front rest (inr (inl (is, same))) = rw (same, is) refl
in_text_first byte front rest (inr (inr (inl (is, same)))) = rw (same, is) refl
in_text_first byte front rest (inr (inr (inr h))) = rw (h.whole, h.digits) refl

-- what is spelt first, and that it is
abbrev Begins : List ℕ → ℕ → List ℕ → Type 0
Begins bytes byte rest = (front : List ℕ) × (bytes ≡ front ++ rest) × InText byte front

hexadecimal_begins : (bytes : List ℕ) (byte : ℕ) (rest : List ℕ) → in_hexadecimal bytes ≡ Some (byte, rest)
    → Begins (92 ∷ 120 ∷ bytes) byte rest
hexadecimal_begins [] byte rest is = cc
hexadecimal_begins (high ∷ []) byte rest is = cc
hexadecimal_begins (high ∷ low ∷ more) byte rest is = made (byte_of high low) refl is where
  made : (found : Option ℕ) → byte_of high low ≡ found
      → (◌>>=◌ {B = ℕ × List ℕ} found (λ (b : ℕ). Some (b, more))) ≡ Some (byte, rest)
      → Begins (92 ∷ 120 ∷ high ∷ low ∷ more) byte rest
  made None digits e = cc
  made (Some b) digits e =
      let same = same_pair b byte more rest e in (
        92 ∷ 120 ∷ high ∷ low ∷ [],
        ap (λ l. 92 ∷ 120 ∷ high ∷ low ∷ l) same.1,
        inr (inr (inr (record { high = high; low = low; whole = refl; digits = digits ∙ ap (λ n. Some n) same.0 }))),
      )

escaped_begins : (bytes : List ℕ) (byte : ℕ) (rest : List ℕ) → escaped bytes ≡ Some (byte, rest)
    → Begins (92 ∷ bytes) byte rest
escaped_begins [] byte rest is = cc
escaped_begins (b ∷ bs) byte rest is = feed (eqb b 110) (eqb b 92) (eqb b 120) refl refl refl is where
  feed : (n s x : Bool) → eqb b 110 ≡ n → eqb b 92 ≡ s → eqb b 120 ≡ x
      → cond n (Some (10, bs)) (cond s (Some (92, bs)) (cond x (in_hexadecimal bs) None)) ≡ Some (byte, rest)
      → Begins (92 ∷ b ∷ bs) byte rest
  feed true s x n_is s_is x_is e =
      let same = same_pair 10 byte bs rest e in
      (92 ∷ 110 ∷ [], (λ i. 92 ∷ eqb-true b 110 n_is i ∷ same.1 i), inr (inl (sym same.0, refl)))
  feed false true x n_is s_is x_is e =
      let same = same_pair 92 byte bs rest e in
      (92 ∷ 92 ∷ [], (λ i. 92 ∷ eqb-true b 92 s_is i ∷ same.1 i), inr (inr (inl (sym same.0, refl))))
  feed false false true n_is s_is x_is e =
      subst (λ (k : ℕ). Begins (92 ∷ k ∷ bs) byte rest) (sym (eqb-true b 120 x_is)) (hexadecimal_begins bs byte rest e)
  feed false false false n_is s_is x_is e = cc

pub first_begins : (bytes : List ℕ) (byte : ℕ) (rest : List ℕ) → first_of bytes ≡ Some (byte, rest)
    → Begins bytes byte rest
first_begins [] byte rest is = cc
first_begins (b ∷ bs) byte rest is = feed (eqb b 92) refl is where
  feed : (s : Bool) → eqb b 92 ≡ s → cond s (escaped bs) (Some (b, bs)) ≡ Some (byte, rest) → Begins (b ∷ bs) byte rest
  feed true s_is e =
      subst (λ (k : ℕ). Begins (k ∷ bs) byte rest) (sym (eqb-true b 92 s_is)) (escaped_begins bs byte rest e)
  feed false s_is e =
      let same = same_pair b byte bs rest e in
      (b ∷ [], ap (λ l. b ∷ l) same.1, inl ((λ is. eqb-false b 92 s_is (same.0 ∙ is)), ap (λ k. k ∷ []) same.0))

-- ---- a text

-- what a text spells that begins so
text_behind_first : (later rest : List ℕ) (byte : ℕ) (behind : List ℕ) → first_of rest ≡ Some (byte, behind)
    → Text later rest → (more : List ℕ) × (later ≡ byte ∷ more) × Text more behind
text_behind_first [] rest byte behind first is =
    let none : first_of [] ≡ Some (byte, behind) = subst (λ (l : List ℕ). first_of l ≡ Some (byte, behind)) is first in
    cc
text_behind_first (a ∷ more) rest byte behind first is =
    let also : first_of rest ≡ Some (a, is.back) = ap first_of is.whole ∙ in_text_first a is.front is.back is.first in
    let same = same_pair a byte is.back behind (sym also ∙ first) in
    (more, ap (λ k. k ∷ more) same.0, subst (Text more) same.1 is.second)

pub reads_more : (bytes text rest : List ℕ) (byte : ℕ) (behind : List ℕ) → ReadsOn bytes text rest
    → first_of rest ≡ Some (byte, behind) → ReadsOn bytes (text ++ byte ∷ []) behind
reads_more bytes text rest byte behind so_far first = record {
  goes = λ later is.
      let begins = first_begins rest byte behind first in
      let all : Text (byte
      ∷ later) rest = record { front = begins.0; back = behind; whole = begins.1; first = begins.2; second = is } in
      subst (λ (l : List ℕ). Text l bytes) (sym (append_assoc text (byte ∷ []) later)) (so_far.goes (byte ∷ later) all);
  comes = λ all is.
      let came = so_far.comes all is in
      let next = text_behind_first came.0 rest byte behind first came.2 in
      (next.0, came.1 ∙ ap (λ l. text ++ l) next.1 ∙ sym (append_assoc text (byte ∷ []) next.0), next.2);
}

-- the empty bytes spell the empty text alone
text_of_none : (later : List ℕ) → Text later [] → later ≡ []
text_of_none [] is = refl
text_of_none (a ∷ more) is =
    let none : first_of [] ≡ Some (a, is.back) = ap first_of is.whole ∙ in_text_first a is.front is.back is.first in cc

pub reads_all : (bytes text rest : List ℕ) → rest ≡ [] → ReadsOn bytes text rest → Reads Text bytes (Some text)
reads_all bytes text rest none so_far = (
  subst (λ (l : List ℕ). Text l bytes) (append-nil text) (so_far.goes [] none),
  λ other is.
      let came = so_far.comes other is in
      came.1 ∙ ap (λ l. text ++ l) (text_of_none came.0 (subst (Text came.0) none came.2)) ∙ append-nil text,
)

pub reads_none : (bytes text rest : List ℕ) → rest ≢ [] → first_of rest ≡ None → ReadsOn bytes text rest
    → Reads Text bytes None
reads_none bytes text rest some first so_far = λ other is.
    let came = so_far.comes other is in nothing came.0 came.2 where
      nothing : (later : List ℕ) → Text later rest → ⊥
      nothing [] is = some is
      nothing (a ∷ more) is =
          let also : first_of rest ≡ Some (a, is.back) = ap first_of is.whole ∙ in_text_first a is.front is.back
          is.first in
          let both : Some (a, is.back) ≡ None = sym also ∙ first in cc
