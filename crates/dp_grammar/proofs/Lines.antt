-- The lines of a text, and what they say one after another.
use Rattle.std.proofs.Common.{◌≡◌, ℕ, suc, ◌+◌, ◌<◌, ◌≤◌, ◌==◌, Bool, false, List, [], ◌∷◌, ◌++◌, length, take, get_or, Option, Some, None, refl, sym, ap, ◌∙◌, subst, append_assoc, append-nil, arith, length-take}
use Rattle.std.specs.Fn.{CalledAt}
use Rattle.std.specs.Iterator.{Yields}
use Rattle.std.specs.Slice.Iter.{split_rest, split_done, split_callee, split_steps}
use Rattle.std.proofs.lemmas.Iterator.{YieldsList}
use Rattle.std.proofs.lemmas.Iterator.Consumers.{YieldsList-turn, YieldsList-end}
use Rattle.std.proofs.lemmas.Iterator.Splits.{YieldsList-from_slice_split}
use Rattle.std.proofs.lemmas.List.{take_all, take_more}
use Rattle.dp_grammar.specs.Lines.{AreSaid, IsFirstBad, LineRule, Say, lines_of}
use Rattle.dp_grammar.specs.Texts.{Text}
use Rattle.dp_grammar.proofs.Verdicts.{one_unexpected, unexpected_spelled}

module _ {A : Type 0} (says : LineRule A) where
  -- ---- what lines say

  -- one line more
  said_more : (before : List A) (number : ℕ) (lines : List Text) (line : Text) (mid one : List A)
      → AreSaid says before number lines mid → says mid (number + length lines) line one
      → AreSaid says before number (lines ++ line ∷ []) (mid ++ one)
  said_more before number [] line mid one are is = (
    one,
    subst (λ (b : List A). says b number line one) are (subst (λ (n : ℕ). says mid n line one) (omega arith) is),
    ap (λ l. l ++ one) are,
  )
  said_more before number (first ∷ lines) line mid one are is = (
    are.0,
    are.1,
    said_more (before ++ are.0) (suc number) lines line mid one are.2
        (subst (λ (n : ℕ). says mid n line one) (omega arith) is),
  )

  -- what the lines before one of them say, and what this one says
  record AreSplit (before : List A) (number : ℕ) (lines : List Text) (line : Text) (after : List Text) (said : List A)
      : Type 0 where
    mid : List A
    are : AreSaid says before number lines mid
    one : List A
    is : says mid (number + length lines) line one
    later : AreSaid says (mid ++ one) (suc (number + length lines)) after said

  split_said : (before : List A) (number : ℕ) (lines : List Text) (line : Text) (after : List Text) (said : List A)
      → AreSaid says before number (lines ++ line ∷ after) said → AreSplit before number lines line after said
  split_said before number [] line after said are = record {
    mid = before;
    are = refl;
    one = are.0;
    is = subst (λ (n : ℕ). says before n line are.0) (omega arith) are.1;
    later = subst (λ (n : ℕ). AreSaid says (before ++ are.0) n after said) (omega arith) are.2;
  }
  split_said before number (first ∷ lines) line after said are =
      let rest = split_said (before ++ are.0) (suc number) lines line after said are.2 in
      record {
        mid = rest.mid;
        are = (are.0, are.1, rest.are);
        one = rest.one;
        is = subst (λ (n : ℕ). says rest.mid n line rest.one) (omega arith) rest.is;
        later = subst (λ (n : ℕ). AreSaid says (rest.mid ++ rest.one) n after said) (omega arith) rest.later;
      }

  -- where each line says one thing at most, lines do
  pub one_said : ((before : List A) (number : ℕ) (line : Text) (said other : List A) → says before number line said
      → says before number line other → said ≡ other)
      → (before : List A) (number : ℕ) (lines : List Text) (all others : List A) → AreSaid says before number lines all
      → AreSaid says before number lines others → all ≡ others
  one_said one before number [] all others p q = p ∙ sym q
  one_said one before number (line ∷ lines) all others p q =
      let same = one before number line p.0 q.0 p.1 q.1 in
      one_said one (before ++ p.0) (suc number) lines all others p.2
      (subst (λ (said : List A). AreSaid says (before ++ said) (suc number) lines others) (sym same) q.2)

  -- ---- while a text is read

  -- so many lines say these and nothing else
  pub record IsRead (text : Text) (number : ℕ) (said : List A) : Type 0 where
    pub good : Say says (take number (lines_of text)) said
    pub only : (other : List A) → Say says (take number (lines_of text)) other → other ≡ said

  module _ (text : Text) (number : ℕ) (said : List A) (line : Text) (read : IsRead text number said)
      (here : (number < length (lines_of text)) × (line ≡ get_or (lines_of text) number line)) where
    abbrev so_far : List Text
    so_far = take number (lines_of text)

    one_more : take (number + 1) (lines_of text) ≡ so_far ++ line ∷ []
    one_more = take_more (lines_of text) number line here.0 ∙ ap (λ l. so_far ++ l ∷ []) (sym here.1)

    place : 1 + length so_far ≡ number + 1
    place = omega (arith, here.0, length-take number (lines_of text))

    -- what this line says, where these lines say something
    said_here : (after : List Text) (all : List A) → (split : AreSplit [] 1 so_far line after all)
        → says said (number + 1) line split.one
    said_here after all split =
        subst (λ (b : List A). says b (number + 1) line split.one) (read.only split.mid split.are)
        (subst (λ (n : ℕ). says split.mid n line split.one) place split.is)

    pub read_on : (one : List A) → says said (number + 1) line one
        → ((other : List A) → says said (number + 1) line other → other ≡ one) → IsRead text (number + 1) (said ++ one)
    read_on one is alone = record {
      good =
          subst (λ l. Say says l (said ++ one)) (sym one_more) (said_more [] 1 so_far line said one read.good
          (subst (λ (n : ℕ). says said n line one) (sym place) is));
      only = λ other are.
          let s = split_said [] 1 so_far line [] other (subst (λ l. Say says l other) one_more are) in
          let same : s.one ≡ one = alone s.one (said_here [] other s) in
          s.later ∙ (λ i. read.only s.mid s.are i ++ same i);
    }

    pub read_bad : ((any : List A) → says said (number + 1) line any → ⊥) → IsFirstBad says text (number + 1)
    read_bad bad = (
      number,
      refl,
      record {
        within = let less = here.0 in omega arith;
        before = ([], said, subst (λ l. Say says l said) (sym (append-nil so_far)) read.good);
        dead = λ u. record {
          here = λ within v.
              let all = ap (λ l. l ++ v.0) one_more ∙ append_assoc so_far (line ∷ []) v.0 in
              let s = split_said [] 1 so_far line v.0 v.1 (subst (λ l. Say says l v.1) all v.2) in
              bad s.one (said_here v.0 v.1 s);
          end = λ at. let less = here.0 in absurd (omega arith);
        };
      },
    )

  -- all lines were read
  pub read_all : (text : Text) (number : ℕ) (said : List A) → IsRead text number said
      → length (lines_of text) ≤ number
      → Say says (lines_of text) said × ((other : List A) → Say says (lines_of text) other → other ≡ said)
  read_all text number said read all =
      let whole : take number (lines_of text) ≡ lines_of text = take_all number (lines_of text) all in (
        subst (λ l. Say says l said) whole read.good,
        λ other is. read.only other (subst (λ l. Say says l other) (sym whole) is),
      )

  -- ---- the first bad line

  -- a text of which all lines say something has no bad line
  pub no_bad : (text : Text) (number : ℕ) (said : List A) → IsFirstBad says text number → Say says (lines_of text) said
      → ⊥
  no_bad text number said bad = unexpected_spelled (λ (u : Unit {0}). Say says) tt tt bad.0 (lines_of text) said bad.2

  pub one_bad : (text : Text) (one other : ℕ) → IsFirstBad says text one → IsFirstBad says text other → one ≡ other
  one_bad text one other p q =
      let same = one_unexpected (λ (u : Unit {0}). Say says) tt p.0 q.0 (lines_of text) p.2 q.2 in
      p.1 ∙ ap (λ n. n + 1) same ∙ sym q.1

-- ---- a loop over the lines

-- what `split` at line feeds yields
pub lines_yielded : {F : Type 0} {s t : _} (g : _) {f : F} (text : Text) → s ≡ t → split_rest t ≡ text
    → split_done t ≡ false → split_callee t ≡ f
    → ((x : ℕ) (b : Bool) (q : F) → CalledAt g f x b q → (q ≡ f) × (b ≡ (x == 10)))
    → YieldsList (split_steps g) (λ x. x.now) s (lines_of text)
lines_yielded g text start rest done callee tests =
    YieldsList-from_slice_split g (λ b. b == 10) text (ap split_rest start ∙ rest) (ap split_done start ∙ done)
    (ap split_callee start ∙ callee) tests

module _ {S A : Type 0} {steps : S → Option A → S → Type 0} {v : A → Text} {s : S} (text : Text) (xs : List A)
    (t u : S) (number : ℕ) (count : number ≡ length xs) (yielded : Yields steps s xs t) where
  -- where the line of this turn is
  pub line_of_turn : (r : Option A) (x : A) → r ≡ Some x → steps t r u → YieldsList steps v s (lines_of text)
      → (number < length (lines_of text)) × (v x ≡ get_or (lines_of text) number (v x))
  line_of_turn r x is step list =
      subst (λ (k : ℕ). (k < length (lines_of text)) × (v x ≡ get_or (lines_of text) k (v x))) (sym count)
      (YieldsList-turn list xs t yielded r u x is step)

  -- behind the last turn all lines were yielded
  pub lines_end : (r : Option A) → r ≡ None → steps t r u → YieldsList steps v s (lines_of text)
      → length (lines_of text) ≤ number
  lines_end r is step list = omega (arith, count, (YieldsList-end list xs t yielded r u is step).1)
