-- Texts among whose tokens no variable, `isset`, include, call or `;` stands: each front of what is spelled goes on to
-- such a text.
use Rattle.std.proofs.Common.{◌≡◌, ◌⊎◌, inl, inr, ℕ, zero, suc, ◌<◌, Bool, true, false, not, ◌&&◌, ◌||◌, List, [], ◌∷◌, ◌++◌, Option, Some, None, sym, refl, ap, ◌∙◌, subst, append_assoc, append-nil}
use Rattle.dp_lexer.specs.declared.token.Token.{Token}
use Rattle.dp_lexer.specs.declared.token.TokenKind.{TokenKind}
use Rattle.dp_token_rules.specs.declared.terminal.Terminal.TheVariants.{Of}
use Rattle.dp_lexer.specs.declared.token.Word.TheVariants as word
use Rattle.dp_token_rules.specs.declared.terminal.Terminal.{Terminal}
use Rattle.dp_token_rules.specs.declared.terminal.Terminal.TheVariants as terminal
use Rattle.dp_token_rules.specs.Terminals.{terminal_of, same_terminal, is}
use Rattle.dp_token_rules.specs.Rules.{Rule, Joined, ◌or◌, Gives, Made, One, line_at, Mark, When, Nests, Chain, Closed, Many, Perhaps}
use Rattle.dp_token_rules.proofs.Terminals.{and_parts, both, not_true, placed, mark_alone}
use Rattle.dp_token_rules.proofs.Answers.{Rules, StartsIn}
use Rattle.dp_parse.specs.Statements.{never_constant, ends_constant, is_of_constants}

-- ---- lists of tokens

-- one list parted in two places
pub parted : (f b p q : List Token) → f ++ b ≡ p ++ q
    → ((r : List Token) × (p ≡ f ++ r) × (b ≡ r ++ q))
    ⊎ ((y : Token) × (r : List Token) × (f ≡ p ++ (y ∷ r)) × (q ≡ (y ∷ r) ++ b))
parted [] b p q e = inl (p, refl, e)
parted (y ∷ f) b [] q e = inr (y, f, refl, sym e)
parted (y ∷ f) b (x ∷ p) q e =
    let same : y ≡ x = cc in
    let rest : f ++ b ≡ p ++ q = cc in
    elim (parted f b p q rest) [
      | inl h ↦ inl (h.0, (λ i. sym same i ∷ h.1 i), h.2)
      | inr h ↦ inr (h.0, h.1, (λ i. same i ∷ h.2 i), h.3)
    ]

-- whether what comes behind these tokens stands behind a name
abbrev pub named_after : Bool → List Token → Bool
named_after named [] = named
named_after named (t ∷ ts) = named_after (is terminal.Name (terminal_of t.kind)) ts

and_behind : (k x y z : Bool) → x ≡ (y && z) → (k && x) ≡ ((k && y) && z)
and_behind true x y z e = e
and_behind false x y z e = refl

constants_split : (named : Bool) (f b : List Token)
    → is_of_constants named (f ++ b) ≡ (is_of_constants named f && is_of_constants (named_after named f) b)
constants_split named [] b = refl
constants_split named (t ∷ f) b =
    let name = is terminal.Name (terminal_of t.kind) in
    and_behind (not (ends_constant named (terminal_of t.kind))) (is_of_constants name (f ++ b)) (is_of_constants name f)
    (is_of_constants (named_after name f) b) (constants_split name f b)

pub constants_parts : (named : Bool) (f b : List Token) → is_of_constants named (f ++ b) ≡ true
    → (is_of_constants named f ≡ true) × (is_of_constants (named_after named f) b ≡ true)
constants_parts named f b e =
    and_parts (is_of_constants named f) (is_of_constants (named_after named f) b) (sym (constants_split named f b) ∙ e)

pub constants_both : (named : Bool) (f b : List Token) → is_of_constants named f ≡ true
    → is_of_constants (named_after named f) b ≡ true
    → is_of_constants named (f ++ b) ≡ true
constants_both named f b one other =
    constants_split named f b ∙ both (is_of_constants named f) (is_of_constants (named_after named f) b) one other

-- ---- how a front goes on

module _ {A : Type 0} (rule : Rule A) where
  -- a text of constants that begins so is spelled
  abbrev pub GoesOn : Bool → List Token → Type 0
  GoesOn named front =
      (more : List Token) × (a : A) × rule (front ++ more) a × (is_of_constants named (front ++ more) ≡ true)

  -- each front of the text that is one of constants, and not empty, goes on so
  abbrev pub HasFronts : Bool → List Token → Type 0
  HasFronts named text =
      (x : Token) (front more : List Token) → text ≡ x ∷ (front ++ more) → is_of_constants named (x ∷ front) ≡ true
      → GoesOn named (x ∷ front)

  abbrev pub GoOn : Type 0
  GoOn = (named : Bool) (text : List Token) (a : A) → rule text a → HasFronts named text

  pub record Good : Type 0 where
    pub fronts : GoOn
    pub least : (named : Bool) → GoesOn named []

pub wider : {A : Type 0} (rule other : Rule A) → ((text : List Token) (a : A) → rule text a → other text a)
    → (named : Bool) (text : List Token) → HasFronts rule named text → HasFronts other named text
wider rule other to named text one x front more split of_constants =
    let g = one x front more split of_constants in (g.0, g.1, to (x ∷ (front ++ g.0)) g.1 g.2, g.3)

-- a rule among others
pub among : {A : Type 0} (rule other : Rule A) → ((text : List Token) (a : A) → rule text a → other text a)
    → GoOn rule → (named : Bool) (text : List Token) (a : A) → rule text a → HasFronts other named text
among rule other to one named text a h = wider rule other to named text (one named text a h)

-- ---- one after the other

module _ {A B : Type 0} (first : Rule A) (second : A → Rule B)
    (least : (named : Bool) (f : List Token) (a : A) → first f a → GoesOn (second a) (named_after named f) []) where
  -- behind all of the first
  behind_first : (named : Bool) (p f : List Token) (a : A) → first f a → p ≡ f → is_of_constants named p ≡ true
      → GoesOn (Joined first second) named p
  behind_first named p f a h same of_constants =
      let g = least named f a h in (
        g.0,
        g.1,
        record { front = f; back = g.0; value = a; split = ap (λ l. l ++ g.0) same; one = h; other = g.2 },
        constants_both named p g.0 of_constants
            (subst (λ l. is_of_constants (named_after named l) g.0 ≡ true) (sym same) g.3),
      )

  pub joined_fronts : (named : Bool) (text : List Token) (b : B) → (j : Joined first second text b)
      → HasFronts first named j.front → ((n : Bool) → HasFronts (second j.value) n j.back)
      → HasFronts (Joined first second) named text
  joined_fronts named text b j one other x front more split of_constants =
      elim (parted j.front j.back (x ∷ front) more (sym j.split ∙ split)) [
        | inl h ↦ behind h.0 h.1 h.2
        | inr h ↦ (let g = one x front (h.0 ∷ h.1) h.2 of_constants in
            let p : List Token = x ∷ (front ++ g.0) in
            let c = behind_first named p p g.1 g.2 refl g.3 in
            let whole : p ++ c.0 ≡ (x ∷ front) ++ (g.0 ++ c.0) = append_assoc (x ∷ front) g.0 c.0 in (
              g.0 ++ c.0,
              c.1,
              subst (λ l. Joined first second l c.1) whole c.2,
              subst (λ l. is_of_constants named l ≡ true) whole c.3,
            ))
      ]
    where
      behind : (r : List Token) → x ∷ front ≡ j.front ++ r → j.back ≡ r ++ more
          → GoesOn (Joined first second) named (x ∷ front)
      behind [] same back =
          behind_first named (x ∷ front) j.front j.value j.one (same ∙ append-nil j.front) of_constants
      behind (z ∷ r) same back =
          let parts = constants_parts named j.front (z ∷ r)
          (subst (λ l. is_of_constants named l ≡ true) same of_constants) in
          let g = other (named_after named j.front) z r more back parts.1 in
          let rest : List Token = z ∷ (r ++ g.0) in
          let whole : (x ∷ front) ++ g.0 ≡ j.front ++ rest = ap (λ l. l ++ g.0) same
          ∙ append_assoc j.front (z ∷ r) g.0 in (
            g.0,
            g.1,
            record { front = j.front; back = rest; value = j.value; split = whole; one = j.one; other = g.2 },
            subst (λ l. is_of_constants named l ≡ true) (sym whole) (constants_both named j.front rest parts.0 g.3),
          )

pub joined_go_on : {A B : Type 0} (first : Rule A) (second : A → Rule B) → GoOn first
    → ((a : A) → Good (second a)) → GoOn (Joined first second)
joined_go_on first second one other named text b j =
    joined_fronts first second (λ n f a h. (other a).least (named_after n f)) named text b j
    (one named j.front j.value j.one) (λ n. (other j.value).fronts n j.back b j.other)

pub joined_good : {A B : Type 0} (first : Rule A) (second : A → Rule B) → Good first
    → ((a : A) → Good (second a)) → Good (Joined first second)
joined_good first second one other = record {
  fronts = joined_go_on first second one.fronts other;
  least =
      λ named. let f = one.least named in let g = (other f.1).least (named_after named f.0) in (
        f.0 ++ g.0,
        g.1,
        record { front = f.0; back = g.0; value = f.1; split = refl; one = f.2; other = g.2 },
        constants_both named f.0 g.0 f.3 g.3,
      );
}

-- ---- no token, and one

pub gives_good : {A : Type 0} (a : A) → Good {A = A} (Gives a)
gives_good a = record {
  fronts =
      λ named text b h x front more split of_constants.
      absurd (let none : [] ≡ x ∷ (front ++ more) = sym h.empty ∙ split in cc);
  least = λ named. ([], a, record { empty = refl; same = refl }, refl);
}

pub made_go_on : {A B : Type 0} (rule : Rule A) (f : A → B) → GoOn rule → GoOn (Made rule f)
made_go_on rule f one = joined_go_on rule (λ a. Gives (f a)) one (λ a. gives_good (f a))

pub made_good : {A B : Type 0} (rule : Rule A) (f : A → B) → Good rule → Good (Made rule f)
made_good rule f one = joined_good rule (λ a. Gives (f a)) one (λ a. gives_good (f a))

pub one_goes_on : {A : Type 0} (worth : Token → Option A) → GoOn (One worth)
one_goes_on worth named text a h x front more split of_constants = go front none of_constants
  where
    alone : x ∷ (front ++ more) ≡ h.symbol ∷ []
    alone = sym split ∙ h.alone

    same : x ≡ h.symbol
    same = let e = alone in cc

    none : front ++ more ≡ []
    none = let e = alone in cc

    go : (front : List Token) → front ++ more ≡ [] → is_of_constants named (x ∷ front) ≡ true
        → GoesOn (One worth) named (x ∷ front)
    go [] none of_constants =
        ([], a, record { symbol = x; alone = refl; is_worth = ap worth same ∙ h.is_worth }, of_constants)
    go (y ∷ front) none of_constants = absurd (cc)

pub mark_good : (s : Terminal) (k : TokenKind) → same_terminal (terminal_of k) s ≡ true
    → ((named : Bool) → is_of_constants named (placed k ∷ []) ≡ true) → Good (Mark s)
mark_good s k is_sort of_constants = record {
  fronts = one_goes_on (line_at s);
  least = λ named. (placed k ∷ [], 1, mark_alone s k is_sort, of_constants named);
}

-- ---- conditions and choices

pub nests_go_on : {A : Type 0} (level : ℕ) (rule : Rule A) → (0 < level → GoOn rule) → GoOn (Nests level rule)
nests_go_on level rule one named text a h =
    among rule (Nests level rule) (λ l b k. record { some = h.some; spelled = k }) (one h.some) named text a h.spelled

pub when_goes_on : {A : Type 0} (condition : Bool) (rule : Rule A) → GoOn rule → GoOn (When condition rule)
when_goes_on condition rule one named text a h =
    among rule (When condition rule) (λ l b k. record { holds = h.holds; spelled = k }) one named text a h.spelled

pub either_go_on : {A : Type 0} (first second : Rule A) → GoOn first → GoOn second → GoOn (first or second)
either_go_on first second one other named text a (inl h) =
    among first (first or second) (λ l b k. inl k) one named text a h
either_go_on first second one other named text a (inr h) =
    among second (first or second) (λ l b k. inr k) other named text a h

pub or_good : {A : Type 0} (first second : Rule A) → GoOn first → Good second → Good (first or second)
or_good first second one other = record {
  fronts = either_go_on first second one other.fronts;
  least = λ named. let g = other.least named in (g.0, g.1, inr g.2, g.3);
}

pub perhaps_good : {A : Type 0} (rule : Rule A) → GoOn rule → Good (Perhaps rule)
perhaps_good rule one = or_good (Made rule Some) (Gives None) (made_go_on rule Some one) (gives_good None)

-- what begins with a token that stands in no constant has no front of constants
pub never_go_on : {L A : Type 0} (rule : Rules L A) → StartsIn rule never_constant → (m : L) → GoOn (rule m)
never_go_on rule starts m named text a h x front more split of_constants =
    let s = starts m text a h in
    let begins : s.0 ∷ s.1 ≡ x ∷ (front ++ more) = sym s.2 ∙ split in
    let same : s.0 ≡ x = cc in
    let never : never_constant (terminal_of x.kind) ≡ true = ap (λ t. never_constant (terminal_of t.kind)) (sym same)
    ∙ s.3 in
    let yes : ends_constant named (terminal_of x.kind) ≡ true =
    ap (λ b. b || (is (Of word.OpenParenthesis) (terminal_of x.kind) && named)) never in
    let no : ends_constant named (terminal_of x.kind) ≡ false =
    not_true (ends_constant named (terminal_of x.kind)) (and_parts (not (ends_constant named (terminal_of x.kind)))
    (is_of_constants (is terminal.Name (terminal_of x.kind)) front) of_constants).0 in
    absurd (cc)

-- ---- any number of pieces

module _ {A B : Type 0} (piece : A → Rule A) (end : A → Rule B) (pieces : (a : A) → GoOn (piece a))
    (ends : (a : A) → Good (end a)) where
  ended : (a : A) (text : List Token) (b : B) → end a text b → Closed piece end a text b
  ended a text b h = record { count = 0; chain = h }

  one_more : (a : A) (text : List Token) (b : B) → Joined (piece a) (Closed piece end) text b
      → Closed piece end a text b
  one_more a text b j = record {
    count = suc j.other.count;
    chain = record {
      front = j.front;
      back = j.back;
      value = j.value;
      split = j.split;
      one = j.one;
      other = j.other.chain;
    };
  }

  closed_least : (a : A) (named : Bool) → GoesOn (Closed piece end a) named []
  closed_least a named = let g = (ends a).least named in (g.0, g.1, ended a g.0 g.1 g.2, g.3)

  chain_fronts : (count : ℕ) (a : A) (named : Bool) (text : List Token) (b : B)
      → Chain piece end count a text b → HasFronts (Closed piece end a) named text
  chain_fronts zero a named text b h =
      wider (end a) (Closed piece end a) (ended a) named text ((ends a).fronts named text b h)
  chain_fronts (suc count) a named text b j =
      wider (Joined (piece a) (Closed piece end)) (Closed piece end a) (one_more a) named text
      (joined_fronts (piece a) (Closed piece end) (λ n f v h. closed_least v (named_after n f)) named text b
      (record {
        front = j.front;
        back = j.back;
        value = j.value;
        split = j.split;
        one = j.one;
        other = record { count = count; chain = j.other };
      })
      (pieces a named j.front j.value j.one) (λ n. chain_fronts count j.value n j.back b j.other))

  pub closed_good : (a : A) → Good (Closed piece end a)
  closed_good a =
      record { fronts = λ named text b c. chain_fronts c.count a named text b c.chain; least = closed_least a }

pub many_good : {A : Type 0} (rule : Rule A) → GoOn rule → Good (Many rule)
many_good rule one =
    closed_good (λ all. Made rule (λ a. all ++ a ∷ [])) (λ all. Gives all)
    (λ all. made_go_on rule (λ a. all ++ a ∷ []) one) (λ all. gives_good all) []
