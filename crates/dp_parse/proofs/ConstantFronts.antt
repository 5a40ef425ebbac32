-- What a reader of the first tokens, before the first that ends a constant, answers of the rule among tokens of
-- constants.
use Rattle.std.proofs.Common.{◌≡◌, ◌⊎◌, inl, inr, ℕ, suc, ◌+◌, ◌-◌, ◌<◌, Bool, true, false, not, ◌&&◌, List, [], ◌∷◌, ◌++◌, length, take, drop, Ok, Err, cond, sym, refl, ap, ◌∙◌, subst, append_assoc, append-nil, length-append, arith}
use Rattle.std.proofs.lemmas.List.{take-append-drop, drop_at}
use Rattle.dp_lexer.specs.declared.token.Token.{Token}
use Rattle.dp_grammar.specs.declared.refusal.Refusal.TheVariants.{Unexpected, TooDeep, Memory}
use Rattle.dp_grammar.specs.Rules.{head as first}
use Rattle.dp_token_rules.specs.declared.terminal.Terminal.TheVariants as terminal
use Rattle.dp_token_rules.specs.Terminals.{terminal_of, is, head}
use Rattle.dp_token_rules.specs.inner.Input.{Outcome, Reader}
use Rattle.dp_token_rules.proofs.Terminals.{both}
use Rattle.dp_token_rules.proofs.Answers.{Rules, Stop, Begins, IsRead, IsRefused, Agrees, Answers}
use Rattle.dp_parse.specs.Statements.{ends_constant, is_of_constants, OfConstants}
use Rattle.dp_parse.specs.inner.StatementRules.{constants_len, of_first, of_constants}
use Rattle.dp_parse.proofs.ConstantTexts.{parted, constants_parts, GoOn}

-- ---- the first tokens, before the first that ends a constant

front_length : (named : Bool) (ts : List Token) → length (take (constants_len named ts) ts) ≡ constants_len named ts
front_length named [] = refl
front_length named (t ∷ ts) =
    go (ends_constant named (terminal_of t.kind)) (front_length (is terminal.Name (terminal_of t.kind)) ts)
  where
    go : (b : Bool) → length (take (constants_len (is terminal.Name (terminal_of t.kind)) ts) ts)
        ≡ constants_len (is terminal.Name (terminal_of t.kind)) ts
        → length (take (cond b 0 (suc (constants_len (is terminal.Name (terminal_of t.kind)) ts))) (t ∷ ts))
        ≡ cond b 0 (suc (constants_len (is terminal.Name (terminal_of t.kind)) ts))
    go true e = refl
    go false e = ap (λ n. suc n) e

front_of_constants : (named : Bool) (ts : List Token) → is_of_constants named (take (constants_len named ts) ts) ≡ true
front_of_constants named [] = refl
front_of_constants named (t ∷ ts) =
    go (ends_constant named (terminal_of t.kind)) refl (front_of_constants (is terminal.Name (terminal_of t.kind)) ts)
  where
    go : (b : Bool) → ends_constant named (terminal_of t.kind) ≡ b
        → is_of_constants (is terminal.Name (terminal_of t.kind))
        (take (constants_len (is terminal.Name (terminal_of t.kind)) ts) ts) ≡ true
        → is_of_constants named
        (take (cond b 0 (suc (constants_len (is terminal.Name (terminal_of t.kind)) ts))) (t ∷ ts)) ≡ true
    go true ended e = refl
    go false ended e = both (not (ends_constant named (terminal_of t.kind))) _ (ap not ended) e

-- with the token behind them they are not
front_ends : (named : Bool) (ts : List Token) (y : Token) (rest : List Token)
    → drop (constants_len named ts) ts ≡ y ∷ rest
    → (more : List Token) → is_of_constants named (take (constants_len named ts) ts ++ (y ∷ more)) ≡ false
front_ends named [] y rest e more = absurd (cc)
front_ends named (t ∷ ts) y rest e more =
    go (λ h. front_ends (is terminal.Name (terminal_of t.kind)) ts y rest h more)
    (ends_constant named (terminal_of t.kind))
    refl e
  where
    go : (drop (constants_len (is terminal.Name (terminal_of t.kind)) ts) ts ≡ y ∷ rest
        → is_of_constants (is terminal.Name (terminal_of t.kind))
        (take (constants_len (is terminal.Name (terminal_of t.kind)) ts) ts ++ (y ∷ more)) ≡ false)
        → (b : Bool) → ends_constant named (terminal_of t.kind) ≡ b
        → drop (cond b 0 (suc (constants_len (is terminal.Name (terminal_of t.kind)) ts))) (t ∷ ts) ≡ y ∷ rest
        → is_of_constants named
        (take (cond b 0 (suc (constants_len (is terminal.Name (terminal_of t.kind)) ts))) (t ∷ ts)
        ++ (y ∷ more)) ≡ false
    go again true ended e =
        let same : t ≡ y = cc in
        ap (λ u. not (ends_constant named (terminal_of u.kind)) && is_of_constants
        (is terminal.Name (terminal_of u.kind)) more)
        (sym same)
        ∙ ap (λ b. not b && is_of_constants (is terminal.Name (terminal_of t.kind)) more) ended
    go again false ended e =
        ap (λ b. not b && is_of_constants (is terminal.Name (terminal_of t.kind))
        (take (constants_len (is terminal.Name (terminal_of t.kind)) ts) ts ++ (y ∷ more))) ended
        ∙ again e

-- how many they are, token by token

pub none_of_constants : (named : Bool) (ts : List Token) → ends_constant named (head ts) ≡ true
    → constants_len named ts ≡ 0
none_of_constants named [] e = refl
none_of_constants named (t ∷ ts) e = ap
    (λ b. cond b 0 (suc (constants_len (is terminal.Name (terminal_of t.kind)) ts))) e

pub one_of_constants : (named : Bool) (ts : List Token) → 0 < length ts → ends_constant named (head ts) ≡ false
    → constants_len named ts ≡ suc (constants_len (is terminal.Name (head ts)) (drop 1 ts))
one_of_constants named [] some e = absurd (omega arith)
one_of_constants named (t ∷ ts) some e = ap
    (λ b. cond b 0 (suc (constants_len (is terminal.Name (terminal_of t.kind)) ts))) e

pub no_tokens : (named : Bool) (ts : List Token) → length ts ≡ 0 → constants_len named ts ≡ 0
no_tokens named [] e = refl
no_tokens named (t ∷ ts) e = absurd (omega arith)

pub one_less : (ts : List Token) → 0 < length ts → suc (length (drop 1 ts)) ≡ length ts
one_less [] some = absurd (omega arith)
one_less (t ∷ ts) some = refl

one_behind : (f : List Token) (x : Token) → f ++ (x ∷ []) ≡ [] → ⊥
one_behind [] x e = cc
one_behind (y ∷ f) x e = cc

-- ---- the rule among tokens of constants

abbrev pub OfConstantsAt : {L A : Type 0} → Rules L A → Rules L A
OfConstantsAt rule = λ m. OfConstants (rule m)

module _ {L A : Type 0} (Above : L → L → Type 0) (rule : Rules L A) (stop : Stop A) (level : L)
    (at_end : (a : A) → stop a terminal.End ≡ true) (go_on : (m : L) → GoOn (rule m)) where
  of_any : (m : L) (us : List Token) (a : A) (q : List Token) → Begins (OfConstantsAt rule) stop m us a q
      → Begins rule stop m us a q
  of_any m us a q b = record { text = b.text; split = b.split; spelled = b.spelled.spelled; stops = b.stops }

  -- a front of constants of what is spelled goes on to what is spelled among tokens of constants
  constants_on : (m : L) (p more : List Token) (a : A) → rule m (p ++ more) a → is_of_constants false p ≡ true
      → (p ≡ []) ⊎ ((after : List Token) × (b : A) × OfConstantsAt rule m (p ++ after) b)
  constants_on m [] more a h of_constants = inl refl
  constants_on m (x ∷ p) more a h of_constants =
      let g = go_on m false (x ∷ (p ++ more)) a h x p more refl of_constants in
      inr (g.0, g.1, record { of_constants = g.3; spelled = g.2 })

  -- what is of constants ends before a token with which it is not
  within : (f : List Token) (y : Token) → ((more : List Token) → is_of_constants false (f ++ (y ∷ more)) ≡ false)
      → (m : L) (more : List Token) (a : A) (q : List Token) → Begins (OfConstantsAt rule) stop m (f ++ (y ∷ more)) a q
      → (r : List Token) × (q ≡ r ++ (y ∷ more)) × Begins rule stop m f a r
  within f y ends m more a q b =
      elim (parted b.text q f (y ∷ more) (sym b.split)) [
        | inl h ↦ (
          h.0,
          h.2,
          record { text = b.text; split = h.1; spelled = b.spelled.spelled; stops = stops h.0 h.2 },
        )
        | inr h ↦ absurd (let e = h.3 in
            let same : h.0 ≡ y = cc in
            let no : is_of_constants false b.text ≡ false = ap (is_of_constants false) h.2
            ∙ ap (λ t. is_of_constants false (f ++ (t ∷ h.1))) same ∙ ends h.1 in
            let yes : is_of_constants false b.text ≡ true = b.spelled.of_constants in
            cc)
      ]
    where
      stops : (r : List Token) → q ≡ r ++ (y ∷ more) → stop a (head r) ≡ true
      stops [] e = at_end a
      stops (x ∷ r) e = subst (λ l. stop a (head l) ≡ true) e b.stops

  module _ (ts : List Token) where
    abbrev count : ℕ
    count = constants_len false ts

    abbrev front : List Token
    front = take count ts

    abbrev behind : List Token
    behind = drop count ts

    whole : ts ≡ front ++ behind
    whole = sym (take-append-drop count ts)

    -- the first tokens as those that were read and those that were not
    module _ (text r : List Token) (split : front ≡ text ++ r) where
      whole_is : ts ≡ text ++ (r ++ behind)
      whole_is = whole ∙ ap (λ l. l ++ behind) split ∙ append_assoc text r behind

      lengths : count ≡ length text + length r
      lengths = sym (front_length false ts) ∙ ap length split ∙ length-append text r

      text_of_constants : is_of_constants false text ≡ true
      text_of_constants =
          (constants_parts false text r
          (subst (λ l. is_of_constants false l ≡ true) split (front_of_constants false ts))).0

      -- where none is left, no text of constants goes on with the token behind them
      text_ends : r ≡ [] → (y : Token) (rest : List Token) → behind ≡ y ∷ rest
          → (more : List Token) → is_of_constants false (text ++ (y ∷ more)) ≡ false
      text_ends none y rest shown more =
          subst (λ l. is_of_constants false (l ++ (y ∷ more)) ≡ false)
          (split ∙ ap (λ l. text ++ l) none ∙ append-nil text) (front_ends false ts y rest shown more)

    module _ (a : A) (r : List Token) (read : IsRead Above rule stop level front a r) where
      only : (r1 rest : List Token) → r ≡ r1 → behind ≡ rest → (m : L) (s : List Token) → first s ≡ first (r1 ++ rest)
          → (b : A) (q : List Token) → Begins (OfConstantsAt rule) stop m (read.text ++ s) b q → (b ≡ a) × (q ≡ s)
      only (z ∷ r1) rest left shown m s e b q begins =
          read.only m s (e ∙ ap first (sym left)) b q (of_any m (read.text ++ s) b q begins)
      only [] [] left shown m s e b q begins =
          read.only m s (e ∙ ap first (sym left)) b q (of_any m (read.text ++ s) b q begins)
      only [] (y ∷ rest) left shown m [] e b q begins = absurd (cc)
      only [] (y ∷ rest) left shown m (z ∷ s) e b q begins =
          let same : z ≡ y = cc in
          let w = within read.text y (text_ends read.text r read.split left y rest shown) m s b q
          (subst (λ t. Begins (OfConstantsAt rule) stop m (read.text ++ (t ∷ s)) b q) same begins) in
          let o = read.only m [] (ap first (sym left)) b w.0
          (subst (λ l. Begins rule stop m l b w.0) (sym (append-nil read.text)) w.2) in
          (o.0, w.1 ∙ ap (λ l. l ++ (y ∷ s)) o.1 ∙ ap (λ t. t ∷ s) (sym same))

      found : IsRead Above (OfConstantsAt rule) stop level ts a (drop (count - length r) ts)
      found =
          let n = lengths read.text r read.split in
          let split = whole_is read.text r read.split in
          let left : drop (count - length r) ts ≡ r ++ behind = ap (drop (count - length r)) split
          ∙ drop_at read.text (r ++ behind) (count - length r) (omega (arith, n)) in
          subst (λ l. IsRead Above (OfConstantsAt rule) stop level ts a l) (sym left) (record {
            text = read.text;
            split = split;
            spelled = λ m above. record {
              of_constants = text_of_constants read.text r read.split;
              spelled = read.spelled m above;
            };
            only = only r behind refl refl;
          })

    module _ (deep : Bool) (left : ℕ) (refusal : IsRefused Above rule stop level front deep left) where
      dead : (r1 rest : List Token) → refusal.rest ≡ r1 → behind ≡ rest → (m : L) → (deep ≡ true → m ≡ level)
          → (us : List Token) → Agrees refusal.front (r1 ++ rest) us → (a : A) (q : List Token)
          → Begins (OfConstantsAt rule) stop m us a q → ⊥
      dead (z ∷ r1) rest at shown m bound us agrees a q begins =
          refusal.dead m bound us (subst (λ l. Agrees refusal.front l us) (sym at) agrees) a q
          (of_any m us a q begins)
      dead [] [] at shown m bound us agrees a q begins =
          refusal.dead m bound us (subst (λ l. Agrees refusal.front l us) (sym at) agrees) a q
          (of_any m us a q begins)
      dead [] (y ∷ rest) at shown m bound us agrees a q begins =
          let w = within refusal.front y (text_ends refusal.front refusal.rest refusal.split at y rest shown) m
          agrees.0 a q
          (subst (λ l. Begins (OfConstantsAt rule) stop m l a q) agrees.1 begins) in
          refusal.dead m bound refusal.front (subst (λ l. Agrees refusal.front l refusal.front) (sym at) refl) a w.0 w.2

      refused : IsRefused Above (OfConstantsAt rule) stop level ts deep (length ts - (count - left))
      refused = record {
        front = refusal.front;
        rest = refusal.rest ++ behind;
        split = whole_is refusal.front refusal.rest refusal.split;
        is_left =
            let n = lengths refusal.front refusal.rest refusal.split in
            let all = ap length (whole_is refusal.front refusal.rest refusal.split) in
            let one = length-append refusal.front (refusal.rest ++ behind) in
            let other = length-append refusal.rest behind in
            let last = refusal.is_left in
            omega (arith, n, all, one, other, last);
        viable = elim refusal.viable [
          | inl empty ↦ inl empty
          | inr more ↦ constants_on level refusal.front more.0 more.1 more.2
              (text_of_constants refusal.front refusal.rest refusal.split)
        ];
        dead = dead refusal.rest behind refl refl;
        beyond = λ is_deep. let w = refusal.beyond is_deep in
            let p : List Token = refusal.front ++ (w.2 ∷ []) in
            let split : front ≡ p ++ w.3 = refusal.split ∙ ap (λ l. refusal.front ++ l) w.6
            ∙ sym (append_assoc refusal.front (w.2 ∷ []) w.3) in
            let spelled : rule w.0 (p ++ w.4) w.5 = subst (λ l. rule w.0 l w.5)
            (sym (append_assoc refusal.front (w.2 ∷ []) w.4)) w.7 in
            elim (constants_on w.0 p w.4 w.5 spelled (text_of_constants p w.3 split)) [
              | inl empty ↦ absurd (one_behind refusal.front w.2 empty)
              | inr h ↦ (
                w.0,
                w.1,
                w.2,
                w.3 ++ behind,
                h.0,
                h.1,
                ap (λ l. l ++ behind) w.6,
                subst (λ l. OfConstantsAt rule w.0 l h.1) (append_assoc refusal.front (w.2 ∷ []) h.0) h.2,
              )
            ];
      }

  module _ (read : Reader A) (reads : (ts : List Token) → Answers Above rule stop level ts (read ts)) where
    pub of_constants_answers : (ts : List Token)
        → Answers Above (OfConstantsAt rule) stop level ts (of_constants read ts)
    unfolding of_constants
    of_constants_answers ts = go (read (take (constants_len false ts) ts)) (reads (take (constants_len false ts) ts))
      where
        go : (o : Outcome A) → Answers Above rule stop level (take (constants_len false ts) ts) o
            → Answers Above (OfConstantsAt rule) stop level ts (of_first ts (constants_len false ts) o)
        go (Ok x) h = found ts x.0 x.1 h
        go (Err (Unexpected left)) h = refused ts false left h
        go (Err (TooDeep left)) h = refused ts true left h
        go (Err Memory) h = h
