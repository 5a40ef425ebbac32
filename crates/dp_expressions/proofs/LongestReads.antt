-- What the outcomes of readers say, in the words of their rules.
use Rattle.std.proofs.Common.{◌≡◌, inl, inr, ℕ, zero, suc, ◌+◌, ◌-◌, ◌<◌, ◌≤◌, Bool, true, false, List, [], ◌∷◌, ◌++◌, length, take, Ok, Err, sym, refl, ap, ◌∙◌, subst, append_assoc, append-nil, length-append, arith}
use Rattle.std.proofs.Math.Seq.{take-append_seam, take-append-add}
use Rattle.dp_lexer.specs.declared.token.Token.{Token}
use Rattle.dp_expressions.specs.declared.operand.Part.{Part}
use Rattle.dp_expressions.specs.declared.operand.Part.TheVariants as part
use Rattle.dp_grammar.specs.declared.refusal.Refusal.TheVariants.{Unexpected, TooDeep, Memory}
use Rattle.dp_token_rules.specs.declared.terminal.Terminal.TheVariants.{Of}
use Rattle.dp_lexer.specs.declared.token.Word.TheVariants as word
use Rattle.dp_token_rules.specs.declared.terminal.Terminal.TheVariants as terminal
use Rattle.dp_tree.specs.declared.tree.Expression.{Expression}
use Rattle.dp_grammar.specs.Rules.{head as first}
use Rattle.dp_token_rules.specs.Terminals.{terminal_of, is, head}
use Rattle.dp_token_rules.specs.Refused.{IsViable, IsDeadAt, IsUnexpected, IsTooDeep}
use Rattle.dp_token_rules.specs.inner.Input.{Outcome, Reader}
use Rattle.dp_token_rules.proofs.Answers.{Rules, Stop, Begins, IsRead, IsRefused, Agrees, Answers}
use Rattle.dp_token_rules.proofs.More.{level_self}
use Rattle.dp_expressions.specs.Grammar.{inner, IsPlace}
use Rattle.dp_expressions.specs.Longest.{IsLongest, IsReadBy, rule_of, may_read}
use Rattle.dp_expressions.specs.inner.Readers.{reading, reading_place}
use Rattle.dp_expressions.proofs.Heights.{stop_at}
use Rattle.dp_expressions.proofs.Least.{zero_text, zero_tree, variable_text, variable_place, index_text, least_operand, least_coalesce, least_whole, least_expression, least_index, least_is_place}
use Rattle.dp_expressions.proofs.ExpressionParts.{At, stop_of, index_starts}
use Rattle.dp_expressions.proofs.ExpressionAnswers.{expression_answers, place_answers}

-- The reader reads the rule at this level, of tokens that it may read, as what is spelled is.
pub record ReadsAt {A : Type 0} (rule : Rules ℕ A) (stop : Stop A) (level : ℕ) (may : List Token → Type 0)
    (p : Reader A) : Type 0 where
  pub stops : (a : A) → stop a terminal.End ≡ true
  pub answers : (ts : List Token) → may ts → Answers ◌≤◌ rule stop level ts (p ts)
  pub spelled_may : (text : List Token) (a : A) → rule level text a → may text
  pub some : (ts : List Token) × (a : A) × rule level ts a

module _ {A : Type 0} {rule : Rules ℕ A} {stop : Stop A} {level : ℕ} {may : List Token → Type 0} {p : Reader A}
    (reader : ReadsAt rule stop level may p) where
  begins_whole : (m : ℕ) (ts : List Token) (a : A) → rule m ts a → Begins rule stop m ts a []
  begins_whole m ts a h = record { text = ts; split = sym (append-nil ts); spelled = h; stops = reader.stops a }

  -- a text has one value
  one_value : (text : List Token) (a : A) → rule level text a → (m : ℕ) (b : A) → rule m text b → b ≡ a
  one_value text a h m b g = go (p text) (reader.answers text (reader.spelled_may text a h))
    where
      refused : (deep : Bool) (left : ℕ) → IsRefused ◌≤◌ rule stop level text deep left → ⊥
      refused deep left r =
          r.dead level (λ _. refl) text (agrees r.front r.rest r.split) a [] (begins_whole level text a h)
        where
          agrees : (front rest : List Token) → text ≡ front ++ rest → Agrees front rest text
          agrees front [] e = e ∙ append-nil front
          agrees front (x ∷ rest) e = (rest, e)

      same : (x : A) (r : List Token) → IsRead ◌≤◌ rule stop level text x r → (n : ℕ) (c : A) → rule n text c → c ≡ x
      same x r read n c k =
          (read.only n r refl c [] (subst (λ l. Begins rule stop n l c []) read.split (begins_whole n text c k))).0

      go : (o : Outcome A) → Answers ◌≤◌ rule stop level text o → b ≡ a
      go (Ok x) read = same x.0 x.1 read m b g ∙ sym (same x.0 x.1 read level a h)
      go (Err (Unexpected left)) r = absurd (refused false left r)
      go (Err (TooDeep left)) r = absurd (refused true left r)
      go (Err Memory) r = absurd r

  longest : (ts : List Token) (a : A) (r : List Token) → IsRead ◌≤◌ rule stop level ts a r → IsLongest rule level ts a r
  longest ts a r read = record {
    text = read.text;
    split = read.split;
    spelled = read.spelled level (level_self level);
    only = one_value read.text a (read.spelled level (level_self level));
    ends = λ m next more is v.
        let e : read.text ++ (next ∷ v.0) ≡ (read.text ++ (next ∷ []))
        ++ v.0 = sym (append_assoc read.text (next ∷ []) v.0) in
        let h : rule m (read.text ++ (next ∷ v.0)) v.1 = subst (λ l. rule m l v.1) (sym e) v.2 in
        let k = read.only m (next ∷ v.0) (ap first (sym is)) v.1 []
        (begins_whole m (read.text ++ (next ∷ v.0)) v.1 h) in
        let none : [] ≡ next ∷ v.0 = k.1 in cc;
  }

  -- ---- refusals

  module _ (ts : List Token) (deep : Bool) (left : ℕ) (refused : IsRefused ◌≤◌ rule stop level ts deep left) where
    lengths : length ts ≡ length refused.front + left
    lengths =
        let e = ap length refused.split in let f = length-append refused.front refused.rest in let g = refused.is_left
        in omega (arith, e, f, g)

    left_within : left ≤ length ts
    left_within = let e = lengths in omega (arith, e)

    token_is : length ts - left ≡ length refused.front
    token_is = let e = lengths in omega (arith, e)

    front_is : take (length ts - left) ts ≡ refused.front
    front_is = (λ i. take (token_is i) (refused.split i)) ∙ take-append_seam refused.front refused.rest

    one_more_is : (x : Token) (after : List Token) → refused.rest ≡ x ∷ after
        → take (length ts - left + 1) ts ≡ refused.front ++ (x ∷ [])
    one_more_is x after e =
        (λ i. take (token_is i + 1) ((refused.split ∙ ap (λ l. refused.front ++ l) e) i))
        ∙ take-append-add refused.front (x ∷ after) 1

    viable_before : IsViable rule level (take (length ts - left) ts)
    viable_before = subst (λ l. IsViable rule level l) (sym front_is) (elim refused.viable [
      | inl empty ↦ (
        reader.some.0,
        reader.some.1,
        subst (λ l. rule level (l ++ reader.some.0) reader.some.1)
            (sym empty) reader.some.2,
      )
      | inr more ↦ more
    ])

    dead_at : (m : ℕ) → (deep ≡ true → m ≡ level) → IsDeadAt rule m ts (length ts - left)
    dead_at m bound = go refused.rest refl
      where
        none : (us : List Token) → Agrees refused.front refused.rest us → (a : A) → rule m us a → ⊥
        none us agrees a h = refused.dead m bound us agrees a [] (begins_whole m us a h)

        go : (rest : List Token) → refused.rest ≡ rest → IsDeadAt rule m ts (length ts - left)
        go [] is = record {
          here =
              λ within v. absurd (let e = lengths in let f = ap length is in let g = refused.is_left in omega
              (arith, e, f, g));
          end = λ at s. none ts (subst (λ l. Agrees refused.front l ts) (sym is)
              (refused.split ∙ ap (λ l. refused.front ++ l) is ∙ append-nil refused.front)) s.0 s.1;
        }
        go (x ∷ after) is = record {
          here = λ within v.
              none (take (length ts - left + 1) ts ++ v.0)
              (subst (λ l. Agrees refused.front l (take (length ts - left + 1) ts ++ v.0)) (sym is)
              (v.0, ap (λ l. l ++ v.0) (one_more_is x after is) ∙ append_assoc refused.front (x ∷ []) v.0)) v.1 v.2;
          end = λ at s. absurd (let e = lengths in let f = ap length is in let g = refused.is_left in omega
              (arith, at, e, f, g));
        }

  unexpected : (ts : List Token) (left : ℕ) → IsRefused ◌≤◌ rule stop level ts false left
      → IsUnexpected rule level ts (length ts - left)
  unexpected ts left r =
      record {
        within = omega arith;
        before = viable_before ts false left r;
        dead = λ m. dead_at ts false left r m
            (λ deep. absurd (cc));
      }

  too_deep : (ts : List Token) (left : ℕ) → IsRefused ◌≤◌ rule stop level ts true left
      → IsTooDeep rule level ts (length ts - left)
  too_deep ts left r =
      let w = r.beyond refl in
      let less : length ts - left < length ts = (let e = lengths ts true left r in let f = ap length w.6 in let g =
      r.is_left in omega (arith, e, f, g)) in record {
        within = less;
        before = viable_before ts true left r;
        here = (dead_at ts true left r level (λ _. refl)).here less;
        beyond = (
          w.0,
          (
            w.4,
            w.5,
            subst (λ l. rule w.0 l w.5) (sym
                (ap (λ l. l ++ w.4) (one_more_is ts true left r w.2 w.3 w.6)
                ∙ append_assoc r.front (w.2 ∷ []) w.4)) w.7,
          ),
        );
      }

  pub reads_at : (ts : List Token) → may ts → IsReadBy rule level ts (p ts)
  reads_at ts ok = go (p ts) (reader.answers ts ok)
    where
      go : (o : Outcome A) → Answers ◌≤◌ rule stop level ts o → IsReadBy rule level ts o
      go (Ok x) read = longest ts x.0 x.1 read
      go (Err (Unexpected left)) r = (left_within ts false left r, unexpected ts left r)
      go (Err (TooDeep left)) r = (left_within ts true left r, too_deep ts left r)
      go (Err Memory) r = absurd r

-- ---- expressions and places

bracket : (text : List Token)
    → (x : Token) × (rest : List Token) × (text ≡ x ∷ rest) × (is (Of word.OpenBracket) (terminal_of x.kind) ≡ true)
    → is (Of word.OpenBracket) (head text) ≡ true
bracket text s = ap (λ l. is (Of word.OpenBracket) (head l)) s.2 ∙ s.3

pub part_reads : (p : Part) (level : ℕ) (ts : List Token) → may_read p level ts
    → IsReadBy (rule_of p) level ts (reading level p ts)
part_reads part.Whole level ts may =
    reads_at {rule = At part.Whole} {stop = stop_of part.Whole} {level = level} {may = λ _. Unit {0}}
    {p = reading level part.Whole} (record {
      stops = λ a. refl;
      answers = λ us _. expression_answers part.Whole level us refl;
      spelled_may = λ text a h. tt;
      some = (zero_text, zero_tree, least_expression level);
    }) ts tt
part_reads part.Coalesce level ts may =
    reads_at {rule = At part.Coalesce} {stop = stop_of part.Coalesce} {level = level} {may = λ _. Unit {0}}
    {p = reading level part.Coalesce} (record {
      stops = λ a. refl;
      answers = λ us _. expression_answers part.Coalesce level us refl;
      spelled_may = λ text a h. tt;
      some = (zero_text, zero_tree, least_coalesce level (inner level));
    }) ts tt
part_reads part.Alone level ts may =
    reads_at {rule = At part.Alone} {stop = stop_of part.Alone} {level = level} {may = λ _. Unit {0}}
    {p = reading level part.Alone} (record {
      stops = λ a. refl;
      answers = λ us _. expression_answers part.Alone level us refl;
      spelled_may = λ text a h. tt;
      some = (zero_text, zero_tree, least_operand level (inner level));
    }) ts tt
part_reads part.Index level ts may =
    reads_at {rule = At part.Index} {stop = stop_of part.Index} {level = level}
    {may = λ us. is (Of word.OpenBracket) (head us) ≡ true} {p = reading level part.Index} (record {
      stops = λ a. refl;
      answers = λ us ok. expression_answers part.Index level us ok;
      spelled_may = λ text a h. bracket text (index_starts level text a h);
      some = some_index level may.0;
    }) ts (ap (is (Of word.OpenBracket)) may.1)
  where
    some_index : (level : ℕ) → 0 < level → (us : List Token) × (a : Expression) × At part.Index level us a
    some_index zero some = absurd (omega arith)
    some_index (suc k) some =
        (index_text, zero_tree, least_index (suc k) (inner (suc k)) some (least_whole k (inner k)))

pub place_reads : (level : ℕ) (ts : List Token) → IsReadBy IsPlace level ts (reading_place level ts)
place_reads level ts =
    reads_at {rule = IsPlace} {stop = stop_at 1} {level = level} {may = λ _. Unit {0}} {p = reading_place level}
    (record {
      stops = λ a. refl;
      answers = λ us _. place_answers level us;
      spelled_may = λ text a h. tt;
      some = (variable_text, variable_place, least_is_place level);
    }) ts tt
