-- The rules of expressions in the form in which they are read, and that they spell the same.
use Rattle.std.proofs.Common.{◌≡◌, ◌⊎◌, inl, inr, ℕ, zero, suc, ◌<◌, List, [], ◌∷◌, ◌++◌, sym, refl, ap, ◌∙◌, subst, append_assoc, append-nil, arith}
use Rattle.dp_lexer.specs.declared.token.Token.{Token}
use Rattle.dp_expressions.specs.declared.operand.Operand.{Operand}
use Rattle.dp_expressions.specs.declared.operand.Operand.TheVariants as opened
use Rattle.dp_expressions.specs.declared.rank.Rank.{Rank}
use Rattle.dp_tree.specs.declared.tree.Expression.{Expression}
use Rattle.dp_tree.specs.declared.tree.Expression.TheVariants as tree
use Rattle.dp_tree.specs.declared.tree.Place.{Place}
use Rattle.dp_tree.specs.declared.tree.Order.TheVariants.{ValueFirst}
use Rattle.dp_token_rules.specs.declared.terminal.Terminal.TheVariants.{Of}
use Rattle.dp_lexer.specs.declared.token.Word.TheVariants as word
use Rattle.dp_token_rules.specs.Rules.{Rule, Joined, ◌or◌, Gives, Made, Mark, Nests, Chain, Closed, Many}
use Rattle.dp_expressions.specs.Grammar.{Inner, step_in, assignment_in, place, indexed, value_of, chained, assigned, Links, Ladder, PlaceOf, Index, PlaceRule, Isset, Primary, Prefixed, SteppedFirst, SteppedLast, OperandRule, CoalesceRest, CoalesceRule, ConditionalRest, ConditionalRule, IncludeRule, PushRule, ExpressionRule, IsExpression, ranks}
use Rattle.dp_expressions.specs.inner.Readers.{tree_of}
use Rattle.dp_token_rules.proofs.Answers.{give, given}
use Rattle.dp_token_rules.proofs.ListAnswers.{behind_made, made_behind}
use Rattle.dp_token_rules.specs.TokenValues.{number_in, Kind, Sort, Variable}

-- ---- one after the other

module _ {A B C : Type 0} (one : Rule A) (two : A → Rule B) (three : B → Rule C) where
  pub to_left : (text : List Token) (c : C) → Joined one (λ a. Joined (two a) three) text c
      → Joined (Joined one two) three text c
  to_left text c j = record {
    front = j.front ++ j.other.front;
    back = j.other.back;
    value = j.other.value;
    split = j.split ∙ ap (λ l. j.front ++ l) j.other.split ∙ sym (append_assoc j.front j.other.front j.other.back);
    one = record {
      front = j.front;
      back = j.other.front;
      value = j.value;
      split = refl;
      one = j.one;
      other =
          j.other.one;
    };
    other = j.other.other;
  }

  pub to_right : (text : List Token) (c : C) → Joined (Joined one two) three text c
      → Joined one (λ a. Joined (two a) three) text c
  to_right text c j = record {
    front = j.one.front;
    back = j.one.back ++ j.back;
    value = j.one.value;
    split = j.split ∙ ap (λ l. l ++ j.back) j.one.split ∙ append_assoc j.one.front j.one.back j.back;
    one = j.one.one;
    other =
        record { front = j.one.back; back = j.back; value = j.value; split = refl; one = j.one.other; other = j.other };
  }

pub first_by : {A B : Type 0} (one other : Rule A) (second : A → Rule B)
    → ((text : List Token) (a : A) → one text a → other text a) → (text : List Token) (b : B) → Joined one second text b
    → Joined other second text b
first_by one other second to text b j =
    record {
      front = j.front;
      back = j.back;
      value = j.value;
      split = j.split;
      one = to j.front j.value j.one;
      other =
          j.other;
    }

-- a rule behind a level of nesting, for a value made of its value
pub made_inside : {A B : Type 0} (level : ℕ) (rule : Rule A) (f : A → B) (text : List Token) (b : B)
    → Made (Nests level rule) f text b → Nests level (Made rule f) text b
made_inside level rule f text b h =
    let g = given (Nests level rule) f text b h in
    record { some = g.1.some; spelled = subst (λ x. Made rule f text x) (sym g.2) (give rule f text g.0 g.1.spelled) }

-- ---- pieces, and an end behind them

module _ {A B : Type 0} (piece : A → Rule A) (end : A → Rule B) where
  abbrev pub AllThenEnd : A → Rule B
  AllThenEnd a = Joined (Closed piece (λ x. Gives x) a) end

  apart : (count : ℕ) (a : A) (text : List Token) (b : B) → Chain piece end count a text b → AllThenEnd a text b
  apart zero a text b h =
      record {
        front = [];
        back = text;
        value = a;
        split = refl;
        one = record
            { count = 0; chain = record { empty = refl; same = refl } };
        other = h;
      }
  apart (suc count) a text b j =
      let k = apart count j.value j.back b j.other in
      record {
        front = j.front ++ k.front;
        back = k.back;
        value = k.value;
        split = j.split ∙ ap (λ l. j.front ++ l) k.split ∙ sym (append_assoc j.front k.front k.back);
        one = record {
          count = suc k.one.count;
          chain = record
              { front = j.front; back = k.front; value = j.value; split = refl; one = j.one; other = k.one.chain };
        };
        other = k.other;
      }

  pub all_then_end : (a : A) (text : List Token) (b : B) → Closed piece end a text b → AllThenEnd a text b
  all_then_end a text b c = apart c.count a text b c.chain

  together : (count : ℕ) (a x : A) (front back text : List Token) (b : B) → text ≡ front ++ back
      → Chain piece (λ x. Gives x) count a front x → end x back b → Closed piece end a text b
  together zero a x front back text b split g h =
      record {
        count = 0;
        chain = subst (λ l. end a l b) (sym (split ∙ ap (λ l. l ++ back) g.empty))
            (subst (λ y. end y back b) g.same h);
      }
  together (suc count) a x front back text b split j h =
      let k = together count j.value x j.back back (j.back ++ back) b refl j.other h in
      record {
        count = suc k.count;
        chain = record {
          front = j.front;
          back = j.back
              ++ back;
          value = j.value;
          split = split ∙ ap (λ l. l ++ back) j.split
              ∙ append_assoc j.front j.back back;
          one = j.one;
          other = k.chain;
        };
      }

  pub ended_after_all : (a : A) (text : List Token) (b : B) → AllThenEnd a text b → Closed piece end a text b
  ended_after_all a text b j = together j.one.count a j.value j.front j.back text b j.split j.one.chain j.other

-- a place, and an end behind it
module _ {B : Type 0} (index : Rule Expression) (end : Place → Rule B) where
  -- the same, with the end behind the last index
  abbrev pub PlaceUpTo : Rule B
  PlaceUpTo = Joined Variable (λ name. Closed (λ all. Made index (λ a. all ++ a ∷ [])) (λ all. end (place name all)) [])

  pub place_then_end : (text : List Token) (b : B) → PlaceUpTo text b → Joined (PlaceOf index) end text b
  place_then_end text b j =
      let k = all_then_end (λ all. Made index (λ a. all ++ a ∷ [])) (λ all. end (place j.value all))
      [] j.back b j.other in
      record {
        front = j.front ++ k.front;
        back = k.back;
        value = place j.value k.value;
        split = j.split ∙ ap (λ l. j.front ++ l) k.split ∙ sym (append_assoc j.front k.front k.back);
        one = record {
          front = j.front;
          back = k.front;
          value = j.value;
          split = refl;
          one = j.one;
          other = give
              (Many index) (place j.value) k.front k.value k.one;
        };
        other = k.other;
      }

  pub place_up_to : (text : List Token) (b : B) → Joined (PlaceOf index) end text b → PlaceUpTo text b
  place_up_to text b j =
      let p = j.one in
      let g = given (Many index) (place p.value) p.back j.value p.other in
      record {
        front = p.front;
        back = p.back ++ j.back;
        value = p.value;
        split = j.split ∙ ap (λ l. l ++ j.back) p.split ∙ append_assoc p.front p.back j.back;
        one = p.one;
        other =
            ended_after_all (λ all. Made index (λ a. all ++ a ∷ [])) (λ all. end (place p.value all)) []
            (p.back ++ j.back) b
            (record {
              front = p.back;
              back = j.back;
              value = g.0;
              split = refl;
              one = g.1;
              other = subst
                  (λ q. end q j.back b) g.2 j.other;
            });
      }

-- ---- operators behind an operand

-- a ladder from its first operand
abbrev pub From : List Rank → Rule Expression → Expression → Rule Expression
From [] operand first = Gives first
From (r ∷ more) operand first =
    Joined (From more operand first) (λ left. Made (Links (Ladder more operand) r) (λ links. chained left links))

pub from_first : (rs : List Rank) (operand : Rule Expression) (text : List Token) (e : Expression)
    → Ladder rs operand text e → Joined operand (From rs operand) text e
from_first [] operand text e h = give operand (λ a. a) text e h
from_first (r ∷ more) operand text e j =
    to_right operand (From more operand) (λ left. Made (Links (Ladder more operand) r) (λ links. chained left links))
    text e
    (first_by (Ladder more operand) (Joined operand (From more operand))
    (λ left. Made (Links (Ladder more operand) r) (λ links. chained left links)) (from_first more operand) text e j)

pub whole_ladder : (rs : List Rank) (operand : Rule Expression) (text : List Token) (e : Expression)
    → Joined operand (From rs operand) text e → Ladder rs operand text e
whole_ladder [] operand text e j = let g = given operand (λ a. a) text e j in subst (λ a. operand text a) (sym g.2) g.1
whole_ladder (r ∷ more) operand text e j =
    first_by (Joined operand (From more operand)) (Ladder more operand)
    (λ left. Made (Links (Ladder more operand) r) (λ links. chained left links)) (whole_ladder more operand) text e
    (to_left operand (From more operand) (λ left. Made (Links (Ladder more operand) r) (λ links. chained left links))
    text e j)

-- ---- operands

-- behind a place
abbrev pub StepLast : Place → Rule Operand
StepLast p = Made (Sort step_in) (λ by. opened.Other (tree.Step by ValueFirst p)) or Gives (opened.Place p)

-- `[]`, where a level is left
abbrev pub EmptyIndex : ℕ → Rule ℕ
EmptyIndex level = Nests level (Joined (Mark (Of word.OpenBracket)) (λ _. Mark (Of word.CloseBracket)))

module _ (level : ℕ) (i : Inner) where
  abbrev pub PrimaryIndexed : Rule Expression
  PrimaryIndexed = Joined (Primary level i) (λ base. Made (Many (Index level i)) (indexed base))

  -- an operand that begins with no variable
  abbrev pub OtherRule : Rule Expression
  OtherRule =
      Prefixed level i or SteppedFirst level i or Made (Kind number_in) tree.Number or Isset level i or PrimaryIndexed

  -- an operand
  abbrev pub AloneRule : Rule Expression
  AloneRule = Made (Joined (PlaceRule level i) StepLast) tree_of or OtherRule

  abbrev pub PlaceEnd : Place → Rule Operand
  PlaceEnd p = Made (EmptyIndex level) (λ _. opened.Push p) or StepLast p

  -- what an expression begins with, where it is a variable
  abbrev pub OpeningPlace : Rule Operand
  OpeningPlace = PlaceUpTo (Index level i) PlaceEnd

  abbrev pub OpeningRule : Rule Operand
  OpeningRule = OpeningPlace or Made OtherRule opened.Other

  pub other_operand : (text : List Token) (e : Expression) → OtherRule text e → OperandRule level i text e
  other_operand text e (inl h) = inl h
  other_operand text e (inr (inl h)) = inr (inl h)
  other_operand text e (inr (inr (inl h))) = inr (inr (inr (inl h)))
  other_operand text e (inr (inr (inr (inl h)))) = inr (inr (inr (inr (inl h))))
  other_operand text e (inr (inr (inr (inr h)))) = inr (inr (inr (inr (inr (inr h)))))

  pub place_operand : (text : List Token) (p : Place) → PlaceRule level i text p → OperandRule level i text (value_of p)
  place_operand text p h = inr (inr (inr (inr (inr (inl (give (PlaceRule level i) value_of text p h))))))

  stepped_operand : (text : List Token) (v : Operand) → Joined (PlaceRule level i) StepLast text v
      → OperandRule level i text (tree_of v)
  stepped_operand text v j = go j.other
    where
      go : StepLast j.value j.back v → OperandRule level i text (tree_of v)
      go (inl s) =
          let g = given (Sort step_in) (λ by. opened.Other (tree.Step by ValueFirst j.value)) j.back v s in
          inr (inr (inl (record {
            front = j.front;
            back = j.back;
            value = j.value;
            split = j.split;
            one = j.one;
            other =
                subst (λ x. Made (Sort step_in) (λ by. tree.Step by ValueFirst j.value) j.back (tree_of x)) (sym g.2)
                (give (Sort step_in) (λ by. tree.Step by ValueFirst j.value) j.back g.0 g.1);
          })))
      go (inr n) =
          let same : text ≡ j.front = j.split ∙ ap (λ l. j.front ++ l) n.empty ∙ append-nil j.front in
          subst (λ l. OperandRule level i l (tree_of v)) (sym same)
          (subst (λ x. OperandRule level i j.front (tree_of x)) (sym n.same) (place_operand j.front j.value j.one))

  pub to_operand : (text : List Token) (e : Expression) → AloneRule text e → OperandRule level i text e
  to_operand text e (inl h) =
      let g = given (Joined (PlaceRule level i) StepLast) tree_of text e h in subst (λ x. OperandRule level i text x)
      (sym g.2) (stepped_operand text g.0 g.1)
  to_operand text e (inr h) = other_operand text e h

  -- a place with `++` or `--` behind it
  stepped_alone : (text : List Token) (e : Expression) → SteppedLast level i text e
      → Joined (PlaceRule level i) StepLast text (opened.Other e)
  stepped_alone text e j =
      let g = given (Sort step_in) (λ by. tree.Step by ValueFirst j.value) j.back e j.other in
      record {
        front = j.front;
        back = j.back;
        value = j.value;
        split = j.split;
        one = j.one;
        other =
            inl (subst (λ x. Made (Sort step_in) (λ by. opened.Other (tree.Step by ValueFirst j.value)) j.back
            (opened.Other x)) (sym g.2) (give (Sort step_in) (λ by. opened.Other (tree.Step by ValueFirst j.value))
            j.back g.0 g.1));
      }

  place_alone : (text : List Token) (p : Place) → PlaceRule level i text p
      → Joined (PlaceRule level i) StepLast text (opened.Place p)
  place_alone text p h =
      record {
        front = text;
        back = [];
        value = p;
        split = sym (append-nil text);
        one = h;
        other = inr
            (record { empty = refl; same = refl });
      }

  pub from_operand : (text : List Token) (e : Expression) → OperandRule level i text e → AloneRule text e
  from_operand text e (inl h) = inr (inl h)
  from_operand text e (inr (inl h)) = inr (inr (inl h))
  from_operand text e (inr (inr (inl h))) =
      inl (give (Joined (PlaceRule level i) StepLast) tree_of text (opened.Other e) (stepped_alone text e h))
  from_operand text e (inr (inr (inr (inl h)))) = inr (inr (inr (inl h)))
  from_operand text e (inr (inr (inr (inr (inl h))))) = inr (inr (inr (inr (inl h))))
  from_operand text e (inr (inr (inr (inr (inr (inl h)))))) =
      let g = given (PlaceRule level i) value_of text e h in
      inl (subst (λ x. Made (Joined (PlaceRule level i) StepLast) tree_of text x) (sym g.2)
      (give (Joined (PlaceRule level i) StepLast) tree_of text (opened.Place g.0) (place_alone text g.0 g.1)))
  from_operand text e (inr (inr (inr (inr (inr (inr h)))))) = inr (inr (inr (inr (inr h))))

-- ---- expressions

-- Behind a place and `[]`, which is spelled only where a level is left. At level 0, where it is not, this is a rule
-- that the rules of the levels above spell too.
abbrev pub PushTail : ℕ → Inner → Place → Rule Expression
PushTail zero i to = Joined (Mark (Of word.Assign)) (λ _. Made (IsExpression 0) (tree.Push to))
PushTail (suc level) i to = Joined (Mark (Of word.Assign)) (λ _. Made i.expression (tree.Push to))

module _ (level : ℕ) (i : Inner) where
  -- an expression from its first operand
  abbrev pub Going : Expression → Rule Expression
  Going first =
      Joined (Joined (From ranks (OperandRule level i) first) (CoalesceRest level i)) (ConditionalRest level i)

  abbrev pub AssignmentTail : Place → Rule Expression
  AssignmentTail to =
      Nests level (Joined (Sort assignment_in) (λ how. Joined i.expression (λ from. Gives (assigned to how from))))

  abbrev pub Rest : Operand → Rule Expression
  Rest (opened.Push to) = PushTail level i to
  Rest (opened.Other first) = Going first
  Rest (opened.Place to) = AssignmentTail to or Going (value_of to)

  abbrev pub WholeRule : Rule Expression
  WholeRule = IncludeRule level i or Joined (OpeningRule level i) Rest

  going_on : (text : List Token) (e : Expression) → Joined (OperandRule level i) Going text e
      → ConditionalRule level i text e
  going_on text e j =
      first_by (Joined (Joined (OperandRule level i) (From ranks (OperandRule level i))) (CoalesceRest level i))
      (CoalesceRule level i) (ConditionalRest level i)
      (first_by (Joined (OperandRule level i) (From ranks (OperandRule level i))) (Ladder ranks (OperandRule level i))
      (CoalesceRest level i) (whole_ladder ranks (OperandRule level i))) text e
      (first_by (Joined (OperandRule level i) (λ first. Joined (From ranks (OperandRule level i) first)
      (CoalesceRest level i))) (Joined (Joined (OperandRule level i) (From ranks (OperandRule level i)))
      (CoalesceRest level i)) (ConditionalRest level i)
      (to_left (OperandRule level i) (From ranks (OperandRule level i)) (CoalesceRest level i)) text e
      (to_left (OperandRule level i) (λ first. Joined (From ranks (OperandRule level i) first) (CoalesceRest level i))
      (ConditionalRest level i) text e j))

  first_operand : (text : List Token) (e : Expression) → ConditionalRule level i text e
      → Joined (OperandRule level i) Going text e
  first_operand text e j =
      to_right (OperandRule level i) (λ first. Joined (From ranks (OperandRule level i) first) (CoalesceRest level i))
      (ConditionalRest level i) text e
      (first_by (Joined (Joined (OperandRule level i) (From ranks (OperandRule level i))) (CoalesceRest level i))
      (Joined (OperandRule level i) (λ first. Joined (From ranks (OperandRule level i) first)
      (CoalesceRest level i))) (ConditionalRest level i)
      (to_right (OperandRule level i) (From ranks (OperandRule level i)) (CoalesceRest level i)) text e
      (first_by (CoalesceRule level i) (Joined (Joined (OperandRule level i) (From ranks (OperandRule level i)))
      (CoalesceRest level i)) (ConditionalRest level i)
      (first_by (Ladder ranks (OperandRule level i)) (Joined (OperandRule level i) (From ranks (OperandRule level i)))
      (CoalesceRest level i) (from_first ranks (OperandRule level i))) text e j))

-- ---- what an expression begins with

module _ (level : ℕ) (i : Inner) where
  -- a place with `[]` behind it
  abbrev pub PushedPlace : Rule Place
  PushedPlace = Joined (PlaceRule level i) (λ p. Made (EmptyIndex level) (λ _. p))

  -- what the tokens of an operand spell
  abbrev pub Spells : Operand → List Token → Type 0
  Spells (opened.Place p) text = PlaceRule level i text p
  Spells (opened.Push p) text = PushedPlace text p
  Spells (opened.Other e) text = SteppedLast level i text e ⊎ OtherRule level i text e

  spells_end : (text : List Token) (v : Operand) (p : Place) (front back : List Token) → text ≡ front ++ back
      → PlaceRule level i front p → PlaceEnd level i p back v → Spells v text
  spells_end text v p front back split one (inl h) =
      let g = given (EmptyIndex level) (λ _. opened.Push p) back v h in
      subst (λ x. Spells x text) (sym g.2) (record {
        front = front;
        back = back;
        value = p;
        split = split;
        one = one;
        other = give (EmptyIndex level) (λ _. p) back g.0 g.1;
      })
  spells_end text v p front back split one (inr (inl h)) =
      let g = given (Sort step_in) (λ by. opened.Other (tree.Step by ValueFirst p)) back v h in
      subst (λ x. Spells x text) (sym g.2) (inl (record {
        front = front;
        back = back;
        value = p;
        split = split;
        one =
            one;
        other = give (Sort step_in) (λ by. tree.Step by ValueFirst p) back g.0 g.1;
      }))
  spells_end text v p front back split one (inr (inr n)) =
      let same : text ≡ front = split ∙ ap (λ l. front ++ l) n.empty ∙ append-nil front in
      subst (λ x. Spells x text) (sym n.same) (subst (λ l. PlaceRule level i l p) (sym same) one)

  pub spells : (text : List Token) (v : Operand) → OpeningRule level i text v → Spells v text
  spells text v (inl h) =
      let j = place_then_end (Index level i) (PlaceEnd level i) text v h in spells_end text v j.value j.front j.back
      j.split j.one j.other
  spells text v (inr h) =
      let g = given (OtherRule level i) opened.Other text v h in subst (λ x. Spells x text) (sym g.2) (inr g.1)

  -- an operand with which an expression may go on
  pub first_of_going : (text : List Token) (e : Expression) → Spells (opened.Other e) text → OperandRule level i text e
  first_of_going text e (inl h) = inr (inr (inl h))
  first_of_going text e (inr h) = other_operand level i text e h

  goes : (front back text : List Token) (first e : Expression) → text ≡ front ++ back → OperandRule level i front first
      → Going level i first back e → ExpressionRule level i text e
  goes front back text first e split one other =
      inr (inr (inr (going_on level i text e (record {
        front = front;
        back = back;
        value = first;
        split = split;
        one =
            one;
        other = other;
      }))))

  pushes : (front back text : List Token) (p : Place) (e : Expression) → text ≡ front ++ back → PushedPlace front p
      → Made (Nests level (Joined (Mark (Of word.Assign)) (λ _. i.expression))) (λ from. tree.Push p from) back e
      → ExpressionRule level i text e
  pushes front back text p e split j rest =
      let g = given (EmptyIndex level) (λ _. j.value) j.back p j.other in
      inr (inl (record {
        front = j.front;
        back = j.back ++ back;
        value = j.value;
        split = split ∙ ap (λ l. l ++ back) j.split ∙ append_assoc j.front j.back back;
        one = j.one;
        other =
            record {
              front = j.back;
              back = back;
              value = g.0;
              split = refl;
              one = g.1;
              other = subst
                  (λ q. Made (Nests level (Joined (Mark (Of word.Assign)) (λ _. i.expression)))
                  (λ from. tree.Push q from) back e) g.2 rest;
            };
      }))

  pub no_push : (text : List Token) (p : Place) → level ≡ 0 → PushedPlace text p → ⊥
  no_push text p none j =
      let g = given (EmptyIndex level) (λ _. j.value) j.back p j.other in let some : 0 < level = g.1.some in omega arith

module _ (i : Inner) where
  push_tail : (level : ℕ) (front back text : List Token) (p : Place) (e : Expression) → text ≡ front ++ back
      → PushedPlace level i front p → PushTail level i p back e → ExpressionRule level i text e
  push_tail zero front back text p e split one rest = absurd (no_push 0 i front p refl one)
  push_tail (suc level) front back text p e split one rest =
      let h = made_behind (Mark (Of word.Assign)) (λ _. i.expression) (tree.Push p) back e rest in
      let g = given (Joined (Mark (Of word.Assign)) (λ _. i.expression)) (tree.Push p) back e h in
      pushes (suc level) i front back text p e split one
      (subst (λ x. Made (Nests (suc level) (Joined (Mark (Of word.Assign)) (λ _. i.expression)))
      (λ from. tree.Push p from) back x) (sym g.2)
      (give (Nests (suc level) (Joined (Mark (Of word.Assign)) (λ _. i.expression))) (tree.Push p) back g.0
      (record { some = omega arith; spelled = g.1 })))

  tail_of_push : (level : ℕ) (front back : List Token) (p : Place) (e : Expression) → PushedPlace level i front p
      → Made (Nests level (Joined (Mark (Of word.Assign)) (λ _. i.expression))) (λ from. tree.Push p from) back e
      → PushTail level i p back e
  tail_of_push zero front back p e one rest = absurd (no_push 0 i front p refl one)
  tail_of_push (suc level) front back p e one rest =
      behind_made (Mark (Of word.Assign)) (λ _. i.expression) (tree.Push p) back e
      (made_inside (suc level) (Joined (Mark (Of word.Assign)) (λ _. i.expression))
      (tree.Push p) back e rest).spelled

module _ (level : ℕ) (i : Inner) where
  opened_expression : (front back text : List Token) (v : Operand) (e : Expression) → text ≡ front ++ back
      → Spells level i v front → Rest level i v back e → ExpressionRule level i text e
  opened_expression front back text (opened.Push p) e split one rest =
      push_tail i level front back text p e split one rest
  opened_expression front back text (opened.Other first) e split one rest =
      goes level i front back text first e split (first_of_going level i front first one) rest
  opened_expression front back text (opened.Place p) e split one (inl rest) =
      inr (inr (inl (record { front = front; back = back; value = p; split = split; one = one; other = rest })))
  opened_expression front back text (opened.Place p) e split one (inr rest) =
      goes level i front back text (value_of p) e split (place_operand level i front p one) rest

  pub to_expression : (text : List Token) (e : Expression) → WholeRule level i text e → ExpressionRule level i text e
  to_expression text e (inl h) = inl h
  to_expression text e (inr j) =
      opened_expression j.front j.back text j.value e j.split (spells level i j.front j.value j.one) j.other

  -- what an operand begins with, and its end
  opening_place : (front back text : List Token) (p : Place) (v : Operand) → text ≡ front ++ back
      → PlaceRule level i front p → PlaceEnd level i p back v → OpeningRule level i text v
  opening_place front back text p v split one other =
      inl (place_up_to (Index level i) (PlaceEnd level i) text v
      (record { front = front; back = back; value = p; split = split; one = one; other = other }))

  opening_stepped : (text : List Token) (e : Expression) → SteppedLast level i text e
      → OpeningRule level i text (opened.Other e)
  opening_stepped text e j =
      let g = given (Sort step_in) (λ by. tree.Step by ValueFirst j.value) j.back e j.other in
      opening_place j.front j.back text j.value (opened.Other e) j.split j.one
      (inr (inl (subst (λ x. Made (Sort step_in) (λ by. opened.Other (tree.Step by ValueFirst j.value)) j.back
      (opened.Other x)) (sym g.2) (give (Sort step_in) (λ by. opened.Other (tree.Step by ValueFirst j.value)) j.back
      g.0 g.1))))

  opening_other : (text : List Token) (e : Expression) → OtherRule level i text e
      → OpeningRule level i text (opened.Other e)
  opening_other text e h = inr (give (OtherRule level i) opened.Other text e h)

  opening_alone : (text : List Token) (p : Place) → PlaceRule level i text p → OpeningRule level i text (opened.Place p)
  opening_alone text p h =
      opening_place text [] text p (opened.Place p) (sym (append-nil text)) h
      (inr (inr (record { empty = refl; same = refl })))

  opening_push : (text : List Token) (p : Place) → PushedPlace level i text p → OpeningRule level i text (opened.Push p)
  opening_push text p j =
      let g = given (EmptyIndex level) (λ _. j.value) j.back p j.other in
      opening_place j.front j.back text j.value (opened.Push p) j.split j.one
      (inl (subst (λ x. Made (EmptyIndex level) (λ _. opened.Push j.value) j.back (opened.Push x)) (sym g.2)
      (give (EmptyIndex level) (λ _. opened.Push j.value) j.back g.0 g.1)))

  then_rest : (front back text : List Token) (v : Operand) (e : Expression) → text ≡ front ++ back
      → OpeningRule level i front v → Rest level i v back e → WholeRule level i text e
  then_rest front back text v e split one rest =
      inr (record { front = front; back = back; value = v; split = split; one = one; other = rest })

  from_going : (front back text : List Token) (first e : Expression) → text ≡ front ++ back → Going level i first back e
      → OperandRule level i front first → WholeRule level i text e
  from_going front back text first e split rest (inl h) =
      then_rest front back text (opened.Other first) e split (opening_other front first (inl h)) rest
  from_going front back text first e split rest (inr (inl h)) =
      then_rest front back text (opened.Other first) e split (opening_other front first (inr (inl h))) rest
  from_going front back text first e split rest (inr (inr (inl h))) =
      then_rest front back text (opened.Other first) e split (opening_stepped front first h) rest
  from_going front back text first e split rest (inr (inr (inr (inl h)))) =
      then_rest front back text (opened.Other first) e split (opening_other front first (inr (inr (inl h)))) rest
  from_going front back text first e split rest (inr (inr (inr (inr (inl h))))) =
      then_rest front back text (opened.Other first) e split (opening_other front first (inr (inr (inr (inl h))))) rest
  from_going front back text first e split rest (inr (inr (inr (inr (inr (inl h)))))) =
      let g = given (PlaceRule level i) value_of front first h in
      then_rest front back text (opened.Place g.0) e split (opening_alone front g.0 g.1)
      (inr (subst (λ x. Going level i x back e) g.2 rest))
  from_going front back text first e split rest (inr (inr (inr (inr (inr (inr h)))))) =
      then_rest front back text (opened.Other first) e split (opening_other front first (inr (inr (inr (inr h))))) rest

  from_push : (text : List Token) (e : Expression) → PushRule level i text e → WholeRule level i text e
  from_push text e j =
      let k = j.other in
      let one : PushedPlace level i (j.front ++ k.front) j.value = record {
        front = j.front;
        back = k.front;
        value = j.value;
        split = refl;
        one = j.one;
        other = give (EmptyIndex level)
            (λ _. j.value) k.front k.value k.one;
      } in
      then_rest (j.front ++ k.front) k.back text (opened.Push j.value) e
      (j.split ∙ ap (λ l. j.front ++ l) k.split ∙ sym (append_assoc j.front k.front k.back))
      (opening_push (j.front ++ k.front) j.value one)
      (tail_of_push i level (j.front ++ k.front) k.back j.value e one k.other)

  pub from_expression : (text : List Token) (e : Expression) → ExpressionRule level i text e → WholeRule level i text e
  from_expression text e (inl h) = inl h
  from_expression text e (inr (inl h)) = from_push text e h
  from_expression text e (inr (inr (inl j))) =
      then_rest j.front j.back text (opened.Place j.value) e j.split (opening_alone j.front j.value j.one) (inl j.other)
  from_expression text e (inr (inr (inr h))) =
      let j = first_operand level i text e h in from_going j.front j.back text j.value e j.split j.other j.one
