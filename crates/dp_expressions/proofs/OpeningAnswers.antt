-- What the readers of an expression's first operand answer.
use Rattle.std.specs.declared.ops.ControlFlow.{ControlFlow}
use Rattle.std.specs.declared.ops.ControlFlow.TheVariants.{Continue, Break}
use Rattle.std.proofs.Common.{◌≡◌, inl, inr, ℕ, ◌<◌, ◌≤◌, Bool, true, if◌then◌else◌, ◌||◌, List, [], ◌∷◌, ◌++◌, sym, refl, subst}
use Rattle.dp_tree.specs.declared.operators.UnaryOp.{UnaryOp}
use Rattle.dp_lexer.specs.declared.token.Token.{Token}
use Rattle.dp_lexer.specs.declared.token.TokenKind.TheVariants as kind
use Rattle.dp_expressions.specs.declared.operand.Operand.{Operand}
use Rattle.dp_expressions.specs.declared.operand.Operand.TheVariants as opened
use Rattle.dp_expressions.specs.declared.operand.Part.{Part}
use Rattle.dp_expressions.specs.declared.operand.Part.TheVariants as part
use Rattle.dp_token_rules.specs.declared.terminal.Terminal.TheVariants.{Of}
use Rattle.dp_lexer.specs.declared.token.Word.TheVariants as word
use Rattle.dp_token_rules.specs.declared.terminal.Terminal.{Terminal}
use Rattle.dp_token_rules.specs.declared.terminal.Terminal.TheVariants as terminal
use Rattle.dp_tree.specs.declared.tree.Expression.{Expression}
use Rattle.dp_tree.specs.declared.tree.Expression.TheVariants as tree
use Rattle.dp_tree.specs.declared.tree.Place.{Place}
use Rattle.dp_tree.specs.declared.tree.Order.TheVariants.{ValueFirst}
use Rattle.dp_token_rules.specs.Terminals.{is, head}
use Rattle.dp_token_rules.specs.inner.Input.{Reader, ◌>>=◌, ◌>>◌, gives, made, mark, closed, variable}
use Rattle.dp_token_rules.specs.Rules.{Mark}
use Rattle.dp_expressions.specs.Grammar.{step_in, place, inner}
use Rattle.dp_expressions.specs.inner.Readers.{begins_expression, other, step_last, index_or_push, opening_step, opening_place, opening}
use Rattle.dp_token_rules.proofs.Terminals.{placed, mark_of, excluded}
use Rattle.dp_token_rules.proofs.Answers.{Rules, Anything, JoinedAt, EitherAt, GivesAt, OneAt, MarkAt, MadeAt, ClosedAt, StepAt, Answers, Apart, StartsIn, give, given, mark_starts, joined_starts, made_starts, nests_starts, or_starts, starts_in_more, starts_apart, gives_apart, either_apart, made_apart, anything_follows, mark_answers, made_answers, equal_answers, either_answers}
use Rattle.dp_token_rules.proofs.Loops.{step_stop, closed_answers, closed_now}
use Rattle.dp_token_rules.proofs.Readers.{marked, mark_then, then_mark}
use Rattle.dp_expressions.proofs.Heights.{looser, stop_at}
use Rattle.dp_expressions.proofs.Least.{gives_it}
use Rattle.dp_expressions.proofs.Factored.{StepLast, EmptyIndex, PlaceEnd, OpeningPlace}
use Rattle.dp_token_rules.proofs.More.{level_self, sort_starts, variable_starts, one_then, choice_answers, NestedAt, nested_answers}
use Rattle.dp_expressions.proofs.ExpressionParts.{Under, Reads, inner_answers, IndexAt, OtherAt, OpeningAt, begins_step, begins_other, index_starts, other_starts}
use Rattle.dp_expressions.proofs.Begins.{whole_under_starts}
use Rattle.dp_expressions.proofs.OperandAnswers.{operand_stop, step_last_answers, other_answers}
use Rattle.dp_token_rules.specs.TokenValues.{Text, variable_in, by_terminal, by_kind}

abbrev stepped : Place → UnaryOp → Operand
stepped p by = opened.Other (tree.Step by ValueFirst p)

abbrev Turn : Type 0
Turn = ControlFlow Operand (List Expression)

abbrev one_index : List Expression → Expression → List Expression
one_index found at = found ++ at ∷ []

abbrev PieceAt : List Expression → Rules ℕ (List Expression)
PieceAt found = MadeAt IndexAt (one_index found)

abbrev EndAt : Text → List Expression → Rules ℕ Operand
EndAt name found m = PlaceEnd m (inner m) (place name found)

-- ---- one step: an index, `[]`, or what is behind the place

abbrev PushEndAt : Place → Rules ℕ Turn
PushEndAt p = MadeAt (MarkAt (Of word.CloseBracket)) (λ _. Break (opened.Push p))

abbrev ExpressionEndAt : Rules ℕ Expression
ExpressionEndAt = JoinedAt (Under part.Whole) (λ at. MadeAt (MarkAt (Of word.CloseBracket)) (λ _. at))

abbrev MoreAt : List Expression → Rules ℕ Turn
MoreAt found = MadeAt ExpressionEndAt (λ at. Continue (one_index found at))

abbrev BehindAt : Text → List Expression → Rules ℕ Turn
BehindAt name found = EitherAt (PushEndAt (place name found)) (MoreAt found)

abbrev BracketAt : Text → List Expression → Rules ℕ Turn
BracketAt name found = NestedAt (JoinedAt (MarkAt (Of word.OpenBracket)) (λ _. BehindAt name found))

abbrev FactoredAt : Text → List Expression → Rules ℕ Turn
FactoredAt name found = EitherAt (BracketAt name found) (MadeAt (λ _. StepLast (place name found)) Break)

abbrev TurnAt : Text → List Expression → Rules ℕ Turn
TurnAt name found = StepAt PieceAt (EndAt name) found

module _ (name : Text) (found : List Expression) (m : ℕ) where
  abbrev p : Place
  p = place name found

  to_turn : (text : List Token) (v : Turn) → FactoredAt name found m text v → TurnAt name found m text v
  to_turn text v (inl n) = go n.spelled.other
    where
      go : BehindAt name found m n.spelled.back v → TurnAt name found m text v
      go (inl h) =
          let j = n.spelled in
          let g = given (Mark (Of word.CloseBracket)) (λ _. Break (opened.Push p)) j.back v h in
          let empty : EmptyIndex m text g.0 = record {
            some = n.some;
            spelled = record
                { front = j.front; back = j.back; value = j.value; split = j.split; one = j.one; other = g.1 };
          } in
          subst (λ x. TurnAt name found m text x) (sym g.2) (inl
          (give (EndAt name found m) Break text (opened.Push p)
          (inl (give (EmptyIndex m) (λ _. opened.Push p) text g.0 empty))))
      go (inr h) =
          let j = n.spelled in
          let g = given (ExpressionEndAt m) (λ at. Continue (one_index found at)) j.back v h in
          let index : IndexAt m text g.0 = record {
            some = n.some;
            spelled = record
                { front = j.front; back = j.back; value = j.value; split = j.split; one = j.one; other = g.1 };
          } in
          subst (λ x. TurnAt name found m text x) (sym g.2) (inr
          (give (PieceAt found m) Continue text (one_index found g.0)
          (give (IndexAt m) (one_index found) text g.0 index)))
  to_turn text v (inr h) =
      let g = given (StepLast p) Break text v h in
      subst (λ x. TurnAt name found m text x) (sym g.2) (inl (give (EndAt name found m) Break text g.0 (inr g.1)))

  push_bracket : (text : List Token) (n : ℕ) → EmptyIndex m text n
      → FactoredAt name found m text (Break (opened.Push p))
  push_bracket text n h =
      let j = h.spelled in
      inl (record {
        some = h.some;
        spelled = record {
          front = j.front;
          back = j.back;
          value = j.value;
          split = j.split;
          one = j.one;
          other = inl (give (Mark (Of word.CloseBracket)) (λ _. Break (opened.Push p)) j.back n j.other);
        };
      })

  index_bracket : (text : List Token) (at : Expression) → IndexAt m text at
      → FactoredAt name found m text (Continue (one_index found at))
  index_bracket text at h =
      let j = h.spelled in
      inl (record {
        some = h.some;
        spelled = record {
          front = j.front;
          back = j.back;
          value = j.value;
          split = j.split;
          one = j.one;
          other = inr (give (ExpressionEndAt m) (λ at. Continue (one_index found at)) j.back at j.other);
        };
      })

  from_turn : (text : List Token) (v : Turn) → TurnAt name found m text v → FactoredAt name found m text v
  from_turn text v (inl h) =
      let g = given (EndAt name found m) Break text v h in subst (λ x. FactoredAt name found m text x) (sym g.2)
      (go g.0 g.1)
    where
      go : (w : Operand) → EndAt name found m text w → FactoredAt name found m text (Break w)
      go w (inl e) =
          let k = given (EmptyIndex m) (λ _. opened.Push p) text w e in subst
          (λ x. FactoredAt name found m text (Break x)) (sym k.2) (push_bracket text k.0 k.1)
      go w (inr s) = inr (give (StepLast p) Break text w s)
  from_turn text v (inr h) =
      let g = given (PieceAt found m) Continue text v h in
      let k = given (IndexAt m) (one_index found) text g.0 g.1 in
      subst (λ x. FactoredAt name found m text x) (sym g.2) (subst (λ x. FactoredAt name found m text (Continue x))
      (sym k.2) (index_bracket text k.0 k.1))

abbrev turn_stop : Turn → Terminal → Bool
turn_stop = step_stop Anything operand_stop

module _ (level : ℕ) (read : Part → Reader Expression) (reads : Reads level read) where
  more_starts : (found : List Expression) → StartsIn (MoreAt found) begins_expression
  more_starts found =
      made_starts ExpressionEndAt (λ at. Continue (one_index found at)) begins_expression
      (joined_starts (Under part.Whole) (λ at. MadeAt (MarkAt (Of word.CloseBracket)) (λ _. at)) begins_expression
      whole_under_starts)

  push_end_starts : (q : Place) → StartsIn (PushEndAt q) (is (Of word.CloseBracket))
  push_end_starts q =
      made_starts (MarkAt (Of word.CloseBracket)) (λ _. Break (opened.Push q)) (is (Of word.CloseBracket))
      (mark_starts (Of word.CloseBracket))

  expression_end_answers : 0 < level → (ts : List Token)
      → Answers ◌≤◌ ExpressionEndAt Anything level ts ((read part.Whole
      >>= (λ at. mark (Of word.CloseBracket) >> gives at)) ts)
  expression_end_answers some =
      then_mark ◌≤◌ level_self (Under part.Whole) (Of word.CloseBracket) (λ a _. a) (stop_at 12) Anything level
      (read part.Whole) (λ a. refl) (placed (kind.Word word.CloseBracket)) refl
      (λ us. inner_answers level read reads some part.Whole us refl)

  abbrev behind_reader : Text → List Expression → Reader Turn
  behind_reader name found ts =
      if is (Of word.CloseBracket) (head ts)
      then made (mark (Of word.CloseBracket)) (λ _. Break (opened.Push (place name found))) ts
      else made (read part.Whole >>= (λ at. mark (Of word.CloseBracket) >> gives at))
      (λ at. Continue (one_index found at)) ts

  behind_answers : 0 < level → (name : Text) (found : List Expression) (ts : List Token)
      → Answers ◌≤◌ (BehindAt name found) turn_stop level ts (behind_reader name found ts)
  behind_answers some name found ts =
      choice_answers (PushEndAt (place name found)) (MoreAt found)
      (is (Of word.CloseBracket)) begins_expression turn_stop level ts refl (push_end_starts (place name found))
      (more_starts found)
      (made (mark (Of word.CloseBracket)) (λ _. Break (opened.Push (place name found))) ts)
      (made (read part.Whole >>= (λ at. mark (Of word.CloseBracket) >> gives at))
      (λ at. Continue (one_index found at)) ts)
      (λ _. made_answers ◌≤◌ level_self (MarkAt (Of word.CloseBracket))
      (λ _. Break (opened.Push (place name found))) Anything turn_stop level ts (λ a s e. refl)
      (mark (Of word.CloseBracket) ts) (mark_answers ◌≤◌ level_self (Of word.CloseBracket) Anything level ts))
      (λ _. made_answers ◌≤◌ level_self ExpressionEndAt (λ at. Continue (one_index found at)) Anything turn_stop level
      ts (λ a s e. refl) ((read part.Whole >>= (λ at. mark (Of word.CloseBracket) >> gives at)) ts)
      (expression_end_answers some ts))

  some_behind : (name : Text) (found : List Expression) (m : ℕ)
      → BehindAt name found m (placed (kind.Word word.CloseBracket) ∷ []) (Break (opened.Push (place name found)))
  some_behind name found m =
      inl (give (Mark (Of word.CloseBracket)) (λ _. Break (opened.Push (place name found)))
      (placed (kind.Word word.CloseBracket) ∷ []) 1 (mark_of (Of word.CloseBracket)
      (placed (kind.Word word.CloseBracket)) refl))

  index_or_push_answers : (name : Text) (found : List Expression) (ts : List Token)
      → is (Of word.OpenBracket) (head ts) ≡ true
      → Answers ◌≤◌ (BracketAt name found) turn_stop level ts (index_or_push level read name found ts)
  unfolding index_or_push
  index_or_push_answers name found ts here =
      nested_answers (is (Of word.OpenBracket)) (JoinedAt (MarkAt (Of word.OpenBracket)) (λ _. BehindAt name found))
      turn_stop level ts (mark (Of word.OpenBracket) >> behind_reader name found) refl here
      (λ x e. (
        placed (kind.Word word.CloseBracket)
            ∷ [],
        Break (opened.Push (place name found)),
        marked (Of word.OpenBracket) x (BehindAt name found 2)
            (placed (kind.Word word.CloseBracket) ∷ []) (Break (opened.Push (place name found))) e
            (some_behind name found 2),
      ))
      (λ some. mark_then ◌≤◌ level_self (Of word.OpenBracket) (λ _. BehindAt name found) turn_stop level
      (λ _. behind_reader name found) (λ m above _. (
        placed (kind.Word word.CloseBracket)
            ∷ [],
        Break (opened.Push (place name found)),
        some_behind name found m,
      ))
      (λ _. behind_answers some name found) ts)

  bracket_starts : (name : Text) (found : List Expression) → StartsIn (BracketAt name found) (is (Of word.OpenBracket))
  bracket_starts name found =
      nests_starts (λ m. m) (JoinedAt (MarkAt (Of word.OpenBracket)) (λ _. BehindAt name found))
      (is (Of word.OpenBracket)) (joined_starts (MarkAt (Of word.OpenBracket)) (λ _. BehindAt name found)
      (is (Of word.OpenBracket)) (mark_starts (Of word.OpenBracket)))

  step_last_apart : (q : Place) → Apart {L = ℕ} (λ _. StepLast q) operand_stop (is (Of word.OpenBracket))
  step_last_apart q =
      either_apart (MadeAt (OneAt (by_terminal step_in)) (stepped q)) (GivesAt (opened.Place q)) operand_stop
      (is (Of word.OpenBracket))
      (starts_apart (MadeAt (OneAt (by_terminal step_in)) (stepped q)) operand_stop
      (is (Of word.OpenBracket)) begins_step (excluded begins_step (is (Of word.OpenBracket)) refl)
      (made_starts (OneAt (by_terminal step_in)) (stepped q) begins_step (sort_starts step_in)))
      (gives_apart (opened.Place q) operand_stop (is (Of word.OpenBracket))
      (excluded (looser 2) (is (Of word.OpenBracket)) refl))

  turn_answers : (name : Text) (found : List Expression) (ts : List Token)
      → Answers ◌≤◌ (TurnAt name found) turn_stop level ts (opening_step level read name found ts)
  turn_answers name found ts =
      equal_answers ◌≤◌ level_self (FactoredAt name found) (TurnAt name found) turn_stop level ts (to_turn name found)
      (from_turn name found) (opening_step level read name found ts)
      (either_answers ◌≤◌ level_self (BracketAt name found) (MadeAt (λ _. StepLast (place name found)) Break)
      (is (Of word.OpenBracket)) turn_stop level ts (bracket_starts name found)
      (made_apart (λ _. StepLast (place name found)) Break operand_stop turn_stop (is (Of word.OpenBracket))
      (λ x s e. e)
      (step_last_apart (place name found)))
      (index_or_push level read name found ts) (made (step_last level read (place name found)) Break ts)
      (index_or_push_answers name found ts)
      (λ _. made_answers ◌≤◌ level_self (λ _. StepLast (place name found)) Break operand_stop turn_stop level ts
      (λ x s e. e) (step_last level read (place name found) ts)
      (step_last_answers level read reads (place name found) ts)))

  -- ---- the first operand

  abbrev OpeningPlaceAt : Rules ℕ Operand
  OpeningPlaceAt m = OpeningPlace m (inner m)

  end_goes_on : (name : Text) (m : ℕ) → level ≤ m → (found : List Expression)
      → (ts : List Token) × (v : Operand) × EndAt name found m ts v
  end_goes_on name m above found =
      ([], opened.Place (place name found), inr (inr (gives_it (opened.Place (place name found)))))

  opening_place_answers : (ts : List Token)
      → Answers ◌≤◌ OpeningPlaceAt operand_stop level ts (opening_place level read ts)
  unfolding opening_place variable
  opening_place_answers ts =
      one_then (by_kind variable_in) (λ name. ClosedAt PieceAt (EndAt name) []) operand_stop level ts
      (λ name. closed (opening_step level read name) [])
      (λ m above name. let e = end_goes_on name m above [] in
      (e.0, e.1, closed_now PieceAt (EndAt name) m [] e.0 e.1 e.2))
      (λ name us. closed_answers ◌≤◌ level_self PieceAt (EndAt name) Anything operand_stop level
      (λ found. starts_in_more (PieceAt found) (is (Of word.OpenBracket)) (λ s. true) (λ s e. refl)
      (made_starts IndexAt (one_index found) (is (Of word.OpenBracket)) index_starts))
      (anything_follows (EndAt name) operand_stop) (end_goes_on name) (opening_step level read name) (turn_answers name)
      [] us)

  opening_place_starts : StartsIn OpeningPlaceAt (is terminal.Variable)
  opening_place_starts =
      joined_starts (OneAt (by_kind variable_in)) (λ name. ClosedAt PieceAt (EndAt name) [])
      (is terminal.Variable) variable_starts

  pub opening_starts : StartsIn OpeningAt (λ s. is terminal.Variable s || begins_other s)
  opening_starts =
      or_starts OpeningPlaceAt (MadeAt OtherAt opened.Other) (is terminal.Variable) begins_other opening_place_starts
      (made_starts OtherAt opened.Other begins_other other_starts)

  pub opening_answers : (ts : List Token) → Answers ◌≤◌ OpeningAt operand_stop level ts (opening level read ts)
  unfolding opening
  opening_answers ts =
      choice_answers OpeningPlaceAt (MadeAt OtherAt opened.Other)
      (is terminal.Variable) begins_other operand_stop level ts refl opening_place_starts
      (made_starts OtherAt opened.Other begins_other other_starts)
      (opening_place level read ts) (made (other level read) opened.Other ts)
      (λ _. opening_place_answers ts)
      (λ _. made_answers ◌≤◌ level_self OtherAt opened.Other (stop_at 2) operand_stop level ts (λ a s e. e)
      (other level read ts) (other_answers level read reads ts))
