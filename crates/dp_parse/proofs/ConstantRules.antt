-- How the rules of expressions and of definitions go on among tokens of constants.
use Rattle.std.proofs.Common.{◌≡◌, inl, inr, ℕ, zero, suc, ◌<◌, Bool, true, false, not, ◌&&◌, List, [], ◌∷◌, ◌++◌, codes, Some, None, sym, refl, ap, ◌∙◌, subst, arith}
use Rattle.dp_lexer.specs.declared.token.Token.{Token}
use Rattle.dp_lexer.specs.declared.token.TokenKind.TheVariants as kind
use Rattle.dp_expressions.specs.declared.rank.Rank.{Rank}
use Rattle.dp_token_rules.specs.declared.terminal.Terminal.TheVariants.{Of}
use Rattle.dp_lexer.specs.declared.token.Word.TheVariants as word
use Rattle.dp_token_rules.specs.declared.terminal.Terminal.{Terminal}
use Rattle.dp_token_rules.specs.declared.terminal.Terminal.TheVariants as terminal
use Rattle.dp_tree.specs.declared.tree.Expression.{Expression}
use Rattle.dp_tree.specs.declared.tree.Expression.TheVariants as tree
use Rattle.dp_tree.specs.declared.tree.Item.{Item}
use Rattle.dp_token_rules.specs.Terminals.{terminal_of, same_terminal, is}
use Rattle.dp_token_rules.specs.Rules.{Rule, Joined, Gives, Made, line_at, Mark, Nests}
use Rattle.dp_token_rules.specs.Lists.{NoItems, SomeItems, AnyItems}
use Rattle.dp_token_rules.specs.TokenValues.{text_in, name_in, number_in, Sort, Kind, by_terminal, by_kind}
use Rattle.dp_token_rules.proofs.Terminals.{or_right, not_true, and_parts, placed, mark_passes, mark_fails, mark_token, implied}
use Rattle.dp_token_rules.proofs.Answers.{MadeAt, StartsIn, give, joined_starts, made_starts, starts_in_more}
use Rattle.dp_token_rules.proofs.Readers.{marked}
use Rattle.dp_expressions.specs.Grammar.{prefix_in, constant_in, operator_in, ranks, item, value_of, indexed, chained, Ladder, PlaceRule, Group, Literal, ArrayCall, Isset, ItemRule, Primary, Prefixed, SteppedFirst, SteppedLast, OperandRule, CoalesceRest, CoalesceRule, Branches, ConditionalRule, IncludeRule, PushRule, AssignmentRule, ExpressionRule, inner, IsExpression}
use Rattle.dp_expressions.proofs.Least.{zero_text, zero_tree, least_operand}
use Rattle.dp_expressions.proofs.Factored.{PrimaryIndexed}
use Rattle.dp_expressions.proofs.ExpressionParts.{PlaceAt, NamedAt, IssetAt, SteppedFirstAt, IncludeAt, begins_step, begins_inclusion, place_starts, call_starts, isset_starts, stepped_first_starts}
use Rattle.dp_expressions.proofs.Begins.{include_starts}
use Rattle.dp_expressions.proofs.OperandAnswers.{empty_items}
use Rattle.dp_parse.specs.Statements.{never_constant, ends_constant, is_of_constants, definition_of, DefinitionRule, NextDefinition, Definitions}
use Rattle.dp_parse.proofs.ConstantTexts.{named_after, GoesOn, GoOn, Good, among, joined_fronts, joined_go_on, joined_good, gives_good, made_go_on, made_good, one_goes_on, mark_good, nests_go_on, when_goes_on, either_go_on, or_good, perhaps_good, never_go_on, closed_good, many_good}

-- ---- what begins with a name

-- A call goes on with none of its tokens: its name is that of a constant.
named_go_on : (m : ℕ) → GoOn (NamedAt m)
named_go_on m named text a (inr h) x front more split of_constants =
    among (Made (Kind name_in) tree.Constant) (NamedAt m) (λ l b k. inr k)
    (made_go_on (Kind name_in) tree.Constant
    (one_goes_on (by_kind name_in))) named text a h x front more split of_constants
named_go_on m named text a (inl h) x front more split of_constants =
    let j = h.spelled in
    let open_ = mark_token (Of word.OpenParenthesis) j.other.front j.other.value j.other.one in
    let whole : x ∷ (front ++ more) ≡ j.one.symbol ∷ (open_.0 ∷ j.other.back) =
    sym split ∙ j.split ∙ ap (λ l. l ++ j.back) j.one.alone
    ∙ ap (λ l. j.one.symbol ∷ l) (j.other.split ∙ ap (λ l. l ++ j.other.back) open_.1) in
    let same : x ≡ j.one.symbol = cc in
    let rest : front ++ more ≡ open_.0 ∷ j.other.back = cc in
    go same open_.0 open_.2 front rest of_constants
  where
    is_name : is terminal.Name (terminal_of x.kind) ≡ true
    is_name =
        let s = call_starts m text a h in
        let begins : s.0 ∷ s.1 ≡ x ∷ (front ++ more) = sym s.2 ∙ split in
        let first : s.0 ≡ x = cc in
        ap (λ t. is terminal.Name (terminal_of t.kind)) (sym first) ∙ s.3

    go : x ≡ h.spelled.one.symbol → (t : Token) → same_terminal (terminal_of t.kind) (Of word.OpenParenthesis) ≡ true
        → (front : List Token) → front ++ more ≡ t ∷ h.spelled.other.back → is_of_constants named (x ∷ front) ≡ true
        → GoesOn (NamedAt m) named (x ∷ front)
    go same t is_open [] rest of_constants = (
      [],
      tree.Constant h.spelled.value,
      inr (give (Kind name_in) tree.Constant (x ∷ []) h.spelled.value (record {
        symbol = x;
        alone = refl;
        is_worth = ap (λ y. name_in y.kind) same ∙ h.spelled.one.is_worth;
      })),
      of_constants,
    )
    go same t is_open (z ∷ front) rest of_constants =
        let name = is terminal.Name (terminal_of x.kind) in
        let first : z ≡ t = cc in
        let behind = (and_parts (not (ends_constant named (terminal_of x.kind)))
        (is_of_constants name (z ∷ front)) of_constants).1 in
        let whole : ends_constant name (terminal_of z.kind) ≡ false =
        not_true (ends_constant name (terminal_of z.kind))
        (and_parts (not (ends_constant name (terminal_of z.kind)))
        (is_of_constants (is terminal.Name (terminal_of z.kind)) front) behind).0 in
        let open_ : is (Of word.OpenParenthesis) (terminal_of z.kind) ≡ true =
        ap (λ u. is (Of word.OpenParenthesis) (terminal_of u.kind)) first ∙ is_open in
        let call : (is (Of word.OpenParenthesis) (terminal_of z.kind) && name) ≡ true = ap (λ b. b && name) open_
        ∙ is_name in
        let ended : ends_constant name (terminal_of z.kind) ≡ true =
        or_right (never_constant (terminal_of z.kind))
        (is (Of word.OpenParenthesis) (terminal_of z.kind) && name) call in
        absurd (cc)

-- ---- rules in which a token comes first that stands in no constant

place_never : StartsIn PlaceAt never_constant
place_never = starts_in_more PlaceAt (is terminal.Variable) never_constant
    (mark_passes never_constant terminal.Variable refl)
    place_starts

isset_never : StartsIn IssetAt never_constant
isset_never = starts_in_more IssetAt (is (Of word.Isset)) never_constant
    (mark_passes never_constant (Of word.Isset) refl)
    isset_starts

stepped_never : StartsIn SteppedFirstAt never_constant
stepped_never = starts_in_more SteppedFirstAt begins_step never_constant (implied begins_step never_constant refl)
    stepped_first_starts

include_never : StartsIn IncludeAt never_constant
include_never = starts_in_more IncludeAt begins_inclusion never_constant (implied begins_inclusion never_constant refl)
    include_starts

-- ---- lists

items_good : {A : Type 0} (item : Rule A) (close : Terminal) → Good item → Good (Mark close)
    → Good (AnyItems (λ _. item) close)
items_good item close one end = record {
  fronts =
      either_go_on (NoItems (λ _. item) close) (SomeItems (λ _. item) close)
      (made_go_on (Mark close) (λ _. []) end.fronts)
      (joined_go_on item _ one.fronts (λ first. closed_good _ _
      (λ all. joined_go_on (Mark (Of word.Comma)) _ (one_goes_on (line_at (Of word.Comma)))
      (λ _. made_good item (λ a. all ++ a ∷ []) one))
      (λ all. made_good _ (λ _. all) (joined_good _ (λ _. Mark close)
      (perhaps_good (Mark (Of word.Comma)) (one_goes_on (line_at (Of word.Comma)))) (λ _. end))) (first ∷ [])));
  least = λ named. let g = (made_good (Mark close) (λ _. []) end).least named in (g.0, g.1, inl g.2, g.3);
}

closing_parenthesis : Good (Mark (Of word.CloseParenthesis))
closing_parenthesis = mark_good (Of word.CloseParenthesis) (kind.Word word.CloseParenthesis) refl (λ n. refl)

closing_bracket : Good (Mark (Of word.CloseBracket))
closing_bracket = mark_good (Of word.CloseBracket) (kind.Word word.CloseBracket) refl (λ n. refl)

-- ---- expressions at each level

-- the rules one level down
record AreGood (m : ℕ) : Type 0 where
  whole : Good ((inner m).expression)
  coalesced : Good ((inner m).coalesce)
  alone : Good ((inner m).operand)

module _ (m : ℕ) (under : 0 < m → AreGood m) where
  enclosed_go_on : (before after : Terminal) → Good (Mark after)
      → GoOn (Nests m (Joined (Mark before) (λ _. Joined ((inner m).expression)
      (λ e. Joined (Mark after) (λ _. Gives e)))))
  enclosed_go_on before after end =
      nests_go_on m _ (λ some. joined_go_on (Mark before) _ (one_goes_on (line_at before))
      (λ _. joined_good ((inner m).expression) _ ((under some).whole) (λ e. made_good (Mark after) (λ _. e) end)))

  item_good : 0 < m → Good (ItemRule m (inner m))
  item_good some =
      joined_good ((inner m).expression) _ ((under some).whole)
      (λ first. or_good (Made (Joined (Mark (Of word.Arrow)) (λ _. (inner m).expression))
      (λ value. item (Some first) value)) (Gives (item None first))
      (made_go_on (Joined (Mark (Of word.Arrow)) (λ _. (inner m).expression)) (λ value. item (Some first) value)
      (joined_go_on (Mark (Of word.Arrow)) (λ _. (inner m).expression) (one_goes_on (line_at (Of word.Arrow)))
      (λ _. (under some).whole))) (gives_good (item None first)))

  literal_go_on : GoOn (Literal m (inner m))
  literal_go_on =
      nests_go_on m _ (λ some. joined_go_on (Mark (Of word.OpenBracket)) _ (one_goes_on (line_at (Of word.OpenBracket)))
      (λ _. made_good _ tree.Array (items_good (ItemRule m (inner m)) (Of word.CloseBracket) (item_good some)
      closing_bracket)))

  abbrev Items : Rule (List Item)
  Items = AnyItems (λ _. ItemRule m (inner m)) (Of word.CloseParenthesis)

  abbrev BehindArray : Rule Expression
  BehindArray = Joined (Mark (Of word.OpenParenthesis)) (λ _. Made Items tree.Array)

  -- no name stands before the parenthesis behind `array`
  array_least : (named : Bool) (f : List Token) (line : ℕ) → Mark (Of word.Array) f line
      → GoesOn BehindArray (named_after named f) []
  array_least named f line h =
      let t = mark_token (Of word.Array) f line h in
      let unnamed : named_after named f ≡ false =
      ap (named_after named) t.1 ∙ mark_fails (is terminal.Name) (Of word.Array) refl (terminal_of t.0.kind) t.2 in
      let close : List Token = placed (kind.Word word.CloseParenthesis) ∷ [] in
      subst (λ b. GoesOn BehindArray b []) (sym unnamed) (
        placed (kind.Word word.OpenParenthesis) ∷ close,
        tree.Array [],
        marked (Of word.OpenParenthesis) (placed (kind.Word word.OpenParenthesis)) (Made Items tree.Array) close
            (tree.Array [])
            refl (give Items tree.Array close []
            (empty_items (λ _. ItemRule m (inner m)) (Of word.CloseParenthesis) (kind.Word word.CloseParenthesis)
            refl)),
        refl,
      )

  array_call_go_on : GoOn (ArrayCall m (inner m))
  array_call_go_on = nests_go_on m (Joined (Mark (Of word.Array)) (λ _. BehindArray)) (λ some named text a j.
      joined_fronts (Mark (Of word.Array)) (λ _. BehindArray) array_least named text a j
      (one_goes_on (line_at (Of word.Array)) named j.front j.value j.one)
      (λ n. joined_go_on (Mark (Of word.OpenParenthesis)) (λ _. Made Items tree.Array)
      (one_goes_on (line_at (Of word.OpenParenthesis)))
      (λ _. made_good Items tree.Array (items_good (ItemRule m (inner m)) (Of word.CloseParenthesis) (item_good some)
      closing_parenthesis)) n j.back a j.other))

  primary_go_on : GoOn (Primary m (inner m))
  primary_go_on named text a (inl h) =
      among (Made (Kind text_in) tree.Text) (Primary m (inner m)) (λ l b k. inl k)
      (made_go_on (Kind text_in) tree.Text (one_goes_on (by_kind text_in))) named text a h
  primary_go_on named text a (inr (inl h)) =
      among (Sort constant_in) (Primary m (inner m)) (λ l b k. inr (inl k)) (one_goes_on (by_terminal constant_in))
      named text a h
  primary_go_on named text a (inr (inr (inl h))) =
      among (Group m (inner m)) (Primary m (inner m)) (λ l b k. inr (inr (inl k)))
      (enclosed_go_on (Of word.OpenParenthesis) (Of word.CloseParenthesis) closing_parenthesis) named text a h
  primary_go_on named text a (inr (inr (inr (inl h)))) =
      among (Literal m (inner m)) (Primary m (inner m)) (λ l b k. inr (inr (inr (inl k)))) literal_go_on named text a h
  primary_go_on named text a (inr (inr (inr (inr (inl h))))) =
      among (ArrayCall m (inner m)) (Primary m (inner m)) (λ l b k. inr (inr (inr (inr (inl k))))) array_call_go_on
      named text a h
  primary_go_on named text a (inr (inr (inr (inr (inr h))))) =
      among (NamedAt m) (Primary m (inner m)) (λ l b k. inr (inr (inr (inr (inr k))))) (named_go_on m) named text a h

  primary_indexed_go_on : GoOn (PrimaryIndexed m (inner m))
  primary_indexed_go_on =
      joined_go_on (Primary m (inner m)) _ primary_go_on (λ base. made_good _ (indexed base) (many_good _
      (enclosed_go_on (Of word.OpenBracket) (Of word.CloseBracket) closing_bracket)))

  prefixed_go_on : GoOn (Prefixed m (inner m))
  prefixed_go_on =
      nests_go_on m _ (λ some. joined_go_on _ _ (one_goes_on (by_terminal prefix_in))
      (λ by. made_good ((inner m).operand) (tree.Unary by) ((under some).alone)))

  operand_go_on : GoOn (OperandRule m (inner m))
  operand_go_on named text a (inl h) =
      among (Prefixed m (inner m)) (OperandRule m (inner m)) (λ l b k. inl k) prefixed_go_on named text a h
  operand_go_on named text a (inr (inl h)) =
      among (SteppedFirst m (inner m)) (OperandRule m (inner m)) (λ l b k. inr (inl k))
      (never_go_on SteppedFirstAt stepped_never m) named text a h
  operand_go_on named text a (inr (inr (inl h))) =
      among (SteppedLast m (inner m)) (OperandRule m (inner m)) (λ l b k. inr (inr (inl k)))
      (never_go_on (λ k. SteppedLast k (inner k)) (joined_starts PlaceAt _ never_constant place_never) m) named text a h
  operand_go_on named text a (inr (inr (inr (inl h)))) =
      among (Made (Kind number_in) tree.Number) (OperandRule m (inner m)) (λ l b k. inr (inr (inr (inl k))))
      (made_go_on (Kind number_in) tree.Number (one_goes_on (by_kind number_in))) named text a h
  operand_go_on named text a (inr (inr (inr (inr (inl h))))) =
      among (Isset m (inner m)) (OperandRule m (inner m)) (λ l b k. inr (inr (inr (inr (inl k)))))
      (never_go_on IssetAt isset_never m) named text a h
  operand_go_on named text a (inr (inr (inr (inr (inr (inl h)))))) =
      among (Made (PlaceRule m (inner m)) value_of) (OperandRule m (inner m))
      (λ l b k. inr (inr (inr (inr (inr (inl k))))))
      (never_go_on (MadeAt PlaceAt value_of) (made_starts PlaceAt value_of never_constant place_never) m) named text a h
  operand_go_on named text a (inr (inr (inr (inr (inr (inr h)))))) =
      among (PrimaryIndexed m (inner m)) (OperandRule m (inner m)) (λ l b k. inr (inr (inr (inr (inr (inr k))))))
      primary_indexed_go_on named text a h

  operand_good : Good (OperandRule m (inner m))
  operand_good = record {
    fronts = operand_go_on;
    least =
        λ named. (
          zero_text,
          zero_tree,
          least_operand m (inner m),
          refl,
        );
  }

  ladder_good : (rs : List Rank) → Good (Ladder rs (OperandRule m (inner m)))
  ladder_good [] = operand_good
  ladder_good (r ∷ more) =
      joined_good (Ladder more (OperandRule m (inner m))) _ (ladder_good more)
      (λ first. made_good _ (chained first) (closed_good _ _ (λ links. when_goes_on _ _ (made_go_on _ _
      (joined_go_on _ _ (one_goes_on (by_terminal (operator_in r))) (λ by. made_good _ _ (ladder_good more)))))
      (λ links. gives_good links) []))

  abbrev Coalesced : Rule Expression
  Coalesced = Nests m (Joined (Mark (Of word.Coalesce)) (λ _. (inner m).coalesce))

  coalesce_rest_good : (left : Expression) → Good (CoalesceRest m (inner m) left)
  coalesce_rest_good left =
      or_good (Made Coalesced (λ right. tree.Coalesce left right)) (Gives left)
      (made_go_on Coalesced (λ right. tree.Coalesce left right) (nests_go_on m _ (λ some.
      joined_go_on (Mark (Of word.Coalesce)) (λ _. (inner m).coalesce) (one_goes_on (line_at (Of word.Coalesce)))
      (λ _. (under some).coalesced)))) (gives_good left)

  coalesce_good : Good (CoalesceRule m (inner m))
  coalesce_good =
      joined_good (Ladder ranks (OperandRule m (inner m))) (CoalesceRest m (inner m)) (ladder_good ranks)
      coalesce_rest_good

  branches_go_on : (test : Expression) → GoOn (Branches m (inner m) test)
  branches_go_on test =
      joined_go_on (Mark (Of word.Question)) _ (one_goes_on (line_at (Of word.Question)))
      (λ _. joined_good _ _ (perhaps_good (Nests m ((inner m).expression))
      (nests_go_on m ((inner m).expression) (λ some. (under some).whole.fronts)))
      (λ between. joined_good (Mark (Of word.Colon)) _ (mark_good (Of word.Colon) (kind.Word word.Colon) refl
      (λ n. refl))
      (λ _. made_good (CoalesceRule m (inner m)) (λ otherwise. tree.Conditional test between otherwise)
      coalesce_good)))

  conditional_good : Good (ConditionalRule m (inner m))
  conditional_good =
      joined_good (CoalesceRule m (inner m)) _ coalesce_good
      (λ test. or_good (Branches m (inner m) test) (Gives test) (branches_go_on test) (gives_good test))

  expression_go_on : GoOn (ExpressionRule m (inner m))
  expression_go_on named text a (inl h) =
      among (IncludeRule m (inner m)) (ExpressionRule m (inner m)) (λ l b k. inl k)
      (never_go_on IncludeAt include_never m) named text a h
  expression_go_on named text a (inr (inl h)) =
      among (PushRule m (inner m)) (ExpressionRule m (inner m)) (λ l b k. inr (inl k))
      (never_go_on (λ k. PushRule k (inner k)) (joined_starts PlaceAt _ never_constant place_never) m) named text a h
  expression_go_on named text a (inr (inr (inl h))) =
      among (AssignmentRule m (inner m)) (ExpressionRule m (inner m)) (λ l b k. inr (inr (inl k)))
      (never_go_on (λ k. AssignmentRule k (inner k))
      (joined_starts PlaceAt _ never_constant place_never) m) named text a h
  expression_go_on named text a (inr (inr (inr h))) =
      among (ConditionalRule m (inner m)) (ExpressionRule m (inner m)) (λ l b k. inr (inr (inr k)))
      conditional_good.fronts named text a h

  expression_good : Good (ExpressionRule m (inner m))
  expression_good = record {
    fronts = expression_go_on;
    least = λ named. let g = conditional_good.least named in (g.0, g.1, inr (inr (inr g.2)), g.3);
  }

under_good : (m : ℕ) → 0 < m → AreGood m
under_good zero some = absurd (omega arith)
under_good (suc k) some = record {
  whole = expression_good k (under_good k);
  coalesced = coalesce_good k (under_good k);
  alone = operand_good k (under_good k);
}

-- ---- definitions

name_good : Good (Kind name_in)
name_good = record {
  fronts = one_goes_on (by_kind name_in);
  least =
      λ named. (
        placed (kind.Name (97 ∷ [])) ∷ [],
        97 ∷ [],
        record { symbol = placed (kind.Name (97 ∷ [])); alone = refl; is_worth = refl },
        refl,
      );
}

module _ (m : ℕ) where
  definition_good : Good (DefinitionRule (IsExpression m))
  definition_good =
      joined_good (Kind name_in) _ name_good (λ name. joined_good (Mark (Of word.Assign)) _
      (mark_good (Of word.Assign) (kind.Word word.Assign) refl (λ n. refl))
      (λ _. made_good (IsExpression m) (definition_of name) (expression_good m (under_good m))))

  next_go_on : GoOn (NextDefinition (IsExpression m))
  next_go_on =
      joined_go_on (Mark (Of word.Comma)) (λ _. DefinitionRule (IsExpression m))
      (one_goes_on (line_at (Of word.Comma))) (λ _. definition_good)

  pub definitions_good : Good (Definitions (IsExpression m))
  definitions_good =
      joined_good (Mark terminal.Const) _ (mark_good terminal.Const (kind.Name (codes "const")) refl (λ n. refl))
      (λ _. joined_good (DefinitionRule (IsExpression m)) _ definition_good
      (λ first. made_good _ (λ more. first ∷ more) (many_good (NextDefinition (IsExpression m)) next_go_on)))
