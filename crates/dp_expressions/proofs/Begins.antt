-- What expressions begin with, and that each such token begins one.
use Rattle.std.proofs.Common.{◌≡◌, inl, inr, ℕ, zero, suc, Bool, true, false, ◌||◌, List, [], ◌∷◌, ◌++◌, Some, None, cond, is_some, sym, refl, ap, ◌∙◌, append-nil, arith}
use Rattle.dp_lexer.specs.declared.token.Token.{Token}
use Rattle.dp_lexer.specs.declared.token.TokenKind.{TokenKind}
use Rattle.dp_lexer.specs.declared.token.TokenKind.TheVariants as kind
use Rattle.dp_lexer.specs.Keywords.{is_reserved}
use Rattle.dp_expressions.specs.declared.operand.Part.TheVariants as part
use Rattle.dp_expressions.specs.declared.rank.Rank.{Rank}
use Rattle.dp_token_rules.specs.declared.terminal.Terminal.TheVariants.{Of}
use Rattle.dp_lexer.specs.declared.token.Word.TheVariants as word
use Rattle.dp_token_rules.specs.declared.terminal.Terminal.{Terminal}
use Rattle.dp_token_rules.specs.declared.terminal.Terminal.TheVariants as terminal
use Rattle.dp_tree.specs.declared.tree.Expression.{Expression}
use Rattle.dp_tree.specs.declared.tree.Expression.TheVariants as tree
use Rattle.dp_tree.specs.declared.tree.Order.TheVariants.{StepFirst}
use Rattle.dp_token_rules.specs.Terminals.{terminal_of, reserved_terminal, same_terminal, is, is_superglobal}
use Rattle.dp_token_rules.specs.Rules.{Rule, Joined, Gives, Made, One, Mark, Closed, Perhaps}
use Rattle.dp_token_rules.specs.Lists.{NextItem, SomeItems, AnyItems}
use Rattle.dp_expressions.specs.Grammar.{prefix_in, step_in, inclusion_in, constant_in, place, value_of, Ladder, ranks, OperandRule, CoalesceRule, CoalesceRest, ConditionalRest, Primary, PlaceOf, PlaceRule, inner, Links, chained}
use Rattle.dp_expressions.specs.inner.Readers.{begins_expression, tree_of}
use Rattle.dp_token_rules.proofs.Terminals.{placed, mark_passes, mark_alone, implied, reserved_fails}
use Rattle.dp_token_rules.proofs.Answers.{Rules, JoinedAt, OneAt, MadeAt, StartsIn, give, behind, joined_starts, made_starts, or_starts, starts_in_more}
use Rattle.dp_token_rules.proofs.Readers.{marked}
use Rattle.dp_token_rules.specs.TokenValues.{Text, unless, variable_in, name_in, number_in, text_in, by_terminal, by_kind}
use Rattle.dp_expressions.proofs.Least.{zero_token, zero_text, zero_tree, variable_name, variable_text, variable_place, gives_it, no_more, then_nothing, least_ladder, least_operand, least_whole, least_place}
use Rattle.dp_expressions.proofs.Factored.{StepLast, from_operand}
use Rattle.dp_token_rules.proofs.More.{sort_starts, one_of_sort}
use Rattle.dp_expressions.proofs.ExpressionParts.{Under, ItemAt, PlaceUnder, OperandAt, PlaceAt, OtherAt, CoalesceAt, ConditionalAt, IncludeAt, At, begins_other, begins_inclusion, place_starts, other_starts}

-- ---- what expressions begin with

abbrev pub begins_operand : Terminal → Bool
begins_operand s = is terminal.Variable s || begins_other s

pub operand_starts : StartsIn OperandAt begins_operand
operand_starts m text a h =
    or_starts (MadeAt (JoinedAt PlaceAt (λ p _. StepLast p)) tree_of) OtherAt (is terminal.Variable) begins_other
    (made_starts (JoinedAt PlaceAt (λ p _. StepLast p)) tree_of (is terminal.Variable)
    (joined_starts PlaceAt (λ p _. StepLast p) (is terminal.Variable) place_starts)) other_starts m text a
    (from_operand m (inner m) text a h)

pub ladder_starts : (rs : List Rank) (operand : Rules ℕ Expression) (test : Terminal → Bool) → StartsIn operand test
    → StartsIn (λ m. Ladder rs (operand m)) test
ladder_starts [] operand test starts = starts
ladder_starts (r ∷ more) operand test starts =
    joined_starts (λ m. Ladder more (operand m)) (λ first m. Made (Links (Ladder more (operand m)) r)
    (λ links. chained first links)) test (ladder_starts more operand test starts)

pub coalesce_starts : StartsIn CoalesceAt begins_operand
coalesce_starts =
    joined_starts (λ m. Ladder ranks (OperandAt m)) (λ left m. CoalesceRest m (inner m) left) begins_operand
    (ladder_starts ranks OperandAt begins_operand operand_starts)

pub conditional_starts : StartsIn ConditionalAt begins_operand
conditional_starts =
    joined_starts CoalesceAt (λ test m. ConditionalRest m (inner m) test) begins_operand coalesce_starts

pub include_starts : StartsIn IncludeAt begins_inclusion
include_starts m text a h =
    joined_starts (OneAt (by_terminal inclusion_in)) (λ how. MadeAt (Under part.Whole) (tree.Include how))
    begins_inclusion (sort_starts inclusion_in) m text a h.spelled

place_begins : StartsIn PlaceAt begins_expression
place_begins =
    starts_in_more PlaceAt (is terminal.Variable) begins_expression
    (mark_passes begins_expression terminal.Variable refl) place_starts

pub expression_starts : StartsIn (At part.Whole) begins_expression
expression_starts m text a (inl h) =
    starts_in_more IncludeAt begins_inclusion begins_expression
    (implied begins_inclusion begins_expression refl) include_starts m text a h
expression_starts m text a (inr (inl j)) =
    let s = place_begins m j.front j.value j.one in (s.0, s.1 ++ j.back, j.split ∙ ap (λ l. l ++ j.back) s.2, s.3)
expression_starts m text a (inr (inr (inl j))) =
    let s = place_begins m j.front j.value j.one in (s.0, s.1 ++ j.back, j.split ∙ ap (λ l. l ++ j.back) s.2, s.3)
expression_starts m text a (inr (inr (inr h))) =
    starts_in_more ConditionalAt begins_operand begins_expression
    (implied begins_operand begins_expression refl) conditional_starts m text a h

pub whole_under_starts : StartsIn (Under part.Whole) begins_expression
whole_under_starts zero text a h = absurd h
whole_under_starts (suc k) text a h = expression_starts k text a h

-- ---- each such token begins an expression, where a level is left

-- an operand alone
whole_of : (level : ℕ) (text : List Token) (a : Expression) → OperandRule level (inner level) text a
    → At part.Whole level text a
whole_of level text a h =
    let l = least_ladder ranks (OperandRule level (inner level)) text a h in
    let c : CoalesceRule level (inner level) text a = then_nothing (Ladder ranks (OperandRule level (inner level)))
    (CoalesceRest level (inner level)) text a a l (inr (gives_it a)) in
    inr (inr (inr (then_nothing (CoalesceRule level (inner level)) (ConditionalRest level (inner level)) text a a c
    (inr (gives_it a)))))

-- a primary expression with no index
primary_of : (level : ℕ) (text : List Token) (a : Expression) → Primary level (inner level) text a
    → OperandRule level (inner level) text a
primary_of level text a h = inr (inr (inr (inr (inr (inr (record {
  front = text;
  back = [];
  value = a;
  split = sym (append-nil text);
  one = h;
  other =
      record {
        front = [];
        back = [];
        value = [];
        split = refl;
        one = record
            { count = 0; chain = gives_it [] };
        other = gives_it a;
      };
}))))))

place_of_name : (level : ℕ) (x : Token) (name : Text) → variable_in x.kind ≡ Some name
    → PlaceRule level (inner level) (x ∷ []) (place name [])
place_of_name level x name e = record {
  front = x ∷ [];
  back = [];
  value = name;
  split = refl;
  one = record { symbol = x; alone = refl; is_worth = e };
  other =
      record {
        front = [];
        back = [];
        value = [];
        split = refl;
        one = record
            { count = 0; chain = gives_it [] };
        other = gives_it (place name []);
      };
}

-- what begins with this token
abbrev pub Opened : Token → Type 0
Opened x = (more : List Token) × (a : Expression) × At part.Whole 1 (x ∷ more) a

module _ (x : Token) where
  by_variable : (name : Text) → variable_in x.kind ≡ Some name → Opened x
  by_variable name e = (
    [],
    tree.Variable name,
    whole_of 1 (x ∷ []) (tree.Variable name)
        (inr (inr (inr (inr (inr (inl (give (PlaceRule 1 (inner 1)) value_of (x ∷ []) (place name []) (place_of_name 1 x
        name e)))))))),
  )

  by_number : (a : _) → number_in x.kind ≡ Some a → Opened x
  by_number a e = (
    [],
    tree.Number a,
    whole_of 1 (x ∷ []) (tree.Number a)
        (inr (inr (inr (inl (give (One (by_kind number_in)) tree.Number (x ∷ []) a (record {
          symbol = x;
          alone = refl;
          is_worth = e;
        })))))),
  )

  by_text : (a : Text) → text_in x.kind ≡ Some a → Opened x
  by_text a e = (
    [],
    tree.Text a,
    whole_of 1 (x
        ∷ []) (tree.Text a) (primary_of 1 (x ∷ []) (tree.Text a)
        (inl (give (One (by_kind text_in)) tree.Text (x ∷ []) a (record { symbol = x; alone = refl; is_worth = e })))),
  )

  by_constant : is_some (constant_in (terminal_of x.kind)) ≡ true → Opened x
  by_constant e =
      let c = one_of_sort constant_in x e in (
        [],
        c.0,
        whole_of 1 (x ∷ []) c.0
            (primary_of 1 (x ∷ []) c.0 (inr (inl c.1))),
      )

  by_prefix : is_some (prefix_in (terminal_of x.kind)) ≡ true → Opened x
  by_prefix e =
      let c = one_of_sort prefix_in x e in (
        zero_text,
        tree.Unary c.0 zero_tree,
        whole_of 1 (x ∷ zero_text) (tree.Unary c.0 zero_tree)
            (inl (record {
              some = omega arith;
              spelled =
                  behind (One (by_terminal prefix_in)) (λ by. Made (Under part.Alone 1) (tree.Unary by))
                  (x ∷ []) zero_text c.0 (tree.Unary c.0 zero_tree) c.1
                  (give (Under part.Alone 1) (tree.Unary c.0) zero_text zero_tree (least_operand 0 (inner 0)));
            })),
      )

  by_step : is_some (step_in (terminal_of x.kind)) ≡ true → Opened x
  by_step e =
      let c = one_of_sort step_in x e in (
        variable_text,
        tree.Step c.0 StepFirst variable_place,
        whole_of 1 (x ∷ variable_text) (tree.Step c.0 StepFirst variable_place)
            (inr (inl (record {
              some = omega arith;
              spelled =
                  behind (One (by_terminal step_in)) (λ by. Made (PlaceOf ((inner 1).index))
                  (λ of. tree.Step by StepFirst of)) (x ∷ []) variable_text c.0
                  (tree.Step c.0 StepFirst variable_place) c.1
                  (give (PlaceOf ((inner 1).index)) (λ of. tree.Step c.0 StepFirst of) variable_text variable_place
                  (least_place ((inner 1).index)));
            }))),
      )

  by_inclusion : is_some (inclusion_in (terminal_of x.kind)) ≡ true → Opened x
  by_inclusion e =
      let c = one_of_sort inclusion_in x e in (
        zero_text,
        tree.Include c.0 zero_tree,
        inl (record {
          some = omega arith;
          spelled =
              behind (One (by_terminal inclusion_in)) (λ how. Made (Under part.Whole 1) (tree.Include how))
              (x ∷ []) zero_text c.0 (tree.Include c.0 zero_tree) c.1
              (give (Under part.Whole 1) (tree.Include c.0) zero_text zero_tree (least_whole 0 (inner 0)));
        }),
      )

  by_group : is (Of word.OpenParenthesis) (terminal_of x.kind) ≡ true → Opened x
  by_group e =
      let close = placed (kind.Word word.CloseParenthesis) ∷ [] in (
        zero_token ∷ close,
        zero_tree,
        whole_of 1 (x ∷ (zero_token ∷ close)) zero_tree (primary_of 1 (x ∷ (zero_token ∷ close)) zero_tree
            (inr (inr (inl (record {
              some = omega arith;
              spelled =
                  marked (Of word.OpenParenthesis) x (Joined (Under part.Whole 1)
                  (λ within. Joined (Mark (Of word.CloseParenthesis)) (λ _. Gives within)))
                  (zero_token ∷ close) zero_tree e
                  (behind (Under part.Whole 1) (λ within. Joined (Mark (Of word.CloseParenthesis)) (λ _. Gives within))
                  zero_text close zero_tree zero_tree (least_whole 0 (inner 0))
                  (then_nothing (Mark (Of word.CloseParenthesis)) (λ _. Gives zero_tree) close 1 zero_tree
                  (mark_alone (Of word.CloseParenthesis) (kind.Word word.CloseParenthesis) refl) (gives_it zero_tree)));
            }))))),
      )

  -- no items
  no_items : {A : Type 0} (item : List A → Rule A) (close : Terminal) (k : TokenKind)
      → same_terminal (terminal_of k) close ≡ true → AnyItems item close (placed k ∷ []) []
  no_items item close k e = inl (give (Mark close) (λ _. []) (placed k ∷ []) 1 (mark_alone close k e))

  by_literal : is (Of word.OpenBracket) (terminal_of x.kind) ≡ true → Opened x
  by_literal e =
      let close = placed (kind.Word word.CloseBracket) ∷ [] in
      let items = AnyItems (λ _. ItemAt 1) (Of word.CloseBracket) in (
        close,
        tree.Array [],
        whole_of 1 (x ∷ close) (tree.Array []) (primary_of 1 (x ∷ close) (tree.Array [])
            (inr (inr (inr (inl (record {
              some = omega arith;
              spelled = marked (Of word.OpenBracket) x (Made items tree.Array) close (tree.Array []) e
                  (give items tree.Array close [] (no_items (λ _. ItemAt 1) (Of word.CloseBracket)
                  (kind.Word word.CloseBracket)
                  refl));
            })))))),
      )

  by_array : is (Of word.Array) (terminal_of x.kind) ≡ true → Opened x
  by_array e =
      let close = placed (kind.Word word.CloseParenthesis) ∷ [] in
      let open_ = placed (kind.Word word.OpenParenthesis) in
      let items = AnyItems (λ _. ItemAt 1) (Of word.CloseParenthesis) in (
        open_ ∷ close,
        tree.Array [],
        whole_of 1 (x ∷ (open_ ∷ close)) (tree.Array []) (primary_of 1 (x ∷ (open_ ∷ close)) (tree.Array [])
            (inr (inr (inr (inr (inl (record {
              some = omega arith;
              spelled =
                  marked (Of word.Array) x (Joined (Mark (Of word.OpenParenthesis)) (λ _. Made items tree.Array))
                  (open_ ∷ close) (tree.Array []) e
                  (marked (Of word.OpenParenthesis) open_ (Made items tree.Array) close (tree.Array []) refl
                  (give items tree.Array close [] (no_items (λ _. ItemAt 1) (Of word.CloseParenthesis)
                  (kind.Word word.CloseParenthesis) refl)));
            }))))))),
      )

  by_name : (name : Text) → name_in x.kind ≡ Some name → Opened x
  by_name name e = (
    [],
    tree.Constant name,
    whole_of 1 (x ∷ []) (tree.Constant name)
        (primary_of 1 (x ∷ []) (tree.Constant name)
        (inr (inr (inr (inr (inr (inr (give (One (by_kind name_in)) tree.Constant (x ∷ []) name (record {
          symbol = x;
          alone = refl;
          is_worth = e;
        }))))))))),
  )

  one_place : SomeItems (λ _. PlaceUnder 1) (Of word.CloseParenthesis)
      (placed (kind.Variable variable_name) ∷ (placed (kind.Word word.CloseParenthesis) ∷ [])) (variable_place ∷ [])
  one_place =
      let close = placed (kind.Word word.CloseParenthesis) ∷ [] in
      let end : Rule ℕ = Joined (Perhaps (Mark (Of word.Comma))) (λ _. Mark (Of word.CloseParenthesis)) in
      behind (PlaceUnder 1) (λ first. Closed (NextItem (λ _. PlaceUnder 1)) (λ all. Made end (λ _. all)) (first ∷ []))
      variable_text close variable_place (variable_place ∷ []) (least_place ((inner 1).index))
      (no_more (NextItem (λ _. PlaceUnder 1)) (λ all. Made end (λ _. all)) (variable_place ∷ []) close
      (variable_place ∷ [])
      (give end (λ _. variable_place
      ∷ []) close 1 (record {
        front = [];
        back = close;
        value = None;
        split = refl;
        one = inr
            (gives_it None);
        other = mark_alone (Of word.CloseParenthesis) (kind.Word word.CloseParenthesis) refl;
      })))

  by_isset : is (Of word.Isset) (terminal_of x.kind) ≡ true → Opened x
  by_isset e =
      let open_ = placed (kind.Word word.OpenParenthesis) in
      let rest = placed (kind.Variable variable_name) ∷ (placed (kind.Word word.CloseParenthesis) ∷ []) in
      let items = SomeItems (λ _. PlaceUnder 1) (Of word.CloseParenthesis) in
      let found = tree.Isset (variable_place ∷ []) in (
        open_ ∷ rest,
        found,
        whole_of 1 (x ∷ (open_ ∷ rest)) found
            (inr (inr (inr (inr (inl (record {
              some = omega arith;
              spelled =
                  marked (Of word.Isset) x (Joined (Mark (Of word.OpenParenthesis)) (λ _. Made items tree.Isset))
                  (open_ ∷ rest) found e
                  (marked (Of word.OpenParenthesis) open_ (Made items tree.Isset) rest found refl
                  (give items tree.Isset rest (variable_place ∷ []) one_place));
            })))))),
      )

  variable_opens : (name : Text) (b : Bool) → is_superglobal name ≡ b → x.kind ≡ kind.Variable name
      → begins_expression (cond b terminal.Superglobal terminal.Variable) ≡ true → Opened x
  variable_opens name true is e begins = absurd (cc)
  variable_opens name false is e begins = by_variable name (ap variable_in e ∙ ap (λ b. unless b name) is)

  name_opens : (name : Text) (b : Bool) → is_reserved name ≡ b → x.kind ≡ kind.Name name
      → begins_expression (cond b (reserved_terminal name) terminal.Name) ≡ true → Opened x
  name_opens name true is e begins = let none = reserved_fails begins_expression name refl refl in absurd (cc)
  name_opens name false is e begins = by_name name (ap name_in e ∙ ap (λ b. unless b name) is)

  by_kind_of : (k : TokenKind) → x.kind ≡ k → begins_expression (terminal_of k) ≡ true → Opened x
  by_kind_of (kind.Variable name) e begins = variable_opens name (is_superglobal name) refl e begins
  by_kind_of (kind.Name name) e begins = name_opens name (is_reserved name) refl e begins
  by_kind_of (kind.Number n) e begins = by_number n (ap number_in e)
  by_kind_of (kind.Text bytes) e begins = by_text bytes (ap text_in e)
  by_kind_of (kind.Word word.Null) e begins = by_constant (ap (λ k. is_some (constant_in (terminal_of k))) e)
  by_kind_of (kind.Word word.True) e begins = by_constant (ap (λ k. is_some (constant_in (terminal_of k))) e)
  by_kind_of (kind.Word word.False) e begins = by_constant (ap (λ k. is_some (constant_in (terminal_of k))) e)
  by_kind_of (kind.Word word.Bang) e begins = by_prefix (ap (λ k. is_some (prefix_in (terminal_of k))) e)
  by_kind_of (kind.Word word.Minus) e begins = by_prefix (ap (λ k. is_some (prefix_in (terminal_of k))) e)
  by_kind_of (kind.Word word.Plus) e begins = by_prefix (ap (λ k. is_some (prefix_in (terminal_of k))) e)
  by_kind_of (kind.Word word.Increment) e begins = by_step (ap (λ k. is_some (step_in (terminal_of k))) e)
  by_kind_of (kind.Word word.Decrement) e begins = by_step (ap (λ k. is_some (step_in (terminal_of k))) e)
  by_kind_of (kind.Word word.Include) e begins = by_inclusion (ap (λ k. is_some (inclusion_in (terminal_of k))) e)
  by_kind_of (kind.Word word.Require) e begins = by_inclusion (ap (λ k. is_some (inclusion_in (terminal_of k))) e)
  by_kind_of (kind.Word word.OpenParenthesis) e begins = by_group
      (ap (λ k. is (Of word.OpenParenthesis) (terminal_of k)) e)
  by_kind_of (kind.Word word.OpenBracket) e begins = by_literal (ap (λ k. is (Of word.OpenBracket) (terminal_of k)) e)
  by_kind_of (kind.Word word.Array) e begins = by_array (ap (λ k. is (Of word.Array) (terminal_of k)) e)
  by_kind_of (kind.Word word.Isset) e begins = by_isset (ap (λ k. is (Of word.Isset) (terminal_of k)) e)
  by_kind_of _ e begins = absurd (cc)

-- such a token begins an expression with one level of nesting
pub begins_one : (x : Token) → begins_expression (terminal_of x.kind) ≡ true → Opened x
begins_one x begins = by_kind_of x x.kind refl begins
