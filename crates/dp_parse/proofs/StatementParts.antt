-- How the parts of statements in which no body stands are read.
use Rattle.std.proofs.Common.{◌≡◌, inl, inr, ℕ, ◌≤◌, Bool, true, false, not, ◌&&◌, ◌||◌, List, [], ◌∷◌, ◌++◌, nat_lt, Option, Some, None, Ok, refl, arith}
use Rattle.dp_lexer.specs.declared.token.Token.{Token}
use Rattle.dp_lexer.specs.declared.token.TokenKind.{TokenKind}
use Rattle.dp_lexer.specs.declared.token.TokenKind.TheVariants as kind
use Rattle.dp_parse.specs.declared.ended.Body.{Body}
use Rattle.dp_parse.specs.declared.ended.Ended.{Ended}
use Rattle.dp_expressions.specs.declared.operand.Part.TheVariants as part
use Rattle.dp_token_rules.specs.declared.terminal.Terminal.TheVariants.{Of}
use Rattle.dp_lexer.specs.declared.token.Word.TheVariants as word
use Rattle.dp_token_rules.specs.declared.terminal.Terminal.{Terminal}
use Rattle.dp_token_rules.specs.declared.terminal.Terminal.TheVariants as terminal
use Rattle.dp_tree.specs.declared.tree.Binding.{Binding}
use Rattle.dp_tree.specs.declared.tree.Expression.{Expression}
use Rattle.dp_tree.specs.declared.tree.Place.{Place}
use Rattle.dp_tree.specs.declared.tree.StatementKind.TheVariants as tree
use Rattle.dp_token_rules.specs.Terminals.{terminal_of, same_terminal, is}
use Rattle.dp_token_rules.specs.inner.Input.{Reader, gives, made, mark, refuse, ◌>>=◌, ◌>>◌, kind, variable}
use Rattle.dp_token_rules.specs.Rules.{Rule, Joined, Made, Mark, Perhaps, Closed}
use Rattle.dp_token_rules.specs.Lists.{NextItem}
use Rattle.dp_token_rules.specs.inner.ListReaders.{plain_items, some_items, any_plain_items}
use Rattle.dp_expressions.specs.Grammar.{IsExpression, IsPlace}
use Rattle.dp_expressions.specs.inner.Readers.{begins_expression, reading, reading_place}
use Rattle.dp_parse.specs.Statements.{Depth, whole, binding, Bound, GlobalRule, Empty, Perform, Echo, Test, Loops, Return, Unset, Exit, body_at}
use Rattle.dp_parse.specs.Statements as grammar_of
use Rattle.dp_parse.specs.inner.StatementRules.{empty, bound_rest, bound, global_rule, exit_word, perform, echo, head_test, levels, loops_rule, break_rule, continue_rule, maybe_up_to, return_rule, unset, exit_value, exit}
use Rattle.dp_token_rules.proofs.Terminals.{not_true, placed, mark_alone, mark_fails, mark_apart}
use Rattle.dp_token_rules.proofs.Answers.{Rules, Stop, Anything, JoinedAt, EitherAt, GivesAt, OneAt, MarkAt, MadeAt, Answers, StartsIn, give, behind, mark_starts, joined_starts, made_starts, starts_apart, gives_apart, one_starts, one_answers, gives_answers, either_answers, within_answers, when_answers}
use Rattle.dp_token_rules.proofs.More.{variable_starts}
use Rattle.dp_token_rules.proofs.ListAnswers.{PlainItemsAt, SomeItemsAt, AnyPlainItemsAt, AreItems, plain_items_answers, some_items_answers, any_plain_items_answers}
use Rattle.dp_parse.proofs.StatementReaders.{Deeper, same_depth, IsPartReader, gives_reader, mark_reader, then_reader, made_reader, mark_then, before_mark, either_reader, stricter}
use Rattle.dp_token_rules.specs.TokenValues.{Text, Variable, variable_in, by_kind, number_up_to}

-- ---- lists with commas

module _ (base : ℕ) (level : Depth) {A : Type 0} (rule : Rules Depth A) (item_stop : Stop A) (test : Terminal → Bool)
    (read : Reader A) (reader : IsPartReader base rule item_stop level read)
    (starts : StartsIn rule test) (not_comma : test (Of word.Comma) ≡ false)
    (stops_comma : (a : A) → item_stop a (Of word.Comma) ≡ true)
    (close : Terminal) (k : TokenKind) (closes : same_terminal (terminal_of k) close ≡ true)
    (not_close : test close ≡ false) (close_apart : same_terminal close (Of word.Comma) ≡ false)
    (stops_close : (a : A) → item_stop a close ≡ true) where
  items : base ≤ level.bodies → AreItems Deeper (λ _. rule) close item_stop test level (λ _. read)
  items some = record {
    starts = λ all. starts;
    not_comma = not_comma;
    not_close = not_close;
    close_apart = close_apart;
    stops_comma = stops_comma;
    stops_close = stops_close;
    closing = placed k;
    closes = closes;
    some_item = λ m above. reader.least m (let d = above.bodies in omega arith);
    reads = λ all ts. reader.answers some ts;
  }

  least_items : (end : Rule ℕ) → end (placed k ∷ []) 1 → (m : Depth) → base ≤ m.bodies
      → (ts : List Token) × (all : List A)
      × Joined (rule m) (λ first. Closed (λ all. NextItem (λ _. rule m) all) (λ all. Made end (λ _. all)) (first ∷ []))
      ts all
  least_items end ends m some =
      let i = reader.least m some in
      let text : List Token = placed k ∷ [] in (
        i.0 ++ text,
        i.1 ∷ [],
        behind (rule m) (λ first. Closed (λ all. NextItem (λ _. rule m) all) (λ all. Made end (λ _. all)) (first ∷ []))
            i.0 text i.1 (i.1 ∷ []) i.2 (record { count = 0; chain = give end (λ _. i.1 ∷ []) text 1 ends }),
      )

  pub plain_reader : IsPartReader base (PlainItemsAt (λ _. rule) close) Anything level (plain_items (λ _. read) close)
  plain_reader = record {
    answers =
        λ some. plain_items_answers Deeper same_depth (λ _. rule) close item_stop test level (λ _. read) (items some)
        (λ m above all. reader.least m (let d = above.bodies in omega arith));
    least = least_items (Mark close) (mark_alone close k closes);
  }

  pub some_reader : IsPartReader base (SomeItemsAt (λ _. rule) close) Anything level (some_items (λ _. read) close)
  some_reader = record {
    answers =
        λ some. some_items_answers Deeper same_depth (λ _. rule) close item_stop test level (λ _. read) (items some);
    least =
        least_items (Joined (Perhaps (Mark (Of word.Comma))) (λ _. Mark close))
        (record {
          front = [];
          back = placed k
              ∷ [];
          value = None;
          split = refl;
          one = inr (record { empty = refl; same = refl });
          other = mark_alone close k
              closes;
        });
  }

  pub any_plain_reader : IsPartReader base (AnyPlainItemsAt (λ _. rule) close) Anything level
      (any_plain_items (λ _. read) close)
  any_plain_reader = record {
    answers =
        λ some. any_plain_items_answers Deeper same_depth (λ _. rule) close item_stop test level (λ _. read)
        (items some) (λ m above all. reader.least m (let d = above.bodies in omega arith));
    least =
        λ m some. (placed k ∷ [], [], inl (give (Mark close) (λ _. []) (placed k ∷ []) 1 (mark_alone close k closes)));
  }

-- ---- expressions and places, as they are read

-- the tokens that may stand behind an expression in a statement
abbrev pub closing : Terminal → Bool
closing s =
    is (Of word.Semicolon) s || is (Of word.CloseParenthesis) s || is (Of word.Comma) s || is (Of word.As) s
    || is terminal.End s

pub record AreRead (ends place_ends : Terminal → Bool) : Type 0 where
  pub reads : (level : ℕ) (ts : List Token)
      → Answers ◌≤◌ IsExpression (λ _ s. ends s) level ts (reading level part.Whole ts)
  pub reads_place : (level : ℕ) (ts : List Token)
      → Answers ◌≤◌ IsPlace (λ _ s. place_ends s) level ts (reading_place level ts)
  pub starts : StartsIn IsExpression begins_expression
  pub place_starts : StartsIn IsPlace (is terminal.Variable)
  pub least : (level : ℕ) → (ts : List Token) × (a : Expression) × IsExpression level ts a
  pub least_place : (level : ℕ) → (ts : List Token) × (a : Place) × IsPlace level ts a
  pub stops : (s : Terminal) → closing s ≡ true → ends s ≡ true
  pub stops_place : (s : Terminal) → closing s ≡ true → place_ends s ≡ true

abbrev pub ExpressionAt : Rules Depth Expression
ExpressionAt m = IsExpression m.expressions

abbrev pub PlaceAt : Rules Depth Place
PlaceAt m = IsPlace m.expressions

-- a rule of statements in so many loops, at each depth
abbrev pub StatementAt : {A : Type 0} → (ℕ → ℕ → Rule Expression → Rule Place → (ℕ → Rule Body) → Rule A) → ℕ
    → Rules Depth A
StatementAt rule loops =
    λ m. rule m.bodies loops (IsExpression m.expressions) (IsPlace m.expressions) (body_at m.expressions m.bodies)

-- and what reads it
abbrev pub reader_at : {R : Type 0} → (ℕ → ℕ → Reader Expression → Reader Place → (ℕ → Reader Body) → R) → ℕ → Depth
    → (ℕ → Reader Body) → R
reader_at read loops level body =
    read level.bodies loops (reading level.expressions part.Whole) (reading_place level.expressions) body

-- ---- what a statement may be followed by

abbrev pub takes_else : Terminal → Bool
takes_else s = is (Of word.Else) s || is (Of word.ElseIf) s

-- what is open does not end before an `else`
abbrev pub open_ends : Bool → Terminal → Bool
open_ends is_open s = not (is_open && takes_else s)

abbrev pub ended_stop : Ended → Terminal → Bool
ended_stop e s = open_ends e.is_open s

abbrev pub body_stop : Body → Terminal → Bool
body_stop b s = open_ends b.is_open s

module _ (base : ℕ) (level : Depth) where
  -- ---- rules of one token

  pub kind_reader : {A : Type 0} (worth : TokenKind → Option A) (k : TokenKind) (a : A) → worth k ≡ Some a
      → IsPartReader base (OneAt (by_kind worth)) Anything level (kind worth)
  kind_reader worth k a is_worth = record {
    answers = λ some ts. one_answers Deeper same_depth (by_kind worth) Anything level ts;
    least = λ m some. (placed k ∷ [], a, record { symbol = placed k; alone = refl; is_worth = is_worth });
  }

  pub variable_reader : IsPartReader base (λ _. Variable) Anything level variable
  unfolding variable
  variable_reader = kind_reader variable_in (kind.Variable (97 ∷ [])) (97 ∷ []) refl

  pub empty_reader : IsPartReader base (λ _. Empty) ended_stop level empty
  unfolding empty
  empty_reader =
      made_reader base level (MarkAt (Of word.Semicolon)) (λ _. whole tree.Empty) Anything ended_stop
      (mark (Of word.Semicolon)) (λ a s e. refl) (mark_reader base level (Of word.Semicolon) (kind.Word word.Semicolon)
      refl)

  -- ---- the variables of a `foreach`

  abbrev pub bound_stop : Binding → Terminal → Bool
  bound_stop b s = not (is (Of word.Arrow) s)

  abbrev BoundRestAt : Text → Rules Depth Binding
  BoundRestAt first =
      EitherAt (MadeAt (JoinedAt (MarkAt (Of word.Arrow)) (λ _ _. Variable)) (λ value. binding (Some first) value))
      (GivesAt (binding None first))

  arrow_starts : (first : Text)
      → StartsIn {L = Depth} (MadeAt (JoinedAt (MarkAt (Of word.Arrow)) (λ _ _. Variable))
      (λ value. binding (Some first) value)) (is (Of word.Arrow))
  arrow_starts first =
      made_starts (JoinedAt (MarkAt (Of word.Arrow)) (λ _ _. Variable)) (λ value. binding (Some first) value)
      (is (Of word.Arrow)) (joined_starts (MarkAt (Of word.Arrow)) (λ _ _. Variable) (is (Of word.Arrow))
      (mark_starts (Of word.Arrow)))

  bound_rest_reader : (first : Text) → IsPartReader base (BoundRestAt first) bound_stop level (bound_rest first)
  unfolding bound_rest
  bound_rest_reader first =
      either_reader base level (MadeAt (JoinedAt (MarkAt (Of word.Arrow)) (λ _ _. Variable))
      (λ value. binding (Some first) value)) (GivesAt (binding None first)) (is (Of word.Arrow)) bound_stop
      (made (mark (Of word.Arrow) >> variable) (λ value. binding (Some first) value)) (gives (binding None first))
      (arrow_starts first)
      (gives_apart (binding None first) bound_stop (is (Of word.Arrow)) (λ s e. not_true (is (Of word.Arrow) s) e))
      (made_reader base level (JoinedAt (MarkAt (Of word.Arrow)) (λ _ _. Variable))
      (λ value. binding (Some first) value) Anything bound_stop (mark (Of word.Arrow) >> variable) (λ a s e. refl)
      (mark_then base level (Of word.Arrow) (kind.Word word.Arrow) refl (λ _ _. Variable) Anything (λ _. variable)
      (λ _. variable_reader)))
      (gives_reader base level (binding None first) bound_stop)

  pub bound_reader : IsPartReader base (λ _. Bound) bound_stop level bound
  unfolding bound
  bound_reader =
      then_reader base level (λ _. Variable) BoundRestAt bound_stop variable bound_rest variable_reader
      bound_rest_reader

  -- ---- statements without expressions

  pub global_reader : IsPartReader base (λ _. GlobalRule) ended_stop level global_rule
  unfolding global_rule
  global_reader =
      made_reader base level (JoinedAt (MarkAt (Of word.Global))
      (λ _. PlainItemsAt (λ _ _. Variable) (Of word.Semicolon))) (λ names. whole (tree.Global names)) Anything
      ended_stop
      (mark (Of word.Global) >> plain_items (λ _. variable) (Of word.Semicolon)) (λ a s e. refl)
      (mark_then base level (Of word.Global) (kind.Word word.Global) refl
      (λ _. PlainItemsAt (λ _ _. Variable) (Of word.Semicolon))
      Anything (λ _. plain_items (λ _. variable) (Of word.Semicolon))
      (λ _. plain_reader base level (λ _. Variable) Anything (is terminal.Variable) variable variable_reader
      variable_starts refl (λ a. refl) (Of word.Semicolon) (kind.Word word.Semicolon) refl refl refl (λ a. refl)))

  exit_word_reader : IsPartReader base (EitherAt (MarkAt (Of word.Exit)) (MarkAt (Of word.Die))) Anything level
      exit_word
  unfolding exit_word
  exit_word_reader =
      either_reader base level (MarkAt (Of word.Exit)) (MarkAt (Of word.Die)) (is (Of word.Exit)) Anything
      (mark (Of word.Exit)) (mark (Of word.Die)) (mark_starts (Of word.Exit))
      (starts_apart (MarkAt (Of word.Die)) Anything (is (Of word.Exit)) (is (Of word.Die))
      (mark_fails (is (Of word.Exit)) (Of word.Die) refl) (mark_starts (Of word.Die)))
      (mark_reader base level (Of word.Exit) (kind.Word word.Exit) refl)
      (mark_reader base level (Of word.Die) (kind.Word word.Die) refl)

  module _ (loops : ℕ) (body : ℕ → Reader Body) where
    -- ---- how many loops

    abbrev levels_stop : ℕ → Terminal → Bool
    levels_stop n s = is (Of word.Semicolon) s

    abbrev LevelsAt : Rules Depth ℕ
    LevelsAt = EitherAt (OneAt (by_kind (number_up_to loops))) (GivesAt 1)

    levels_starts : StartsIn {L = Depth} (OneAt (by_kind (number_up_to loops))) (is terminal.Number)
    levels_starts = one_starts (by_kind (number_up_to loops)) (is terminal.Number) (λ t a e. of t.kind a e)
      where
        of : (k : TokenKind) (a : ℕ) → number_up_to loops k ≡ Some a → is terminal.Number (terminal_of k) ≡ true
        of (kind.Number n) a e = refl
        of _ a e = absurd (cc)

    levels_reader : IsPartReader base LevelsAt levels_stop level (reader_at levels loops level body)
    unfolding levels
    levels_reader = record {
      answers =
          λ some ts. either_answers Deeper same_depth (OneAt (by_kind (number_up_to loops))) (GivesAt 1)
          (is terminal.Number) levels_stop level ts levels_starts
          (gives_apart 1 levels_stop (is terminal.Number) (mark_fails (is terminal.Number) (Of word.Semicolon) refl))
          (kind (number_up_to loops) ts) (Ok (1, ts)) (λ _. one_answers Deeper same_depth
          (by_kind (number_up_to loops)) levels_stop level ts)
          (λ _. gives_answers Deeper same_depth 1 levels_stop level ts);
      least = λ m some. ([], 1, inr (record { empty = refl; same = refl }));
    }

    loops_reader : IsPartReader base (StatementAt Loops loops) Anything level (reader_at loops_rule loops level body)
    unfolding loops_rule
    loops_reader =
        before_mark base level LevelsAt levels_stop (Of word.Semicolon) (kind.Word word.Semicolon) refl (λ a. refl)
        (λ n _. GivesAt n) Anything (reader_at levels loops level body) (λ n _. gives n) levels_reader
        (λ n _. gives_reader base level n Anything)

    -- a word and how many loops, in a loop
    in_loop_reader : (s : Terminal) (k : TokenKind) → same_terminal (terminal_of k) s ≡ true → (f : ℕ → Ended)
        → IsPartReader base (MadeAt (JoinedAt (MarkAt s) (λ _. StatementAt Loops loops)) f) ended_stop level
        (made (mark s >> reader_at loops_rule loops level body) f)
    in_loop_reader s k is_sort f =
        made_reader base level (JoinedAt (MarkAt s) (λ _. StatementAt Loops loops)) f Anything ended_stop
        (mark s >> reader_at loops_rule loops level body) (λ n x e. refl)
        (mark_then base level s k is_sort (λ _. StatementAt Loops loops) Anything
        (λ _. reader_at loops_rule loops level body) (λ _. loops_reader))

    pub break_answers : base ≤ level.bodies → (ts : List Token)
        → Answers Deeper (StatementAt grammar_of.Break loops) ended_stop level ts
        (reader_at break_rule loops level body ts)
    unfolding break_rule refuse
    break_answers some ts =
        when_answers Deeper same_depth (nat_lt 0 loops) (MadeAt
        (JoinedAt (MarkAt (Of word.Break)) (λ _. StatementAt Loops loops)) (λ n. whole (tree.Break n))) ended_stop level
        ts
        (made (mark (Of word.Break) >> reader_at loops_rule loops level body) (λ n. whole (tree.Break n)) ts)
        (λ _. (in_loop_reader (Of word.Break) (kind.Word word.Break) refl (λ n. whole (tree.Break n))).answers some ts)

    pub continue_answers : base ≤ level.bodies → (ts : List Token)
        → Answers Deeper (StatementAt grammar_of.Continue loops) ended_stop level ts
        (reader_at continue_rule loops level body ts)
    unfolding continue_rule refuse
    continue_answers some ts =
        when_answers Deeper same_depth (nat_lt 0 loops) (MadeAt
        (JoinedAt (MarkAt (Of word.Continue)) (λ _. StatementAt Loops loops)) (λ n. whole (tree.Continue n))) ended_stop
        level ts
        (made (mark (Of word.Continue) >> reader_at loops_rule loops level body) (λ n. whole (tree.Continue n)) ts)
        (λ _. (in_loop_reader (Of word.Continue) (kind.Word word.Continue) refl (λ n. whole (tree.Continue n))).answers
        some ts)

    -- ---- statements of expressions and places

    module _ (ends place_ends : Terminal → Bool) (known : AreRead ends place_ends) where
      abbrev expression : Reader Expression
      expression = reading level.expressions part.Whole

      abbrev place : Reader Place
      place = reading_place level.expressions

      abbrev expression_stop : Expression → Terminal → Bool
      expression_stop a s = ends s

      abbrev place_stop : Place → Terminal → Bool
      place_stop a s = place_ends s

      pub expression_reader : IsPartReader base ExpressionAt expression_stop level expression
      expression_reader = record {
        answers =
            λ some ts. within_answers ◌≤◌ Deeper IsExpression expression_stop level ts (λ m. m.expressions)
            (λ m above. above.expressions)
            (λ k bound. (
              record { expressions = k; bodies = level.bodies },
              record { expressions = bound; bodies = omega arith },
              refl,
            )) (expression ts)
            (known.reads level.expressions ts);
        least = λ m some. known.least m.expressions;
      }

      pub place_reader : IsPartReader base PlaceAt place_stop level place
      place_reader = record {
        answers =
            λ some ts. within_answers ◌≤◌ Deeper IsPlace place_stop level ts (λ m. m.expressions)
            (λ m above. above.expressions)
            (λ k bound. (
              record { expressions = k; bodies = level.bodies },
              record { expressions = bound; bodies = omega arith },
              refl,
            )) (place ts)
            (known.reads_place level.expressions ts);
        least = λ m some. known.least_place m.expressions;
      }

      pub expression_starts : StartsIn ExpressionAt begins_expression
      expression_starts m text a h = known.starts m.expressions text a h

      place_starts : StartsIn PlaceAt (is terminal.Variable)
      place_starts m text a h = known.place_starts m.expressions text a h

      -- an expression, a token that may stand behind it, and the rest
      pub expression_then : {A : Type 0} (s : Terminal) (k : TokenKind) → same_terminal (terminal_of k) s ≡ true
          → closing s ≡ true → (rest : Expression → ℕ → Rules Depth A) (stop : Stop A) (f : Expression → ℕ → Reader A)
          → ((a : Expression) (line : ℕ) → IsPartReader base (rest a line) stop level (f a line))
          → IsPartReader base (JoinedAt ExpressionAt (λ a. JoinedAt (MarkAt s) (rest a))) stop level
          (expression >>= (λ a. mark s >>= f a))
      expression_then s k is_sort closes rest stop f other =
          before_mark base level ExpressionAt expression_stop s k is_sort
          (λ a. known.stops s closes) rest stop expression f expression_reader other

      pub perform_reader : IsPartReader base (StatementAt Perform loops) ended_stop level
          (reader_at perform loops level body)
      unfolding perform
      perform_reader =
          expression_then (Of word.Semicolon) (kind.Word word.Semicolon) refl refl
          (λ value _. GivesAt (whole (tree.Expression value))) ended_stop
          (λ value _. gives (whole (tree.Expression value))) (λ value _. gives_reader base level
          (whole (tree.Expression value)) ended_stop)

      plain_expressions : IsPartReader base (PlainItemsAt (λ _. ExpressionAt) (Of word.Semicolon)) Anything level
          (plain_items (λ _. expression) (Of word.Semicolon))
      plain_expressions =
          plain_reader base level ExpressionAt expression_stop begins_expression expression expression_reader
          expression_starts refl (λ a. known.stops (Of word.Comma) refl) (Of word.Semicolon) (kind.Word word.Semicolon)
          refl refl refl
          (λ a. known.stops (Of word.Semicolon) refl)

      -- the expressions of a `for`, up to the token that ends them
      pub any_expressions : (close : Terminal) (k : TokenKind) → same_terminal (terminal_of k) close ≡ true
          → begins_expression close ≡ false → same_terminal close (Of word.Comma) ≡ false → closing close ≡ true
          → IsPartReader base (AnyPlainItemsAt (λ _. ExpressionAt) close) Anything level
          (any_plain_items (λ _. expression) close)
      any_expressions close k is_sort not_first not_comma closes =
          any_plain_reader base level ExpressionAt expression_stop begins_expression expression expression_reader
          expression_starts refl (λ a. known.stops (Of word.Comma) refl) close k is_sort not_first not_comma
          (λ a. known.stops close closes)

      pub echo_reader : IsPartReader base (StatementAt Echo loops) ended_stop level (reader_at echo loops level body)
      unfolding echo
      echo_reader =
          mark_then base level (Of word.Echo) (kind.Word word.Echo) refl (λ _. JoinedAt
          (PlainItemsAt (λ _. ExpressionAt) (Of word.Semicolon)) (λ values. GivesAt (whole (tree.Echo values))))
          ended_stop
          (λ _. plain_items (λ _. expression) (Of word.Semicolon) >>= (λ values. gives (whole (tree.Echo values))))
          (λ _. then_reader base level (PlainItemsAt (λ _. ExpressionAt) (Of word.Semicolon))
          (λ values. GivesAt (whole (tree.Echo values))) ended_stop
          (plain_items (λ _. expression) (Of word.Semicolon)) (λ values. gives (whole (tree.Echo values)))
          plain_expressions (λ values. gives_reader base level (whole (tree.Echo values)) ended_stop))

      pub test_reader : IsPartReader base (StatementAt Test loops) Anything level (reader_at head_test loops level body)
      unfolding head_test
      test_reader =
          mark_then base level (Of word.OpenParenthesis) (kind.Word word.OpenParenthesis) refl
          (λ _. JoinedAt ExpressionAt (λ found. JoinedAt (MarkAt (Of word.CloseParenthesis)) (λ _. GivesAt found)))
          Anything
          (λ _. expression >>= (λ found. mark (Of word.CloseParenthesis) >> gives found))
          (λ _. expression_then (Of word.CloseParenthesis) (kind.Word word.CloseParenthesis) refl refl
          (λ found _. GivesAt found) Anything (λ found _. gives found)
          (λ found _. gives_reader base level found Anything))

      -- ---- an expression that may be missing

      abbrev NoneAt : Terminal → Rules Depth (Option Expression)
      NoneAt close = MadeAt (MarkAt close) (λ _. None)

      abbrev SomeAt : Terminal → Rules Depth (Option Expression)
      SomeAt close = JoinedAt ExpressionAt (λ value. MadeAt (MarkAt close) (λ _. Some value))

      maybe_reader : (close : Terminal) (k : TokenKind) → same_terminal (terminal_of k) close ≡ true
          → begins_expression close ≡ false → closing close ≡ true
          → IsPartReader base (EitherAt (NoneAt close) (SomeAt close)) Anything level
          (reader_at maybe_up_to loops level body close)
      unfolding maybe_up_to
      maybe_reader close k is_sort not_first closes =
          either_reader base level (NoneAt close) (SomeAt close) (is close) Anything (made (mark close) (λ _. None))
          (expression >>= (λ value. made (mark close) (λ _. Some value)))
          (made_starts (MarkAt close) (λ _. None) (is close) (mark_starts close))
          (starts_apart (SomeAt close) Anything (is close) begins_expression
          (mark_apart begins_expression close not_first) (joined_starts ExpressionAt
          (λ value. MadeAt (MarkAt close) (λ _. Some value)) begins_expression expression_starts))
          (made_reader base level (MarkAt close) (λ _. None) Anything Anything (mark close) (λ a s e. refl)
          (mark_reader base level close k is_sort))
          (expression_then close k is_sort closes (λ value _. GivesAt (Some value)) Anything
          (λ value _. gives (Some value)) (λ value _. gives_reader base level (Some value) Anything))

      pub return_reader : IsPartReader base (StatementAt Return loops) ended_stop level
          (reader_at return_rule loops level body)
      unfolding return_rule
      return_reader =
          made_reader base level (JoinedAt (MarkAt (Of word.Return))
          (λ _. EitherAt (NoneAt (Of word.Semicolon)) (SomeAt (Of word.Semicolon))))
          (λ value. whole (tree.Return value)) Anything ended_stop
          (mark (Of word.Return) >> reader_at maybe_up_to loops level body (Of word.Semicolon)) (λ a s e. refl)
          (mark_then base level (Of word.Return) (kind.Word word.Return) refl
          (λ _. EitherAt (NoneAt (Of word.Semicolon)) (SomeAt (Of word.Semicolon))) Anything
          (λ _. reader_at maybe_up_to loops level body (Of word.Semicolon))
          (λ _. maybe_reader (Of word.Semicolon) (kind.Word word.Semicolon) refl refl refl))

      -- ---- unset and exit

      some_places : IsPartReader base (SomeItemsAt (λ _. PlaceAt) (Of word.CloseParenthesis)) Anything level
          (some_items (λ _. place) (Of word.CloseParenthesis))
      some_places =
          some_reader base level PlaceAt place_stop (is terminal.Variable) place place_reader place_starts refl
          (λ a. known.stops_place (Of word.Comma) refl) (Of word.CloseParenthesis) (kind.Word word.CloseParenthesis)
          refl refl refl
          (λ a. known.stops_place (Of word.CloseParenthesis) refl)

      pub unset_reader : IsPartReader base (StatementAt Unset loops) ended_stop level (reader_at unset loops level body)
      unfolding unset
      unset_reader =
          let last : List Place → ℕ → Rules Depth Ended = λ places _. GivesAt (whole (tree.Unset places)) in
          let rest : Rules Depth Ended = JoinedAt (SomeItemsAt (λ _. PlaceAt) (Of word.CloseParenthesis))
          (λ places. JoinedAt (MarkAt (Of word.Semicolon)) (last places)) in
          let read : Reader Ended = some_items (λ _. place) (Of word.CloseParenthesis)
          >>= (λ places. mark (Of word.Semicolon) >> gives (whole (tree.Unset places))) in
          mark_then base level (Of word.Unset) (kind.Word word.Unset) refl
          (λ _. JoinedAt (MarkAt (Of word.OpenParenthesis)) (λ _. rest)) ended_stop
          (λ _. mark (Of word.OpenParenthesis) >> read)
          (λ _. mark_then base level (Of word.OpenParenthesis) (kind.Word word.OpenParenthesis) refl (λ _. rest)
          ended_stop
          (λ _. read)
          (λ _. before_mark base level (SomeItemsAt (λ _. PlaceAt) (Of word.CloseParenthesis)) Anything
          (Of word.Semicolon) (kind.Word word.Semicolon) refl (λ a. refl) last ended_stop
          (some_items (λ _. place) (Of word.CloseParenthesis)) (λ places _. gives (whole (tree.Unset places)))
          some_places (λ places _. gives_reader base level (whole (tree.Unset places)) ended_stop)))

      abbrev value_stop : Option Expression → Terminal → Bool
      value_stop a s = is (Of word.Semicolon) s

      abbrev ValueAt : Rules Depth (Option Expression)
      ValueAt =
          JoinedAt (MarkAt (Of word.OpenParenthesis)) (λ _. EitherAt (NoneAt (Of word.CloseParenthesis))
          (SomeAt (Of word.CloseParenthesis)))

      exit_value_reader : IsPartReader base (EitherAt ValueAt (GivesAt None)) value_stop level
          (reader_at exit_value loops level body)
      unfolding exit_value
      exit_value_reader =
          either_reader base level ValueAt (GivesAt None) (is (Of word.OpenParenthesis)) value_stop
          (mark (Of word.OpenParenthesis) >> reader_at maybe_up_to loops level body (Of word.CloseParenthesis))
          (gives None)
          (joined_starts (MarkAt (Of word.OpenParenthesis)) (λ _. EitherAt (NoneAt (Of word.CloseParenthesis))
          (SomeAt (Of word.CloseParenthesis))) (is (Of word.OpenParenthesis)) (mark_starts (Of word.OpenParenthesis)))
          (gives_apart None value_stop (is (Of word.OpenParenthesis))
          (mark_fails (is (Of word.OpenParenthesis)) (Of word.Semicolon) refl))
          (stricter base level ValueAt Anything value_stop
          (mark (Of word.OpenParenthesis) >> reader_at maybe_up_to loops
          level body (Of word.CloseParenthesis)) (λ a s e. refl)
          (mark_then base level (Of word.OpenParenthesis) (kind.Word word.OpenParenthesis) refl
          (λ _. EitherAt (NoneAt (Of word.CloseParenthesis)) (SomeAt (Of word.CloseParenthesis))) Anything
          (λ _. reader_at maybe_up_to loops level body (Of word.CloseParenthesis))
          (λ _. maybe_reader (Of word.CloseParenthesis) (kind.Word word.CloseParenthesis) refl refl refl)))
          (gives_reader base level None value_stop)

      pub exit_reader : IsPartReader base (StatementAt Exit loops) ended_stop level (reader_at exit loops level body)
      unfolding exit
      exit_reader =
          let last : Option Expression → ℕ → Rules Depth Ended = λ value _. GivesAt (whole (tree.Exit value)) in
          then_reader base level (EitherAt (MarkAt (Of word.Exit)) (MarkAt (Of word.Die)))
          (λ _. JoinedAt (EitherAt ValueAt (GivesAt None))
          (λ value. JoinedAt (MarkAt (Of word.Semicolon)) (last value))) ended_stop exit_word
          (λ _. reader_at exit_value loops level body
          >>= (λ value. mark (Of word.Semicolon) >> gives (whole (tree.Exit value)))) exit_word_reader
          (λ _. before_mark base level (EitherAt ValueAt (GivesAt None)) value_stop (Of word.Semicolon)
          (kind.Word word.Semicolon)
          refl (λ a. refl) last ended_stop (reader_at exit_value loops level body)
          (λ value _. gives (whole (tree.Exit value)))
          exit_value_reader (λ value _. gives_reader base level (whole (tree.Exit value)) ended_stop))
