-- What the readers of operands answer, where the reader of the level below answers its rules.
use Rattle.std.proofs.Common.{◌≡◌, inl, inr, ℕ, ◌<◌, ◌≤◌, Bool, true, false, not, ◌&&◌, List, [], ◌∷◌, ◌++◌, Some, None, Ok, refl, arith}
use Rattle.dp_tree.specs.declared.operators.UnaryOp.{UnaryOp}
use Rattle.dp_lexer.specs.declared.token.Token.{Token}
use Rattle.dp_lexer.specs.declared.token.TokenKind.{TokenKind}
use Rattle.dp_lexer.specs.declared.token.TokenKind.TheVariants as kind
use Rattle.dp_expressions.specs.declared.operand.Operand.{Operand}
use Rattle.dp_expressions.specs.declared.operand.Operand.TheVariants as opened
use Rattle.dp_expressions.specs.declared.operand.Part.{Part}
use Rattle.dp_expressions.specs.declared.operand.Part.TheVariants as part
use Rattle.dp_token_rules.specs.declared.terminal.Terminal.TheVariants.{Of}
use Rattle.dp_lexer.specs.declared.token.Word.TheVariants as word
use Rattle.dp_token_rules.specs.declared.terminal.Terminal.{Terminal}
use Rattle.dp_token_rules.specs.declared.terminal.Terminal.TheVariants as terminal
use Rattle.dp_tree.specs.declared.tree.Expression.{Expression}
use Rattle.dp_tree.specs.declared.tree.Expression.TheVariants as tree
use Rattle.dp_tree.specs.declared.tree.Place.{Place}
use Rattle.dp_tree.specs.declared.tree.Item.{Item}
use Rattle.dp_tree.specs.declared.tree.Order.TheVariants.{StepFirst, ValueFirst}
use Rattle.dp_token_rules.specs.Terminals.{terminal_of, same_terminal, is, head}
use Rattle.dp_token_rules.specs.inner.Input.{Outcome, Reader, ◌>>=◌, ◌>>◌, gives, made, refuse, one, mark, enter, sort, variable}
use Rattle.dp_token_rules.specs.Rules.{Rule, Joined, Made, Mark, One, Many, Closed, Perhaps}
use Rattle.dp_token_rules.specs.Lists.{NextItem, AnyItems, SomeItems}
use Rattle.dp_token_rules.specs.inner.ListReaders.{some_items, any_items, many}
use Rattle.dp_expressions.specs.Grammar.{prefix_in, step_in, constant_in, place, item, indexed, PlaceOf, ItemRest, inner}
use Rattle.dp_expressions.specs.inner.Readers.{begins_expression, tree_of, index, indices, place_rule, place_below, group, item_rest, item_rule, literal, array_call, call, behind_name, named, isset, primary, prefixed, stepped_first, other, step_last, alone}
use Rattle.dp_token_rules.proofs.Terminals.{and_parts, not_true, placed, mark_passes, mark_of, excluded, implied}
use Rattle.dp_token_rules.proofs.Answers.{Rules, Anything, JoinedAt, EitherAt, GivesAt, OneAt, MarkAt, MadeAt, ManyAt, Answers, Follows, Can, StartsIn, give, behind, mark_starts, joined_starts, made_starts, nests_starts, starts_in_more, gives_apart, starts_follow, gives_follow, either_follows, one_answers, made_answers, gives_answers, joined_answers, equal_answers, stricter_answers, either_answers, guarded_answers}
use Rattle.dp_token_rules.proofs.Loops.{closed_follows, many_none, many_answers}
use Rattle.dp_token_rules.proofs.Readers.{marked, mark_then, made_reads, then_mark}
use Rattle.dp_token_rules.proofs.ListAnswers.{AreItems, AnyItemsAt, SomeItemsAt, any_items_answers, some_items_answers, any_items_can, some_items_can}
use Rattle.dp_expressions.proofs.Heights.{looser, stop_at, looser_less}
use Rattle.dp_expressions.proofs.Least.{zero_token, zero_text, zero_tree, variable_name, variable_text, variable_place, gives_it, no_more, then_nothing, least_whole, least_operand, least_place}
use Rattle.dp_expressions.proofs.Factored.{StepLast, to_operand, from_operand}
use Rattle.dp_token_rules.proofs.More.{level_self, sort_starts, one_of_sort, one_then, made_follows, choice_answers, NestedAt, nested_answers}
use Rattle.dp_expressions.proofs.ExpressionParts.{Under, Reads, inner_answers, some_whole_under, some_alone_under, IndexAt, PlaceAt, PlaceUnder, GroupAt, ItemAt, LiteralAt, ArrayCallAt, NamedAt, IssetAt, PrimaryAt, PrimaryIndexedAt, PrefixedAt, SteppedFirstAt, NumberAt, TextAt, ConstantAt, OtherAt, OperandAt, begins_constant, begins_prefix, begins_step, begins_behind_array, begins_behind_bracket, begins_behind_group, begins_behind_constant, begins_primary, begins_behind_isset, begins_behind_number, begins_behind_step, begins_other, index_starts, index_under_starts, place_starts, place_under_starts, group_starts, literal_starts, array_call_starts, named_starts, isset_starts, prefixed_starts, stepped_first_starts, number_rule_starts, text_rule_starts, behind_array_starts, behind_bracket_starts, behind_group_starts, behind_constant_starts, primary_indexed_starts, behind_isset_starts, behind_number_starts, behind_step_starts, other_starts}
use Rattle.dp_expressions.proofs.Begins.{whole_under_starts}
use Rattle.dp_token_rules.specs.TokenValues.{Text, variable_in, name_in, number_in, text_in, by_terminal, by_kind}

-- ---- places

-- indices, before what is no further one
module _ (rule : Rules ℕ Expression) (reader : Reader Expression) (level : ℕ)
    (starts : StartsIn rule (is (Of word.OpenBracket)))
    (reads : (ts : List Token) → is (Of word.OpenBracket) (head ts) ≡ true
    → Answers ◌≤◌ rule Anything level ts (reader ts)) where
  pub indices_read : (h : ℕ) → ((s : Terminal) → looser h s ≡ true → is (Of word.OpenBracket) s ≡ false)
      → (ts : List Token) → Answers ◌≤◌ (ManyAt rule) (stop_at h) level ts (many (is (Of word.OpenBracket)) reader ts)
  indices_read h apart ts =
      many_answers rule ◌≤◌ level_self (is (Of word.OpenBracket)) Anything (stop_at h) level reader starts
      (λ a s e. refl) (λ all a s e. refl) (λ all s e. apart s e) reads ts

  pub place_read : (ts : List Token)
      → Answers ◌≤◌ (λ m. PlaceOf (rule m)) (stop_at 1) level ts
      ((variable >>= (λ name. many (is (Of word.OpenBracket)) reader >>= (λ found. gives (place name found)))) ts)
  unfolding variable
  place_read ts =
      one_then (by_kind variable_in) (λ name. MadeAt (ManyAt rule) (place name)) (stop_at 1) level ts
      (λ name. many (is (Of word.OpenBracket)) reader >>= (λ found. gives (place name found)))
      (λ m above name. ([], place name [], give (Many (rule m)) (place name) [] [] (many_none rule m)))
      (λ name us. made_answers ◌≤◌ level_self (ManyAt rule) (place name) (stop_at 1) (stop_at 1) level us (λ a s e. e)
      (many (is (Of word.OpenBracket)) reader us)
      (indices_read 1 (excluded (looser 1) (is (Of word.OpenBracket)) refl) us))

-- ---- an expression between two tokens

abbrev pub EnclosedAt : Terminal → Terminal → Rules ℕ Expression
EnclosedAt before after =
    JoinedAt (MarkAt before) (λ _. JoinedAt (Under part.Whole) (λ e. JoinedAt (MarkAt after) (λ _. GivesAt e)))

pub enclosed_opens : (before after : Terminal) (k : TokenKind) → same_terminal (terminal_of k) after ≡ true
    → (x : Token) → is before (terminal_of x.kind) ≡ true
    → (more : List Token) × (a : Expression) × EnclosedAt before after 2 (x ∷ more) a
enclosed_opens before after k e x is_before =
    let end = placed k ∷ [] in (
      zero_token ∷ end,
      zero_tree,
      marked before x (Joined (Under part.Whole 2) (λ e. Made (Mark after) (λ _. e)))
          (zero_token ∷ end) zero_tree is_before
          (behind (Under part.Whole 2) (λ e. Made (Mark after) (λ _. e)) zero_text end zero_tree zero_tree
          (least_whole 1 (inner 1)) (give (Mark after) (λ _. zero_tree) end 1 (mark_of after (placed k) e))),
    )

-- where an item may end
abbrev pub item_stop : Item → Terminal → Bool
item_stop a s = looser 12 s && not (is (Of word.Arrow) s)

module _ (level : ℕ) (read : Part → Reader Expression) (reads : Reads level read) where
  whole_reads : 0 < level → (ts : List Token)
      → Answers ◌≤◌ (Under part.Whole) (stop_at 12) level ts (read part.Whole ts)
  whole_reads some ts = inner_answers level read reads some part.Whole ts refl

  enclosed_reads : (before after : Terminal) (k : TokenKind) → same_terminal (terminal_of k) after ≡ true
      → looser 12 after ≡ true → 0 < level
      → (ts : List Token) → Answers ◌≤◌ (EnclosedAt before after) Anything level ts
      ((mark before >> (read part.Whole >>= (λ e. mark after >> gives e))) ts)
  enclosed_reads before after k e loose some ts =
      mark_then ◌≤◌ level_self before (λ _. JoinedAt (Under part.Whole) (λ e. MadeAt (MarkAt after) (λ _. e))) Anything
      level (λ _. read part.Whole >>= (λ e. mark after >> gives e))
      (λ m above _. let w = some_whole_under level some m above in (
        w.0 ++ placed k ∷ [],
        w.1,
        behind (Under part.Whole m) (λ e. Made (Mark after) (λ _. e)) w.0
            (placed k ∷ []) w.1 w.1 w.2 (give (Mark after) (λ _. w.1) (placed k ∷ []) 1 (mark_of after (placed k) e)),
      ))
      (λ _. then_mark ◌≤◌ level_self (Under part.Whole) after (λ a _. a) (stop_at 12) Anything level (read part.Whole)
      (λ a. loose) (placed k) e (whole_reads some)) ts

  enclosed_answers : (before after : Terminal) (k : TokenKind) → same_terminal (terminal_of k) after ≡ true
      → looser 12 after ≡ true → is before terminal.End ≡ false → (ts : List Token) → is before (head ts) ≡ true
      → Answers ◌≤◌ (NestedAt (EnclosedAt before after)) Anything level ts
      ((enter level >> (mark before >> (read part.Whole >>= (λ e. mark after >> gives e)))) ts)
  enclosed_answers before after k e loose no_end ts here =
      nested_answers (is before) (EnclosedAt before after) Anything level ts
      (mark before >> (read part.Whole >>= (λ e. mark after >> gives e))) no_end here
      (enclosed_opens before after k e) (λ some. enclosed_reads before after k e loose some ts)

  pub index_answers : (ts : List Token) → is (Of word.OpenBracket) (head ts) ≡ true
      → Answers ◌≤◌ IndexAt Anything level ts (index level read ts)
  unfolding index
  index_answers ts here =
      enclosed_answers (Of word.OpenBracket) (Of word.CloseBracket) (kind.Word word.CloseBracket) refl refl refl ts here

  pub group_answers : (ts : List Token) → is (Of word.OpenParenthesis) (head ts) ≡ true
      → Answers ◌≤◌ GroupAt Anything level ts (group level read ts)
  unfolding group
  group_answers ts here =
      enclosed_answers (Of word.OpenParenthesis) (Of word.CloseParenthesis) (kind.Word word.CloseParenthesis) refl refl
      refl ts here

  pub indices_answers : (h : ℕ) → ((s : Terminal) → looser h s ≡ true → is (Of word.OpenBracket) s ≡ false)
      → (ts : List Token) → Answers ◌≤◌ (ManyAt IndexAt) (stop_at h) level ts (indices level read ts)
  unfolding indices
  indices_answers h apart ts = indices_read IndexAt (index level read) level index_starts index_answers h apart ts

  pub place_answers : (ts : List Token) → Answers ◌≤◌ PlaceAt (stop_at 1) level ts (place_rule level read ts)
  unfolding place_rule indices
  place_answers ts = place_read IndexAt (index level read) level index_starts index_answers ts

  pub place_below_answers : 0 < level → (ts : List Token)
      → Answers ◌≤◌ PlaceUnder (stop_at 1) level ts (place_below level read ts)
  unfolding place_below
  place_below_answers some ts =
      place_read (Under part.Index) (read part.Index) level index_under_starts
      (λ us here. inner_answers level read reads some part.Index us here) ts

  -- ---- items and lists

  arrow_starts : (first : Expression)
      → StartsIn (MadeAt (JoinedAt (MarkAt (Of word.Arrow)) (λ _. Under part.Whole)) (λ value. item (Some first) value))
      (is (Of word.Arrow))
  arrow_starts first =
      made_starts (JoinedAt (MarkAt (Of word.Arrow)) (λ _. Under part.Whole)) (λ value. item (Some first) value)
      (is (Of word.Arrow)) (joined_starts (MarkAt (Of word.Arrow)) (λ _. Under part.Whole) (is (Of word.Arrow))
      (mark_starts (Of word.Arrow)))

  abbrev ItemRestAt : Expression → Rules ℕ Item
  ItemRestAt first m = ItemRest m (inner m) first

  item_rest_follows : Follows (stop_at 12) ItemRestAt item_stop
  item_rest_follows =
      either_follows (stop_at 12) (λ first. MadeAt (JoinedAt (MarkAt (Of word.Arrow)) (λ _. Under part.Whole))
      (λ value. item (Some first) value)) (λ first. GivesAt (item None first)) item_stop
      (starts_follow (stop_at 12) (λ first. MadeAt (JoinedAt (MarkAt (Of word.Arrow)) (λ _. Under part.Whole))
      (λ value. item (Some first) value)) item_stop (is (Of word.Arrow))
      (λ a s e. mark_passes (looser 12) (Of word.Arrow) refl s e) arrow_starts)
      (gives_follow (λ first. item None first) (stop_at 12) item_stop
      (λ a s e. (and_parts (looser 12 s) (not (is (Of word.Arrow) s)) e).0))

  item_rest_answers : 0 < level → (first : Expression) (ts : List Token)
      → Answers ◌≤◌ (ItemRestAt first) item_stop level ts (item_rest level read first ts)
  unfolding item_rest
  item_rest_answers some first ts =
      either_answers ◌≤◌ level_self (MadeAt (JoinedAt (MarkAt (Of word.Arrow)) (λ _. Under part.Whole))
      (λ value. item (Some first) value)) (GivesAt (item None first)) (is (Of word.Arrow)) item_stop level ts
      (arrow_starts first) (gives_apart (item None first) item_stop (is (Of word.Arrow))
      (λ s e. not_true (is (Of word.Arrow) s) (and_parts (looser 12 s) (not (is (Of word.Arrow) s)) e).1))
      (made (mark (Of word.Arrow) >> read part.Whole) (λ value. item (Some first) value) ts) (Ok (item None first, ts))
      (λ _. made_answers ◌≤◌ level_self (JoinedAt (MarkAt (Of word.Arrow)) (λ _. Under part.Whole))
      (λ value. item (Some first) value) (stop_at 12) item_stop level ts
      (λ a s e. (and_parts (looser 12 s) (not (is (Of word.Arrow) s)) e).0)
      ((mark (Of word.Arrow) >> read part.Whole) ts)
      (mark_then ◌≤◌ level_self (Of word.Arrow) (λ _. Under part.Whole) (stop_at 12) level (λ _. read part.Whole)
      (λ m above _. some_whole_under level some m above) (λ _. whole_reads some) ts))
      (λ _. gives_answers ◌≤◌ level_self (item None first) item_stop level ts)

  item_answers : 0 < level → (ts : List Token) → Answers ◌≤◌ ItemAt item_stop level ts (item_rule level read ts)
  unfolding item_rule
  item_answers some ts =
      joined_answers ◌≤◌ level_self (Under part.Whole) ItemRestAt (stop_at 12) item_stop level ts item_rest_follows
      (read part.Whole ts) (item_rest level read)
      (λ m above first. ([], item None first, inr (gives_it (item None first)))) (whole_reads some ts)
      (λ first us _. item_rest_answers some first us)

  item_starts : StartsIn ItemAt begins_expression
  item_starts = joined_starts (Under part.Whole) ItemRestAt begins_expression whole_under_starts

  some_item : 0 < level → Can ◌≤◌ level ItemAt
  some_item some m above =
      let w = some_whole_under level some m above in (
        w.0,
        item None w.1,
        then_nothing (Under part.Whole m) (λ first. ItemRest m (inner m) first) w.0 w.1
            (item None w.1) w.2 (inr (gives_it (item None w.1))),
      )

  array_items : (close : Terminal) (k : TokenKind) → same_terminal (terminal_of k) close ≡ true
      → begins_expression close ≡ false → same_terminal close (Of word.Comma) ≡ false
      → (looser 12 close && not (is (Of word.Arrow) close)) ≡ true
      → 0 < level → AreItems ◌≤◌ (λ _. ItemAt) close item_stop begins_expression level (λ _. item_rule level read)
  array_items close k e not_close apart loose some = record {
    starts = λ all. item_starts;
    not_comma = refl;
    not_close = not_close;
    close_apart = apart;
    stops_comma = λ a. refl;
    stops_close = λ a. loose;
    closing = placed k;
    closes = e;
    some_item = some_item some;
    reads = λ all ts. item_answers some ts;
  }

  arguments : 0 < level
      → AreItems ◌≤◌ (λ _. Under part.Whole) (Of word.CloseParenthesis) (stop_at 12) begins_expression level
      (λ _. read part.Whole)
  arguments some = record {
    starts = λ all. whole_under_starts;
    not_comma = refl;
    not_close = refl;
    close_apart = refl;
    stops_comma = λ a. refl;
    stops_close = λ a. refl;
    closing = placed (kind.Word word.CloseParenthesis);
    closes = refl;
    some_item = some_whole_under level some;
    reads = λ all ts. whole_reads some ts;
  }

  places : 0 < level → AreItems ◌≤◌ (λ _. PlaceUnder) (Of word.CloseParenthesis) (stop_at 1) (is terminal.Variable)
      level
      (λ _. place_below level read)
  places some = record {
    starts = λ all. place_under_starts;
    not_comma = refl;
    not_close = refl;
    close_apart = refl;
    stops_comma = λ a. refl;
    stops_close = λ a. refl;
    closing = placed (kind.Word word.CloseParenthesis);
    closes = refl;
    some_item = λ m above. (variable_text, variable_place, least_place ((inner m).index));
    reads = λ all ts. place_below_answers some ts;
  }

-- ---- lists in brackets and parentheses

pub empty_items : {A : Type 0} (item : List A → Rule A) (close : Terminal) (k : TokenKind)
    → same_terminal (terminal_of k) close ≡ true → AnyItems item close (placed k ∷ []) []
empty_items item close k e = inl (give (Mark close) (λ _. []) (placed k ∷ []) 1 (mark_of close (placed k) e))

-- `$a)`
abbrev one_place_text : List Token
one_place_text = placed (kind.Variable variable_name) ∷ (placed (kind.Word word.CloseParenthesis) ∷ [])

one_place : (m : ℕ) → SomeItems (λ _. PlaceUnder m) (Of word.CloseParenthesis) one_place_text (variable_place ∷ [])
one_place m =
    let close = placed (kind.Word word.CloseParenthesis) ∷ [] in
    let end : Rule ℕ = Joined (Perhaps (Mark (Of word.Comma))) (λ _. Mark (Of word.CloseParenthesis)) in
    behind (PlaceUnder m) (λ first. Closed (NextItem (λ _. PlaceUnder m)) (λ all. Made end (λ _. all)) (first ∷ []))
    variable_text close variable_place (variable_place ∷ []) (least_place ((inner m).index))
    (no_more (NextItem (λ _. PlaceUnder m)) (λ all. Made end (λ _. all)) (variable_place ∷ []) close
    (variable_place ∷ [])
    (give end (λ _. variable_place
    ∷ []) close 1 (record {
      front = [];
      back = close;
      value = None;
      split = refl;
      one = inr
          (gives_it None);
      other = mark_of (Of word.CloseParenthesis) (placed (kind.Word word.CloseParenthesis)) refl;
    })))

abbrev pub ListedAt : {A : Type 0} → Terminal → Rules ℕ (List A) → (List A → Expression) → Rules ℕ Expression
ListedAt before items f = JoinedAt (MarkAt before) (λ _. MadeAt items f)

listed_some : {A : Type 0} (before : Terminal) (t : Token) → is before (terminal_of t.kind) ≡ true
    → (items : Rules ℕ (List A)) (f : List A → Expression) (m : ℕ) (text : List Token) (all : List A) → items m text all
    → ListedAt before items f m (t ∷ text) (f all)
listed_some before t e items f m text all h =
    marked before t (Made (items m) f) text (f all) e (give (items m) f text all h)

listed_reads : {A : Type 0} (level : ℕ) (before : Terminal) (items : Rules ℕ (List A)) (f : List A → Expression)
    (reader : Reader (List A)) → Can ◌≤◌ level items
    → ((ts : List Token) → Answers ◌≤◌ items Anything level ts (reader ts))
    → (ts : List Token) → Answers ◌≤◌ (ListedAt before items f) Anything level ts ((mark before >> made reader f) ts)
listed_reads level before items f reader can reads ts =
    mark_then ◌≤◌ level_self before (λ _. MadeAt items f) Anything level (λ _. made reader f)
    (λ m above _. let c = can m above in (c.0, f c.1, give (items m) f c.0 c.1 c.2))
    (λ _. made_reads ◌≤◌ level_self items f Anything Anything level reader (λ a s e. refl) reads) ts

abbrev open_token : Token
open_token = placed (kind.Word word.OpenParenthesis)

-- behind a place, an operand may end where it does, and `[]` anywhere
abbrev pub operand_stop : Operand → Terminal → Bool
operand_stop (opened.Place p) s = looser 2 s
operand_stop (opened.Push p) s = true
operand_stop (opened.Other e) s = looser 2 s

module _ (level : ℕ) (read : Part → Reader Expression) (reads : Reads level read) where
  -- what ends by itself ends before what is no parenthesis
  ends_itself : (rule : Rules ℕ Expression) (ts : List Token) (o : Outcome Expression)
      → Answers ◌≤◌ rule Anything level ts o → Answers ◌≤◌ rule (stop_at 0) level ts o
  ends_itself rule ts o = stricter_answers ◌≤◌ level_self rule Anything (stop_at 0) level ts (λ a s e. refl) o

  abbrev ItemsAt : Terminal → Rules ℕ (List Item)
  ItemsAt close = AnyItemsAt (λ _. ItemAt) close

  abbrev ArgumentsAt : Rules ℕ (List Expression)
  ArgumentsAt = AnyItemsAt (λ _. Under part.Whole) (Of word.CloseParenthesis)

  abbrev PlacesAt : Rules ℕ (List Place)
  PlacesAt = SomeItemsAt (λ _. PlaceUnder) (Of word.CloseParenthesis)

  literal_answers : (ts : List Token) → is (Of word.OpenBracket) (head ts) ≡ true
      → Answers ◌≤◌ LiteralAt Anything level ts (literal level read ts)
  unfolding literal
  literal_answers ts here =
      let items = array_items level read reads (Of word.CloseBracket) (kind.Word word.CloseBracket) refl refl refl refl
      in
      nested_answers (is (Of word.OpenBracket)) (ListedAt (Of word.OpenBracket)
      (ItemsAt (Of word.CloseBracket)) tree.Array) Anything level ts
      (mark (Of word.OpenBracket) >> made (any_items (λ _. item_rule level read) (Of word.CloseBracket)) tree.Array)
      refl here
      (λ x e. (
        placed (kind.Word word.CloseBracket)
            ∷ [],
        tree.Array [],
        listed_some (Of word.OpenBracket) x e (ItemsAt (Of word.CloseBracket)) tree.Array 2
            (placed (kind.Word word.CloseBracket)
            ∷ []) [] (empty_items (λ _. ItemAt 2) (Of word.CloseBracket) (kind.Word word.CloseBracket) refl),
      ))
      (λ some. listed_reads level (Of word.OpenBracket) (ItemsAt (Of word.CloseBracket)) tree.Array
      (any_items (λ _. item_rule level read) (Of word.CloseBracket))
      (any_items_can ◌≤◌ level_self (λ _. ItemAt) (Of word.CloseBracket) item_stop begins_expression level
      (λ _. item_rule level read) (items some))
      (any_items_answers ◌≤◌ level_self (λ _. ItemAt) (Of word.CloseBracket) item_stop begins_expression level
      (λ _. item_rule level read) (items some)) ts)

  array_reads : 0 < level → (ts : List Token)
      → Answers ◌≤◌ (ListedAt (Of word.OpenParenthesis) (ItemsAt (Of word.CloseParenthesis)) tree.Array) Anything level
      ts
      ((mark (Of word.OpenParenthesis) >> made (any_items (λ _. item_rule level read) (Of word.CloseParenthesis))
      tree.Array) ts)
  array_reads some =
      let items = array_items level read reads (Of word.CloseParenthesis) (kind.Word word.CloseParenthesis) refl refl
      refl refl some
      in
      listed_reads level (Of word.OpenParenthesis) (ItemsAt (Of word.CloseParenthesis)) tree.Array
      (any_items (λ _. item_rule level read) (Of word.CloseParenthesis))
      (any_items_can ◌≤◌ level_self (λ _. ItemAt) (Of word.CloseParenthesis) item_stop begins_expression level
      (λ _. item_rule level read) items)
      (any_items_answers ◌≤◌ level_self (λ _. ItemAt) (Of word.CloseParenthesis) item_stop begins_expression level
      (λ _. item_rule level read) items)

  some_array : (m : ℕ)
      → ListedAt (Of word.OpenParenthesis) (ItemsAt (Of word.CloseParenthesis)) tree.Array m
      (open_token ∷ (placed (kind.Word word.CloseParenthesis) ∷ [])) (tree.Array [])
  some_array m =
      listed_some (Of word.OpenParenthesis) open_token refl (ItemsAt (Of word.CloseParenthesis)) tree.Array m
      (placed (kind.Word word.CloseParenthesis)
      ∷ []) [] (empty_items (λ _. ItemAt m) (Of word.CloseParenthesis) (kind.Word word.CloseParenthesis) refl)

  array_call_answers : (ts : List Token) → is (Of word.Array) (head ts) ≡ true
      → Answers ◌≤◌ ArrayCallAt Anything level ts (array_call level read ts)
  unfolding array_call
  array_call_answers ts here =
      let rest = ListedAt (Of word.OpenParenthesis) (ItemsAt (Of word.CloseParenthesis)) tree.Array in
      let reader : Reader Expression = mark (Of word.OpenParenthesis) >> made
      (any_items (λ _. item_rule level read) (Of word.CloseParenthesis)) tree.Array in
      nested_answers (is (Of word.Array)) (JoinedAt (MarkAt (Of word.Array)) (λ _. rest)) Anything level ts
      (mark (Of word.Array) >> reader) refl here
      (λ x e. (
        open_token
            ∷ (placed (kind.Word word.CloseParenthesis) ∷ []),
        tree.Array [],
        marked (Of word.Array) x (rest 2) (open_token ∷ (placed (kind.Word word.CloseParenthesis) ∷ [])) (tree.Array [])
            e
            (some_array 2),
      ))
      (λ some. mark_then ◌≤◌ level_self (Of word.Array) (λ _. rest) Anything level (λ _. reader)
      (λ m above _. (open_token ∷ (placed (kind.Word word.CloseParenthesis) ∷ []), tree.Array [], some_array m))
      (λ _. array_reads some) ts)

  call_reads : 0 < level → (name : Text) (ts : List Token)
      → Answers ◌≤◌ (ListedAt (Of word.OpenParenthesis) ArgumentsAt (tree.Call name)) Anything level ts
      ((mark (Of word.OpenParenthesis) >> made (any_items (λ _. read part.Whole) (Of word.CloseParenthesis))
      (tree.Call name)) ts)
  call_reads some name =
      let items = arguments level read reads some in
      listed_reads level (Of word.OpenParenthesis) ArgumentsAt (tree.Call name)
      (any_items (λ _. read part.Whole) (Of word.CloseParenthesis))
      (any_items_can ◌≤◌ level_self (λ _. Under part.Whole) (Of word.CloseParenthesis)
      (stop_at 12) begins_expression level (λ _. read part.Whole) items)
      (any_items_answers ◌≤◌ level_self (λ _. Under part.Whole) (Of word.CloseParenthesis)
      (stop_at 12) begins_expression level (λ _. read part.Whole) items)

  -- behind a name

  abbrev ArgumentListAt : Text → Rules ℕ Expression
  ArgumentListAt name = ListedAt (Of word.OpenParenthesis) ArgumentsAt (tree.Call name)

  abbrev BehindNameAt : Text → Rules ℕ Expression
  BehindNameAt name = EitherAt (NestedAt (ArgumentListAt name)) (GivesAt (tree.Constant name))

  call_answers : (name : Text) (ts : List Token) → is (Of word.OpenParenthesis) (head ts) ≡ true
      → Answers ◌≤◌ (NestedAt (ArgumentListAt name)) Anything level ts (call level read name ts)
  unfolding call
  call_answers name ts here =
      nested_answers (is (Of word.OpenParenthesis)) (ArgumentListAt name) Anything level ts
      (mark (Of word.OpenParenthesis) >> made (any_items (λ _. read part.Whole) (Of word.CloseParenthesis))
      (tree.Call name)) refl here
      (λ x e. (
        placed (kind.Word word.CloseParenthesis) ∷ [],
        tree.Call name [],
        listed_some (Of word.OpenParenthesis) x e ArgumentsAt (tree.Call name) 2
            (placed (kind.Word word.CloseParenthesis) ∷ []) []
            (empty_items (λ _. Under part.Whole 2) (Of word.CloseParenthesis) (kind.Word word.CloseParenthesis) refl),
      ))
      (λ some. call_reads some name ts)

  behind_name_answers : (name : Text) (ts : List Token)
      → Answers ◌≤◌ (BehindNameAt name) (stop_at 0) level ts (behind_name level read name ts)
  unfolding behind_name
  behind_name_answers name ts =
      either_answers ◌≤◌ level_self (NestedAt (ArgumentListAt name)) (GivesAt (tree.Constant name))
      (is (Of word.OpenParenthesis)) (stop_at 0) level ts
      (nests_starts (λ m. m) (ArgumentListAt name) (is (Of word.OpenParenthesis))
      (joined_starts (MarkAt (Of word.OpenParenthesis)) (λ _. MadeAt ArgumentsAt (tree.Call name))
      (is (Of word.OpenParenthesis)) (mark_starts (Of word.OpenParenthesis))))
      (gives_apart (tree.Constant name) (stop_at 0) (is (Of word.OpenParenthesis))
      (excluded (looser 0) (is (Of word.OpenParenthesis)) refl))
      (call level read name ts) (Ok (tree.Constant name, ts))
      (λ here. ends_itself (NestedAt (ArgumentListAt name)) ts (call level read name ts) (call_answers name ts here))
      (λ _. gives_answers ◌≤◌ level_self (tree.Constant name) (stop_at 0) level ts)

  -- the same where the name is the first of both
  to_named : (m : ℕ) (text : List Token) (a : Expression) → JoinedAt (OneAt (by_kind name_in)) BehindNameAt m text a
      → NamedAt m text a
  to_named m text a j = go j.other
    where
      go : BehindNameAt j.value m j.back a → NamedAt m text a
      go (inl h) = inl (record {
        some = h.some;
        spelled = record {
          front = j.front;
          back = j.back;
          value = j.value;
          split = j.split;
          one = j.one;
          other = h.spelled;
        };
      })
      go (inr g) = inr (record {
        front = j.front;
        back = j.back;
        value = j.value;
        split = j.split;
        one = j.one;
        other = g;
      })

  from_named : (m : ℕ) (text : List Token) (a : Expression) → NamedAt m text a
      → JoinedAt (OneAt (by_kind name_in)) BehindNameAt m text a
  from_named m text a (inl h) = record {
    front = h.spelled.front;
    back = h.spelled.back;
    value = h.spelled.value;
    split = h.spelled.split;
    one = h.spelled.one;
    other = inl (record { some = h.some; spelled = h.spelled.other });
  }
  from_named m text a (inr j) = record {
    front = j.front;
    back = j.back;
    value = j.value;
    split = j.split;
    one = j.one;
    other = inr j.other;
  }

  named_answers : (ts : List Token) → Answers ◌≤◌ NamedAt (stop_at 0) level ts (named level read ts)
  unfolding named
  named_answers ts =
      equal_answers ◌≤◌ level_self (JoinedAt (OneAt (by_kind name_in)) BehindNameAt) NamedAt (stop_at 0) level ts
      to_named from_named ((one (by_kind name_in) >>= behind_name level read) ts)
      (one_then (by_kind name_in) BehindNameAt (stop_at 0) level ts (behind_name level read)
      (λ m above name. ([], tree.Constant name, inr (gives_it (tree.Constant name)))) behind_name_answers)

  isset_reads : 0 < level → (ts : List Token)
      → Answers ◌≤◌ (ListedAt (Of word.OpenParenthesis) PlacesAt tree.Isset) Anything level ts
      ((mark (Of word.OpenParenthesis) >> made (some_items (λ _. place_below level read) (Of word.CloseParenthesis))
      tree.Isset) ts)
  isset_reads some =
      let items = places level read reads some in
      listed_reads level (Of word.OpenParenthesis) PlacesAt tree.Isset
      (some_items (λ _. place_below level read) (Of word.CloseParenthesis))
      (some_items_can ◌≤◌ level_self (λ _. PlaceUnder) (Of word.CloseParenthesis) (stop_at 1)
      (is terminal.Variable) level (λ _. place_below level read) items)
      (some_items_answers ◌≤◌ level_self (λ _. PlaceUnder) (Of word.CloseParenthesis) (stop_at 1)
      (is terminal.Variable) level (λ _. place_below level read) items)

  some_isset : (m : ℕ)
      → ListedAt (Of word.OpenParenthesis) PlacesAt tree.Isset m (open_token ∷ one_place_text)
      (tree.Isset (variable_place ∷ []))
  some_isset m =
      listed_some (Of word.OpenParenthesis) open_token refl PlacesAt tree.Isset m one_place_text (variable_place ∷ [])
      (one_place m)

  isset_answers : (ts : List Token) → is (Of word.Isset) (head ts) ≡ true
      → Answers ◌≤◌ IssetAt Anything level ts (isset level read ts)
  unfolding isset
  isset_answers ts here =
      let rest = ListedAt (Of word.OpenParenthesis) PlacesAt tree.Isset in
      let reader : Reader Expression = mark (Of word.OpenParenthesis) >> made
      (some_items (λ _. place_below level read) (Of word.CloseParenthesis)) tree.Isset in
      nested_answers (is (Of word.Isset)) (JoinedAt (MarkAt (Of word.Isset)) (λ _. rest)) Anything level ts
      (mark (Of word.Isset) >> reader) refl here
      (λ x e. (
        open_token
            ∷ one_place_text,
        tree.Isset (variable_place ∷ []),
        marked (Of word.Isset) x (rest 2) (open_token ∷ one_place_text) (tree.Isset (variable_place ∷ [])) e
            (some_isset 2),
      ))
      (λ some. mark_then ◌≤◌ level_self (Of word.Isset) (λ _. rest) Anything level (λ _. reader)
      (λ m above _. (open_token ∷ one_place_text, tree.Isset (variable_place ∷ []), some_isset m))
      (λ _. isset_reads some) ts)

  -- ---- primary expressions, and operands

  abbrev FromArray : Rules ℕ Expression
  FromArray = EitherAt ArrayCallAt NamedAt

  abbrev FromBracket : Rules ℕ Expression
  FromBracket = EitherAt LiteralAt FromArray

  abbrev FromGroup : Rules ℕ Expression
  FromGroup = EitherAt GroupAt FromBracket

  abbrev FromConstant : Rules ℕ Expression
  FromConstant = EitherAt ConstantAt FromGroup

  abbrev FromIsset : Rules ℕ Expression
  FromIsset = EitherAt IssetAt PrimaryIndexedAt

  abbrev FromNumber : Rules ℕ Expression
  FromNumber = EitherAt NumberAt FromIsset

  abbrev FromStep : Rules ℕ Expression
  FromStep = EitherAt SteppedFirstAt FromNumber

  text_answers : (ts : List Token)
      → Answers ◌≤◌ TextAt (stop_at 0) level ts (made (one (by_kind text_in)) tree.Text ts)
  text_answers ts =
      made_answers ◌≤◌ level_self (OneAt (by_kind text_in)) tree.Text Anything (stop_at 0) level ts (λ a s e. refl)
      (one (by_kind text_in) ts) (one_answers ◌≤◌ level_self (by_kind text_in) Anything level ts)

  primary_answers : (ts : List Token) → Answers ◌≤◌ PrimaryAt (stop_at 0) level ts (primary level read ts)
  unfolding primary refuse
  primary_answers ts =
      choice_answers TextAt FromConstant (is terminal.Text) begins_behind_constant (stop_at 0) level ts refl
      text_rule_starts behind_constant_starts _ _ (λ _. text_answers ts)
      (λ _. choice_answers ConstantAt FromGroup begins_constant begins_behind_group (stop_at 0) level ts refl
      (sort_starts constant_in) behind_group_starts _ _ (λ _. one_answers ◌≤◌ level_self
      (by_terminal constant_in) (stop_at 0) level ts)
      (λ _. choice_answers GroupAt FromBracket (is (Of word.OpenParenthesis)) begins_behind_bracket (stop_at 0) level ts
      refl group_starts behind_bracket_starts _ _
      (λ here. ends_itself GroupAt ts (group level read ts) (group_answers level read reads ts here))
      (λ _. choice_answers LiteralAt FromArray (is (Of word.OpenBracket)) begins_behind_array (stop_at 0) level ts refl
      literal_starts behind_array_starts _ _
      (λ here. ends_itself LiteralAt ts (literal level read ts) (literal_answers ts here))
      (λ _. choice_answers ArrayCallAt NamedAt (is (Of word.Array))
      (is terminal.Name) (stop_at 0) level ts refl array_call_starts named_starts _ _
      (λ here. ends_itself ArrayCallAt ts (array_call level read ts) (array_call_answers ts here))
      (λ _. guarded_answers ◌≤◌ level_self NamedAt (is terminal.Name) (stop_at 0) level ts named_starts
      (named level read ts) (λ _. named_answers ts))))))

  -- what is behind a primary expression goes on with its indices
  indices_follow : Follows {A = Expression} (stop_at 0) (λ base. MadeAt (ManyAt IndexAt) (indexed base)) (stop_at 2)
  indices_follow =
      made_follows (stop_at 0) (λ _. ManyAt IndexAt) indexed (stop_at 2) (stop_at 2) (λ base all s e. e)
      (λ m base. closed_follows (λ all. MadeAt IndexAt (λ a. all ++ a ∷ [])) (λ all. GivesAt all) (stop_at 0)
      (stop_at 2)
      (λ all. starts_in_more (MadeAt IndexAt (λ a. all ++ a ∷ [])) (is (Of word.OpenBracket)) (looser 0)
      (mark_passes (looser 0) (Of word.OpenBracket) refl)
      (made_starts IndexAt (λ a. all ++ a ∷ []) (is (Of word.OpenBracket)) index_starts))
      (gives_follow (λ all. all) (stop_at 0) (stop_at 2) (λ all s e. looser_less 0 2 (omega arith) s e)) m [])

  primary_indexed_answers : (ts : List Token)
      → Answers ◌≤◌ PrimaryIndexedAt (stop_at 2) level ts ((primary level read
      >>= (λ base. made (indices level read) (indexed base))) ts)
  primary_indexed_answers ts =
      joined_answers ◌≤◌ level_self PrimaryAt (λ base. MadeAt (ManyAt IndexAt) (indexed base)) (stop_at 0)
      (stop_at 2) level ts indices_follow
      (primary level read ts) (λ base. made (indices level read) (indexed base))
      (λ m above base. ([], indexed base [], give (Many (IndexAt m)) (indexed base) [] [] (many_none IndexAt m)))
      (primary_answers ts)
      (λ base us _. made_answers ◌≤◌ level_self (ManyAt IndexAt) (indexed base) (stop_at 2) (stop_at 2) level us
      (λ a s e. e) (indices level read us) (indices_answers level read reads 2
      (excluded (looser 2) (is (Of word.OpenBracket)) refl) us))

  prefixed_answers : (ts : List Token) → begins_prefix (head ts) ≡ true
      → Answers ◌≤◌ PrefixedAt (stop_at 2) level ts (prefixed level read ts)
  unfolding prefixed
  prefixed_answers ts here =
      nested_answers begins_prefix (JoinedAt (OneAt (by_terminal prefix_in))
      (λ by. MadeAt (Under part.Alone) (tree.Unary by))) (stop_at 2) level ts
      (sort prefix_in >>= (λ by. made (read part.Alone) (tree.Unary by))) refl here
      (λ x e. let o = one_of_sort prefix_in x e in (
        zero_text,
        tree.Unary o.0 zero_tree,
        behind (One (by_terminal prefix_in)) (λ by. Made (Under part.Alone 2) (tree.Unary by)) (x ∷ []) zero_text o.0
            (tree.Unary o.0 zero_tree) o.1 (give (Under part.Alone 2) (tree.Unary o.0) zero_text zero_tree
            (least_operand 1 (inner 1))),
      ))
      (λ some. one_then (by_terminal prefix_in) (λ by. MadeAt (Under part.Alone) (tree.Unary by)) (stop_at 2) level ts
      (λ by. made (read part.Alone) (tree.Unary by))
      (λ m above by. let w = some_alone_under level some m above in
      (w.0, tree.Unary by w.1, give (Under part.Alone m) (tree.Unary by) w.0 w.1 w.2))
      (λ by us. made_answers ◌≤◌ level_self (Under part.Alone) (tree.Unary by) (stop_at 2) (stop_at 2) level us
      (λ a s e. e) (read part.Alone us) (inner_answers level read reads some part.Alone us refl)))

  stepped_first_answers : (ts : List Token) → begins_step (head ts) ≡ true
      → Answers ◌≤◌ SteppedFirstAt (stop_at 2) level ts (stepped_first level read ts)
  unfolding stepped_first
  stepped_first_answers ts here =
      let f : UnaryOp → Place → Expression = λ by of. tree.Step by StepFirst of in
      nested_answers begins_step (JoinedAt (OneAt (by_terminal step_in)) (λ by. MadeAt PlaceUnder (f by)))
      (stop_at 2) level ts (sort step_in >>= (λ by. made (place_below level read) (f by))) refl here
      (λ x e. let o = one_of_sort step_in x e in (
        variable_text,
        f o.0 variable_place,
        behind (One (by_terminal step_in)) (λ by. Made (PlaceUnder 2) (f by)) (x ∷ []) variable_text o.0
            (f o.0 variable_place) o.1 (give (PlaceUnder 2) (f o.0) variable_text variable_place
            (least_place ((inner 2).index))),
      ))
      (λ some. one_then (by_terminal step_in) (λ by. MadeAt PlaceUnder (f by)) (stop_at 2) level ts
      (λ by. made (place_below level read) (f by))
      (λ m above by. (
        variable_text,
        f by variable_place,
        give (PlaceUnder m) (f by) variable_text variable_place
            (least_place ((inner m).index)),
      ))
      (λ by us. made_answers ◌≤◌ level_self PlaceUnder (f by) (stop_at 1) (stop_at 2) level us
      (λ a s e. looser_less 1 2 (omega arith) s e) (place_below level read us)
      (place_below_answers level read reads some us)))

  number_answers : (ts : List Token)
      → Answers ◌≤◌ NumberAt (stop_at 2) level ts (made (one (by_kind number_in)) tree.Number ts)
  number_answers ts =
      made_answers ◌≤◌ level_self (OneAt (by_kind number_in)) tree.Number Anything (stop_at 2) level ts (λ a s e. refl)
      (one (by_kind number_in) ts) (one_answers ◌≤◌ level_self (by_kind number_in) Anything level ts)

  pub other_answers : (ts : List Token) → Answers ◌≤◌ OtherAt (stop_at 2) level ts (other level read ts)
  unfolding other
  other_answers ts =
      choice_answers PrefixedAt FromStep begins_prefix begins_behind_step
      (stop_at 2) level ts refl prefixed_starts behind_step_starts _ _ (prefixed_answers ts)
      (λ _. choice_answers SteppedFirstAt FromNumber begins_step begins_behind_number
      (stop_at 2) level ts refl stepped_first_starts behind_number_starts _ _ (stepped_first_answers ts)
      (λ _. choice_answers NumberAt FromIsset (is terminal.Number) begins_behind_isset
      (stop_at 2) level ts refl number_rule_starts behind_isset_starts _ _ (λ _. number_answers ts)
      (λ _. choice_answers IssetAt PrimaryIndexedAt (is (Of word.Isset)) begins_primary
      (stop_at 2) level ts refl isset_starts primary_indexed_starts _ _
      (λ here. stricter_answers ◌≤◌ level_self IssetAt Anything (stop_at 2) level ts (λ a s e. refl)
      (isset level read ts) (isset_answers ts here))
      (λ _. primary_indexed_answers ts))))

  -- ---- behind a place

  abbrev pub StepLastAt : Place → Rules ℕ Operand
  StepLastAt p m = StepLast p

  abbrev stepped : Place → UnaryOp → Operand
  stepped p by = opened.Other (tree.Step by ValueFirst p)

  pub step_last_starts : (p : Place) → StartsIn {L = ℕ} (MadeAt (OneAt (by_terminal step_in)) (stepped p)) begins_step
  step_last_starts p = made_starts (OneAt (by_terminal step_in)) (stepped p) begins_step (sort_starts step_in)

  pub step_last_answers : (p : Place) (ts : List Token)
      → Answers ◌≤◌ (StepLastAt p) operand_stop level ts (step_last level read p ts)
  unfolding step_last
  step_last_answers p ts =
      either_answers ◌≤◌ level_self (MadeAt (OneAt (by_terminal step_in)) (stepped p))
      (GivesAt (opened.Place p)) begins_step operand_stop level ts
      (step_last_starts p) (gives_apart (opened.Place p) operand_stop begins_step
      (excluded (looser 2) begins_step refl))
      (made (sort step_in) (stepped p) ts) (Ok (opened.Place p, ts))
      (λ _. made_answers ◌≤◌ level_self (OneAt (by_terminal step_in)) (stepped p) Anything operand_stop level ts
      (λ a s e. refl) (sort step_in ts) (one_answers ◌≤◌ level_self (by_terminal step_in) Anything level ts))
      (λ _. gives_answers ◌≤◌ level_self (opened.Place p) operand_stop level ts)

  pub step_last_follows : Follows (stop_at 1) StepLastAt operand_stop
  step_last_follows =
      either_follows (stop_at 1) (λ p. MadeAt (OneAt (by_terminal step_in)) (stepped p))
      (λ p. GivesAt (opened.Place p)) operand_stop
      (starts_follow (stop_at 1) (λ p. MadeAt (OneAt (by_terminal step_in)) (stepped p)) operand_stop begins_step
      (λ p s e. implied begins_step (looser 1) refl s e) step_last_starts)
      (gives_follow (λ p. opened.Place p) (stop_at 1) operand_stop (λ p s e. looser_less 1 2 (omega arith) s e))

  tree_stop : (v : Operand) (s : Terminal) → looser 2 s ≡ true → operand_stop v s ≡ true
  tree_stop (opened.Place p) s e = e
  tree_stop (opened.Push p) s e = refl
  tree_stop (opened.Other a) s e = e

  place_step_answers : (ts : List Token)
      → Answers ◌≤◌ (JoinedAt PlaceAt StepLastAt) operand_stop level ts
      ((place_rule level read >>= step_last level read) ts)
  place_step_answers ts =
      joined_answers ◌≤◌ level_self PlaceAt StepLastAt (stop_at 1) operand_stop level ts step_last_follows
      (place_rule level read ts) (step_last level read)
      (λ m above p. ([], opened.Place p, inr (gives_it (opened.Place p)))) (place_answers level read reads ts)
      (λ p us _. step_last_answers p us)

  pub alone_answers : (ts : List Token) → Answers ◌≤◌ OperandAt (stop_at 2) level ts (alone level read ts)
  unfolding alone
  alone_answers ts =
      equal_answers ◌≤◌ level_self (EitherAt (MadeAt (JoinedAt PlaceAt StepLastAt) tree_of) OtherAt) OperandAt
      (stop_at 2) level ts (λ m. to_operand m (inner m)) (λ m. from_operand m (inner m)) (alone level read ts)
      (choice_answers (MadeAt (JoinedAt PlaceAt StepLastAt) tree_of) OtherAt (is terminal.Variable) begins_other
      (stop_at 2) level ts refl
      (made_starts (JoinedAt PlaceAt StepLastAt) tree_of (is terminal.Variable)
      (joined_starts PlaceAt StepLastAt (is terminal.Variable) place_starts)) other_starts
      (made (place_rule level read >>= step_last level read) tree_of ts) (other level read ts)
      (λ _. made_answers ◌≤◌ level_self (JoinedAt PlaceAt StepLastAt) tree_of operand_stop
      (stop_at 2) level ts tree_stop ((place_rule level read >>= step_last level read) ts) (place_step_answers ts))
      (λ _. other_answers ts))
