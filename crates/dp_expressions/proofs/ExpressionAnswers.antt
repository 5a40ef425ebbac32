-- What the readers of expressions and of places answer, at each level of nesting.
use Rattle.std.proofs.Common.{◌≡◌, inl, inr, ℕ, zero, suc, ◌<◌, ◌≤◌, Bool, true, not, List, [], ◌∷◌, ◌++◌, Option, None, Ok, is_some, refl, subst, arith}
use Rattle.dp_lexer.specs.declared.token.Token.{Token}
use Rattle.dp_lexer.specs.declared.token.TokenKind.TheVariants as kind
use Rattle.dp_expressions.specs.declared.operand.Operand.{Operand}
use Rattle.dp_expressions.specs.declared.operand.Operand.TheVariants as opened
use Rattle.dp_expressions.specs.declared.operand.Part.{Part}
use Rattle.dp_expressions.specs.declared.operand.Part.TheVariants as part
use Rattle.dp_expressions.specs.declared.rank.Rank.{Rank}
use Rattle.dp_expressions.specs.declared.rank.Rank.TheVariants as rank
use Rattle.dp_token_rules.specs.declared.terminal.Terminal.TheVariants.{Of}
use Rattle.dp_lexer.specs.declared.token.Word.TheVariants as word
use Rattle.dp_token_rules.specs.declared.terminal.Terminal.{Terminal}
use Rattle.dp_tree.specs.declared.tree.Expression.{Expression}
use Rattle.dp_tree.specs.declared.tree.Expression.TheVariants as tree
use Rattle.dp_tree.specs.declared.tree.Place.{Place}
use Rattle.dp_token_rules.specs.Terminals.{is, head}
use Rattle.dp_token_rules.specs.inner.Input.{Reader, ◌>>=◌, ◌>>◌, made, mark, enter, sort}
use Rattle.dp_token_rules.specs.Rules.{Joined, Made, Mark, One}
use Rattle.dp_expressions.specs.Grammar.{inclusion_in, assignment_in, assigned, value_of, ranks, CoalesceRest, Branches, ConditionalRest, inner, IsExpression, IsPlace}
use Rattle.dp_expressions.specs.inner.Readers.{begins_expression, ladder, ladder_from, alone, coalesce_rest, coalesce, middle, branches, conditional_rest, going_on, included, pushed, assignment, rest_of, opening, whole, reads_part, below, reading, reading_place}
use Rattle.dp_token_rules.proofs.Terminals.{placed, mark_passes, mark_fails, not_true, excluded, implied}
use Rattle.dp_token_rules.proofs.Answers.{Rules, JoinedAt, EitherAt, GivesAt, OneAt, MarkAt, MadeAt, PerhapsAt, IsRead, Answers, Follows, Can, Apart, StartsIn, give, behind, mark_starts, joined_starts, made_starts, nests_starts, gives_apart, starts_follow, gives_follow, either_follows, joined_answers, made_answers, gives_answers, equal_answers, either_answers, perhaps_answers, within_answers}
use Rattle.dp_token_rules.proofs.Readers.{marked, mark_then}
use Rattle.dp_expressions.proofs.Heights.{looser, stop_at, looser_less}
use Rattle.dp_expressions.proofs.Least.{zero_text, zero_tree, gives_it, then_nothing, least_whole, least_coalesce, least_operand, least_expression}
use Rattle.dp_expressions.proofs.Factored.{PushTail, Going, AssignmentTail, Rest, spells, no_push, to_expression, from_expression}
use Rattle.dp_token_rules.proofs.More.{level_self, sort_starts, one_of_sort, one_then, joined_follows, choice_answers, NestedAt, nested_answers}
use Rattle.dp_expressions.proofs.ExpressionParts.{At, Under, stop_of, may_read, Reads, inner_answers, some_whole_under, some_coalesce_under, OperandAt, OpeningAt, CoalesceAt, IncludeAt, begins_inclusion}
use Rattle.dp_expressions.proofs.Begins.{begins_operand, whole_under_starts, include_starts, begins_one}
use Rattle.dp_expressions.proofs.LadderAnswers.{operates, in_order, LadderAt, FromAt, from_pass, no_links, ladder_answers, ladder_from_answers}
use Rattle.dp_expressions.proofs.OperandAnswers.{operand_stop, index_answers, alone_answers}
use Rattle.dp_expressions.proofs.OperandAnswers as operands
use Rattle.dp_expressions.proofs.OpeningAnswers.{opening_answers, opening_starts}
use Rattle.dp_token_rules.specs.TokenValues.{by_terminal}

-- ---- behind operands

abbrev CoalesceTailAt : Rules ℕ Expression
CoalesceTailAt = JoinedAt (MarkAt (Of word.Coalesce)) (λ _. Under part.Coalesce)

abbrev CoalescedAt : Expression → Rules ℕ Expression
CoalescedAt left = MadeAt (NestedAt CoalesceTailAt) (λ right. tree.Coalesce left right)

abbrev CoalesceRestAt : Expression → Rules ℕ Expression
CoalesceRestAt left m = CoalesceRest m (inner m) left

abbrev BranchesAt : Expression → Rules ℕ Expression
BranchesAt test m = Branches m (inner m) test

abbrev ConditionalRestAt : Expression → Rules ℕ Expression
ConditionalRestAt test m = ConditionalRest m (inner m) test

abbrev MiddleAt : Rules ℕ (Option Expression)
MiddleAt = PerhapsAt (NestedAt (Under part.Whole))

abbrev OtherwiseAt : Expression → Option Expression → Rules ℕ Expression
OtherwiseAt test between =
    JoinedAt (MarkAt (Of word.Colon)) (λ _. MadeAt CoalesceAt (λ otherwise. tree.Conditional test between otherwise))

abbrev GoingAt : Expression → Rules ℕ Expression
GoingAt first m = Going m (inner m) first

abbrev begins_assignment : Terminal → Bool
begins_assignment s = is_some (assignment_in s)

abbrev AssignmentAt : Place → Rules ℕ Expression
AssignmentAt to m = AssignmentTail m (inner m) to

abbrev RestAt : Operand → Rules ℕ Expression
RestAt v m = Rest m (inner m) v

coalesced_starts : (left : Expression) → StartsIn (CoalescedAt left) (is (Of word.Coalesce))
coalesced_starts left = made_starts (NestedAt CoalesceTailAt) (λ right. tree.Coalesce left right)
    (is (Of word.Coalesce))
    (nests_starts (λ m. m) CoalesceTailAt (is (Of word.Coalesce))
    (joined_starts (MarkAt (Of word.Coalesce)) (λ _. Under part.Coalesce) (is (Of word.Coalesce))
    (mark_starts (Of word.Coalesce))))

branches_starts : (test : Expression) → StartsIn (BranchesAt test) (is (Of word.Question))
branches_starts test =
    joined_starts (MarkAt (Of word.Question)) (λ _. JoinedAt MiddleAt (OtherwiseAt test)) (is (Of word.Question))
    (mark_starts (Of word.Question))

assignment_starts : (to : Place) → StartsIn (AssignmentAt to) begins_assignment
assignment_starts to m text a h =
    joined_starts (OneAt (by_terminal assignment_in)) (λ how. MadeAt (Under part.Whole) (assigned to how))
    begins_assignment (sort_starts assignment_in) m text a h.spelled

coalesce_rest_pass : (t : Terminal → Bool) → t (Of word.Coalesce) ≡ true
    → Follows {A = Expression} (λ _ s. t s) CoalesceRestAt (λ _ s. t s)
coalesce_rest_pass t passes = either_follows (λ _ s. t s) CoalescedAt (λ left. GivesAt left) (λ _ s. t s)
    (starts_follow (λ _ s. t s) CoalescedAt (λ _ s. t s) (is (Of word.Coalesce))
    (λ a s e. mark_passes t (Of word.Coalesce) passes s e) coalesced_starts)
    (gives_follow (λ left. left) (λ _ s. t s) (λ _ s. t s) (λ a s e. e))

conditional_rest_pass : (t : Terminal → Bool) → t (Of word.Question) ≡ true
    → Follows {A = Expression} (λ _ s. t s) ConditionalRestAt (λ _ s. t s)
conditional_rest_pass t passes = either_follows (λ _ s. t s) BranchesAt (λ test. GivesAt test) (λ _ s. t s)
    (starts_follow (λ _ s. t s) BranchesAt (λ _ s. t s) (is (Of word.Question))
    (λ a s e. mark_passes t (Of word.Question) passes s e) branches_starts)
    (gives_follow (λ test. test) (λ _ s. t s) (λ _ s. t s) (λ a s e. e))

going_pass : (t : Terminal → Bool) → ((r : Rank) (s : Terminal) → operates r s ≡ true → t s ≡ true)
    → t (Of word.Coalesce) ≡ true → t (Of word.Question) ≡ true
    → Follows {A = Expression} (λ _ s. t s) GoingAt (λ _ s. t s)
going_pass t operators coalesces asks =
    joined_follows (λ _ s. t s) (λ first. JoinedAt (FromAt OperandAt ranks first) CoalesceRestAt)
    (λ _ s. t s) ConditionalRestAt (λ _ s. t s)
    (joined_follows (λ _ s. t s) (FromAt OperandAt ranks) (λ _ s. t s) CoalesceRestAt (λ _ s. t s)
    (from_pass OperandAt t operators ranks) (coalesce_rest_pass t coalesces))
    (conditional_rest_pass t asks)

-- operators go on more loosely than an operand
operators_looser : (r : Rank) (s : Terminal) → operates r s ≡ true → looser 2 s ≡ true
operators_looser rank.Product s = implied (operates rank.Product) (looser 2) refl s
operators_looser rank.Sum s = implied (operates rank.Sum) (looser 2) refl s
operators_looser rank.Concatenation s = implied (operates rank.Concatenation) (looser 2) refl s
operators_looser rank.Comparison s = implied (operates rank.Comparison) (looser 2) refl s
operators_looser rank.Equality s = implied (operates rank.Equality) (looser 2) refl s
operators_looser rank.And s = implied (operates rank.And) (looser 2) refl s
operators_looser rank.Or s = implied (operates rank.Or) (looser 2) refl s

abbrev no_assignment : Terminal → Bool
no_assignment s = not (begins_assignment s)

operators_no_assignment : (r : Rank) (s : Terminal) → operates r s ≡ true → no_assignment s ≡ true
operators_no_assignment rank.Product s = implied (operates rank.Product) no_assignment refl s
operators_no_assignment rank.Sum s = implied (operates rank.Sum) no_assignment refl s
operators_no_assignment rank.Concatenation s = implied (operates rank.Concatenation) no_assignment refl s
operators_no_assignment rank.Comparison s = implied (operates rank.Comparison) no_assignment refl s
operators_no_assignment rank.Equality s = implied (operates rank.Equality) no_assignment refl s
operators_no_assignment rank.And s = implied (operates rank.And) no_assignment refl s
operators_no_assignment rank.Or s = implied (operates rank.Or) no_assignment refl s

going_follows : Follows (stop_at 2) GoingAt (stop_at 12)
going_follows m first text a r h is =
    going_pass (looser 2) operators_looser refl refl m first text a r h (looser_less 2 12 (omega arith) (head r) is)

going_apart : (first : Expression) → Apart (GoingAt first) (stop_at 12) begins_assignment
going_apart first m text a r h is = not_true (begins_assignment (head (text ++ r)))
    (going_pass no_assignment operators_no_assignment refl refl m first text a r h
    (implied (looser 12) no_assignment refl (head r) is))

-- no more than the first operand
least_going : (m : ℕ) (first : Expression) → GoingAt first m [] first
least_going m first =
    then_nothing (Joined (FromAt OperandAt ranks first m) (CoalesceRest m (inner m))) (ConditionalRest m (inner m))
    [] first first
    (then_nothing (FromAt OperandAt ranks first m) (CoalesceRest m (inner m)) [] first first
    (no_links OperandAt ranks first m) (inr (gives_it first))) (inr (gives_it first))

rest_follows : Follows operand_stop RestAt (stop_at 12)
rest_follows m (opened.Push p) text a r h is = refl
rest_follows m (opened.Other first) text a r h is = going_follows m first text a r h is
rest_follows m (opened.Place p) text a r (inr h) is = going_follows m (value_of p) text a r h is
rest_follows m (opened.Place p) text a r (inl h) is =
    starts_follow (stop_at 2) AssignmentAt (stop_at 12) begins_assignment
    (λ q s e. implied begins_assignment (looser 2) refl s e) assignment_starts m p text a r h is

-- ---- `=` behind `[]`. One level is left where that was read.

-- the level of what is behind the `=`
level_behind : ℕ → ℕ
level_behind zero = zero
level_behind (suc m) = m

PushedAt : Place → Rules ℕ Expression
PushedAt to m = Joined (Mark (Of word.Assign)) (λ _. Made (IsExpression (level_behind m)) (tree.Push to))

to_push_tail : (to : Place) (m : ℕ) (text : List Token) (a : Expression) → PushedAt to m text a
    → PushTail m (inner m) to text a
unfolding PushedAt level_behind
to_push_tail to zero text a h = h
to_push_tail to (suc m) text a h = h

from_push_tail : (to : Place) (m : ℕ) (text : List Token) (a : Expression) → PushTail m (inner m) to text a
    → PushedAt to m text a
unfolding PushedAt level_behind
from_push_tail to zero text a h = h
from_push_tail to (suc m) text a h = h

least_push : (m : ℕ) (to : Place) → PushTail m (inner m) to (placed (kind.Word word.Assign) ∷ zero_text)
    (tree.Push to zero_tree)
unfolding PushedAt
least_push m to = to_push_tail to m (placed (kind.Word word.Assign) ∷ zero_text) (tree.Push to zero_tree)
    (marked (Of word.Assign) (placed (kind.Word word.Assign)) (Made (IsExpression (level_behind m)) (tree.Push to))
    zero_text
    (tree.Push to zero_tree) refl (give (IsExpression (level_behind m)) (tree.Push to) zero_text zero_tree
    (least_expression (level_behind m))))

module _ (n : ℕ) (read : Part → Reader Expression) (reads : Reads (suc n) read) where
  behind_answers : (ts : List Token)
      → Answers ◌≤◌ (λ m. IsExpression (level_behind m)) (stop_at 12) (suc n) ts (read part.Whole ts)
  unfolding level_behind
  behind_answers ts =
      within_answers ◌≤◌ ◌≤◌ IsExpression (stop_at 12) (suc n) ts level_behind parts wholes (read part.Whole ts)
      (reads n refl part.Whole ts refl)
    where
      parts : (m : ℕ) → suc n ≤ m → n ≤ level_behind m
      parts zero above = absurd (omega arith)
      parts (suc k) above = omega arith

      wholes : (k : ℕ) → n ≤ k → (m : ℕ) × (suc n ≤ m) × (level_behind m ≡ k)
      wholes k above = (suc k, omega arith, refl)

  pushed_answers : (to : Place) (ts : List Token)
      → Answers ◌≤◌ (λ m. PushTail m (inner m) to) (stop_at 12) (suc n) ts (pushed (suc n) read to ts)
  unfolding pushed PushedAt
  pushed_answers to ts =
      equal_answers ◌≤◌ level_self (PushedAt to) (λ m. PushTail m (inner m) to) (stop_at 12) (suc n) ts
      (to_push_tail to) (from_push_tail to) (pushed (suc n) read to ts)
      (mark_then ◌≤◌ level_self (Of word.Assign) (λ _. MadeAt (λ m. IsExpression (level_behind m)) (tree.Push to))
      (stop_at 12) (suc n) (λ _. made (read part.Whole) (tree.Push to))
      (λ m above _. (
        zero_text,
        tree.Push to zero_tree,
        give (IsExpression (level_behind m))
            (tree.Push to) zero_text zero_tree (least_expression (level_behind m)),
      ))
      (λ _ us. made_answers ◌≤◌ level_self (λ m. IsExpression (level_behind m)) (tree.Push to) (stop_at 12) (stop_at 12)
      (suc n) us (λ a s e. e) (read part.Whole us) (behind_answers us)) ts)

-- ---- the readers of one level

module _ (level : ℕ) (read : Part → Reader Expression) (reads : Reads level read) where
  coalesced_answers : (left : Expression) (ts : List Token) → is (Of word.Coalesce) (head ts) ≡ true
      → Answers ◌≤◌ (CoalescedAt left) (stop_at 10) level ts (made
      (enter level >> (mark (Of word.Coalesce) >> read part.Coalesce)) (λ right. tree.Coalesce left right) ts)
  coalesced_answers left ts here =
      made_answers ◌≤◌ level_self (NestedAt CoalesceTailAt) (λ right. tree.Coalesce left right) (stop_at 10)
      (stop_at 10) level ts (λ a s e. e) ((enter level >> (mark (Of word.Coalesce) >> read part.Coalesce)) ts)
      (nested_answers (is (Of word.Coalesce)) CoalesceTailAt (stop_at 10) level ts
      (mark (Of word.Coalesce) >> read part.Coalesce) refl here
      (λ x e. (
        zero_text,
        zero_tree,
        marked (Of word.Coalesce) x (Under part.Coalesce 2) zero_text zero_tree e
            (least_coalesce 1 (inner 1)),
      ))
      (λ some. mark_then ◌≤◌ level_self (Of word.Coalesce) (λ _. Under part.Coalesce) (stop_at 10) level
      (λ _. read part.Coalesce) (λ m above _. some_coalesce_under level some m above)
      (λ _ us. inner_answers level read reads some part.Coalesce us refl) ts))

  coalesce_rest_answers : (left : Expression) (ts : List Token)
      → Answers ◌≤◌ (CoalesceRestAt left) (stop_at 10) level ts (coalesce_rest level read left ts)
  unfolding coalesce_rest
  coalesce_rest_answers left ts =
      either_answers ◌≤◌ level_self (CoalescedAt left) (GivesAt left) (is (Of word.Coalesce)) (stop_at 10) level ts
      (coalesced_starts left) (gives_apart left (stop_at 10) (is (Of word.Coalesce))
      (excluded (looser 10) (is (Of word.Coalesce)) refl))
      (made (enter level >> (mark (Of word.Coalesce) >> read part.Coalesce)) (λ right. tree.Coalesce left right) ts)
      (Ok (left, ts)) (coalesced_answers left ts) (λ _. gives_answers ◌≤◌ level_self left (stop_at 10) level ts)

  coalesce_rest_follows : Follows (stop_at 9) CoalesceRestAt (stop_at 10)
  coalesce_rest_follows m left text a r h is =
      coalesce_rest_pass (looser 9) refl m left text a r h (looser_less 9 10 (omega arith) (head r) is)

  some_operand : Can ◌≤◌ level OperandAt
  some_operand m above = (zero_text, zero_tree, least_operand m (inner m))

  pub coalesce_answers : (ts : List Token) → Answers ◌≤◌ CoalesceAt (stop_at 10) level ts (coalesce level read ts)
  unfolding coalesce
  coalesce_answers ts =
      joined_answers ◌≤◌ level_self (LadderAt OperandAt ranks) CoalesceRestAt (stop_at 9)
      (stop_at 10) level ts coalesce_rest_follows (ladder ranks (alone level read) ts) (coalesce_rest level read)
      (λ m above left. ([], left, inr (gives_it left))) (ladder_answers OperandAt level some_operand (alone level read)
      (alone_answers level read reads) ranks in_order ts) (λ left us _. coalesce_rest_answers left us)

  -- ---- conditionals

  abbrev middle_stop : Option Expression → Terminal → Bool
  middle_stop a s = is (Of word.Colon) s

  middle_answers : (ts : List Token) → Answers ◌≤◌ MiddleAt middle_stop level ts (middle level read ts)
  unfolding middle
  middle_answers ts =
      perhaps_answers ◌≤◌ level_self (NestedAt (Under part.Whole)) begins_expression (stop_at 12) middle_stop level ts
      (nests_starts (λ m. m) (Under part.Whole) begins_expression whole_under_starts)
      (λ a s e. mark_passes (looser 12) (Of word.Colon) refl s e)
      (λ s e. mark_fails begins_expression (Of word.Colon) refl s e)
      ((enter level >> read part.Whole) ts)
      (λ here. nested_answers begins_expression (Under part.Whole) (stop_at 12) level ts
      (read part.Whole) refl here begins_one (λ some. inner_answers level read reads some part.Whole ts refl))

  otherwise_answers : (test : Expression) (between : Option Expression) (ts : List Token)
      → Answers ◌≤◌ (OtherwiseAt test between) (stop_at 12) level ts
      ((mark (Of word.Colon) >> made (coalesce level read) (λ otherwise. tree.Conditional test between otherwise)) ts)
  otherwise_answers test between ts =
      let f : Expression → Expression = λ otherwise. tree.Conditional test between otherwise in
      mark_then ◌≤◌ level_self (Of word.Colon) (λ _. MadeAt CoalesceAt f) (stop_at 12) level
      (λ _. made (coalesce level read) f)
      (λ m above _. (zero_text, f zero_tree, give (CoalesceAt m) f zero_text zero_tree (least_coalesce m (inner m))))
      (λ _ us. made_answers ◌≤◌ level_self CoalesceAt f (stop_at 10) (stop_at 12) level us
      (λ a s e. looser_less 10 12 (omega arith) s e) (coalesce level read us) (coalesce_answers us)) ts

  least_otherwise : (test : Expression) (between : Option Expression) (m : ℕ)
      → OtherwiseAt test between m (placed (kind.Word word.Colon) ∷ zero_text) (tree.Conditional test between zero_tree)
  least_otherwise test between m =
      marked (Of word.Colon) (placed (kind.Word word.Colon)) (Made (CoalesceAt m)
      (λ otherwise. tree.Conditional test between otherwise)) zero_text (tree.Conditional test between zero_tree) refl
      (give (CoalesceAt m) (λ otherwise. tree.Conditional test between otherwise) zero_text zero_tree
      (least_coalesce m (inner m)))

  otherwise_starts : (test : Expression) (between : Option Expression)
      → StartsIn (OtherwiseAt test between) (is (Of word.Colon))
  otherwise_starts test between =
      joined_starts (MarkAt (Of word.Colon)) (λ _. MadeAt CoalesceAt
      (λ otherwise. tree.Conditional test between otherwise)) (is (Of word.Colon)) (mark_starts (Of word.Colon))

  asked_answers : (test : Expression) (ts : List Token)
      → Answers ◌≤◌ (JoinedAt MiddleAt (OtherwiseAt test)) (stop_at 12) level ts
      ((middle level read >>= (λ between. mark (Of word.Colon) >> made (coalesce level read)
      (λ otherwise. tree.Conditional test between otherwise))) ts)
  asked_answers test ts = joined_answers ◌≤◌ level_self MiddleAt (OtherwiseAt test) middle_stop (stop_at 12) level ts
      (starts_follow middle_stop (OtherwiseAt test) (stop_at 12) (is (Of word.Colon)) (λ a s e. e)
      (otherwise_starts test))
      (middle level read ts) (λ between. mark (Of word.Colon) >> made (coalesce level read)
      (λ otherwise. tree.Conditional test between otherwise))
      (λ m above between. (
        placed (kind.Word word.Colon)
            ∷ zero_text,
        tree.Conditional test between zero_tree,
        least_otherwise test between m,
      )) (middle_answers ts)
      (λ between us _. otherwise_answers test between us)

  branches_answers : (test : Expression) (ts : List Token)
      → Answers ◌≤◌ (BranchesAt test) (stop_at 12) level ts (branches level read test ts)
  unfolding branches
  branches_answers test ts =
      mark_then ◌≤◌ level_self (Of word.Question) (λ _. JoinedAt MiddleAt (OtherwiseAt test)) (stop_at 12) level
      (λ _. middle level read
      >>= (λ between. mark (Of word.Colon) >> made (coalesce level read)
      (λ otherwise. tree.Conditional test between otherwise)))
      (λ m above _. (
        placed (kind.Word word.Colon)
            ∷ zero_text,
        tree.Conditional test None zero_tree,
        behind (MiddleAt m) (λ between. OtherwiseAt test between m)
            [] (placed (kind.Word word.Colon) ∷ zero_text) None (tree.Conditional test None zero_tree)
            (inr (gives_it None))
            (least_otherwise test None m),
      ))
      (λ _. asked_answers test) ts

  conditional_rest_answers : (test : Expression) (ts : List Token)
      → Answers ◌≤◌ (ConditionalRestAt test) (stop_at 12) level ts (conditional_rest level read test ts)
  unfolding conditional_rest
  conditional_rest_answers test ts =
      either_answers ◌≤◌ level_self (BranchesAt test) (GivesAt test) (is (Of word.Question)) (stop_at 12) level ts
      (branches_starts test) (gives_apart test (stop_at 12) (is (Of word.Question))
      (excluded (looser 12) (is (Of word.Question)) refl))
      (branches level read test ts) (Ok (test, ts)) (λ _. branches_answers test ts)
      (λ _. gives_answers ◌≤◌ level_self test (stop_at 12) level ts)

  conditional_rest_follows : Follows (stop_at 10) ConditionalRestAt (stop_at 12)
  conditional_rest_follows m test text a r h is =
      conditional_rest_pass (looser 10) refl m test text a r h (looser_less 10 12 (omega arith) (head r) is)

  -- ---- an expression from its first operand

  first_answers : (first : Expression) (ts : List Token)
      → Answers ◌≤◌ (JoinedAt (FromAt OperandAt ranks first) CoalesceRestAt) (stop_at 10) level ts
      ((ladder_from ranks (alone level read) first >>= coalesce_rest level read) ts)
  first_answers first ts =
      joined_answers ◌≤◌ level_self (FromAt OperandAt ranks first) CoalesceRestAt (stop_at 9)
      (stop_at 10) level ts coalesce_rest_follows (ladder_from ranks (alone level read) first ts)
      (coalesce_rest level read)
      (λ m above left. ([], left, inr (gives_it left))) (ladder_from_answers OperandAt level some_operand
      (alone level read) (alone_answers level read reads) ranks in_order first ts)
      (λ left us _. coalesce_rest_answers left us)

  going_answers : (first : Expression) (ts : List Token)
      → Answers ◌≤◌ (GoingAt first) (stop_at 12) level ts (going_on level read first ts)
  unfolding going_on
  going_answers first ts =
      joined_answers ◌≤◌ level_self (JoinedAt (FromAt OperandAt ranks first) CoalesceRestAt) ConditionalRestAt
      (stop_at 10) (stop_at 12) level ts conditional_rest_follows
      ((ladder_from ranks (alone level read) first >>= coalesce_rest level read) ts) (conditional_rest level read)
      (λ m above test. ([], test, inr (gives_it test))) (first_answers first ts)
      (λ test us _. conditional_rest_answers test us)

  assignment_answers : (to : Place) (ts : List Token) → begins_assignment (head ts) ≡ true
      → Answers ◌≤◌ (AssignmentAt to) (stop_at 12) level ts (assignment level read to ts)
  unfolding assignment
  assignment_answers to ts here =
      nested_answers begins_assignment (JoinedAt (OneAt (by_terminal assignment_in))
      (λ how. MadeAt (Under part.Whole) (assigned to how))) (stop_at 12) level ts
      (sort assignment_in >>= (λ how. made (read part.Whole) (assigned to how))) refl here
      (λ x e. let o = one_of_sort assignment_in x e in (
        zero_text,
        assigned to o.0 zero_tree,
        behind (One (by_terminal assignment_in)) (λ how. Made (Under part.Whole 2) (assigned to how))
            (x ∷ []) zero_text o.0 (assigned to o.0 zero_tree) o.1
            (give (Under part.Whole 2) (assigned to o.0) zero_text zero_tree (least_whole 1 (inner 1))),
      ))
      (λ some. one_then (by_terminal assignment_in) (λ how. MadeAt (Under part.Whole) (assigned to how))
      (stop_at 12) level ts (λ how. made (read part.Whole) (assigned to how))
      (λ m above how. let w = some_whole_under level some m above in
      (w.0, assigned to how w.1, give (Under part.Whole m) (assigned to how) w.0 w.1 w.2))
      (λ how us. made_answers ◌≤◌ level_self (Under part.Whole) (assigned to how) (stop_at 12) (stop_at 12) level us
      (λ a s e. e) (read part.Whole us) (inner_answers level read reads some part.Whole us refl)))

  included_answers : (ts : List Token) → begins_inclusion (head ts) ≡ true
      → Answers ◌≤◌ IncludeAt (stop_at 12) level ts (included level read ts)
  unfolding included
  included_answers ts here =
      nested_answers begins_inclusion (JoinedAt (OneAt (by_terminal inclusion_in))
      (λ how. MadeAt (Under part.Whole) (tree.Include how))) (stop_at 12) level ts
      (sort inclusion_in >>= (λ how. made (read part.Whole) (tree.Include how))) refl here
      (λ x e. let o = one_of_sort inclusion_in x e in (
        zero_text,
        tree.Include o.0 zero_tree,
        behind (One (by_terminal inclusion_in)) (λ how. Made (Under part.Whole 2) (tree.Include how))
            (x ∷ []) zero_text o.0 (tree.Include o.0 zero_tree) o.1
            (give (Under part.Whole 2) (tree.Include o.0) zero_text zero_tree (least_whole 1 (inner 1))),
      ))
      (λ some. one_then (by_terminal inclusion_in) (λ how. MadeAt (Under part.Whole) (tree.Include how))
      (stop_at 12) level ts (λ how. made (read part.Whole) (tree.Include how))
      (λ m above how. let w = some_whole_under level some m above in
      (w.0, tree.Include how w.1, give (Under part.Whole m) (tree.Include how) w.0 w.1 w.2))
      (λ how us. made_answers ◌≤◌ level_self (Under part.Whole) (tree.Include how) (stop_at 12) (stop_at 12) level us
      (λ a s e. e) (read part.Whole us) (inner_answers level read reads some part.Whole us refl)))

-- ---- the whole

push_rest : (level : ℕ) (read : Part → Reader Expression) → Reads level read → (p : Place) (ts : List Token) → 0 < level
    → Answers ◌≤◌ (λ m. PushTail m (inner m) p) (stop_at 12) level ts (pushed level read p ts)
push_rest zero read reads p ts some = absurd (omega arith)
push_rest (suc n) read reads p ts some = pushed_answers n read reads p ts

-- `[]` is read only where a level is left
push_needs_level : (level : ℕ) (ts r : List Token) (p : Place)
    → IsRead ◌≤◌ OpeningAt operand_stop level ts (opened.Push p) r → 0 < level
push_needs_level zero ts r p found =
    absurd (no_push 0 (inner 0) found.text p refl (spells 0 (inner 0) found.text (opened.Push p)
    (found.spelled 0 (omega arith))))
push_needs_level (suc n) ts r p found = omega arith

module _ (level : ℕ) (read : Part → Reader Expression) (reads : Reads level read) where
  rest_answers : (ts : List Token) (v : Operand) (r : List Token) → IsRead ◌≤◌ OpeningAt operand_stop level ts v r
      → Answers ◌≤◌ (RestAt v) (stop_at 12) level r (rest_of level read v r)
  unfolding rest_of
  rest_answers ts (opened.Push p) r found = push_rest level read reads p r (push_needs_level level ts r p found)
  rest_answers ts (opened.Other first) r found = going_answers level read reads first r
  rest_answers ts (opened.Place p) r found =
      either_answers ◌≤◌ level_self (AssignmentAt p) (GoingAt (value_of p)) begins_assignment (stop_at 12) level r
      (assignment_starts p) (going_apart (value_of p))
      (assignment level read p r) (going_on level read (value_of p) r) (assignment_answers level read reads p r)
      (λ _. going_answers level read reads (value_of p) r)

  rest_goes_on : (m : ℕ) → level ≤ m → (v : Operand) → (ts : List Token) × (a : Expression) × RestAt v m ts a
  rest_goes_on m above (opened.Push p) = (
    placed (kind.Word word.Assign) ∷ zero_text,
    tree.Push p zero_tree,
    least_push
        m p,
  )
  rest_goes_on m above (opened.Other first) = ([], first, least_going m first)
  rest_goes_on m above (opened.Place p) = ([], value_of p, inr (least_going m (value_of p)))

  opened_answers : (ts : List Token)
      → Answers ◌≤◌ (JoinedAt OpeningAt RestAt) (stop_at 12) level ts ((opening level read >>= rest_of level read) ts)
  opened_answers ts =
      joined_answers ◌≤◌ level_self OpeningAt RestAt operand_stop (stop_at 12) level ts rest_follows
      (opening level read ts) (rest_of level read) rest_goes_on (opening_answers level read reads ts) (rest_answers ts)

  pub whole_answers : (ts : List Token) → Answers ◌≤◌ (At part.Whole) (stop_at 12) level ts (whole level read ts)
  unfolding whole
  whole_answers ts =
      equal_answers ◌≤◌ level_self (EitherAt IncludeAt (JoinedAt OpeningAt RestAt)) (At part.Whole)
      (stop_at 12) level ts (λ m. to_expression m (inner m)) (λ m. from_expression m (inner m)) (whole level read ts)
      (choice_answers IncludeAt (JoinedAt OpeningAt RestAt) begins_inclusion begins_operand
      (stop_at 12) level ts refl include_starts (joined_starts OpeningAt RestAt begins_operand
      (opening_starts level read reads))
      (included level read ts) ((opening level read >>= rest_of level read) ts) (included_answers level read reads ts)
      (λ _. opened_answers ts))

  part_answers : (p : Part) (ts : List Token) → may_read p (head ts) ≡ true
      → Answers ◌≤◌ (At p) (stop_of p) level ts (reads_part level read p ts)
  unfolding reads_part
  part_answers part.Whole ts may = whole_answers ts
  part_answers part.Coalesce ts may = coalesce_answers level read reads ts
  part_answers part.Alone ts may = alone_answers level read reads ts
  part_answers part.Index ts may = index_answers level read reads ts may

-- ---- every level

pub below_reads : (level : ℕ) → Reads level (below level)
unfolding below
below_reads zero n none p ts may = absurd (omega (arith, none))
below_reads (suc level) n is p ts may =
    subst (λ k. Answers ◌≤◌ (At p) (stop_of p) k ts (reads_part level (below level) p ts)) (omega (arith, is))
    (part_answers level (below level) (below_reads level) p ts may)

-- what the reader of each part of an expression answers; an index is read before its bracket
pub expression_answers : (p : Part) (level : ℕ) (ts : List Token) → may_read p (head ts) ≡ true
    → Answers ◌≤◌ (At p) (stop_of p) level ts (reading level p ts)
unfolding reading
expression_answers p level ts may = part_answers level (below level) (below_reads level) p ts may

pub is_expression_answers : (level : ℕ) (ts : List Token)
    → Answers ◌≤◌ IsExpression (stop_at 12) level ts (reading level part.Whole ts)
is_expression_answers level ts = expression_answers part.Whole level ts refl

pub place_answers : (level : ℕ) (ts : List Token) → Answers ◌≤◌ IsPlace (stop_at 1) level ts (reading_place level ts)
unfolding reading_place
place_answers level ts = operands.place_answers level (below level) (below_reads level) ts
