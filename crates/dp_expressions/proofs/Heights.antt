-- How loosely tokens go on with an expression.
use Rattle.std.specs.List.{list_all}
use Rattle.std.proofs.Common.{◌≡◌, ℕ, ◌≤◌, ◌<◌, Bool, true, not, ◌||◌, is_some, nat_lt, nat_eq, refl, ltb-true, lt-ltb, eqb-true, arith}
use Rattle.dp_expressions.specs.declared.rank.Rank.{Rank}
use Rattle.dp_expressions.specs.declared.rank.Rank.TheVariants as rank
use Rattle.dp_token_rules.specs.declared.terminal.Terminal.TheVariants.{Of}
use Rattle.dp_lexer.specs.declared.token.Word.TheVariants as word
use Rattle.dp_token_rules.specs.declared.terminal.Terminal.{Terminal}
use Rattle.dp_expressions.specs.Grammar.{operator_in}
use Rattle.dp_token_rules.proofs.Terminals.{all_terminals, implied}

-- How loosely such a token goes on with an expression: a parenthesis with a name alone. The last number is that of
-- tokens that go on with none.
abbrev pub height : Terminal → ℕ
height (Of word.OpenParenthesis) = 0
height (Of word.OpenBracket) = 1
height (Of word.Increment) = 2
height (Of word.Decrement) = 2
height (Of word.Star) = 3
height (Of word.Percent) = 3
height (Of word.Plus) = 4
height (Of word.Minus) = 4
height (Of word.Dot) = 5
height (Of word.Less) = 6
height (Of word.LessOrEqual) = 6
height (Of word.Greater) = 6
height (Of word.GreaterOrEqual) = 6
height (Of word.Equal) = 7
height (Of word.NotEqual) = 7
height (Of word.Identical) = 7
height (Of word.NotIdentical) = 7
height (Of word.Spaceship) = 7
height (Of word.BothOf) = 8
height (Of word.EitherOf) = 9
height (Of word.Coalesce) = 10
height (Of word.Question) = 11
height (Of word.Assign) = 12
height (Of word.AddAssign) = 12
height (Of word.SubtractAssign) = 12
height (Of word.MultiplyAssign) = 12
height (Of word.ConcatAssign) = 12
height (Of word.RemainderAssign) = 12
height (Of word.CoalesceAssign) = 12
height _ = 13

abbrev pub rank_height : Rank → ℕ
rank_height rank.Product = 3
rank_height rank.Sum = 4
rank_height rank.Concatenation = 5
rank_height rank.Comparison = 6
rank_height rank.Equality = 7
rank_height rank.And = 8
rank_height rank.Or = 9

-- a token that goes on more loosely than that
abbrev pub looser : ℕ → Terminal → Bool
looser h s = nat_lt h (height s)

-- the stop of what goes on with tokens up to that height
abbrev pub stop_at : {A : Type 0} → ℕ → A → Terminal → Bool
stop_at h a s = looser h s

pub looser_less : (g h : ℕ) → g ≤ h → (s : Terminal) → looser h s ≡ true → looser g s ≡ true
looser_less g h bound s is = let less : h < height s = ltb-true h (height s) is in lt-ltb g (height s) (omega arith)

-- the operators of a rank are at its height
pub rank_operators : (r : Rank) (s : Terminal) → is_some (operator_in r s) ≡ true → height s ≡ rank_height r
rank_operators r s is =
    eqb-true (height s) (rank_height r) (implied (λ s. is_some (operator_in r s))
    (λ s. nat_eq (height s) (rank_height r)) (all r) s is)
  where
    all : (r : Rank) → list_all (λ s. not (is_some (operator_in r s)) || nat_eq (height s) (rank_height r))
        all_terminals ≡ true
    all rank.Product = refl
    all rank.Sum = refl
    all rank.Concatenation = refl
    all rank.Comparison = refl
    all rank.Equality = refl
    all rank.And = refl
    all rank.Or = refl
