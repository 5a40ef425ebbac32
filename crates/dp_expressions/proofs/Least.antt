-- A shortest spelling of each part of an expression, at each level.
use Rattle.std.proofs.Common.{inl, inr, ℕ, pos, ◌<◌, List, [], ◌∷◌, sym, refl, append-nil}
use Rattle.dp_lexer.specs.declared.token.Token.{Token}
use Rattle.dp_lexer.specs.declared.token.TokenKind.TheVariants as kind
use Rattle.dp_expressions.specs.declared.rank.Rank.{Rank}
use Rattle.dp_tree.specs.declared.tree.Expression.{Expression}
use Rattle.dp_tree.specs.declared.tree.Expression.TheVariants as tree
use Rattle.dp_tree.specs.declared.tree.Place.{Place}
use Rattle.dp_token_rules.specs.declared.terminal.Terminal.TheVariants.{Of}
use Rattle.dp_lexer.specs.declared.token.Word.TheVariants as word
use Rattle.dp_token_rules.specs.Rules.{Rule, Joined, Gives, Closed}
use Rattle.dp_expressions.specs.Grammar.{Inner, Ladder, PlaceOf, place, Index, OperandRule, CoalesceRule, ConditionalRule, ExpressionRule, ranks, inner, IsExpression, IsPlace}
use Rattle.dp_token_rules.proofs.Terminals.{placed, mark_alone}
use Rattle.dp_token_rules.specs.TokenValues.{Text}

-- `0`
abbrev pub zero_token : Token
zero_token = placed (kind.Number (pos 0))

abbrev pub zero_text : List Token
zero_text = zero_token ∷ []

abbrev pub zero_tree : Expression
zero_tree = tree.Number (pos 0)

-- `$a`
abbrev pub variable_name : Text
variable_name = 97 ∷ []

abbrev pub variable_text : List Token
variable_text = placed (kind.Variable variable_name) ∷ []

abbrev pub variable_place : Place
variable_place = place variable_name []

-- `[0]`
abbrev pub index_text : List Token
index_text = placed (kind.Word word.OpenBracket) ∷ (zero_token ∷ (placed (kind.Word word.CloseBracket) ∷ []))

-- a spelling behind which nothing is spelled
pub then_nothing : {A B : Type 0} (first : Rule A) (second : A → Rule B) (text : List Token) (a : A) (b : B)
    → first text a → second a [] b → Joined first second text b
then_nothing first second text a b one other =
    record { front = text; back = []; value = a; split = sym (append-nil text); one = one; other = other }

pub no_more : {A B : Type 0} (piece : A → Rule A) (end : A → Rule B) (a : A) (text : List Token) (b : B) → end a text b
    → Closed piece end a text b
no_more piece end a text b h = record { count = 0; chain = h }

pub gives_it : {A : Type 0} (a : A) → Gives {T = Token} a [] a
gives_it a = record { empty = refl; same = refl }

pub least_operand : (level : ℕ) (i : Inner) → OperandRule level i zero_text zero_tree
least_operand level i =
    inr (inr (inr (inl (record {
      front = zero_text;
      back = [];
      value = pos 0;
      split = refl;
      one = record {
        symbol =
            zero_token;
        alone = refl;
        is_worth = refl;
      };
      other = gives_it zero_tree;
    }))))

pub least_ladder : (rs : List Rank) (operand : Rule Expression) (text : List Token) (e : Expression) → operand text e
    → Ladder rs operand text e
least_ladder [] operand text e h = h
least_ladder (r ∷ rs) operand text e h = record {
  front = text;
  back = [];
  value = e;
  split = sym (append-nil text);
  one = least_ladder rs operand text e h;
  other =
      record {
        front = [];
        back = [];
        value = [];
        split = refl;
        one = record
            { count = 0; chain = gives_it [] };
        other = gives_it e;
      };
}

pub least_coalesce : (level : ℕ) (i : Inner) → CoalesceRule level i zero_text zero_tree
least_coalesce level i =
    record {
      front = zero_text;
      back = [];
      value = zero_tree;
      split = refl;
      one = least_ladder ranks
          (OperandRule level i) zero_text zero_tree (least_operand level i);
      other = inr (gives_it zero_tree);
    }

pub least_conditional : (level : ℕ) (i : Inner) → ConditionalRule level i zero_text zero_tree
least_conditional level i =
    record {
      front = zero_text;
      back = [];
      value = zero_tree;
      split = refl;
      one = least_coalesce level i;
      other = inr
          (gives_it zero_tree);
    }

pub least_whole : (level : ℕ) (i : Inner) → ExpressionRule level i zero_text zero_tree
least_whole level i = inr (inr (inr (least_conditional level i)))

pub least_place : (index : Rule Expression) → PlaceOf index variable_text variable_place
least_place index = record {
  front = variable_text;
  back = [];
  value = variable_name;
  split = refl;
  one = record { symbol = placed (kind.Variable variable_name); alone = refl; is_worth = refl };
  other =
      record {
        front = [];
        back = [];
        value = [];
        split = refl;
        one = record
            { count = 0; chain = gives_it [] };
        other = gives_it variable_place;
      };
}

-- an index where its expression is spelled `0` and a level is left
pub least_index : (level : ℕ) (i : Inner) → 0 < level → i.expression zero_text zero_tree
    → Index level i index_text zero_tree
least_index level i some h = record {
  some = some;
  spelled = record {
    front = placed (kind.Word word.OpenBracket) ∷ [];
    back = zero_token ∷ (placed (kind.Word word.CloseBracket) ∷ []);
    value = 1;
    split = refl;
    one = mark_alone (Of word.OpenBracket) (kind.Word word.OpenBracket) refl;
    other = record {
      front = zero_text;
      back = placed (kind.Word word.CloseBracket) ∷ [];
      value = zero_tree;
      split = refl;
      one = h;
      other =
          record {
            front = placed (kind.Word word.CloseBracket)
                ∷ [];
            back = [];
            value = 1;
            split = refl;
            one = mark_alone (Of word.CloseBracket) (kind.Word word.CloseBracket) refl;
            other
                = gives_it zero_tree;
          };
    };
  };
}

pub least_expression : (level : ℕ) → IsExpression level zero_text zero_tree
least_expression level = least_whole level (inner level)

pub least_is_place : (level : ℕ) → IsPlace level variable_text variable_place
least_is_place level = least_place (Index level (inner level))
