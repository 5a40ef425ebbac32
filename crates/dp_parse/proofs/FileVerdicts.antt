-- What the outcomes of the readers of files and of single expressions say of the tokens.
use Rattle.std.proofs.Common.{◌≡◌, ℕ, ◌≤◌, List, [], refl}
use Rattle.dp_lexer.specs.declared.token.Token.{Token}
use Rattle.dp_parse.specs.declared.ended.Parts.{Parts}
use Rattle.dp_tree.specs.declared.tree.Expression.{Expression}
use Rattle.dp_parse.specs.Statements.{Depth, no_parts, Spells, SpellsExpression}
use Rattle.dp_parse.specs.inner.StatementRules.{file, expression_text}
use Rattle.dp_token_rules.proofs.More.{level_self}
use Rattle.dp_expressions.proofs.Heights.{looser}
use Rattle.dp_expressions.proofs.Least.{zero_text, zero_tree, variable_text, variable_place, least_expression, least_is_place}
use Rattle.dp_expressions.proofs.ExpressionParts.{place_starts}
use Rattle.dp_expressions.proofs.Begins.{expression_starts}
use Rattle.dp_expressions.proofs.ExpressionAnswers.{is_expression_answers, place_answers}
use Rattle.dp_parse.proofs.StatementReaders.{Deeper, same_depth}
use Rattle.dp_parse.proofs.StatementParts.{closing, AreRead}
use Rattle.dp_parse.proofs.FileReaders.{end_stop, no_file, file_answers, file_leaves_none, expression_text_answers, some_text, text_leaves_none}
use Rattle.dp_token_rules.proofs.Verdicts.{ReadsAll, one_tree}
use Rattle.dp_token_rules.proofs.Terminals.{implied}

-- expressions and places are read
pub known : AreRead (looser 12) (looser 1)
known = record {
  reads = is_expression_answers;
  reads_place = place_answers;
  starts = expression_starts;
  place_starts = place_starts;
  least = λ level. (zero_text, zero_tree, least_expression level);
  least_place = λ level. (variable_text, variable_place, least_is_place level);
  stops = implied closing (looser 12) refl;
  stops_place = implied closing (looser 1) refl;
}

-- Files are read, at every depth.
pub file_reads : (limits : Depth) → ReadsAll Deeper Spells end_stop limits (file limits)
file_reads limits = record {
  same_level = same_depth limits;
  stops = λ a. refl;
  answers = file_answers (looser 12) (looser 1) known limits;
  leaves_none = file_leaves_none limits;
  some = ([], no_parts, no_file limits);
}

-- Single expressions are read, at every depth.
pub text_reads : (limit : ℕ) → ReadsAll ◌≤◌ SpellsExpression end_stop limit (expression_text limit)
text_reads limit = record {
  same_level = level_self limit;
  stops = λ a. refl;
  answers = expression_text_answers (looser 12) (looser 1) known limit;
  leaves_none = text_leaves_none limit;
  some = some_text (looser 12) (looser 1) known limit;
}

-- Tokens are at most one file, however deep they nest.
pub one_file : (l m : Depth) (ts : List Token) (a b : Parts) → Spells l ts a → Spells m ts b → a ≡ b
one_file l = one_tree (file_reads l)

-- Tokens are at most one expression, however deep they nest.
pub one_expression : (l m : ℕ) (ts : List Token) (a b : Expression) → SpellsExpression l ts a → SpellsExpression m ts b
    → a ≡ b
one_expression l = one_tree (text_reads l)
