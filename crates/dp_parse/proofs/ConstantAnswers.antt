-- How a `const` is read.
use Rattle.std.proofs.Common.{◌≡◌, Bool, true, false, not, ◌&&◌, List, [], ◌∷◌, ◌++◌, codes, refl, arith}
use Rattle.dp_lexer.specs.declared.token.Token.{Token}
use Rattle.dp_lexer.specs.declared.token.TokenKind.TheVariants as kind
use Rattle.dp_expressions.specs.declared.operand.Part.TheVariants as part
use Rattle.dp_parse.specs.declared.ended.Body.{Body}
use Rattle.dp_parse.specs.declared.ended.Ended.{Ended}
use Rattle.dp_token_rules.specs.declared.terminal.Terminal.TheVariants.{Of}
use Rattle.dp_lexer.specs.declared.token.Word.TheVariants as word
use Rattle.dp_token_rules.specs.declared.terminal.Terminal.{Terminal}
use Rattle.dp_token_rules.specs.declared.terminal.Terminal.TheVariants as terminal
use Rattle.dp_tree.specs.declared.tree.Definition.{Definition}
use Rattle.dp_tree.specs.declared.tree.Expression.{Expression}
use Rattle.dp_tree.specs.declared.tree.StatementKind.TheVariants as tree
use Rattle.dp_token_rules.specs.Lines.{line_of}
use Rattle.dp_token_rules.specs.Terminals.{is}
use Rattle.dp_token_rules.specs.inner.Input.{Reader, ◌>>=◌, ◌>>◌, gives, made, mark, kind}
use Rattle.dp_token_rules.specs.inner.ListReaders.{many}
use Rattle.dp_token_rules.specs.Rules.{Many}
use Rattle.dp_token_rules.specs.TokenValues.{name_in, by_kind}
use Rattle.dp_expressions.specs.Grammar.{IsExpression}
use Rattle.dp_expressions.specs.inner.Readers.{reading}
use Rattle.dp_parse.specs.Statements.{Depth, whole, stated, definition_of, DefinitionRule, NextDefinition, Definitions, ConstantsRule}
use Rattle.dp_parse.specs.inner.StatementRules.{on_its_line, body_below, definition, next_definition, definitions, of_constants, constants_rule}
use Rattle.dp_token_rules.proofs.Terminals.{and_parts, both, not_true, mark_passes}
use Rattle.dp_token_rules.proofs.Answers.{Rules, Anything, JoinedAt, GivesAt, OneAt, MarkAt, MadeAt, ManyAt, OnLineAt, Answers, Follows, StartsIn, give, given, mark_starts, joined_starts, made_starts, online_starts, starts_in_more, gives_follow, made_answers, online_answers}
use Rattle.dp_token_rules.proofs.Loops.{closed_follows, many_none, many_answers}
use Rattle.dp_parse.proofs.StatementReaders.{Deeper, same_depth, IsPartReader, gives_reader, joined_reader, then_reader, made_reader, mark_then, before_mark}
use Rattle.dp_parse.proofs.StatementParts.{AreRead, ExpressionAt, kind_reader, expression_reader}
use Rattle.dp_parse.proofs.ConstantRules.{definitions_good}
use Rattle.dp_parse.proofs.ConstantFronts.{OfConstantsAt, of_constants_answers}

abbrev DefinitionAt : Rules Depth Definition
DefinitionAt m = DefinitionRule (IsExpression m.expressions)

abbrev NextAt : Rules Depth Definition
NextAt m = NextDefinition (IsExpression m.expressions)

abbrev DefinitionsAt : Rules Depth (List Definition)
DefinitionsAt m = Definitions (IsExpression m.expressions)

abbrev ConstantsAt : Rules Depth Ended
ConstantsAt m = ConstantsRule (IsExpression m.expressions)

-- a `const` with the line of its word
abbrev pub ConstantsLineAt : Rules Depth Body
ConstantsLineAt = OnLineAt (λ line. MadeAt ConstantsAt (stated line))

abbrev MoreAt : Definition → Rules Depth (List Definition)
MoreAt first = MadeAt (ManyAt NextAt) (λ more. first ∷ more)

next_starts : StartsIn NextAt (is (Of word.Comma))
next_starts = joined_starts (MarkAt (Of word.Comma)) (λ _. DefinitionAt) (is (Of word.Comma))
    (mark_starts (Of word.Comma))

of_constants_starts : StartsIn (OfConstantsAt DefinitionsAt) (is terminal.Const)
of_constants_starts m text a h =
    joined_starts (MarkAt terminal.Const) (λ _. JoinedAt DefinitionAt MoreAt) (is terminal.Const)
    (mark_starts terminal.Const) m text a h.spelled

constants_starts : StartsIn ConstantsAt (is terminal.Const)
constants_starts = joined_starts (OfConstantsAt DefinitionsAt) _ (is terminal.Const) of_constants_starts

pub constants_line_starts : StartsIn ConstantsLineAt (is terminal.Const)
constants_line_starts =
    online_starts (λ line. MadeAt ConstantsAt (stated line)) (is terminal.Const)
    (λ line. made_starts ConstantsAt (stated line) (is terminal.Const) constants_starts)

module _ (ends place_ends : Terminal → Bool) (known : AreRead ends place_ends) where
  -- where a definition may end, and where the last may
  abbrev between : {A : Type 0} → A → Terminal → Bool
  between a s = ends s

  abbrev last : {A : Type 0} → A → Terminal → Bool
  last a s = ends s && not (is (Of word.Comma) s)

  last_ends : (s : Terminal) → (ends s && not (is (Of word.Comma) s)) ≡ true → ends s ≡ true
  last_ends s e = (and_parts (ends s) (not (is (Of word.Comma) s)) e).0

  comma_ends : (s : Terminal) → is (Of word.Comma) s ≡ true → ends s ≡ true
  comma_ends = mark_passes ends (Of word.Comma) (known.stops (Of word.Comma) refl)

  more_follows : Follows between MoreAt last
  more_follows m first us all r h stops =
      let g = given (Many (NextAt m)) (λ more. first ∷ more) us all h in
      closed_follows (λ found. MadeAt NextAt (λ d. found ++ d ∷ [])) (λ found. GivesAt found) between last
      (λ found. starts_in_more (MadeAt NextAt (λ d. found ++ d ∷ [])) (is (Of word.Comma)) ends comma_ends
      (made_starts NextAt (λ d. found ++ d ∷ []) (is (Of word.Comma)) next_starts))
      (gives_follow (λ found. found) between last (λ found s e. last_ends s e)) m [] us g.0 r g.1 stops

  module _ (depth : Depth) where
    abbrev expression : Reader Expression
    expression = reading depth.expressions part.Whole

    definition_reader : IsPartReader 0 DefinitionAt between depth (definition expression)
    unfolding definition
    definition_reader =
        then_reader 0 depth (OneAt (by_kind name_in)) (λ name. JoinedAt (MarkAt (Of word.Assign))
        (λ _. MadeAt ExpressionAt (definition_of name))) between (kind name_in)
        (λ name. mark (Of word.Assign) >> made expression (definition_of name))
        (kind_reader 0 depth name_in (kind.Name (97 ∷ [])) (97 ∷ []) refl)
        (λ name. mark_then 0 depth (Of word.Assign) (kind.Word word.Assign) refl
        (λ _. MadeAt ExpressionAt (definition_of name)) between
        (λ _. made expression (definition_of name))
        (λ _. made_reader 0 depth ExpressionAt (definition_of name) between between expression (λ a s e. e)
        (expression_reader 0 depth 0 (body_below depth.expressions depth.bodies) ends place_ends known)))

    next_reader : IsPartReader 0 NextAt between depth (next_definition expression)
    next_reader =
        mark_then 0 depth (Of word.Comma) (kind.Word word.Comma) refl (λ _. DefinitionAt) between
        (λ _. definition expression)
        (λ _. definition_reader)

    abbrev more : Definition → Reader (List Definition)
    more first = made (many (is (Of word.Comma)) (next_definition expression)) (λ found. first ∷ found)

    more_reader : (first : Definition) → IsPartReader 0 (MoreAt first) last depth (more first)
    more_reader first = record {
      answers =
          λ some ts. made_answers Deeper same_depth (ManyAt NextAt) (λ found. first ∷ found) last last depth ts
          (λ a s e. e) (many (is (Of word.Comma)) (next_definition expression) ts)
          (many_answers NextAt Deeper same_depth (is (Of word.Comma)) between last depth (next_definition expression)
          next_starts (λ a s e. comma_ends s e) (λ all a s e. last_ends s e)
          (λ all s e. not_true (is (Of word.Comma) s) (and_parts (ends s) (not (is (Of word.Comma) s)) e).1)
          (λ us here. next_reader.answers some us) ts);
      least =
          λ m some. (
            [],
            first ∷ [],
            give (Many (NextAt m)) (λ found. first ∷ found) [] [] (many_none NextAt m),
          );
    }

    definitions_reader : IsPartReader 0 DefinitionsAt last depth (definitions expression)
    unfolding definitions
    definitions_reader =
        mark_then 0 depth terminal.Const (kind.Name (codes "const")) refl (λ _. JoinedAt DefinitionAt MoreAt) last
        (λ _. definition expression >>= more)
        (λ _. joined_reader 0 depth DefinitionAt MoreAt between last (definition expression) more more_follows
        definition_reader more_reader)

    of_constants_reader : IsPartReader 0 (OfConstantsAt DefinitionsAt) last depth
        (of_constants (definitions expression))
    of_constants_reader = record {
      answers =
          λ some. of_constants_answers Deeper DefinitionsAt last depth
          (λ a. both (ends terminal.End) true (known.stops terminal.End refl) refl)
          (λ m. (definitions_good m.expressions).fronts) (definitions expression) (definitions_reader.answers some);
      least =
          λ m some. let g = (definitions_good m.expressions).least false in
          (g.0, g.1, record { of_constants = g.3; spelled = g.2 });
    }

    constants_reader : IsPartReader 0 ConstantsAt Anything depth (constants_rule expression)
    unfolding constants_rule
    constants_reader =
        before_mark 0 depth (OfConstantsAt DefinitionsAt) last (Of word.Semicolon) (kind.Word word.Semicolon) refl
        (λ a. both (ends (Of word.Semicolon)) true (known.stops (Of word.Semicolon) refl) refl)
        (λ all _. GivesAt (whole (tree.Constants all))) Anything (of_constants (definitions expression))
        (λ all _. gives (whole (tree.Constants all))) of_constants_reader
        (λ all _. gives_reader 0 depth (whole (tree.Constants all)) Anything)

    pub constants_answers : (ts : List Token)
        → Answers Deeper ConstantsLineAt Anything depth ts (on_its_line (constants_rule expression) ts)
    unfolding on_its_line
    constants_answers ts =
        online_answers Deeper same_depth (λ line. MadeAt ConstantsAt (stated line)) (is terminal.Const) Anything depth
        ts (λ line. made_starts ConstantsAt (stated line) (is terminal.Const) constants_starts)
        (made (constants_rule expression) (stated (line_of ts)) ts)
        (made_answers Deeper same_depth ConstantsAt (stated (line_of ts)) Anything Anything depth ts (λ a s e. refl)
        (constants_rule expression ts) (constants_reader.answers (omega arith) ts))
