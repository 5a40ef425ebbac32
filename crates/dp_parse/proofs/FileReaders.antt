-- How functions, files and single expressions are read.
use denote.Enum.Declared.{tag_of}
use Rattle.std.specs.declared.ops.ControlFlow.{ControlFlow}
use Rattle.std.specs.declared.ops.ControlFlow.TheVariants.{Continue, Break}
use Rattle.std.specs.List.{list_any}
use Rattle.std.specs.Str.{bytes_eq}
use Rattle.std.proofs.Common.{◌≡◌, inl, inr, ℕ, zero, suc, ◌+◌, ◌≤◌, Bool, true, false, not, List, [], ◌∷◌, ◌++◌, length, Option, Some, None, Ok, Err, sym, refl, ap, ◌∙◌, subst, append-nil, cond, arith}
use Rattle.std.proofs.lemmas.Bool.{ne_eqb}
use Rattle.dp_lexer.specs.declared.token.Token.{Token}
use Rattle.dp_lexer.specs.declared.token.TokenKind.{TokenKind}
use Rattle.dp_lexer.specs.declared.token.TokenKind.TheVariants as kind
use Rattle.dp_lexer.specs.contracts.token.Word.{the_type}
use Rattle.dp_lexer.specs.Keywords.{is_reserved}
use Rattle.dp_parse.specs.declared.ended.Body.{Body}
use Rattle.dp_parse.specs.declared.ended.Parts.{Parts}
use Rattle.dp_expressions.specs.declared.operand.Part.TheVariants as part
use Rattle.dp_grammar.specs.declared.refusal.Refusal.TheVariants.{Unexpected}
use Rattle.dp_token_rules.specs.declared.terminal.Terminal.TheVariants.{Of}
use Rattle.dp_lexer.specs.declared.token.Word.TheVariants as word
use Rattle.dp_token_rules.specs.declared.terminal.Terminal.{Terminal}
use Rattle.dp_token_rules.specs.declared.terminal.Terminal.TheVariants as terminal
use Rattle.dp_tree.specs.declared.tree.Expression.{Expression}
use Rattle.dp_tree.specs.declared.tree.Function.{Function}
use Rattle.dp_token_rules.specs.Terminals.{terminal_of, reserved_terminal, is, is_superglobal, head}
use Rattle.dp_token_rules.specs.inner.Input.{Outcome, Reader, and_then, gives, made, mark, refuse, until, next_of, ◌>>=◌, ◌>>◌, kind}
use Rattle.dp_token_rules.specs.Rules.{Made, Mark, Perhaps}
use Rattle.dp_token_rules.specs.inner.ListReaders.{any_items}
use Rattle.dp_expressions.specs.Grammar.{IsExpression}
use Rattle.dp_expressions.specs.inner.Readers.{reading}
use Rattle.dp_parse.specs.Statements.{Depth, parameter_in, function_of, FunctionRule, no_parts, with_statement, with_function, Spells, SpellsExpression}
use Rattle.dp_parse.specs.inner.StatementRules.{on_its_line, bodies, body_below, statement, function_rule, constants_rule, file_step, file, at_end, semicolon, expression_text}
use Rattle.dp_token_rules.proofs.Terminals.{not_true, placed, mark_alone, mark_passes, mark_fails, mark_apart, reserved_fails}
use Rattle.dp_token_rules.proofs.Answers.{Rules, Anything, JoinedAt, EitherAt, GivesAt, OneAt, MarkAt, MadeAt, StepAt, Answers, Follows, StartsIn, Apart, give, given, mark_starts, joined_starts, made_starts, either_starts, nests_starts, starts_in_more, starts_apart, gives_apart, made_apart, either_apart, gives_follow, one_starts, one_answers, gives_answers, joined_answers, made_answers, mark_answers, equal_answers, either_answers, refused_here, begun, either_answers_back, by_first, by_second}
use Rattle.dp_token_rules.proofs.More.{level_self}
use Rattle.dp_token_rules.proofs.Loops.{step_stop, closed_answers}
use Rattle.dp_token_rules.proofs.ListAnswers.{AnyItemsAt, AreItems, any_items_answers}
use Rattle.dp_parse.proofs.StatementReaders.{Deeper, same_depth, IsPartReader, gives_reader, then_reader, mark_then, keyword_nests}
use Rattle.dp_parse.proofs.StatementParts.{AreRead, kind_reader, takes_else, body_stop}
use Rattle.dp_parse.proofs.StatementStarts.{begins_statement, LineAt, open_ends_other, statement_no_else, line_starts}
use Rattle.dp_parse.proofs.StatementBodies.{BodiesAt, bodies_reader}
use Rattle.dp_parse.proofs.StatementLevels.{body_reader, statement_answers}
use Rattle.dp_parse.proofs.ConstantAnswers.{ConstantsLineAt, constants_line_starts, constants_answers}
use Rattle.dp_token_rules.specs.TokenValues.{Text, unless, variable_in, name_in, by_kind}

-- ---- parameters

parameter_starts : {L : Type 0} (found : List Text)
    → StartsIn {L = L} (OneAt (by_kind (parameter_in found))) (is terminal.Variable)
parameter_starts found = one_starts (by_kind (parameter_in found)) (is terminal.Variable) (λ t a e. of t.kind a e)
  where
    named : (name : Text) (b : Bool) (a : Text) → unless b name ≡ Some a
        → is terminal.Variable (cond b terminal.Superglobal terminal.Variable) ≡ true
    named name true a e = absurd (cc)
    named name false a e = refl

    new : (name : Text) (b : Bool) (a : Text) → cond b None (variable_in (kind.Variable name)) ≡ Some a
        → is terminal.Variable (terminal_of (kind.Variable name)) ≡ true
    new name true a e = absurd (cc)
    new name false a e = named name (is_superglobal name) a e

    of : (k : TokenKind) (a : Text) → parameter_in found k ≡ Some a → is terminal.Variable (terminal_of k) ≡ true
    of (kind.Variable name) a e = new name (list_any (λ other. bytes_eq other name) found) a e
    of _ a e = absurd (cc)

abbrev ParametersAt : Rules Depth (List Text)
ParametersAt = AnyItemsAt (λ found. OneAt (by_kind (parameter_in found))) (Of word.CloseParenthesis)

abbrev parameters : Reader (List Text)
parameters = any_items (λ found. kind (parameter_in found)) (Of word.CloseParenthesis)

are_parameters : (level : Depth)
    → AreItems Deeper (λ found. OneAt (by_kind (parameter_in found))) (Of word.CloseParenthesis) Anything
    (is terminal.Variable) level (λ found. kind (parameter_in found))
are_parameters level = record {
  starts = parameter_starts;
  not_comma = refl;
  not_close = refl;
  close_apart = refl;
  stops_comma = λ a. refl;
  stops_close = λ a. refl;
  closing = placed (kind.Word word.CloseParenthesis);
  closes = refl;
  some_item =
      λ m above. (
        placed (kind.Variable (97 ∷ [])) ∷ [],
        97
            ∷ [],
        record { symbol = placed (kind.Variable (97 ∷ [])); alone = refl; is_worth = refl },
      );
  reads = λ found ts. one_answers Deeper same_depth (by_kind (parameter_in found)) Anything level ts;
}

parameters_reader : (level : Depth) → IsPartReader 1 ParametersAt Anything level parameters
parameters_reader level = record {
  answers =
      λ some. any_items_answers Deeper same_depth (λ found. OneAt (by_kind (parameter_in found)))
      (Of word.CloseParenthesis) Anything (is terminal.Variable) level (λ found. kind (parameter_in found))
      (are_parameters level);
  least =
      λ m some. (
        placed (kind.Word word.CloseParenthesis)
            ∷ [],
        [],
        inl (give (Mark (Of word.CloseParenthesis)) (λ _. []) (placed (kind.Word word.CloseParenthesis) ∷ []) 1
            (mark_alone (Of word.CloseParenthesis) (kind.Word word.CloseParenthesis) refl)),
      );
}

-- where a file may end
abbrev pub end_stop : {A : Type 0} → A → Terminal → Bool
end_stop a s = is terminal.End s

-- a token is no end
token_no_end : (t : Token) → is terminal.End (terminal_of t.kind) ≡ false
token_no_end t = go t.kind
  where
    of : (b : Bool) (s r : Terminal) → is terminal.End s ≡ false → is terminal.End r ≡ false
        → is terminal.End (cond b s r) ≡ false
    of true s r one other = one
    of false s r one other = other

    go : (k : TokenKind) → is terminal.End (terminal_of k) ≡ false
    go (kind.Variable name) = of (is_superglobal name) terminal.Superglobal terminal.Variable refl refl
    go (kind.Name name) =
        of (is_reserved name) (reserved_terminal name) terminal.Name (reserved_fails (is terminal.End) name refl refl)
        refl
    go (kind.Number _) = refl
    go (kind.Text _) = refl
    go (kind.Word w) = ne_eqb (8 + tag_of the_type w) 0 (λ same. absurd (omega arith))

-- behind the end nothing is left
pub ends_empty : (ts : List Token) → is terminal.End (head ts) ≡ true → ts ≡ []
ends_empty [] e = refl
ends_empty (t ∷ ts) e = let n = token_no_end t in absurd (cc)

module _ (ends place_ends : Terminal → Bool) (known : AreRead ends place_ends) where
  -- ---- functions

  abbrev FunctionRestAt : ℕ → Rules Depth Function
  FunctionRestAt line =
      JoinedAt (OneAt (by_kind name_in)) (λ name. JoinedAt (MarkAt (Of word.OpenParenthesis))
      (λ _. JoinedAt ParametersAt (λ found. JoinedAt (MarkAt (Of word.OpenBrace))
      (λ _. JoinedAt (BodiesAt 0) (λ all. GivesAt (function_of line name found all))))))

  module _ (depth : Depth) where
    abbrev body : ℕ → Reader Body
    body = body_below depth.expressions depth.bodies

    abbrev after_parameters : ℕ → Text → List Text → Reader Function
    after_parameters line name found =
        mark (Of word.OpenBrace) >> (bodies (body 0) >>= (λ all. gives (function_of line name found all)))

    after_parameters_reader : (line : ℕ) (name : Text) (found : List Text)
        → IsPartReader 1 (JoinedAt (MarkAt (Of word.OpenBrace))
        (λ _. JoinedAt (BodiesAt 0) (λ all. GivesAt (function_of line name found all)))) Anything depth
        (after_parameters line name found)
    after_parameters_reader line name found =
        mark_then 1 depth (Of word.OpenBrace) (kind.Word word.OpenBrace) refl
        (λ _. JoinedAt (BodiesAt 0) (λ all. GivesAt (function_of line name found all))) Anything
        (λ _. bodies (body 0) >>= (λ all. gives (function_of line name found all)))
        (λ _. then_reader 1 depth (BodiesAt 0) (λ all. GivesAt (function_of line name found all)) Anything
        (bodies (body 0)) (λ all. gives (function_of line name found all))
        (bodies_reader ends place_ends known depth 0 body (body_reader ends place_ends known depth.expressions
        depth.bodies)) (λ all. gives_reader 1 depth (function_of line name found all) Anything))

    abbrev after_name : ℕ → Text → Reader Function
    after_name line name = mark (Of word.OpenParenthesis) >> (parameters >>= after_parameters line name)

    after_name_reader : (line : ℕ) (name : Text)
        → IsPartReader 1 (JoinedAt (MarkAt (Of word.OpenParenthesis))
        (λ _. JoinedAt ParametersAt (λ found. JoinedAt (MarkAt (Of word.OpenBrace))
        (λ _. JoinedAt (BodiesAt 0) (λ all. GivesAt (function_of line name found all)))))) Anything depth
        (after_name line name)
    after_name_reader line name =
        let rest : List Text
        → Rules Depth Function = λ found. JoinedAt (MarkAt (Of word.OpenBrace))
        (λ _. JoinedAt (BodiesAt 0) (λ all. GivesAt (function_of line name found all))) in
        mark_then 1 depth (Of word.OpenParenthesis) (kind.Word word.OpenParenthesis) refl
        (λ _. JoinedAt ParametersAt rest) Anything
        (λ _. parameters >>= after_parameters line name)
        (λ _. then_reader 1 depth ParametersAt rest Anything parameters (after_parameters line name)
        (parameters_reader depth) (after_parameters_reader line name))

    pub function_answers : (ts : List Token) → is (Of word.Function) (head ts) ≡ true
        → Answers Deeper FunctionRule Anything depth ts (function_rule depth ts)
    unfolding function_rule
    function_answers ts here =
        keyword_nests (Of word.Function) (kind.Word word.Function) refl FunctionRestAt Anything depth
        (λ line. kind name_in >>= after_name line) ts refl here
        (λ line. then_reader 1 depth (OneAt (by_kind name_in))
        (λ name. JoinedAt (MarkAt (Of word.OpenParenthesis))
        (λ _. JoinedAt ParametersAt (λ found. JoinedAt (MarkAt (Of word.OpenBrace))
        (λ _. JoinedAt (BodiesAt 0) (λ all. GivesAt (function_of line name found all)))))) Anything (kind name_in)
        (after_name line)
        (kind_reader 1 depth name_in (kind.Name (97 ∷ [])) (97 ∷ []) refl) (after_name_reader line))

  function_starts : StartsIn FunctionRule (is (Of word.Function))
  function_starts =
      nests_starts (λ m. m.bodies) _ (is (Of word.Function)) (joined_starts (MarkAt (Of word.Function)) _
      (is (Of word.Function)) (mark_starts (Of word.Function)))

  -- ---- files

  abbrev FunctionOf : Parts → Rules Depth Parts
  FunctionOf parts = MadeAt FunctionRule (with_function parts)

  abbrev StatementOf : Parts → Rules Depth Parts
  StatementOf parts = MadeAt (LineAt 0) (with_statement parts)

  abbrev ConstantsOf : Parts → Rules Depth Parts
  ConstantsOf parts = MadeAt ConstantsLineAt (with_statement parts)

  -- a part that is no function
  abbrev OtherPart : Parts → Rules Depth Parts
  OtherPart parts = EitherAt (ConstantsOf parts) (StatementOf parts)

  abbrev PartAt : Parts → Rules Depth Parts
  PartAt parts = EitherAt (FunctionOf parts) (OtherPart parts)

  abbrev EndAt : Parts → Rules Depth Parts
  EndAt parts = GivesAt parts

  abbrev between_parts : Parts → Terminal → Bool
  between_parts parts s = not (takes_else s)

  function_of_starts : (parts : Parts) → StartsIn (FunctionOf parts) (is (Of word.Function))
  function_of_starts parts = made_starts FunctionRule (with_function parts) (is (Of word.Function)) function_starts

  statement_of_starts : (parts : Parts) → StartsIn (StatementOf parts) begins_statement
  statement_of_starts parts =
      made_starts (LineAt 0) (with_statement parts) begins_statement (line_starts ends place_ends known 0)

  constants_of_starts : (parts : Parts) → StartsIn (ConstantsOf parts) (is terminal.Const)
  constants_of_starts parts =
      made_starts ConstantsLineAt (with_statement parts) (is terminal.Const) constants_line_starts

  -- a test that `function` and `const` pass, and what begins a statement
  part_begins : (parts : Parts) (test : Terminal → Bool) → test (Of word.Function) ≡ true → test terminal.Const ≡ true
      → ((s : Terminal) → begins_statement s ≡ true → test s ≡ true) → StartsIn (PartAt parts) test
  part_begins parts test functions constants statements =
      either_starts (FunctionOf parts) (OtherPart parts) test
      (starts_in_more (FunctionOf parts) (is (Of word.Function)) test (mark_passes test (Of word.Function) functions)
      (function_of_starts parts))
      (either_starts (ConstantsOf parts) (StatementOf parts) test
      (starts_in_more (ConstantsOf parts) (is terminal.Const) test (mark_passes test terminal.Const constants)
      (constants_of_starts parts))
      (starts_in_more (StatementOf parts) begins_statement test statements (statement_of_starts parts)))

  part_starts : (parts : Parts) → StartsIn (PartAt parts) (between_parts parts)
  part_starts parts = part_begins parts (between_parts parts) refl refl (λ s e. ap not (statement_no_else s e))

  part_no_end : (parts : Parts) → StartsIn (PartAt parts) (λ s. not (is terminal.End s))
  part_no_end parts = part_begins parts (λ s. not (is terminal.End s)) refl refl
      (λ s e. ap not (mark_apart begins_statement terminal.End refl s e))

  no_const : (parts : Parts) → Apart (StatementOf parts) between_parts (is terminal.Const)
  no_const parts =
      starts_apart (StatementOf parts) between_parts (is terminal.Const) begins_statement
      (mark_apart begins_statement terminal.Const refl) (statement_of_starts parts)

  no_function : (parts : Parts) → Apart (OtherPart parts) between_parts (is (Of word.Function))
  no_function parts =
      either_apart (ConstantsOf parts) (StatementOf parts) between_parts (is (Of word.Function))
      (starts_apart (ConstantsOf parts) between_parts (is (Of word.Function)) (is terminal.Const)
      (mark_fails (is (Of word.Function)) terminal.Const refl) (constants_of_starts parts))
      (starts_apart (StatementOf parts) between_parts (is (Of word.Function)) begins_statement
      (mark_apart begins_statement (Of word.Function) refl) (statement_of_starts parts))

  end_follows : Follows between_parts EndAt end_stop
  end_follows =
      gives_follow (λ parts. parts) between_parts end_stop (λ parts s e. mark_passes
      (between_parts parts) terminal.End refl s e)

  -- one choice by a test turned round
  turned : {A : Type 0} (b : Bool) (x y : A) → cond (not b) x y ≡ cond b y x
  turned true x y = refl
  turned false x y = refl

  module _ (depth : Depth) where
    abbrev read_function : Parts → Reader Parts
    read_function parts = made (function_rule depth) (with_function parts)

    abbrev read_statement : Parts → Reader Parts
    read_statement parts = made (statement depth.expressions depth.bodies 0) (with_statement parts)

    abbrev read_constants : Parts → Reader Parts
    read_constants parts =
        made (on_its_line (constants_rule (reading depth.expressions part.Whole))) (with_statement parts)

    function_part : (parts : Parts) (ts : List Token) → is (Of word.Function) (head ts) ≡ true
        → Answers Deeper (PartAt parts) between_parts depth ts (read_function parts ts)
    function_part parts ts here =
        by_first Deeper same_depth (FunctionOf parts) (OtherPart parts) (is (Of word.Function)) between_parts depth ts
        (function_of_starts parts) (no_function parts) here (read_function parts ts)
        (made_answers Deeper same_depth FunctionRule (with_function parts) Anything between_parts depth ts
        (λ f s e. refl) (function_rule depth ts) (function_answers depth ts here))

    other_part : (parts : Parts) (ts : List Token) → is (Of word.Function) (head ts) ≡ false → (o : Outcome Parts)
        → Answers Deeper (OtherPart parts) between_parts depth ts o
        → Answers Deeper (PartAt parts) between_parts depth ts o
    other_part parts ts none =
        by_second Deeper same_depth (FunctionOf parts) (OtherPart parts) (is (Of word.Function)) between_parts depth ts
        (function_of_starts parts) (no_function parts) none

    constants_part : (parts : Parts) (ts : List Token) → is terminal.Const (head ts) ≡ true
        → Answers Deeper (OtherPart parts) between_parts depth ts (read_constants parts ts)
    constants_part parts ts here =
        by_first Deeper same_depth (ConstantsOf parts) (StatementOf parts) (is terminal.Const) between_parts depth ts
        (constants_of_starts parts) (no_const parts) here (read_constants parts ts)
        (made_answers Deeper same_depth ConstantsLineAt (with_statement parts) Anything between_parts depth ts
        (λ b s e. refl) (on_its_line (constants_rule (reading depth.expressions part.Whole)) ts)
        (constants_answers ends place_ends known depth ts))

    statement_part : (parts : Parts) (ts : List Token) → is terminal.Const (head ts) ≡ false
        → Answers Deeper (OtherPart parts) between_parts depth ts (read_statement parts ts)
    statement_part parts ts none =
        by_second Deeper same_depth (ConstantsOf parts) (StatementOf parts) (is terminal.Const) between_parts depth ts
        (constants_of_starts parts) (no_const parts) none (read_statement parts ts)
        (made_answers Deeper same_depth (LineAt 0) (with_statement parts) body_stop between_parts depth ts
        (λ b s e. open_ends_other b.is_open s (not_true (takes_else s) e))
        (statement depth.expressions depth.bodies 0 ts)
        (statement_answers ends place_ends known depth 0 ts))

    abbrev next_part : Parts → Reader (ControlFlow Parts Parts)
    next_part parts ts =
        cond (is (Of word.Function) (head ts)) (made (read_function parts) Continue ts)
        (cond (is terminal.Const (head ts)) (made (read_constants parts) Continue ts)
        (made (read_statement parts) Continue ts))

    next_part_answers : (parts : Parts) (ts : List Token)
        → Answers Deeper (MadeAt (PartAt parts) Continue) (step_stop between_parts end_stop) depth ts
        (next_part parts ts)
    next_part_answers parts ts = go (is (Of word.Function) (head ts)) (is terminal.Const (head ts)) refl refl
      where
        continued : (o : Outcome Parts) → Answers Deeper (PartAt parts) between_parts depth ts o
            → Answers {A = ControlFlow Parts Parts} Deeper (MadeAt (PartAt parts) Continue)
            (step_stop between_parts end_stop) depth ts (and_then o (λ p. gives (Continue p)))
        continued o reads =
            made_answers Deeper same_depth (PartAt parts) Continue between_parts
            (step_stop between_parts end_stop) depth ts (λ x s e. e) o reads

        go : (f c : Bool) → is (Of word.Function) (head ts) ≡ f → is terminal.Const (head ts) ≡ c
            → Answers {A = ControlFlow Parts Parts} Deeper (MadeAt (PartAt parts) Continue)
            (step_stop between_parts end_stop) depth ts
            (cond f (made (read_function parts) Continue ts)
            (cond c (made (read_constants parts) Continue ts) (made (read_statement parts) Continue ts)))
        go true c here other = continued (read_function parts ts) (function_part parts ts here)
        go false true none here =
            continued (read_constants parts ts)
            (other_part parts ts none (read_constants parts ts) (constants_part parts ts here))
        go false false none other =
            continued (read_statement parts ts)
            (other_part parts ts none (read_statement parts ts) (statement_part parts ts other))

    file_steps : (parts : Parts) (ts : List Token)
        → Answers Deeper (StepAt PartAt EndAt parts) (step_stop between_parts end_stop) depth ts
        (file_step depth parts ts)
    file_steps parts ts =
        subst (λ o. Answers Deeper (StepAt PartAt EndAt parts) (step_stop between_parts end_stop) depth ts o)
        (turned (is terminal.End (head ts)) (next_part parts ts) (Ok (Break parts, ts)))
        (either_answers_back Deeper same_depth (MadeAt (PartAt parts) Continue) (MadeAt (EndAt parts) Break)
        (λ s. not (is terminal.End s)) (step_stop between_parts end_stop) depth ts
        (made_starts (PartAt parts) Continue (λ s. not (is terminal.End s)) (part_no_end parts)) end_apart
        (next_part parts ts) (Ok (Break parts, ts)) (λ _. next_part_answers parts ts)
        (λ _. made_answers Deeper same_depth (EndAt parts) Break end_stop (step_stop between_parts end_stop) depth ts
        (λ x s e. e) (Ok (parts, ts)) (gives_answers Deeper same_depth parts end_stop depth ts)))
      where
        end_apart : Apart (MadeAt (EndAt parts) Break) (step_stop between_parts end_stop) (λ s. not (is terminal.End s))
        end_apart =
            made_apart (EndAt parts) Break end_stop (step_stop between_parts end_stop) (λ s. not (is terminal.End s))
            (λ x s e. e) (gives_apart parts end_stop (λ s. not (is terminal.End s)) (λ s e. ap not e))

    pub file_answers : (ts : List Token) → Answers Deeper Spells end_stop depth ts (file depth ts)
    unfolding file
    file_answers =
        closed_answers Deeper same_depth PartAt EndAt between_parts end_stop depth part_starts end_follows
        (λ m above parts. ([], parts, record { empty = refl; same = refl })) (file_step depth) file_steps no_parts

-- no tokens are a file
pub no_file : (depth : Depth) → Spells depth [] no_parts
no_file depth = record { count = 0; chain = record { empty = refl; same = refl } }

-- what was read of a file is all of it
file_ends : (depth : Depth) (count : ℕ) (parts : Parts) (ts : List Token) (x : Parts × List Token)
    → until (file_step depth) count parts ts ≡ Ok x → x.1 ≡ []
unfolding until
file_ends depth zero parts ts x found = absurd (cc)
file_ends depth (suc count) parts ts x found =
    step (λ next us. file_ends depth count next us x) (is terminal.End (head ts)) refl found
  where
    function : ((next : Parts) (us : List Token) → until (file_step depth) count next us ≡ Ok x → x.1 ≡ [])
        → (o : Outcome Function)
        → and_then (and_then (and_then o (λ f. gives (with_function parts f))) (λ p. gives (Continue p)))
        (next_of (until (file_step depth) count)) ≡ Ok x → x.1 ≡ []
    function again (Ok p) found = again (with_function parts p.0) p.1 found
    function again (Err r) found = absurd (cc)

    statements : ((next : Parts) (us : List Token) → until (file_step depth) count next us ≡ Ok x → x.1 ≡ [])
        → (o : Outcome Body)
        → and_then (and_then (and_then o (λ b. gives (with_statement parts b))) (λ p. gives (Continue p)))
        (next_of (until (file_step depth) count)) ≡ Ok x → x.1 ≡ []
    statements again (Ok p) found = again (with_statement parts p.0) p.1 found
    statements again (Err r) found = absurd (cc)

    step : ((next : Parts) (us : List Token) → until (file_step depth) count next us ≡ Ok x → x.1 ≡ []) → (b : Bool)
        → is terminal.End (head ts) ≡ b
        → and_then (cond b (Ok (Break parts, ts)) (cond (is (Of word.Function) (head ts))
        (made (made (function_rule depth) (with_function parts)) Continue ts)
        (cond (is terminal.Const (head ts))
        (made (made (on_its_line (constants_rule (reading depth.expressions part.Whole))) (with_statement parts))
        Continue ts)
        (made (made (statement depth.expressions depth.bodies 0) (with_statement parts)) Continue ts))))
        (next_of (until (file_step depth) count)) ≡ Ok x → x.1 ≡ []
    step again true end found =
        let v : Parts × List Token = (parts, ts) in let same : v ≡ x = cc in ap (λ p. p.1) (sym same)
        ∙ ends_empty ts end
    step again false end found = go (is (Of word.Function) (head ts)) (is terminal.Const (head ts)) found
      where
        go : (f c : Bool) → and_then (cond f (made (made (function_rule depth) (with_function parts)) Continue ts)
            (cond c (made (made (on_its_line (constants_rule (reading depth.expressions part.Whole)))
            (with_statement parts)) Continue ts)
            (made (made (statement depth.expressions depth.bodies 0) (with_statement parts)) Continue ts)))
            (next_of (until (file_step depth) count)) ≡ Ok x → x.1 ≡ []
        go true c found = function again (function_rule depth ts) found
        go false true found =
            statements again (on_its_line (constants_rule (reading depth.expressions part.Whole)) ts) found
        go false false found = statements again (statement depth.expressions depth.bodies 0 ts) found

pub file_leaves_none : (depth : Depth) (ts : List Token) (parts : Parts) (r : List Token)
    → file depth ts ≡ Ok (parts, r) → r ≡ []
unfolding file
file_leaves_none depth ts parts r found = file_ends depth (suc (length ts)) no_parts ts (parts, r) found

-- ---- an expression by itself

abbrev pub TextAt : Rules ℕ Expression
TextAt level = SpellsExpression level

abbrev AfterText : Expression → Rules ℕ Expression
AfterText e = λ _. Made (Perhaps (Mark (Of word.Semicolon))) (λ _. e)

-- nothing but the end
at_end_answers : (level : ℕ) (e : Expression) (ts : List Token)
    → Answers ◌≤◌ (GivesAt e) end_stop level ts (at_end e ts)
unfolding at_end refuse
at_end_answers level e ts = go (is terminal.End (head ts)) refl
  where
    go : (b : Bool) → is terminal.End (head ts) ≡ b
        → Answers ◌≤◌ (GivesAt e) end_stop level ts (cond b (Ok (e, ts)) (Err (Unexpected (length ts))))
    go true here = gives_answers ◌≤◌ level_self e end_stop level ts
    go false none = refused_here ◌≤◌ level_self (GivesAt e) end_stop level ts (λ m us same a q begins.
        let end : is terminal.End (head us) ≡ true = ap (λ l. is terminal.End (head l))
        (begins.split ∙ ap (λ l. l ++ q) begins.spelled.empty) ∙ begins.stops in
        let other : is terminal.End (head us) ≡ false = ap (is terminal.End) same ∙ none in
        absurd (cc))

abbrev MarkedText : Expression → Rules ℕ Expression
MarkedText e = JoinedAt (MadeAt (MarkAt (Of word.Semicolon)) (λ _. e)) (λ a. GivesAt a)

abbrev FactoredText : Expression → Rules ℕ Expression
FactoredText e = EitherAt (MarkedText e) (GivesAt e)

to_text : (e : Expression) (m : ℕ) (text : List Token) (a : Expression) → FactoredText e m text a → AfterText e m text a
to_text e m text a (inl j) =
    let g = given (Mark (Of word.Semicolon)) (λ _. e) j.front j.value j.one in
    let same : text ≡ j.front = j.split ∙ ap (λ l. j.front ++ l) j.other.empty ∙ append-nil j.front in
    let value : e ≡ a = sym (j.other.same ∙ g.2) in
    let mark : Mark (Of word.Semicolon) text g.0 = subst (λ l. Mark (Of word.Semicolon) l g.0) (sym same) g.1 in
    subst (λ x. AfterText e m text x) value (give (Perhaps (Mark (Of word.Semicolon))) (λ _. e) text (Some g.0)
    (inl (give (Mark (Of word.Semicolon)) Some text g.0 mark)))
to_text e m text a (inr g) =
    subst (λ x. AfterText e m text x) (sym g.same) (give (Perhaps (Mark (Of word.Semicolon))) (λ _. e) text None
    (inr (record { empty = g.empty; same = refl })))

from_text : (e : Expression) (m : ℕ) (text : List Token) (a : Expression) → AfterText e m text a
    → FactoredText e m text a
from_text e m text a h =
    let g = given (Perhaps (Mark (Of word.Semicolon))) (λ _. e) text a h in subst (λ x. FactoredText e m text x)
    (sym g.2) (go g.0 g.1)
  where
    go : (o : Option ℕ) → Perhaps (Mark (Of word.Semicolon)) text o → FactoredText e m text e
    go o (inl h) =
        let k = given (Mark (Of word.Semicolon)) Some text o h in
        inl (record {
          front = text;
          back = [];
          value = e;
          split = sym (append-nil text);
          one = give
              (Mark (Of word.Semicolon)) (λ _. e) text k.0 k.1;
          other = record { empty = refl; same = refl };
        })
    go o (inr g) = inr (record { empty = g.empty; same = refl })

semicolon_answers : (level : ℕ) (e : Expression) (ts : List Token)
    → Answers ◌≤◌ (AfterText e) end_stop level ts (semicolon e ts)
unfolding semicolon
semicolon_answers level e ts =
    equal_answers ◌≤◌ level_self (FactoredText e) (AfterText e) end_stop level ts (to_text e) (from_text e)
    (cond (is (Of word.Semicolon) (head ts)) ((made (mark (Of word.Semicolon)) (λ _. e) >>= at_end) ts) (at_end e ts))
    (either_answers ◌≤◌ level_self (MarkedText e) (GivesAt e) (is (Of word.Semicolon)) end_stop level ts
    (joined_starts (MadeAt (MarkAt (Of word.Semicolon)) (λ _. e)) (λ a. GivesAt a) (is (Of word.Semicolon))
    (made_starts (MarkAt (Of word.Semicolon)) (λ _. e) (is (Of word.Semicolon)) (mark_starts (Of word.Semicolon))))
    (gives_apart e end_stop (is (Of word.Semicolon)) (mark_fails (is (Of word.Semicolon)) terminal.End refl))
    ((made (mark (Of word.Semicolon)) (λ _. e) >>= at_end) ts) (at_end e ts)
    (λ _. joined_answers ◌≤◌ level_self (MadeAt (MarkAt (Of word.Semicolon)) (λ _. e))
    (λ a. GivesAt a) Anything end_stop level ts (λ m a us b r h stops. refl)
    (made (mark (Of word.Semicolon)) (λ _. e) ts) at_end
    (λ m above a. ([], a, record { empty = refl; same = refl }))
    (made_answers ◌≤◌ level_self (MarkAt (Of word.Semicolon)) (λ _. e) Anything Anything level ts (λ a s h. refl)
    (mark (Of word.Semicolon) ts) (mark_answers ◌≤◌ level_self (Of word.Semicolon) Anything level ts))
    (λ a r _. at_end_answers level a r))
    (λ _. at_end_answers level e ts))

module _ (ends place_ends : Terminal → Bool) (known : AreRead ends place_ends) where
  after_follows : Follows (λ (a : Expression) (s : Terminal). ends s) AfterText end_stop
  after_follows m e text a r h here = go (from_text e m text a h)
    where
      go : FactoredText e m text a → ends (head (text ++ r)) ≡ true
      go (inl j) = mark_passes ends (Of word.Semicolon) (known.stops (Of word.Semicolon) refl) (head (text ++ r))
          (begun (MarkedText e) (is (Of word.Semicolon)) (joined_starts (MadeAt (MarkAt (Of word.Semicolon)) (λ _. e))
          (λ a. GivesAt a) (is (Of word.Semicolon)) (made_starts (MarkAt (Of word.Semicolon)) (λ _. e)
          (is (Of word.Semicolon)) (mark_starts (Of word.Semicolon)))) m text r a j)
      go (inr g) =
          ap (λ l. ends (head (l ++ r))) g.empty
          ∙ mark_passes ends terminal.End (known.stops terminal.End refl) (head r) here

  pub expression_text_answers : (level : ℕ) (ts : List Token)
      → Answers ◌≤◌ TextAt end_stop level ts (expression_text level ts)
  unfolding expression_text
  expression_text_answers level ts =
      joined_answers ◌≤◌ level_self IsExpression AfterText (λ (a : Expression) (s : Terminal). ends s) end_stop level ts
      after_follows (reading level part.Whole ts) semicolon
      (λ m above e. ([], e, from_none e m)) (known.reads level ts) (λ e r _. semicolon_answers level e r)
    where
      from_none : (e : Expression) (m : ℕ) → AfterText e m [] e
      from_none e m = to_text e m [] e (inr (record { empty = refl; same = refl }))

  pub some_text : (level : ℕ) → (ts : List Token) × (e : Expression) × TextAt level ts e
  some_text level =
      let g = known.least level in (
        g.0,
        g.1,
        record {
          front = g.0;
          back = [];
          value = g.1;
          split = sym
              (append-nil g.0);
          one = g.2;
          other = to_text g.1 level [] g.1 (inr (record { empty = refl; same = refl }));
        },
      )

-- what was read is all there is
pub text_leaves_none : (level : ℕ) (ts : List Token) (e : Expression) (r : List Token)
    → expression_text level ts ≡ Ok (e, r) → r ≡ []
unfolding expression_text semicolon at_end refuse
text_leaves_none level ts e r found = whole (reading level part.Whole ts) found
  where
    ended : (b : Bool) (a : Expression) (us : List Token) → is terminal.End (head us) ≡ b
        → cond {A = Outcome Expression} b (Ok (a, us)) (Err (Unexpected (length us))) ≡ Ok (e, r) → r ≡ []
    ended true a us end found =
        let v : Expression × List Token = (a, us) in let w : Expression
        × List Token = (e, r) in let same : v ≡ w = cc in ap (λ p. p.1) (sym same) ∙ ends_empty us end
    ended false a us end found = absurd (cc)

    marked : (a : Expression) (o : Outcome ℕ) → and_then (and_then o (λ _. gives a)) at_end ≡ Ok (e, r) → r ≡ []
    marked a (Ok p) found = ended (is terminal.End (head p.1)) a p.1 refl found
    marked a (Err x) found = absurd (cc)

    behind : (b : Bool) (a : Expression) (us : List Token)
        → cond b ((made (mark (Of word.Semicolon)) (λ _. a) >>= at_end) us) (at_end a us) ≡ Ok (e, r) → r ≡ []
    behind true a us found = marked a (mark (Of word.Semicolon) us) found
    behind false a us found = ended (is terminal.End (head us)) a us refl found

    whole : (o : Outcome Expression) → and_then o semicolon ≡ Ok (e, r) → r ≡ []
    whole (Ok p) found = behind (is (Of word.Semicolon) (head p.1)) p.0 p.1 found
    whole (Err x) found = absurd (cc)
