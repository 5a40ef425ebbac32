-- What is accepted of requests.
use Rattle.std.proofs.Common.{◌≡◌, ◌≢◌, ℕ, ◌<◌, ◌≤◌, ◌==◌, Bool, true, false, cond, not, ◌&&◌, ◌||◌, List, length, Option, Some, None, refl, sym, ap, ◌∙◌, arith}
use Rattle.std.specs.Prelude.{is_none, is_some, nat_le, nat_lt, option_and_then, slice_get, Ok, Err, IfOk, IfErr, IfSome, Result}
use Rattle.std.specs.Option.{option_map_or, option_or}
use Rattle.std.proofs.lemmas.Bool.{le-leb, leb-true, ltb-false, or_parts, true≢false}
use Rattle.std.proofs.lemmas.Bool.Decides.{nat_tests}
use Rattle.dp_tree.specs.declared.bundle.Bundle.{Bundle}
use Rattle.dp_parse.specs.declared.errors.ParseError.{ParseError}
use Rattle.dp_parse.specs.declared.errors.ParseError.TheVariants as parse_error
use Rattle.dp_parse.specs.ExpressionIn.{expression_in}
use Rattle.dp_tree.specs.declared.tree.Expression.{Expression}
use Rattle.dp_tree.specs.Purity.{is_pure}
use Rattle.dp_lexer.specs.Pieces.{longest_name}
use Rattle.dp_break.specs.declared.breakpoint.BreakRequest.{BreakRequest}
use Rattle.dp_break.specs.Changes.{IsRequest, new_breakpoint}
use Rattle.dp_break.specs.Conditions.{condition_of, expression_limit, has_no_tree, if_pure, is_too_long, tree_of}
use Rattle.dp_break.specs.declared.errors.BreakError.{BreakError}
use Rattle.dp_break.specs.declared.errors.BreakError.TheVariants as error
use Rattle.dp_break.specs.Hits.{is_of_function}
use Rattle.dp_packet.specs.Messages.{code_in}
use Rattle.dp_break.specs.Lines.{given_line, line_kept, requested_line}
use Rattle.dp_break.specs.Refusals.{cannot_be_held, code_if, place_kept, place_refusal, plain_refusal}
use Rattle.dp_break.specs.Tables.{IsSound, Table, breakpoint_limit, has_parts, last_id}
use Rattle.dp_break.specs.inner.Causes.{IsNoTree, error_of, pure_or_refused}
use Rattle.dp_packet.specs.declared.error_codes.ErrorCode.{ErrorCode}
use Rattle.dp_packet.specs.declared.error_codes.ErrorCode.TheVariants.{BreakpointNotSet, InvalidBreakpointLine, InvalidExpression}
use Rattle.dp_packet.specs.declared.packet.BreakKind.{BreakKind}
use Rattle.dp_packet.specs.declared.packet.BreakKind.TheVariants.{Line, Call, Return, Conditional}
use Rattle.dp_tree.specs.declared.bundle.BundleFile.{BundleFile}

-- ---- expressions

short_enough : (n : ℕ) → n ≤ expression_limit → nat_lt expression_limit n ≡ false
short_enough n le = grind (arith, nat_tests)

too_many : (n : ℕ) → expression_limit < n → nat_le n expression_limit ≡ false
too_many n lt = grind (arith, nat_tests)

pub too_long : (text : List ℕ) → 4096 < length text → IsNoTree (Some text) (error.Code InvalidExpression)
unfolding condition_of
too_long text long =
    (refl, ap (λ b. is_none (cond b (option_and_then if_pure (expression_in text)) None)) (too_many (length text) long))

module _ (text : List ℕ) (short : length text ≤ expression_limit) where
  condition_is : condition_of text ≡ option_and_then if_pure (expression_in text)
  unfolding condition_of
  condition_is =
      ap (λ b. cond b (option_and_then if_pure (expression_in text)) None) (le-leb (length text) expression_limit short)

  pub pure_found : (e : Expression) → expression_in text ≡ Some e
      → IfOk (pure_or_refused e) (λ found. condition_of text ≡ Some found)
  pure_found e is = cases (is_pure e) (condition_is ∙ ap (option_and_then if_pure) is) where
    cases : (p : Bool) → condition_of text ≡ cond p (Some e) None
        → IfOk (cond p (Ok e) (Err (error.Code InvalidExpression))) (λ found. condition_of text ≡ Some found)
    cases true h = h
    cases false h = tt

  pub pure_refused : (e : Expression) → expression_in text ≡ Some e → IfErr (pure_or_refused e) (IsNoTree (Some text))
  pure_refused e is = cases (is_pure e) (condition_is ∙ ap (option_and_then if_pure) is) where
    cases : (p : Bool) → condition_of text ≡ cond p (Some e) None
        → IfErr {T = Expression} (cond p (Ok e) (Err (error.Code InvalidExpression))) (IsNoTree (Some text))
    cases true h = tt
    cases false h = (refl, ap is_none h)

  no_text : expression_in text ≡ None → IsNoTree (Some text) (error.Code InvalidExpression)
  no_text is = (refl, ap is_none (condition_is ∙ ap (option_and_then if_pure) is))

  no_memory : IsNoTree (Some text) error.Memory
  no_memory = short_enough (length text) short

  pub why_none : (why : ParseError) → (why ≢ parse_error.Memory → expression_in text ≡ None)
      → IsNoTree (Some text) (error_of why)
  why_none parse_error.Memory told = no_memory
  why_none (parse_error.Lex lex) told = no_text (told (λ e. cc))
  why_none (parse_error.Unexpected token) told = no_text (told (λ e. cc))
  why_none (parse_error.TooDeep token) told = no_text (told (λ e. cc))
  why_none (parse_error.DoubleFunction name) told = no_text (told (λ e. cc))

-- what has a tree is short enough
long_has_none : (text : List ℕ) → nat_le (length text) expression_limit ≡ false → is_none (condition_of text) ≡ true
unfolding condition_of
long_has_none text long = ap (λ b. is_none (cond b (option_and_then if_pure (expression_in text)) None)) long

pub formed_short : (expression : Option (List ℕ)) → has_no_tree expression ≡ false → is_too_long expression ≡ false
formed_short None formed = refl
formed_short (Some text) formed = cases (nat_le (length text) expression_limit) refl where
  cases : (b : Bool) → nat_le (length text) expression_limit ≡ b → nat_lt expression_limit (length text) ≡ false
  cases true is = short_enough (length text) (leb-true (length text) expression_limit is)
  cases false is = absurd (true≢false (sym (long_has_none text is) ∙ formed))

-- a tree that is held changes nothing
condition_pure : (text : List ℕ) (e : Expression) → condition_of text ≡ Some e → is_pure e ≡ true
unfolding condition_of
condition_pure text e h = by (nat_le (length text) expression_limit) (expression_in text) h where
  one : (x : Expression) (p : Bool) → is_pure x ≡ p → cond p (Some x) None ≡ Some e → is_pure e ≡ true
  one x true is g = let same : x ≡ e = cc in ap is_pure (sym same) ∙ is
  one x false is g = absurd cc

  by : (short : Bool) (o : Option Expression) → cond short (option_and_then if_pure o) None ≡ Some e → is_pure e ≡ true
  by false o g = absurd cc
  by true None g = absurd cc
  by true (Some x) g = one x (is_pure x) refl g

pub pure_held : (expression : Option (List ℕ)) (e : Expression) → tree_of expression ≡ Some e → is_pure e ≡ true
pure_held None e h = absurd cc
pure_held (Some text) e h = condition_pure text e h

-- ---- requests

-- which parts it has does not turn on which line it has
parts_of : (kind : BreakKind) (line other : Option ℕ) (function expression : Option (List ℕ))
    → is_some line ≡ is_some other
    → has_parts kind line function expression ≡ has_parts kind other function expression
parts_of Line line other function expression same = same
parts_of Call line other function expression same = ap (λ (b : Bool). is_some function && not b) same
parts_of Return line other function expression same = ap (λ (b : Bool). is_some function && not b) same
parts_of Conditional line other function expression same = refl

given_some : (kept : Result ℕ ErrorCode) (line : Option ℕ) → given_line kept ≡ Ok line → is_some line ≡ true
given_some (Ok n) line e = let same : line ≡ Some n = cc in ap is_some same
given_some (Err code) line e = absurd cc

-- a line is kept exactly where one is asked for
kept_some : (resolve : Bool) (bundle : Bundle) (file : ℕ) (asked line : Option ℕ)
    → requested_line resolve bundle (Some file) asked ≡ Ok line → is_some line ≡ is_some asked
kept_some resolve bundle file None line e = let same : line ≡ None = cc in ap is_some same
kept_some resolve bundle file (Some n) line e = cases (slice_get bundle.files file) e where
  cases : (found : Option BundleFile)
      → option_map_or (λ (f : BundleFile). given_line (line_kept resolve f.tree n)) found (Err InvalidBreakpointLine)
      ≡ Ok line
      → is_some line ≡ true
  cases None f = absurd cc
  cases (Some f) g = given_some (line_kept resolve f.tree n) line g

module _ (resolve : Bool) (bundle : Bundle) (t : Table) (r : BreakRequest) where
  -- a place that is kept can be held, and its line is that of the request
  abbrev IsKept : Option ℕ → Type 0
  IsKept line = (cannot_be_held t r ≡ false) × (requested_line resolve bundle (Some r.file) r.line ≡ Ok line)

  can_be_held : (line : Option ℕ) → place_kept resolve bundle t r ≡ Ok line → IsKept line
  can_be_held line e = cases (cannot_be_held t r) e where
    cases : (c : Bool)
        → cond c (Err BreakpointNotSet) (requested_line resolve bundle (Some r.file) r.line) ≡ Ok line
        → (c ≡ false) × (requested_line resolve bundle (Some r.file) r.line ≡ Ok line)
    cases true f = absurd cc
    cases false f = (refl, f)

  name_short : (name : Option (List ℕ)) → option_map_or (λ n. nat_lt longest_name (length n)) name false ≡ false
      → option_map_or (λ n. nat_le (length n) longest_name) name true ≡ true
  name_short None e = refl
  name_short (Some name) e = le-leb (length name) longest_name (ltb-false longest_name (length name) e)

  has_file : (anyfile of_function : Bool) → (anyfile ≡ true → of_function ≡ true)
      → (of_function || is_some (cond anyfile None (Some r.file))) ≡ true
  has_file true of_function any = ap (λ (t : Bool). t || false) (any refl)
  has_file false true any = refl
  has_file false false any = refl

  pub sound_request : (tree : Option Expression) (line : Option ℕ) → IsRequest bundle r
      → place_kept resolve bundle t r ≡ Ok line
      → tree ≡ tree_of r.expression → has_no_tree r.expression ≡ false
      → IsSound (new_breakpoint t.next tree line resolve r)
  sound_request tree line request accepted is_tree formed =
      let kept = can_be_held line accepted in
      let free = or_parts (nat_le breakpoint_limit (length t.held) || t.next == last_id)
      (option_map_or (λ n. nat_lt longest_name (length n)) r.function false) kept.0 in record {
        parts =
            parts_of r.kind line r.line r.function r.expression
            (kept_some resolve bundle r.file r.line line kept.1) ∙ request.parts;
        placed = has_file r.anyfile (is_of_function r.kind) request.anyfile;
        named = name_short r.function free.1;
        tree = is_tree;
        formed = formed;
      }

  -- where no refusal is plain, nothing is sure
  not_plain : {A : Type 0} (result : Result A BreakError) → place_refusal resolve bundle t r ≡ None
      → is_too_long r.expression ≡ false
      → IfSome (plain_refusal resolve bundle t r) (λ code. result ≡ Err (error.Code code))
  not_plain result place short =
      let none : plain_refusal resolve bundle t r ≡ None =
      (λ i. option_or (place i) (code_if (short i) InvalidExpression)) in
      rw none tt

  pub sure_formed : {A : Type 0} (result : Result A BreakError) (line : Option ℕ)
      → place_kept resolve bundle t r ≡ Ok line
      → has_no_tree r.expression ≡ false
      → IfSome (plain_refusal resolve bundle t r) (λ code. result ≡ Err (error.Code code))
  sure_formed result line place formed = not_plain result (ap code_in place) (formed_short r.expression formed)
