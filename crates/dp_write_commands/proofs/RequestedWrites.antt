-- The write that a command asks for, found part by part, and what the command is answered.
use Rattle.std.proofs.Common.{◌≡◌, ◌≢◌, ℕ, ◌≤◌, ◌<◌, Bool, false, cond, List, length, nat_le, Option, Some, None, refl, sym, ap, subst, ◌∙◌, arith}
use Rattle.std.specs.Prelude.{ok_or, option_map, Result, Ok, Err, IsOk, IfSome}
use Rattle.std.proofs.lemmas.Bool.{le-leb}
use Rattle.std.proofs.lemmas.Bool.Decides.{nat_tests}
use Rattle.dp_command.specs.declared.command.PropertySet.{PropertySet}
use Rattle.dp_command.specs.declared.command.WriteRequest.{WriteRequest}
use Rattle.dp_command.specs.declared.command.WriteRequest.TheVariants as request
use Rattle.dp_features.specs.Features.{Features}
use Rattle.dp_meaning.specs.declared.writes.Write.{Write}
use Rattle.dp_meaning.specs.declared.writes.Write.TheVariants as write
use Rattle.dp_packet.specs.declared.error_codes.ErrorCode.{ErrorCode}
use Rattle.dp_packet.specs.declared.error_codes.ErrorCode.TheVariants.{InvalidOptions, ErrorEvaluatingCode}
use Rattle.dp_packet.specs.declared.packet.Response.{Response}
use Rattle.dp_packet.specs.Parts.{Text}
use Rattle.dp_parse.specs.declared.errors.ParseError.{ParseError}
use Rattle.dp_parse.specs.declared.errors.ParseError.TheVariants as parse_error
use Rattle.dp_parse.specs.ExpressionIn.{expression_in}
use Rattle.dp_state.specs.declared.moments.Path.{Path}
use Rattle.dp_state.specs.declared.state.State.{State}
use Rattle.dp_tree.specs.declared.bundle.Bundle.{Bundle}
use Rattle.dp_tree.specs.declared.tree.Expression.{Expression}
use Rattle.dp_value.specs.declared.value.Value.{Value}
use Rattle.dp_view.specs.declared.errors.ViewError.{ViewError}
use Rattle.dp_view.specs.declared.errors.ViewError.TheVariants.{Code, Memory}
use Rattle.dp_view.specs.Answers.{AnswersAfter, and_then}
use Rattle.dp_view.specs.Named.{named_path}
use Rattle.dp_wire.specs.Frames.{command_limit}
use Rattle.dp_write_commands.specs.declared.commands.Written.{Written}
use Rattle.dp_write_commands.specs.Results.{Answers, refusal_at_once}
use Rattle.dp_write_commands.specs.Requests.{requested_path, requested_value, requested_write, tree_of, write_at}
use Rattle.dp_write_commands.specs.Responses.{code_in, responding, write_response}
use Rattle.dp_write_commands.specs.inner.Writes.{Finds, IsTree, Makes, error_of, with_write}

-- ---- one part after another

-- what is found of what comes first
pub found_after : {A B : Type 0} (f : A → Result B ErrorCode) (first : Result A ErrorCode) (a : A)
    (result : Result B ViewError)
    → first ≡ Ok a → Finds result (f a)
    → AnswersAfter (λ b. b) result first (and_then f first)
found_after f first a (Ok b) e h = ap (and_then f) e ∙ h
found_after f first a (Err (Code code)) e h = ap (and_then f) e ∙ h
found_after f first a (Err Memory) e h = subst (λ r. IsOk r) (sym e) refl

pub missing_after : {A B : Type 0} (f : A → Result B ErrorCode) (first : Result A ErrorCode) (why : ViewError)
    → AnswersAfter {X = A} (λ a. a) (Err why) first first
    → AnswersAfter {X = B} (λ b. b) (Err why) first (and_then f first)
missing_after f first (Code code) h = ap (and_then f) h
missing_after f first Memory h = h

-- what comes first has no code where something was found
pub found_at_once : {A B : Type 0} (f : A → Result B ErrorCode) (first : Result A ErrorCode) (b : B)
    (P : ErrorCode → Type 0)
    → and_then f first ≡ Ok b → IfSome (code_in first) P
found_at_once f (Ok a) b P e = tt
found_at_once f (Err code) b P e = absurd cc

-- and its code is told
abbrev pub refused : ViewError → Result Written ViewError
refused why = Err why

pub reported_at_once : {A B : Type 0} (f : A → Result B ErrorCode) (first : Result A ErrorCode) (why : ViewError)
    → AnswersAfter {X = B} (λ b. b) (Err why) first (and_then f first)
    → IfSome (code_in first) (λ code. refused why ≡ Err (Code code))
reported_at_once f (Ok a) why h = tt
reported_at_once f (Err code) (Code other) h = let same : code ≡ other = cc in ap (λ k. refused (Code k)) (sym same)
reported_at_once f (Err code) Memory h = absurd cc

-- ---- the tree of a text

pub too_long : (text : List ℕ) → command_limit < length text → IsTree text (Err (Code ErrorEvaluatingCode))
too_long text long =
    let no : nat_le (length text) command_limit ≡ false = grind (arith, nat_tests) in
    (refl, ap (λ (b : Bool). cond b (expression_in text) None) no)

module _ (text : List ℕ) (short : length text ≤ command_limit) where
  tree_is : tree_of text ≡ expression_in text
  tree_is = ap (λ (b : Bool). cond b (expression_in text) None) (le-leb (length text) command_limit short)

  pub tree_found : (e : Expression) → expression_in text ≡ Some e → tree_of text ≡ Some e
  tree_found e h = tree_is ∙ h

  no_text : expression_in text ≡ None → IsTree text (Err (Code ErrorEvaluatingCode))
  no_text h = (refl, tree_is ∙ h)

  pub why_none : (why : ParseError) → (why ≢ parse_error.Memory → expression_in text ≡ None)
      → IsTree text (Err (error_of why))
  why_none parse_error.Memory told = tt
  why_none (parse_error.Lex lex) told = no_text (told (λ e. cc))
  why_none (parse_error.Unexpected token) told = no_text (told (λ e. cc))
  why_none (parse_error.TooDeep token) told = no_text (told (λ e. cc))
  why_none (parse_error.DoubleFunction name) told = no_text (told (λ e. cc))

-- ---- the write that is asked for

module _ (s : State) (set : PropertySet) where
  abbrev written_at : Value → Path → Result Write ErrorCode
  written_at value path = Ok (write_at set.place value path)

  abbrev by_value : Option Value → Result Write ErrorCode
  by_value value = and_then (λ v. and_then (written_at v) (requested_path s set.place)) (ok_or value InvalidOptions)

  pub property_is : (value : Value) (path : Path) → requested_value set ≡ Some value → requested_path s set.place
      ≡ Ok path
      → requested_write s (request.PropertySet set) ≡ Ok (write_at set.place value path)
  unfolding requested_write
  property_is value path v p = ap by_value v ∙ ap (and_then (written_at value)) p

  property_unplaced : (value : Value) (code : ErrorCode) → requested_value set ≡ Some value → requested_path s set.place
      ≡ Err code
      → requested_write s (request.PropertySet set) ≡ Err code
  unfolding requested_write
  property_unplaced value code v p = ap by_value v ∙ ap (and_then (written_at value)) p

  property_unvalued : requested_value set ≡ None → requested_write s (request.PropertySet set) ≡ Err InvalidOptions
  unfolding requested_write
  property_unvalued v = ap by_value v

  -- the codes that are told whatever memory there is
  abbrev named : Result Path ErrorCode
  named = named_path s set.place.level set.place.context set.place.name

  abbrev once_by : (ErrorCode → Type 0) → Option Value → Type 0
  once_by P value = IfSome (code_in (and_then (λ v. named) (ok_or value InvalidOptions))) P

  pub valued_at_once : (value : Value) (P : ErrorCode → Type 0) → requested_value set ≡ Some value
      → IfSome (code_in named) P
      → IfSome (refusal_at_once s (request.PropertySet set)) P
  valued_at_once value P v h = subst (once_by P) (sym v) h

  pub unvalued_at_once : (P : ErrorCode → Type 0) → requested_value set ≡ None → P InvalidOptions
      → IfSome (refusal_at_once s (request.PropertySet set)) P
  unvalued_at_once P v h = subst (once_by P) (sym v) h

module _ (s : State) (text : List ℕ) where
  abbrev by_tree : Option Expression → Result Write ErrorCode
  by_tree tree = ok_or (option_map (λ e. write.Evaluate e) tree) ErrorEvaluatingCode

  pub evaluation_is : (e : Expression) → tree_of text ≡ Some e
      → requested_write s (request.Eval text) ≡ Ok (write.Evaluate e)
  unfolding requested_write
  evaluation_is e h = ap by_tree h

  evaluation_none : tree_of text ≡ None → requested_write s (request.Eval text) ≡ Err ErrorEvaluatingCode
  unfolding requested_write
  evaluation_none h = ap by_tree h

-- ---- what is answered

module _ (bundle : Bundle) (features : Features) (before : State) (command id : Text) where
  -- a write that was asked for and tried
  pub tried : (after : State) (asked : WriteRequest) (w : Write) (made : Result Response ViewError)
      → requested_write before asked ≡ Ok w → Makes bundle features before after command id w made
      → Answers bundle features before after command id asked (with_write w made)
  unfolding write_response
  tried after asked w (Ok r) e h =
      record { write = e; response = ap (and_then (responding bundle features before command id)) e ∙ h.0; state = h.1 }
  tried after asked w (Err (Code code)) e h =
      (ap (and_then (responding bundle features before command id)) e ∙ h.0, h.1)
  tried after asked w (Err Memory) e h = h

  -- none was asked for
  pub unasked : (asked : WriteRequest) (code : ErrorCode) → requested_write before asked ≡ Err code
      → write_response bundle features before command id asked ≡ Err code
  unfolding write_response
  unasked asked code e = ap (and_then (responding bundle features before command id)) e

  pub unplaced : (set : PropertySet) (value : Value) (why : ViewError) {Z : Type 0} (first : Result Z ErrorCode)
      → requested_value set ≡ Some value
      → AnswersAfter {X = Path} (λ path. path) (Err why) first (requested_path before set.place)
      → Answers bundle features before before command id (request.PropertySet set) (Err why)
  unplaced set value (Code code) first v p =
      (unasked (request.PropertySet set) code (property_unplaced before set value code v p), refl)
  unplaced set value Memory first v p = refl

  pub unvalued : (set : PropertySet) → requested_value set ≡ None
      → Answers bundle features before before command id (request.PropertySet set) (Err (Code InvalidOptions))
  unvalued set v = (unasked (request.PropertySet set) InvalidOptions (property_unvalued before set v), refl)

  pub untreed : (text : List ℕ) (why : ViewError) → IsTree text (Err why)
      → Answers bundle features before before command id (request.Eval text) (Err why)
  untreed text (Code code) h = (
    unasked (request.Eval text) code (evaluation_none before text h.1
        ∙ ap (λ (c : ErrorCode). Err c) (sym h.0)),
    refl,
  )
  untreed text Memory h = refl
