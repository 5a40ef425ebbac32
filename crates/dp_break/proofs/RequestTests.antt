-- The first of the tests of a breakpoint_set command, and what an accepted one asks for.
use Rattle.std.proofs.Common.{◌≡◌, ℕ, ◌<◌, sym, ap, Bool, true, false, not, ◌&&◌, ◌||◌, if◌then◌else◌, List, [], ◌∷◌, ◌++◌, length, Option, Some, None, is_some, is_none, refl, ◌∙◌}
use Rattle.std.specs.Prelude.{option_map, unwrap_or, IfSome, IsErrAnd, Result, Ok, Err}
use Rattle.std.specs.Option.{option_map_or, option_or}
use Rattle.std.specs.List.{find}
use Rattle.dp_break.specs.Changes.{IsRequest}
use Rattle.dp_break.specs.Hits.{is_of_function}
use Rattle.dp_break.specs.declared.breakpoint.BreakRequest.{BreakRequest}
use Rattle.dp_break.specs.Refusals.{plain_refusal}
use Rattle.dp_break.specs.Tables.{Table, has_parts}
use Rattle.dp_tree.specs.declared.bundle.Bundle.{Bundle}
use Rattle.dp_command.specs.declared.command.BreakpointSet.{BreakpointSet}
use Rattle.dp_packet.specs.declared.error_codes.ErrorCode.{ErrorCode}
use Rattle.dp_packet.specs.declared.error_codes.ErrorCode.TheVariants.{InvalidOptions, TypeNotSupported, InvalidBreakpointState}
use Rattle.dp_packet.specs.declared.packet.BreakKind.{BreakKind}
use Rattle.dp_packet.specs.declared.packet.BreakKind.TheVariants.{Line, Call, Return, Conditional}
use Rattle.dp_break.specs.declared.errors.BreakError.{BreakError}
use Rattle.dp_break.specs.declared.errors.BreakError.TheVariants.{Code, Memory}
use Rattle.dp_file_uris.specs.Files.{name_in, requested_file}
use Rattle.dp_file_uris.proofs.FoundFiles.{like_below}
use Rattle.dp_break.specs.Requests.{file_tests, has_malformed_part, has_part_too_many, lacks_part, of_kind, refusal, request, word_tests}
use Rattle.dp_break.specs.Causes.{IsCause, IsCode}
use Rattle.dp_break.specs.Commands.{plain_set_refusal}
use Rattle.dp_command.specs.Tests.{Test, first_code}
use Rattle.dp_break.specs.Words.{has_no_meaning, kind_named, meant, number_in, state_named}

-- ---- tests before others

-- the code of the first test that holds, where it is known whether this one does
abbrev code_after : Bool → Test → List Test → Option ErrorCode
code_after holds test more = option_map (λ t. t.1) (if holds then Some test else find (λ t. t.0) more)

-- a code that some tests have stays with more tests behind them
earlier_code : (tests more : List Test) (code : ErrorCode) → first_code tests ≡ Some code
    → first_code (tests ++ more) ≡ Some code
earlier_code [] more code e = absurd cc
earlier_code (t ∷ tests) more code e = by t.0 (earlier_code tests more code) e where
  by : (holds : Bool) → (first_code tests ≡ Some code → first_code (tests ++ more) ≡ Some code)
      → code_after holds t tests ≡ Some code → code_after holds t (tests ++ more) ≡ Some code
  by true rest h = h
  by false rest h = rest h

-- where none of some tests holds, the tests behind them decide
later_code : (tests more : List Test) → first_code tests ≡ None → first_code (tests ++ more) ≡ first_code more
later_code [] more e = refl
later_code (t ∷ tests) more e = by t.0 (later_code tests more) e where
  by : (holds : Bool) → (first_code tests ≡ None → first_code (tests ++ more) ≡ first_code more)
      → code_after holds t tests ≡ None → code_after holds t (tests ++ more) ≡ first_code more
  by true rest h = absurd cc
  by false rest h = rest h

pub accepted : (bundle : Bundle) (set : BreakpointSet) → first_code (word_tests set) ≡ None
    → first_code (file_tests bundle set.file) ≡ None → refusal bundle set ≡ None
unfolding refusal
accepted bundle set words file = later_code (word_tests set) (file_tests bundle set.file) words ∙ file

pub words_refused : (bundle : Bundle) (set : BreakpointSet) (e : BreakError)
    → IsCode (first_code (word_tests set)) e → IsCause (refusal bundle set) e
unfolding refusal
words_refused bundle set (Code code) h = earlier_code (word_tests set) (file_tests bundle set.file) code h
words_refused bundle set Memory h = absurd h

-- the same where no memory is wanted
pub words_only : (bundle : Bundle) (set : BreakpointSet) (e : BreakError) → IsCode (first_code (word_tests set)) e
    → IsCode (refusal bundle set) e
unfolding refusal
words_only bundle set (Code code) h = earlier_code (word_tests set) (file_tests bundle set.file) code h
words_only bundle set Memory h = absurd h

pub file_refused : (bundle : Bundle) (set : BreakpointSet) (e : BreakError) → first_code (word_tests set) ≡ None
    → IsCause (first_code (file_tests bundle set.file)) e → IsCause (refusal bundle set) e
unfolding refusal
file_refused bundle set (Code code) words h = later_code (word_tests set) (file_tests bundle set.file) words ∙ h
file_refused bundle set Memory words h = tt

-- the same where no memory is wanted
pub file_only : (bundle : Bundle) (set : BreakpointSet) (e : BreakError) → first_code (word_tests set) ≡ None
    → IsCode (first_code (file_tests bundle set.file)) e → IsCode (refusal bundle set) e
unfolding refusal
file_only bundle set (Code code) words h = later_code (word_tests set) (file_tests bundle set.file) words ∙ h
file_only bundle set Memory words h = absurd h

-- ---- what is accepted

-- the first test does not hold, and none of the others does
passed : (holds : Bool) (code : ErrorCode) (more : List Test) → first_code ((holds, code) ∷ more) ≡ None
    → (holds ≡ false) × (first_code more ≡ None)
passed true code more e = absurd cc
passed false code more e = (refl, e)

-- what holds of the words of a command that has no refusal of its words
record IsAccepted (set : BreakpointSet) : Type 0 where
  known : is_none (kind_named set.kind) ≡ false
  whole : of_kind lacks_part set ≡ false
  fitting : of_kind has_part_too_many set ≡ false
  formed : has_malformed_part set ≡ false

abbrev last_test : BreakpointSet → List Test
last_test set = (has_no_meaning state_named set.state, InvalidBreakpointState) ∷ []

abbrev later_tests : BreakpointSet → List Test
later_tests set = (of_kind has_part_too_many set, InvalidOptions) ∷ (has_malformed_part set, InvalidOptions)
    ∷ last_test set

each_passed : (set : BreakpointSet) → first_code (word_tests set) ≡ None → IsAccepted set
unfolding word_tests
each_passed set e =
    let known = passed (is_none (kind_named set.kind)) TypeNotSupported ((of_kind lacks_part set, InvalidOptions)
    ∷ later_tests set) e in
    let whole = passed (of_kind lacks_part set) InvalidOptions (later_tests set) known.1 in
    let fitting = passed (of_kind has_part_too_many set) InvalidOptions ((has_malformed_part set, InvalidOptions)
    ∷ last_test set) whole.1 in
    let formed = passed (has_malformed_part set) InvalidOptions (last_test set) fitting.1 in
    record { known = known.0; whole = whole.0; fitting = fitting.0; formed = formed.0 }

-- ---- files

file_below : (bundle : Bundle) (here : ℕ) (value : Option (List ℕ)) → here < length bundle.files
    → unwrap_or (meant (requested_file bundle) value) here < length bundle.files
file_below bundle here None h = h
file_below bundle here (Some value) h = by (requested_file bundle value) refl where
  by : (found : Option ℕ) → requested_file bundle value ≡ found → unwrap_or found here < length bundle.files
  by None e = h
  by (Some number) e = like_below bundle (name_in value) number e

-- ---- parts

is_there : {A : Type 0} (given : Option A) → is_none given ≡ false → is_some given ≡ true
is_there None h = absurd cc
is_there (Some x) h = refl

-- a word that is there and has a meaning means something
is_meant : {A : Type 0} (meaning : List ℕ → Option A) (given : Option (List ℕ)) → is_none given ≡ false
    → has_no_meaning meaning given ≡ false → is_some (meant meaning given) ≡ true
unfolding has_no_meaning
is_meant meaning None there known = absurd cc
is_meant meaning (Some word) there known = is_there (meaning word) known

-- a word that is not there means nothing
is_not_meant : {A : Type 0} (meaning : List ℕ → Option A) (given : Option (List ℕ)) → is_some given ≡ false
    → not (is_some (meant meaning given)) ≡ true
is_not_meant meaning None h = refl
is_not_meant meaning (Some word) h = absurd cc

or_left : (a b : Bool) → (a || b) ≡ false → a ≡ false
or_left true b h = absurd cc
or_left false b h = refl

and_left : (a b : Bool) → (a && b) ≡ true → a ≡ true
and_left true b h = refl
and_left false b h = absurd cc

both_hold : (a b : Bool) → a ≡ true → b ≡ true → (a && b) ≡ true
both_hold true b p q = q
both_hold false b p q = absurd cc

parts_of_function : (set : BreakpointSet) → is_none set.function ≡ false
    → (is_some set.line || is_some set.exception) ≡ false
    → (is_some set.function && not (is_some (meant number_in set.line))) ≡ true
parts_of_function set there none =
    both_hold (is_some set.function) (not (is_some (meant number_in set.line)))
    (is_there set.function there)
    (is_not_meant number_in set.line (or_left (is_some set.line) (is_some set.exception) none))

parts_of : (set : BreakpointSet) → IsAccepted set
    → has_parts (unwrap_or (kind_named set.kind) Line) (meant number_in set.line) set.function set.expression ≡ true
parts_of set a = by (kind_named set.kind) a.known a.whole a.fitting where
  number_formed : has_no_meaning number_in set.line ≡ false
  number_formed = or_left _ _ (or_left _ _ a.formed)

  by : (kind : Option BreakKind) → is_none kind ≡ false → option_map_or (λ k. lacks_part k set) kind false ≡ false
      → option_map_or (λ k. has_part_too_many k set) kind false ≡ false
      → has_parts (unwrap_or kind Line) (meant number_in set.line) set.function set.expression ≡ true
  by None known whole fitting = absurd cc
  by (Some Line) known whole fitting = is_meant number_in set.line whole number_formed
  by (Some Call) known whole fitting = parts_of_function set whole fitting
  by (Some Return) known whole fitting = parts_of_function set whole fitting
  by (Some Conditional) known whole fitting = is_there set.expression whole

pub request_sound : (bundle : Bundle) (here : ℕ) (set : BreakpointSet) → first_code (word_tests set) ≡ None
    → here < length bundle.files → IsRequest bundle (request bundle here set)
request_sound bundle here set e h = record {
  file = file_below bundle here set.file h;
  parts = parts_of set (each_passed set e);
  anyfile = and_left (is_of_function (unwrap_or (kind_named set.kind) Line)) (is_none set.file);
}

-- what a breakpoint_set command is answered
pub ruleset refusing = (accepted, words_refused, words_only, file_refused, file_only, request_sound)

-- ---- what is held refuses

abbrev pub failed : {A : Type 0} → BreakError → Result A BreakError
failed e = Err e

abbrev pub done : {A : Type 0} → A → Result A BreakError
done a = Ok a

module _ (resolve : Bool) (bundle : Bundle) (here : ℕ) (t : Table) (set : BreakpointSet) (r : BreakRequest)
    (free : refusal bundle set ≡ None) (is : r ≡ request bundle here set) where
  plain_of : plain_set_refusal resolve bundle here t set ≡ plain_refusal resolve bundle t r
  plain_of =
      ap (λ (o : Option ErrorCode). option_or o (plain_refusal resolve bundle t (request bundle here set))) free
      ∙ ap (plain_refusal resolve bundle t) (sym is)

  -- a request that what is held accepts is refused by no plain test
  pub plain_passed : {A : Type 0} (id : ℕ)
      → IfSome (plain_refusal resolve bundle t r) (λ code. done id ≡ Err (Code code)) → (result : Result A BreakError)
      → IfSome (plain_set_refusal resolve bundle here t set) (λ code. result ≡ Err (Code code))
  plain_passed id h result = rw plain_of (by (plain_refusal resolve bundle t r) h) where
    by : (o : Option ErrorCode) → IfSome o (λ code. done id ≡ Err (Code code))
        → IfSome o (λ code. result ≡ Err (Code code))
    by None h = tt
    by (Some code) h = absurd cc

  -- one that a plain test refuses is refused so
  pub plain_told : {A : Type 0} (e : BreakError)
      → IfSome (plain_refusal resolve bundle t r) (λ code. failed {A = ℕ} e ≡ Err (Code code))
      → (result : Result A BreakError) → IsErrAnd result (λ x. x ≡ e)
      → IfSome (plain_set_refusal resolve bundle here t set) (λ code. result ≡ Err (Code code))
  plain_told {A} e h result told = rw plain_of (by (plain_refusal resolve bundle t r) result told h) where
    by : (o : Option ErrorCode) (result : Result A BreakError) → IsErrAnd result (λ x. x ≡ e)
        → IfSome o (λ code. failed {A = ℕ} e ≡ Err (Code code)) → IfSome o (λ code. result ≡ Err (Code code))
    by o (Ok a) told h = absurd told
    by None (Err x) told h = tt
    by (Some code) (Err x) told h = let same : e ≡ Code code = cc in ap (failed {A = A}) (told ∙ same)
