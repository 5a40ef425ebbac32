-- The breakpoint that a breakpoint_set command asks for, and why it is refused: DBGp 1.0,
-- "breakpoint_set". Which case has which code, and their order, are this engine's own.
use Rattle.std.specs.Prelude.{ℕ, Bool, true, false, ◌&&◌, ◌||◌, if◌then◌else◌, List, [], ◌∷◌, ◌++◌, Option, is_some, is_none, unwrap_or}
use Rattle.std.specs.Option.{option_map_or}
use Rattle.dp_break.specs.Hits.{is_of_function}
use Rattle.dp_break.specs.declared.breakpoint.BreakRequest.{BreakRequest}
use Rattle.dp_tree.specs.declared.bundle.Bundle.{Bundle}
use Rattle.dp_command.specs.declared.command.BreakpointSet.{BreakpointSet}
use Rattle.dp_packet.specs.declared.error_codes.ErrorCode.{ErrorCode}
use Rattle.dp_packet.specs.declared.error_codes.ErrorCode.TheVariants.{InvalidOptions, BreakpointNotSet, TypeNotSupported, InvalidBreakpointState}
use Rattle.dp_packet.specs.declared.packet.BreakKind.{BreakKind}
use Rattle.dp_packet.specs.declared.packet.BreakKind.TheVariants.{Line, Call, Return, Conditional}
use Rattle.dp_packet.specs.declared.packet.HitRule.TheVariants.{AtLeast}
use Rattle.dp_file_uris.specs.Files.{requested_file}
use Rattle.dp_command.specs.Tests.{Test, first_code}
use Rattle.dp_break.specs.Words.{kind_named, rule_named, state_named, flag_named, number_in, has_no_meaning, meant}

-- ---- refusals

-- a part is missing that a breakpoint of this kind must have
abbrev pub lacks_part : BreakKind → BreakpointSet → Bool
lacks_part Line set = is_none set.line
lacks_part Call set = is_none set.function
lacks_part Return set = is_none set.function
lacks_part Conditional set = is_none set.expression

-- a line of a function, a function of a line, or an exception
abbrev pub has_part_too_many : BreakKind → BreakpointSet → Bool
has_part_too_many kind set =
    (if is_of_function kind then is_some set.line else is_some set.function)
    || is_some set.exception

-- the line is no number, or the hit rule or the flag is none
abbrev pub has_malformed_part : BreakpointSet → Bool
has_malformed_part set =
    has_no_meaning number_in set.line || has_no_meaning rule_named set.hit_rule
    || has_no_meaning flag_named set.temporary

-- it holds of the kind that a command names; of no kind it does not
abbrev pub of_kind : (BreakKind → BreakpointSet → Bool) → BreakpointSet → Bool
of_kind test set = option_map_or (λ kind. test kind set) (kind_named set.kind) false

-- the tests of a command's words
unfoldable pub word_tests : BreakpointSet → List Test
word_tests set =
    (is_none (kind_named set.kind), TypeNotSupported)
    ∷ (of_kind lacks_part set, InvalidOptions)
    ∷ (of_kind has_part_too_many set, InvalidOptions)
    ∷ (has_malformed_part set, InvalidOptions)
    ∷ (has_no_meaning state_named set.state, InvalidBreakpointState)
    ∷ []

-- the test of `-f`: it names no file
abbrev pub file_tests : Bundle → Option (List ℕ) → List Test
file_tests bundle file = (has_no_meaning (requested_file bundle) file, BreakpointNotSet) ∷ []

-- the tests of a command, in their order
abbrev pub own_tests : Bundle → BreakpointSet → List Test
own_tests bundle set = word_tests set ++ file_tests bundle set.file

-- the code of the first refusal, if a command is refused
unfoldable pub refusal : Bundle → BreakpointSet → Option ErrorCode
refusal bundle set = first_code (own_tests bundle set)

-- ---- requests

-- The breakpoint that a command asks for in the file of this number. Of a command that is not
-- refused each word has its meaning; what stands for one that is missing is said here for all.
abbrev pub request_in : ℕ → BreakpointSet → BreakRequest
request_in file set =
    let kind = unwrap_or (kind_named set.kind) Line in
    record {
      kind = kind;
      enabled = unwrap_or (meant state_named set.state) true;
      file = file;
      line = meant number_in set.line;
      function = set.function;
      anyfile = is_of_function kind && is_none set.file;
      hit_value = set.hit_value;
      hit_rule = unwrap_or (meant rule_named set.hit_rule) AtLeast;
      temporary = unwrap_or (meant flag_named set.temporary) false;
      expression = set.expression;
    }

-- the same at a moment in this file, which is meant where a command names none
abbrev pub request : Bundle → ℕ → BreakpointSet → BreakRequest
request bundle here set = request_in (unwrap_or (meant (requested_file bundle) set.file) here) set
