-- A `break` outside a continuation is refused with 5.
use Rattle.std.proofs.Common.{◌≡◌, ℕ, Bool, true, false, List, [], ◌∷◌, Option, Some, refl, ap, ◌∙◌}
use Rattle.std.specs.Prelude.{if◌then◌else◌, not}
use Rattle.dp_async.specs.Listens.{asks_to_break, break_refusal, break_response, fits_break, own_feature, own_response, unless_refused}
use Rattle.dp_command.specs.declared.errors.Refusal.TheVariants.{Duplicate, NoId}
use Rattle.dp_command.specs.declared.line.Line.{Line}
use Rattle.dp_command.specs.Lines.{line_of}
use Rattle.dp_command.specs.Refusals.{code_of, holds_of, id_of}
use Rattle.dp_command.specs.Tests.{first_code}
use Rattle.dp_engine.specs.Answers.{command_in, id_in}
use Rattle.dp_engine.specs.Responses.{fault_response, success_response}
use Rattle.dp_packet.specs.declared.error_codes.ErrorCode.{ErrorCode}
use Rattle.dp_packet.specs.declared.error_codes.ErrorCode.TheVariants.{CommandNotAvailable, InvalidOptions}

-- no option stands twice and the id is there: it is the first test that holds
not_available : (line : Line) → holds_of line Duplicate ≡ false → holds_of line NoId ≡ false
    → break_refusal false (Some line) ≡ Some CommandNotAvailable
not_available line once named = by (holds_of line Duplicate) (holds_of line NoId) once named where
  by : (twice unnamed : Bool) → twice ≡ false → unnamed ≡ false
      → first_code ((twice, code_of Duplicate) ∷ (unnamed, code_of NoId) ∷ (true, CommandNotAvailable)
      ∷ (not (fits_break line), InvalidOptions) ∷ []) ≡ Some CommandNotAvailable
  by false false once named = refl
  by false true once named = absurd cc
  by true unnamed once named = absurd cc

pub refused_so : (bytes : List ℕ) (line : Line) → line_of bytes ≡ Some line → asks_to_break (Some line) ≡ true
    → holds_of line Duplicate ≡ false → holds_of line NoId ≡ false
    → own_response (line_of bytes) ≡ Some (fault_response line.name (id_of line) CommandNotAvailable)
refused_so bytes line is breaks once named =
    ap own_response is
    ∙ ap (λ (b : Bool). if b then Some (break_response false (Some line)) else own_feature line) breaks
    ∙ ap (λ (code : Option ErrorCode). Some (unless_refused code (Some line)
    (success_response (command_in (Some line)) (id_in (Some line)) true))) (not_available line once named)
