-- What a call on breakpoints answers where what is asked is not done: a refusal, by the codes of
-- DBGp 1.0, "Error Codes", or out of memory.
use Rattle.std.specs.Prelude.{◌≡◌, Option, Some, None, Result, Ok, Err, ⊤}
use Rattle.dp_packet.specs.declared.error_codes.ErrorCode.{ErrorCode}
use Rattle.dp_break.specs.declared.errors.BreakError.{BreakError}
use Rattle.dp_break.specs.declared.errors.BreakError.TheVariants.{Code, Memory}

-- a value, or the code of a refusal
abbrev pub answer_of : {A : Type 0} → Option ErrorCode → A → Result A BreakError
answer_of None value = Ok value
answer_of (Some code) value = Err (Code code)

-- why there is no answer, where no memory is taken: a refusal
abbrev pub IsCode : Option ErrorCode → BreakError → Type 0
IsCode refusal (Code code) = refusal ≡ Some code
IsCode refusal Memory = ⊥

-- why there is no answer: a refusal, or out of memory
abbrev pub IsCause : Option ErrorCode → BreakError → Type 0
IsCause refusal (Code code) = refusal ≡ Some code
IsCause refusal Memory = ⊤
