-- What a view answers: what a state shows, or the code of the error response. DBGp 1.0, "Error
-- Codes": whether there is no such level of the stack, no such context, or no such property.
use Rattle.std.specs.Prelude.{◌≡◌, Result, Ok, Err, IsOk, ⊤}
use Rattle.dp_packet.specs.declared.error_codes.ErrorCode.{ErrorCode}
use Rattle.dp_view.specs.declared.errors.ViewError.{ViewError}
use Rattle.dp_view.specs.declared.errors.ViewError.TheVariants.{Code, Memory}

-- what is shown of what is shown, or the code of the first refusal
abbrev pub and_then : {A B : Type 0} → (A → Result B ErrorCode) → Result A ErrorCode
    → Result B ErrorCode
and_then view (Ok a) = view a
and_then view (Err code) = Err code

-- A call is refused with the code that is asked for. Memory may run out only where something is
-- shown.
abbrev pub Refuses : {Y : Type 0} → ViewError → Result Y ErrorCode → Type 0
Refuses (Code code) asked = asked ≡ Err code
Refuses Memory asked = IsOk asked

-- A call answers what is asked for, or memory runs out.
abbrev pub Answers : {X Y : Type 0} → (X → Y) → Result X ViewError → Result Y ErrorCode → Type 0
Answers view (Ok x) asked = asked ≡ Ok (view x)
Answers view (Err e) asked = Refuses e asked

-- The same of a call that takes no memory.
abbrev pub RefusesSurely : {Y : Type 0} → ViewError → Result Y ErrorCode → Type 0
RefusesSurely (Code code) asked = asked ≡ Err code
RefusesSurely Memory asked = ⊥

abbrev pub AnswersSurely : {X Y : Type 0} → (X → Y) → Result X ViewError → Result Y ErrorCode
    → Type 0
AnswersSurely view (Ok x) asked = asked ≡ Ok (view x)
AnswersSurely view (Err e) asked = RefusesSurely e asked

-- The same of a call that looks for something first: memory may run out only where that is there.
abbrev pub AnswersAfter : {X Y Z : Type 0} → (X → Y) → Result X ViewError → Result Z ErrorCode
    → Result Y ErrorCode
    → Type 0
AnswersAfter view (Ok x) first asked = asked ≡ Ok (view x)
AnswersAfter view (Err (Code code)) first asked = asked ≡ Err code
AnswersAfter view (Err Memory) first asked = IsOk first

-- A call answers this, or memory runs out.
abbrev pub Gives : {X : Type 0} → X → Result X ViewError → Type 0
Gives made (Ok x) = x ≡ made
Gives made (Err (Code code)) = ⊥
Gives made (Err Memory) = ⊤
