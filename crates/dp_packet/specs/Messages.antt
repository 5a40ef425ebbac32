-- The codes of errors (DBGp 1.0, "Error Codes"), their numbers and their messages. The words of the
-- messages are our own.
use Rattle.std.specs.Prelude.{ℕ, Bool, true, false, ◌==◌, if◌then◌else◌, [], ◌∷◌, codes, Option, Some, None}
use Rattle.std.specs.Prelude.{Result, Ok, Err}
use Rattle.dp_packet.specs.declared.error_codes.ErrorCode.{ErrorCode}
use Rattle.dp_packet.specs.declared.error_codes.ErrorCode.TheVariants.{ParseError, DuplicateArguments, InvalidOptions, UnimplementedCommand, CommandNotAvailable, CannotOpenFile, BreakpointNotSet, TypeNotSupported, InvalidBreakpointLine, NoCodeOnLine, InvalidBreakpointState, NoSuchBreakpoint, ErrorEvaluatingCode, InvalidExpression, CannotGetProperty, StackDepthInvalid, ContextInvalid, EncodingNotSupported}
use Rattle.dp_packet.specs.Parts.{Text}

-- the code of what is refused
abbrev pub code_in : {A : Type 0} → Result A ErrorCode → Option ErrorCode
code_in (Ok a) = None
code_in (Err code) = Some code

-- the number of a code in an error response
abbrev pub number : ErrorCode → ℕ
number ParseError = 1
number DuplicateArguments = 2
number InvalidOptions = 3
number UnimplementedCommand = 4
number CommandNotAvailable = 5
number CannotOpenFile = 100
number BreakpointNotSet = 200
number TypeNotSupported = 201
number InvalidBreakpointLine = 202
number NoCodeOnLine = 203
number InvalidBreakpointState = 204
number NoSuchBreakpoint = 205
number ErrorEvaluatingCode = 206
number InvalidExpression = 207
number CannotGetProperty = 300
number StackDepthInvalid = 301
number ContextInvalid = 302
number EncodingNotSupported = 900

-- the message of the code with this number; empty where no code has it
abbrev pub message_of : ℕ → Text
message_of n =
    if n == 1 then codes "parse error"
    else if n == 2 then codes "duplicate arguments"
    else if n == 3 then codes "invalid options"
    else if n == 4 then codes "unimplemented command"
    else if n == 5 then codes "command not available"
    else if n == 100 then codes "cannot open file"
    else if n == 200 then codes "breakpoint could not be set"
    else if n == 201 then codes "type not supported"
    else if n == 202 then codes "invalid breakpoint line"
    else if n == 203 then codes "no code on line"
    else if n == 204 then codes "invalid breakpoint state"
    else if n == 205 then codes "no such breakpoint"
    else if n == 206 then codes "error evaluating code"
    else if n == 207 then codes "invalid expression"
    else if n == 300 then codes "cannot get property"
    else if n == 301 then codes "stack depth invalid"
    else if n == 302 then codes "context invalid"
    else if n == 900 then codes "encoding not supported"
    else []

-- why a proxy refused; empty where the number is none of its reasons
abbrev pub reason_of : ℕ → Text
reason_of id =
    if id == 1 then codes "key is held"
    else if id == 2 then codes "unknown key"
    else if id == 3 then codes "key of another host"
    else if id == 4 then codes "bad command"
    else if id == 5 then codes "registry is full"
    else []

abbrev pub is_some_text : Text → Bool
is_some_text [] = false
is_some_text (b ∷ bytes) = true
