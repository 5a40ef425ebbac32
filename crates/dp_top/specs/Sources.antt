-- Files that the parser refuses: what is reported of them.
use Rattle.std.specs.Prelude.{ℕ, List, ◌++◌, codes}
use Rattle.std.specs.Fmt.{decimal}
use Rattle.dp_lexer.specs.declared.errors.LexError.TheVariants as lex
use Rattle.dp_parse.specs.declared.errors.ParseError.{ParseError}
use Rattle.dp_parse.specs.declared.errors.ParseError.TheVariants as error
use Rattle.dp_top.specs.declared.failures.Failure.{Failure}
use Rattle.dp_top.specs.declared.failures.Failure.TheVariants.{Source, Memory}
use Rattle.dp_top.specs.declared.failures.Reason.{Reason}
use Rattle.dp_top.specs.declared.failures.Reason.TheVariants.{BadByte, OpenString, OpenComment, WideNumber, Unexpected, TooDeep, DoubleFunction}

-- The failure that a refusal is: its reason, and its offset or token. A function that is declared
-- twice has neither.
abbrev pub failure_of : ParseError → Failure
failure_of (error.Lex (lex.BadByte offset)) = Source BadByte offset
failure_of (error.Lex (lex.OpenString offset)) = Source OpenString offset
failure_of (error.Lex (lex.OpenComment offset)) = Source OpenComment offset
failure_of (error.Lex (lex.WideNumber offset)) = Source WideNumber offset
failure_of (error.Lex lex.Memory) = Memory
failure_of (error.Unexpected token) = Source Unexpected token
failure_of (error.TooDeep token) = Source TooDeep token
failure_of (error.DoubleFunction name) = Source DoubleFunction 0
failure_of error.Memory = Memory

-- the name of a reason
abbrev pub reason_name : Reason → List ℕ
reason_name BadByte = codes "BadByte"
reason_name OpenString = codes "OpenString"
reason_name OpenComment = codes "OpenComment"
reason_name WideNumber = codes "WideNumber"
reason_name Unexpected = codes "Unexpected"
reason_name TooDeep = codes "TooDeep"
reason_name DoubleFunction = codes "DoubleFunction"

-- the line on the error output: the name of the file, the reason, and its number
abbrev pub bad_source : List ℕ → List ℕ → ℕ → List ℕ
bad_source name reason number =
    codes "bad source " ++ name ++ codes " " ++ reason ++ codes " " ++ decimal number ++ codes "\n"
