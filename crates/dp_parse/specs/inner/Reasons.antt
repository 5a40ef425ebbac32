-- Why there are no tokens, as a reason of the parser.
use Rattle.dp_lexer.specs.declared.errors.LexError.{LexError}
use Rattle.dp_parse.specs.declared.errors.ParseError.{ParseError}
use Rattle.dp_lexer.specs.declared.errors.LexError.TheVariants as lex_error
use Rattle.dp_parse.specs.declared.errors.ParseError.TheVariants as error

-- the reason, where there are no tokens for this one
abbrev pub without_tokens : LexError → ParseError
without_tokens lex_error.Memory = error.Memory
without_tokens why = error.Lex why
