-- Each code has a message, and a number of three digits at most.
use Rattle.std.proofs.Common.{◌≡◌, ◌<◌, true, refl, arith}
use Rattle.dp_packet.specs.declared.error_codes.ErrorCode.{ErrorCode}
use Rattle.dp_packet.specs.declared.error_codes.ErrorCode.TheVariants.{ParseError}
use Rattle.dp_packet.specs.Messages.{is_some_text, message_of, number}

pub code_has_message : (code : ErrorCode) → is_some_text (message_of (number code)) ≡ true
code_has_message ParseError = refl
code_has_message other = refl

pub number_below : (code : ErrorCode) → number code < 1000
number_below ParseError = omega arith
number_below other = omega arith
