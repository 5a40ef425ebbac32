use Rattle.std.proofs.Common.{take, sym, ap, ◌∙◌, subst}
use Rattle.dp_lexer.specs.Bytes.{is_digit, is_hexadecimal, Each}
use Rattle.dp_lexer.proofs.Runs.{run_passes, all_parts}
use Rattle.dp_lexer.proofs.FoundNumbers.{digits_count}
use Rattle.dp_lexer.proofs.numbers.decimal.Goals as goal

pub ended-requires-clause-digits : goal.ended-requires-clause-digits
ended-requires-clause-digits c =
    subst (λ l. Each is_hexadecimal l) (sym (c.split_at.ensures.front
    ∙ ap (λ n. take n c.args.z.now) c.digits_len-len.ensures.value))
    (all_parts is_digit is_hexadecimal digits_count _ (run_passes is_digit c.args.z.now))
