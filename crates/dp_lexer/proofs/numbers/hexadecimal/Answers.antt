use Rattle.std.proofs.Common.{take, sym, ap, ◌∙◌, subst}
use Rattle.dp_lexer.specs.Bytes.{is_hexadecimal, Each}
use Rattle.dp_lexer.proofs.Runs.{run_passes}
use Rattle.dp_lexer.proofs.numbers.hexadecimal.Goals as goal

pub ended-requires-clause-digits : goal.ended-requires-clause-digits
ended-requires-clause-digits c =
    subst (λ l. Each is_hexadecimal l) (sym (c.split_at.ensures.front
    ∙ ap (λ n. take n c.args.z.now) c.hexadecimal_len-len.ensures.value)) (run_passes is_hexadecimal c.args.z.now)
