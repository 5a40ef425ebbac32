use Rattle.std.proofs.Common.{◌∙◌, subst, sym}
use Rattle.dp_command.specs.Grammar.{spelt}
use Rattle.dp_command.proofs.Written.{written_is}
use Rattle.dp_command.proofs.line_reader.reread.Goals as goal

pub returns : goal.returns
returns c =
    let line = c.args.line.now in
    c.read_line.ensures.only line (subst (λ bytes. spelt bytes line) (sym (c.as_slice.ensures ∙ c.in_ok-text.ensures))
    (written_is line c.requires))
