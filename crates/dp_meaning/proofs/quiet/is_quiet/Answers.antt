use Rattle.std.proofs.Common.{sym, ◌∙◌}
use Rattle.std.specs.Option.{option_copied}
use Rattle.dp_meaning.proofs.FreeCalls.{free-quiet}
use Rattle.dp_meaning.proofs.quiet.is_quiet.Goals as goal

pub returns-then-is_free-clause-free : goal.returns-then-is_free-clause-free
returns-then-is_free-clause-free c = λ is.
    free-quiet c.args.lines.now (option_copied c.args.loud) c.args.statement.now
    (sym c.statement_is_quiet.ensures ∙ is)
