use Rattle.dp_program.proofs.RunLaws.{made_ok, made_err, names_made, only_ok, only_err}
use Rattle.dp_program.proofs.programs.make_program.Goals as goal

pub returns-in-Ok-clause-ok : goal.returns-in-Ok-clause-ok
returns-in-Ok-clause-ok c = made_ok c.args.fetched c.in-Ok.program c.in-Ok.ensures.made

pub returns-in-Ok-clause-named : goal.returns-in-Ok-clause-named
returns-in-Ok-clause-named c =
    names_made 0 c.args.fetched c.in-Ok.program.files (made_ok c.args.fetched c.in-Ok.program c.in-Ok.ensures.made)

pub returns-in-Ok-clause-only : goal.returns-in-Ok-clause-only
returns-in-Ok-clause-only c = λ asked makes. only_ok c.in-Ok.program c.in-Ok.program asked
    (c.in-Ok.ensures.only asked makes)

pub returns-in-Err-clause-err : goal.returns-in-Err-clause-err
returns-in-Err-clause-err c = rw c.from.ensures (made_err c.args.fetched c.in-Err.why c.in-Err.ensures.made)

pub returns-in-Err-clause-only : goal.returns-in-Err-clause-only
returns-in-Err-clause-only c = λ asked makes.
    rw c.from.ensures (only_err _ c.in-Err.why asked (c.in-Err.ensures.only asked makes))
