use Rattle.std.proofs.Common.{Ok, Err}
use Rattle.dp_headline.proofs.Adapted.{shows_program}
use Rattle.dp_headline.proofs.laws.dap_shows_its_program.Goals as goal

pub returns-clause-done : goal.returns-clause-done
returns-clause-done c = λ status ask old new done.
    shows_program done.served ask old new done.is (Ok status) done.reported tt

pub returns-clause-ended : goal.returns-clause-ended
returns-clause-ended c = λ why name ask old new so sent sufficed.
    shows_program so.served ask old new so.is (Err (why, name)) so.reported (sent, sufficed)
