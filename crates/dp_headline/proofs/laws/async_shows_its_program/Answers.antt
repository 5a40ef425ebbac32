use Rattle.std.proofs.Common.{Ok}
use Rattle.dp_headline.proofs.Listened.{shows_heard}
use Rattle.dp_headline.proofs.laws.async_shows_its_program.Goals as goal

pub returns-clause-done : goal.returns-clause-done
returns-clause-done c = λ status address key ask old new done.
    shows_heard done.served address key ask old new done.is (Ok status) done.reported tt

pub returns-clause-ended : goal.returns-clause-ended
returns-clause-ended c = λ report served address key ask old new is reported sound.
    shows_heard served address key ask old new is report reported sound
