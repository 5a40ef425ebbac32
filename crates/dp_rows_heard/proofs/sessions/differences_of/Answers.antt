-- The words are those of a session, so its files have names of files.
use Rattle.std.proofs.Common.{rules}
use Rattle.dp_words.specs.Words.{IsSession}
use Rattle.dp_words.specs.Commands.{invocation_seen}
use Rattle.dp_words.proofs.NameLaws.{names_of}
use Rattle.dp_rows_heard.proofs.sessions.differences_of.Goals as goal

pub fetch_program-requires : goal.fetch_program-requires
fetch_program-requires c =
    let session : IsSession c.in-Some-Talk.talk.key.now (invocation_seen c.in-Some-Talk.talk.program) = search rules in
    names_of c.in-Some-Talk.talk.program.files.now session.files
