-- The program has the names of the files that the words name.
use Rattle.std.proofs.Common.{rules}
use Rattle.dp_words.proofs.NameLaws.{are_named}
use Rattle.dp_rows_heard.proofs.sessions.differences_over.Goals as goal

pub serve_polled-done-requires-clause-names : goal.serve_polled-done-requires-clause-names
serve_polled-done-requires-clause-names g c =
    let named =
    are_named c.args.talk.program.files.now c.args.bundle.now c.requires.named c.requires.session.files
    in search rules
