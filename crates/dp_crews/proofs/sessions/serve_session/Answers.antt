use Rattle.dp_crews.proofs.CountLaws.{counts_noted}
use Rattle.dp_crews.proofs.sessions.serve_session.Goals as goal

pub returns-clause-one : goal.returns-clause-one
returns-clause-one g c =
    counts_noted c.args.clerk.now c.serve_engine-end.new.clerk c.args.tally.now c.note.new.self _ _ _ _
    c.serve_engine-end.ensures.served c.note.ensures
