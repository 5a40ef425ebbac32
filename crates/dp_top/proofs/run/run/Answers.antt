use Rattle.std.proofs.Common.{ℕ, Ok, Err, inl}
use Rattle.std.specs.Prelude.{⊤}
use Rattle.dp_program.specs.Runs.{of_program}
use Rattle.dp_words.specs.Commands.{invocation_seen}
use Rattle.dp_words.proofs.NameLaws.{names_of}
use Rattle.dp_top.proofs.RunReports.{complete_run, complete_status, fetched}
use Rattle.dp_top.proofs.run.run.Goals as goal

pub run-requires : goal.run-requires
run-requires g c = names_of c.args.program.files.now c.requires

pub returns-in-Ok-clause-held : goal.returns-in-Ok-clause-held
returns-in-Ok-clause-held g c asked held =
    complete_status asked c.in-Ok.status (g.H.Shelf.faults c.args.shelf.now) (g.H.Shelf.faults c.run.new.shelf)
    (c.in-Ok.ensures.held asked held)

pub returns-in-Err-clause-held : goal.returns-in-Err-clause-held
returns-in-Err-clause-held g c asked held =
    complete_run c.args.program.bound asked c.in-Err.why c.refusal_of_run.result (g.H.Shelf.faults c.args.shelf.now)
    (g.H.Shelf.faults c.run.new.shelf) c.refusal_of_run.ensures.0
    (c.in-Err.ensures.held asked held)

pub returns-in-Err-clause-ends : goal.returns-in-Err-clause-ends
returns-in-Err-clause-ends g c =
    record { why = c.in-Err.why; caused = c.in-Err.ensures.ends; reported = inl c.refusal_of_run.ensures }

pub returns-in-Ok-clause-fetched : goal.returns-in-Ok-clause-fetched
returns-in-Ok-clause-fetched g c =
    fetched ⊤ (Ok tt) (g.H.Shelf.fetched c.args.shelf.now) (g.H.Shelf.fetched c.run.new.shelf)
    (invocation_seen c.args.program) c.in-Ok.ensures.asked

pub returns-in-Err-clause-fetched : goal.returns-in-Err-clause-fetched
returns-in-Err-clause-fetched g c =
    fetched ⊤ (of_program {A = ℕ} (Err c.in-Err.why)) (g.H.Shelf.fetched c.args.shelf.now)
    (g.H.Shelf.fetched c.run.new.shelf) (invocation_seen c.args.program) c.in-Err.ensures.asked
