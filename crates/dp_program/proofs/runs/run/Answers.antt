use Rattle.std.proofs.Common.{map, string_bytes, refl}
use Rattle.dp_outside.specs.Changes.{change}
use Rattle.dp_program.proofs.RunLaws.{complete_none, complete_run, ends_run, requested_none, requested_run, small_status}
use Rattle.dp_program.proofs.runs.run.Goals as goal

pub returns-in-Ok-clause-ends : goal.returns-in-Ok-clause-ends
returns-in-Ok-clause-ends g c =
    ends_run (g.H.Shelf.files c.args.shelf.now) (g.H.Shelf.faults c.args.shelf.now)
    (g.H.Shelf.faults c.fetch_program.new.shelf) (map string_bytes c.args.names.now) c.args.bound
    (change g.K.Sink.taken g.K.Sink.faults c.args.out.now c.run_program.new.out) c.in-Ok.program c.in-Ok.ensures.made
    c.run_program.result c.run_program.ensures.ends

pub returns-in-Ok-clause-status : goal.returns-in-Ok-clause-status
returns-in-Ok-clause-status g c =
    small_status c.in-Ok.program c.args.bound
    (change g.K.Sink.taken g.K.Sink.faults c.args.out.now c.run_program.new.out) c.run_program.result
    c.run_program.ensures.ends

pub returns-in-Ok-clause-held : goal.returns-in-Ok-clause-held
returns-in-Ok-clause-held g c asked held =
    complete_run asked c.in-Ok.program c.args.bound
    (change g.K.Sink.taken g.K.Sink.faults c.args.out.now c.run_program.new.out)
    (g.H.Shelf.faults c.args.shelf.now) (g.H.Shelf.faults c.fetch_program.new.shelf) c.run_program.result
    (c.in-Ok.ensures.held asked held) c.run_program.ensures.ends

pub returns-in-Ok-clause-asked : goal.returns-in-Ok-clause-asked
returns-in-Ok-clause-asked g c =
    requested_run c.in-Ok.program c.args.bound
    (change g.K.Sink.taken g.K.Sink.faults c.args.out.now c.run_program.new.out) c.run_program.result
    (g.H.Shelf.fetched c.args.shelf.now) (g.H.Shelf.fetched c.fetch_program.new.shelf)
    (map string_bytes c.args.names.now) c.in-Ok.ensures.asked c.run_program.ensures.ends

pub returns-in-Err-clause-ends : goal.returns-in-Err-clause-ends
returns-in-Err-clause-ends g c = (c.in-Err.ensures.cause, (refl, refl))

pub returns-in-Err-clause-asked : goal.returns-in-Err-clause-asked
returns-in-Err-clause-asked g c =
    requested_none c.in-Err.why (g.H.Shelf.fetched c.args.shelf.now) (g.H.Shelf.fetched c.fetch_program.new.shelf)
    (map string_bytes c.args.names.now) c.in-Err.ensures.asked

pub returns-in-Err-clause-held : goal.returns-in-Err-clause-held
returns-in-Err-clause-held g c asked held =
    complete_none asked c.in-Err.why (g.H.Shelf.faults c.args.shelf.now) (g.H.Shelf.faults c.fetch_program.new.shelf)
    (c.in-Err.ensures.held asked held)
