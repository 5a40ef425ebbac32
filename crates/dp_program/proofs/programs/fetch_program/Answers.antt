use Rattle.std.proofs.Common.{map, string_bytes}
use Rattle.dp_tree.specs.declared.bundle.Bundle.{Bundle}
use Rattle.dp_program.proofs.RunLaws.{complete_fetched, complete_unfetched, for_bundle, program_caused, program_made, requested_made}
use Rattle.dp_program.proofs.RunLaws.{program_named}
use Rattle.dp_program.proofs.programs.fetch_program.Goals as goal

pub make_program-requires : goal.make_program-requires
make_program-requires g c =
    for_bundle (g.H.Shelf.files c.args.shelf.now) (map string_bytes c.args.names.now) c.in-Ok.fetched
    c.requires c.in-Ok.ensures.ok

pub returns-in-Ok-clause-made : goal.returns-in-Ok-clause-made
returns-in-Ok-clause-made g c =
    program_made (g.H.Shelf.files c.args.shelf.now) (g.H.Shelf.faults c.args.shelf.now)
    (g.H.Shelf.faults c.fetch_files.new.shelf) (map string_bytes c.args.names.now)
    c.in-Ok.fetched c.in-Ok.ensures.ok c.make_program.result c.make_program.ensures.ok

pub returns-in-Ok-clause-named : goal.returns-in-Ok-clause-named
returns-in-Ok-clause-named g c =
    program_named (g.H.Shelf.files c.args.shelf.now) (g.H.Shelf.faults c.args.shelf.now)
    (g.H.Shelf.faults c.fetch_files.new.shelf) (map string_bytes c.args.names.now)
    c.in-Ok.fetched c.in-Ok.ensures.ok c.make_program.result c.make_program.ensures.ok

pub returns-in-Ok-clause-cause : goal.returns-in-Ok-clause-cause
returns-in-Ok-clause-cause g c =
    program_caused (g.H.Shelf.files c.args.shelf.now) (g.H.Shelf.faults c.args.shelf.now)
    (g.H.Shelf.faults c.fetch_files.new.shelf) (map string_bytes c.args.names.now)
    c.in-Ok.fetched c.in-Ok.ensures.ok c.make_program.result c.make_program.ensures.err

pub returns-in-Ok-clause-held : goal.returns-in-Ok-clause-held
returns-in-Ok-clause-held g c asked held =
    complete_fetched (g.H.Shelf.files c.args.shelf.now) (map string_bytes c.args.names.now) c.in-Ok.fetched
    (g.H.Shelf.faults c.args.shelf.now) (g.H.Shelf.faults c.fetch_files.new.shelf)
    asked c.make_program.result c.in-Ok.ensures.ok c.make_program.ensures.only held

pub returns-in-Ok-clause-asked : goal.returns-in-Ok-clause-asked
returns-in-Ok-clause-asked g c =
    requested_made c.in-Ok.fetched c.make_program.result _ _ _ c.make_program.ensures.err c.in-Ok.ensures.asked

pub returns-in-Err-clause-held : goal.returns-in-Err-clause-held
returns-in-Err-clause-held g c asked held =
    complete_unfetched Bundle (g.H.Shelf.files c.args.shelf.now) (map string_bytes c.args.names.now)
    (g.H.Shelf.faults c.args.shelf.now) (g.H.Shelf.faults c.fetch_files.new.shelf)
    asked c.in-Err.why c.in-Err.ensures.err c.in-Err.ensures.unread held
