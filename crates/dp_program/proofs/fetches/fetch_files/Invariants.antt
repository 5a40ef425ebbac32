use Rattle.std.proofs.Common.{◌≡◌, ◌≤◌, map, take, string_bytes}
use Rattle.dp_outside.specs.Reports.{grown}
use Rattle.dp_program.specs.Programs.{AreFetched}
use Rattle.dp_program.proofs.fetches.fetch_files.Given as goal

abbrev pub invariant-loop-name : goal.invariant-loop-name
invariant-loop-name g l =
    (g.H.Shelf.faults l.fn.shelf ≤ g.H.Shelf.faults l.shelf)
    × (g.H.Shelf.files l.shelf ≡ g.H.Shelf.files l.fn.shelf)
    × AreFetched (g.H.Shelf.files l.fn.shelf) (map string_bytes (take l.name-index l.names)) l.fetched.items
    × (g.H.Shelf.fetched l.shelf ≡ grown (g.H.Shelf.fetched l.fn.shelf) (map string_bytes (take l.name-index l.names)))
