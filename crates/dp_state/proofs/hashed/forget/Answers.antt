use Rattle.std.specs.Map.{keys_of}
use Rattle.std.specs.Str.{bytes_eq}
use Rattle.dp_state.proofs.Fronts.{fresh-behind, fresh-missing, position-absent, position-first}
use Rattle.dp_state.proofs.hashed.forget.Goals as goal

pub returns-in_default-clause-fresh : goal.returns-in_default-clause-fresh
returns-in_default-clause-fresh c =
    fresh-missing c.args.name.now c.args.gone.now c.args.slots.now.entries
    (position-absent (bytes_eq c.args.name.now) (keys_of c.args.slots.now.entries) c.in_default.ensures.index)

pub returns-else-row-gone-clause-fresh : goal.returns-else-row-gone-clause-fresh
returns-else-row-gone-clause-fresh c =
    fresh-behind c.args.name.now c.args.gone.now c.in-Some.row c.args.slots.now.entries
    (position-first (bytes_eq c.args.name.now) (keys_of c.args.slots.now.entries) c.in-Some.row
    c.in-Some.ensures.index)
    c.if-row-gone.false
