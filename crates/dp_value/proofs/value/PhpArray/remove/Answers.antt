use Rattle.std.proofs.Common.{sym}
use Rattle.dp_value.specs.Value.{data_of}
use Rattle.dp_value.proofs.RemovalLemmas.{nothing-removed, some-entry}
use Rattle.dp_value.proofs.value.PhpArray.remove.Goals as goal

pub returns-in_default-clause-removed : goal.returns-in_default-clause-removed
returns-in_default-clause-removed c =
    nothing-removed c.args.self.now c.args.key.now (sym c.in_default.ensures)

pub own-requires : goal.own-requires
own-requires c = some-entry c.args.self.now c.args.key.now (data_of c.in-Some.field-0.now) c.in-Some.ensures
