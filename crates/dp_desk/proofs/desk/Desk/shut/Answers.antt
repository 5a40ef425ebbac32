use Rattle.std.proofs.Common.{List, sym, subst}
use mathlib.Core.List.{IsPrefix}
use Rattle.dp_registry.specs.declared.entry.Entry.{Entry}
use Rattle.dp_desk.specs.Desks.{Known}
use Rattle.dp_desk.proofs.desk.Desk.shut.Goals as goal

pub returns-clause-seen : goal.returns-clause-seen
returns-clause-seen g c =
    subst (λ (js : List Entry). IsPrefix c.args.clerk.seen js) (sym c.close.ensures.same)
    (subst (λ (k : Known). IsPrefix k.seen c.take.result.registry) c.clerk.view_is c.take.ensures.seen)
