use Rattle.std.proofs.Common.{[], ◌∷◌, ◌++◌, refl, sym, subst}
use Rattle.dp_proxy.specs.declared.events.Act.{Act}
use Rattle.dp_proxy.specs.declared.events.Act.TheVariants.{Closed}
use Rattle.dp_proxy.specs.inner.Lanes.{FollowBoth}
use Rattle.dp_proxy.specs.inner.Acts.{Passes}
use Rattle.dp_proxy.proofs.PassLaws.{follow_idle}
use Rattle.dp_proxy.proofs.passes.pass.Goals as goal

pub returns-in-Closed : goal.returns-in-Closed
returns-in-Closed c = λ acts follow.
    subst (λ (a : Act). Passes acts a c.close.result × FollowBoth (acts ++ a ∷ []) c.args.up.now c.args.down.now)
    (sym c.in-Closed.is)
    (c.close.ensures acts follow, follow_idle acts Closed c.args.up.now c.args.down.now refl refl follow)
