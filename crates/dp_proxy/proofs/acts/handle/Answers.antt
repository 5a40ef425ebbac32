use Rattle.std.proofs.Common.{Option, Some, refl, ap, subst, ◌∙◌}
use Rattle.dp_proxy.specs.declared.kept.Kept.{Kept}
use Rattle.dp_proxy.specs.declared.kept.Kept.TheVariants as keep
use Rattle.dp_proxy.specs.Invariant.{IsKept}
use Rattle.dp_proxy.proofs.ActLaws.{without_effect_leads, over_still, over_comes}
use Rattle.dp_proxy.proofs.acts.handle.Goals as goal

pub returns-in-Some-Over-clause-leads : goal.returns-in-Some-Over-clause-leads
returns-in-Some-Over-clause-leads c = λ link kept.
    let j = c.args.registry.now in
    let over = subst (λ (k : Option Kept). IsKept k link) (c.in-Some-Over.is ∙ ap Some c.in-Some-Over.field-0-is) kept
    in
    without_effect_leads j j link c.args.act.now link (Some keep.Over) (over_still j link c.args.act.now over)
    (over_comes link c.args.act.now over) refl over
