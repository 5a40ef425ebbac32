use Rattle.std.proofs.Common.{None, refl, sym, subst}
use Rattle.dp_proxy.specs.declared.events.Act.{Act}
use Rattle.dp_proxy.specs.declared.events.Act.TheVariants.{Given, Moved, Closed}
use Rattle.dp_proxy.specs.Pasts.{New}
use Rattle.dp_proxy.specs.inner.Acts.{Leads}
use Rattle.dp_proxy.proofs.ActLaws.{without_effect_leads, given_before, moved_before, closed_before}
use Rattle.dp_proxy.proofs.acts.come.Goals as goal

pub returns-in-Given-clause-leads : goal.returns-in-Given-clause-leads
returns-in-Given-clause-leads c =
    let j = c.args.registry.now in
    subst (Leads j New c.args.act.now j) (sym c.unmade.ensures)
    (subst (λ (a : Act). Leads j New a j _) (sym c.in-Given.is)
    (without_effect_leads j j New (Given c.in-Given.field-0) New None (given_before j c.in-Given.field-0) tt refl refl))

pub returns-in-Moved-clause-leads : goal.returns-in-Moved-clause-leads
returns-in-Moved-clause-leads c =
    let j = c.args.registry.now in
    subst (Leads j New c.args.act.now j) (sym c.unmade-in-Moved.ensures)
    (subst (λ (a : Act). Leads j New a j _) (sym c.in-Moved.is)
    (without_effect_leads j j New (Moved c.in-Moved.field-0) New None (moved_before j c.in-Moved.field-0) tt refl refl))

pub returns-in-Closed-clause-leads : goal.returns-in-Closed-clause-leads
returns-in-Closed-clause-leads c =
    let j = c.args.registry.now in
    subst (Leads j New c.args.act.now j) (sym c.unmade-in-Closed.ensures)
    (subst (λ (a : Act). Leads j New a j _) (sym c.in-Closed.is)
    (without_effect_leads j j New Closed New None (closed_before j) tt refl refl))
