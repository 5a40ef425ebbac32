use Rattle.std.proofs.Common.{◌≡◌, true, is_some, IfOk, refl, sym, ap, subst, ◌∙◌}
use Rattle.std.proofs.lemmas.Option.{same_Some}
use Rattle.dp_events.specs.declared.event.Act.{Act}
use Rattle.dp_registry.specs.Verdicts.{admit_verdict}
use Rattle.dp_proxy.specs.Pasts.{New, Lead, lead, admission}
use Rattle.dp_proxy.proofs.ActLaws.{ide_comes, engine_comes}
use Rattle.dp_world.specs.Engines.{act_of}
use Rattle.dp_world.specs.inner.KeptLinks.{IsRegistration, IsShownAt}
use Rattle.dp_world.proofs.links.opened.Goals as goal

pub returns-in_ok-host-in-Ide : goal.returns-in_ok-host-in-Ide
returns-in_ok-host-in-Ide g c = λ journal is told. (
  refl,
  subst (λ (a : Act). IsRegistration (lead journal New (act_of (g.A.Engines.known c.args.engines.now) New a)).link
      c.in_ok-host-in-Ide.host c.of-reply.result) (sym c.in-Ide.is)
      (subst (λ (t : Lead). IsRegistration t.link c.in_ok-host-in-Ide.host c.of-reply.result)
      (sym (ide_comes journal c.in-Ide.host))
      (c.in_ok-host-in-Ide.ensures, c.of-reply.ensures ∙ c.new.ensures.items)),
)

pub returns-in-Engine : goal.returns-in-Engine
returns-in-Engine g c = λ journal is told.
    let key = c.in-Engine.key in
    let verdict = admit_verdict journal key in
    let turned = ap (λ (a : Act). lead journal New (act_of (g.A.Engines.known c.args.engines.now) New a)) c.in-Engine.is
    ∙ engine_comes journal key verdict refl in
    let same : c.args.effect ≡ admission verdict = sym (same_Some (admission verdict) c.args.effect
    (sym (ap (λ (t : Lead). t.effect) turned) ∙ told)) in
    subst (λ (t : Lead). IfOk c.joined.result (λ kept. (is_some kept ≡ true)
    × IsShownAt (g.A.Engines.known c.args.engines.now) t.link kept)) (sym turned)
    (c.joined.ensures verdict same)
