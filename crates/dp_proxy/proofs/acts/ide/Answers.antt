use Rattle.std.proofs.Common.{◌≡◌, List, [], ℕ, Some, refl, sym, subst, true}
use Rattle.dp_wire.specs.Frames.{has_no_nul}
use Rattle.dp_proxy.specs.declared.events.Act.TheVariants.{Ide}
use Rattle.dp_proxy.specs.declared.kept.Kept.TheVariants as keep
use Rattle.dp_proxy.specs.Pasts.{New, Asking}
use Rattle.dp_proxy.proofs.ActLaws.{ide_comes, without_effect_leads}
use Rattle.dp_proxy.proofs.acts.ide.Goals as goal

pub returns-clause-leads : goal.returns-clause-leads
returns-clause-leads c = λ journal.
    let same = c.in_ok-host.ensures in
    let none = c.new-heard.ensures.items in
    without_effect_leads journal journal New (Ide c.args.host.now) (Asking c.args.host.now [])
    (Some (keep.Asking c.in_ok-host.host c.new-heard.result))
    (ide_comes journal c.args.host.now) tt refl
    ((λ i. Asking (sym same i) (sym none i)), subst (λ (l : List ℕ). has_no_nul l ≡ true) (sym none) refl)
