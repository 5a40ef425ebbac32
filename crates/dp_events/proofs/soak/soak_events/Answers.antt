use Rattle.std.proofs.Common.{◌≡◌, [], ◌++◌, ap, sym, subst, ◌∙◌}
use Rattle.dp_events.specs.Lists.{AllFit}
use Rattle.dp_events.specs.Soak.{registrations, sessions, soak}
use Rattle.dp_events.proofs.SoakLaws.{soak_fits}
use Rattle.dp_events.proofs.soak.soak_events.Goals as goal

pub invariant_of-result : goal.invariant_of-result
invariant_of-result c =
    let is : c.put_sessions.new.events.items ≡ soak c.args.count c.args.seed =
    c.in_ok-put_sessions.ensures ∙ ap (λ l. l ++ sessions 9 c.args.count c.args.seed)
    (c.in_ok-put_registrations.ensures ∙ ap (λ l. l ++ registrations 1 8) c.new-events.ensures.items) in
    subst (AllFit []) (sym is) (soak_fits c.args.count c.args.seed c.requires.most)
