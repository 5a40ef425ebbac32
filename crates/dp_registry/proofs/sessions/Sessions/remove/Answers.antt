use Rattle.std.proofs.Common.{◌≡◌, ◌==◌, rules, not, filter, subst, List, ℕ}
use Rattle.std.proofs.lemmas.Fn.{filter_same}
use Rattle.dp_registry.proofs.sessions.Sessions.remove.Goals as goal

pub returns : goal.returns
returns c =
    subst (λ (ns : List ℕ). c.retain.new.self.items ≡ filter (λ s. not (c.args.session == s)) ns) c.self.view_is
    (filter_same _ _ _ (λ x b f' k. search rules) _ _ c.retain.ensures.filtered)
