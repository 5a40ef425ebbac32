use Rattle.std.proofs.Common.{rules, ◌≡◌, ◌==◌, ◌∙◌, sym, ap, length}
use Rattle.dp_registry.proofs.Keys.{emptied}
use Rattle.dp_registry.specs.inner.Tables.{sessions_of}
use Rattle.dp_registry.proofs.sessions.LiveSessions.remove.Goals as goal

pub returns-then-leave : goal.returns-then-leave
returns-then-leave c = λ other.
    let none = ap (λ t. length (sessions_of t c.args.key.now) == 0) c.self.view_is ∙ sym c.leave.ensures.none
    ∙ c.if-leave.true in
    let kept = emptied c.args.key.now other c.self.inside.sessions.entries c.swap_remove.new.self.entries none
    (c.swap_remove.ensures.updates.0 other) in
    let is : c.match-swap_remove.self ≡ c.swap_remove.new.self.entries = search rules in
    ap (λ t. sessions_of t other) is ∙ kept ∙ ap (λ t. sessions_of t other) c.self.view_is ∙ c.leave.ensures.left other
