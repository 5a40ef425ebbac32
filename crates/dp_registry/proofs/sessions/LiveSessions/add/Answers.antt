use Rattle.std.proofs.Common.{ap, ◌∙◌, sym}
use Rattle.std.specs.Map.{set_value}
use Rattle.std.specs.Str.{bytes_eq}
use Rattle.dp_registry.proofs.Keys.{set_same, on_err}
use Rattle.dp_registry.proofs.sessions.LiveSessions.add.Goals as goal

pub returns-in-Some-clause-err : goal.returns-in-Some-clause-err
returns-in-Some-clause-err c =
    on_err c.add.result c.add.ensures.err (λ same.
    (c.get_mut.follows.holds c.add.new.self).0
    ∙ ap (set_value (bytes_eq c.args.key) c.self.inside.sessions.entries) same
    ∙ set_same (bytes_eq c.args.key) c.in-Some.sessions.now c.self.inside.sessions.entries (sym c.in-Some.ensures.value)
    ∙ c.self.view_is)
