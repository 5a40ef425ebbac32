use Rattle.std.proofs.Common.{List, ap, ◌∙◌}
use Rattle.dp_registry.specs.declared.entry.Entry.{Entry}
use Rattle.dp_registry.specs.Journal.{least, live_under}
use Rattle.dp_registry.proofs.JournalLaws.{first_least}
use Rattle.dp_registry.proofs.registry.Registry.first_live.Goals as goal

pub returns : goal.returns
returns c =
    let old = c.self.inside in
    c.first.ensures
    ∙ first_least old.journal.items old.held old.under old.admissions.items old.living c.self.invariant.0 c.args.key.now
    ∙ ap (λ (js : List Entry). least (live_under c.args.key.now js)) c.self.view_is
