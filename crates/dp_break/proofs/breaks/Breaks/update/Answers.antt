use Rattle.std.proofs.Common.{◌≡◌, sym, subst, ◌∙◌, arith}
use Rattle.std.specs.Prelude.{Ok}
use Rattle.dp_break.specs.Changes.{held_as, with_change}
use Rattle.dp_break.specs.Refusals.{update_kept}
use Rattle.dp_break.specs.Tables.{Table}
use Rattle.dp_break.proofs.TableLaws.{table}
use Rattle.dp_break.proofs.Updates.{IsChanged, are_changed}
use Rattle.dp_break.proofs.breaks.Breaks.update.Goals as goal

changes : (c : goal.After-change_held) → IsChanged c.args.resolve c.args.bundle.now c.args.id c.args.change
    c.self.inside.held.items c.self.inside.next c.change_held.new.held.items
changes c =
    are_changed c.args.resolve c.args.bundle.now c.args.id c.args.change c.self.inside.held.items c.self.inside.next
    c.in-Ok.line c.change_held.new.held.items c.self.invariant.0
    (subst (λ (t : Table). update_kept c.args.resolve c.args.bundle.now c.args.change (held_as t.held c.args.id)
    ≡ Ok c.in-Ok.line) (sym c.self.view_is) (sym c.update_kept.ensures ∙ c.in-Ok.is))
    c.change_held.ensures

pub invariant_of-self : goal.invariant_of-self
invariant_of-self c = ((changes c).sound, let long = (changes c).long in let most = c.self.invariant.1 in omega arith)

pub returns-in-Ok-clause-changed : goal.returns-in-Ok-clause-changed
returns-in-Ok-clause-changed c =
    subst (λ (t : Table). table c.change_held.new.held.items c.self.inside.next
    ≡ with_change c.args.resolve c.args.bundle.now c.args.id c.args.change t) c.self.view_is (changes c).left
