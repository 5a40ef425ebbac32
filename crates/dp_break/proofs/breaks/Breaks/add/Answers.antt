use Rattle.std.proofs.Common.{◌≡◌, sym, subst, ◌∙◌}
use Rattle.std.specs.Prelude.{Ok}
use Rattle.dp_break.specs.Refusals.{place_kept}
use Rattle.dp_break.specs.Tables.{IsSound, Table}
use Rattle.dp_break.proofs.TableLaws.{table}
use Rattle.dp_break.proofs.Requests.{sound_request, sure_formed}
use Rattle.dp_break.proofs.breaks.Breaks.add.Goals as goal

pub hold-requires-clause-sound : goal.hold-requires-clause-sound
hold-requires-clause-sound c =
    let line = c.in-Ok.line in
    let accepted = subst (λ (t : Table). place_kept c.args.resolve c.args.bundle.now t c.args.request ≡ Ok line)
    (sym c.self.view_is) (sym c.place_kept.ensures ∙ c.in-Ok.is) in
    subst IsSound (sym c.new_breakpoint.ensures)
    (sound_request c.args.resolve c.args.bundle.now (table c.self.inside.held.items c.self.inside.next) c.args.request
    c.in_ok-tree.tree line c.requires accepted c.in_ok-tree.ensures.found c.in_ok-tree.ensures.formed)

pub returns-in_err-hold-clause-surely : goal.returns-in_err-hold-clause-surely
returns-in_err-hold-clause-surely c =
    sure_formed c.args.resolve c.args.bundle.now c.args.self.now c.args.request _ _
    (sym c.place_kept.ensures ∙ c.in-Ok.is) c.in_ok-tree.ensures.formed

pub returns-clause-surely : goal.returns-clause-surely
returns-clause-surely c =
    sure_formed c.args.resolve c.args.bundle.now c.args.self.now c.args.request _ _
    (sym c.place_kept.ensures ∙ c.in-Ok.is) c.in_ok-tree.ensures.formed
