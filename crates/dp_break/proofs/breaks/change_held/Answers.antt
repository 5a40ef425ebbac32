use Rattle.std.proofs.Common.{◌<◌, ◌==◌, ap, if◌then◌else◌, length, set, sym, ◌∙◌, arith}
use Rattle.std.proofs.lemmas.List.Edits.{map_over_more}
use Rattle.dp_break.specs.declared.breakpoint.Breakpoint.{Breakpoint}
use Rattle.dp_break.specs.Changes.{changed_to}
use Rattle.dp_break.proofs.breaks.change_held.Goals as goal

pub loop-breakpoint-preserved : goal.loop-breakpoint-preserved
loop-breakpoint-preserved c =
    let items = c.loop-breakpoint.breakpoint-items in
    let at = c.loop-breakpoint.breakpoint-index in
    let old = c.deref_mut-breakpoint-items.result.now in
    let within : at < length old = omega arith in
    let change : Breakpoint → Breakpoint = λ b. if b.id == c.args.id
    then changed_to c.args.change c.args.line c.args.resolve b else b in
    ap (λ (b : Breakpoint). set items at b) (c.change_one.ensures ∙ ap change (sym c.breakpoint-item.is))
    ∙ map_over_more change old items at c.breakpoint-item.result within c.loop-breakpoint.invariant c.breakpoint-item.is
