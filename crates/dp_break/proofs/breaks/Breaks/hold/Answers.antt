use Rattle.std.proofs.Common.{◌≡◌, ◌+◌, ◌<◌, List, [], ◌∷◌, length, sym, ap, subst, arith}
use Rattle.std.proofs.lemmas.List.{length-append}
use Rattle.dp_break.specs.declared.breakpoint.Breakpoint.{Breakpoint}
use Rattle.dp_break.specs.Tables.{IsTable, Table, breakpoint_limit, last_id}
use Rattle.dp_break.proofs.TableLaws.{new_table, table}
use Rattle.dp_break.proofs.breaks.Breaks.hold.Goals as goal

pub invariant_of-self-2 : goal.invariant_of-self-2
invariant_of-self-2 c =
    let held = c.self.inside.held.items in
    let next = c.self.inside.next in
    let room = subst (λ (t : Table). length t.held < breakpoint_limit) (sym c.self.view_is) c.requires.room in
    let below = subst (λ (t : Table). t.next < last_id) (sym c.self.view_is) c.requires.id in
    let numbered = subst (λ (t : Table). c.args.breakpoint.id ≡ t.next) (sym c.self.view_is) c.requires.numbered in
    let pushed = c.in_ok-push.ensures.items in
    let longer = ap length pushed in
    let sum = length-append held (c.args.breakpoint ∷ []) in
    let free = c.in_ok-make_room.ensures.room in (
      subst (λ (l : List Breakpoint). IsTable (table l (next + 1))) (sym pushed)
          (new_table held next c.args.breakpoint c.self.invariant.0 room below numbered c.requires.sound),
      omega arith,
    )
