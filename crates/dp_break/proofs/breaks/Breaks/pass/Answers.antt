use Rattle.std.proofs.Common.{◌≡◌, ◌≤◌, List, [], ◌∷◌, length, map, take, sym, ap, subst, ◌∙◌, arith}
use Rattle.dp_state.specs.declared.moments.Moment.{Moment}
use Rattle.dp_state.specs.declared.state.State.{State}
use Rattle.dp_break.specs.declared.breakpoint.Breakpoint.{Breakpoint}
use Rattle.dp_break.specs.Hits.{hits}
use Rattle.dp_break.specs.StopRule.{held_after, one_stops}
use Rattle.dp_break.specs.Tables.{IsTable, Table}
use Rattle.dp_break.proofs.TableLaws.{length-settled, settled_table, table}
use Rattle.dp_break.proofs.Settled.{AreMarks, settled-is, some-is}
use Rattle.dp_break.proofs.breaks.Breaks.pass.Goals as goal

abbrev here : goal.After-settle → Moment × State
here c = (c.args.moment.now, c.args.state.now)

marked : (c : goal.After-settle)
    → AreMarks c.args.bundle.now (here c) c.as_slice-2.result.now c.self.inside.held.items
marked c =
    ap (take (length c.self.inside.held.items)) c.as_slice-2.ensures.value
    ∙ subst (λ (l : List Breakpoint). take (length l) c.mark.new.marks.items ≡ map (hits c.args.bundle.now (here c)) l)
    c.as_slice.ensures.value c.in_ok-mark.ensures.marked

pub invariant_of-self-2 : goal.invariant_of-self-2
invariant_of-self-2 c =
    let held = c.self.inside.held.items in
    let marks = c.as_slice-2.result.now in
    let fewer : length c.settle.new.held.items ≤ length held =
    subst (λ (l : List Breakpoint). length l ≤ length held) (sym c.settle.ensures.left) (length-settled marks held)
    in
    let room = c.self.invariant.1 in (
      subst (λ (l : List Breakpoint). IsTable (table l c.self.inside.next)) (sym c.settle.ensures.left)
          (settled_table marks held c.self.inside.next c.self.invariant.0),
      omega arith,
    )

pub returns-clause-held : goal.returns-clause-held
returns-clause-held c =
    subst (λ (t : Table). table c.settle.new.held.items c.self.inside.next ≡ table
    (held_after c.args.bundle.now (here c ∷ []) t.held) t.next) c.self.view_is
    (ap (λ (l : List Breakpoint). table l c.self.inside.next) (c.settle.ensures.left
    ∙ settled-is c.args.bundle.now (here c) c.as_slice-2.result.now c.self.inside.held.items (marked c)))

pub returns-clause-stop : goal.returns-clause-stop
returns-clause-stop c =
    subst (λ (t : Table). c.settle.result ≡ one_stops c.args.bundle.now t.held [] (here c)) c.self.view_is
    (c.settle.ensures.stops
    ∙ some-is c.args.bundle.now (here c) c.as_slice-2.result.now c.self.inside.held.items (marked c))
