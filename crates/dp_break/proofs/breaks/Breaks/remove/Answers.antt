use Rattle.std.proofs.Common.{◌≡◌, ◌≤◌, ◌==◌, List, ap, length, not, rules, sym, subst, arith}
use Rattle.std.specs.Prelude.{filter}
use Rattle.std.proofs.lemmas.Fn.{filter_same}
use Rattle.dp_break.specs.declared.breakpoint.Breakpoint.{Breakpoint}
use Rattle.dp_break.specs.Changes.{without}
use Rattle.dp_break.specs.Tables.{IsTable, Table}
use Rattle.dp_break.proofs.TableLaws.{filtered_short, filtered_table, table}
use Rattle.dp_break.proofs.breaks.Breaks.remove.Goals as goal

kept : (c : goal.After-retain)
    → c.retain.new.self.items ≡ filter (λ b. not (b.id == c.args.id)) c.self.inside.held.items
kept c = filter_same _ _ _ (λ x b f t. search rules) _ _ c.retain.ensures.filtered

pub invariant_of-self : goal.invariant_of-self
invariant_of-self c =
    let held = c.self.inside.held.items in
    let room = c.self.invariant.1 in (
      subst (λ (l : List Breakpoint). IsTable (table l c.self.inside.next)) (sym (kept c))
          (filtered_table (λ b. not (b.id == c.args.id)) held c.self.inside.next c.self.invariant.0),
      subst (λ (l : List Breakpoint). length l ≤ length c.self.inside.marks.items) (sym (kept c))
          (let short = filtered_short (λ b. not (b.id == c.args.id)) held in omega arith),
    )

pub returns-clause-left : goal.returns-clause-left
returns-clause-left c =
    subst (λ (t : Table). table c.retain.new.self.items c.self.inside.next ≡ without c.args.id t) c.self.view_is
    (ap (λ l. table l c.self.inside.next) (kept c))
