use Rattle.std.proofs.Common.{ℕ, List, [], take, refl, ap, ◌∙◌}
use Rattle.dp_state.specs.Variables.{with_slot}
use Rattle.dp_state.proofs.Rows.{distinct-with_slot, new-set, next-set}
use Rattle.dp_state.proofs.vars.Vars.push.Goals as goal

pub invariant_of-self-in-Some : goal.invariant_of-self-in-Some
invariant_of-self-in-Some c = (
  c.self.invariant.0,
  distinct-with_slot c.args.name.now c.args.slot _ c.args.self.now _ c.self.view_is
      (new-set c.args.name.now c.self.inside.used c.self.inside.near.items c.in-Some.far.value c.args.self.now
      (rw c.in-Some.is at c.self.view_is) c.deref_mut.result.now c.deref_mut.ensures.value
      c.requires c.args.slot c.set.new.self (c.in_ok-set-in-Some.ensures.ok ∙ ap (λ (name : List ℕ). with_slot
      c.deref_mut.result.now name c.args.slot) c.in_ok-try_clone-in-Some.ensures))
      c.self.invariant.1,
)

pub invariant_of-self-then-self-lt-NEAR : goal.invariant_of-self-then-self-lt-NEAR
invariant_of-self-then-self-lt-NEAR c = (
  c.push_row.ensures.within,
  rw c.in-None.is (distinct-with_slot c.args.name.now c.args.slot _ c.args.self.now _ c.self.view_is
      (next-set c.args.name.now c.self.inside.used c.self.inside.near.items c.args.self.now
      (rw c.in-None.is at c.self.view_is) c.requires c.args.slot
      (take c.push_row.new.used c.push_row.new.rows.items) c.in_ok-push_row-in-None.ensures.ok)
      c.self.invariant.1),
)

pub invariant_of-self-in-None-2-2 : goal.invariant_of-self-in-None-2-2
invariant_of-self-in-None-2-2 c = (
  c.self.invariant.0,
  distinct-with_slot c.args.name.now c.args.slot _ c.args.self.now _ c.self.view_is
      (new-set c.args.name.now c.self.inside.used c.self.inside.near.items [] c.args.self.now
      (rw c.in-None.is at c.self.view_is) [] refl c.requires c.args.slot
      c.in_ok-first_far-in-None-2.field-0.value c.in_ok-first_far-in-None-2.ensures)
      c.self.invariant.1,
)

pub returns-in_ok-set-in-Some-clause-ok : goal.returns-in_ok-set-in-Some-clause-ok
returns-in_ok-set-in-Some-clause-ok c =
    new-set c.args.name.now c.self.inside.used c.self.inside.near.items c.in-Some.far.value c.args.self.now
    (rw c.in-Some.is at c.self.view_is) c.deref_mut.result.now c.deref_mut.ensures.value
    c.requires c.args.slot c.set.new.self (c.in_ok-set-in-Some.ensures.ok ∙ ap (λ (name : List ℕ). with_slot
    c.deref_mut.result.now name c.args.slot) c.in_ok-try_clone-in-Some.ensures)

pub returns-in_ok-push_row-in-None-clause-ok : goal.returns-in_ok-push_row-in-None-clause-ok
returns-in_ok-push_row-in-None-clause-ok c =
    rw c.in-None.is (next-set c.args.name.now c.self.inside.used c.self.inside.near.items c.args.self.now
    (rw c.in-None.is at c.self.view_is) c.requires c.args.slot
    (take c.push_row.new.used c.push_row.new.rows.items) c.in_ok-push_row-in-None.ensures.ok)

pub returns-in_ok-first_far-in-None-2-clause-ok : goal.returns-in_ok-first_far-in-None-2-clause-ok
returns-in_ok-first_far-in-None-2-clause-ok c =
    new-set c.args.name.now c.self.inside.used c.self.inside.near.items [] c.args.self.now
    (rw c.in-None.is at c.self.view_is) [] refl c.requires c.args.slot
    c.in_ok-first_far-in-None-2.field-0.value c.in_ok-first_far-in-None-2.ensures
