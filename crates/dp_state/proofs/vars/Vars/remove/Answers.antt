use Rattle.std.proofs.Common.{[], refl, arith}
use Rattle.dp_state.proofs.Rows.{distinct-without, far-without, near-without}
use Rattle.dp_state.proofs.vars.Vars.remove.Goals as goal

pub invariant_of-self : goal.invariant_of-self
invariant_of-self c = (
  omega (arith, c.self.invariant.0, c.remove.ensures.len, c.self.inside.near.ok.0, c.remove.new.self.ok.0),
  distinct-without c.args.name.now _ c.args.self.now _ c.self.view_is
      (near-without c.args.name.now c.self.inside.used c.self.inside.near.items _ c.args.self.now c.self.view_is
      c.deref.result.now c.deref.ensures.value c.in-Some.at c.in-Some.ensures c.remove.new.self.items
      c.remove.ensures.items)
      c.self.invariant.1,
)

pub invariant_of-self-in-Some-far : goal.invariant_of-self-in-Some-far
invariant_of-self-in-Some-far c = (
  c.self.invariant.0,
  distinct-without c.args.name.now _ c.args.self.now _ c.self.view_is
      (far-without c.args.name.now c.self.inside.used c.self.inside.near.items c.in-Some-far.far.value c.args.self.now
      (rw c.in-Some-far.is at c.self.view_is) c.deref.result.now c.deref.ensures.value c.in-None.ensures
      c.deref_mut.result.now c.deref_mut.ensures.value c.remove-in-Some-far.new.self
      c.remove-in-Some-far.ensures)
      c.self.invariant.1,
)

pub returns-in-Some : goal.returns-in-Some
returns-in-Some c =
    near-without c.args.name.now c.self.inside.used c.self.inside.near.items _ c.args.self.now c.self.view_is
    c.deref.result.now c.deref.ensures.value c.in-Some.at c.in-Some.ensures c.remove.new.self.items
    c.remove.ensures.items

pub returns-in-None-far : goal.returns-in-None-far
returns-in-None-far c =
    rw c.in-None-far.is (far-without c.args.name.now c.self.inside.used c.self.inside.near.items [] c.args.self.now
    (rw c.in-None-far.is at c.self.view_is) c.deref.result.now c.deref.ensures.value c.in-None.ensures [] refl []
    refl)

pub returns-in-Some-far : goal.returns-in-Some-far
returns-in-Some-far c =
    far-without c.args.name.now c.self.inside.used c.self.inside.near.items c.in-Some-far.far.value c.args.self.now
    (rw c.in-Some-far.is at c.self.view_is) c.deref.result.now c.deref.ensures.value c.in-None.ensures
    c.deref_mut.result.now c.deref_mut.ensures.value c.remove-in-Some-far.new.self
    c.remove-in-Some-far.ensures
