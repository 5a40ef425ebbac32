use borrow.Follows.Closed.{read_of}
use Rattle.std.proofs.Common.{◌≡◌, ◌⊎◌, [], ◌++◌, take, length-set, inl, inr, refl, sym, subst, ◌∙◌, arith}
use Rattle.std.specs.List.{IsDistinct}
use Rattle.std.specs.Map.{keys_of}
use Rattle.std.specs.Option.{ghost_name_of}
use Rattle.std.specs.Str.{bytes_eq}
use Rattle.dp_state.specs.declared.vars.Slot.{Slot}
use Rattle.dp_state.specs.Variables.{Variables}
use Rattle.dp_state.proofs.Rows.{distinct-with_slot, far-seen, far-set, far-slot, near-set, near-slot}
use Rattle.dp_state.proofs.vars.Vars.slot_mut.Goals as goal

pub invariant_of-self-lent : goal.invariant_of-self-lent
invariant_of-self-lent c w = (
  omega (arith, c.self.invariant.0, length-set c.self.inside.near.items c.in-Some.at (c.index_mut.result.now.0, w)),
  distinct-with_slot c.args.name.now w _ c.args.self.now _ c.self.view_is
      (near-set c.args.name.now c.self.inside.used c.self.inside.near.items _ c.args.self.now c.self.view_is
      c.deref.result.now c.deref.ensures.value c.in-Some.at c.in-Some.ensures c.index_mut.result.now
      c.index_mut.ensures.value w)
      c.self.invariant.1,
)

pub invariant_of-self-lent-in-Some-far : goal.invariant_of-self-lent-in-Some-far
invariant_of-self-lent-in-Some-far c o =
    let far : Variables = c.deref_mut.result.now in
    let same : far ≡ c.in-Some-far.far.value = rw c.in-Some-far.is at c.deref_mut.ensures.value in
    let view : take c.self.inside.used c.self.inside.near.items ++ c.in-Some-far.far.value ≡ c.args.self.now =
    rw c.in-Some-far.is at c.self.view_is in
    rw c.in-Some-far.is (
      λ w. (
        c.self.invariant.0,
        distinct-with_slot c.args.name.now w _ c.args.self.now _ c.self.view_is
            (far-set c.args.name.now c.self.inside.used c.self.inside.near.items c.in-Some-far.far.value
            c.args.self.now view c.deref.result.now c.deref.ensures.value c.in-None.ensures far same w)
            c.self.invariant.1,
      ),
      (
        c.self.invariant.0,
        subst (λ (es : Variables). IsDistinct bytes_eq (keys_of es))
            (c.self.view_is
            ∙ sym (far-seen c.args.name.now c.self.inside.used c.self.inside.near.items c.in-Some-far.far.value
            c.args.self.now view far same))
            c.self.invariant.1,
      ),
    )

lent : {N W V L : Type 0} {name : N} {f g : W → V} → ((w : W) → f w ≡ g w)
    → ◌≡◌ {A = (N × (W → V)) ⊎ L} (inl (name, f)) (inl (name, g))
lent {name = name} same = λ t. inl (name, λ w. same w t)

pub returns-in-Some : goal.returns-in-Some
returns-in-Some c = (
  lent (near-set c.args.name.now c.self.inside.used c.self.inside.near.items _ c.args.self.now c.self.view_is
      c.deref.result.now c.deref.ensures.value c.in-Some.at c.in-Some.ensures c.index_mut.result.now
      c.index_mut.ensures.value),
  record {
    writes_back = tt;
    value = near-slot c.args.name.now c.self.inside.used c.self.inside.near.items _ c.args.self.now c.self.view_is
        c.deref.result.now c.deref.ensures.value c.in-Some.at c.in-Some.ensures c.index_mut.result.now
        c.index_mut.ensures.value;
  },
)

pub returns-in-None-far : goal.returns-in-None-far
returns-in-None-far c = (
  λ t. inr (c.self.view_is t),
  record {
    writes_back = tt;
    value = far-slot c.args.name.now c.self.inside.used c.self.inside.near.items [] c.args.self.now
        (rw c.in-None-far.is at c.self.view_is) c.deref.result.now c.deref.ensures.value c.in-None.ensures [] refl;
  },
)

pub returns-in-Some-far : goal.returns-in-Some-far
returns-in-Some-far c =
    let far : Variables = c.deref_mut.result.now in
    let same : far ≡ c.in-Some-far.far.value = rw c.in-Some-far.is at c.deref_mut.ensures.value in
    let view : take c.self.inside.used c.self.inside.near.items ++ c.in-Some-far.far.value ≡ c.args.self.now =
    rw c.in-Some-far.is at c.self.view_is in
    rw c.in-Some-far.is (
      λ t.
          read_of (ghost_name_of c.slot_mut.result)
          (λ (w : Slot). far-set c.args.name.now c.self.inside.used c.self.inside.near.items c.in-Some-far.far.value
          c.args.self.now view c.deref.result.now c.deref.ensures.value c.in-None.ensures far same w t)
          (far-seen c.args.name.now c.self.inside.used c.self.inside.near.items c.in-Some-far.far.value
          c.args.self.now view far same t),
      record {
        writes_back = tt;
        value = c.slot_mut.ensures.value
            ∙ far-slot c.args.name.now c.self.inside.used c.self.inside.near.items c.in-Some-far.far.value
            c.args.self.now view c.deref.result.now c.deref.ensures.value c.in-None.ensures far same;
      },
    )
