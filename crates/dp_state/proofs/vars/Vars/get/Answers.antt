use Rattle.std.proofs.Common.{[], refl, ◌∙◌}
use Rattle.dp_state.proofs.Rows.{far-slot, near-slot}
use Rattle.dp_state.proofs.vars.Vars.get.Goals as goal

pub returns-in-Some : goal.returns-in-Some
returns-in-Some c =
    near-slot c.args.name.now c.self.inside.used c.self.inside.near.items _ c.args.self.now c.self.view_is
    c.deref.result.now c.deref.ensures.value c.in-Some.at c.in-Some.ensures c.index.result.now c.index.ensures

pub returns-in-None-far : goal.returns-in-None-far
returns-in-None-far c =
    far-slot c.args.name.now c.self.inside.used c.self.inside.near.items [] c.args.self.now
    (rw c.in-None-far.is at c.self.view_is) c.deref.result.now c.deref.ensures.value c.in-None.ensures [] refl

pub returns-in-Some-far : goal.returns-in-Some-far
returns-in-Some-far c =
    c.get.ensures
    ∙ far-slot c.args.name.now c.self.inside.used c.self.inside.near.items c.in-Some-far.far.value c.args.self.now
    (rw c.in-Some-far.is at c.self.view_is) c.deref.result.now c.deref.ensures.value c.in-None.ensures
    c.deref-in-Some-far.result.now c.deref-in-Some-far.ensures
