use Rattle.std.proofs.Common.{refl}
use Rattle.dp_state.specs.inner.Parts.{assigned_in}
use Rattle.dp_state.proofs.VariableSteps.{assigned-at, on_err, on_ok, on_refused, on_sure}
use Rattle.dp_state.proofs.state.State.assign.Goals as goal

pub returns-clause-ok : goal.returns-clause-ok
returns-clause-ok c =
    on_ok c.home-at.result c.args.self.now _ _ c.assign_in.new.vars c.own_mut.ensures.value refl _
    (assigned_in c.args.name.now c.args.keys.now c.args.push c.args.value)
    (assigned-at c.args.self.now c.args.level c.args.name.now c.home-at.result c.home-at.ensures.home c.args.keys.now
    c.args.push c.args.value) c.assign_in.result c.assign_in.ensures.ok

pub returns-clause-refused : goal.returns-clause-refused
returns-clause-refused c =
    on_refused c.home-at.result c.args.self.now _ _ c.assign_in.new.vars c.own_mut.ensures.value refl _
    (assigned_in c.args.name.now c.args.keys.now c.args.push c.args.value)
    (assigned-at c.args.self.now c.args.level c.args.name.now c.home-at.result c.home-at.ensures.home c.args.keys.now
    c.args.push c.args.value) c.assign_in.result c.assign_in.ensures.refused

pub returns-clause-sure : goal.returns-clause-sure
returns-clause-sure c =
    on_sure c.home-at.result c.args.self.now _ _ c.assign_in.new.vars c.own_mut.ensures.value refl _
    (assigned_in c.args.name.now c.args.keys.now c.args.push c.args.value)
    (assigned-at c.args.self.now c.args.level c.args.name.now c.home-at.result c.home-at.ensures.home c.args.keys.now
    c.args.push c.args.value) c.assign_in.result c.assign_in.ensures.sure

pub returns-clause-err : goal.returns-clause-err
returns-clause-err c =
    on_err c.home-at.result c.args.self.now _ _ c.assign_in.new.vars c.own_mut.ensures.value refl
    c.assign_in.result c.home-at.ensures.within c.assign_in.ensures.err
