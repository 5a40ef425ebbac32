use Rattle.std.proofs.Common.{◌++◌, false, refl}
use Rattle.dp_value.specs.declared.value.Value.TheVariants.{Null, Text}
use Rattle.dp_state.specs.inner.Parts.{assigned_in}
use Rattle.dp_state.proofs.VariableSteps.{assigned-at, left_same, on_either, on_ok, on_refused, on_sure}
use Rattle.dp_state.proofs.state.State.append.Goals as goal

pub returns-clause-ok : goal.returns-clause-ok
returns-clause-ok c =
    on_ok c.home-at.result c.args.self.now _ _ c.append_in.new.vars c.own_mut.ensures.value refl _
    (assigned_in c.args.name.now c.args.keys.now false (Text (c.args.text ++ c.args.piece.now)))
    (assigned-at c.args.self.now 0 c.args.name.now c.home-at.result c.home-at.ensures.home c.args.keys.now false
    (Text (c.args.text ++ c.args.piece.now))) c.append_in.result c.append_in.ensures.ok

pub returns-clause-refused : goal.returns-clause-refused
returns-clause-refused c =
    on_refused c.home-at.result c.args.self.now _ _ c.append_in.new.vars c.own_mut.ensures.value refl _
    (assigned_in c.args.name.now c.args.keys.now false (Text (c.args.text ++ c.args.piece.now)))
    (assigned-at c.args.self.now 0 c.args.name.now c.home-at.result c.home-at.ensures.home c.args.keys.now false
    (Text (c.args.text ++ c.args.piece.now))) c.append_in.result c.append_in.ensures.refused

pub returns-clause-sure : goal.returns-clause-sure
returns-clause-sure c =
    on_sure c.home-at.result c.args.self.now _ _ c.append_in.new.vars c.own_mut.ensures.value refl _
    (assigned_in c.args.name.now c.args.keys.now false (Text (c.args.text ++ c.args.piece.now)))
    (assigned-at c.args.self.now 0 c.args.name.now c.home-at.result c.home-at.ensures.home c.args.keys.now false
    (Text (c.args.text ++ c.args.piece.now))) c.append_in.result c.append_in.ensures.sure

pub returns-clause-err : goal.returns-clause-err
returns-clause-err c = λ fatal.
    left_same c.home-at.result c.args.self.now _ _ c.append_in.new.vars c.own_mut.ensures.value refl
    c.home-at.ensures.within (c.append_in.ensures.err fatal)

pub returns-clause-memory : goal.returns-clause-memory
returns-clause-memory c = λ want.
    on_either c.home-at.result c.args.self.now _ _ c.append_in.new.vars c.own_mut.ensures.value refl _
    (assigned_in c.args.name.now c.args.keys.now false Null)
    (assigned-at c.args.self.now 0 c.args.name.now c.home-at.result c.home-at.ensures.home c.args.keys.now false Null)
    c.home-at.ensures.within (c.append_in.ensures.memory want)
