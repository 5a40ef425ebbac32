use Rattle.std.proofs.Common.{refl, sym, ◌∙◌}
use Rattle.dp_state.specs.inner.Parts.{removed_in}
use Rattle.dp_state.proofs.VariableSteps.{on_err, on_ok, on_refused, on_sure, unset-home}
use Rattle.dp_state.proofs.state.State.unset.Goals as goal

pub returns-clause-ok : goal.returns-clause-ok
returns-clause-ok c =
    on_ok c.home-at.result c.args.self.now _ _ c.remove_in.new.vars c.own_mut.ensures.value refl _
    (removed_in c.args.name.now c.args.keys.now)
    (unset-home c.args.name.now c.args.keys.now c.args.self.now c.home-at.result c.home-at.ensures.home
    (sym c.is_empty.ensures ∙ c.if-is_empty.false) c.home-at.ensures.within)
    c.remove_in.result c.remove_in.ensures.ok

pub returns-clause-refused : goal.returns-clause-refused
returns-clause-refused c =
    on_refused c.home-at.result c.args.self.now _ _ c.remove_in.new.vars c.own_mut.ensures.value refl _
    (removed_in c.args.name.now c.args.keys.now)
    (unset-home c.args.name.now c.args.keys.now c.args.self.now c.home-at.result c.home-at.ensures.home
    (sym c.is_empty.ensures ∙ c.if-is_empty.false) c.home-at.ensures.within)
    c.remove_in.result c.remove_in.ensures.refused

pub returns-clause-sure : goal.returns-clause-sure
returns-clause-sure c =
    on_sure c.home-at.result c.args.self.now _ _ c.remove_in.new.vars c.own_mut.ensures.value refl _
    (removed_in c.args.name.now c.args.keys.now)
    (unset-home c.args.name.now c.args.keys.now c.args.self.now c.home-at.result c.home-at.ensures.home
    (sym c.is_empty.ensures ∙ c.if-is_empty.false) c.home-at.ensures.within)
    c.remove_in.result c.remove_in.ensures.sure

pub returns-clause-err : goal.returns-clause-err
returns-clause-err c =
    on_err c.home-at.result c.args.self.now _ _ c.remove_in.new.vars c.own_mut.ensures.value refl
    c.remove_in.result c.home-at.ensures.within c.remove_in.ensures.err
