use Rattle.std.proofs.Common.{◌≡◌, refl, sym, ap, ◌∙◌}
use Rattle.dp_state.specs.declared.state.State.{State}
use Rattle.dp_state.specs.Places.{with_own}
use Rattle.dp_state.specs.Variables.{Variables, without}
use Rattle.dp_state.proofs.VariableSteps.{global-bound, global-kept, global-undone, left_same}
use Rattle.dp_state.proofs.state.State.bind.Goals as goal

pub returns-in-Ok-clause-ok : goal.returns-in-Ok-clause-ok
returns-in-Ok-clause-ok c =
    global-bound c.args.self.now c.args.name.now c.make_null.new.vars c.in_ok-made.ensures.ok c.owner_at-at.result
    c.own_mut.result.now _ c.owner_at-at.ensures.owner c.if-at-eq0.false c.owner_at-at.ensures.within
    c.own_mut.ensures.value
    (ap (λ (vs : Variables). with_own c.owner_at-at.result vs
    (record c.args.self.now { globals = c.make_null.new.vars })) c.in-Ok.ensures.ok)

pub returns-then-made-clause-err : goal.returns-then-made-clause-err
returns-then-made-clause-err c =
    let made : State = record c.args.self.now { globals = c.make_null.new.vars } in
    let back : with_own c.owner_at-at.result c.bind_in.new.vars made ≡ made =
    left_same c.owner_at-at.result made _ c.own_mut.result.now c.bind_in.new.vars c.own_mut.ensures.value refl
    c.owner_at-at.ensures.within c.in-Err.ensures.err in
    ap (λ (g : Variables). record (with_own c.owner_at-at.result c.bind_in.new.vars made) { globals = g })
    c.remove.ensures
    ∙ ap (λ (t : State). record t { globals = without t.globals c.args.name.now }) back
    ∙ global-undone c.args.self.now c.args.name.now c.make_null.new.vars c.in_ok-made.ensures.ok
    (sym c.in_ok-made.ensures.made ∙ c.if-made.true)

pub returns-else-made-clause-err : goal.returns-else-made-clause-err
returns-else-made-clause-err c =
    left_same c.owner_at-at.result (record c.args.self.now { globals = c.make_null.new.vars }) _ c.own_mut.result.now
    c.bind_in.new.vars c.own_mut.ensures.value refl c.owner_at-at.ensures.within c.in-Err.ensures.err
    ∙ global-kept c.args.self.now c.args.name.now c.make_null.new.vars c.in_ok-made.ensures.ok
    (sym c.in_ok-made.ensures.made ∙ c.if-made.false)
