use Rattle.std.proofs.Common.{not, sym, ap, ◌∙◌}
use Rattle.dp_state.proofs.ConstantSteps.{gets, stays}
use Rattle.dp_state.proofs.state.State.define.Goals as goal

pub returns-then-has_constant-clause-new : goal.returns-then-has_constant-clause-new
returns-then-has_constant-clause-new c = ap not (sym c.if-has_constant.true ∙ c.has_constant.ensures)

pub returns-then-has_constant-clause-ok : goal.returns-then-has_constant-clause-ok
returns-then-has_constant-clause-ok c =
    stays c.args.name.now c.args.value c.args.self.now (sym c.has_constant.ensures ∙ c.if-has_constant.true)

pub returns-clause-new : goal.returns-clause-new
returns-clause-new c = ap not (sym c.if-has_constant.false ∙ c.has_constant.ensures)

pub returns-clause-ok : goal.returns-clause-ok
returns-clause-ok c =
    gets c.args.name.now c.args.value c.args.self.now c.set.new.self
    (sym c.has_constant.ensures ∙ c.if-has_constant.false) c.in_ok-set.ensures.ok
