use Rattle.std.proofs.Common.{is_some, subst, sym}
use Rattle.std.specs.Option.{option_copied}
use Rattle.dp_analysis.specs.Quiet.{AreLoud}
use Rattle.dp_tree.specs.declared.bundle.Bundle.{Bundle}
use Rattle.dp_step.proofs.PassedSteps.{goes-past}
use Rattle.dp_step.proofs.machine.Machine.go_past.Goals as goal

pub returns-then-has_failed-clause-leaves : goal.returns-then-has_failed-clause-leaves
returns-then-has_failed-clause-leaves g c = c.has_failed.ensures.failed c.if-has_failed.true

pub returns-in-Ok-clause-goes_past : goal.returns-in-Ok-clause-goes_past
returns-in-Ok-clause-goes_past g c = λ bundle bound writes n stands are_loud.
    let here = subst (λ (b : Bundle). AreLoud c.args.lines.now b (option_copied c.args.loud)) (sym stands.same_bundle)
    are_loud in
    goes-past c.args.lines.now (is_some (option_copied c.args.loud)) bundle bound writes n c.args.self.now
    c.past.new.self
    c.in-Ok.progress stands (c.in-Ok.ensures.gets here) _ _ (rw c.risen.ensures at c.tick_all.ensures)

pub returns-in-Ok-clause-leaves : goal.returns-in-Ok-clause-leaves
returns-in-Ok-clause-leaves g c = rw c.in-Ok.is at c.past.ensures.ends

pub returns-in-Ok-clause-fails : goal.returns-in-Ok-clause-fails
returns-in-Ok-clause-fails g c = λ failed. absurd (c.has_failed.ensures.not_failed c.if-has_failed.false failed)

pub returns-in-Err-clause-fails : goal.returns-in-Err-clause-fails
returns-in-Err-clause-fails g c = λ failed. absurd (c.has_failed.ensures.not_failed c.if-has_failed.false failed)
