use Rattle.std.proofs.Common.{refl}
use Rattle.dp_step.specs.Stands.{rest_of}
use Rattle.dp_step.proofs.WritesMade.{all-made, none-made}
use Rattle.dp_step.proofs.machine.Machine.write_each.Goals as goal
use Rattle.dp_step.proofs.machine.Machine.write_each.Goals.{in-Ok, in-Err}

pub returns-then-number-eq0-clause-stands : goal.returns-then-number-eq0-clause-stands
returns-then-number-eq0-clause-stands c = λ bundle bound made n stands.
    none-made bundle bound made c.args.writes.now c.args.self.now n stands c.if-number-eq0.true

pub returns-clause-stands : goal.returns-clause-stands
unfolding rest_of
returns-clause-stands c = λ bundle bound made n stands. elim c.match-write_all.branch [
  | in-Ok w ↦
      let left = record c.args.self.now { state = c.write_all.new.state } in
      rw (w.result-is, w.self-is)
      (all-made bundle bound made c.args.writes.now c.args.self.now n left stands c.if-number-eq0.false refl refl
      (λ s. refl) (rw w.in-Ok.is at c.write_all.ensures.ok))
  | in-Err w ↦ rw w.result-is tt
]
