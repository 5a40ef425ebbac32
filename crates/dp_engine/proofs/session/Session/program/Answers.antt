use Rattle.std.proofs.Common.{subst, sym, ◌∙◌}
use Rattle.dp_state.specs.States.{IsOf}
use Rattle.dp_engine.proofs.KeptLaws.{program_can, program_is}
use Rattle.dp_engine.proofs.TurnLaws.{has_files}
use Rattle.dp_engine.proofs.session.Session.program.Goals as goal

pub returns-else-self-clause-state : goal.returns-else-self-clause-state
returns-else-self-clause-state c =
    rw (← c.self.view_is) (c.state.ensures ∙ program_is c.self.inside c.if-self.false c.self.invariant.0)

pub returns-else-self-clause-of : goal.returns-else-self-clause-of
returns-else-self-clause-of c =
    let s = c.self.inside in
    rw (← c.self.view_is) (subst (IsOf s.bundle.now) (sym c.state.ensures)
    (program_can s c.if-self.false (has_files s.bundle.now c.self.invariant.2) c.self.invariant.0))
