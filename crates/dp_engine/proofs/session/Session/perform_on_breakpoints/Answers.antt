use Rattle.std.proofs.Common.{ℕ, Ok, ap, sym, ◌∙◌}
use Rattle.dp_engine.specs.Session.{program_of}
use Rattle.dp_engine.specs.inner.Position.{known}
use Rattle.dp_engine.proofs.TurnLaws.{breakpoints_turn, fits_known}
use Rattle.dp_engine.proofs.session.Session.perform_on_breakpoints.Goals as goal

pub tell_behind-requires-clause-fits : goal.tell_behind-requires-clause-fits
tell_behind-requires-clause-fits c =
    fits_known c.in-Ok-answer_breakpoints.answered.response c.in-Ok-answer_breakpoints.ensures.known
    c.in-Ok-answer_breakpoints.ensures.short

pub returns-in-Ok-answer_breakpoints-clause-turn : goal.returns-in-Ok-answer_breakpoints-clause-turn
returns-in-Ok-answer_breakpoints-clause-turn c =
    let s = c.self.inside in
    rw (← c.self.view_is) (breakpoints_turn {E = ℕ} (known s.bundle.now s.bound s.writes.items s.moment s.position
    s.features s.stdout s.breaks s.failed) c.in-Ok.program.now c.file-file.result c.answer_breakpoints.new.breaks
    c.args.to.now.command c.args.to.now.id c.args.request c.in-Ok-answer_breakpoints.answered.notice
    c.in-Ok-answer_breakpoints.answered.response (Ok c.tell_behind.result)
    (c.in-Ok.ensures.state ∙ ap program_of (sym c.self.view_is)) c.file-file.ensures
    (rw c.wishes-wishes.ensures at c.in-Ok-answer_breakpoints.ensures.accepted)
    (rw c.wishes-wishes.ensures at c.in-Ok-answer_breakpoints.ensures.notice)
    (rw c.wishes-wishes.ensures at c.in-Ok-answer_breakpoints.ensures.response) c.in-Ok-answer_breakpoints.ensures.short
    (rw c.wishes-wishes.ensures at c.in-Ok-answer_breakpoints.ensures.table) c.tell_behind.ensures)
