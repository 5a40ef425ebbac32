use Rattle.dp_break.proofs.UpdateTests.{change_told, handed_cause, handed_surely, words_told}
use Rattle.dp_break.proofs.answers.update_breakpoint.Goals as goal

pub returns-in_err-change-clause-refused : goal.returns-in_err-change-clause-refused
returns-in_err-change-clause-refused c =
    handed_cause _ c.in_err-change.field-0.0
    (words_told c.args.resolve c.args.bundle.now c.args.breaks.now c.args.update.now c.in-Some.breakpoint.now
    c.in-Some.ensures.found c.in_err-change.field-0.0 c.in_err-change.ensures)
    c.from_residual.result c.from_residual.ensures.1

pub returns-in_err-change-clause-surely : goal.returns-in_err-change-clause-surely
returns-in_err-change-clause-surely c =
    handed_surely _ c.in_err-change.field-0.0
    (words_told c.args.resolve c.args.bundle.now c.args.breaks.now c.args.update.now c.in-Some.breakpoint.now
    c.in-Some.ensures.found c.in_err-change.field-0.0 c.in_err-change.ensures)
    c.from_residual.result c.from_residual.ensures.1

pub returns-in_err-update-clause-refused : goal.returns-in_err-update-clause-refused
returns-in_err-update-clause-refused c =
    handed_cause _ c.in_err-update.field-0.0
    (change_told c.args.resolve c.args.bundle.now c.args.breaks.now c.args.update.now c.in-Some.breakpoint.now
    c.in-Some.ensures.found c.in_ok-change.change c.in_err-update.field-0.0 c.in_ok-change.ensures
    c.in_err-update.ensures.answer)
    c.from_residual-in_err-update.result c.from_residual-in_err-update.ensures.1

pub returns-in_err-update-clause-surely : goal.returns-in_err-update-clause-surely
returns-in_err-update-clause-surely c =
    handed_surely _ c.in_err-update.field-0.0
    (change_told c.args.resolve c.args.bundle.now c.args.breaks.now c.args.update.now c.in-Some.breakpoint.now
    c.in-Some.ensures.found c.in_ok-change.change c.in_err-update.field-0.0 c.in_ok-change.ensures
    c.in_err-update.ensures.answer)
    c.from_residual-in_err-update.result c.from_residual-in_err-update.ensures.1
