use Rattle.dp_break.proofs.RequestTests.{plain_passed, plain_told}
use Rattle.dp_break.proofs.answers.set_breakpoint.Goals as goal

pub returns-in_err-id-clause-surely : goal.returns-in_err-id-clause-surely
returns-in_err-id-clause-surely c = λ bare.
    plain_told c.args.resolve c.args.bundle.now c.args.here c.args.breaks.now c.args.set c.in_ok-request.request
    c.in_ok-request.ensures.accepted c.in_ok-request.ensures.request c.in_err-id.field-0.0 c.in_err-id.ensures.surely
    c.from_residual-in_err-id.result c.from_residual-in_err-id.ensures.1

pub returns-clause-surely : goal.returns-clause-surely
returns-clause-surely c = λ bare.
    plain_passed c.args.resolve c.args.bundle.now c.args.here c.args.breaks.now c.args.set c.in_ok-request.request
    c.in_ok-request.ensures.accepted c.in_ok-request.ensures.request c.in_ok-id.id c.in_ok-id.ensures.surely _
