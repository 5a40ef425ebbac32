use Rattle.std.proofs.Common.{refl}
use Rattle.dp_async.specs.Heard.{AnswersOwn}
use Rattle.dp_async_laws.proofs.Breaks.{refused_so}
use Rattle.dp_async_laws.proofs.laws.break_is_refused.Goals as goal
use Rattle.dp_engine.specs.Responses.{fault_response}
use Rattle.dp_command.specs.Refusals.{id_of}
use Rattle.dp_packet.specs.declared.error_codes.ErrorCode.TheVariants.{CommandNotAvailable}

pub returns-clause-refused : goal.returns-clause-refused
returns-clause-refused c = λ bytes line is breaks once named. refused_so bytes line is breaks once named

pub returns-clause-code : goal.returns-clause-code
returns-clause-code c = λ command id. refl

pub returns-clause-answered : goal.returns-clause-answered
returns-clause-answered c = λ bundle bound log done state moments held heard bytes rest begins line is breaks once n.
    AnswersOwn heard bytes rest begins (fault_response line.name (id_of line) CommandNotAvailable)
    (refused_so bytes line is breaks once n)
