use Rattle.std.proofs.Common.{◌≡◌, Option, ◌∙◌, subst}
use Rattle.std.specs.Option.{IfSome}
use Rattle.std.proofs.lemmas.Result.{IfOk-weaker}
use Rattle.dp_command.specs.declared.errors.LineError.{LineError}
use Rattle.dp_command.specs.Lines.{line_of, Fails}
use Rattle.dp_proxy.specs.declared.calls.Call.{Call}
use Rattle.dp_proxy.specs.Calls.{call_on, call_of}
use Rattle.dp_proxy.specs.Replies.{IsKeyed}
use Rattle.dp_proxy.proofs.CallLaws.{called, uncalled, keyed}
use Rattle.dp_proxy.proofs.calls.call_of.Goals as goal

pub returns-in-Ok-clause-call : goal.returns-in-Ok-clause-call
returns-in-Ok-clause-call c =
    IfOk-weaker c.call_on.result (λ (call : Option Call). call ≡ call_on c.in-Ok.line)
    (λ (call : Option Call). call ≡ call_of c.args.command.now)
    (λ call e. e ∙ called c.args.command.now c.in-Ok.line c.in-Ok.ensures.read) c.call_on.ensures

pub returns-in-Ok-clause-key : goal.returns-in-Ok-clause-key
returns-in-Ok-clause-key c =
    IfOk-weaker c.call_on.result (λ (call : Option Call). call ≡ call_on c.in-Ok.line)
    (λ (call : Option Call). IfSome call IsKeyed)
    (λ call e. keyed c.args.command.now call (e ∙ called c.args.command.now c.in-Ok.line c.in-Ok.ensures.read))
    c.call_on.ensures

pub returns-in-Err-Parse-clause-call : goal.returns-in-Err-Parse-clause-call
returns-in-Err-Parse-clause-call c =
    uncalled c.args.command.now (subst (λ (e : LineError). Fails e (line_of c.args.command.now))
    c.in-Err-Parse.field-0-is c.in-Err-Parse.ensures.read)
