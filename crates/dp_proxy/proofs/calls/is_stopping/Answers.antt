use Rattle.std.proofs.Common.{◌≡◌, codes, rules, ◌∙◌, subst}
use Rattle.std.specs.Str.{bytes_eq}
use Rattle.dp_command.specs.declared.errors.LineError.{LineError}
use Rattle.dp_command.specs.Lines.{line_of, Fails}
use Rattle.dp_proxy.proofs.CallLaws.{stopping, not_stopping}
use Rattle.dp_proxy.proofs.calls.is_stopping.Goals as goal

pub returns-in-Ok : goal.returns-in-Ok
returns-in-Ok c =
    let same : c.eq.result ≡ bytes_eq c.in-Ok.line.name (codes "proxystop") = search rules in
    same ∙ stopping c.args.command.now c.in-Ok.line c.in-Ok.ensures.read

pub returns-in-Err-Parse : goal.returns-in-Err-Parse
returns-in-Err-Parse c =
    not_stopping c.args.command.now (subst (λ (e : LineError). Fails e (line_of c.args.command.now))
    c.in-Err-Parse.field-0-is c.in-Err-Parse.ensures.read)
