use Rattle.std.proofs.Common.{rules, ◌≡◌, None}
use Rattle.dp_proxy.specs.Calls.{call_of}
use Rattle.dp_relay.proofs.AnswerLaws.{each_names_none}
use Rattle.dp_relay.proofs.registrations.answer.Goals as goal

pub returns-in_default-clause-answered : goal.returns-in_default-clause-answered
returns-in_default-clause-answered g c =
    let none : None ≡ call_of c.args.command.now = search rules in
    each_names_none c.args.clerk.now c.args.host.now c.args.command.now none c.reply_of.result c.reply_of.ensures.reply
