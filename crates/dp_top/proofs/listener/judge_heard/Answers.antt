use Rattle.std.proofs.Common.{◌∙◌}
use Rattle.dp_words.specs.Commands.{invocation_seen}
use Rattle.dp_top.proofs.AsyncLaws.{judged_else}
use Rattle.dp_top.proofs.listener.judge_heard.Goals as goal

pub returns : goal.returns
returns c =
    c.judge.ensures
    ∙ judged_else (invocation_seen c.args.program) c.args.heard.served.outcome c.args.heard.served.end
    c.in_default.not-ByteLimit
