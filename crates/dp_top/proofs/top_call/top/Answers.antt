use Rattle.std.proofs.Common.{Ok, map, string_bytes, ap, rules}
use Rattle.dp_words.specs.Words.{IsInvocation}
use Rattle.dp_words.specs.Commands.{task_of}
use Rattle.dp_top.proofs.TopLaws.{done_answers, fails_answers, unread_answers, usage_answers}
use Rattle.dp_top.proofs.top_call.top.Goals as goal

pub carry_out_on-requires-clause-invocation : goal.carry_out_on-requires-clause-invocation
carry_out_on-requires-clause-invocation g c =
    let found : IsInvocation (map string_bytes c.args.words.now)
    (task_of c.in-Ok-Some.command) = rw c.in-Ok-Some.field-0-is at
    c.in-Ok-Some.ensures.found in
    search (rules, found)

pub returns-in-Ok-None : goal.returns-in-Ok-None
returns-in-Ok-None g c =
    record {
      answers = usage_answers (map string_bytes c.args.words.now) _ _
          (c.in-Ok-None.ensures.none (ap Ok c.in-Ok-None.field-0-is)) c.say.ensures.says c.say.ensures.later;
    }

pub returns-in-Ok : goal.returns-in-Ok
returns-in-Ok g c =
    record {
      answers = done_answers c.in-Ok.status (map string_bytes c.args.words.now) (task_of c.in-Ok-Some.command) _ _
          (rw c.in-Ok-Some.field-0-is at c.in-Ok-Some.ensures.found)
          (λ bad. let none = (rw c.in-Ok-Some.field-0-is at c.in-Ok-Some.ensures.plain) bad in absurd cc)
          c.in-Ok.ensures.carried;
    }

pub returns-in-Err-carry_out_on : goal.returns-in-Err-carry_out_on
returns-in-Err-carry_out_on g c =
    record {
      answers = fails_answers c.report.result (map string_bytes c.args.words.now) (task_of c.in-Ok-Some.command)
          c.in-Err-carry_out_on.refused _ _ _ (rw c.in-Ok-Some.field-0-is at c.in-Ok-Some.ensures.found)
          (λ bad. let none = (rw c.in-Ok-Some.field-0-is at c.in-Ok-Some.ensures.plain) bad in absurd cc)
          c.in-Err-carry_out_on.ensures.carried c.report.ensures.later c.report.ensures.reported;
    }

pub returns-in-Err : goal.returns-in-Err
returns-in-Err g c =
    record {
      answers = unread_answers (map string_bytes c.args.words.now) _ _
          (λ bad. let none = c.in-Err.ensures.plain bad in absurd cc) c.say-in-Err.ensures.says
          c.say-in-Err.ensures.later;
    }
