use Rattle.std.proofs.Common.{Ok, Err, refl}
use Rattle.dp_program.proofs.RunLaws.{complete_fetched}
use Rattle.dp_tree.specs.declared.bundle.Bundle.{Bundle}
use Rattle.dp_top.proofs.RunReports.{complete_failure}
use Rattle.dp_outside.specs.Changes.{change}
use Rattle.dp_events.specs.Lists.{IsFirstBad}
use Rattle.dp_words.specs.Commands.{invocation_seen}
use Rattle.dp_top.proofs.LineLaws.{bad_bytes}
use Rattle.dp_top.proofs.ReplayLaws.{all_before, bad_held, held_list, over_complete, over_ends, unlisted_fails, unmade_fails}
use Rattle.dp_top.proofs.replay.replay_fetched.Goals as goal

pub returns-in-Err-clause-ends : goal.returns-in-Err-clause-ends
returns-in-Err-clause-ends g c = λ files before after fetched are.
    let why = c.in-Err.why in
    let name = c.args.request.events.now in
    let out = change g.K.Sink.taken g.K.Sink.faults c.args.out.now c.args.out.now in
    unlisted_fails why.failure why.name.now name (invocation_seen c.args.request.program) files before after out
    (bad_bytes IsFirstBad why.failure why.name.now name c.args.content.now files before after fetched
    c.in-Err.ensures.bad)
    (all_before why.failure (invocation_seen c.args.request.program) files c.args.fetched are) (refl, refl)

pub returns-in-Ok-make_program-clause-ends : goal.returns-in-Ok-make_program-clause-ends
returns-in-Ok-make_program-clause-ends g c = λ files before after fetched are.
    let name = c.args.request.events.now in
    let out = change g.K.Sink.taken g.K.Sink.faults c.args.out.now c.replay_over.new.out in
    over_ends files before after name (invocation_seen c.args.request.program) out c.in-Ok.events
    (held_list files name c.args.content.now c.in-Ok.events fetched c.in-Ok.ensures.list) c.args.fetched are
    c.replay_over.result c.in-Ok-make_program.bundle c.in-Ok-make_program.ensures.ok c.replay_over.ensures.ends

pub returns-clause-ends : goal.returns-clause-ends
returns-clause-ends g c = λ files before after fetched are.
    let name = c.args.request.events.now in
    let out = change g.K.Sink.taken g.K.Sink.faults c.args.out.now c.args.out.now in
    unmade_fails files before after name (invocation_seen c.args.request.program) out c.in-Ok.events
    (held_list files name c.args.content.now c.in-Ok.events fetched c.in-Ok.ensures.list) c.args.fetched are
    c.in-Err-make_program.why c.refusal_of_program.result.failure c.refusal_of_program.result.name.now
    c.in-Err-make_program.ensures.err c.refusal_of_program.ensures (refl, refl)

pub returns-in-Err-clause-held : goal.returns-in-Err-clause-held
returns-in-Err-clause-held g c = λ files before after fetched are asked holds list held.
    bad_held files before after c.args.request.events.now list held holds.tells asked c.in-Err.why c.args.content.now
    fetched c.in-Err.ensures.bad

pub returns-in-Ok-make_program-clause-held : goal.returns-in-Ok-make_program-clause-held
returns-in-Ok-make_program-clause-held g c = λ files before after fetched are asked holds list held.
    over_complete asked c.in-Ok-make_program.bundle c.replay_over.result c.in-Ok.events c.args.request.program.bound
    before after
    (change g.K.Sink.taken g.K.Sink.faults c.args.out.now c.replay_over.new.out)
    (complete_fetched files (invocation_seen c.args.request.program).names c.args.fetched before after asked
    (Ok c.in-Ok-make_program.bundle) are
    c.in-Ok-make_program.ensures.only holds) c.replay_over.ensures.ends

pub returns-clause-held : goal.returns-clause-held
returns-clause-held g c = λ files before after fetched are asked holds list held.
    complete_failure Bundle asked c.in-Err-make_program.why c.refusal_of_program.result before after
    c.refusal_of_program.ensures.0
    (complete_fetched {A = Bundle} files (invocation_seen c.args.request.program).names c.args.fetched before after
    asked (Err c.in-Err-make_program.why) are
    c.in-Err-make_program.ensures.only holds)
