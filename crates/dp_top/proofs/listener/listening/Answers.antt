use Rattle.std.proofs.Common.{Ok, Err, refl}
use Rattle.dp_tree.specs.declared.bundle.Bundle.{Bundle}
use Rattle.dp_words.specs.Commands.{address_seen, invocation_seen}
use Rattle.dp_words.proofs.NameLaws.{names_of}
use Rattle.dp_top.proofs.RunReports.{complete_failure, fetched}
use Rattle.dp_top.proofs.TalkLaws.{complete_served}
use Rattle.dp_top.proofs.AsyncLaws.{none_attended, program_attended}
use Rattle.dp_top.proofs.listener.listening.Goals as goal

pub fetch_program-requires : goal.fetch_program-requires
fetch_program-requires g c = names_of c.args.request.talk.program.files.now c.requires.session.files

pub returns-in-Ok-clause-ends : goal.returns-in-Ok-clause-ends
returns-in-Ok-clause-ends g c = rw (← c.objects.view_is)
    (program_attended (address_seen c.args.request.address) c.args.request.talk.key.now
    (invocation_seen c.args.request.talk.program) _ _ (record { input = (refl, refl); err = (refl, refl) })
    c.in-Ok.bundle c.in-Ok.ensures.made c.hear_over.result c.hear_over.ensures.ends)

pub returns-in-Ok-clause-held : goal.returns-in-Ok-clause-held
returns-in-Ok-clause-held g c = rw (← c.objects.view_is) (record {
  by_files = λ asked held.
      complete_served asked c.in-Ok.bundle c.hear_over.result _ _
      (c.in-Ok.ensures.held asked held) c.hear_over.ensures.held;
})

pub returns-in-Err-clause-ends : goal.returns-in-Err-clause-ends
returns-in-Err-clause-ends g c = rw (← c.objects.view_is)
    (none_attended (address_seen c.args.request.address) c.args.request.talk.key.now
    (invocation_seen c.args.request.talk.program) _ _ (record { input = (refl, refl); err = (refl, refl) })
    c.refusal_of_program.result c.in-Err.why c.in-Err.ensures.cause c.refusal_of_program.ensures
    (record { net = refl; out = (refl, refl); apart = record { input = (refl, refl); err = (refl, refl) } }))

pub returns-in-Err-clause-held : goal.returns-in-Err-clause-held
returns-in-Err-clause-held g c = rw (← c.objects.view_is) (record {
  by_files = λ asked held.
      complete_failure Bundle asked c.in-Err.why c.refusal_of_program.result _ _ c.refusal_of_program.ensures.0
      (c.in-Err.ensures.held asked held);
})

pub returns-in-Ok-clause-fetched : goal.returns-in-Ok-clause-fetched
returns-in-Ok-clause-fetched g c =
    rw (← c.objects.view_is) (fetched Bundle (Ok c.in-Ok.bundle) _ _
    (invocation_seen c.args.request.talk.program) c.in-Ok.ensures.asked)

pub returns-in-Err-clause-fetched : goal.returns-in-Err-clause-fetched
returns-in-Err-clause-fetched g c =
    rw (← c.objects.view_is) (fetched Bundle (Err c.in-Err.why) _ _
    (invocation_seen c.args.request.talk.program) c.in-Err.ensures.asked)
