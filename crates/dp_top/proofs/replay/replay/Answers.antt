use Rattle.std.proofs.Common.{List, ℕ, Ok, Err, map, string_bytes, refl, sym, subst}
use Rattle.std.specs.Prelude.{⊤}
use Rattle.dp_outside.specs.Changes.{change}
use Rattle.dp_outside.specs.Files.{Fetches}
use Rattle.dp_program.specs.Programs.{AreFetched, Files, ProgramCaused}
use Rattle.dp_program.proofs.RunLaws.{complete_unfetched, for_bundle}
use Rattle.dp_tree.specs.declared.bundle.Bundle.{Bundle}
use Rattle.dp_words.specs.Commands.{invocation_seen}
use Rattle.dp_words.proofs.NameLaws.{names_of}
use Rattle.dp_top.proofs.ReplayLaws.{first_and, none_bad, since, status_small, unfetched_fails, unlisted_fails, unlisted_held}
use Rattle.dp_top.specs.Lines.{lines_limit}
use Rattle.dp_top.proofs.RunReports.{complete_failure, fetched}
use Rattle.dp_top.proofs.replay.replay.Goals as goal

pub replay_fetched-requires : goal.replay_fetched-requires
replay_fetched-requires g c =
    for_bundle (g.H.Shelf.files c.fetch_list.new.shelf) (map string_bytes c.args.request.program.files.now)
    c.in-Ok-fetch_files.fetched
    (names_of c.args.request.program.files.now c.requires) c.in-Ok-fetch_files.ensures.ok

pub returns-in-Err-clause-ends : goal.returns-in-Err-clause-ends
returns-in-Err-clause-ends g c =
    unlisted_fails c.in-Err.why.failure c.in-Err.why.name.now c.args.request.events.now
    (invocation_seen c.args.request.program) (g.H.Shelf.files c.args.shelf.now)
    (g.H.Shelf.faults c.args.shelf.now) (g.H.Shelf.faults c.fetch_list.new.shelf)
    (change g.K.Sink.taken g.K.Sink.faults c.args.out.now c.args.out.now)
    c.in-Err.ensures.unlisted
    (none_bad c.in-Err.why.failure (invocation_seen c.args.request.program) (g.H.Shelf.files c.args.shelf.now)
    c.in-Err.ensures.unread)
    (refl, refl)

pub returns-in-Ok-fetch_files-clause-ends : goal.returns-in-Ok-fetch_files-clause-ends
returns-in-Ok-fetch_files-clause-ends g c =
    let files = g.H.Shelf.files c.args.shelf.now in
    let names = map string_bytes c.args.request.program.files.now in
    c.replay_fetched.ensures.ends files (g.H.Shelf.faults c.args.shelf.now) (g.H.Shelf.faults c.fetch_files.new.shelf)
    (subst (λ (bytes : List ℕ). Fetches files c.args.request.events.now lines_limit bytes)
    (sym c.as_slice.ensures) c.in-Ok.ensures.held)
    (subst (λ (f : Files). AreFetched f names c.in-Ok-fetch_files.fetched) c.in-Ok.ensures.files
    c.in-Ok-fetch_files.ensures.ok)

pub returns-in-Ok-fetch_files-clause-status : goal.returns-in-Ok-fetch_files-clause-status
returns-in-Ok-fetch_files-clause-status g c =
    status_small c.replay_fetched.result c.args.request.events.now (invocation_seen c.args.request.program)
    (g.H.Shelf.files c.args.shelf.now)
    (g.H.Shelf.faults c.args.shelf.now) (g.H.Shelf.faults c.fetch_files.new.shelf)
    (change g.K.Sink.taken g.K.Sink.faults c.args.out.now c.replay_fetched.new.out)
    (let files = g.H.Shelf.files c.args.shelf.now in
    let names = map string_bytes c.args.request.program.files.now in
    c.replay_fetched.ensures.ends files (g.H.Shelf.faults c.args.shelf.now) (g.H.Shelf.faults c.fetch_files.new.shelf)
    (subst (λ (bytes : List ℕ). Fetches files c.args.request.events.now lines_limit bytes)
    (sym c.as_slice.ensures) c.in-Ok.ensures.held)
    (subst (λ (f : Files). AreFetched f names c.in-Ok-fetch_files.fetched) c.in-Ok.ensures.files
    c.in-Ok-fetch_files.ensures.ok))

pub returns-in-Ok-fetch_files-clause-fetched : goal.returns-in-Ok-fetch_files-clause-fetched
returns-in-Ok-fetch_files-clause-fetched g c =
    first_and (g.H.Shelf.fetched c.args.shelf.now) (g.H.Shelf.fetched c.fetch_list.new.shelf)
    (g.H.Shelf.fetched c.fetch_files.new.shelf)
    c.args.request.events.now (map string_bytes c.args.request.program.files.now) c.in-Ok.ensures.fetched
    (fetched ⊤ (Ok tt) (g.H.Shelf.fetched c.fetch_list.new.shelf) (g.H.Shelf.fetched c.fetch_files.new.shelf)
    (invocation_seen c.args.request.program)
    c.in-Ok-fetch_files.ensures.asked)

pub returns-clause-ends : goal.returns-clause-ends
returns-clause-ends g c =
    let files = g.H.Shelf.files c.args.shelf.now in
    let names = map string_bytes c.args.request.program.files.now in
    let why = c.in-Err-fetch_files.why in
    let first = g.H.Shelf.faults c.fetch_list.new.shelf in
    let after = g.H.Shelf.faults c.fetch_files.new.shelf in
    unfetched_fails files (g.H.Shelf.faults c.args.shelf.now) after c.args.request.events.now
    (invocation_seen c.args.request.program)
    (change g.K.Sink.taken g.K.Sink.faults c.args.out.now c.args.out.now) why c.refusal_of_program.result.failure
    c.refusal_of_program.result.name.now
    first c.in-Ok.content c.in-Ok.ensures.later c.in-Ok.ensures.held
    (subst (λ (f : Files). ProgramCaused why f first after names) c.in-Ok.ensures.files
    c.in-Err-fetch_files.ensures.err)
    c.in-Err-fetch_files.ensures.unread c.refusal_of_program.ensures (refl, refl)

pub returns-clause-fetched : goal.returns-clause-fetched
returns-clause-fetched g c =
    first_and (g.H.Shelf.fetched c.args.shelf.now) (g.H.Shelf.fetched c.fetch_list.new.shelf)
    (g.H.Shelf.fetched c.fetch_files.new.shelf)
    c.args.request.events.now (map string_bytes c.args.request.program.files.now) c.in-Ok.ensures.fetched
    (fetched ⊤ (Err c.in-Err-fetch_files.why) (g.H.Shelf.fetched c.fetch_list.new.shelf)
    (g.H.Shelf.fetched c.fetch_files.new.shelf) (invocation_seen c.args.request.program)
    c.in-Err-fetch_files.ensures.asked)

pub returns-in-Err-clause-held : goal.returns-in-Err-clause-held
returns-in-Err-clause-held g c = λ asked holds list held.
    unlisted_held (g.H.Shelf.files c.args.shelf.now) (g.H.Shelf.faults c.args.shelf.now)
    (g.H.Shelf.faults c.fetch_list.new.shelf) c.args.request.events.now list held
    holds.tells asked c.in-Err.why c.in-Err.ensures.unlisted

pub returns-in-Ok-fetch_files-clause-held : goal.returns-in-Ok-fetch_files-clause-held
returns-in-Ok-fetch_files-clause-held g c =
    let files = g.H.Shelf.files c.args.shelf.now in
    let names = map string_bytes c.args.request.program.files.now in
    c.replay_fetched.ensures.held files (g.H.Shelf.faults c.args.shelf.now) (g.H.Shelf.faults c.fetch_files.new.shelf)
    (subst (λ (bytes : List ℕ). Fetches files c.args.request.events.now lines_limit bytes)
    (sym c.as_slice.ensures) c.in-Ok.ensures.held)
    (subst (λ (f : Files). AreFetched f names c.in-Ok-fetch_files.fetched) c.in-Ok.ensures.files
    c.in-Ok-fetch_files.ensures.ok)

pub returns-clause-held : goal.returns-clause-held
returns-clause-held g c = λ asked holds list held.
    let files = g.H.Shelf.files c.args.shelf.now in
    let names = map string_bytes c.args.request.program.files.now in
    let why = c.in-Err-fetch_files.why in
    let before = g.H.Shelf.faults c.args.shelf.now in
    let first = g.H.Shelf.faults c.fetch_list.new.shelf in
    let after = g.H.Shelf.faults c.fetch_files.new.shelf in
    let out = change g.K.Sink.taken g.K.Sink.faults c.args.out.now c.args.out.now in
    complete_failure Bundle asked why c.refusal_of_program.result before after c.refusal_of_program.ensures.0
    (complete_unfetched Bundle files names before after asked why
    (since files before after c.args.request.events.now (invocation_seen c.args.request.program) out first
    c.in-Ok.ensures.later why
    (subst (λ (f : Files). ProgramCaused why f first after names) c.in-Ok.ensures.files
    c.in-Err-fetch_files.ensures.err))
    c.in-Err-fetch_files.ensures.unread holds)
