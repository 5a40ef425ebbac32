use Rattle.std.proofs.Common.{◌≡◌, Option, Some, None, true, false, sym, ◌∙◌, rules, codes}
use Rattle.std.specs.Prelude.{IfNone}
use Rattle.dp_words.specs.Commands.{address_seen, invocation_seen, service_seen}
use Rattle.dp_words.proofs.AddressLaws.{async_found, async_none, engine_found, engine_none}
use Rattle.dp_words.proofs.GivenLaws.{dap_found, dap_none, ide_found, ide_none, proxy_found, proxy_none, replay_found, replay_none, run_found, run_none, show_found, soak_found, soak_none}
use Rattle.dp_words.proofs.SessionLaws.{audit_found, audit_none, talk_found, talk_none, tape_found, tape_none}
use Rattle.dp_words.proofs.words.command_named.Goals as goal

none_so : {A : Type 0} (r : Option A) (P : Type 0) → P → IfNone r P
none_so None P h = h
none_so (Some a) P h = tt

pub returns-then-eq-clause-found : goal.returns-then-eq-clause-found
returns-then-eq-clause-found c =
    let named : c.args.name.now ≡ codes "run" = search rules in
    let v = c.in_ok-read_run.field-0 in
    let f = c.in_ok-read_run.ensures.found in
    run_found c.args.words.now c.args.name.now _ c.requires.given named (invocation_seen v) f.0 f.1

pub returns-in_err-read_run-clause-none : goal.returns-in_err-read_run-clause-none
returns-in_err-read_run-clause-none c =
    let named : c.args.name.now ≡ codes "run" = search rules in
    none_so _ _ (run_none c.args.words.now c.args.name.now _ c.requires.given named c.in_err-read_run.ensures.none)

pub returns-then-eq-2-clause-found : goal.returns-then-eq-2-clause-found
returns-then-eq-2-clause-found c =
    let named : c.args.name.now ≡ codes "talk" = search rules in
    let v = c.in_ok-read_talk.field-0 in
    let f = c.in_ok-read_talk.ensures.found in
    talk_found c.args.words.now c.args.name.now _ c.requires.given named v.key.now (invocation_seen v.program)
    f.0 f.1 f.2

pub returns-in_err-read_talk-clause-none : goal.returns-in_err-read_talk-clause-none
returns-in_err-read_talk-clause-none c =
    let named : c.args.name.now ≡ codes "talk" = search rules in
    none_so _ _ (talk_none c.args.words.now c.args.name.now _ c.requires.given named c.in_err-read_talk.ensures.none)

pub returns-then-eq-3-clause-found : goal.returns-then-eq-3-clause-found
returns-then-eq-3-clause-found c =
    let named : c.args.name.now ≡ codes "tape" = search rules in
    let v = c.in_ok-read_talk-2.field-0 in
    let f = c.in_ok-read_talk-2.ensures.found in
    tape_found c.args.words.now c.args.name.now _ c.requires.given named v.key.now (invocation_seen v.program)
    f.0 f.1 f.2

pub returns-in_err-read_talk-2-clause-none : goal.returns-in_err-read_talk-2-clause-none
returns-in_err-read_talk-2-clause-none c =
    let named : c.args.name.now ≡ codes "tape" = search rules in
    none_so _ _ (tape_none c.args.words.now c.args.name.now _ c.requires.given named c.in_err-read_talk-2.ensures.none)

pub returns-then-eq-4-clause-found : goal.returns-then-eq-4-clause-found
returns-then-eq-4-clause-found c =
    let named : c.args.name.now ≡ codes "audit" = search rules in
    let v = c.in_ok-read_talk-3.field-0 in
    let f = c.in_ok-read_talk-3.ensures.found in
    audit_found c.args.words.now c.args.name.now _ c.requires.given named v.key.now (invocation_seen v.program)
    f.0 f.1 f.2

pub returns-in_err-read_talk-3-clause-none : goal.returns-in_err-read_talk-3-clause-none
returns-in_err-read_talk-3-clause-none c =
    let named : c.args.name.now ≡ codes "audit" = search rules in
    none_so _ _ (audit_none c.args.words.now c.args.name.now _ c.requires.given named c.in_err-read_talk-3.ensures.none)

pub returns-then-eq-5-clause-found : goal.returns-then-eq-5-clause-found
returns-then-eq-5-clause-found c =
    let named : c.args.name.now ≡ codes "dap" = search rules in
    let v = c.in_ok-read_run-2.field-0 in
    let f = c.in_ok-read_run-2.ensures.found in
    dap_found c.args.words.now c.args.name.now _ c.requires.given named (invocation_seen v) f.0 f.1

pub returns-in_err-read_run-2-clause-none : goal.returns-in_err-read_run-2-clause-none
returns-in_err-read_run-2-clause-none c =
    let named : c.args.name.now ≡ codes "dap" = search rules in
    none_so _ _ (dap_none c.args.words.now c.args.name.now _ c.requires.given named c.in_err-read_run-2.ensures.none)

pub returns-then-eq-6-clause-found : goal.returns-then-eq-6-clause-found
returns-then-eq-6-clause-found c =
    let named : c.args.name.now ≡ codes "engine" = search rules in
    let v = c.in_ok-read_engine.field-0 in
    let f = c.in_ok-read_engine.ensures.found in
    engine_found c.args.words.now c.args.name.now _ c.requires.given named (address_seen v.address) v.talk.key.now
    (invocation_seen v.talk.program) f.0 f.2 f.3 f.4 f.1 f.5

pub returns-in_err-read_engine-clause-none : goal.returns-in_err-read_engine-clause-none
returns-in_err-read_engine-clause-none c =
    let named : c.args.name.now ≡ codes "engine" = search rules in
    none_so _ _ (engine_none c.args.words.now c.args.name.now _ c.requires.given named
    c.in_err-read_engine.ensures.none)

pub returns-then-eq-7-clause-found : goal.returns-then-eq-7-clause-found
returns-then-eq-7-clause-found c =
    let named : c.args.name.now ≡ codes "async" = search rules in
    let v = c.in_ok-read_engine-2.field-0 in
    let f = c.in_ok-read_engine-2.ensures.found in
    async_found c.args.words.now c.args.name.now _ c.requires.given named (address_seen v.address) v.talk.key.now
    (invocation_seen v.talk.program) f.0 f.2 f.3 f.4 f.1 f.5

pub returns-in_err-read_engine-2-clause-none : goal.returns-in_err-read_engine-2-clause-none
returns-in_err-read_engine-2-clause-none c =
    let named : c.args.name.now ≡ codes "async" = search rules in
    none_so _ _ (async_none c.args.words.now c.args.name.now _ c.requires.given named
    c.in_err-read_engine-2.ensures.none)

pub returns-then-eq-8-clause-found : goal.returns-then-eq-8-clause-found
returns-then-eq-8-clause-found c =
    let named : c.args.name.now ≡ codes "ide" = search rules in
    let v = c.in_ok-read_ide.field-0 in
    let f = c.in_ok-read_ide.ensures.found in
    ide_found c.args.words.now c.args.name.now _ c.requires.given named v.port v.script.now f.0 f.1 f.2

pub returns-in_err-read_ide-clause-none : goal.returns-in_err-read_ide-clause-none
returns-in_err-read_ide-clause-none c =
    let named : c.args.name.now ≡ codes "ide" = search rules in
    none_so _ _ (ide_none c.args.words.now c.args.name.now _ c.requires.given named c.in_err-read_ide.ensures.none)

pub returns-then-eq-9-clause-found : goal.returns-then-eq-9-clause-found
returns-then-eq-9-clause-found c =
    let named : c.args.name.now ≡ codes "replay" = search rules in
    let v = c.in_ok-read_replay.field-0 in
    let f = c.in_ok-read_replay.ensures.found in
    replay_found c.args.words.now c.args.name.now _ c.requires.given named v.events.now
    (invocation_seen v.program) f.0 f.1 f.2 f.3

pub returns-in_err-read_replay-clause-none : goal.returns-in_err-read_replay-clause-none
returns-in_err-read_replay-clause-none c =
    let named : c.args.name.now ≡ codes "replay" = search rules in
    none_so _ _ (replay_none c.args.words.now c.args.name.now _ c.requires.given named
    c.in_err-read_replay.ensures.none)

pub returns-then-eq-10-clause-found : goal.returns-then-eq-10-clause-found
returns-then-eq-10-clause-found c =
    let named : c.args.name.now ≡ codes "soak" = search rules in
    let v = c.in_ok-read_soak.field-0 in
    let f = c.in_ok-read_soak.ensures.found in
    soak_found c.args.words.now c.args.name.now _ c.requires.given named v.count v.seed f.0 f.1

pub returns-in_err-read_soak-clause-none : goal.returns-in_err-read_soak-clause-none
returns-in_err-read_soak-clause-none c =
    let named : c.args.name.now ≡ codes "soak" = search rules in
    none_so _ _ (soak_none c.args.words.now c.args.name.now _ c.requires.given named c.in_err-read_soak.ensures.none)

pub returns-then-eq-11-clause-found : goal.returns-then-eq-11-clause-found
returns-then-eq-11-clause-found c =
    let named : c.args.name.now ≡ codes "proxy" = search rules in
    let v = c.in_ok-read_proxy.field-0 in
    let f = c.in_ok-read_proxy.ensures.found in
    proxy_found c.args.words.now c.args.name.now _ c.requires.given named (service_seen v) f.0 f.1 f.2 f.3

pub returns-in_err-read_proxy-clause-none : goal.returns-in_err-read_proxy-clause-none
returns-in_err-read_proxy-clause-none c =
    let named : c.args.name.now ≡ codes "proxy" = search rules in
    none_so _ _ (proxy_none c.args.words.now c.args.name.now _ c.requires.given named c.in_err-read_proxy.ensures.none)

pub returns-clause-found : goal.returns-clause-found
returns-clause-found c =
    let no_run : c.args.name.now ≡ codes "run" → ⊥ = λ e.
    let yes : c.eq.result ≡ true = search (rules, e) in
    let clash : true ≡ false = sym yes ∙ c.if-eq.false in absurd cc in
    let no_talk : c.args.name.now ≡ codes "talk" → ⊥ = λ e.
    let yes : c.eq-2.result ≡ true = search (rules, e) in
    let clash : true ≡ false = sym yes ∙ c.if-eq-2.false in absurd cc in
    let no_tape : c.args.name.now ≡ codes "tape" → ⊥ = λ e.
    let yes : c.eq-3.result ≡ true = search (rules, e) in
    let clash : true ≡ false = sym yes ∙ c.if-eq-3.false in absurd cc in
    let no_audit : c.args.name.now ≡ codes "audit" → ⊥ = λ e.
    let yes : c.eq-4.result ≡ true = search (rules, e) in
    let clash : true ≡ false = sym yes ∙ c.if-eq-4.false in absurd cc in
    let no_dap : c.args.name.now ≡ codes "dap" → ⊥ = λ e.
    let yes : c.eq-5.result ≡ true = search (rules, e) in
    let clash : true ≡ false = sym yes ∙ c.if-eq-5.false in absurd cc in
    let no_engine : c.args.name.now ≡ codes "engine" → ⊥ = λ e.
    let yes : c.eq-6.result ≡ true = search (rules, e) in
    let clash : true ≡ false = sym yes ∙ c.if-eq-6.false in absurd cc in
    let no_async : c.args.name.now ≡ codes "async" → ⊥ = λ e.
    let yes : c.eq-7.result ≡ true = search (rules, e) in
    let clash : true ≡ false = sym yes ∙ c.if-eq-7.false in absurd cc in
    let no_ide : c.args.name.now ≡ codes "ide" → ⊥ = λ e.
    let yes : c.eq-8.result ≡ true = search (rules, e) in
    let clash : true ≡ false = sym yes ∙ c.if-eq-8.false in absurd cc in
    let no_replay : c.args.name.now ≡ codes "replay" → ⊥ = λ e.
    let yes : c.eq-9.result ≡ true = search (rules, e) in
    let clash : true ≡ false = sym yes ∙ c.if-eq-9.false in absurd cc in
    let no_soak : c.args.name.now ≡ codes "soak" → ⊥ = λ e.
    let yes : c.eq-10.result ≡ true = search (rules, e) in
    let clash : true ≡ false = sym yes ∙ c.if-eq-10.false in absurd cc in
    let no_proxy : c.args.name.now ≡ codes "proxy" → ⊥ = λ e.
    let yes : c.eq-11.result ≡ true = search (rules, e) in
    let clash : true ≡ false = sym yes ∙ c.if-eq-11.false in absurd cc in
    show_found c.args.words.now c.args.name.now _ c.requires.given no_run no_talk no_tape no_audit no_dap no_engine
    no_async no_ide no_replay no_soak no_proxy
