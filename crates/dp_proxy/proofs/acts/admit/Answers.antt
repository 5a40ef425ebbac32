use Rattle.std.proofs.Common.{Some, None, Ok, Err, refl, sym, subst}
use Rattle.std.proofs.lemmas.Result.{IfOk-weaker}
use Rattle.dp_registry.specs.Verdicts.{admit_reply_of}
use Rattle.dp_proxy.specs.declared.events.Act.TheVariants.{Engine}
use Rattle.dp_proxy.specs.declared.kept.Kept.TheVariants as keep
use Rattle.dp_proxy.specs.declared.kept.Step.{Step}
use Rattle.dp_proxy.specs.Pasts.{New}
use Rattle.dp_proxy.specs.Invariant.{IsSound}
use Rattle.dp_proxy.specs.inner.Acts.{Leads, IsOwn, Welcomes}
use Rattle.dp_proxy.proofs.ActLaws.{admitted_leads, admit_leaves, new_is_own, none_is_own, refused_answer}
use Rattle.dp_proxy.proofs.acts.admit.Goals as goal

pub returns-in-Ok-clause-leads : goal.returns-in-Ok-clause-leads
returns-in-Ok-clause-leads c =
    IfOk-weaker c.welcome.result (Welcomes c.in-Ok.pass) (Leads c.args.registry.now New
    (Engine c.args.key.now) c.admit.new.self)
    (λ step w. subst (Leads c.args.registry.now New (Engine c.args.key.now) c.admit.new.self) (sym w.is)
    (admitted_leads c.args.registry.now c.admit.new.self c.args.key.now c.requires c.in-Ok.pass w.up w.down w.packets
    w.commands
    c.in-Ok.ensures.verdict c.in-Ok.ensures.journal)) c.welcome.ensures

pub returns-in-Ok-clause-sound : goal.returns-in-Ok-clause-sound
returns-in-Ok-clause-sound c =
    IfOk-weaker c.welcome.result (Welcomes c.in-Ok.pass) (λ (step : Step). IsSound c.admit.new.self step.kept)
    (λ step w. subst (λ (s : Step). IsSound c.admit.new.self s.kept) (sym w.is) c.in-Ok.ensures.lives) c.welcome.ensures

pub returns-in-Ok-clause-own : goal.returns-in-Ok-clause-own
returns-in-Ok-clause-own c =
    IfOk-weaker c.welcome.result (Welcomes c.in-Ok.pass) (λ (step : Step). IsOwn c.args.registry.now None step.kept)
    (λ step w. subst (λ (s : Step). IsOwn c.args.registry.now None s.kept) (sym w.is)
    (new_is_own c.args.registry.now c.in-Ok.pass w.up w.down c.in-Ok.ensures.unused)) c.welcome.ensures

pub returns-in-Ok-clause-others : goal.returns-in-Ok-clause-others
returns-in-Ok-clause-others c =
    admit_leaves c.args.registry.now c.admit.new.self c.args.key.now
    (admit_reply_of (Ok c.in-Ok.pass)) c.in-Ok.ensures.journal

pub returns-in-Err-clause-leads : goal.returns-in-Err-clause-leads
returns-in-Err-clause-leads c =
    refused_answer c.args.registry.now c.admit.new.self c.args.key.now c.requires c.in-Err.why c.refuse.result
    c.refuse.ensures.known c.refuse.ensures.step
    c.in-Err.ensures.verdict c.in-Err.ensures.journal

pub returns-in-Err-clause-sound : goal.returns-in-Err-clause-sound
returns-in-Err-clause-sound c =
    IfOk-weaker c.refuse.result _ (λ (step : Step). IsSound c.admit.new.self step.kept)
    (λ step e. subst (λ (s : Step). IsSound c.admit.new.self s.kept) (sym e) tt) c.refuse.ensures.step

pub returns-in-Err-clause-own : goal.returns-in-Err-clause-own
returns-in-Err-clause-own c =
    IfOk-weaker c.refuse.result _ (λ (step : Step). IsOwn c.args.registry.now None step.kept)
    (λ step e. subst (λ (s : Step). IsOwn c.args.registry.now None s.kept) (sym e)
    (none_is_own c.args.registry.now None (Some keep.Over) refl))
    c.refuse.ensures.step

pub returns-in-Err-clause-others : goal.returns-in-Err-clause-others
returns-in-Err-clause-others c =
    admit_leaves c.args.registry.now c.admit.new.self c.args.key.now
    (admit_reply_of (Err c.in-Err.why)) c.in-Err.ensures.journal
