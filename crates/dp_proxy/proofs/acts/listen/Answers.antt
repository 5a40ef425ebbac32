use Rattle.std.proofs.Common.{◌≡◌, Some, refl, subst, ◌∙◌}
use Rattle.dp_proxy.specs.declared.input.Hearing.{Hearing}
use Rattle.dp_proxy.specs.declared.kept.Kept.TheVariants as keep
use Rattle.dp_proxy.specs.Replies.{reply_frame, registered}
use Rattle.dp_proxy.specs.inner.Acts.{Hears}
use Rattle.dp_proxy.proofs.ActLaws.{more_leads, question_leads, silent_leads}
use Rattle.dp_proxy.proofs.acts.listen.Goals as goal

pub returns-in-More-clause-leads : goal.returns-in-More-clause-leads
returns-in-More-clause-leads c = λ clean.
    let h = subst (λ (x : Hearing). Hears c.args.heard.items c.args.act.now x c.hear.new.heard.items) c.in-More.is
    (c.in_ok-hearing.ensures clean) in
    more_leads c.args.registry.now c.args.registry.now c.args.host c.args.heard.items c.args.act.now
    c.hear.new.heard.items
    (Some (keep.Asking c.args.host c.hear.new.heard)) h (refl, h.1) refl

pub returns-in-Silence-clause-leads : goal.returns-in-Silence-clause-leads
returns-in-Silence-clause-leads c = λ clean.
    let h = subst (λ (x : Hearing). Hears c.args.heard.items c.args.act.now x c.hear.new.heard.items) c.in-Silence.is
    (c.in_ok-hearing.ensures clean) in
    silent_leads c.args.registry.now c.args.registry.now c.args.host c.args.heard.items c.args.act.now
    c.hear.new.heard.items h refl

pub returns-in_ok-frame-in-Asked-clause-leads : goal.returns-in_ok-frame-in-Asked-clause-leads
returns-in_ok-frame-in-Asked-clause-leads c = λ clean.
    let h = subst (λ (x : Hearing). Hears c.args.heard.items c.args.act.now x c.hear.new.heard.items) c.in-Asked.is
    (c.in_ok-hearing.ensures clean) in
    let host : c.as_slice-name.result.now ≡ c.args.host = c.as_slice-name.ensures in
    let command : c.as_slice-command.result.now ≡ c.hear.new.heard.items = c.as_slice-command.ensures.value in
    question_leads c.args.registry.now c.answer.new.registry c.args.host c.args.heard.items c.args.act.now
    c.hear.new.heard.items c.in_ok-frame-in-Asked.frame h
    (c.in_ok-frame-in-Asked.ensures.reply ∙ (λ i. reply_frame c.args.registry.now (host i) (command i)))
    (c.in_ok-frame-in-Asked.ensures.journal ∙ (λ i. registered c.args.registry.now (host i) (command i)))
