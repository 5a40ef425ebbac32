use Rattle.std.proofs.Common.{◌∙◌, ap, sym, length, Some}
use Rattle.dp_view.specs.NameReader.{byte_at}
use Rattle.dp_view.proofs.ItemLaws.{takes, takes_all, takes_none, takes_to}
use Rattle.dp_view.proofs.name_reader.text.Goals as goal

pub returns-in_default : goal.returns-in_default
returns-in_default c =
    sym (takes_none (byte_at c.args.quote) (length c.args.bytes.now) c.loop.counter c.loop.rest.now c.loop.text.items
    c.loop-test.true (sym c.in_default.ensures)) ∙ c.loop.invariant

pub returns-in_default-found : goal.returns-in_default-found
returns-in_default-found c =
    let after = c.in-Some.after.now in
    sym (takes_to (byte_at c.args.quote) (length c.args.bytes.now) c.loop.counter c.loop.rest.now c.loop.text.items
    after c.loop-test.true
    (sym c.in-Some.ensures ∙ ap (λ o. Some (o, after)) c.in_default-found.is)) ∙ c.loop.invariant

pub loop-preserved : goal.loop-preserved
loop-preserved c =
    let after = c.in-Some.after.now in
    rw c.in_ok-push.ensures.items
    (takes (byte_at c.args.quote) (length c.args.bytes.now) c.loop.counter c.loop.rest.now c.loop.text.items _ after
    c.loop-test.true
    (sym c.in-Some.ensures ∙ ap (λ o. Some (o, after)) c.in-Some-found.is) ∙ c.loop.invariant)

pub returns : goal.returns
returns c =
    sym (takes_all (byte_at c.args.quote) (length c.args.bytes.now) c.loop.counter c.loop.rest.now c.loop.text.items
    c.loop-test.false) ∙ c.loop.invariant
