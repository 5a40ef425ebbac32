use Rattle.std.proofs.Common.{◌∙◌, ap, sym, length, Some}
use Rattle.dp_view.specs.NameReader.{byte_at}
use Rattle.dp_view.proofs.ItemLaws.{skips, skips_all, skips_none, skips_to}
use Rattle.dp_view.proofs.spelling.behind_text.Goals as goal

pub returns-in_err-found : goal.returns-in_err-found
returns-in_err-found c =
    rw c.from_residual.ensures (sym (skips_none (byte_at c.args.quote)
    (length c.args.bytes.now) c.loop.counter c.loop.rest.now c.loop-test.true (sym c.in_err-found.ensures))
    ∙ c.loop.invariant)

pub returns-in_default : goal.returns-in_default
returns-in_default c =
    let after = c.in_ok-found.after.now in
    sym (skips_to (byte_at c.args.quote) (length c.args.bytes.now) c.loop.counter c.loop.rest.now after c.loop-test.true
    (sym c.in_ok-found.ensures ∙ ap (λ o. Some (o, after)) c.in_default.is)) ∙ c.loop.invariant

pub loop-preserved : goal.loop-preserved
loop-preserved c =
    let after = c.in_ok-found.after.now in
    sym (skips (byte_at c.args.quote) (length c.args.bytes.now) c.loop.counter c.loop.rest.now _ after c.loop-test.true
    (sym c.in_ok-found.ensures ∙ ap (λ o. Some (o, after)) c.in-Some.is)) ∙ c.loop.invariant

pub returns : goal.returns
returns c =
    sym (skips_all (byte_at c.args.quote) (length c.args.bytes.now) c.loop.counter c.loop.rest.now c.loop-test.false)
    ∙ c.loop.invariant
