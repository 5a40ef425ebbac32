use Rattle.std.proofs.Common.{◌∙◌, ap, length, Some}
use Rattle.std.proofs.lemmas.Result.{err_from_is_err_and}
use Rattle.dp_command.specs.inner.Parts.{items_at, byte_at}
use Rattle.dp_command.proofs.Loop.{goes_on, stops, ends, is_done}
use Rattle.dp_command.proofs.values.inner.Goals as goal

pub returns-in_err-found : goal.returns-in_err-found
returns-in_err-found c =
    let p = err_from_is_err_and c.from_residual.result c.from_residual.ensures.1 in
    let all = c.args.bytes.now in
    rw (p.1, p.2) (ends byte_at c.in_err-found.field-0.0 c.loop.value.items (length all) c.loop.counter c.loop.rest.now
    (items_at byte_at (length all) all) c.loop-test.true c.in_err-found.ensures c.loop.invariant)

pub returns-in-None : goal.returns-in-None
returns-in-None c =
    let all = c.args.bytes.now in
    let after = c.in_ok-found.after.now in
    stops byte_at c.loop.value.items (length all) c.loop.counter c.loop.rest.now after
    (items_at byte_at (length all) all) c.loop-test.true
    (c.in_ok-found.ensures ∙ ap (λ o. Some (o, after)) c.in-None.is) c.loop.invariant

pub loop-preserved : goal.loop-preserved
loop-preserved c =
    let all = c.args.bytes.now in
    let after = c.in_ok-found.after.now in
    rw c.in_ok-push-in-Some.ensures.items (goes_on byte_at c.loop.value.items
    (length all) c.loop.counter c.loop.rest.now _ after (items_at byte_at (length all) all) c.loop-test.true
    (c.in_ok-found.ensures ∙ ap (λ o. Some (o, after)) c.in-Some.is) c.loop.invariant)

pub returns : goal.returns
returns c =
    let all = c.args.bytes.now in
    is_done byte_at c.loop.value.items (length all) c.loop.counter c.loop.rest.now
    (items_at byte_at (length all) all) c.loop-test.false c.loop.invariant
