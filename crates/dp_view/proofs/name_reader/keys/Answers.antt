use Rattle.std.proofs.Common.{◌∙◌, ap, sym, length, Some}
use Rattle.std.specs.Prelude.{option_map}
use Rattle.dp_view.specs.NameReader.{index_at}
use Rattle.dp_view.specs.inner.Items.{key_meant}
use Rattle.dp_view.proofs.ItemLaws.{takes, takes_all, takes_none, takes_to}
use Rattle.dp_view.proofs.name_reader.keys.Goals as goal

pub returns-in_default : goal.returns-in_default
returns-in_default c =
    sym (takes_none index_at (length c.args.bytes.now) c.loop.counter c.loop.rest.now c.loop.keys.items c.loop-test.true
    (sym c.in_default.ensures)) ∙ c.loop.invariant

pub returns-in_default-found : goal.returns-in_default-found
returns-in_default-found c =
    let after = c.in-Some.after.now in
    sym (takes_to index_at (length c.args.bytes.now) c.loop.counter c.loop.rest.now c.loop.keys.items after
    c.loop-test.true
    (sym c.in-Some.ensures ∙ ap (λ o. Some (option_map key_meant o, after)) c.in_default-found.is)) ∙ c.loop.invariant

pub loop-preserved : goal.loop-preserved
loop-preserved c =
    let after = c.in-Some.after.now in
    rw (c.in_ok-push.ensures.items, c.in_ok-key.ensures)
    (takes index_at (length c.args.bytes.now) c.loop.counter c.loop.rest.now c.loop.keys.items _ after c.loop-test.true
    (sym c.in-Some.ensures ∙ ap (λ o. Some (option_map key_meant o, after)) c.in-Some-found.is) ∙ c.loop.invariant)

pub returns : goal.returns
returns c =
    sym (takes_all index_at (length c.args.bytes.now) c.loop.counter c.loop.rest.now c.loop.keys.items
    c.loop-test.false) ∙ c.loop.invariant
