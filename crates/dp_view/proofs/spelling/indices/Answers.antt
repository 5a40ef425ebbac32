use Rattle.std.proofs.Common.{◌∙◌, ap, cond, sym, length, Option, Some, None, List}
use Rattle.std.specs.Prelude.{option_map}
use Rattle.dp_value.specs.declared.key.Key.{Key}
use Rattle.dp_view.specs.NameReader.{index_at}
use Rattle.dp_view.specs.inner.Items.{key_meant, keys_taken}
use Rattle.dp_view.proofs.ItemLaws.{keys_end, keys_none, skips, skips_all, skips_none, skips_to}
use Rattle.dp_view.proofs.spelling.indices.Goals as goal

pub returns-in_default : goal.returns-in_default
returns-in_default c =
    let all = c.args.bytes.now in
    sym (keys_none all (sym c.loop.invariant
    ∙ skips_none index_at (length all) c.loop.counter c.loop.rest.now c.loop-test.true (sym c.in_default.ensures)))

pub returns-in_default-found : goal.returns-in_default-found
returns-in_default-found c =
    let all = c.args.bytes.now in
    let after = c.in-Some.after.now in
    let none : Option (List Key) = None in
    ap (λ b. cond b (Some (keys_taken all)) none) c.is_empty.ensures
    ∙ sym (keys_end all after (sym c.loop.invariant
    ∙ skips_to index_at (length all) c.loop.counter c.loop.rest.now after c.loop-test.true
    (sym c.in-Some.ensures ∙ ap (λ o. Some (option_map key_meant o, after)) c.in_default-found.is)))

pub loop-preserved : goal.loop-preserved
loop-preserved c =
    let all = c.args.bytes.now in
    let after = c.in-Some.after.now in
    sym (skips index_at (length all) c.loop.counter c.loop.rest.now _ after c.loop-test.true
    (sym c.in-Some.ensures ∙ ap (λ o. Some (option_map key_meant o, after)) c.in-Some-found.is)) ∙ c.loop.invariant

pub returns : goal.returns
returns c =
    let all = c.args.bytes.now in
    let none : Option (List Key) = None in
    ap (λ b. cond b (Some (keys_taken all)) none) c.is_empty-2.ensures
    ∙ sym (keys_end all c.loop.rest.now (sym c.loop.invariant
    ∙ skips_all index_at (length all) c.loop.counter c.loop.rest.now c.loop-test.false))
