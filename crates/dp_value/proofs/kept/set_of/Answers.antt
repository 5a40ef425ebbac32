use Rattle.std.proofs.Common.{◌++◌, ◌∷◌, [], List, ◌<◌, take, length, ap, sym, ◌∙◌, arith}
use Rattle.std.proofs.lemmas.List.{take_more}
use Rattle.indexmap.specs.IndexSet.{insert_key}
use Rattle.dp_value.specs.declared.key.Key.{Key}
use Rattle.dp_value.specs.contracts.key.KeyPartialEq.TheImpl.{ghosts}
use Rattle.dp_value.proofs.KeyLemmas.{inserted_new, fresh}
use Rattle.dp_value.proofs.kept.set_of.Goals as goal

pub loop-key-preserved : goal.loop-key-preserved
loop-key-preserved c =
    let within : c.loop-key.key-index < length c.args.keys.now = omega arith in
    let lacks = fresh c.args.keys.now c.loop-key.key-index c.key-item.result c.requires within c.key-item.is in
    c.in_ok-insert.ensures.keys
    ∙ ap (λ (k : Key). insert_key ghosts.eq c.loop-key.set.keys k) c.in_ok-try_clone.ensures
    ∙ ap (λ (ks : List Key). insert_key ghosts.eq ks c.key-item.result) c.loop-key.invariant
    ∙ inserted_new (take c.loop-key.key-index c.args.keys.now) c.key-item.result lacks
    ∙ ap (λ (k : Key). take c.loop-key.key-index c.args.keys.now ++ k ∷ []) c.key-item.is
    ∙ sym (take_more c.args.keys.now c.loop-key.key-index c.key-item.result within)
