use Rattle.std.proofs.Common.{◌++◌, ◌∷◌, [], List, map, ap, ◌∙◌, add-one, arith}
use Rattle.std.proofs.lemmas.List.{map_push, take_all}
use Rattle.dp_value.specs.declared.key.Key.{Key}
use Rattle.dp_value.specs.declared.value.Value.{Value}
use Rattle.dp_value.specs.Data.{Data}
use Rattle.dp_value.specs.Table.{values_of}
use Rattle.dp_value.specs.Value.{data_of}
use Rattle.dp_value.proofs.PairLemmas.{map-read}
use Rattle.dp_operations.proofs.arrays.values.Goals as goal

pub loop-at-preserved : goal.loop-at-preserved
loop-at-preserved c =
    ap (map data_of) c.in_ok-push.ensures.items
    ∙ map_push data_of c.loop-at.values.items c.in_ok-try_clone.field-0
    ∙ ap (λ (v : Value). map data_of c.loop-at.values.items ++ data_of v ∷ []) c.in_ok-try_clone.ensures
    ∙ ap (λ (ds : List Data). ds ++ data_of c.in-Some.value.now ∷ []) c.loop-at.invariant
    ∙ rw add-one (map-read (λ (p : Key × Data). p.1) c.args.array.now.pairs c.loop-at.at
    (c.in-Some._key.now, data_of c.in-Some.value.now) c.in-Some.ensures)

pub returns : goal.returns
returns c =
    c.loop-at.invariant
    ∙ ap values_of (take_all c.loop-at.at c.args.array.now.pairs (omega (arith, c.len-at-end.ensures.len)))
