use Rattle.std.proofs.Common.{Bool, MatchOption, subst}
use Rattle.dp_value.specs.declared.key.Key.{Key}
use Rattle.dp_value.specs.contracts.key.KeyPartialEq.TheImpl.{ghosts}
use Rattle.dp_value.specs.Place.{IsAbsent, IsFirst}
use Rattle.dp_value.proofs.KeyLemmas.{derived_eq}
use Rattle.dp_value.proofs.PairLemmas.{placed}
use Rattle.dp_value.proofs.kept.indexed_row.Goals as goal

pub returns : goal.returns
returns c =
    let derived : MatchOption c.get_index_of.result (IsAbsent (ghosts.eq c.args.key.now) c.args.keys.now.keys)
    (IsFirst (ghosts.eq c.args.key.now) c.args.keys.now.keys) =
    rw c.get_index_of.ensures.index (placed (ghosts.eq c.args.key.now) c.args.keys.now.keys) in
    subst (λ (test : Key → Bool). MatchOption c.get_index_of.result (IsAbsent test c.args.keys.now.keys)
    (IsFirst test c.args.keys.now.keys))
    (λ i key. derived_eq c.args.key.now key i) derived
