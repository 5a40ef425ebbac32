use Rattle.std.proofs.Common.{List, sym, subst}
use Rattle.std.specs.List.{IsDistinct}
use Rattle.dp_value.specs.declared.key.Key.{Key}
use Rattle.dp_value.specs.Key.{key_eq}
use Rattle.dp_value.proofs.KeyLemmas.{distinct_keys}
use Rattle.dp_value.proofs.kept.Kept.try_clone.Goals as goal

pub set_of-requires : goal.set_of-requires
set_of-requires c =
    subst (λ (ks : List Key). IsDistinct key_eq ks) (sym c.as_slice-in-Indexed.ensures.keys)
    (distinct_keys c.in-Indexed.keys.keys c.as_slice-in-Indexed.ensures.unique)
