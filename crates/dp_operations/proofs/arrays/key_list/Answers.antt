use Rattle.std.proofs.lemmas.Simd.{map-map}
use Rattle.dp_value.specs.declared.key.Key.{Key}
use Rattle.dp_value.specs.Data.{Data, data_of_key}
use Rattle.dp_value.specs.inner.Codes.{pairs_of-entries_of}
use Rattle.dp_operations.proofs.arrays.key_list.Goals as goal

pub returns-in-Array : goal.returns-in-Array
returns-in-Array c =
    rw (
      ← c.in-Some.ensures,
      c.in-Array.is,
      pairs_of-entries_of c.in-Array.array.pairs,
      map-map data_of_key (λ (p : Key × Data). p.0) c.in-Array.array.pairs,
    ) c.list_of_keys.ensures
