use Rattle.std.proofs.Common.{length, ap, arith}
use Rattle.dp_value.specs.Data.{Table}
use Rattle.dp_value.specs.inner.Kept.{kept_keys}
use Rattle.dp_value.proofs.ArrayLemmas.{kept_length}
use Rattle.dp_value.proofs.LeftLemmas.{length-left}
use Rattle.dp_value.proofs.value.Columns.len.Goals as goal

pub overflow_sub-result : goal.overflow_sub-result
overflow_sub-result c = omega (arith, c.len.ensures, c.self.invariant.rows.keys.within)

pub returns-clause-len : goal.returns-clause-len
returns-clause-len c =
    omega (
      arith,
      c.len.ensures,
      length-left c.self.inside.start c.self.inside.gone (kept_keys c.self.inside.kept)
          c.self.invariant.rows.keys.within,
      kept_length c.self.inside c.self.invariant,
      ap (λ (t : Table). length t.pairs) c.self.view_is,
    )
