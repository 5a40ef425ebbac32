use Rattle.std.proofs.Common.{arith}
use Rattle.dp_value.specs.Value.{data_of}
use Rattle.dp_value.proofs.WriteLemmas.{weight-put}
use Rattle.dp_value.proofs.value.Columns.weight_with.Goals as goal

pub returns : goal.returns
returns c =
    omega (
      arith,
      weight-put c.args.key.now (data_of c.args.value.now) c.args.self.now.pairs,
      c.weight-added.ensures,
      c.entry-others.ensures.beside,
      c.saturating_add.ensures,
    )
