use Rattle.std.proofs.Common.{◌<◌, length, ap, sym, arith}
use Rattle.std.proofs.lemmas.Option.{slice_get_past}
use Rattle.dp_value.specs.Data.{Table}
use Rattle.dp_value.proofs.ArrayLemmas.{kept_length, lengths_left, row}
use Rattle.dp_value.proofs.value.Columns.pair.Goals as goal

pub returns-then-at-len : goal.returns-then-at-len
returns-then-at-len c =
    sym (slice_get_past c.args.self.now.pairs c.args.at (omega (arith, c.len.ensures.len, c.if-at-len.true)))

pub at-key-requires-clause-there : goal.at-key-requires-clause-there
at-key-requires-clause-there c =
    omega (
      arith,
      c.len.ensures.len,
      kept_length c.self.inside c.self.invariant,
      ap (λ (t : Table). length t.pairs) c.self.view_is,
    )

pub nth_value-requires-clause-there : goal.nth_value-requires-clause-there
nth_value-requires-clause-there c =
    omega (
      arith,
      c.len.ensures.len,
      lengths_left c.self.inside c.self.invariant,
      kept_length c.self.inside c.self.invariant,
      ap (λ (t : Table). length t.pairs) c.self.view_is,
    )

pub returns : goal.returns
returns c =
    let within : c.args.at < length c.args.self.now.pairs = omega (arith, c.len.ensures.len) in
    sym (row c.self.inside c.self.invariant c.args.self.now c.self.view_is c.args.at c.at-key.result.now within
    c.at-key.ensures c.nth_value.result.now c.nth_value.ensures)
