use Rattle.std.proofs.Common.{map, sym, ap, ◌∙◌}
use Rattle.dp_value.specs.Data.{Table}
use Rattle.dp_value.specs.Key.{key_eq}
use Rattle.dp_value.specs.Table.{value_at}
use Rattle.dp_value.specs.Value.{data_of}
use Rattle.dp_value.proofs.PairLemmas.{absent-find_value, first-find_value}
use Rattle.dp_value.specs.inner.Inside.{keys_left, values_left}
use Rattle.dp_value.proofs.ArrayLemmas.{read_value, same_left, there}
use Rattle.dp_value.proofs.value.Columns.get.Goals as goal

pub returns-in_err-at : goal.returns-in_err-at
returns-in_err-at c =
    rw c.from_residual.ensures
    (sym (absent-find_value (key_eq c.args.key.now) (keys_left c.self.inside)
    (map data_of (values_left c.self.inside)) c.in_err-at.ensures)
    ∙ ap (λ (t : Table). value_at t c.args.key.now) c.self.view_is)

pub nth_value-requires-clause-there : goal.nth_value-requires-clause-there
nth_value-requires-clause-there c =
    there c.self.inside c.self.invariant (key_eq c.args.key.now) c.in_ok-at.at c.in_ok-at.ensures

pub returns : goal.returns
returns c =
    sym (first-find_value (key_eq c.args.key.now) (keys_left c.self.inside)
    (map data_of (values_left c.self.inside)) c.in_ok-at.at c.in_ok-at.ensures
    (same_left c.self.inside c.self.invariant)
    ∙ read_value c.self.inside c.self.invariant (key_eq c.args.key.now) c.in_ok-at.at c.in_ok-at.ensures
    c.nth_value.result.now c.nth_value.ensures)
    ∙ ap (λ (t : Table). value_at t c.args.key.now) c.self.view_is
