use Rattle.std.proofs.Common.{◌∙◌}
use Rattle.dp_value.proofs.RowLemmas.{rows-indexed}
use Rattle.dp_value.proofs.rows.make_way.Goals as goal

pub index-requires : goal.index-requires
index-requires c =
    rw (c.clear_rows.ensures.start, c.clear_rows.ensures.none) at c.clear_rows.ensures.rows.keys.rises

pub returns-in_err-index-clause-keys : goal.returns-in_err-index-clause-keys
returns-in_err-index-clause-keys c =
    rw (c.clear_rows.ensures.start, c.clear_rows.ensures.none, c.in_err-index.ensures.keys)
    (c.clear_rows.ensures.keys ∙ c.takes.ensures.left)

pub returns-in_err-index-clause-values : goal.returns-in_err-index-clause-values
returns-in_err-index-clause-values c =
    rw (c.clear_rows.ensures.start, c.clear_rows.ensures.none) c.clear_rows.ensures.values

pub returns-in_err-index-clause-rows : goal.returns-in_err-index-clause-rows
returns-in_err-index-clause-rows c =
    rw (c.in_err-index.ensures.stays, c.in_err-index.ensures.keys) c.clear_rows.ensures.rows

pub returns-clause-keys : goal.returns-clause-keys
returns-clause-keys c =
    rw (c.clear_rows.ensures.start, c.clear_rows.ensures.none, c.in_ok-index.ensures.keys)
    (c.clear_rows.ensures.keys ∙ c.takes.ensures.left)

pub returns-clause-values : goal.returns-clause-values
returns-clause-values c = rw (c.clear_rows.ensures.start, c.clear_rows.ensures.none) c.clear_rows.ensures.values

pub returns-clause-rows : goal.returns-clause-rows
returns-clause-rows c =
    rw (c.in_ok-index.ensures.indexed, c.in_ok-index.ensures.keys) (rows-indexed c.clear_rows.ensures.rows)

pub returns-clause-way : goal.returns-clause-way
returns-clause-way c =
    rw (c.in_ok-index.ensures.indexed, c.in_ok-index.ensures.keys, c.clear_rows.ensures.keys, c.takes.ensures.left)
    c.requires.absent
