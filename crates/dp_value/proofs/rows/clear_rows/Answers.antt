use Rattle.std.proofs.Common.{arith}
use Rattle.dp_value.specs.inner.Kept.{kept_keys}
use Rattle.dp_value.proofs.LeftLemmas.{left-range}
use Rattle.dp_value.proofs.RowLemmas.{rows-length, AreNull-none}
use Rattle.dp_value.proofs.rows.clear_rows.Goals as goal

pub returns-clause-keys : goal.returns-clause-keys
returns-clause-keys c =
    rw (left-range c.args.start.now c.args.gone.now (kept_keys c.args.kept.now)) c.remove_between.ensures.keys

pub returns-clause-values : goal.returns-clause-values
returns-clause-values c =
    rw (left-range c.args.start.now c.args.gone.now c.args.values.now.items) c.remove_between-2.ensures

pub returns-clause-rows : goal.returns-clause-rows
returns-clause-rows c =
    let s = c.args.start.now in
    let g = c.args.gone.now in
    rw (
      c.remove_between.ensures.rises,
      c.remove_between.ensures.keys,
      c.remove_between-2.ensures,
      ← left-range s g (kept_keys c.args.kept.now),
      ← left-range s g c.args.values.now.items,
    ) record {
      keys = record { within = omega arith; rises = c.requires.keys.rises };
      nulls = AreNull-none 0 _ (omega arith);
      same_length = rows-length c.requires;
    }
