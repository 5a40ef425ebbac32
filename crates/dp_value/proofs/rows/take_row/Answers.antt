use Rattle.std.proofs.Common.{List, remove, length, ap, ◌∙◌, arith}
use Rattle.dp_value.specs.declared.key.Key.{Key}
use Rattle.dp_value.specs.declared.value.Value.{Value}
use Rattle.dp_value.specs.inner.Kept.{kept_keys}
use Rattle.dp_value.proofs.LeftLemmas.{length-left}
use Rattle.dp_value.proofs.rows.take_row.Goals as goal

pub remove_row-requires-clause-there : goal.remove_row-requires-clause-there
remove_row-requires-clause-there c =
    omega (
      arith,
      c.requires.there,
      length-left c.args.start.now c.args.gone.now (kept_keys c.args.kept.now) c.requires.rows.keys.within,
      length-left c.clear_many.new.start c.clear_many.new.gone (kept_keys c.clear_many.new.kept)
          c.clear_many.ensures.rows.keys.within,
      ap length c.clear_many.ensures.keys,
    )

pub returns-clause-keys : goal.returns-clause-keys
returns-clause-keys c =
    c.remove_row.ensures.keys ∙ ap (λ (xs : List Key). remove xs c.args.at) c.clear_many.ensures.keys

pub returns-clause-values : goal.returns-clause-values
returns-clause-values c =
    c.remove_row.ensures.values ∙ ap (λ (xs : List Value). remove xs c.args.at) c.clear_many.ensures.values
