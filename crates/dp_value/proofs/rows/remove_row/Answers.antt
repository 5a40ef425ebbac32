use Rattle.std.proofs.Common.{◌≡◌, ℕ, suc, ◌+◌, List, remove, set, ap, ◌∙◌, add-one, arith}
use Rattle.dp_value.specs.declared.key.Key.{Key}
use Rattle.dp_value.specs.declared.value.Value.{Value}
use Rattle.dp_value.specs.declared.value.Value.TheVariants.{Null}
use Rattle.dp_value.specs.inner.Kept.{kept_keys}
use Rattle.dp_value.specs.inner.Left.{left}
use Rattle.dp_value.proofs.LeftLemmas.{left-next, left-past, left-remove}
use Rattle.dp_value.proofs.RowLemmas.{rows-mark, rows-remove}
use Rattle.dp_value.proofs.rows.remove_row.Goals as goal

pub returns-then-closes_up-clause-keys : goal.returns-then-closes_up-clause-keys
returns-then-closes_up-clause-keys c =
    rw c.remove.ensures.keys
    (left-remove c.args.start.now c.args.gone.now c.args.at (kept_keys c.args.kept.now)
    (c.closes_up.ensures c.if-closes_up.true))

pub returns-then-closes_up-clause-values : goal.returns-then-closes_up-clause-values
returns-then-closes_up-clause-values c =
    rw c.remove-then-closes_up.ensures.items
    (left-remove c.args.start.now c.args.gone.now c.args.at c.args.values.now.items
    (c.closes_up.ensures c.if-closes_up.true))

pub returns-then-closes_up-clause-rows : goal.returns-then-closes_up-clause-rows
returns-then-closes_up-clause-rows c =
    rw (c.remove.ensures.rises, c.remove.ensures.keys, c.remove-then-closes_up.ensures.items)
    (rows-remove c.requires.rows c.args.at (c.closes_up.ensures c.if-closes_up.true)
    (omega (arith, c.requires.rows.same_length)))

pub returns-clause-keys : goal.returns-clause-keys
returns-clause-keys c =
    let s = c.move_rows.new.start in
    let g = c.move_rows.new.gone in
    let ks = kept_keys c.move_rows.new.kept in
    let next : left s (g + 1) ks ≡ remove (left s g ks) s = rw add-one (left-next s g ks) in
    next ∙ ap (λ (n : ℕ). remove (left s g ks) n) c.move_rows.ensures.there
    ∙ ap (λ (xs : List Key). remove xs c.args.at) c.move_rows.ensures.keys

pub returns-clause-values : goal.returns-clause-values
returns-clause-values c =
    let s = c.move_rows.new.start in
    let g = c.move_rows.new.gone in
    let vs = c.move_rows.new.values.items in
    let next : left s (g + 1) (set vs (s + g) Null) ≡ remove (left s g vs) s =
    rw add-one (left-past s (suc g) (s + g) vs Null (omega arith) (omega arith) ∙ left-next s g vs) in
    next ∙ ap (λ (n : ℕ). remove (left s g vs) n) c.move_rows.ensures.there
    ∙ ap (λ (xs : List Value). remove xs c.args.at) c.move_rows.ensures.values

pub returns-clause-rows : goal.returns-clause-rows
returns-clause-rows c = rw add-one (rows-mark c.move_rows.ensures.rows c.move_rows.ensures.room)
