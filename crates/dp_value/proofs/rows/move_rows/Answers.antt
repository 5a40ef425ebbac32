use Rattle.std.proofs.Common.{◌≡◌, ℕ, ◌+◌, ◌≤◌, ◌<◌, List, length, ap, sym, ◌∙◌, add-one, arith}
use Rattle.dp_value.specs.declared.key.Key.{Key}
use Rattle.dp_value.specs.inner.Kept.{kept_keys}
use Rattle.dp_value.specs.inner.Left.{left}
use Rattle.dp_value.proofs.LeftLemmas.{length-left, left-none, left-swap}
use Rattle.dp_value.proofs.RowLemmas.{rows-none, rows-swap}
use Rattle.dp_value.proofs.rows.move_rows.Goals as goal

-- nothing is removed, so it stands anywhere
pub returns-then-gone-eq0-clause-keys : goal.returns-then-gone-eq0-clause-keys
returns-then-gone-eq0-clause-keys c =
    rw c.if-gone-eq0.true (
    left-none c.args.at (kept_keys c.args.kept.now) ∙ sym (left-none c.args.start.now (kept_keys c.args.kept.now))
    )

pub returns-then-gone-eq0-clause-values : goal.returns-then-gone-eq0-clause-values
returns-then-gone-eq0-clause-values c =
    rw c.if-gone-eq0.true (
    left-none c.args.at c.args.values.now.items ∙ sym (left-none c.args.start.now c.args.values.now.items)
    )

pub returns-then-gone-eq0-clause-rows : goal.returns-then-gone-eq0-clause-rows
returns-then-gone-eq0-clause-rows c =
    rw c.if-gone-eq0.true
    (rows-none (rw c.if-gone-eq0.true at c.requires.rows) c.args.at
    (omega (arith, c.requires.there, c.requires.rows.same_length)))

pub returns-then-gone-eq0-clause-room : goal.returns-then-gone-eq0-clause-room
returns-then-gone-eq0-clause-room c = omega (arith, c.requires.there, c.requires.rows.same_length)

pub returns-then-at-start-clause-room : goal.returns-then-at-start-clause-room
returns-then-at-start-clause-room c =
    omega (
      arith,
      c.requires.there,
      c.requires.rows.same_length,
      c.move_back.ensures.there,
      c.move_back.ensures.same_length,
    )

-- there is a row behind those that are removed
room : (first now gone at : ℕ) (ks ls : List Key) → first + gone ≤ length ks → now + gone ≤ length ls
    → left now gone ls ≡ left first gone ks → gone + at < length ks → now ≤ at → now + gone < length ls
room first now gone at ks ls before within same there past =
    omega (arith, length-left first gone ks before, length-left now gone ls within, ap length same)

pub swap-requires-clause-b_within : goal.swap-requires-clause-b_within
swap-requires-clause-b_within c =
    room c.args.start.now c.rows.start c.args.gone.now c.args.at (kept_keys c.args.kept.now) (kept_keys c.rows.kept)
    c.requires.rows.keys.within c.rows.invariant.1.keys.within c.rows.invariant.2 c.requires.there
    c.rows.invariant.0

pub swap-requires-in-rows-clause-j_in_bounds : goal.swap-requires-in-rows-clause-j_in_bounds
swap-requires-in-rows-clause-j_in_bounds c =
    let there = room c.args.start.now c.rows.start c.args.gone.now c.args.at (kept_keys c.args.kept.now)
    (kept_keys c.rows.kept) c.requires.rows.keys.within c.rows.invariant.1.keys.within c.rows.invariant.2
    c.requires.there c.rows.invariant.0 in
    omega (arith, there, c.rows.invariant.1.same_length, c.rows.values.ok.0)

pub rows-preserved : goal.rows-preserved
rows-preserved c =
    let s = c.rows.start in
    let g = c.args.gone.now in
    let are = c.rows.invariant.1 in
    let there = room c.args.start.now s g c.args.at (kept_keys c.args.kept.now) (kept_keys c.rows.kept)
    c.requires.rows.keys.within are.keys.within c.rows.invariant.2 c.requires.there c.rows.invariant.0 in
    let within : s + g < length c.rows.values.items = omega (arith, there, are.same_length) in (
      omega arith,
      rw (add-one, c.swap.ensures.rises, c.swap.ensures.keys, c.swap-in-rows.ensures.items)
          (rows-swap are (omega arith) within),
      rw (add-one, c.swap.ensures.keys, left-swap s g (kept_keys c.rows.kept) (omega arith) there) c.rows.invariant.2,
      rw (add-one, c.swap-in-rows.ensures.items, left-swap s g c.rows.values.items (omega arith) within)
          c.rows.invariant.3,
    )

pub returns-clause-room : goal.returns-clause-room
returns-clause-room c =
    let there = room c.args.start.now c.rows.start c.args.gone.now c.args.at (kept_keys c.args.kept.now)
    (kept_keys c.rows.kept) c.requires.rows.keys.within c.rows.invariant.1.keys.within c.rows.invariant.2
    c.requires.there c.rows.invariant.0 in
    omega (arith, there, c.rows.invariant.1.same_length)
