use Rattle.std.proofs.Common.{◌≡◌, ℕ, suc, ◌+◌, ◌-◌, ◌<◌, length, subst, arith}
use Rattle.std.proofs.lemmas.List.Edits.{length-swap}
use Rattle.dp_value.specs.inner.Kept.{is_rising, kept_keys}
use Rattle.dp_value.specs.inner.Left.{left}
use Rattle.dp_value.specs.inner.Rows.{AreRows}
use Rattle.dp_value.proofs.LeftLemmas.{left-swap_back}
use Rattle.dp_value.proofs.RowLemmas.{rows-back}
use Rattle.dp_value.proofs.rows.move_back.Goals as goal

pub swap-requires-clause-a_within : goal.swap-requires-clause-a_within
swap-requires-clause-a_within c = omega (arith, c.requires.some, c.rows.invariant.1.keys.within)

pub swap-requires-clause-b_within : goal.swap-requires-clause-b_within
swap-requires-clause-b_within c = omega (arith, c.rows.invariant.1.keys.within)

pub swap-requires-in-rows-clause-i_in_bounds : goal.swap-requires-in-rows-clause-i_in_bounds
swap-requires-in-rows-clause-i_in_bounds c =
    omega (arith, c.requires.some, c.rows.invariant.1.keys.within, c.rows.invariant.1.same_length)

pub swap-requires-in-rows-clause-j_in_bounds : goal.swap-requires-in-rows-clause-j_in_bounds
swap-requires-in-rows-clause-j_in_bounds c =
    omega (arith, c.rows.invariant.1.keys.within, c.rows.invariant.1.same_length)

pub rows-preserved : goal.rows-preserved
rows-preserved c =
    let s = c.rows.start - 1 in
    let g = c.args.gone in
    let ks = kept_keys c.rows.kept in
    let vs = c.rows.values.items in
    let e : c.rows.start ≡ suc s = omega arith in
    let are = subst (λ (n : ℕ). AreRows n g (is_rising c.rows.kept) ks vs) e c.rows.invariant.1 in
    let there : s + g < length ks = omega (arith, are.keys.within) in
    let keys = subst (λ (n : ℕ). left n g ks ≡ left c.args.start.now g (kept_keys c.args.kept.now)) e
    c.rows.invariant.2 in
    let values = subst (λ (n : ℕ). left n g vs ≡ left c.args.start.now g c.args.values.now.items) e
    c.rows.invariant.3 in (
      omega arith,
      rw (c.swap.ensures.rises, c.swap.ensures.keys, c.swap-in-rows.ensures.items) (rows-back are c.requires.some),
      rw (c.swap.ensures.keys, left-swap_back s g ks c.requires.some there) keys,
      rw (c.swap-in-rows.ensures.items, left-swap_back s g vs c.requires.some (omega (arith, there, are.same_length)))
          values,
      rw (c.swap-in-rows.ensures.items, length-swap vs s (s + g)) c.rows.invariant.4,
    )
