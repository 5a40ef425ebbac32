use Rattle.std.proofs.Common.{◌≡◌, ◌+◌, ◌-◌, ℕ, List, length, take, drop, slice_get, sym, ap, subst, ◌∙◌, arith}
use Rattle.std.specs.Prelude.{sum_by}
use Rattle.std.specs.Option.{option_map_or}
use Rattle.dp_value.specs.declared.key.Key.{Key}
use Rattle.dp_value.specs.declared.value.Value.{Value}
use Rattle.dp_value.specs.Data.{Data}
use Rattle.dp_value.specs.Value.{data_of}
use Rattle.dp_view_limits.specs.inner.Sizes.{array_size, entries_size, entry_size, value_size}
use Rattle.dp_view_limits.proofs.Left.{array_is, front_step, page_size, turn}
use Rattle.dp_view_limits.proofs.measures.+measuring.Goals as goal

pub after_entries-loop-at-preserved : goal.after_entries-loop-at-preserved
after_entries-loop-at-preserved t c =
    let f : Key × Data → ℕ = entry_size c.args.p.now (entries_size c.args.p.now c.args.levels) c.args.full in
    let pairs = c.args.array.now.pairs in
    let step = front_step f pairs c.loop-at.at c.args.end c.loop-at-test.true in
    turn c.args.left c.loop-at.rest (sum_by f (drop c.args.start (take c.args.end pairs)))
    (option_map_or f (slice_get pairs c.loop-at.at) 0)
    (sum_by f (drop (c.loop-at.at + 1) (take c.args.end pairs))) c.after_place-rest.result
    (c.loop-at.invariant ∙ ap (λ n. c.loop-at.rest - n) step) c.after_place-rest.ensures

pub after_nested-returns : goal.after_nested-returns
after_nested-returns t c =
    subst (λ n. c.after_entries.result ≡ c.args.left - n)
    (page_size c.args.p.now c.args.page c.args.levels c.args.full c.args.array.now.pairs c.page_start-start.result
    c.page_end-end.result
    c.if-levels-eq0.false c.page_start-start.ensures c.page_end-end.ensures)
    c.after_entries.ensures

pub after_value-returns-in-Array : goal.after_value-returns-in-Array
after_value-returns-in-Array t c =
    let p = c.args.p.now in
    let nest : List (Key × Data) → ℕ = entries_size p c.args.levels c.args.full in
    let pairs = c.in-Array.array.pairs in
    let whole = array_is p c.args.page nest c.in-Array.array
    ∙ ap (λ (v : Value). value_size p c.args.page nest (data_of v)) (sym c.in-Array.is) in
    let front : c.after_array-rest.result ≡ c.args.left - array_size (length pairs) c.args.page p.children =
    subst (λ n. c.after_array-rest.result ≡ c.args.left - array_size n c.args.page p.children) c.len.ensures.len
    c.after_array-rest.ensures in
    omega (arith, whole, front, c.after_nested.ensures)
