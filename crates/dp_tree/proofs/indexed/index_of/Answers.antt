use Rattle.std.proofs.Common.{List, ℕ, sym, ap, ◌∙◌, subst, length, ◌<◌, ◌+◌, take, arith}
use Rattle.std.specs.Str.{str_to_ascii_lowercase}
use Rattle.dp_tree.specs.declared.tree.Function.{Function}
use Rattle.dp_tree.specs.inner.Indexes.{IsIndex}
use Rattle.dp_tree.proofs.FunctionIndex.{index_at}
use Rattle.dp_tree.proofs.indexed.index_of.Goals as goal

pub loop-number-preserved : goal.loop-number-preserved
loop-number-preserved c =
    let within : c.loop-number.number < length c.args.functions.now =
    omega (arith, c.loop-number-test.true, c.loop-number.auto.number-end) in
    subst (λ (es : List (List ℕ × ℕ)). IsIndex (take (c.loop-number.number + 1) c.args.functions.now) es)
    (sym c.in_ok-keep_first.ensures)
    (index_at c.args.functions.now c.loop-number.number c.index-functions-number.result c.loop-number.firsts.entries
    c.in_ok-lower.lower within c.index-functions-number.is
    (c.in_ok-lower.ensures ∙ ap str_to_ascii_lowercase c.as_slice.ensures
    ∙ ap (λ (f : Function). str_to_ascii_lowercase f.name) (sym c.index-functions-number.is)) c.loop-number.invariant)
