use Rattle.std.proofs.Common.{[], ◌∷◌, ◌++◌, sym, ap, ◌∙◌, subst}
use Rattle.std.specs.Str.{str_to_ascii_lowercase}
use Rattle.dp_tree.specs.Doubles.{IsDouble}
use Rattle.dp_tree.proofs.Taken.{taken_at, free_at, kept_at, any_free}
use Rattle.dp_tree.proofs.doubles.first_double.Goals as goal

pub returns-then-is_taken : goal.returns-then-is_taken
returns-then-is_taken c =
    subst (λ n. IsDouble c.args.functions.now n) (sym c.in_ok-from_slice.ensures)
    (taken_at c.args.functions.now c.loop-function.function-index c.function-item.result c.loop-function-test.true
    c.function-item.is
    c.as_slice-name.result.now c.in_ok-lower.lower c.loop-function.names.keys c.is_taken.result c.as_slice-name.ensures
    c.in_ok-lower.ensures c.loop-function.invariant.0 c.loop-function.invariant.1 c.is_taken.ensures
    c.if-is_taken.true)

pub keep-requires : goal.keep-requires
keep-requires c = any_free _ _ (sym c.is_taken.ensures ∙ c.if-is_taken.false)

pub loop-function-preserved : goal.loop-function-preserved
loop-function-preserved c = (
  c.in_ok-keep.ensures
      ∙ ap (λ l. c.loop-function.names.keys ++ l ∷ []) (c.in_ok-lower.ensures
      ∙ ap str_to_ascii_lowercase c.as_slice-name.ensures)
      ∙ kept_at c.args.functions.now c.loop-function.function-index c.function-item.result c.loop-function-test.true
      c.function-item.is c.loop-function.names.keys c.loop-function.invariant.0,
  free_at c.args.functions.now c.loop-function.function-index c.function-item.result c.loop-function-test.true
      c.function-item.is
      c.as_slice-name.result.now c.in_ok-lower.lower c.loop-function.names.keys c.is_taken.result
      c.as_slice-name.ensures c.in_ok-lower.ensures c.loop-function.invariant.0 c.loop-function.invariant.1
      c.is_taken.ensures c.if-is_taken.false,
)
