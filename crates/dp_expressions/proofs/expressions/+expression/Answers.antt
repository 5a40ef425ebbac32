use Rattle.std.proofs.Common.{◌≡◌, suc, ◌-◌, arith, subst}
use Rattle.dp_token_rules.specs.inner.Input.{Reads}
use Rattle.dp_expressions.specs.inner.Readers.{below, reading}
use Rattle.dp_expressions.proofs.expressions.+expression.Goals as goal

pub part_over-requires : goal.part_over-requires
unfolding below reading
part_over-requires t c = record {
  callable = λ alloc old part some. (omega arith, tt);
  reads =
      λ alloc old new part r some post. let e : suc (c.args.level - 1) ≡ c.args.level = omega arith in subst
      (λ n. Reads (below n part old.now) r new.now) e post.2;
}
