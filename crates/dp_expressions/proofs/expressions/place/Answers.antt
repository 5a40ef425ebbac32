use Rattle.std.proofs.Common.{◌≡◌, suc, ◌-◌, arith, subst}
use Rattle.dp_token_rules.specs.inner.Input.{Reads}
use Rattle.dp_expressions.specs.inner.Readers.{below, reading}
use Rattle.dp_expressions.proofs.expressions.place.Goals as goal

pub place_over-requires : goal.place_over-requires
unfolding below reading
place_over-requires c = record {
  callable = λ alloc old part some. tt;
  reads =
      λ alloc old new part r some post. let e : suc (c.args.level - 1) ≡ c.args.level = omega arith in subst
      (λ n. Reads (below n part old.now) r new.now) e post.2;
}
