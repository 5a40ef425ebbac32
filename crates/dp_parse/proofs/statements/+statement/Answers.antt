use Rattle.std.proofs.Common.{arith, subst}
use Rattle.dp_token_rules.specs.inner.Input.{Outcome, Reads}
use Rattle.dp_parse.specs.declared.ended.Body.{Body}
use Rattle.dp_parse.proofs.NestedBodies.{body_is}
use Rattle.dp_parse.proofs.statements.+statement.Goals as goal

pub statement_over-requires : goal.statement_over-requires
statement_over-requires t c = record {
  few = c.requires.few;
  ready = record {
    callable = λ alloc old around some near. (omega arith, omega (arith, c.requires.few));
    reads =
        λ alloc old new around r some post. subst (λ (o : Outcome Body). Reads o r new.now)
        (body_is c.args.level around old.now some) post.1;
  };
}
