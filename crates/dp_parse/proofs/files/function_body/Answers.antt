use Rattle.std.proofs.Common.{arith, subst}
use Rattle.dp_token_rules.specs.inner.Input.{Outcome, Reads}
use Rattle.dp_parse.specs.declared.ended.Body.{Body}
use Rattle.dp_parse.proofs.NestedBodies.{body_is}
use Rattle.dp_parse.proofs.files.function_body.Goals as goal

pub bodies_over-requires-clause-ready : goal.bodies_over-requires-clause-ready
bodies_over-requires-clause-ready c = record {
  callable = λ alloc old around some near. omega arith;
  reads =
      λ alloc old new around r some post. subst (λ (o : Outcome Body). Reads o r new.now)
      (body_is 32 around old.now some) post.1;
}
