use Rattle.std.proofs.Common.{◌∙◌, arith}
use Rattle.dp_lexer.proofs.Tags.{tag_shape, space_behind}
use Rattle.dp_lexer.proofs.lexer.has_tag.Goals as goal
use Rattle.dp_lexer.proofs.lexer.has_tag.Goals.{then-bytes-lt-TAG-via-then-bytes-lt-TAG, then-bytes-lt-TAG-via-else-bytes-lt-TAG+then-not-eq_ignore_ascii_case}

pub returns-then-bytes-lt-TAG-clause-only : goal.returns-then-bytes-lt-TAG-clause-only
returns-then-bytes-lt-TAG-clause-only c =
    λ rest h. let t = tag_shape c.args.bytes.now rest h in absurd
    (elim c.then-bytes-lt-TAG.branch [
      | then-bytes-lt-TAG-via-then-bytes-lt-TAG w ↦ omega
          (arith, t.long, w.if-bytes-lt-TAG.true)
      | then-bytes-lt-TAG-via-else-bytes-lt-TAG+then-not-eq_ignore_ascii_case w ↦
          (let f = w.if-not-eq_ignore_ascii_case.ensures.test.1 t.spelled in cc)
    ])

pub returns-else-bytes-eq-TAG-clause-only : goal.returns-else-bytes-eq-TAG-clause-only
returns-else-bytes-eq-TAG-clause-only c =
    λ rest h. let t = tag_shape c.args.bytes.now rest h in (
      c.is_space.ensures
          ∙ space_behind c.args.bytes.now rest h (omega arith),
      t.rest_is,
    )
