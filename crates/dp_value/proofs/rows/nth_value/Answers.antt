use Rattle.std.proofs.Common.{List, get_or, ap, ◌∙◌}
use Rattle.dp_value.specs.declared.value.Value.{Value}
use Rattle.dp_value.specs.inner.Left.{left}
use Rattle.dp_value.proofs.rows.nth_value.Goals as goal

pub nth-requires-clause-within : goal.nth-requires-clause-within
nth-requires-clause-within c =
    rw c.as_slice.ensures.value c.requires.nulls.within

pub nth-requires-clause-there : goal.nth-requires-clause-there
nth-requires-clause-there c = rw c.as_slice.ensures.value c.requires.there

pub returns : goal.returns
returns c =
    c.nth.ensures
    ∙ ap (λ (vs : List Value). get_or (left c.args.start c.args.gone vs) c.args.at c.nth.result.now)
    c.as_slice.ensures.value
