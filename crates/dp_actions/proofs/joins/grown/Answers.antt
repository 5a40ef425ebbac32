use Rattle.dp_actions.proofs.joins.grown.Goals as goal

pub returns : goal.returns
returns c =
    rw (
      c.as_slice.ensures.value,
      c.as_slice-2.ensures,
      c.in_ok-piece.ensures,
      c.in_ok-keys.ensures,
      c.in_ok-text.ensures,
    ) at c.grown_by.ensures
