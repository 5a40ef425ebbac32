use Rattle.dp_value.specs.inner.Codes.{pairs_of-entries_of}
use Rattle.dp_operations.proofs.parts.joining.Goals as goal

pub returns-in_ok-values-in-Text-Array : goal.returns-in_ok-values-in-Text-Array
returns-in_ok-values-in-Text-Array c =
    rw (
      ← c.in-Some.ensures,
      c.in-Text-Array.is-0,
      c.in-Text-Array.is-1,
      pairs_of-entries_of c.in-Text-Array.array.pairs,
      ← c.in_ok-values-in-Text-Array.ensures,
      ← c.as_slice-in-Text-Array.ensures.value,
      ← c.as_slice.ensures,
    ) c.joined.ensures
