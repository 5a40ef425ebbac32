use Rattle.std.proofs.Common.{length}
use Rattle.dp_ide.specs.inner.Readers.{ReadsOn}
use Rattle.dp_ide.proofs.texts.text_in.Given as goal

abbrev pub invariant-bytes : goal.invariant-bytes
invariant-bytes l = ReadsOn l.fn.bytes l.text.items l.rest

abbrev pub decreases-bytes : goal.decreases-bytes
decreases-bytes l = length l.rest
