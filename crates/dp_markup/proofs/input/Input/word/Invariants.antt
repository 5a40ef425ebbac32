use Rattle.std.proofs.Common.{◌≡◌, drop}
use Rattle.dp_markup.specs.inner.Input.{word}
use Rattle.dp_markup.proofs.input.Input.word.Given as goal

abbrev pub invariant-loop-byte : goal.invariant-loop-byte
invariant-loop-byte l = word l.bytes l.fn.self ≡ word (drop l.byte-index l.bytes) l.self
