use Rattle.std.proofs.Common.{take}
use Rattle.std.specs.Prelude.{All, string_bytes}
use Rattle.dp_words.specs.Words.{IsFileWord}
use Rattle.dp_words.proofs.names.are_named.Given as goal

abbrev pub invariant-loop-word : goal.invariant-loop-word
invariant-loop-word l = All (λ word. IsFileWord (string_bytes word)) (take l.word-index l.words)
