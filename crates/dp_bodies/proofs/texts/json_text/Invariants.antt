use Rattle.std.proofs.Common.{◌≡◌, ◌++◌, drop, string_bytes}
use Rattle.dp_bodies.specs.Texts as spec
use Rattle.dp_bodies.proofs.texts.json_text.Given as goal

abbrev pub invariant-loop-byte : goal.invariant-loop-byte
invariant-loop-byte l =
    string_bytes l.text ++ spec.json_text (drop l.byte-index l.bytes) ≡ spec.json_text l.bytes
