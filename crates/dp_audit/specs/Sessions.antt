-- What a session of the engine over a program does, as its record has it: what it sends and what
-- goes to the program's own output, served alone; and how the program ends.
use Rattle.std.specs.Prelude.{ℕ, List}
use Rattle.dp_tree.specs.declared.bundle.Bundle.{Bundle}
use Rattle.dp_engine.specs.Served.{alone, answers, ending, own}
use Rattle.dp_wire.specs.Frames.{rest_of}
use Rattle.dp_records.specs.Behaviours.{Behaviour, is_left_off}

abbrev pub session : Bundle → ℕ → List ℕ → Behaviour
session bundle bound key = record {
  sent = λ bytes. alone bundle bound key bytes;
  own = λ bytes. own bundle bound bytes;
  ending = λ bytes. ending bundle bound bytes;
  is_cut_off = λ bytes. is_left_off (answers bundle bound bytes).ended (rest_of bytes);
}
