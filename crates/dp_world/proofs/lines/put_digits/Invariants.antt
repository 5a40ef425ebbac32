use Rattle.std.proofs.Common.{◌≡◌, ◌/◌, ◌%◌, ◌++◌, ◌∷◌, [], take, flat_map}
use Rattle.dp_events.specs.Lists.{digit as digit_of}
use Rattle.dp_world.proofs.lines.put_digits.Given as goal

abbrev pub invariant-loop-byte : goal.invariant-loop-byte
invariant-loop-byte l =
    l.text.items ≡ l.fn.text.items
    ++ flat_map (λ b. digit_of (b / 16) ∷ digit_of (b % 16) ∷ []) (take l.byte-index l.bytes)
