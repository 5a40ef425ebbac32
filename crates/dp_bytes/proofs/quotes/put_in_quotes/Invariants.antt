use Rattle.std.proofs.Common.{◌≡◌, ◌++◌, drop}
use Rattle.std.specs.List.{flat_map}
use Rattle.dp_bytes.specs.Quotes.{in_quotes}
use Rattle.dp_bytes.proofs.quotes.put_in_quotes.Given as goal

abbrev pub invariant-loop-b : goal.invariant-loop-b
invariant-loop-b l =
    l.fn.out.items ++ flat_map in_quotes l.bytes ≡ l.out.items ++ flat_map in_quotes (drop l.b-index l.bytes)
