use Rattle.std.proofs.Common.{◌≡◌, ◌++◌, drop}
use Rattle.std.specs.Prelude.{filter}
use Rattle.dp_reply.specs.Readings.{is_own}
use Rattle.dp_reply.proofs.read_responses.own_attributes.Given as goal

abbrev pub invariant-loop-attribute : goal.invariant-loop-attribute
invariant-loop-attribute l =
    filter is_own l.attributes ≡ l.own.items ++ filter is_own (drop l.attribute-index l.attributes)
