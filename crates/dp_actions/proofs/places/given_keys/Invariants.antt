use Rattle.std.proofs.Common.{◌≡◌, ◌++◌, drop}
use Rattle.dp_state.specs.Places.{given_keys}
use Rattle.dp_actions.proofs.places.given_keys.Given as goal

abbrev pub invariant-loop-key : goal.invariant-loop-key
invariant-loop-key l = l.given.items ++ given_keys (drop l.key-index l.keys) ≡ given_keys l.keys
