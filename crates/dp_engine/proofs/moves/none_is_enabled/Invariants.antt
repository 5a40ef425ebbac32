use Rattle.std.proofs.Common.{◌≡◌, drop}
use Rattle.std.specs.List.{list_any}
use Rattle.dp_engine.proofs.moves.none_is_enabled.Given as goal

abbrev pub invariant-loop-breakpoint : goal.invariant-loop-breakpoint
invariant-loop-breakpoint l =
    list_any (λ b. b.enabled) l.held ≡ list_any (λ b. b.enabled) (drop l.breakpoint-index l.held)
