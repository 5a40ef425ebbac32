-- Parts of a gate in memory whose links are fresh.
use Rattle.std.proofs.Common.{List, [], ◌∷◌, ◌++◌, All}
use Rattle.std.proofs.lemmas.List.Elements.{All-push}
use Rattle.dp_memory_links.specs.Fakes.{AreFreshCalls, GatePartState, IsFreshCall}

-- one more
pub more_parts : (parts : List GatePartState) (part : GatePartState) → AreFreshCalls parts
    → All IsFreshCall part.links → AreFreshCalls (parts ++ part ∷ [])
more_parts parts part fresh more = All-push (λ each. All IsFreshCall each.links) parts part fresh more
