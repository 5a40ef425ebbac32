-- Numbers in the range of a feature.
use Rattle.std.proofs.Common.{◌≡◌, ℕ, ◌≤◌, Option, Some, None}
use Rattle.std.specs.Prelude.{IfSome}
use Rattle.dp_features.specs.declared.feature.Feature.{Feature}
use Rattle.dp_features.specs.Features.{range_of, IsInRange}

pub in_range : (feature : Feature) (range : ℕ × ℕ) (number : Option ℕ) → range_of feature ≡ Some range
    → IfSome number (λ n. (range.0 ≤ n) × (n ≤ range.1)) → IfSome number (IsInRange feature)
in_range feature range None e h = tt
in_range feature range (Some n) e h = rw e h
