use Rattle.std.proofs.Common.{◌≡◌, drop}
use Rattle.std.specs.List.{find}
use Rattle.std.specs.Str.{bytes_eq}
use Rattle.dp_features.specs.Features.{name_of}
use Rattle.dp_features.proofs.feature.first_of.Given as goal

abbrev pub invariant-loop-feature : goal.invariant-loop-feature
invariant-loop-feature l =
    find (λ f. bytes_eq (name_of f) l.name) (drop l.feature-index l.features) ≡ find
    (λ f. bytes_eq (name_of f) l.name) l.features
