use Rattle.std.proofs.Common.{◌≡◌, drop, map}
use Rattle.dp_ide.specs.Messages as spec
use Rattle.dp_ide.proofs.contents.+finding.Given as goal

abbrev pub invariant-property_among-loop-property : goal.invariant-property_among-loop-property
invariant-property_among-loop-property l =
    spec.first_some (map (spec.content_within l.name) (drop l.property-index l.properties)) ≡ spec.first_some
    (map (spec.content_within l.name) l.properties)
