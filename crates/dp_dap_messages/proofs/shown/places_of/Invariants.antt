use Rattle.std.proofs.Common.{◌≡◌, ◌++◌, drop}
use Rattle.std.specs.List.{flat_map}
use Rattle.dp_dap_messages.specs.Values.{place_in}
use Rattle.dp_dap_messages.proofs.shown.places_of.Given as goal

abbrev pub invariant-loop-property : goal.invariant-loop-property
invariant-loop-property l =
    l.places.items ++ flat_map (place_in l.within) (drop l.property-index l.properties)
    ≡ flat_map (place_in l.within) l.properties
