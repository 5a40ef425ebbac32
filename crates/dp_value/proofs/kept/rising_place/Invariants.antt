use Rattle.std.proofs.Common.{◌-◌, ◌≤◌, length, take, drop}
use Rattle.dp_value.specs.Key.{key_eq}
use Rattle.dp_value.specs.Place.{IsAbsent}
use Rattle.dp_value.specs.inner.Left.{left}
use Rattle.dp_value.proofs.kept.rising_place.Given as goal

-- the key is neither before the rows that are looked through nor behind them
abbrev pub invariant-rows : goal.invariant-rows
invariant-rows l =
    (l.low ≤ l.high) × (l.high ≤ length (left l.start l.gone l.keys))
    × IsAbsent (key_eq l.key) (take l.low (left l.start l.gone l.keys))
    × IsAbsent (key_eq l.key) (drop l.high (left l.start l.gone l.keys))

abbrev pub decreases-rows : goal.decreases-rows
decreases-rows l = l.high - l.low
