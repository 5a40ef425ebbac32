use Rattle.std.proofs.Common.{◌≡◌, ◌-◌, ◌≤◌, length}
use Rattle.dp_value.specs.inner.Kept.{is_rising, kept_keys}
use Rattle.dp_value.specs.inner.Left.{left}
use Rattle.dp_value.specs.inner.Rows.{AreRows}
use Rattle.dp_value.proofs.rows.move_back.Given as goal

abbrev pub invariant-rows : goal.invariant-rows
invariant-rows l =
    (l.at ≤ l.start) × AreRows l.start l.gone (is_rising l.kept) (kept_keys l.kept) l.values.items
    × (left l.start l.gone (kept_keys l.kept) ≡ left l.initial.start l.gone (kept_keys l.initial.kept))
    × (left l.start l.gone l.values.items ≡ left l.initial.start l.gone l.initial.values.items)
    × (length l.values.items ≡ length l.initial.values.items)

abbrev pub decreases-rows : goal.decreases-rows
decreases-rows l = l.start - l.at
