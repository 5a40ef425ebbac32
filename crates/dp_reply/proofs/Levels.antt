-- A property that is read goes on one level deeper.
use Rattle.std.proofs.Common.{◌≡◌, ◌≢◌, ◌-◌, ℕ, zero, suc, refl, arith}
use Rattle.dp_markup.specs.declared.tree.Element.{Element}
use Rattle.dp_reply.specs.Readings.{property_within, property_around}

pub one_deeper : (level : ℕ) (e : Element) → level ≢ 0
    → property_around (property_within (level - 1)) e ≡ property_within level e
unfolding property_within
one_deeper zero e some = absurd (some refl)
one_deeper (suc level) e some = let less : suc level - 1 ≡ level = omega arith in rw less refl
