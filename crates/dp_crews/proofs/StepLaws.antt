-- Steps, one after another.
use Rattle.std.proofs.Common.{◌≡◌, ℕ, suc, ◌+◌, subst, arith}
use Rattle.dp_crews.specs.Gates.{Steps}

pub one_step : {X : Type 0} (step : X → X → Type 0) (count : ℕ) (x z y : X) → Steps step count x z → step z y
    → Steps step (count + 1) x y
one_step step count x z y before one =
    let next : suc count ≡ count + 1 = omega arith in
    subst (λ n. Steps step n x y) next (z, before, one)
