-- Parameters that are set one after another.
use Rattle.std.proofs.Common.{◌≡◌, ℕ, List, [], ◌∷◌, length, refl, arith}
use Rattle.dp_state.specs.Functions.{with_parameters}
use Rattle.dp_state.specs.Variables.{Variables}
use Rattle.dp_value.specs.declared.value.Value.{Value}

-- where the names end nothing more is set
pub names_end : (names : List (List ℕ)) (values : List Value) (vs : Variables) → length names ≡ 0
    → with_parameters names values vs ≡ vs
names_end [] values vs end = refl
names_end (name ∷ names) values vs end = absurd (omega arith)

-- where the values end nothing more is set
pub values_end : (names : List (List ℕ)) (values : List Value) (vs : Variables) → length values ≡ 0
    → with_parameters names values vs ≡ vs
values_end [] values vs end = refl
values_end (name ∷ names) [] vs end = refl
values_end (name ∷ names) (value ∷ values) vs end = absurd (omega arith)
