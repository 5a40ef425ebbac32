-- Runs, one after the other.
use Rattle.std.proofs.Common.{◌≡◌, refl}
use Rattle.dp_state.specs.declared.state.State.{State}
use Rattle.dp_actions.specs.Run.{Run, Done, Over, At, and_then}

-- three runs can be joined from either end
pub and_then-assoc : {A B C : Type 0} (r : Run A) (f : A → State → Run B) (g : B → State → Run C)
    → and_then (and_then r f) g ≡ and_then r (λ a s. and_then (f a s) g)
unfolding and_then
and_then-assoc (Done a s) f g = refl
and_then-assoc (Over o s) f g = refl
and_then-assoc (At kind line s go) f g = λ i. At kind line s (λ t. and_then-assoc (go t) f g i)

-- a run that hands on what it gives
pub and_then-Done : {A : Type 0} (r : Run A) → and_then r (λ a s. Done a s) ≡ r
unfolding and_then
and_then-Done (Done a s) = refl
and_then-Done (Over o s) = refl
and_then-Done (At kind line s go) = λ i. At kind line s (λ t. and_then-Done (go t) i)

-- where what follows is the same, the whole is
pub and_then-same : {A B : Type 0} (r : Run A) (f g : A → State → Run B) → ((a : A) (s : State) → f a s ≡ g a s)
    → and_then r f ≡ and_then r g
and_then-same r f g h = λ i. and_then r (λ a s. h a s i)
