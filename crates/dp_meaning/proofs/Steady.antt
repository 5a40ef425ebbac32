-- A program leaves the number of moments alone, so its moments are numbered from one on.
use Rattle.std.proofs.Common.{◌≡◌, ℕ, refl, sym, ap, ◌∙◌}
use Rattle.dp_tree.specs.declared.bundle.Bundle.{Bundle}
use Rattle.dp_state.specs.declared.state.State.{State}
use Rattle.dp_meaning.specs.Programs.{program_run}
use Rattle.dp_actions.specs.Run.{Run}
use Rattle.dp_meaning.proofs.Always.{Always, Always-program, kept-part}
use Rattle.dp_meaning.proofs.Apart.{IsApart, IsBeside, either-ok}

abbrev pub moments_of : State → ℕ
moments_of s = s.moments

pub apart : IsApart moments_of
apart = record { globals = λ vs s. refl; own = λ at vs s. refl; constants = λ cs s. refl }

pub beside : IsBeside moments_of
beside = record { frames = λ fs s. refl; declared = λ ds s. refl }

-- whatever is done at its moments, the state's number of moments rises by one at each, from so many on
abbrev HasHad : Unit {0} → ℕ → State → Type 0
HasHad d n s = s.moments ≡ n

abbrev pub IsSteady : {A : Type 0} → ℕ → Run A → Type 0
IsSteady n r = Always HasHad tt n r

pub steady-program : (bundle : Bundle) (bound : ℕ) → IsSteady 0 (program_run bundle bound)
steady-program bundle bound =
    Always-program HasHad bundle (kept-part HasHad moments_of apart beside (λ d n s t e p. e ∙ p)
    (λ d n piece s t e p. ap moments_of (sym (either-ok _ _ _ _ e)) ∙ p) bundle) bound tt refl
