-- Runs that have no moment that is watched: moments before statements, tests and bindings are
-- watched by their lines, and those at which functions are entered and left all or none.
use Rattle.std.specs.Prelude.{◌≡◌, ℕ, Bool, true, List}
use Rattle.dp_state.specs.declared.moments.MomentKind.{MomentKind}
use Rattle.dp_state.specs.declared.moments.MomentKind.TheVariants.{Place as AtPlace, Enter, Leave}
use Rattle.dp_state.specs.declared.state.State.{State}
use Rattle.dp_actions.specs.Run.{Run, Done, Over, At}
use Rattle.dp_analysis.specs.Quiet.{is_free}

-- a moment of this kind, on this line, is not watched; calls are free or they are not
abbrev pub is_unwatched : List ℕ → Bool → MomentKind → ℕ → Bool
is_unwatched lines calls AtPlace line = is_free lines line
is_unwatched lines calls Enter line = calls
is_unwatched lines calls Leave line = calls

abbrev pub IsUnwatched : List ℕ → Bool → MomentKind → ℕ → Type 0
IsUnwatched lines calls kind line = is_unwatched lines calls kind line ≡ true

-- each moment of a run is such, whatever is done at its moments
abbrev pub EachMoment : {A : Type 0} → (MomentKind → ℕ → Type 0) → Run A → Type 0
EachMoment Such (Done a s) = Unit {0}
EachMoment Such (Over o s) = Unit {0}
EachMoment Such (At kind line s go) = Such kind line × ((t : State) → EachMoment Such (go t))

-- no moment of a run is watched
abbrev pub OnFree : {A : Type 0} → List ℕ → Bool → Run A → Type 0
OnFree lines calls r = EachMoment (IsUnwatched lines calls) r
