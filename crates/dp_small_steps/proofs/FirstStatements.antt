-- A statement by what is done first and what waits for it.
use Rattle.std.proofs.Common.{◌≡◌, ℕ, ◌+◌, List, ◌∷◌, map, drop, length, get_or, ◌<◌, Option, sym, ap, ◌∙◌}
use Rattle.dp_tree.specs.declared.tree.Arm.{Arm}
use Rattle.dp_tree.specs.declared.tree.Definition.{Definition}
use Rattle.dp_tree.specs.declared.tree.Expression.{Expression}
use Rattle.dp_tree.specs.declared.tree.Place.{Place}
use Rattle.dp_tree.specs.declared.tree.Statement.{Statement}
use Rattle.dp_tree.specs.declared.tree.StatementKind.{StatementKind}
use Rattle.dp_tree.specs.declared.tree.StatementKind.TheVariants as kind
use Rattle.dp_state.specs.declared.moments.MomentKind.TheVariants as moment
use Rattle.dp_state.specs.declared.state.State.{State}
use Rattle.dp_state.specs.Places.{keys_of_indices, unset}
use Rattle.dp_actions.specs.declared.signal.Signal.{Signal}
use Rattle.dp_actions.specs.Expressions.{evaluation, evaluations, expression_run, place_run}
use Rattle.dp_actions.specs.Run.{Run, At, and_then, taken, ◌>>=◌}
use Rattle.dp_actions.specs.Setting.{Setting, Part}
use Rattle.dp_actions.specs.inner.StatementParts.{kind_run}
use Rattle.dp_actions.specs.Statements.{ArmRun, KindRun, body_run, constants_run, constant_then, echoes, echoed, go_on, statement_run}
use Rattle.dp_actions.proofs.Runs.{and_then-assoc}
use Rattle.dp_actions.specs.Places.{PlaceRun, unset_run}
use Rattle.dp_actions.proofs.Layers.{run-place}
use Rattle.dp_actions.proofs.StatementLayers.{kind-If, run-arm, run-statement}
use Rattle.dp_small_steps.specs.Rest.{arms_part, branch_of, chosen, next_to}
use Rattle.dp_small_steps.specs.Parts.{Follows, to_signal}
use Rattle.dp_small_steps.proofs.FirstParts.{from-member}

module _ (setting : Setting) (k : Follows) (s : State) where
  pub statement-is : (statement : Statement) (is : StatementKind) → statement.kind ≡ is → (layer : KindRun)
      → kind_run is ≡ layer
      → (statement_run statement setting s >>= to_signal k) ≡ (layer statement.line setting s >>= to_signal k)
  statement-is statement is e layer f = ap (λ (p : Part Signal). p setting s >>= to_signal k) (run-statement statement)
      ∙ ap (λ (x : StatementKind). kind_run x statement.line setting s >>= to_signal k) e
      ∙ ap (λ (x : KindRun). x statement.line setting s >>= to_signal k) f

  -- what is behind a moment
  pub placed-is : (line : ℕ) (f g : State → Run Signal) → ((t : State) → f t ≡ (g t >>= to_signal k))
      → At moment.Place line s f ≡ (At moment.Place line s g >>= to_signal k)
  unfolding and_then
  placed-is line f g e = λ i. At moment.Place line s (λ t. e t i)

  pub body-first : (first : Statement) (rest : List Statement)
      → (body_run (first ∷ rest) setting s >>= to_signal k)
      ≡ (statement_run first setting s >>= λ g t. go_on g (body_run rest setting) t >>= to_signal k)
  body-first first rest = and_then-assoc _ _ _

  pub echo-first : (first : Expression) (rest : List Expression)
      → (echoes (map expression_run (first ∷ rest)) setting s >>= to_signal k)
      ≡ (evaluation first setting s >>= λ v t. echoed (echoes (map expression_run rest) setting) v t >>= to_signal k)
  echo-first first rest = and_then-assoc _ _ _

  pub constants-first : (first : Definition) (rest : List Definition)
      → (constants_run (first ∷ rest) setting s >>= to_signal k)
      ≡ (evaluation first.value setting s
      >>= λ v t. constant_then first.name (constants_run rest setting) v t >>= to_signal k)
  constants-first first rest = and_then-assoc _ _ _

  pub if-is : (statement : Statement) (arms : List Arm) (otherwise : Option Statement)
      → statement.kind ≡ kind.If arms otherwise
      → (statement_run statement setting s >>= to_signal k) ≡ (arms_part arms otherwise setting s >>= to_signal k)
  if-is statement arms otherwise e = ap (λ (p : Part Signal). p setting s >>= to_signal k) (run-statement statement)
      ∙ ap (λ (x : StatementKind). kind_run x statement.line setting s >>= to_signal k) e
      ∙ ap (λ (p : Part Signal). p setting s >>= to_signal k) (kind-If arms otherwise statement.line)

  pub arms-first : (all : List Arm) (at : ℕ) (first : Arm) (otherwise : Option Statement) → at < length all
      → first ≡ get_or all at first
      → At moment.Place first.line s (λ t. chosen (drop at all) otherwise setting t >>= to_signal k)
      ≡ (arms_part (drop at all) otherwise setting s >>= to_signal k)
  unfolding and_then
  arms-first all at first otherwise h e =
      let part = from-member all at first h e in
      rw part (ap (λ (a : ArmRun). a (arms_part (drop (at + 1) all) otherwise) setting s >>= to_signal k)
      (sym (run-arm first)))

  pub chosen-first : (all : List Arm) (at : ℕ) (first : Arm) (otherwise : Option Statement) → at < length all
      → first ≡ get_or all at first
      → (chosen (drop at all) otherwise setting s >>= to_signal k)
      ≡ (evaluation first.test setting s >>= λ v t. branch_of (drop at all) otherwise setting v t >>= to_signal k)
  chosen-first all at first otherwise h e =
      let part = from-member all at first h e in rw part (and_then-assoc _ _ _)

  pub unset-first : (first : Place) (rest : List Place)
      → (unset_run (map place_run (first ∷ rest)) setting s >>= next_to k)
      ≡ (evaluations first.indices setting s >>= λ indices t. taken (unset first.name (keys_of_indices indices) t) t
      >>= λ _ u.
      unset_run (map place_run rest) setting u >>= next_to k)
  unset-first first rest =
      ap (λ (place : PlaceRun). unset_run (place ∷ map place_run rest) setting s >>= next_to k) (run-place first)
      ∙ and_then-assoc _ _ _ ∙ (λ i. evaluations first.indices setting s >>= λ indices t.
      and_then-assoc (taken (unset first.name (keys_of_indices indices) t) t)
      (λ _ u. unset_run (map place_run rest) setting u) (next_to k) i)
