-- Turns of loops, by what is done first.
use Rattle.std.proofs.Common.{◌≡◌, ℕ, zero, suc, ◌+◌, ◌-◌, ◌<◌, List, [], ◌∷◌, drop, length, refl, sym, ap, ◌∙◌, arith}
use Rattle.std.specs.Prelude.{slice_get, Some, Ok, Err}
use Rattle.dp_state.specs.declared.moments.MomentKind.TheVariants as moment
use Rattle.dp_state.specs.declared.state.State.{State}
use Rattle.dp_value.specs.declared.key.Key.{Key}
use Rattle.dp_value.specs.declared.value.Value.{Value}
use Rattle.dp_value.specs.Data.{Data}
use Rattle.dp_actions.specs.declared.signal.Signal.{Signal}
use Rattle.dp_actions.specs.declared.signal.Signal.TheVariants.{Next, Break, Continue, Return}
use Rattle.dp_actions.specs.Expressions.{evaluation, evaluations}
use Rattle.dp_actions.specs.Loops.{bind, entries, step_after, after_body}
use Rattle.dp_actions.specs.Run.{Run, Done, At, and_then, ◌>>=◌}
use Rattle.dp_actions.specs.Setting.{Setting}
use Rattle.dp_actions.specs.Values.{holds}
use Rattle.dp_tree.specs.declared.tree.Expression.{Expression}
use Rattle.dp_actions.specs.Statements.{go_on, statement_run}
use Rattle.dp_actions.proofs.Runs.{and_then-assoc}
use Rattle.dp_actions.proofs.AfterBodies.{turn-on, turn-out}
use Rattle.dp_actions.specs.declared.turns.LoopStep.TheVariants as turn
use Rattle.dp_small_steps.specs.declared.work.DoTurns.{DoTurns}
use Rattle.dp_small_steps.specs.declared.work.EachTurns.{EachTurns}
use Rattle.dp_small_steps.specs.declared.work.Head.{Head}
use Rattle.dp_small_steps.specs.declared.work.Turns.{Turns}
use Rattle.dp_small_steps.specs.Rest.{after_of, do_test, do_tested, do_turns_of, each_from, each_turn, next_rest, tests_of, turns_decided, turns_next, turns_of, turns_tested}
use Rattle.dp_small_steps.specs.Parts.{Follows, to_signal}
use Rattle.dp_small_steps.specs.Leads.{Leads}
use Rattle.dp_actions.specs.declared.halt.Halt.{Halt}
use Rattle.dp_actions.specs.AtOnce.{AtOnce}
use Rattle.dp_small_steps.proofs.AtOnce.{leads_as, leads_off, then_done}

-- another signal than that to go on
pub goes-off : (g : Signal) (next : State → Run Signal) (s : State) → (g ≡ Next → ⊥) → go_on g next s ≡ Done g s
goes-off Next next s h = absurd (h refl)
goes-off (Break loops) next s h = refl
goes-off (Continue loop) next s h = refl
goes-off (Return v) next s h = refl

member-at : {A : Type 0} (l : List A) (n : ℕ) → n < length l
    → (x : A) × (slice_get l n ≡ Some x) × (drop n l ≡ x ∷ drop (suc n) l)
member-at [] n h = absurd (omega (arith, h))
member-at (x ∷ l) zero h = (x, refl, refl)
member-at (x ∷ l) (suc n) h = member-at l n (omega (arith, h))

pub at-same : (line : ℕ) (s : State) (f g : State → Run Signal) → ((t : State) → f t ≡ g t)
    → At moment.Place line s f ≡ At moment.Place line s g
at-same line s f g e = λ i. At moment.Place line s (λ t. e t i)

module _ (setting : Setting) (k : Follows) (s : State) where
  -- out of a loop, or on with it
  pub over-out : (g : Signal) (next : State → Run Signal) (out : Signal) → step_after g ≡ turn.Out out
      → to_signal k out s ≡ (after_body g next s >>= to_signal k)
  unfolding and_then
  over-out g next out e = sym (ap (λ r. r >>= to_signal k) (turn-out g next s out e))

  pub over-on : (g : Signal) (next : State → Run Signal) → step_after g ≡ turn.On
      → (next s >>= to_signal k) ≡ (after_body g next s >>= to_signal k)
  over-on g next e = sym (ap (λ r. r >>= to_signal k) (turn-on g next s e))

  pub turn-first : (loop : Turns) (left : ℕ) → 0 < left
      → At moment.Place loop.line s (λ t. evaluations (tests_of loop.head) setting t
      >>= λ values u. turns_tested setting loop (left - 1) values u >>= to_signal k)
      ≡ (turns_of setting loop left s >>= to_signal k)
  unfolding and_then
  turn-first loop zero h = absurd (omega (arith, h))
  turn-first loop (suc n) h =
      let e : suc n - 1 ≡ n = omega arith in
      rw e (λ i. At moment.Place loop.line s (λ t. sym (and_then-assoc (evaluations (tests_of loop.head) setting t)
      (turns_tested setting loop n) (to_signal k)) i))

  -- one test is the whole list
  pub test-alone : (loop : Turns) (left : ℕ) (test : Expression)
      → (evaluations (test ∷ []) setting s >>= λ values t. turns_tested setting loop left values t >>= to_signal k)
      ≡ (evaluation test setting s >>= λ v t. turns_decided setting loop left (holds v) t >>= to_signal k)
  unfolding and_then
  test-alone loop left test =
      and_then-assoc (evaluation test setting s) (λ v t. Done (v ∷ []) t)
      (λ values t. turns_tested setting loop left values t >>= to_signal k)

  -- the tests of a loop and what comes after its body, by its head
  module _ (loop : Turns) (left : ℕ) (head : Head) (is : loop.head ≡ head) where
    pub tests-by : (evaluations (tests_of head) setting s >>= λ values t. turns_tested setting loop left values t
        >>= to_signal k)
        ≡ (evaluations (tests_of loop.head) setting s >>= λ values t. turns_tested setting loop left values t
        >>= to_signal k)
    tests-by =
        sym (ap (λ h. evaluations (tests_of h) setting s >>= λ values t. turns_tested setting loop left values t
        >>= to_signal k) is)

    pub next-by : (evaluations (after_of head) setting s >>= λ _ t. turns_of setting loop left t >>= to_signal k) ≡
        (turns_next setting loop left s >>= to_signal k)
    next-by =
        sym (and_then-assoc (evaluations (after_of loop.head) setting s) (λ _ t. turns_of setting loop left t)
        (to_signal k)
        ∙ ap (λ h. evaluations (after_of h) setting s >>= λ _ t. turns_of setting loop left t >>= to_signal k) is)

  pub do-first : (loop : DoTurns) (left : ℕ) → 0 < left
      → (statement_run loop.body.now setting s >>= λ g t. after_body g (do_test setting loop (left - 1)) t
      >>= to_signal k)
      ≡ (do_turns_of setting loop left s >>= to_signal k)
  do-first loop zero h = absurd (omega (arith, h))
  do-first loop (suc n) h =
      let e : suc n - 1 ≡ n = omega arith in
      rw e (sym (and_then-assoc (statement_run loop.body.now setting s) (λ g t. after_body g (do_test setting loop n) t)
      (to_signal k)))

  pub do-test : (loop : DoTurns) (left : ℕ)
      → At moment.Place loop.line s (λ t. evaluation loop.test.now setting t >>= λ v u. do_tested setting loop left v u
      >>= to_signal k)
      ≡ (do_test setting loop left s >>= to_signal k)
  unfolding and_then
  do-test loop left =
      λ i. At moment.Place loop.line s (λ t. sym (and_then-assoc (evaluation loop.test.now setting t)
      (do_tested setting loop left) (to_signal k)) i)

  pub each-first : (loop : EachTurns) (subject : Value) (at : ℕ) → at < length (entries subject)
      → At moment.Place loop.line s (λ t. each_turn setting loop (drop at (entries subject)) t >>= to_signal k)
      ≡ (each_from setting loop subject at s >>= to_signal k)
  unfolding and_then
  each-first loop subject at h = let m = member-at (entries subject) at h in rw m.2 refl

  -- the entry at a position is bound
  module _ (loop : EachTurns) (subject : Value) (at : ℕ) (h : at < length (entries subject)) where
    pub bind-ok : (t : State) → ((entry : Key × Data) → slice_get (entries subject) at ≡ Some entry
        → AtOnce (bind loop.binding.now entry s) (Ok (tt {0})) t)
        → (each_turn setting loop (drop at (entries subject)) s >>= to_signal k)
        ≡ (statement_run loop.body.now setting t >>= λ g u. after_body g (each_from setting loop subject (at + 1)) u
        >>= to_signal k)
    bind-ok t ev =
        let m = member-at (entries subject) at h in
        let next : at + 1 ≡ suc at = omega arith in
        rw (m.2, next) (and_then-assoc _ _ _ ∙ then_done (bind loop.binding.now m.0 s) (tt {0}) t _ (ev m.0 m.1)
        ∙ and_then-assoc _ _ _)

  pub bind-err : (loop : EachTurns) (subject : Value) (at : ℕ) → at < length (entries subject)
      → (t : State) (why : Halt)
      → ((entry : Key × Data) → slice_get (entries subject) at ≡ Some entry
      → AtOnce (bind loop.binding.now entry s) (Err why) t)
      → Leads (next_rest setting) (λ k. each_turn setting loop (drop at (entries subject)) s >>= to_signal k)
      (Err why) t
  bind-err loop subject at h t why ev =
      let m = member-at (entries subject) at h in
      rw m.2 (leads_as _ _ _ _ (λ k. and_then-assoc _ _ _)
      (leads_off (bind loop.binding.now m.0 s) t why _ (ev m.0 m.1)))
