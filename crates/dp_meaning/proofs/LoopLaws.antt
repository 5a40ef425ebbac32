-- Loops, one turn after another.
use Rattle.std.proofs.Common.{◌≡◌, ℕ, zero, suc, ◌-◌, ◌<◌, Bool, true, false, List, ◌∷◌, Result, Ok, Err, refl, arith}
use Rattle.std.specs.Prelude.{if◌then◌else◌}
use Rattle.dp_state.specs.declared.moments.MomentKind.TheVariants.{Place}
use Rattle.dp_state.specs.declared.state.State.{State}
use Rattle.dp_tree.specs.declared.tree.Binding.{Binding}
use Rattle.dp_tree.specs.declared.tree.Expression.{Expression}
use Rattle.dp_tree.specs.declared.tree.Statement.{Statement}
use Rattle.dp_value.specs.declared.key.Key.{Key}
use Rattle.dp_value.specs.declared.value.Value.{Value}
use Rattle.dp_value.specs.Data.{Data}
use Rattle.dp_actions.specs.declared.halt.Halt.{Halt}
use Rattle.dp_actions.specs.declared.turns.LoopStep.TheVariants as turn
use Rattle.dp_actions.specs.declared.signal.Signal.{Signal}
use Rattle.dp_actions.specs.declared.signal.Signal.TheVariants.{Next}
use Rattle.dp_actions.proofs.AfterBodies.{turn-on, turn-out}
use Rattle.dp_meaning.specs.declared.evaluator.Evaluator.{Evaluator}
use Rattle.dp_meaning.specs.inner.Drive.{Rules, Evaluates, moment_run}
use Rattle.dp_meaning.specs.inner.Evaluation.{goes_by}
use Rattle.dp_actions.specs.Expressions.{evaluation, evaluations}
use Rattle.dp_actions.specs.Loops.{step_after, after_body, last_holds, turns, do_turns, bind, each_run}
use Rattle.dp_actions.specs.Run.{Run, Done, At, and_then, given_up}
use Rattle.dp_actions.specs.Statements.{statement_run}
use Rattle.dp_actions.specs.Values.{holds}
use Rattle.dp_meaning.proofs.Drives.{gives, breaks_off, goes_on, passes, stops_at, tested_off, tested_on}

-- ---- `while` and `for`

module _ {O : Type 0} (rules : Rules) (by : Evaluator O) (n line : ℕ) (tests after : List Expression) (run : Statement)
    (more : 0 < n) where
  -- the test, what comes after a body, and the body
  abbrev pub while-test : State → Run (List Value)
  while-test = evaluations tests (goes_by by)

  abbrev pub while-next : State → Run (List Value)
  while-next = evaluations after (goes_by by)

  abbrev pub while-body : State → Run Signal
  while-body = statement_run run (goes_by by)

  -- whether the test holds, and what comes after a body without its values
  abbrev pub while-holds : State → Run Bool
  while-holds s = and_then (while-test s) (λ values t. Done (last_holds values) t)

  abbrev pub while-after : State → Run Unit
  while-after s = and_then (while-next s) given_up

  -- the rest of a turn behind its test, and the turns behind it
  abbrev while-rest : Bool → State → Run Signal
  while-rest on u =
      if on then and_then (while-body u) (λ g v. after_body g (λ w. and_then (while-next w)
      (λ _ x. turns (n - 1) line while-test while-next while-body x)) v) else Done Next u

  turns-is : (s : State) → turns n line while-test while-next while-body s
      ≡ At Place line s (λ t. and_then (while-test t) (λ values u.
      if last_holds values then and_then (while-body u) (λ g v. after_body g (λ w. and_then (while-next w)
      (λ _ x. turns (n - 1) line while-test while-next while-body x)) v) else Done Next u))
  turns-is s = go n more
    where
      go : (n : ℕ) → 0 < n → turns n line while-test while-next while-body s
          ≡ At Place line s (λ t. and_then (while-test t) (λ values u.
          if last_holds values then and_then (while-body u) (λ g v. after_body g (λ w. and_then (while-next w)
          (λ _ x. turns (n - 1) line while-test while-next while-body x)) v) else Done Next u))
      go zero h = absurd (omega arith)
      go (suc m) h = let e : suc m - 1 ≡ m = omega arith in rw e refl

  pub turn-stops : {s t : State} {h : Halt} → Evaluates rules (moment_run Place line s) (Err h) t
      → Evaluates rules (turns n line while-test while-next while-body s) (Err h) t
  turn-stops e = rw turns-is (stops_at e)

  module _ {s t : State} (at : Evaluates rules (moment_run Place line s) (Ok tt) t) where
    pub test-breaks : {u : State} {h : Halt} → Evaluates rules (while-holds t) (Err h) u
        → Evaluates rules (turns n line while-test while-next while-body s) (Err h) u
    test-breaks e = rw turns-is (passes at (tested_off last_holds (while-test t) while-rest e))

    module _ {on : Bool} {u : State} (tested : Evaluates rules (while-holds t) (Ok on) u) where
      pub turns-end : on ≡ false → Evaluates rules (turns n line while-test while-next while-body s) (Ok Next) u
      turns-end z = rw turns-is (passes at (tested_on last_holds (while-test t) while-rest tested (rw z gives)))

      module _ (true-test : on ≡ true) where
        with-body : (x : Result Signal Halt) (v : State)
            → Evaluates rules (and_then (while-body u) (λ g v. after_body g
            (λ w. and_then (while-next w) (λ _ x. turns (n - 1) line while-test while-next while-body x)) v)) x v
            → Evaluates rules (turns n line while-test while-next while-body s) x v
        with-body x v e =
            rw turns-is (passes at (tested_on last_holds (while-test t) while-rest tested (rw true-test e)))

        pub body-breaks : {v : State} {h : Halt} → Evaluates rules (while-body u) (Err h) v
            → Evaluates rules (turns n line while-test while-next while-body s) (Err h) v
        body-breaks {v} {h} e = with-body (Err h) v (breaks_off _ e)

        module _ {g : Signal} {v : State} (ran : Evaluates rules (while-body u) (Ok g) v) where
          pub body-out : {out : Signal} → step_after g ≡ turn.Out out
              → Evaluates rules (turns n line while-test while-next while-body s) (Ok out) v
          body-out {out} e = with-body (Ok out) v (goes_on _ ran (rw (turn-out g _ v out e) gives))

          module _ (next : step_after g ≡ turn.On) where
            abbrev while-more : Unit {0} → State → Run Signal
            while-more _ x = turns (n - 1) line while-test while-next while-body x

            pub next-breaks : {w : State} {h : Halt} → Evaluates rules (while-after v) (Err h) w
                → Evaluates rules (turns n line while-test while-next while-body s) (Err h) w
            next-breaks {w} {h} e =
                with-body (Err h) w (goes_on _ ran (rw (turn-on g _ v next)
                (tested_off (λ _. tt) (while-next v) while-more e)))

            pub turn-goes-on : {w : State} (x : Result Signal Halt) (y : State)
                → Evaluates rules (while-after v) (Ok tt) w
                → Evaluates rules (turns (n - 1) line while-test while-next while-body w) x y
                → Evaluates rules (turns n line while-test while-next while-body s) x y
            turn-goes-on x y e f =
                with-body x y (goes_on _ ran (rw (turn-on g _ v next)
                (tested_on (λ _. tt) (while-next v) while-more e f)))

-- ---- `do`

module _ {O : Type 0} (rules : Rules) (by : Evaluator O) (n line : ℕ) (tested-by : Expression) (run : Statement)
    (more : 0 < n) where
  abbrev pub do-test : State → Run Value
  do-test = evaluation tested-by (goes_by by)

  abbrev pub do-body : State → Run Signal
  do-body = statement_run run (goes_by by)

  do-is : (s : State) → do_turns n line do-test do-body s
      ≡ and_then (do-body s) (λ g t. after_body g (λ u. At Place line u
      (λ v. and_then (do-test v) (λ tested w. if holds tested then do_turns
      (n - 1) line do-test do-body w else Done Next w))) t)
  do-is s = go n more
    where
      go : (n : ℕ) → 0 < n → do_turns n line do-test do-body s
          ≡ and_then (do-body s) (λ g t. after_body g (λ u. At Place line u
          (λ v. and_then (do-test v) (λ tested w. if holds tested then do_turns
          (n - 1) line do-test do-body w else Done Next w))) t)
      go zero h = absurd (omega arith)
      go (suc m) h = let e : suc m - 1 ≡ m = omega arith in rw e refl

  pub do-body-breaks : (s : State) {t : State} {h : Halt} → Evaluates rules (do-body s) (Err h) t
      → Evaluates rules (do_turns n line do-test do-body s) (Err h) t
  do-body-breaks s e = rw do-is (breaks_off _ e)

  module _ (s : State) {g : Signal} {t : State} (ran : Evaluates rules (do-body s) (Ok g) t) where
    pub do-body-out : {out : Signal} → step_after g ≡ turn.Out out
        → Evaluates rules (do_turns n line do-test do-body s) (Ok out) t
    do-body-out {out} e = rw do-is (goes_on _ ran (rw (turn-out g _ t out e) gives))

    module _ (on : step_after g ≡ turn.On) where
      pub do-stops : {u : State} {h : Halt} → Evaluates rules (moment_run Place line t) (Err h) u
          → Evaluates rules (do_turns n line do-test do-body s) (Err h) u
      do-stops e = rw do-is (goes_on _ ran (rw (turn-on g _ t on) (stops_at e)))

      module _ {u : State} (at : Evaluates rules (moment_run Place line t) (Ok tt) u) where
        abbrev more-turns : Bool → State → Run Signal
        more-turns b w = if b then do_turns (n - 1) line do-test do-body w else Done Next w

        pub do-test-breaks : {v : State} {h : Halt}
            → Evaluates rules (and_then (do-test u) (λ tested w. Done (holds tested) w)) (Err h) v
            → Evaluates rules (do_turns n line do-test do-body s) (Err h) v
        do-test-breaks e =
            rw do-is (goes_on _ ran (rw (turn-on g _ t on) (passes at (tested_off holds (do-test u) more-turns e))))

        module _ {tested : Bool} {v : State} (ev : Evaluates rules
            (and_then (do-test u) (λ tested w. Done (holds tested) w)) (Ok tested) v) where
          pub do-end : tested ≡ false → Evaluates rules (do_turns n line do-test do-body s) (Ok Next) v
          do-end z =
              rw do-is (goes_on _ ran (rw (turn-on g _ t on) (passes at
              (tested_on holds (do-test u) more-turns ev (rw z gives)))))

          pub do-goes-on : tested ≡ true → (x : Result Signal Halt) (w : State)
              → Evaluates rules (do_turns (n - 1) line do-test do-body v) x w
              → Evaluates rules (do_turns n line do-test do-body s) x w
          do-goes-on z x w e =
              rw do-is (goes_on _ ran (rw (turn-on g _ t on) (passes at
              (tested_on holds (do-test u) more-turns ev (rw z e)))))

-- ---- `foreach`

module _ {O : Type 0} (rules : Rules) (by : Evaluator O) (line : ℕ) (binding : Binding) (entry : Key × Data)
    (rest : List (Key × Data)) (run : Statement) where
  abbrev pub each-body : State → Run Signal
  each-body = statement_run run (goes_by by)

  pub each-stops : {s t : State} {h : Halt} → Evaluates rules (moment_run Place line s) (Err h) t
      → Evaluates rules (each_run line binding (entry ∷ rest) each-body s) (Err h) t
  each-stops e = stops_at e

  module _ {s t : State} (at : Evaluates rules (moment_run Place line s) (Ok tt) t) where
    pub bind-breaks : {u : State} {h : Halt} → Evaluates rules (bind binding entry t) (Err h) u
        → Evaluates rules (each_run line binding (entry ∷ rest) each-body s) (Err h) u
    bind-breaks e = passes at (breaks_off _ e)

    module _ {u : State} (bound : Evaluates rules (bind binding entry t) (Ok tt) u) where
      pub each-body-breaks : {v : State} {h : Halt} → Evaluates rules (each-body u) (Err h) v
          → Evaluates rules (each_run line binding (entry ∷ rest) each-body s) (Err h) v
      each-body-breaks e = passes at (goes_on _ bound (breaks_off _ e))

      module _ {g : Signal} {v : State} (ran : Evaluates rules (each-body u) (Ok g) v) where
        pub each-out : {out : Signal} → step_after g ≡ turn.Out out
            → Evaluates rules (each_run line binding (entry ∷ rest) each-body s) (Ok out) v
        each-out {out} e = passes at (goes_on _ bound (goes_on _ ran (rw (turn-out g _ v out e) gives)))

        pub each-goes-on : step_after g ≡ turn.On → (x : Result Signal Halt) (w : State)
            → Evaluates rules (each_run line binding rest each-body v) x w
            → Evaluates rules (each_run line binding (entry ∷ rest) each-body s) x w
        each-goes-on on x w e = passes at (goes_on _ bound (goes_on _ ran (rw (turn-on g _ v on) e)))
