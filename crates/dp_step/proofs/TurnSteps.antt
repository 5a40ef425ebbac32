-- Steps with the statements and the loops that wait, by what a machine has to do before and after.
use Rattle.std.proofs.Common.{◌≡◌, ℕ, suc, ◌+◌, ◌-◌, ◌<◌, Bool, true, false, List, [], ◌∷◌, ◌++◌, drop, length, slice_index_or, slice_set, take, refl, sym, ap, ◌∙◌, arith}
use Rattle.std.specs.Prelude.{slice_get, Some}
use Rattle.dp_tree.specs.declared.tree.Statement.{Statement}
use Rattle.dp_value.specs.declared.value.Value.{Value}
use Rattle.dp_state.specs.declared.moments.MomentKind.TheVariants as moment
use Rattle.dp_state.specs.declared.moments.Outcome.TheVariants as way
use Rattle.dp_state.specs.declared.state.State.{State}
use Rattle.dp_actions.specs.declared.signal.Signal.{Signal}
use Rattle.dp_actions.specs.declared.signal.Signal.TheVariants.{Next}
use Rattle.dp_actions.specs.Loops.{entries}
use Rattle.dp_actions.specs.Run.{Run, Over, At, and_then, ◌>>=◌}
use Rattle.dp_actions.specs.Statements.{body_run, go_on, statement_run}
use Rattle.dp_actions.proofs.Runs.{and_then-assoc}
use Rattle.dp_small_steps.specs.declared.work.Given.TheVariants as given
use Rattle.dp_small_steps.specs.Parts.{to_signal}
use Rattle.dp_small_steps.specs.declared.work.DoTurns.{DoTurns}
use Rattle.dp_small_steps.specs.declared.work.EachTurns.{EachTurns}
use Rattle.dp_small_steps.specs.declared.work.ForSignal.{ForSignal}
use Rattle.dp_small_steps.specs.declared.work.ForSignal.TheVariants as signal_work
use Rattle.dp_small_steps.specs.declared.work.Hand.{Hand}
use Rattle.dp_small_steps.specs.declared.work.Hand.TheVariants as hand
use Rattle.dp_small_steps.specs.declared.work.Turns.{Turns}
use Rattle.dp_small_steps.specs.declared.work.Waiting.{Waiting}
use Rattle.dp_small_steps.specs.declared.work.Work.TheVariants as work
use Rattle.dp_small_steps.specs.Rest.{do_decided, do_test, do_turns_of, each_from, each_rest, hand_rest, signal_rest, turns_decided, turns_of, work_rest}
use Rattle.dp_small_steps.proofs.FirstStatements.{body-first}
use Rattle.dp_small_steps.proofs.TurnLaws.{at-same, do-first, each-first, turn-first}
use Rattle.dp_step.specs.declared.machine.Machine.{Machine}
use Rattle.dp_step.specs.inner.Moves.{setting_at}
use Rattle.dp_step.specs.inner.Innermost.{over, waiting_for, waits_for}
use Rattle.dp_step.proofs.LastStatements.{last-run}
use Rattle.dp_step.proofs.Smalls.{beside, innermost}

-- ---- the last of a list

set-at : {A : Type 0} (l : List A) (x y : A) → slice_set (l ++ x ∷ []) (length l) y ≡ l ++ y ∷ []
set-at [] x y = refl
set-at (z ∷ l) x y = ap (λ (r : List _). z ∷ r) (set-at l x y)

get-at : {A : Type 0} (l : List A) (x d : A) → slice_index_or (l ++ x ∷ []) (length l) d ≡ x
get-at [] x d = refl
get-at (z ∷ l) x d = get-at l x d

look-at : {A : Type 0} (l : List A) (x : A) → slice_get (l ++ x ∷ []) (length l) ≡ Some x
look-at [] x = refl
look-at (z ∷ l) x = look-at l x

take-at : {A : Type 0} (l : List A) (x : A) → take (length l) (l ++ x ∷ []) ≡ l
take-at [] x = refl
take-at (z ∷ l) x = ap (λ (r : List _). z ∷ r) (take-at l x)

one-more : {A : Type 0} (l : List A) (x : A) → length (l ++ x ∷ []) ≡ suc (length l)
one-more [] x = refl
one-more (z ∷ l) x = ap suc (one-more l x)

module _ {A : Type 0} (items below : List A) (x : A) (n : ℕ) (e : items ≡ below ++ x ∷ [])
    (len : n ≡ length items) where
  place : n - 1 ≡ length below
  place =
      let count : n ≡ suc (length below) = len ∙ ap length e ∙ one-more below x in
      omega (arith, count)

  pub last-is : (d : A) → slice_index_or items (n - 1) d ≡ x
  last-is d = rw (place, e) (get-at below x d)

  pub last-found : slice_get items (n - 1) ≡ Some x
  last-found = rw (place, e) (look-at below x)

  -- it is another now
  pub last-set : (y : A) → slice_set items (n - 1) y ≡ below ++ y ∷ []
  last-set y = rw (place, e) (set-at below x y)

  -- it is taken off
  pub last-off : take (n - 1) items ≡ below
  last-off = rw (place, e) (take-at below x)

-- ---- what waits for the signal to go on

-- the signal in hand
abbrev pub go-on : Hand
go-on = hand.Give (given.Signal Next)

module _ (m : Machine) (below : List Waiting) (s : State) where
  -- this item is given the signal to go on
  pub on-is : (items : List Waiting) (w : ForSignal) → items ≡ waits_for below w
      → over m items (given.Signal Next) s ≡ signal_rest (setting_at m) w Next (over m below) s
  on-is items w e = innermost m.bundle.now m.bound m.depth below (waiting_for w) items e (given.Signal Next) s

  -- this is in hand, and it is this item that waits
  pub with-is : (items : List Waiting) (w : ForSignal) → items ≡ waits_for below w → (h : Hand)
      → hand_rest (setting_at m) h (over m items) s
      ≡ hand_rest (setting_at m) h (work_rest (setting_at m) (work.ForSignal w) (over m below)) s
  with-is items w e h = beside m.bundle.now m.bound m.depth below (waiting_for w) items e h s

  -- it does not wait any more
  pub off-is : (items : List Waiting) → items ≡ below → (h : Hand)
      → hand_rest (setting_at m) h (over m below) s ≡ hand_rest (setting_at m) h (over m items) s
  off-is items e h = ap (λ (l : List Waiting). hand_rest (setting_at m) h (over m l) s) (sym e)

  -- ---- statements

  module _ (all : List Statement) (at : ℕ) where
    pub rest-none : drop at all ≡ []
        → (body_run (drop at all) (setting_at m) s >>= to_signal (over m below)) ≡ over m below (given.Signal Next) s
    unfolding and_then
    rest-none e = rw e refl

    pub rest-more : (first : Statement) → drop at all ≡ first ∷ drop (at + 1) all
        → (body_run (drop at all) (setting_at m) s >>= to_signal (over m below))
        ≡ (statement_run first (setting_at m) s >>= λ g t. go_on g (body_run (drop (at + 1) all) (setting_at m)) t
        >>= to_signal (over m below))
    rest-more first e = rw e (body-first (setting_at m) (over m below) s first (drop (at + 1) all))

    pub rest-last : (first : Statement) → drop at all ≡ first ∷ drop (at + 1) all → drop (at + 1) all ≡ []
        → (body_run (drop at all) (setting_at m) s >>= to_signal (over m below))
        ≡ (statement_run first (setting_at m) s >>= to_signal (over m below))
    rest-last first e none =
        rw (e, none) (ap (λ (r : Run Signal). r >>= to_signal (over m below)) (last-run (setting_at m) first s))

  -- ---- turns

  module _ (loop : Turns) (left : ℕ) where
    pub decided-on : (held : Bool) → held ≡ true
        → (turns_decided (setting_at m) loop left held s >>= to_signal (over m below))
        ≡ hand_rest (setting_at m) (hand.Run loop.body) (work_rest (setting_at m) (work.ForSignal (signal_work.Body loop
        left false)) (over m below)) s
    decided-on held e = rw e (and_then-assoc _ _ _)

    pub decided-off : (held : Bool) → held ≡ false
        → (turns_decided (setting_at m) loop left held s >>= to_signal (over m below))
        ≡ over m below (given.Signal Next) s
    unfolding and_then
    decided-off held e = rw e refl

    pub turns-none : left ≡ 0 → (turns_of (setting_at m) loop left s >>= to_signal (over m below)) ≡ Over way.Bound s
    unfolding and_then
    turns-none e = rw e refl

    pub turns-come : 0 < left → (items : List Waiting) → items ≡ waits_for below (signal_work.Body loop (left - 1) true)
        → (turns_of (setting_at m) loop left s >>= to_signal (over m below))
        ≡ At moment.Place loop.line s (over m items (given.Signal Next))
    turns-come h items e =
        sym (turn-first (setting_at m) (over m below) s loop left h)
        ∙ at-same loop.line s _ _ (λ t. sym (and_then-assoc _ _ _) ∙ sym (innermost m.bundle.now m.bound m.depth below
        (waiting_for (signal_work.Body loop (left - 1) true)) items e (given.Signal Next) t))

  module _ (loop : DoTurns) (left : ℕ) where
    pub do-come : (items : List Waiting) → items ≡ waits_for below (signal_work.DoBody loop left true)
        → (do_test (setting_at m) loop left s >>= to_signal (over m below))
        ≡ At moment.Place loop.line s (over m items (given.Signal Next))
    unfolding and_then
    do-come items e = at-same loop.line s _ _ (λ t. sym (innermost m.bundle.now m.bound m.depth below
        (waiting_for (signal_work.DoBody loop left true)) items e (given.Signal Next) t))

    pub do-off : (held : Bool) → held ≡ false
        → (do_decided (setting_at m) loop left held s >>= to_signal (over m below))
        ≡ over m below (given.Signal Next) s
    unfolding and_then
    do-off held e = rw e refl

    pub do-none : left ≡ 0
        → (do_turns_of (setting_at m) loop left s >>= to_signal (over m below)) ≡ Over way.Bound s
    unfolding and_then
    do-none e = rw e refl

    pub do-next : 0 < left
        → (do_turns_of (setting_at m) loop left s >>= to_signal (over m below))
        ≡ hand_rest (setting_at m) (hand.Run loop.body) (work_rest (setting_at m) (work.ForSignal (signal_work.DoBody
        loop (left - 1) false)) (over m below)) s
    do-next h = sym (do-first (setting_at m) (over m below) s loop left h)

  module _ (loop : EachTurns) (subject : Value) (at : ℕ) where
    pub each-none : (due : Bool) → drop at (entries subject) ≡ []
        → (each_rest (setting_at m) loop subject at due Next s >>= to_signal (over m below))
        ≡ over m below (given.Signal Next) s
    unfolding and_then
    each-none true e = rw e refl
    each-none false e = rw e refl

    pub each-come : at < length (entries subject) → (items : List Waiting)
        → items ≡ waits_for below (signal_work.EachBody loop subject at true)
        → (each_from (setting_at m) loop subject at s >>= to_signal (over m below))
        ≡ At moment.Place loop.line s (over m items (given.Signal Next))
    each-come h items e =
        sym (each-first (setting_at m) (over m below) s loop subject at h)
        ∙ at-same loop.line s _ _ (λ t. sym (innermost m.bundle.now m.bound m.depth below
        (waiting_for (signal_work.EachBody loop subject at true)) items e (given.Signal Next) t))
