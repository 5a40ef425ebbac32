-- A small step of a machine, by what it does with the pending work.
use Rattle.std.proofs.Common.{◌≡◌, Bool, ℕ, ◌-◌, List, [], ◌∷◌, ◌++◌, reverse, Option, Some, None, Ok, Err, refl, sym, ap, ◌∙◌, subst}
use Rattle.std.proofs.lemmas.List.{reverse-append}
use Rattle.dp_tree.specs.declared.bundle.Bundle.{Bundle}
use Rattle.dp_tree.specs.declared.tree.Function.{Function}
use Rattle.dp_tree.specs.declared.tree.Statement.{Statement}
use Rattle.dp_value.specs.declared.value.Value.{Value}
use Rattle.dp_state.specs.declared.moments.MomentKind.{MomentKind}
use Rattle.dp_state.specs.declared.moments.MomentKind.TheVariants as moment
use Rattle.dp_state.specs.declared.moments.FatalKind.TheVariants.{TooDeep}
use Rattle.dp_state.specs.declared.moments.Outcome.{Outcome}
use Rattle.dp_state.specs.declared.moments.Outcome.TheVariants as way
use Rattle.dp_state.specs.declared.state.State.{State}
use Rattle.dp_state.specs.Functions.{called, included}
use Rattle.dp_state.specs.States.{file_of, line_of}
use Rattle.dp_actions.specs.declared.halt.Halt.{Halt}
use Rattle.dp_actions.specs.declared.halt.Halt.TheVariants.{Memory, Finished, Stopped}
use Rattle.dp_actions.specs.declared.signal.Signal.{Signal}
use Rattle.dp_actions.specs.AtOnce.{AtOnce}
use Rattle.dp_meaning.specs.Programs.{setting_of}
use Rattle.dp_actions.specs.Bodies.{leaving, left_file}
use Rattle.dp_actions.specs.Bodies.{statements_of}
use Rattle.dp_actions.specs.Run.{Run, Done, Over, At, and_then, taken, ◌>>=◌}
use Rattle.dp_actions.specs.Setting.{Setting}
use Rattle.dp_actions.specs.Statements.{body_run}
use Rattle.dp_meaning.proofs.CallLaws.{file-is, suc-call, suc-include, zero-call, zero-include}
use Rattle.dp_actions.proofs.Runs.{and_then-assoc, and_then-same}
use Rattle.dp_step.specs.declared.machine.Came.{Came}
use Rattle.dp_step.specs.declared.machine.Came.TheVariants as step
use Rattle.dp_step.specs.declared.machine.Machine.{Machine}
use Rattle.dp_small_steps.specs.declared.work.Given.{Given}
use Rattle.dp_small_steps.specs.declared.work.Given.TheVariants as given
use Rattle.dp_small_steps.specs.declared.work.Hand.{Hand}
use Rattle.dp_small_steps.specs.declared.work.Hand.TheVariants as hand
use Rattle.dp_small_steps.specs.declared.work.Small.{Small}
use Rattle.dp_small_steps.specs.declared.work.Waiting.{Waiting}
use Rattle.dp_small_steps.specs.declared.work.Waiting.TheVariants as waiting
use Rattle.dp_small_steps.specs.Rest.{behind, hand_rest, next_rest, small_rest, waiting_rest}
use Rattle.dp_small_steps.specs.Parts.{Follows, to_signal, to_value}
use Rattle.dp_step.specs.Stands.{depth_after, pending_rest, rest_of, signal_of}
use Rattle.dp_small_steps.specs.Leads.{Goes, Leads}
use Rattle.dp_step.specs.inner.Moves.{IsDone, IsOver, Moves, MovesBy, body_with, came_of, came_to, ends_call, file_with, follows_of, leave_if, rest_with, setting_at, small_with}

-- ---- the innermost item

module _ (bundle : Bundle) (bound depth : ℕ) (ws : List Waiting) (w : Waiting) where
  pub innermost : (all : List Waiting) → all ≡ ws ++ w ∷ [] → (g : Given) (s : State)
      → pending_rest bundle bound depth (reverse all) g s
      ≡ waiting_rest (setting_of bundle bound (depth_after w depth)) w
      (pending_rest bundle bound (depth_after w depth) (reverse ws)) g s
  innermost all e g s = ap (λ (l : List Waiting). pending_rest bundle bound depth (reverse l) g s) e
      ∙ ap (λ (l : List Waiting). pending_rest bundle bound depth l g s) (reverse-append ws (w ∷ []))

  -- this in hand, with an item more
  pub beside : (all : List Waiting) → all ≡ ws ++ w ∷ [] → (hand : Hand) (s : State)
      → hand_rest (setting_of bundle bound depth) hand (pending_rest bundle bound depth (reverse all)) s
      ≡ hand_rest (setting_of bundle bound depth) hand
      (waiting_rest (setting_of bundle bound (depth_after w depth)) w
      (pending_rest bundle bound (depth_after w depth) (reverse ws))) s
  beside all e hand s =
      ap (λ (k : Follows). hand_rest (setting_of bundle bound depth) hand k s) (λ i g t. innermost all e g t i)

-- what a machine has to do, by its parts
pub rest-by : (m : Machine) (bundle : Bundle) (bound depth : ℕ) (h : Hand) (items : List Waiting)
    → m.bundle.now ≡ bundle → m.bound ≡ bound → m.depth ≡ depth
    → m.hand ≡ h → m.pending.items ≡ items → (s : State)
    → rest_of m s ≡ hand_rest (setting_of bundle bound depth) h (pending_rest bundle bound depth (reverse items)) s
unfolding rest_of
rest-by m bundle bound depth h items b n d e l s =
    λ i. hand_rest (setting_of (b i) (n i) (d i)) (e i) (pending_rest (b i) (n i) (d i) (reverse (l i))) s

-- ---- a run that is the same

pub moves_as : (old mid new : Machine) (run same : Run Signal) (came : Came)
    → run ≡ same → mid.bundle.now ≡ old.bundle.now → mid.bound ≡ old.bound → Moves mid same came new
    → Moves old run came new
moves_as old mid new run same came e bundle bound moves = record {
  by = subst (λ r. MovesBy r came new) (sym e) moves.by;
  same_bundle = moves.same_bundle ∙ bundle;
  same_bound = moves.same_bound ∙ bound;
}

-- a run that is over
pub over-is : (run : Run Signal) (o : Outcome) (t : State) → run ≡ Over o t → IsOver run o t
over-is run o t e = subst (λ r. IsOver r o t) (sym e) (refl, refl)

pub done-is : (run : Run Signal) (m : Machine) → IsDone run m → IsOver run way.Done m.state
done-is run m d = subst (λ r. IsOver r way.Done m.state) (sym d.done) (refl, refl)

-- a part that ends the program, or wants memory
pub leads-off : {N : Type 0} (rest : N → Follows → State → Run Signal) (part : Follows → Run Signal) (why : Halt)
    (t : State) (k : Follows) (m : Machine) (came : Came) → came ≡ came_of why → m.state ≡ t
    → Leads rest part (Err why) t → MovesBy (part k) came m
leads-off rest part why t k m came is e h = subst (λ c. MovesBy (part k) c m) (sym is) (by why h)
  where
    by : (why : Halt) → Leads rest part (Err why) t → MovesBy (part k) (came_of why) m
    by Memory h = tt
    by (Finished o) h = h.by k ∙ ap (Over o) (sym e)
    by (Stopped at) h = tt

-- the same of a step on the state
pub taken_off : {A : Type 0} (r : Run A) (next : A → State → Run Signal) (why : Halt) (t : State) (m : Machine)
    → m.state ≡ t
    → AtOnce r (Err why) t → MovesBy (and_then r next) (came_of why) m
unfolding and_then
taken_off r next Memory t m e h = tt
taken_off r next (Finished o) t m e h = ap (λ z. and_then z next) h.leaves ∙ ap (Over o) (sym e)
taken_off r next (Stopped at) t m e h = tt

-- ---- calls and files

module _ (m : Machine) (s : State) where
  pub too_deep-call : m.depth ≡ 0 → (file : ℕ) (f : Function) (values : List Value)
      → and_then ((setting_at m).call file f values s) (to_value (follows_of m)) ≡ Over
      (way.Fatal TooDeep (file_of s) (line_of s)) s
  unfolding and_then
  too_deep-call e file f values =
      ap (λ r. and_then r (to_value (follows_of m))) (zero-call m.bundle.now m.bound m.depth e file f values s)

  pub too_deep-file : m.depth ≡ 0 → (file : ℕ) → and_then ((setting_at m).include file s) (to_value (follows_of m))
      ≡ Over (way.Fatal TooDeep (file_of s) (line_of s)) s
  unfolding and_then
  too_deep-file e file =
      ap (λ r. and_then r (to_value (follows_of m))) (zero-include m.bundle.now m.bound m.depth e file s)

  body-is : (f : Function) (t : State)
      → and_then (At moment.Enter f.line t (λ u. body_run f.body (setting_of m.bundle.now m.bound (m.depth - 1)) u
      >>= leaving)) (to_value (follows_of m))
      ≡ body_with m f t
  unfolding and_then
  body-is f t = λ i. At moment.Enter f.line t (λ u.
      and_then-assoc (body_run f.body (setting_of m.bundle.now m.bound (m.depth - 1)) u) leaving
      (to_value (follows_of m)) i)

  pub call-first : (m.depth ≡ 0 → ⊥) → (file : ℕ) (f : Function) (values : List Value)
      → and_then ((setting_at m).call file f values s) (to_value (follows_of m)) ≡ and_then
      (taken (called file f values s) s) (λ _ t. body_with m f t)
  call-first e file f values =
      ap (λ r. and_then r (to_value (follows_of m))) (suc-call m.bundle.now m.bound m.depth e file f values s)
      ∙ and_then-assoc _ _ _ ∙ and_then-same _ _ _ (λ _ t. body-is f t)

  pub file-first : (m.depth ≡ 0 → ⊥) → (file : ℕ)
      → and_then ((setting_at m).include file s) (to_value (follows_of m)) ≡ and_then
      (taken (included m.bundle.now file s) s) (λ _ t. file_with m file t)
  file-first e file =
      ap (λ r. and_then r (to_value (follows_of m))) (suc-include m.bundle.now m.bound m.depth e file s
      ∙ file-is m.bundle.now m.bound (m.depth - 1) file s)
      ∙ and_then-assoc _ _ _ ∙ and_then-same _ _ _ (λ _ t. and_then-assoc _ _ _)

  -- the statements of a call or of a file in hand, with its end pending
  module _ (new : Machine) (body : List Statement) (bundle : new.bundle.now ≡ m.bundle.now)
      (bound : new.bound ≡ m.bound) (depth : new.depth ≡ m.depth - 1)
      (state : new.state ≡ s) (in-hand : (setting : Setting) (k : Follows) (t : State)
      → hand_rest setting new.hand k t ≡ (body_run body setting t >>= to_signal k)) where
    abbrev below : Setting
    below = setting_of m.bundle.now m.bound (m.depth - 1)

    rest-held : (w : Waiting) → new.pending.items ≡ m.pending.items ++ w ∷ [] → (t : State)
        → rest_of new t ≡ (body_run body below t
        >>= λ g u. waiting_rest (setting_of m.bundle.now m.bound (depth_after w (m.depth - 1))) w
        (pending_rest m.bundle.now m.bound (depth_after w (m.depth - 1)) (reverse m.pending.items)) (given.Signal g) u)
    rest-held w items t =
        rest-by new m.bundle.now m.bound (m.depth - 1) new.hand new.pending.items bundle bound depth refl refl t
        ∙ in-hand below _ t
        ∙ and_then-same _ _ _ (λ g u. innermost m.bundle.now m.bound
        (m.depth - 1) m.pending.items w new.pending.items items (given.Signal g) u)

    pub body-held : (f : Function) → f.body ≡ body → new.pending.items ≡ m.pending.items ++ waiting.EndCall m.depth ∷ []
        → body_with m f s ≡ At moment.Enter f.line new.state (rest_of new)
    body-held f is items = λ i. At moment.Enter f.line (sym state i) (λ t.
        (ap (λ l. body_run l below t >>= λ g u. leaving g u >>= to_value (follows_of m)) is
        ∙ sym (rest-held (waiting.EndCall m.depth) items t)) i)

    pub file-held : (file : ℕ) → statements_of m.bundle.now file ≡ body
        → new.pending.items ≡ m.pending.items ++ waiting.EndFile m.depth ∷ []
        → file_with m file s ≡ rest_of new new.state
    file-held file is items =
        ap (λ l. body_run l below s >>= λ g u. left_file g u >>= to_value (follows_of m)) is
        ∙ sym (rest-held (waiting.EndFile m.depth) items s) ∙ ap (rest_of new) (sym state)

  -- nothing is pending
  pub nothing-left : (popped : List Waiting) (g : Given) (new : Machine) → m.pending.items ≡ popped ++ []
      → popped ≡ [] → new.hand ≡ hand.Give g → new.state ≡ s
      → IsDone (pending_rest m.bundle.now m.bound m.depth (reverse m.pending.items) g s) new
  nothing-left popped g new e none held state =
      let empty : m.pending.items ≡ [] = e ∙ ap (λ (l : List Waiting). l ++ []) none in record {
        given = g;
        in_hand = held;
        done = rw empty (ap (Done (signal_of g)) (sym state));
      }

-- what is in hand
pub moves_hand : (m new : Machine) (h : Hand) (came : Came) (mid : Machine)
    → m.hand ≡ h
    → mid.bundle.now ≡ m.bundle.now → mid.bound ≡ m.bound → Moves mid (rest_with m h m.state) came new
    → Moves m (rest_of m m.state) came new
unfolding rest_of
moves_hand m new h came mid e bundle bound moves =
    moves_as m mid new _ _ came (ap (λ (x : Hand). rest_with m x m.state) e) bundle bound moves

-- this is in hand behind the moment of a statement
pub placed-moves : (m new : Machine) (line : ℕ) (h : Hand) → new.bundle.now ≡ m.bundle.now → new.bound ≡ m.bound
    → new.depth ≡ m.depth → new.hand ≡ h → new.pending.items ≡ m.pending.items → new.state ≡ m.state
    → Moves m (At moment.Place line m.state (rest_with m h)) (step.Moment moment.Place line) new
placed-moves m new line h bundle bound depth held items state = record {
  by = λ i. At moment.Place line (sym state i) (λ t.
      sym (rest-by new m.bundle.now m.bound m.depth h m.pending.items bundle bound depth held items t) i);
  same_bundle = bundle;
  same_bound = bound;
}

-- a small step that is kept
pub kept : (old new : Machine) (small : Small) (came : Came) → came ≡ came_to small.moment
    → ((s : State) → rest_of new s ≡ next_rest (setting_at old) small.next (follows_of old) s)
    → (new.bundle.now ≡ old.bundle.now) × (new.bound ≡ old.bound) × (new.state ≡ old.state)
    → Moves old (small_with old small old.state) came new
kept old new small came is rest same = record {
  by = subst (λ c. MovesBy (small_with old small old.state) c new) (sym is) (go small.moment);
  same_bundle = same.0;
  same_bound = same.1;
}
  where
    go : (moment : Option (MomentKind × ℕ))
        → MovesBy (behind moment (next_rest (setting_at old) small.next (follows_of old)) old.state)
        (came_to moment) new
    go None = sym (rest old.state) ∙ ap (rest_of new) (sym same.2)
    go (Some m) = λ i. At m.0 m.1 (sym same.2 i) (λ t. sym (rest t) i)

-- a part that goes on to what is kept
pub moves_on : (setting : Setting) (part : Follows → Run Signal) (small : Small) (t : State) (k : Follows)
    (old mid new : Machine) (came : Came) (run : Run Signal) → mid.bundle.now ≡ old.bundle.now
    → mid.bound ≡ old.bound → run ≡ part k
    → Goes setting part (Ok small) t → Moves mid (small_rest setting small k t) came new → Moves old run came new
moves_on setting part small t k old mid new came run bundle bound is goes moves =
    moves_as old mid new run (small_rest setting small k t) came (is ∙ goes.by k) bundle bound moves

-- a call whose body is done leaves at a moment, if it gave a signal
pub call-ends : (m : Machine) (s : State) (depth : ℕ) (g : Given) (h : Hand) (leaves : Bool) (line : ℕ) (new : Machine)
    → ((setting : Setting) (k : Follows) (s : State)
    → waiting_rest setting (waiting.EndCall depth) k g s ≡ behind (leave_if (ends_call g) (line_of s))
    (hand_rest setting h k) s)
    → ends_call g ≡ leaves → line ≡ line_of s
    → new.bundle.now ≡ m.bundle.now → new.bound ≡ m.bound → new.depth ≡ depth → new.hand ≡ h
    → new.pending.items ≡ m.pending.items → new.state ≡ s
    → waiting_rest (setting_of m.bundle.now m.bound depth) (waiting.EndCall depth)
    (pending_rest m.bundle.now m.bound depth (reverse m.pending.items)) g s
    ≡ behind (leave_if leaves line) (rest_of new) new.state
call-ends m s depth g h leaves line new ends is there b n d e l state =
    ends (setting_of m.bundle.now m.bound depth) (pending_rest m.bundle.now m.bound depth (reverse m.pending.items)) s
    ∙ (λ i. behind (leave_if (is i) (sym there i)) (λ t. sym (rest-by new m.bundle.now m.bound depth h m.pending.items b
    n d e l t) i) (sym state i))

pub taken-moves : {A : Type 0} (old new : Machine) (run : Run Signal) (r : Run A) (next : A → State → Run Signal)
    (why : Halt) (t : State) (came : Came) → came ≡ came_of why
    → run ≡ and_then r next → new.bundle.now ≡ old.bundle.now → new.bound ≡ old.bound → new.state ≡ t
    → AtOnce r (Err why) t
    → Moves old run came new
taken-moves old new run r next why t came is e bundle bound state h = record {
  by = subst (λ z. MovesBy z came new) (sym e)
      (subst (λ c. MovesBy (and_then r next) c new) (sym is) (taken_off r next why t new state h));
  same_bundle = bundle;
  same_bound = bound;
}
