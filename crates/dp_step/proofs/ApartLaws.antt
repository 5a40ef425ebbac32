-- An evaluation by a machine of its own is one by itself.
use Rattle.std.proofs.Common.{◌≡◌, ℕ, Bool, List, [], ◌∷◌, ◌++◌, Option, Some, None, refl, sym, ap, ◌∙◌, subst}
use Rattle.std.proofs.lemmas.Bool.{le-ltb, lt-ltb}
use Rattle.std.specs.Prelude.{if◌then◌else◌, option_map}
use Rattle.dp_tree.specs.declared.bundle.Bundle.{Bundle}
use Rattle.dp_tree.specs.declared.tree.Expression.{Expression}
use Rattle.dp_value.specs.declared.value.Value.{Value}
use Rattle.dp_state.specs.declared.moments.Moment.{Moment}
use Rattle.dp_state.specs.declared.moments.MomentKind.{MomentKind}
use Rattle.dp_state.specs.declared.moments.Outcome.{Outcome}
use Rattle.dp_state.specs.declared.moments.Outcome.TheVariants as way
use Rattle.dp_state.specs.declared.state.State.{State}
use Rattle.dp_actions.specs.declared.signal.Signal.{Signal}
use Rattle.dp_actions.specs.declared.signal.Signal.TheVariants as signal
use Rattle.dp_actions.specs.Expressions.{evaluation}
use Rattle.dp_actions.specs.Run.{Run, Done, Over, At, and_then, ◌>>=◌}
use Rattle.dp_actions.specs.Setting.{Setting}
use Rattle.dp_meaning.specs.inner.Drive.{ComesTo, Ends, Gives, Reached, Rules, Stops, drive, only_bounded}
use Rattle.dp_meaning.specs.Programs.{setting_of}
use Rattle.dp_meaning.specs.Writes.{arrived, evaluated, evaluation_limit, evaluation_setting}
use Rattle.dp_meaning.proofs.Alone.{evaluated-comes}
use Rattle.dp_meaning.proofs.Drives.{carry, drive-and_then}
use Rattle.dp_small_steps.specs.declared.work.Given.{Given}
use Rattle.dp_small_steps.specs.declared.work.Given.TheVariants as given
use Rattle.dp_small_steps.specs.declared.work.AfterValue.TheVariants.{ReturnIt}
use Rattle.dp_small_steps.specs.declared.work.Hand.{Hand}
use Rattle.dp_small_steps.specs.declared.work.Hand.TheVariants as hand
use Rattle.dp_small_steps.specs.declared.work.Waiting.{Waiting}
use Rattle.dp_small_steps.specs.declared.work.Waiting.TheVariants as waiting
use Rattle.dp_small_steps.specs.declared.work.Work.TheVariants as work
use Rattle.dp_small_steps.specs.Rest.{hand_rest}
use Rattle.dp_small_steps.specs.Parts.{Follows, to_value}
use Rattle.dp_step.specs.declared.machine.Machine.{Machine}
use Rattle.dp_step.specs.declared.machine.Progress.TheVariants as progress
use Rattle.dp_step.specs.inner.Apart.{GivesBack, GivesBackBy, IsIdle, returned, value_in, value_in_hand}
use Rattle.dp_step.specs.inner.Leaps.{driven}
use Rattle.dp_step.specs.inner.Moves.{Comes, IsDone, setting_at}
use Rattle.dp_step.specs.Stands.{rest_of, signal_of}
use Rattle.dp_step.proofs.Smalls.{rest-by}

-- ---- what is given back

value-is : (g : Given) (v : Value) → signal_of g ≡ signal.Return v → value_in g ≡ Some v
value-is (given.Signal signal.Next) v e = absurd (cc)
value-is (given.Signal (signal.Break n)) v e = absurd (cc)
value-is (given.Signal (signal.Continue n)) v e = absurd (cc)
value-is (given.Signal (signal.Return w)) v e = cc
value-is (given.Value w) v e = absurd (cc)
value-is (given.Values ws) v e = absurd (cc)

given-comes : (g : Given) (r : Reached Value) (t : State) → Gives (signal_of g) t ≡ returned r
    → ComesTo r (value_in g) t
given-comes g (Gives v s) t e = let same : signal_of g ≡ signal.Return v = cc in (value-is g v same, cc)
given-comes g (Ends o s) t e = absurd (cc)
given-comes g (Stops moment s) t e = absurd (cc)

abbrev ends_at : Outcome → State → Reached Signal
ends_at o s = Ends o s

ended-comes : (o : Outcome) (r : Reached Value) (t : State) → Ends o t ≡ returned r → ComesTo r None t
ended-comes o (Gives v s) t e = absurd (cc)
ended-comes o (Ends p s) t e = (refl, cc)
ended-comes o (Stops moment s) t e = absurd (cc)

module _ (old new : Machine) (run : Run Signal) (bound : new.bound ≡ old.bound) where
  -- a small step on the way
  pub gives-on : run ≡ rest_of new new.state → GivesBack old run None new
  gives-on e = record {
    by = ap (drive (only_bounded old.bound)) e
        ∙ ap (λ (n : ℕ). drive (only_bounded n) (rest_of new new.state)) (sym bound);
    same_bound = bound;
  }

  -- what ends a program gives no value
  pub gives-none : (o : Outcome) → run ≡ Over o new.state → GivesBack old run (Some None) new
  gives-none o e = record {
    by = λ r is. ended-comes o r new.state (sym (ap (drive (only_bounded old.bound)) e) ∙ is);
    same_bound = bound;
  }

-- all is done, and what was given last was in hand
pub gives-done : (old mid new : Machine) (run : Run Signal) (answer : Option Value) → mid.bound ≡ old.bound
    → IsDone run mid → answer ≡ value_in_hand mid.hand → (new.state ≡ mid.state) × (new.bound ≡ mid.bound)
    → GivesBack old run (Some answer) new
gives-done old mid new run answer bound done is same = record {
  by = λ r other. subst (λ (a : Option Value). ComesTo r a new.state) (sym (is ∙ ap value_in_hand done.in_hand))
      (given-comes done.given r new.state (ap (λ (t : State). Gives (signal_of done.given) t) same.0
      ∙ sym (ap (drive (only_bounded old.bound)) done.done) ∙ other));
  same_bound = same.1 ∙ bound;
}

-- a run that is the same
pub gives-as : (old mid new : Machine) (run same : Run Signal) (end : Option (Option Value)) → run ≡ same
    → mid.bound ≡ old.bound → GivesBack mid same end new → GivesBack old run end new
gives-as old mid new run same end e bound gives =
    record { by = by end gives.by; same_bound = gives.same_bound ∙ bound }
  where
    is : driven old run ≡ driven mid same
    is = ap (drive (only_bounded old.bound)) e ∙ ap (λ (n : ℕ). drive (only_bounded n) same) (sym bound)

    by : (end : Option (Option Value)) → GivesBackBy mid same end new → GivesBackBy old run end new
    by None h = is ∙ h
    by (Some answer) h = λ r other. h r (sym is ∙ other)

-- ---- a moment that comes

module _ (kind : MomentKind) (line : ℕ) (old new : Machine) where
  abbrev within : Bool → Reached Signal
  within b = if b then drive (only_bounded old.bound) (rest_of old (arrived line old.state))
      else ends_at way.Bound old.state

  pub moment-passes : (moment : Moment) → Comes kind line old (progress.At moment) new
      → GivesBack old (At kind line old.state (rest_of old)) None new
  moment-passes moment comes = record {
    by = ap within (lt-ltb _ _ comes.by.0)
        ∙ ap (λ (t : State). drive (only_bounded old.bound) (rest_of old t)) (sym comes.by.2)
        ∙ ap (drive (only_bounded old.bound)) (sym (comes.by.3 new.state))
        ∙ ap (λ (n : ℕ). drive (only_bounded n) (rest_of new new.state)) (sym comes.same_bound);
    same_bound = comes.same_bound;
  }

  pub moment-beyond : (o : Outcome) → Comes kind line old (progress.Ended o) new
      → GivesBack old (At kind line old.state (rest_of old)) (Some None) new
  moment-beyond o comes = record {
    by = λ r is. ended-comes way.Bound r new.state
        (ap (ends_at way.Bound) comes.by.2 ∙ sym (ap within (le-ltb _ _ comes.by.0)) ∙ is);
    same_bound = comes.same_bound;
  }

-- ---- all of them

-- what was to be done comes to the same as what is to be done
pub record OnWay (old new : Machine) : Type 0 where
  pub same : driven old (rest_of old old.state) ≡ driven new (rest_of new new.state)
  pub same_bound : new.bound ≡ old.bound

module _ (start mid new : Machine) (run : Run Signal) (way : driven start run ≡ driven mid (rest_of mid mid.state))
    (bound : mid.bound ≡ start.bound) where
  pub way-on : GivesBack mid (rest_of mid mid.state) None new → driven start run ≡ driven new (rest_of new new.state)
  way-on gives = way ∙ gives.by

  pub way-back : (answer : Option Value) → GivesBack mid (rest_of mid mid.state) (Some answer) new
      → GivesBack start run (Some answer) new
  way-back answer gives =
      record { by = λ r is. gives.by r (sym way ∙ is); same_bound = gives.same_bound ∙ bound }

-- ---- an evaluation

carried : (rules : Rules) (r : Reached Value) → carry rules r (λ v t. Done (signal.Return v) t) ≡ returned r
carried rules (Gives v s) = refl
carried rules (Ends o s) = refl
carried rules (Stops moment s) = refl

-- what waits for the value
abbrev pub return_item : Waiting
return_item = waiting.Part (work.AfterValue ReturnIt)

-- it is in hand, and its value is to be returned
module _ (old mid new : Machine) (e : Expression) (idle : old.pending.items ≡ []) (h : Hand)
    (first : (setting : Setting) (k : Follows) (s : State)
    → hand_rest setting h k s ≡ (evaluation e setting s >>= to_value k)) where
  abbrev alone : Run Value
  alone = evaluation e (setting_at old) old.state

  pub value-comes : mid.bundle.now ≡ old.bundle.now → mid.bound ≡ old.bound → mid.depth ≡ old.depth
      → mid.hand ≡ h → mid.pending.items ≡ old.pending.items ++ return_item ∷ [] → mid.state ≡ old.state
      → (answer : Option Value) → GivesBack mid (rest_of mid mid.state) (Some answer) new
      → ComesTo (drive (only_bounded old.bound) alone) answer new.state
  unfolding and_then
  value-comes bundle bound depth in-hand items state answer gives =
      gives.by (drive (only_bounded old.bound) alone) (
      ap (drive (only_bounded mid.bound)) (ap (rest_of mid) state
      ∙ rest-by mid old.bundle.now old.bound old.depth h (return_item ∷ []) bundle bound depth in-hand
      (items ∙ ap (λ (l : List Waiting). l ++ return_item ∷ []) idle) old.state
      ∙ first (setting_at old) _ old.state)
      ∙ ap (λ (n : ℕ). drive (only_bounded n) (alone >>= λ v t. Done (signal.Return v) t)) bound
      ∙ drive-and_then (only_bounded old.bound) alone (λ v t. Done (signal.Return v) t)
      ∙ carried (only_bounded old.bound) (drive (only_bounded old.bound) alone))

-- with the moments counted apart
pub evaluation-comes : (bundle : Bundle) (e : Expression) (s copy : State) (m : Machine) (answer : Option Value)
    (left t : State) → copy ≡ s → IsIdle bundle (record copy { moments = 0 }) m → t ≡ left
    → ComesTo (drive (only_bounded m.bound) (evaluation e (setting_at m) m.state)) answer left
    → evaluated (evaluation_setting bundle) e s ≡ option_map (λ v. (v, record t { moments = s.moments })) answer
evaluation-comes bundle e s copy m answer left t same idle is comes =
    evaluated-comes (only_bounded evaluation_limit) refl refl refl (evaluation_setting bundle) e s copy same answer t
    (subst (λ (r : Reached Value). ComesTo r answer t) (λ i. drive (only_bounded (idle.limit i))
    (evaluation e (setting_of (idle.same_bundle i) (idle.limit i) (idle.depth i)) (idle.state i)))
    (subst (λ (u : State). ComesTo (drive (only_bounded m.bound) (evaluation e (setting_at m) m.state)) answer u)
    (sym is) comes))
