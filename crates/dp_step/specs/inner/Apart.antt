-- An evaluation by a machine of its own: it gives its value back as a `return` does.
use Rattle.std.specs.Prelude.{◌≡◌, [], Option, Some, None}
use Rattle.dp_tree.specs.declared.bundle.Bundle.{Bundle}
use Rattle.dp_value.specs.declared.value.Value.{Value}
use Rattle.dp_state.specs.declared.state.State.{State}
use Rattle.dp_state.specs.States.{frame_limit}
use Rattle.dp_actions.specs.declared.signal.Signal.{Signal}
use Rattle.dp_actions.specs.declared.signal.Signal.TheVariants.{Return}
use Rattle.dp_actions.specs.Run.{Run}
use Rattle.dp_meaning.specs.inner.Drive.{ComesTo, Ends, Gives, Reached, Stops}
use Rattle.dp_meaning.specs.Writes.{evaluation_limit}
use Rattle.dp_step.specs.declared.machine.Machine.{Machine}
use Rattle.dp_step.specs.inner.Leaps.{driven}
use Rattle.dp_step.specs.Stands.{rest_of}
use Rattle.dp_small_steps.specs.declared.work.Given.{Given}
use Rattle.dp_small_steps.specs.declared.work.Given.TheVariants as given
use Rattle.dp_small_steps.specs.declared.work.Hand.{Hand}
use Rattle.dp_small_steps.specs.declared.work.Hand.TheVariants as hand

-- nothing is to be done, in a state; what is done from there is an evaluation
pub record IsIdle (bundle : Bundle) (s : State) (m : Machine) : Type 0 where
  pub same_bundle : m.bundle.now ≡ bundle
  pub limit : m.bound ≡ evaluation_limit
  pub depth : m.depth ≡ frame_limit
  pub nothing : m.pending.items ≡ []
  pub state : m.state ≡ s

-- the value that a `return` gave
abbrev pub value_in : Given → Option Value
value_in (given.Signal (Return v)) = Some v
value_in g = None

abbrev pub value_in_hand : Hand → Option Value
value_in_hand (hand.Give g) = value_in g
value_in_hand h = None

-- where a run comes that returns what an evaluation gives
abbrev pub returned : Reached Value → Reached Signal
returned (Gives v s) = Gives (Return v) s
returned (Ends o s) = Ends o s
returned (Stops moment s) = Stops moment s

-- it is on its way, or an evaluation that comes there has this value, or none
abbrev pub GivesBackBy : Machine → Run Signal → Option (Option Value) → Machine → Type 0
GivesBackBy old run None new = driven old run ≡ driven new (rest_of new new.state)
GivesBackBy old run (Some answer) new =
    (r : Reached Value) → driven old run ≡ returned r → ComesTo r answer new.state

pub record GivesBack
    (old : Machine) (run : Run Signal) (end : Option (Option Value)) (new : Machine)
    : Type 0 where
  pub by : GivesBackBy old run end new
  pub same_bound : new.bound ≡ old.bound
