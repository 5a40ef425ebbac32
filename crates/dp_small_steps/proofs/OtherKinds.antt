-- A part passes on what is of another kind than that which it waits for.
use Rattle.std.proofs.Common.{◌≡◌, List, refl}
use Rattle.dp_state.specs.declared.state.State.{State}
use Rattle.dp_tree.specs.declared.tree.Inclusion.{Inclusion}
use Rattle.dp_actions.specs.Setting.{Setting}
use Rattle.dp_actions.specs.declared.signal.Signal.{Signal}
use Rattle.dp_value.specs.declared.value.Value.{Value}
use Rattle.dp_small_steps.specs.declared.work.AfterValue.{AfterValue}
use Rattle.dp_small_steps.specs.declared.work.AfterValues.{AfterValues}
use Rattle.dp_small_steps.specs.declared.work.ForPart.{ForPart}
use Rattle.dp_small_steps.specs.declared.work.ForSignal.{ForSignal}
use Rattle.dp_small_steps.specs.declared.work.ForValue.{ForValue}
use Rattle.dp_small_steps.specs.declared.work.ForValues.{ForValues}
use Rattle.dp_small_steps.specs.declared.work.Given.{Given}
use Rattle.dp_small_steps.specs.declared.work.Given.TheVariants as given
use Rattle.dp_small_steps.specs.declared.work.Work.TheVariants as work
use Rattle.dp_small_steps.specs.Parts.{Follows}
use Rattle.dp_small_steps.specs.Rest.{work_rest}

module _ (setting : Setting) where
  pub passes-to_part : (w : ForPart) (k : Follows) (g : Given) (s : State)
      → ((v : Value) → g ≡ given.Value v → ⊥) → work_rest setting (work.ForPart w) k g s ≡ k g s
  passes-to_part w k (given.Value v) s not = absurd (not v refl)
  passes-to_part w k (given.Values values) s not = refl
  passes-to_part w k (given.Signal g) s not = refl

  pub passes-to_value : (w : ForValue) (k : Follows) (g : Given) (s : State)
      → ((v : Value) → g ≡ given.Value v → ⊥) → work_rest setting (work.ForValue w) k g s ≡ k g s
  passes-to_value w k (given.Value v) s not = absurd (not v refl)
  passes-to_value w k (given.Values values) s not = refl
  passes-to_value w k (given.Signal g) s not = refl

  pub passes-to_include : (w : Inclusion) (k : Follows) (g : Given) (s : State)
      → ((v : Value) → g ≡ given.Value v → ⊥) → work_rest setting (work.Include w) k g s ≡ k g s
  passes-to_include w k (given.Value v) s not = absurd (not v refl)
  passes-to_include w k (given.Values values) s not = refl
  passes-to_include w k (given.Signal g) s not = refl

  pub passes-to_after : (w : AfterValue) (k : Follows) (g : Given) (s : State)
      → ((v : Value) → g ≡ given.Value v → ⊥) → work_rest setting (work.AfterValue w) k g s ≡ k g s
  passes-to_after w k (given.Value v) s not = absurd (not v refl)
  passes-to_after w k (given.Values values) s not = refl
  passes-to_after w k (given.Signal g) s not = refl

  pub passes-to_values : (w : ForValues) (k : Follows) (g : Given) (s : State)
      → ((v : List Value) → g ≡ given.Values v → ⊥) → work_rest setting (work.ForValues w) k g s ≡ k g s
  passes-to_values w k (given.Value v) s not = refl
  passes-to_values w k (given.Values values) s not = absurd (not values refl)
  passes-to_values w k (given.Signal g) s not = refl

  pub passes-to_after_values : (w : AfterValues) (k : Follows) (g : Given) (s : State)
      → ((v : List Value) → g ≡ given.Values v → ⊥) → work_rest setting (work.AfterValues w) k g s ≡ k g s
  passes-to_after_values w k (given.Value v) s not = refl
  passes-to_after_values w k (given.Values values) s not = absurd (not values refl)
  passes-to_after_values w k (given.Signal g) s not = refl

  pub passes-to_signal : (w : ForSignal) (k : Follows) (g : Given) (s : State)
      → ((v : Signal) → g ≡ given.Signal v → ⊥) → work_rest setting (work.ForSignal w) k g s ≡ k g s
  passes-to_signal w k (given.Value v) s not = refl
  passes-to_signal w k (given.Values values) s not = refl
  passes-to_signal w k (given.Signal g) s not = absurd (not g refl)
