-- Statements by the first of their parts, where nothing waits for the last of them.
use Rattle.std.proofs.Common.{◌≡◌, ◌∷◌, [], refl, ◌∙◌}
use Rattle.dp_tree.specs.declared.tree.Statement.{Statement}
use Rattle.dp_state.specs.declared.state.State.{State}
use Rattle.dp_actions.specs.declared.signal.Signal.{Signal}
use Rattle.dp_actions.specs.declared.signal.Signal.TheVariants.{Next, Break, Continue, Return}
use Rattle.dp_actions.specs.Run.{Done}
use Rattle.dp_actions.specs.Setting.{Setting}
use Rattle.dp_actions.specs.Statements.{body_run, go_on, statement_run}
use Rattle.dp_actions.proofs.Runs.{and_then-Done, and_then-same}

module _ (setting : Setting) where
  none-left : (g : Signal) (t : State) → go_on g (body_run [] setting) t ≡ Done g t
  none-left Next t = refl
  none-left (Break loops) t = refl
  none-left (Continue loop) t = refl
  none-left (Return v) t = refl

  pub last-run : (last : Statement) (s : State) → body_run (last ∷ []) setting s ≡ statement_run last setting s
  last-run last s = and_then-same _ _ _ none-left ∙ and_then-Done (statement_run last setting s)
