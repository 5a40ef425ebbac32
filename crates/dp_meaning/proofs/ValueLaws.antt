-- The value of an expression that changes nothing, by what its evaluation answers.
use Rattle.std.proofs.Common.{◌≡◌, true, Some, None, Ok, Err, sym, ◌∙◌}
use Rattle.dp_tree.specs.declared.bundle.Bundle.{Bundle}
use Rattle.dp_state.specs.declared.moments.Moment.{Moment}
use Rattle.dp_state.specs.declared.moments.Outcome.{Outcome}
use Rattle.dp_state.specs.declared.state.State.{State}
use Rattle.dp_tree.specs.declared.tree.Expression.{Expression}
use Rattle.dp_tree.specs.Purity.{is_pure}
use Rattle.dp_value.specs.declared.value.Value.{Value}
use Rattle.dp_actions.specs.declared.halt.Halt.TheVariants.{Finished, Stopped}
use Rattle.dp_actions.specs.AtOnce.{AtOnce}
use Rattle.dp_actions.specs.Expressions.{evaluation}
use Rattle.dp_actions.specs.Run.{Run, Done, Over}
use Rattle.dp_meaning.specs.Pure.{IsValueIn}
use Rattle.dp_meaning.specs.Writes.{evaluation_setting}
use Rattle.dp_meaning.proofs.PureLaws.{IsPlain, Given, Faulty, plain-pure}

module _ (bundle : Bundle) (e : Expression) (s : State) where
  abbrev run : Run Value
  run = evaluation e (evaluation_setting bundle) s

  pub value-given : (v : Value) → AtOnce run (Ok v) s → IsValueIn bundle e s (Some v)
  value-given v at_once = at_once.leaves

  ended : (o : Outcome) → IsPlain s run → run ≡ Over o s → IsValueIn bundle e s None
  ended o (Given v is) over = let none : Done v s ≡ Over o s = sym is ∙ over in absurd (cc)
  ended o (Faulty kind is) over = (kind, is)

  pub value-missing : (o : Outcome) → is_pure e ≡ true → AtOnce run (Err (Finished o)) s → IsValueIn bundle e s None
  value-missing o pure at_once = ended o (plain-pure e pure (evaluation_setting bundle) s) at_once.leaves

  pub value-stops : (moment : Moment) → AtOnce run (Err (Stopped moment)) s → ⊥
  value-stops moment at_once = at_once.leaves
