-- Tests that are found at once, and what follows what is done with a value alone.
use Rattle.std.proofs.Common.{◌≡◌, List, [], ◌∷◌, map, sym, ap, ◌∙◌}
use Rattle.dp_state.specs.declared.state.State.{State}
use Rattle.dp_tree.specs.declared.tree.Expression.{Expression}
use Rattle.dp_actions.specs.Effects.{print_run}
use Rattle.dp_actions.specs.Expressions.{evaluation, evaluations, expression_run}
use Rattle.dp_actions.specs.Loops.{last_holds}
use Rattle.dp_actions.specs.Run.{Run, Done, and_then}
use Rattle.dp_actions.specs.Setting.{Setting}
use Rattle.dp_actions.specs.Statements.{echoes}
use Rattle.dp_actions.specs.Values.{holds}
use Rattle.dp_actions.proofs.Runs.{and_then-assoc, and_then-same}
use Rattle.dp_small_steps.specs.Parts.{Follows, to_signal}
use Rattle.dp_small_steps.specs.Rest.{echo_after}
use Rattle.dp_small_steps.proofs.FirstStatements.{echo-first}

-- what follows goes by what is made of a value
pub tested : {A B C : Type 0} (r : Run A) (test : A → B) (next : B → State → Run C)
    → and_then r (λ v s. next (test v) s) ≡ and_then (and_then r (λ v s. Done (test v) s)) next
unfolding and_then
tested r test next = sym (and_then-assoc r (λ v s. Done (test v) s) next)

module _ (setting : Setting) (s : State) where
  -- one test is the whole list
  pub one-holds : (test : Expression)
      → and_then (evaluations (test ∷ []) setting s) (λ values t. Done (last_holds values) t)
      ≡ and_then (evaluation test setting s) (λ v t. Done (holds v) t)
  unfolding and_then
  one-holds test =
      and_then-assoc (evaluation test setting s) (λ v t. Done (v ∷ []) t) (λ values t. Done (last_holds values) t)

  -- an operand of an `echo` is written
  pub echo-printed : (k : Follows) (first : Expression) (all rest : List Expression) → all ≡ first ∷ rest
      → echo_after setting all k s
      ≡ and_then (and_then (evaluation first setting s) print_run) (λ _ t. echo_after setting rest k t)
  echo-printed k first all rest e =
      ap (λ l. echo_after setting l k s) e ∙ echo-first setting k s first rest
      ∙ and_then-same _ _ _ (λ v t. and_then-assoc (print_run v t) (λ _ u. echoes (map expression_run rest) setting u)
      (to_signal k))
      ∙ sym (and_then-assoc (evaluation first setting s) print_run (λ _ t. echo_after setting rest k t))
