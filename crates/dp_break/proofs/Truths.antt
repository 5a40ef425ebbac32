-- What is true in a state, by its value.
use Rattle.std.proofs.Common.{◌≡◌, false, Option, Some, None, ap}
use Rattle.std.specs.Option.{option_map_or}
use Rattle.dp_tree.specs.declared.bundle.Bundle.{Bundle}
use Rattle.dp_meaning.specs.Pure.{IsValueIn}
use Rattle.dp_actions.specs.Values.{holds}
use Rattle.dp_state.specs.declared.state.State.{State}
use Rattle.dp_tree.specs.declared.tree.Expression.{Expression}
use Rattle.dp_value.specs.declared.value.Value.{Value}
use Rattle.dp_break.specs.Hits.{gives_truth, is_true_in}

pub truth-value : (bundle : Bundle) (e : Expression) (s : State) (value : Option Value) → IsValueIn bundle e s value
    → is_true_in bundle e s ≡ option_map_or holds value false
unfolding is_true_in
truth-value bundle e s (Some v) h = ap gives_truth h
truth-value bundle e s None h = ap gives_truth h.1
