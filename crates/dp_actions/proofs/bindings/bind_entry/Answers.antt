use Rattle.dp_actions.proofs.AtOnceLaws.{exits}
use Rattle.dp_actions.proofs.Tails.{bind-breaks-off, bind-goes-on, entry-is, entry-past}
use Rattle.dp_actions.proofs.bindings.bind_entry.Goals as goal

pub returns-in_err-bind_value-in-Some-clause-entry : goal.returns-in_err-bind_value-in-Some-clause-entry
returns-in_err-bind_value-in-Some-clause-entry c = λ entry found.
    let same = entry-is _ _ _ _ _ c.pair.ensures c.in-Some.is found in
    exits _ _ c.from_residual.ensures.1
    (bind-breaks-off c.args.binding.now _ _ entry same c.args.state.now _ _ c.in_err-bind_value-in-Some.ensures)

pub returns-in_err-bind_value-in-Some-clause-past : goal.returns-in_err-bind_value-in-Some-clause-past
returns-in_err-bind_value-in-Some-clause-past c = λ none. absurd (entry-past _ _ _ _ c.pair.ensures c.in-Some.is none)

pub returns-in_ok-bind_value-in-Some-clause-entry : goal.returns-in_ok-bind_value-in-Some-clause-entry
returns-in_ok-bind_value-in-Some-clause-entry c = λ entry found.
    let same = entry-is _ _ _ _ _ c.pair.ensures c.in-Some.is found in
    bind-goes-on c.args.binding.now _ _ entry same c.args.state.now _ _ _ c.in_ok-bind_value-in-Some.ensures
    c.bind_key.ensures

pub returns-in_ok-bind_value-in-Some-clause-past : goal.returns-in_ok-bind_value-in-Some-clause-past
returns-in_ok-bind_value-in-Some-clause-past c = λ none. absurd (entry-past _ _ _ _ c.pair.ensures c.in-Some.is none)
