use Rattle.std.proofs.Common.{refl, sym, ap, ◌∙◌}
use Rattle.std.specs.Prelude.{option_map}
use Rattle.dp_actions.specs.Calls.{callee_of}
use Rattle.dp_actions.specs.Expressions.{evaluation, evaluations}
use Rattle.dp_actions.specs.Run.{◌>>=◌}
use Rattle.dp_actions.proofs.AtOnceLaws.{first_done}
use Rattle.dp_actions.proofs.Runs.{and_then-assoc}
use Rattle.dp_meaning.proofs.CallLaws.{setting-bundle}
use Rattle.dp_small_steps.specs.Parts.{to_value}
use Rattle.dp_small_steps.proofs.CallLaws.{begins-Call, called-as}
use Rattle.dp_step.specs.inner.Moves.{follows_of, setting_at}
use Rattle.dp_step.proofs.Smalls.{moves_as, taken-moves}
use Rattle.dp_step.proofs.machine.Machine.call_named.Goals as goal

pub returns-in-Ok : goal.returns-in-Ok
returns-in-Ok c =
    let m = c.args.self.now in
    let found = rw c.in-Some-Declared.field-0-is at (sym c.look_up.ensures
    ∙ ap (option_map callee_of) c.in-Some-Declared.is) in
    moves_as m _ c.call.new.self _ _ c.call.result
    (ap (λ e. evaluation e (setting_at m) m.state >>= to_value (follows_of m)) c.requires.is_call
    ∙ begins-Call (setting_at m) (follows_of m) m.state c.args.name.now c.args.arguments.now
    ∙ called-as (setting_at m) (follows_of m) m.state m.bundle.now (setting-bundle m.bundle.now m.bound m.depth)
    c.args.name.now _ found c.args.arguments.now
    ∙ and_then-assoc _ _ _
    ∙ first_done _ (rw (c.in-Ok.is, c.whole.ensures, c.as_slice.ensures) at c.values.ensures)) refl refl c.call.ensures

pub returns-in-Err : goal.returns-in-Err
returns-in-Err c =
    let m = c.args.self.now in
    let found = rw c.in-Some-Declared.field-0-is at (sym c.look_up.ensures
    ∙ ap (option_map callee_of) c.in-Some-Declared.is) in
    taken-moves m _ _ (evaluations c.args.arguments.now (setting_at m) m.state) _ c.in-Err.why _ _ c.halted.ensures
    (ap (λ e. evaluation e (setting_at m) m.state >>= to_value (follows_of m)) c.requires.is_call
    ∙ begins-Call (setting_at m) (follows_of m) m.state c.args.name.now c.args.arguments.now
    ∙ called-as (setting_at m) (follows_of m) m.state m.bundle.now (setting-bundle m.bundle.now m.bound m.depth)
    c.args.name.now _ found c.args.arguments.now
    ∙ and_then-assoc _ _ _) refl refl refl
    (rw (c.in-Err.is, c.whole.ensures, c.as_slice.ensures) at c.values.ensures)
