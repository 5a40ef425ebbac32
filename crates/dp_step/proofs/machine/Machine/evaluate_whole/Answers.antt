use Rattle.std.proofs.Common.{refl, rules, SFits, w64}
use Rattle.std.proofs.lemmas.Int.{to_z-of_z}
use Rattle.dp_actions.specs.Expressions.{evaluation}
use Rattle.dp_actions.proofs.AtOnceLaws.{first_done}
use Rattle.dp_small_steps.specs.Parts.{to_value}
use Rattle.dp_step.specs.inner.Moves.{follows_of, setting_at}
use Rattle.dp_step.proofs.Smalls.{moves_as, taken-moves}
use Rattle.dp_step.proofs.machine.Machine.evaluate_whole.Goals as goal

pub returns-in-Some : goal.returns-in-Some
returns-in-Some c =
    let m = c.args.self.now in
    let fits : SFits w64 c.in-Some.n = search rules in
    let seen = rw c.in-Some.is at c.integer.ensures in
    moves_as m _ _ _ _ _ (first_done (to_value (follows_of m)) (seen (setting_at m))) refl refl
    (rw (to_z-of_z w64 c.in-Some.n fits) at c.take.ensures)

pub returns-in-Ok : goal.returns-in-Ok
returns-in-Ok c =
    let m = c.args.self.now in
    moves_as m _ c.take-in-Ok.new.self _ _ c.take-in-Ok.result
    (first_done (to_value (follows_of m)) (rw (c.in-Ok.is, c.whole.ensures) at c.value.ensures)) refl refl
    c.take-in-Ok.ensures

pub returns-in-Err : goal.returns-in-Err
returns-in-Err c =
    let m = c.args.self.now in
    taken-moves m _ _ (evaluation c.args.e.now (setting_at m) m.state) (to_value (follows_of m)) c.in-Err.why _ _
    c.halted.ensures refl refl refl refl (rw (c.in-Err.is, c.whole.ensures) at c.value.ensures)
