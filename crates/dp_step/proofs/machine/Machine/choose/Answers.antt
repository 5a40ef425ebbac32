use Rattle.std.proofs.Common.{drop, refl, ◌∙◌}
use Rattle.std.proofs.Math.ListN.{drop_of_length-le}
use Rattle.dp_actions.specs.Expressions.{evaluation}
use Rattle.dp_actions.specs.Run.{Done, and_then, ◌>>=◌}
use Rattle.dp_actions.specs.Values.{holds}
use Rattle.dp_actions.proofs.AtOnceLaws.{first_done}
use Rattle.dp_small_steps.specs.Parts.{to_signal}
use Rattle.dp_small_steps.specs.Rest.{branch_decided}
use Rattle.dp_small_steps.proofs.FirstParts.{from-member}
use Rattle.dp_small_steps.proofs.FirstStatements.{chosen-first}
use Rattle.dp_step.specs.inner.Moves.{follows_of, setting_at}
use Rattle.dp_step.proofs.FoundTests.{tested}
use Rattle.dp_step.proofs.Smalls.{moves_as, taken-moves}
use Rattle.dp_step.proofs.machine.Machine.choose.Goals as goal

pub returns-in-None : goal.returns-in-None
unfolding and_then
returns-in-None c =
    let m = c.args.self.now in
    let read = rw c.as_slice.ensures at c.in-None.ensures.lookup in
    moves_as m m _ _ _ _ (rw (drop_of_length-le _ read.3) refl) refl refl c.on.ensures

pub returns-then-held : goal.returns-then-held
returns-then-held c =
    let m = c.args.self.now in
    let read = rw c.as_slice.ensures at c.in-Some.ensures.lookup in
    moves_as m _ _ _ _ _ (chosen-first (setting_at m) (follows_of m) m.state c.args.all.now c.args.at
    c.in-Some.first.now c.args.otherwise.now read.3.0 read.1
    ∙ tested (evaluation c.in-Some.first.now.test (setting_at m) m.state) holds (λ b t.
    branch_decided (drop c.args.at c.args.all.now) c.args.otherwise.now (setting_at m) b t >>= to_signal (follows_of m))
    ∙ first_done _ (rw (c.in-Ok-Some.is, c.in-Ok-Some.field-0-is, c.whole.ensures) at c.test_holds.ensures).finds
    ∙ rw (from-member _ _ _ read.3.0 read.1, c.if-held.true) refl) refl refl c.put.ensures

pub returns-else-held : goal.returns-else-held
returns-else-held c =
    let m = c.args.self.now in
    let read = rw c.as_slice.ensures at c.in-Some.ensures.lookup in
    moves_as m _ _ _ _ _ (chosen-first (setting_at m) (follows_of m) m.state c.args.all.now c.args.at
    c.in-Some.first.now c.args.otherwise.now read.3.0 read.1
    ∙ tested (evaluation c.in-Some.first.now.test (setting_at m) m.state) holds (λ b t.
    branch_decided (drop c.args.at c.args.all.now) c.args.otherwise.now (setting_at m) b t >>= to_signal (follows_of m))
    ∙ first_done _ (rw (c.in-Ok-Some.is, c.in-Ok-Some.field-0-is, c.whole.ensures) at c.test_holds.ensures).finds
    ∙ rw (from-member _ _ _ read.3.0 read.1, c.if-held.false) refl) refl refl c.arms.ensures

pub returns-in-Ok-None : goal.returns-in-Ok-None
returns-in-Ok-None c =
    let m = c.args.self.now in
    let read = rw c.as_slice.ensures at c.in-Some.ensures.lookup in
    let same = (rw (c.in-Ok-None.is, c.in-Ok-None.field-0-is) at c.test_holds.ensures).finds in
    moves_as m _ _ _ _ _ (chosen-first (setting_at m) (follows_of m) m.state c.args.all.now c.args.at
    c.in-Some.first.now c.args.otherwise.now read.3.0 read.1 ∙ rw same refl) refl refl c.wait.ensures

pub returns-in-Err : goal.returns-in-Err
returns-in-Err c =
    let m = c.args.self.now in
    let read = rw c.as_slice.ensures at c.in-Some.ensures.lookup in
    taken-moves m _ _ (and_then (evaluation c.in-Some.first.now.test (setting_at m) m.state) (λ v t. Done (holds v) t))
    _ c.in-Err.why _ _ c.halted.ensures
    (chosen-first (setting_at m) (follows_of m) m.state c.args.all.now c.args.at c.in-Some.first.now
    c.args.otherwise.now read.3.0 read.1
    ∙ tested (evaluation c.in-Some.first.now.test (setting_at m) m.state) holds (λ b t.
    branch_decided (drop c.args.at c.args.all.now) c.args.otherwise.now (setting_at m) b t
    >>= to_signal (follows_of m))) refl refl refl
    (rw (c.in-Err.is, c.whole.ensures) at c.test_holds.ensures).finds
