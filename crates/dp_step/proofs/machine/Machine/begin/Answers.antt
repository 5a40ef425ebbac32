use Rattle.std.proofs.Common.{refl, sym, ◌∙◌}
use Rattle.dp_actions.specs.declared.signal.Signal.TheVariants.{Next}
use Rattle.dp_actions.specs.Expressions.{evaluation}
use Rattle.dp_actions.specs.Run.{Done, and_then}
use Rattle.dp_actions.proofs.Runs.{and_then-assoc}
use Rattle.dp_actions.proofs.StatementLayers.{kind-Block, kind-Break, kind-Continue, kind-Echo, kind-Empty, kind-Expression, kind-Return}
use Rattle.dp_small_steps.specs.Parts.{to_signal}
use Rattle.dp_small_steps.proofs.FirstStatements.{if-is, placed-is, statement-is}
use Rattle.dp_step.specs.inner.Moves.{follows_of, setting_at}
use Rattle.dp_step.proofs.Smalls.{moves_as}
use Rattle.dp_step.proofs.machine.Machine.begin.Goals as goal

pub returns-in-Expression : goal.returns-in-Expression
unfolding and_then
returns-in-Expression c =
    let m = c.args.self.now in
    moves_as m m _ _ _ _ (statement-is (setting_at m) (follows_of m) m.state c.args.statement.now _ c.in-Expression.is _
    (kind-Expression _)
    ∙ sym (placed-is (setting_at m) (follows_of m) m.state _ _ _ (λ t.
    sym (and_then-assoc (evaluation c.in-Expression.e (setting_at m) t) (λ v u. Done Next u)
    (to_signal (follows_of m)))))) refl refl c.placed.ensures

pub returns-in-Block : goal.returns-in-Block
returns-in-Block c =
    let m = c.args.self.now in
    moves_as m m _ _ _ _ (statement-is (setting_at m) (follows_of m) m.state c.args.statement.now _ c.in-Block.is _
    (kind-Block _)) refl refl c.each.ensures

pub returns-in-Empty : goal.returns-in-Empty
unfolding and_then
returns-in-Empty c =
    let m = c.args.self.now in
    moves_as m m _ _ _ _ (statement-is (setting_at m) (follows_of m) m.state c.args.statement.now _ c.in-Empty.is _
    kind-Empty) refl refl c.on.ensures

pub returns-in-If : goal.returns-in-If
returns-in-If c =
    let m = c.args.self.now in
    moves_as m m _ _ _ _ (if-is (setting_at m) (follows_of m) m.state c.args.statement.now _ _ c.in-If.is) refl refl
    c.arms.ensures

pub returns-in-Return : goal.returns-in-Return
returns-in-Return c =
    let m = c.args.self.now in
    moves_as m m _ _ _ _ (statement-is (setting_at m) (follows_of m) m.state c.args.statement.now _ c.in-Return.is _
    (kind-Return _)
    ∙ sym (placed-is (setting_at m) (follows_of m) m.state _ _ _ (λ t. refl))) refl refl c.begin_return.ensures

pub returns-in-Echo : goal.returns-in-Echo
unfolding and_then
returns-in-Echo c =
    let m = c.args.self.now in
    moves_as m m _ _ _ _ (statement-is (setting_at m) (follows_of m) m.state c.args.statement.now _ c.in-Echo.is _
    (kind-Echo _)) refl refl c.placed-in-Echo.ensures

pub returns-in-Break : goal.returns-in-Break
unfolding and_then
returns-in-Break c =
    let m = c.args.self.now in
    moves_as m m _ _ _ _ (statement-is (setting_at m) (follows_of m) m.state c.args.statement.now _ c.in-Break.is _
    (kind-Break _)) refl refl c.begin_signal.ensures

pub returns-in-Continue : goal.returns-in-Continue
unfolding and_then
returns-in-Continue c =
    let m = c.args.self.now in
    moves_as m m _ _ _ _ (statement-is (setting_at m) (follows_of m) m.state c.args.statement.now _ c.in-Continue.is _
    (kind-Continue _)) refl refl c.begin_signal-in-Continue.ensures
