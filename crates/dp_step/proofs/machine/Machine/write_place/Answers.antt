use Rattle.std.proofs.Common.{refl, sym, subst, arith}
use Rattle.dp_step.specs.Written.{Writes}
use Rattle.dp_step.proofs.WriteLaws.{global, local, no-frame, nowhere}
use Rattle.dp_step.proofs.machine.Machine.write_place.Goals as goal

pub returns-then-level-depth : goal.returns-then-level-depth
returns-then-level-depth c = (
  no-frame c.args.path.now c.args.value c.args.self.now.state c.args.level c.args.context
      (omega (arith, c.if-level-depth.true, c.len-depth.ensures)),
  refl,
)

pub returns-then-context-eq0 : goal.returns-then-context-eq0
returns-then-context-eq0 c =
    let there = local c.args.path.now c.args.value c.args.self.now.state c.args.level c.args.context
    (omega (arith, c.if-level-depth.false, c.len-depth.ensures)) c.if-context-eq0.true in
    subst (λ asked. Writes asked c.write_at.result c.args.self.now c.write_at.new.self) (sym there) c.write_at.ensures

pub returns-then-context-eq1 : goal.returns-then-context-eq1
returns-then-context-eq1 c =
    let there = global c.args.path.now c.args.value c.args.self.now.state c.args.level c.args.context
    (omega (arith, c.if-level-depth.false, c.len-depth.ensures)) c.if-context-eq1.true in
    subst (λ asked. Writes asked c.write_global.result c.args.self.now c.write_global.new.self)
    (sym there) c.write_global.ensures

pub returns-else-context-eq1 : goal.returns-else-context-eq1
returns-else-context-eq1 c = (
  nowhere c.args.path.now c.args.value c.args.self.now.state c.args.level c.args.context
      (omega (arith, c.if-level-depth.false, c.len-depth.ensures)) c.if-context-eq0.false c.if-context-eq1.false,
  refl,
)
