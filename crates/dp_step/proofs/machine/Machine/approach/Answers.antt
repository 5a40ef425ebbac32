use Rattle.std.proofs.Common.{is_some, subst, sym}
use Rattle.std.specs.Option.{option_copied}
use Rattle.dp_analysis.specs.Quiet.{AreLoud}
use Rattle.dp_tree.specs.declared.bundle.Bundle.{Bundle}
use Rattle.dp_step.proofs.PassedWays.{nears-first, nears-on, nears-there}
use Rattle.dp_step.proofs.machine.Machine.approach.Goals as goal

pub loop-init : goal.loop-init
loop-init c = λ are_loud. nears-first c.args.lines.now (is_some (option_copied c.args.loud)) c.args.self.now

pub loop-preserved : goal.loop-preserved
loop-preserved c = λ are_loud.
    let way = c.loop.invariant are_loud in
    let here = subst (λ (b : Bundle). AreLoud c.args.lines.now b (option_copied c.args.loud))
    (sym way.same_bundle) are_loud in
    nears-on c.args.lines.now (is_some (option_copied c.args.loud)) c.args.self.now c.loop.self c.nearer.new.self way
    (rw c.in-On.is at (c.nearer.ensures here))

pub returns-in-Moment : goal.returns-in-Moment
returns-in-Moment c = λ are_loud.
    let way = c.loop.invariant are_loud in
    let here = subst (λ (b : Bundle). AreLoud c.args.lines.now b (option_copied c.args.loud))
    (sym way.same_bundle) are_loud in
    nears-there c.args.lines.now (is_some (option_copied c.args.loud)) c.args.self.now c.loop.self c.nearer.new.self way
    _ (rw c.in-Moment.is at (c.nearer.ensures here))

pub returns-in-Done : goal.returns-in-Done
returns-in-Done c = λ are_loud.
    let way = c.loop.invariant are_loud in
    let here = subst (λ (b : Bundle). AreLoud c.args.lines.now b (option_copied c.args.loud))
    (sym way.same_bundle) are_loud in
    nears-there c.args.lines.now (is_some (option_copied c.args.loud)) c.args.self.now c.loop.self c.nearer.new.self way
    _ (rw c.in-Done.is at (c.nearer.ensures here))

pub returns-in-Over : goal.returns-in-Over
returns-in-Over c = λ are_loud.
    let way = c.loop.invariant are_loud in
    let here = subst (λ (b : Bundle). AreLoud c.args.lines.now b (option_copied c.args.loud))
    (sym way.same_bundle) are_loud in
    nears-there c.args.lines.now (is_some (option_copied c.args.loud)) c.args.self.now c.loop.self c.nearer.new.self way
    _ (rw c.in-Over.is at (c.nearer.ensures here))
