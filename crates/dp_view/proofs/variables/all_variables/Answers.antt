use Rattle.std.proofs.Common.{arith}
use Rattle.dp_view.specs.Properties.{variable_shown}
use Rattle.dp_view.proofs.DistinctKeys.{keyed_more}
use Rattle.dp_view.proofs.Steps.{whole_step}
use Rattle.dp_view.proofs.variables.all_variables.Goals as goal

pub loop-at-preserved : goal.loop-at-preserved
loop-at-preserved c = record {
  made =
      whole_step (variable_shown c.args.id c.args.p.now c.args.globals.now) c.args.variables.now
      c.loop-at.made.items c.put_variable.new.made.items _ c.loop-at.at c.loop-at.invariant.made
      c.in_ok-put_variable.ensures.made;
  keyed =
      keyed_more c.args.p.now c.args.globals.now c.args.variables.now c.loop-at.at c.loop-at.invariant.keyed
      c.in_ok-put_variable.ensures.keyed;
}

pub returns-clause-keyed : goal.returns-clause-keyed
returns-clause-keyed c = λ k within. c.loop-at.invariant.keyed k (omega (arith, c.len-at-end.ensures.len))
