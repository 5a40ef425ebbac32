use Rattle.std.proofs.Common.{drop, refl, ◌∙◌}
use Rattle.dp_actions.specs.Run.{Done, and_then, ◌>>=◌}
use Rattle.dp_actions.specs.Statements.{constants_run}
use Rattle.dp_small_steps.proofs.AtOnce.{leads_off, then_done}
use Rattle.dp_small_steps.specs.Parts.{to_signal}
use Rattle.dp_small_steps.proofs.after.defined.Goals as goal

pub returns-in-Ok : goal.returns-in-Ok
unfolding and_then
returns-in-Ok c = λ setting. record {
  by = λ k. then_done (Done (tt {0}) _) (tt {0}) c.define_constant.new.state
      (λ _ t. constants_run (drop c.args.at c.args.rest.now) setting t >>= to_signal k) c.in-Ok.ensures
      ∙ rw c.alone.ensures refl;
}

pub returns-in-Err : goal.returns-in-Err
unfolding and_then
returns-in-Err c = λ setting.
    leads_off (Done (tt {0}) _) c.define_constant.new.state c.in-Err.why
    (λ k _ t. constants_run (drop c.args.at c.args.rest.now) setting t >>= to_signal k) c.in-Err.ensures
