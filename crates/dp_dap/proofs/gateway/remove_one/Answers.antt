use Rattle.std.proofs.Common.{ap, rules, ◌∙◌}
use Rattle.dp_engine.specs.Answers.{Turn, turn}
use Rattle.dp_dap.specs.Answers.{is_of}
use Rattle.dp_dap.proofs.SetLaws.{where_so}
use Rattle.dp_dap.proofs.gateway.remove_one.Goals as goal

pub returns : goal.returns
returns g c =
    where_so (is_of c.args.path.now c.args.one.now) _ _ _ (search rules)
    (ap (λ (t : Turn). t.next)
    (c.in_ok-tell.ensures.ok ∙ ap (turn c.args.session.now) (c.as_slice.ensures ∙ c.in_ok-line.ensures.text)))
