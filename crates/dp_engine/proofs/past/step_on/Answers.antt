use Rattle.dp_engine.proofs.past.step_on.Goals as goal

pub returns : goal.returns
returns g c = λ bundle bound writes n stands.
    (c.in_ok-progress.ensures.goes_on bundle bound writes n stands, c.in_ok-progress.ensures.counted)
