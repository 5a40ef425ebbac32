use Rattle.std.proofs.Common.{List, ap, ◌∙◌}
use Rattle.std.proofs.lemmas.Result.{IfOk-weaker}
use Rattle.dp_events.specs.declared.event.Event.{Event}
use Rattle.dp_top.specs.Engines.{engines_of}
use Rattle.dp_words.specs.Words.{default_bound}
use Rattle.dp_world.specs.Tallies.{in_words, tally_of}
use Rattle.dp_top.proofs.soak.count.Goals as goal

pub returns : goal.returns
returns g c =
    IfOk-weaker c.tally.result _ _ (λ tally counts. record {
      program = c.in_ok-program.program;
      made = c.in_ok-program.ensures.made;
      counts = counts ∙ ap (λ (events : List Event).
          in_words (tally_of (engines_of c.in_ok-program.program default_bound) events)) c.in_ok-events.ensures;
    }) c.tally.ensures
