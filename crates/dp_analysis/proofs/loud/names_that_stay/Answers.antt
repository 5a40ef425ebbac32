use Rattle.std.proofs.Common.{ℕ, List, ap}
use Rattle.dp_analysis.specs.Still.{is_named}
use Rattle.dp_analysis.proofs.loud.names_that_stay.Goals as goal

pub loop-file-init : goal.loop-file-init
unfolding is_named
loop-file-init c = λ name. ap (λ (names : List (List ℕ)). is_named names name) c.new-names.ensures
