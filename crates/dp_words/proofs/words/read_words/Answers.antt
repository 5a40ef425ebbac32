use Rattle.std.proofs.Common.{◌≡◌, true, false, sym, ◌∙◌}
use Rattle.dp_words.proofs.Readings.{asks_plain}
use Rattle.dp_words.proofs.words.read_words.Goals as goal

pub returns-then-not-are_plain-clause-none : goal.returns-then-not-are_plain-clause-none
returns-then-not-are_plain-clause-none c = λ none task asks.
    let fits : c.are_plain.result ≡ true = c.are_plain.ensures ∙ asks_plain _ task asks in
    let no_fit : true ≡ false = sym fits ∙ c.if-not-are_plain.true in absurd cc
