use Rattle.std.proofs.Common.{◌≡◌, ◌+◌, ◌*◌, ◌-◌, length}
use Rattle.dp_token_rules.specs.inner.Input.{until}
use Rattle.dp_expressions.specs.inner.Readers.{links_of, links_step, ladder, alone, below}
use Rattle.dp_expressions.proofs.grammar.Grammar.+ladder.Given as goal

abbrev pub invariant-links_of-loop-turn : goal.invariant-links_of-loop-turn
invariant-links_of-loop-turn g l =
    links_of (ladder l.more (alone l.self (below l.self))) l.rank l.fn.tokens ≡ until
    (links_step (ladder l.more (alone l.self (below l.self))) l.rank) (l._turn-end - l._turn) l.state l.tokens

abbrev pub decreases-ladder : goal.decreases-ladder
decreases-ladder g l = 4 * length l.ranks.now + 0

abbrev pub decreases-link_of : goal.decreases-link_of
decreases-link_of g l = 4 * length l.more.now + 1

abbrev pub decreases-links_step : goal.decreases-links_step
decreases-links_step g l = 4 * length l.more.now + 2

abbrev pub decreases-links_of : goal.decreases-links_of
decreases-links_of g l = 4 * length l.more.now + 3
