use Rattle.std.proofs.Common.{◌≡◌, ◌+◌, ◌≤◌, drop}
use Rattle.dp_lexer.specs.Tokens.{feeds}
use Rattle.dp_lexer.proofs.lexer.line_feeds.Given as goal

abbrev pub invariant-loop-b : goal.invariant-loop-b
invariant-loop-b l = (l.n + feeds (drop l.b-index l.bytes) ≡ feeds l.bytes) × (l.n ≤ l.b-index)
