use Rattle.std.proofs.Common.{◌≡◌, ◌-◌}
use Rattle.dp_token_rules.specs.declared.terminal.Terminal.TheVariants.{Of}
use Rattle.dp_lexer.specs.declared.token.Word.TheVariants.{CloseParenthesis}
use Rattle.dp_token_rules.specs.inner.Input.{closed, until}
use Rattle.dp_parse.specs.inner.Parameters.{checked}
use Rattle.dp_token_rules.specs.inner.ListReaders.{comma_step}
use Rattle.dp_parse.proofs.parameters.comma_turns.Given as goal

abbrev pub invariant-loop-turn : goal.invariant-loop-turn
invariant-loop-turn l =
    closed (comma_step checked (Of CloseParenthesis)) l.fn.first l.fn.tokens ≡ until
    (comma_step checked (Of CloseParenthesis))
    (l._turn-end - l._turn) l.state l.tokens
