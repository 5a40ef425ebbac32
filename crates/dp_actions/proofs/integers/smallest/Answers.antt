use Rattle.std.proofs.Common.{rules}
use Rattle.std.proofs.lemmas.Int.{to_z-of_z}
use Rattle.std.proofs.lemmas.Option.{IfSome_then}
use mir.Syntax.{w64}
use mir.Val.{SFits}
use Rattle.dp_actions.proofs.AtOnceLaws.{gives}
use Rattle.dp_actions.proofs.Layers.{run-Number, run-Variable}
use Rattle.dp_actions.proofs.integers.smallest.Goals as goal

pub returns-in-Number : goal.returns-in-Number
returns-in-Number c =
    λ setting. let fits : SFits w64 c.in-Number.n = search rules in rw (
      c.in-Number.is,
      run-Number,
      to_z-of_z w64 c.in-Number.n fits,
    ) gives

pub returns-in-Variable : goal.returns-in-Variable
returns-in-Variable c =
    IfSome_then c.held.result c.held.ensures (λ n e. λ setting. rw (c.in-Variable.is, run-Variable, e) gives)
