use Rattle.std.proofs.Common.{rules}
use Rattle.std.proofs.lemmas.Int.{to_z-of_z}
use Rattle.std.proofs.lemmas.Option.{IfSome_then}
use mir.Syntax.{w64}
use mir.Val.{SFits}
use Rattle.dp_actions.specs.Expressions.{evaluation}
use Rattle.dp_actions.proofs.HeldIntegers.{combined_held}
use Rattle.dp_actions.proofs.integers.combined_integer.Goals as goal

pub returns : goal.returns
returns c =
    let old = c.in-Some.old in
    let value = c.in-Some-integer.value in
    let fits : SFits w64 old = search rules in
    let value_fits : SFits w64 value = search rules in
    IfSome_then c.integer_result.result c.integer_result.ensures (λ n e. λ setting.
    combined_held c.args.name.now c.args.state.now c.args.op (evaluation c.args.right.now) setting old value n
    c.in-Some.ensures (c.in-Some-integer.ensures setting)
    (rw (← to_z-of_z w64 old fits, ← to_z-of_z w64 value value_fits) e))
