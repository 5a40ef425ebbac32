use Rattle.std.proofs.Common.{◌≡◌, refl, sym}
use Rattle.std.specs.Prelude.{Err}
use Rattle.dp_packet.specs.declared.error_codes.ErrorCode.TheVariants.{InvalidOptions}
use Rattle.dp_view.specs.declared.errors.ViewError.TheVariants.{Code}
use Rattle.dp_write_commands.specs.inner.Writes.{value_of_given}
use Rattle.dp_write_commands.proofs.RequestedWrites.{refused, unvalued, unvalued_at_once, valued_at_once}
use Rattle.dp_write_commands.proofs.commands.write_property.Goals as goal

pub returns-in-Some-clause-at_once : goal.returns-in-Some-clause-at_once
returns-in-Some-clause-at_once c =
    let set = c.args.set.now in
    valued_at_once c.args.state.now set (value_of_given set.value c.in-Some.given)
    (λ code. c.place_property.result ≡ Err (Code code)) (sym c.in-Some.ensures) c.place_property.ensures.at_once

pub returns-in-None-clause-answer : goal.returns-in-None-clause-answer
returns-in-None-clause-answer c =
    unvalued c.args.bundle.now c.args.features.now c.args.state.now c.args.to.now.command c.args.to.now.id
    c.args.set.now (sym c.in-None.ensures)

pub returns-in-None-clause-at_once : goal.returns-in-None-clause-at_once
returns-in-None-clause-at_once c =
    unvalued_at_once c.args.state.now c.args.set.now (λ code. refused (Code InvalidOptions) ≡ Err (Code code))
    (sym c.in-None.ensures) refl
