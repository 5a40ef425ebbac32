use Rattle.std.proofs.Common.{◌≡◌}
use Rattle.std.specs.Prelude.{Err}
use Rattle.dp_view.specs.declared.errors.ViewError.TheVariants.{Code}
use Rattle.dp_view.specs.Named.{named_path}
use Rattle.dp_write_commands.specs.Requests.{unreserved}
use Rattle.dp_write_commands.specs.inner.Writes.{value_of_given}
use Rattle.dp_write_commands.proofs.RequestedWrites.{found_at_once, reported_at_once, unplaced}
use Rattle.dp_write_commands.proofs.commands.place_property.Goals as goal

pub returns-in-Ok-clause-at_once : goal.returns-in-Ok-clause-at_once
returns-in-Ok-clause-at_once c =
    let set = c.args.set.now in
    found_at_once unreserved (named_path c.args.state.now set.place.level set.place.context set.place.name) c.in-Ok.path
    (λ code. c.set_property.result ≡ Err (Code code)) c.in-Ok.ensures

pub returns-in-Err-clause-answer : goal.returns-in-Err-clause-answer
returns-in-Err-clause-answer c =
    let set = c.args.set.now in
    let state = c.args.state.now in
    let value = value_of_given set.value c.args.given in
    unplaced c.args.bundle.now c.args.features.now state c.args.to.now.command c.args.to.now.id set value c.in-Err.why
    (named_path state set.place.level set.place.context set.place.name) c.requires c.in-Err.ensures

pub returns-in-Err-clause-at_once : goal.returns-in-Err-clause-at_once
returns-in-Err-clause-at_once c =
    let set = c.args.set.now in
    reported_at_once unreserved (named_path c.args.state.now set.place.level set.place.context set.place.name)
    c.in-Err.why c.in-Err.ensures
