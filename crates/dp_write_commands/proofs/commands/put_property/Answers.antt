use Rattle.std.proofs.Common.{subst, sym}
use Rattle.dp_command.specs.declared.command.WriteRequest.TheVariants.{PropertySet}
use Rattle.dp_write_commands.specs.Results.{Answers}
use Rattle.dp_write_commands.specs.Requests.{write_at}
use Rattle.dp_write_commands.proofs.RequestedWrites.{property_is, tried}
use Rattle.dp_write_commands.proofs.commands.put_property.Goals as goal

pub returns : goal.returns
returns c =
    let set = c.args.set.now in
    let before = c.args.state.now in
    let command = c.args.to.now.command in
    let id = c.args.to.now.id in
    subst (Answers c.args.bundle.now c.args.features.now before c.make_place-made.new.state command id
    (PropertySet set)) (sym c.with_write.ensures)
    (tried c.args.bundle.now c.args.features.now before command id c.make_place-made.new.state (PropertySet set)
    (write_at set.place c.args.value c.args.path) c.make_place-made.result
    (property_is before set c.args.value c.args.path c.requires.value c.requires.path) c.make_place-made.ensures)
