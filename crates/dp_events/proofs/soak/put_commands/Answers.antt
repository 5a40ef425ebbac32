use Rattle.std.proofs.Common.{◌<◌, ◌++◌, arith}
use Rattle.dp_events.specs.Soak.{commands}
use Rattle.dp_events.proofs.SoakLaws.{commands_turn, states_turn}
use Rattle.dp_events.proofs.soak.put_commands.Goals as goal

pub commands-preserved : goal.commands-preserved
commands-preserved c =
    let some : 0 < c.commands.left = omega arith in
    let state = c.commands.generator.state in
    let next = c.put_command.new.generator.state in (
      omega (arith, c.commands.invariant.0),
      commands_turn c.commands.events.items c.put_command.new.events.items
          (c.args.events.now.items ++ commands c.args.link c.args.count 1 c.args.generator.now.state) c.args.link
          c.commands.left c.commands.number state next some c.in_ok-put_command.ensures.events
          c.in_ok-put_command.ensures.state c.commands.invariant.1,
      states_turn c.commands.left state next _ some c.in_ok-put_command.ensures.state c.commands.invariant.2,
    )
