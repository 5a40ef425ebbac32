use Rattle.std.proofs.Common.{is_some}
use Rattle.std.specs.Option.{option_copied}
use Rattle.dp_step.proofs.PassedWays.{small-nears}
use Rattle.dp_step.proofs.machine.Machine.nearer.Goals as goal

pub returns-in-Some : goal.returns-in-Some
returns-in-Some c = λ are_loud.
    c.run_quiet.ensures c.args.lines.now (option_copied c.args.loud) are_loud c.in-Some.ensures

pub returns-in-None : goal.returns-in-None
returns-in-None c = λ are_loud.
    small-nears c.args.lines.now (is_some (option_copied c.args.loud)) c.args.self.now c.go.new.self _ c.go.ensures
