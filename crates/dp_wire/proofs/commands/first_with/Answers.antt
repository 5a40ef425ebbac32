use Rattle.std.proofs.Common.{subst}
use Rattle.dp_wire.specs.Frames.{FirstNul}
use Rattle.dp_wire.proofs.NextLaws.{first_comes}
use Rattle.dp_wire.proofs.commands.first_with.Goals as goal

pub returns-in-Some-first_nul : goal.returns-in-Some-first_nul
returns-in-Some-first_nul c =
    let none = subst (FirstNul c.args.held.now) c.in-None.is c.requires in
    first_comes c.args.held.now c.args.piece.now c.in-Some-first_nul.place none c.in-Some-first_nul.ensures.first
