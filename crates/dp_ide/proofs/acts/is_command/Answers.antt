use Rattle.std.proofs.Common.{rules, ◌≡◌, ◌≤◌, length}
use Rattle.std.proofs.lemmas.Bool.{eqb-true}
use Rattle.dp_wire.specs.Frames.{command_limit}
use Rattle.dp_ide.proofs.ActLaws.{run_all, run_no_nul}
use Rattle.dp_ide.proofs.acts.is_command.Goals as goal

pub returns-then-line-le-COMMAND_LIMIT : goal.returns-then-line-le-COMMAND_LIMIT
returns-then-line-le-COMMAND_LIMIT c =
    let line = c.args.line.now in
    let n = c.run_before.result in
    let fits : length line ≤ command_limit = search rules in (
      λ e. record { no_nul = run_no_nul line n c.run_before.ensures (eqb-true n (length line) e); fits = fits },
      λ is. let all : n ≡ length line = run_all line n c.run_before.ensures is.no_nul in search rules,
    )
