use Rattle.std.proofs.Common.{rules, ◌≡◌, true, [], sym, append-nil}
use Rattle.dp_grammar.specs.Lines.{is_idle}
use Rattle.dp_ide.proofs.ActLaws.{idle_alone}
use Rattle.dp_ide.proofs.readers.put_line.Goals as goal

pub returns-then-is_idle : goal.returns-then-is_idle
returns-then-is_idle c =
    let idle : is_idle c.args.line.now ≡ true = search rules in
    ([], sym (append-nil c.args.said.now.items), idle, idle_alone c.args.number c.args.line.now idle)
