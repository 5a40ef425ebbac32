use Rattle.std.proofs.Common.{◌≡◌, drop}
use Rattle.std.specs.List.{find}
use Rattle.std.specs.Str.{bytes_eq}
use Rattle.dp_dap_messages.specs.Table.{text_of}
use Rattle.dp_dap_messages.proofs.table.first_of.Given as goal

abbrev pub invariant-loop-name : goal.invariant-loop-name
invariant-loop-name l =
    find (λ n. bytes_eq (text_of n) l.text) (drop l.name-index l.names) ≡ find
    (λ n. bytes_eq (text_of n) l.text) l.names
