use Rattle.std.proofs.Common.{sym, ap, ◌∙◌}
use Rattle.dp_value.specs.declared.value.Value.{Value}
use Rattle.dp_value.specs.inner.Codes.{pairs_of-entries_of}
use Rattle.dp_value.specs.Key.{key_eq}
use Rattle.dp_value.specs.Table.{find_value}
use Rattle.dp_value.specs.Value.{data_of}
use Rattle.dp_view.specs.Places.{entry_of}
use Rattle.dp_view.proofs.places.entry_of.Goals as goal

pub returns-in-Array : goal.returns-in-Array
returns-in-Array c =
    let key = c.args.key.now in
    c.get.ensures ∙ ap (find_value (key_eq key)) (sym (pairs_of-entries_of c.in-Array.array.pairs))
    ∙ ap (λ (v : Value). entry_of key (data_of v)) (sym c.in-Array.is)
