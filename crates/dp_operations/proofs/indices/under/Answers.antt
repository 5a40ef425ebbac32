use Rattle.std.proofs.Common.{Some, None, ap, ◌∙◌}
use Rattle.dp_value.specs.declared.value.Value.{Value}
use Rattle.dp_value.specs.Value.{data_of}
use Rattle.dp_operations.specs.Indices.{reading}
use Rattle.dp_operations.proofs.IndexLemmas.{array-read}
use Rattle.dp_operations.proofs.indices.under.Goals as goal

pub returns-in-Some : goal.returns-in-Some
returns-in-Some c =
    ap (λ (v : Value). reading c.args.plain (data_of v) (data_of c.args.index.now)) c.in-Array.is
    ∙ array-read c.args.plain c.in-Array.array (data_of c.args.index.now) c.in-Ok.key
    (Some (data_of c.in-Some.value.now)) c.in-Ok.ensures.key c.in-Some.ensures

pub returns-in-Array : goal.returns-in-Array
returns-in-Array c =
    ap (λ (v : Value). reading c.args.plain (data_of v) (data_of c.args.index.now)) c.in-Array.is
    ∙ array-read c.args.plain c.in-Array.array (data_of c.args.index.now) c.in-Ok.key None c.in-Ok.ensures.key
    c.in-None.ensures
