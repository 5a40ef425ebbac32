use Rattle.std.proofs.Common.{◌≤◌, ◌++◌, Result, Ok, IsOk, inl, inr, ap, sym, subst, ◌∙◌, arith}
use Rattle.dp_value.specs.declared.errors.WriteError.{WriteError}
use Rattle.dp_value.specs.declared.value.Value.{Value}
use Rattle.dp_value.specs.Data.{Data, null, text, weight_of}
use Rattle.dp_value.specs.Value.{data_of}
use Rattle.dp_value.proofs.AgainLemmas.{lighter-asked, on_err_is, result-again}
use Rattle.dp_value.proofs.appends.grow.Goals as goal

pub write-requires : goal.write-requires
write-requires c =
    let longer : Data = text (c.args.text ++ c.args.piece.now) in
    let less : weight_of null ≤ weight_of longer = omega arith in
    lighter-asked c.args.keys.now longer null (data_of c.args.value.now) less c.requires

pub returns-in_err-write-clause-err : goal.returns-in_err-write-clause-err
returns-in_err-write-clause-err c = on_err_is _ _ (inl c.in_err-write.ensures.err)

pub returns-in_err-longer-clause-err : goal.returns-in_err-longer-clause-err
returns-in_err-longer-clause-err c = on_err_is _ _ (inr c.in_ok-write.ensures.ok)

-- the second write finds what the first one left, and gives what it would have given without that one
pub write-requires-2 : goal.write-requires-2
write-requires-2 c =
    let longer : Data = text (c.args.text ++ c.args.piece.now) in
    let again = result-again c.args.keys.now longer null (data_of c.args.value.now) (data_of c.write.new.value)
    c.in_ok-write.ensures.ok in
    rw c.in_ok-longer.ensures.0 (subst (λ (r : Result Data WriteError). IsOk r) (sym again) c.requires)

pub returns-in_err-write-2-clause-err : goal.returns-in_err-write-2-clause-err
returns-in_err-write-2-clause-err c =
    on_err_is _ _ (inr (c.in_ok-write.ensures.ok
    ∙ ap (λ (v : Value). let r : Result Data WriteError = Ok (data_of v) in r) (sym c.in_err-write-2.ensures.err)))

pub returns-clause-ok : goal.returns-clause-ok
returns-clause-ok c =
    let longer : Data = text (c.args.text ++ c.args.piece.now) in
    let again = result-again c.args.keys.now longer null (data_of c.args.value.now) (data_of c.write.new.value)
    c.in_ok-write.ensures.ok in
    let done = rw c.in_ok-longer.ensures.0 at c.in_ok-write-2.ensures.ok in
    sym again ∙ done
