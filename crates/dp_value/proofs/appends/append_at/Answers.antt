use Rattle.std.proofs.Common.{◌++◌, None, Some, false, inl, inr, refl, arith, length-append}
use Rattle.dp_value.specs.Data.{text}
use Rattle.dp_value.specs.Value.{data_of}
use Rattle.dp_value.specs.Entry.{write_result}
use Rattle.dp_value.proofs.WriteLemmas.{answered, never, none-ok, same-cause, some-is}
use Rattle.dp_value.proofs.appends.append_at.Goals as goal

pub grow-requires : goal.grow-requires
grow-requires c =
    let longer = c.args.text ++ c.args.piece.now in
    none-ok (write_result c.args.keys.now false (text longer) (data_of c.args.value.now))
    (answered c.args.keys.now false (text longer) (data_of c.args.value.now) c.saturating_add-weight.result None
    c.in-None.ensures
    (omega (
      arith,
      c.saturating_add-weight.ensures,
      c.len.ensures,
      length-append c.args.text c.args.piece.now,
    )))

pub returns-in-Some-clause-refused : goal.returns-in-Some-clause-refused
returns-in-Some-clause-refused c =
    let longer = c.args.text ++ c.args.piece.now in
    inr (some-is (write_result c.args.keys.now false (text longer) (data_of c.args.value.now)) c.in-Some.why
    (answered c.args.keys.now false (text longer) (data_of c.args.value.now) c.saturating_add-weight.result
    (Some c.in-Some.why) c.in-Some.ensures
    (omega (
      arith,
      c.saturating_add-weight.ensures,
      c.len.ensures,
      length-append c.args.text c.args.piece.now,
    ))))

pub returns-in-Some-clause-sure : goal.returns-in-Some-clause-sure
returns-in-Some-clause-sure c =
    let longer = c.args.text ++ c.args.piece.now in
    same-cause (write_result c.args.keys.now false (text longer) (data_of c.args.value.now)) c.in-Some.why
    (answered c.args.keys.now false (text longer) (data_of c.args.value.now) c.saturating_add-weight.result
    (Some c.in-Some.why) c.in-Some.ensures
    (omega (
      arith,
      c.saturating_add-weight.ensures,
      c.len.ensures,
      length-append c.args.text c.args.piece.now,
    )))

pub returns-in-Ok-clause-sure : goal.returns-in-Ok-clause-sure
returns-in-Ok-clause-sure c = λ why h. let ok = c.in-Ok.ensures.ok in absurd (cc)

pub returns-in-Err-clause-sure : goal.returns-in-Err-clause-sure
returns-in-Err-clause-sure c =
    let longer = c.args.text ++ c.args.piece.now in
    λ why h. never (write_result c.args.keys.now false (text longer) (data_of c.args.value.now))
    (none-ok (write_result c.args.keys.now false (text longer) (data_of c.args.value.now))
    (answered c.args.keys.now false (text longer) (data_of c.args.value.now) c.saturating_add-weight.result None
    c.in-None.ensures
    (omega (
      arith,
      c.saturating_add-weight.ensures,
      c.len.ensures,
      length-append c.args.text c.args.piece.now,
    )))) why h

pub returns-in-Err-clause-err : goal.returns-in-Err-clause-err
returns-in-Err-clause-err c = elim c.in-Err.ensures.err [ inl same ↦ inl same | inr null ↦ inr (refl, null) ]
