use Rattle.std.proofs.Common.{None, Some, inr, arith}
use Rattle.dp_value.specs.Value.{data_of}
use Rattle.dp_value.specs.Entry.{write_result}
use Rattle.dp_value.proofs.WriteLemmas.{answered, never, none-ok, same-cause, some-is}
use Rattle.dp_value.proofs.writes.write_at.Goals as goal

pub write-requires : goal.write-requires
write-requires c =
    none-ok (write_result c.args.keys.now c.args.push (data_of c.args.new) (data_of c.args.value.now))
    (answered c.args.keys.now c.args.push (data_of c.args.new) (data_of c.args.value.now) c.weight.result None
    c.in-None.ensures (omega (arith, c.weight.ensures)))

pub returns-in-Some-clause-refused : goal.returns-in-Some-clause-refused
returns-in-Some-clause-refused c =
    inr (some-is (write_result c.args.keys.now c.args.push (data_of c.args.new) (data_of c.args.value.now))
    c.in-Some.why
    (answered c.args.keys.now c.args.push (data_of c.args.new) (data_of c.args.value.now) c.weight.result
    (Some c.in-Some.why) c.in-Some.ensures (omega (arith, c.weight.ensures))))

pub returns-in-Some-clause-sure : goal.returns-in-Some-clause-sure
returns-in-Some-clause-sure c =
    same-cause (write_result c.args.keys.now c.args.push (data_of c.args.new) (data_of c.args.value.now))
    c.in-Some.why
    (answered c.args.keys.now c.args.push (data_of c.args.new) (data_of c.args.value.now) c.weight.result
    (Some c.in-Some.why) c.in-Some.ensures (omega (arith, c.weight.ensures)))

pub returns-in-Ok-clause-sure : goal.returns-in-Ok-clause-sure
returns-in-Ok-clause-sure c = λ why h. let ok = c.in-Ok.ensures.ok in absurd (cc)

pub returns-in-Err-clause-sure : goal.returns-in-Err-clause-sure
returns-in-Err-clause-sure c =
    λ why h. never (write_result c.args.keys.now c.args.push (data_of c.args.new) (data_of c.args.value.now))
    (none-ok (write_result c.args.keys.now c.args.push (data_of c.args.new) (data_of c.args.value.now))
    (answered c.args.keys.now c.args.push (data_of c.args.new) (data_of c.args.value.now) c.weight.result None
    c.in-None.ensures (omega (arith, c.weight.ensures)))) why h
