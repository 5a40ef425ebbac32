use Rattle.std.proofs.Common.{ap, sym, ◌∙◌, ◌++◌, codes, arith}
use Rattle.dp_bytes.specs.Decimals.{decimal_in}
use Rattle.dp_records.proofs.LineLaws.{no_number, status_small}
use Rattle.dp_records.proofs.NumberLaws.{number_again, number_is}
use Rattle.dp_records.proofs.lines.ends_in.Goals as goal

pub returns-then-is_status : goal.returns-then-is_status
returns-then-is_status c =
    let number = number_is 255 c.in-Some.number c.args.number.now (omega arith)
    (sym c.decimal.ensures.value ∙ c.in-Some.is) in
    (ap (λ l. codes "end " ++ l ++ codes "\n") number.spelled, sym c.is_status.ensures ∙ c.if-is_status.true)

pub returns-else-is_status : goal.returns-else-is_status
returns-else-is_status c = no_number c.args.number.now (λ n is same.
    let small = status_small n is in
    let again = number_again 255 n (omega (arith, small)) (omega arith) in
    let spelled = ap (decimal_in 255) same in
    absurd (cc))

pub returns-in-None : goal.returns-in-None
returns-in-None c = no_number c.args.number.now (λ n is same.
    let small = status_small n is in
    let again = number_again 255 n (omega (arith, small)) (omega arith) in
    let spelled = ap (decimal_in 255) same in
    absurd (cc))
