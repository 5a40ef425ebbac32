use Rattle.std.proofs.Common.{sym}
use Rattle.dp_view.proofs.ItemLaws.{quoted_closed, quoted_none, quoted_open}
use Rattle.dp_view.proofs.spelling.quoted.Goals as goal

pub returns-in_err-behind_text : goal.returns-in_err-behind_text
returns-in_err-behind_text c =
    rw c.from_residual.ensures (sym (quoted_none c.args.quote c.args.bytes.now (sym c.in_err-behind_text.ensures)))

pub returns-in_err-rest : goal.returns-in_err-rest
returns-in_err-rest c =
    rw c.from_residual-in_err-rest.ensures (sym (quoted_open c.args.quote c.args.bytes.now
    c.in_ok-behind_text.field-0.now (sym c.in_ok-behind_text.ensures) (sym c.in_err-rest.ensures)))

pub returns : goal.returns
returns c =
    sym (quoted_closed c.args.quote c.args.bytes.now c.in_ok-behind_text.field-0.now c.in_ok-rest.rest.now
    (sym c.in_ok-behind_text.ensures) (sym c.in_ok-rest.ensures))
