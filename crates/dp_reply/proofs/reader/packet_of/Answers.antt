use Rattle.std.proofs.Common.{ap, ◌∙◌, Err}
use Rattle.std.proofs.lemmas.Result.{err_from_is_err_and}
use Rattle.dp_reply.proofs.Whole.{only_one, none_there, memory_alone, not_memory}
use Rattle.dp_reply.proofs.reader.packet_of.Goals as goal

pub returns-in_err-e-clause-only : goal.returns-in_err-e-clause-only
returns-in_err-e-clause-only c =
    let p = err_from_is_err_and c.from_residual.result c.from_residual.ensures.1 in
    rw p.1 (λ e packet markup is. p.2 ∙ memory_alone _ (c.in_err-e.ensures.only e markup))

pub returns-in_err-e-clause-refused : goal.returns-in_err-e-clause-refused
returns-in_err-e-clause-refused c = λ refused e markup.
    let p = err_from_is_err_and c.from_residual.result c.from_residual.ensures.1 in
    absurd (not_memory _ c.from_residual.result (p.1 ∙ ap Err p.2) refused (c.in_err-e.ensures.only e markup))

pub returns-clause-only : goal.returns-clause-only
returns-clause-only c = λ e p markup is.
    only_one c.packet_in.result c.in_ok-e.e e p c.packet_in.ensures (c.in_ok-e.ensures.only e markup) is

pub returns-clause-refused : goal.returns-clause-refused
returns-clause-refused c = λ refused e markup.
    none_there c.packet_in.result c.in_ok-e.e e c.packet_in.ensures (c.in_ok-e.ensures.only e markup) refused
