use Rattle.dp_actions.proofs.entry_reads.builtin_call.Goals as goal

pub returns : goal.returns
returns c = rw (c.as_slice.ensures.value, c.in_ok-lent.ensures) at (c.builtin_value.ensures _ c.builtin.ensures)
