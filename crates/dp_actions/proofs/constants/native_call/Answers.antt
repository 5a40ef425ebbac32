use Rattle.dp_actions.proofs.constants.native_call.Goals as goal

pub returns-in-Table-clause-run : goal.returns-in-Table-clause-run
returns-in-Table-clause-run c = rw c.in-Table.is c.builtin_call.ensures

pub returns-in-Define-clause-run : goal.returns-in-Define-clause-run
returns-in-Define-clause-run c = rw c.in-Define.is c.define.ensures.run

pub returns-in-Defined-clause-run : goal.returns-in-Defined-clause-run
returns-in-Defined-clause-run c = rw c.in-Defined.is c.defined.ensures.run
