use Rattle.dp_value.specs.Entry.{removed}
use Rattle.dp_value.specs.Value.{data_of}
use Rattle.dp_value.proofs.RemovalLemmas.{answered-ok, answered-refused, answered-sure, asked-ok}
use Rattle.dp_value.proofs.removals.remove_at.Goals as goal

pub returns-in-Some-clause-ok : goal.returns-in-Some-clause-ok
returns-in-Some-clause-ok c =
    answered-ok (removed c.args.keys.now (data_of c.args.value.now)) (data_of c.args.value.now) c.in-Some.answer
    c.in-Some.ensures

pub returns-in-Some-clause-refused : goal.returns-in-Some-clause-refused
returns-in-Some-clause-refused c =
    answered-refused (removed c.args.keys.now (data_of c.args.value.now)) (data_of c.args.value.now) c.in-Some.answer
    c.in-Some.ensures

pub returns-in-Some-clause-sure : goal.returns-in-Some-clause-sure
returns-in-Some-clause-sure c =
    answered-sure (removed c.args.keys.now (data_of c.args.value.now)) (data_of c.args.value.now) c.in-Some.answer
    c.in-Some.ensures

pub returns-in-None-clause-sure : goal.returns-in-None-clause-sure
returns-in-None-clause-sure c =
    λ why refused. absurd (asked-ok (removed c.args.keys.now (data_of c.args.value.now)) c.in-None.ensures why refused)
