use Rattle.std.proofs.Common.{[], refl}
use Rattle.dp_async.specs.Beside.{flow_of}
use Rattle.dp_async.proofs.Attending.{is_whole, listens, puts}
use Rattle.dp_async.proofs.Reading.{gives_itself}
use Rattle.dp_async.proofs.beside.serve_async.Goals as goal

pub returns-in_default-clause-answers : goal.returns-in_default-clause-answers
returns-in_default-clause-answers g c = (refl, [], gives_itself (flow_of g.S.Source c.args.source))

pub split-putter-requires-clause-whole : goal.split-putter-requires-clause-whole
split-putter-requires-clause-whole g c = is_whole _ _ c.in-Ok.ensures

pub serve_beside-requires-clause-seat : goal.serve_beside-requires-clause-seat
serve_beside-requires-clause-seat g c = λ κs h. listens _ _ c.split-putter.ensures.left

pub serve_beside-requires-clause-putter : goal.serve_beside-requires-clause-putter
serve_beside-requires-clause-putter g c = λ κs h. puts _ _ c.split-putter.ensures.new
