use Rattle.std.proofs.Common.{rules, ◌≡◌, ◌<◌, length, Ok, ◌∙◌}
use Rattle.dp_async.proofs.Attending.{or_true, takes_first, takes_more, takes_rest, wait_over}
use Rattle.dp_async.proofs.beside.take_rest.Goals as goal

pub pieces-init : goal.pieces-init
pieces-init g c = takes_first _

pub returns-in-Err : goal.returns-in-Err
returns-in-Err g c =
    takes_rest _ _ (takes_more _ _ _ _ _ c.pieces.invariant c.wait.ensures.waits c.wait.ensures.takes
    c.wait.ensures.cause.later) ((rw c.in-Err.is at c.wait.ensures.over) ∙ or_true _)

pub returns-in-Ok-eq0 : goal.returns-in-Ok-eq0
returns-in-Ok-eq0 g c =
    let is : c.wait.result ≡ Ok 0 = search rules in
    let some : 0 < length c.wait.new.buf = search rules in
    takes_rest _ _ (takes_more _ _ _ _ _ c.pieces.invariant c.wait.ensures.waits c.wait.ensures.takes
    c.wait.ensures.cause.later) (c.wait.ensures.over ∙ wait_over _ _ _ is some)

pub pieces-preserved : goal.pieces-preserved
pieces-preserved g c =
    takes_more _ _ _ _ _ c.pieces.invariant c.wait.ensures.waits c.wait.ensures.takes c.wait.ensures.cause.later
