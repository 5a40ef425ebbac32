use Rattle.std.proofs.Common.{◌≡◌, ◌-◌, ◌+◌, ◌^◌, min, length, ap, ◌∙◌, arith}
use Rattle.dp_polled.specs.Arrivals.{ListState, look_at, next}
use Rattle.dp_polled.proofs.Coming.{look_counted}
use Rattle.dp_polled.proofs.list_polled.ListPolledPolled.look.Goals as goal

pub returns-else-eq-clause-found : goal.returns-else-eq-clause-found
returns-else-eq-clause-found c =
    let n = c.saturating_add-self-inside.result in
    let m = c.args.self.now.looks + 1 in
    let looks = ap (λ (v : ListState). v.looks) c.self.view_is in
    let more = c.saturating_add-self-inside.ensures in
    let counted : n ≡ min m (2 ^ 64 - 1) = omega (arith, looks, more, c.self.invariant) in
    let arrivals = c.self.inside.arrivals.left in
    c.look_for-look.ensures.found
    ∙ look_counted n m (length c.args.buf.now) (next arrivals) counted c.look_for-look.ensures.greatest
    ∙ ap (λ (v : ListState). look_at m (length c.args.buf.now) (next v.coming.left)) c.self.view_is
