use Rattle.std.proofs.Common.{◌≡◌, ◌≤◌, vec_len, vec_capacity}
use Rattle.dp_crews.specs.Relays.{IsUndialed}
use Rattle.dp_crews.proofs.hires.dialers_of.Given as goal

abbrev pub invariant-dialers : goal.invariant-dialers
invariant-dialers g l =
    (vec_len l.dialers ≡ l.counter)
    × (l.fn.workers ≤ vec_capacity l.dialers)
    × IsUndialed g.D.Dialer l.fn.dialer l.dialer
