-- How sessions are counted that make no entry.
use Rattle.std.specs.Prelude.{ℕ, ◌+◌}
use Rattle.dp_registry.specs.declared.refusal.Refusal.TheVariants.{Full, Taken, Unknown, NotYours, Busy, Memory as OutOfMemory}
use Rattle.dp_relay.specs.declared.ends.RelayEnd.{RelayEnd}
use Rattle.dp_relay.specs.declared.ends.RelayEnd.TheVariants.{Joined, BadInit, NoSession, DialFault}
use Rattle.dp_relay.specs.declared.ends.RelayEnd.TheVariants.{NoThread, ReadFault, BadFrame, Memory}
use Rattle.dp_crews.specs.declared.tallies.Tally.{Tally}

abbrev pub tally : ℕ → ℕ → ℕ → ℕ → Tally
tally full unfit failed starved =
    record { full = full; unfit = unfit; failed = failed; starved = starved }

-- how many sessions were counted
abbrev pub counted : Tally → ℕ
counted t = t.full + t.unfit + t.failed + t.starved

-- the tally after one more session that ended so: one that made an entry is not counted
abbrev pub tallied : Tally → RelayEnd → Tally
tallied t (Joined session up down) = t
tallied t BadInit = tally t.full (t.unfit + 1) t.failed t.starved
tallied t (NoSession (Full events live)) = tally (t.full + 1) t.unfit t.failed t.starved
tallied t (NoSession (Taken host port)) = t
tallied t (NoSession Unknown) = t
tallied t (NoSession NotYours) = t
tallied t (NoSession (Busy session)) = t
tallied t (NoSession OutOfMemory) = t
tallied t DialFault = t
tallied t NoThread = t
tallied t ReadFault = tally t.full t.unfit (t.failed + 1) t.starved
tallied t (BadFrame offset) = tally t.full (t.unfit + 1) t.failed t.starved
tallied t Memory = tally t.full t.unfit t.failed (t.starved + 1)
