-- What serving so many IDEs and engines comes to.
use Rattle.std.specs.Prelude.{◌≡◌, ℕ, ◌+◌, ◌==◌, ◌≤◌, Bool, true, false, List, count_by}
use Rattle.dp_registry.specs.declared.entry.Entry.{Entry}
use Rattle.dp_registry.specs.declared.entry.Entry.TheVariants.{Register, Stop, Admit, Dismiss}
use Rattle.dp_registry.specs.declared.entry.AdmitReply.TheVariants.{Given, Unknown, Busy}
use Rattle.dp_registry.specs.Legal.{IsLegal}
use Rattle.dp_crews.specs.declared.summaries.Summary.{Summary}
use Rattle.dp_crews.specs.declared.tallies.Tally.{Tally}

-- ---- the entries that are counted

-- a registration or a stop that was accepted
abbrev pub is_accepted : Entry → Bool
is_accepted (Register host port key multiple reply) = reply == 0
is_accepted (Stop host key reply) = reply == 0
is_accepted (Admit key reply) = false
is_accepted (Dismiss session) = false

-- an admission that gave a session
abbrev pub is_given : Entry → Bool
is_given (Register host port key multiple reply) = false
is_given (Stop host key reply) = false
is_given (Admit key (Given session host port)) = true
is_given (Admit key Unknown) = false
is_given (Admit key (Busy session)) = false
is_given (Dismiss session) = false

-- an admission that gave none
abbrev pub is_turned : Entry → Bool
is_turned (Register host port key multiple reply) = false
is_turned (Stop host key reply) = false
is_turned (Admit key (Given session host port)) = false
is_turned (Admit key Unknown) = true
is_turned (Admit key (Busy session)) = true
is_turned (Dismiss session) = false

-- ---- the numbers

-- the summary of a journal and of a tally of the sessions that made no entry
abbrev pub summary : List Entry → Tally → Summary
summary journal t =
    record {
      accepted = count_by is_accepted journal;
      admitted = count_by is_given journal;
      refused = count_by is_turned journal;
      full = t.full;
      unfit = t.unfit;
      failed = t.failed;
      starved = t.starved;
    }

-- so many registrations and sessions: each session is in one of six numbers
pub record Summed (registrations sessions : ℕ) (journal : List Entry) (s : Summary) : Type 0 where
  pub legal : IsLegal journal
  pub accepted : s.accepted ≡ count_by is_accepted journal
  pub admitted : s.admitted ≡ count_by is_given journal
  pub refused : s.refused ≡ count_by is_turned journal
  pub within : s.accepted ≤ registrations
  pub all : s.admitted + s.refused + s.full + s.unfit + s.failed + s.starved ≡ sessions
