-- What a journal says: who holds a key, and which sessions are live.
use Rattle.std.specs.Prelude.{ℕ, ◌+◌, ◌==◌, min, Bool, false, not, ◌&&◌, if◌then◌else◌}
use Rattle.std.specs.Prelude.{List, [], ◌∷◌, length, filter, fold, flat_map, Option, Some, None}
use Rattle.std.specs.Prelude.{bytes_eq, Contains, ◌<◌}
use Rattle.std.specs.List.{last_or, list_any}
use Rattle.dp_registry.specs.declared.entry.Entry.{Entry}
use Rattle.dp_registry.specs.declared.entry.Entry.TheVariants.{Register, Stop, Admit, Dismiss}
use Rattle.dp_registry.specs.declared.entry.AdmitReply.TheVariants.{Given, Unknown, Busy}

-- ---- keys

-- who holds a key: where its IDE listens, and whether it takes several sessions at a time
pub record Holder : Type 0 where
  pub host : List ℕ
  pub port : ℕ
  pub multiple : Bool

-- the entry decides who holds the key: an accepted registration or an accepted stop of it
abbrev pub decides : List ℕ → Entry → Bool
decides key (Register host port k multiple reply) = bytes_eq k key && (reply == 0)
decides key (Stop host k reply) = bytes_eq k key && (reply == 0)
decides key (Admit k reply) = false
decides key (Dismiss session) = false

-- the holder that a registration makes
abbrev pub registrant : Option Entry → Option Holder
registrant None = None
registrant (Some (Register host port key multiple reply)) =
    Some (record { host = host; port = port; multiple = multiple })
registrant (Some (Stop host key reply)) = None
registrant (Some (Admit key reply)) = None
registrant (Some (Dismiss session)) = None

-- the holder of a key: the last accepted registration of it that no accepted stop of it follows
abbrev pub holder : List Entry → List ℕ → Option Holder
holder journal key = registrant (last_or None (filter (decides key) journal))

-- ---- sessions

-- the session that an entry gives
abbrev pub gift : Entry → List ℕ
gift (Register host port key multiple reply) = []
gift (Stop host key reply) = []
gift (Admit key (Given session host port)) = session ∷ []
gift (Admit key Unknown) = []
gift (Admit key (Busy session)) = []
gift (Dismiss session) = []

-- the session that an entry gives under a key
abbrev pub gift_under : List ℕ → Entry → List ℕ
gift_under key (Register host port k multiple reply) = []
gift_under key (Stop host k reply) = []
gift_under key (Admit k (Given session host port)) = if bytes_eq k key then session ∷ [] else []
gift_under key (Admit k Unknown) = []
gift_under key (Admit k (Busy session)) = []
gift_under key (Dismiss session) = []

-- the entry dismisses the session
abbrev pub dismisses : ℕ → Entry → Bool
dismisses session (Register host port key multiple reply) = false
dismisses session (Stop host key reply) = false
dismisses session (Admit key reply) = false
dismisses session (Dismiss s) = s == session

-- all sessions that were given, and those that were given under a key, in the order of giving
abbrev pub given : List Entry → List ℕ
given journal = flat_map gift journal

abbrev pub given_under : List ℕ → List Entry → List ℕ
given_under key journal = flat_map (gift_under key) journal

abbrev pub is_live : List Entry → ℕ → Bool
is_live journal session = not (list_any (dismisses session) journal)

-- the live sessions: those that were given and not dismissed
abbrev pub live : List Entry → List ℕ
live journal = filter (is_live journal) (given journal)

abbrev pub live_under : List ℕ → List Entry → List ℕ
live_under key journal = filter (is_live journal) (given_under key journal)

-- the number of the session that is given next: one more than were given
abbrev pub next_session : List Entry → ℕ
next_session journal = length (given journal) + 1

-- the number is above those of all sessions that were given
pub record IsNew (journal : List Entry) (session : ℕ) : Type 0 where
  pub above : (s : ℕ) → Contains (given journal) s → s < session

-- the least number of a list
abbrev pub least : List ℕ → Option ℕ
least [] = None
least (n ∷ ns) = Some (fold min n ns)
