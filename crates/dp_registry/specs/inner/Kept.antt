-- What is kept beside the journal, and that it is what the journal says.
use Rattle.std.specs.Prelude.{◌≡◌, ⊤, ℕ, ◌-◌, ◌<◌, ◌≤◌, true, List, [], ◌∷◌, length, Contains}
use Rattle.std.specs.Prelude.{Option, Some, None, slice_get}
use Rattle.std.specs.List.{list_any}
use Rattle.dp_registry.specs.declared.entry.Entry.{Entry}
use Rattle.dp_registry.specs.declared.entry.Entry.TheVariants.{Register, Stop, Admit, Dismiss}
use Rattle.dp_registry.specs.declared.entry.AdmitReply.TheVariants.{Given, Unknown, Busy}
use Rattle.dp_registry.specs.Journal.{registrant, holder, given, live, live_under, dismisses}
use Rattle.dp_registry.specs.Legal.{IsLegal}
use Rattle.dp_registry.specs.inner.Tables.{place_of, sessions_of}

-- the entry at a place, if any
abbrev pub entry_at : List Entry → Option ℕ → Option Entry
entry_at journal None = None
entry_at journal (Some at) = slice_get journal at

abbrev pub IsWithin : ℕ → Option ℕ → Type 0
IsWithin n None = ⊤
IsWithin n (Some at) = at < n

-- the key under which an entry admits
abbrev pub admitted_key : Option Entry → Option (List ℕ)
admitted_key None = None
admitted_key (Some (Register host port key multiple reply)) = None
admitted_key (Some (Stop host key reply)) = None
admitted_key (Some (Admit key reply)) = Some key
admitted_key (Some (Dismiss session)) = None

-- each number is above those before it
abbrev pub AreAbove : ℕ → List ℕ → Type 0
AreAbove n [] = ⊤
AreAbove n (m ∷ ms) = (n < m) × AreAbove n ms

abbrev pub IsRising : List ℕ → Type 0
IsRising [] = ⊤
IsRising (n ∷ ns) = AreAbove n ns × IsRising ns

-- sessions are numbered in the order in which they are given, and only given ones are dismissed
pub record IsNumbered (journal : List Entry) : Type 0 where
  pub below : (s : ℕ) → Contains (given journal) s → (1 ≤ s) × (s ≤ length (given journal))
  pub rising : IsRising (given journal)
  pub known : (s : ℕ) → list_any (dismisses s) journal ≡ true → s ≤ length (given journal)
  pub rising_under : (key : List ℕ) → IsRising (live_under key journal)

-- the places of the registrations that hold, the live sessions under each key, the place of each
-- session's admission, and the number of live sessions
pub record IsKept (journal : List Entry) (held : List (List ℕ × ℕ))
    (under : List (List ℕ × List ℕ)) (admissions : List ℕ) (living : ℕ) : Type 0 where
  pub legal : IsLegal journal
  pub numbered : IsNumbered journal
  pub holders : (key : List ℕ)
      → holder journal key ≡ registrant (entry_at journal (place_of held key))
  pub places : (key : List ℕ) → IsWithin (length journal) (place_of held key)
  pub sessions : (key : List ℕ) → sessions_of under key ≡ live_under key journal
  pub as_many : length admissions ≡ length (given journal)
  pub owners : (key : List ℕ) (s : ℕ) → Contains (live_under key journal) s
      → admitted_key (entry_at journal (slice_get admissions (s - 1))) ≡ Some key
  pub count : living ≡ length (live journal)

-- the entry changes neither who holds a key nor which sessions are live
abbrev pub IsIdle : Entry → Type 0
IsIdle (Register host port key multiple reply) = 1 ≤ reply
IsIdle (Stop host key reply) = 1 ≤ reply
IsIdle (Admit key (Given session host port)) = ⊥
IsIdle (Admit key Unknown) = ⊤
IsIdle (Admit key (Busy session)) = ⊤
IsIdle (Dismiss session) = ⊥
