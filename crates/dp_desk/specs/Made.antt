-- The entries that a caller has made, by their kinds.
use Rattle.std.specs.Prelude.{◌≡◌, ℕ, ◌+◌, Bool, true, false, List, Option, None, Some, count_by}
use Rattle.dp_registry.specs.declared.entry.Entry.{Entry}
use Rattle.dp_registry.specs.declared.entry.Entry.TheVariants.{Register, Stop, Admit, Dismiss}

-- how many shares a desk has
abbrev pub all_shares : ℕ
all_shares = 65536

-- so many registrations and stops, so many admissions, so many dismissals
pub record Made : Type 0 where
  pub registers : ℕ
  pub admits : ℕ
  pub dismissals : ℕ

abbrev pub made : ℕ → ℕ → ℕ → Made
made r a d = record { registers = r; admits = a; dismissals = d }

abbrev pub plus : Made → Made → Made
plus m n = made (m.registers + n.registers) (m.admits + n.admits) (m.dismissals + n.dismissals)

-- the kind of an entry
abbrev pub kind : Entry → Made
kind (Register host port key multiple reply) = made 1 0 0
kind (Stop host key reply) = made 1 0 0
kind (Admit key reply) = made 0 1 0
kind (Dismiss session) = made 0 0 1

-- what a call makes: one entry, or none where it is not noted
abbrev pub made_by : {R : Type 0} → (R → Entry) → Option R → Made
made_by entry None = made 0 0 0
made_by entry (Some reply) = kind (entry reply)

abbrev pub is_register : Entry → Bool
is_register (Register host port key multiple reply) = true
is_register (Stop host key reply) = true
is_register (Admit key reply) = false
is_register (Dismiss session) = false

abbrev pub is_admit : Entry → Bool
is_admit (Register host port key multiple reply) = false
is_admit (Stop host key reply) = false
is_admit (Admit key reply) = true
is_admit (Dismiss session) = false

abbrev pub is_dismissal : Entry → Bool
is_dismissal (Register host port key multiple reply) = false
is_dismissal (Stop host key reply) = false
is_dismissal (Admit key reply) = false
is_dismissal (Dismiss session) = true

-- the journal has exactly so many entries of each kind
pub record Counts (journal : List Entry) (made : Made) : Type 0 where
  pub registers : count_by is_register journal ≡ made.registers
  pub admits : count_by is_admit journal ≡ made.admits
  pub dismissals : count_by is_dismissal journal ≡ made.dismissals
