-- What a clerk knows, and what each call does to it.
use Rattle.std.specs.Prelude.{◌≡◌, ℕ, ◌+◌, ◌==◌, if◌then◌else◌, List, [], ◌∷◌, ◌++◌}
use Rattle.std.specs.Prelude.{Option, None, Some, Result}
use mathlib.Core.List.{IsPrefix}
use Rattle.atomic_table.specs.Seated.{TableId}
use Rattle.dp_registry.specs.declared.entry.Entry.{Entry}
use Rattle.dp_registry.specs.declared.entry.Entry.TheVariants.{Register, Stop, Admit, Dismiss}
use Rattle.dp_registry.specs.declared.entry.AdmitReply.TheVariants.{Given, Unknown, Busy}
use Rattle.dp_registry.specs.declared.refusal.Refusal.{Refusal}
use Rattle.dp_registry.specs.Legal.{IsLegal}
use Rattle.dp_registry.specs.Verdicts.{noted, IsAnswer}
use Rattle.dp_desk.specs.Made.{Made, made, plus, made_by, all_shares}

-- of which desk the clerk is, the journal as it last saw it, the sessions that it was given and has
-- not dismissed, the entries that it made, and how much of the desk it has
pub record Known : Type 0 where
  pub desk : TableId
  pub seen : List Entry
  pub held : List ℕ
  pub made : Made
  pub share : ℕ

-- ---- sessions that a clerk holds

-- the list without the first of these numbers
abbrev pub without : ℕ → List ℕ → List ℕ
without s [] = []
without s (n ∷ ns) = if n == s then ns else n ∷ without s ns

-- the sessions that a clerk holds after its entry
abbrev pub held_after : Entry → List ℕ → List ℕ
held_after (Register host port key multiple reply) held = held
held_after (Stop host key reply) held = held
held_after (Admit key (Given session host port)) held = session ∷ held
held_after (Admit key Unknown) held = held
held_after (Admit key (Busy session)) held = held
held_after (Dismiss session) held = without session held

abbrev pub held_by : {R : Type 0} → (R → Entry) → Option R → List ℕ → List ℕ
held_by entry None held = held
held_by entry (Some reply) held = held_after (entry reply) held

-- ---- calls

-- A call whose entry goes behind the journal that it found: the clerk has seen the journal up to
-- its entry, and what it had seen begins it. A call without a reply makes no entry.
pub record Entered {R : Type 0} (v : Known) (at : List Entry) (entry : R → Entry)
    (reply : Option R) (w : Known) : Type 0 where
  pub begins : IsPrefix v.seen at
  pub seen : w.seen ≡ noted at entry reply
  pub legal : IsLegal w.seen
  pub made : w.made ≡ plus v.made (made_by entry reply)
  pub held : w.held ≡ held_by entry reply v.held
  pub desk : w.desk ≡ v.desk
  pub share : w.share ≡ v.share

-- A call is answered its verdict at the journal that it found, or out of memory.
pub record Called {R X : Type 0} (v w : Known) (verdict : List Entry → Result X Refusal)
    (entry : R → Entry) (reply_of : Result X Refusal → Option R)
    (result : Result X Refusal) : Type 0 where
  pub at : List Entry
  pub answer : IsAnswer (verdict at) result
  pub entered : Entered v at entry (reply_of result) w

-- a dismissal, which is always accepted
pub record Dismissed (v w : Known) (session : ℕ) : Type 0 where
  pub at : List Entry
  pub entered : Entered v at Dismiss (Some session) w

-- ---- clerks

-- the clerk of a new desk
pub record IsNew (z : TableId) (w : Known) : Type 0 where
  pub desk : w.desk ≡ z
  pub seen : w.seen ≡ []
  pub held : w.held ≡ []
  pub made : w.made ≡ made 0 0 0
  pub share : w.share ≡ all_shares

-- a clerk that is split off
pub record IsTwin (v w : Known) : Type 0 where
  pub desk : w.desk ≡ v.desk
  pub seen : w.seen ≡ v.seen
  pub held : w.held ≡ []
  pub made : w.made ≡ made 0 0 0
  pub share : w.share ≡ 1

-- the clerk from which it is split
pub record Lost (v w : Known) : Type 0 where
  pub desk : w.desk ≡ v.desk
  pub seen : w.seen ≡ v.seen
  pub held : w.held ≡ v.held
  pub made : w.made ≡ v.made
  pub share : w.share + 1 ≡ v.share

-- a clerk that has seen what another one had seen
pub record Met (v other w : Known) : Type 0 where
  pub seen : IsPrefix v.seen w.seen
  pub others : IsPrefix other.seen w.seen
  pub legal : IsLegal w.seen
  pub desk : w.desk ≡ v.desk
  pub held : w.held ≡ v.held
  pub made : w.made ≡ v.made
  pub share : w.share ≡ v.share

-- a clerk that is handed all that another one had
pub record Gained (v other w : Known) : Type 0 where
  pub seen : IsPrefix v.seen w.seen
  pub others : IsPrefix other.seen w.seen
  pub legal : IsLegal w.seen
  pub desk : w.desk ≡ v.desk
  pub held : w.held ≡ v.held ++ other.held
  pub made : w.made ≡ plus v.made other.made
  pub share : w.share ≡ v.share + other.share
