-- The rule of the table: one legal journal, of which each seat has seen a beginning, and a turn
-- that at most one seat holds. Then what each kind of step says.
use Rattle.std.specs.Prelude.{◌≡◌, ◌≢◌, ◌⊎◌, ℕ, ◌+◌, ◌==◌, ◌≤◌, Bool, true, false, cond}
use Rattle.std.specs.Prelude.{List, [], ◌∷◌, ◌++◌, length}
use Rattle.std.specs.Prelude.{Option, None, Some, Contains, nat_lt, if◌then◌else◌}
use mathlib.Core.Option.{some}
use mathlib.Core.List.{IsPrefix}
use lib.ListN.{get_elem?}
use Rattle.atomic_table.specs.Table.{State, Me, Step}
use Rattle.atomic_table.specs.Seated.{TableId}
use Rattle.dp_registry.specs.declared.entry.Entry.{Entry}
use Rattle.dp_registry.specs.declared.entry.Entry.TheVariants.{Register, Stop, Admit, Dismiss}
use Rattle.dp_registry.specs.Journal.{live}
use Rattle.dp_registry.specs.Legal.{IsLegal}
use Rattle.dp_registry.specs.Verdicts.{noted}
use Rattle.dp_desk.specs.declared.turns.View.{View}
use Rattle.dp_desk.specs.Made.{Made, plus}
use Rattle.dp_desk.specs.Desks.{Known, held_after}

abbrev pub view : List Entry → List Entry → List ℕ → Bool → View
view s m h t = record { seen = s; met = m; held = h; turn = t }

-- the view of a seat that was joined to another
abbrev pub nobody : View
nobody = view [] [] [] false

-- what a clerk's shares tell: the entries that it made, and its share
pub record Account : Type 0 where
  pub made : Made
  pub share : ℕ

abbrev pub account : Made → ℕ → Account
account m s = record { made = m; share = s }

-- so much more was made, and the share is as it was
abbrev pub Raised : Account → Made → Account → Type 0
Raised v m w = (w.made ≡ plus v.made m) × (w.share ≡ v.share)

abbrev pub known : TableId → View → Account → Known
known z v t = record { desk = z; seen = v.seen; held = v.held; made = t.made; share = t.share }

-- how often a number entered in a list
abbrev pub times : ℕ → List ℕ → ℕ
times k [] = 0
times k (n ∷ ns) = cond (n == k) 1 0 + times k ns

abbrev pub total : (View → ℕ) → List View → ℕ
total f [] = 0
total f (v ∷ vs) = f v + total f vs

-- a dismissal needs its session
abbrev pub CanHold : Entry → List ℕ → Type 0
CanHold (Register host port key multiple reply) held = Unit {0}
CanHold (Stop host key reply) held = Unit {0}
CanHold (Admit key reply) held = Unit {0}
CanHold (Dismiss session) held = Contains held session

abbrev pub last_of : List Entry → Entry
last_of [] = Dismiss 0
last_of (e ∷ []) = e
last_of (e ∷ f ∷ es) = last_of (f ∷ es)

-- ---- the end of a turn

-- the journal has one entry more, which the caller may make
abbrev pub IsLonger : List Entry → List ℕ → List Entry → Type 0
IsLonger seen held now = (e : Entry) × (now ≡ seen ++ e ∷ []) × CanHold e held

abbrev pub CanHoldBy : Option Entry → List ℕ → Type 0
CanHoldBy None held = Unit {0}
CanHoldBy (Some e) held = CanHold e held

-- the same, or it is as it was
abbrev pub IsGrown : List Entry → List ℕ → List Entry → Type 0
IsGrown seen held now = (e : Option Entry) × (now ≡ noted seen (λ x. x) e) × CanHoldBy e held

-- the sessions that the caller holds then
abbrev pub held_now : List Entry → List Entry → List ℕ → List ℕ
held_now seen now held =
    if nat_lt (length seen) (length now) then held_after (last_of now) held else held

-- ---- the rule

abbrev pub AllViews : List View → (ℕ → View → Type 0) → Type 0
AllViews views P = (id : ℕ) (v : View) → get_elem? views id ≡ some v → P id v

abbrev pub joined : View → View → View
joined v w = view v.seen w.seen (v.held ++ w.held) false

-- H is what lies in the slot, with its journal
module _ {H : Type 0} (journal : H → List Entry) where
  -- the turn is free, and the registry is at home
  abbrev pub IsFree : List Entry → State (Option H) View → Type 0
  IsFree log s = (s.words ≡ length log ∷ 0 ∷ [])
      × ((h : H) × (s.homes ≡ some (Some h) ∷ []) × (journal h ≡ log))
      × AllViews s.views (λ id v. v.turn ≡ false)

  -- the turn is taken: who holds it has seen all
  abbrev pub IsTaken : List Entry → State (Option H) View → Type 0
  IsTaken log s = (s.words ≡ length log ∷ 1 ∷ []) × ((holder : ℕ) × AllViews s.views
      (λ id v. v.turn ≡ true → (id ≡ holder) × (v.seen ≡ log)))

  -- the sessions that the seats hold are those that are live, each once
  pub record KeptAt (log : List Entry) (s : State (Option H) View) : Type 0 where
    pub legal : IsLegal log
    pub seen : AllViews s.views (λ id v. IsPrefix v.seen log × IsPrefix v.met log)
    pub held : (k : ℕ) → total (λ v. times k v.held) s.views ≡ times k (live log)
    pub turn : IsFree log s ⊎ IsTaken log s

  abbrev pub Kept : State (Option H) View → Type 0
  Kept s = (log : List Entry) × KeptAt log s

  abbrev pub journal_of : Option H → List Entry
  journal_of None = []
  journal_of (Some h) = journal h

  -- the journal of the registry that a seat carries
  abbrev pub carried : List (ℕ × Option H) → List Entry
  carried [] = []
  carried (x ∷ xs) = journal_of x.1

  -- take: where the turn was free it is the seat's, with the registry; else nothing changed
  abbrev pub took : Step (Option H) → Me (Option H) View → ℕ → Me (Option H) View → Type 0
  took st m r n =
      (r ≡ 0
      → (h : H) × (n ≡ (view (journal h) m.0.met m.0.held true, (0, Some h) ∷ []))
      × IsPrefix m.0.seen (journal h)
      × IsLegal (journal h) × ((k : ℕ) → times k m.0.held ≤ times k (live (journal h))))
      × (r ≢ 0 → n ≡ m)

  -- count: the last entry of the registry that the seat carries
  abbrev pub counted : Step (Option H) → Me (Option H) View → ℕ → Me (Option H) View → Type 0
  counted st m r n =
      n ≡ (view (carried m.1) m.0.met (held_after (last_of (carried m.1)) m.0.held) true, m.1)

module _ {S : Type 0} where
  -- put back: the turn, and the registry
  abbrev pub returned : Step S → Me S View → ℕ → Me S View → Type 0
  returned st m r n = n ≡ (view m.0.seen m.0.met m.0.held false, [])

  -- look: the journal so far, which begins with what was seen and with what was met
  abbrev pub looked : Step S → Me S View → ℕ → Me S View → Type 0
  looked st m r n =
      (n ≡ (view n.0.seen [] m.0.held m.0.turn, m.1)) × IsPrefix m.0.seen n.0.seen
      × IsPrefix m.0.met n.0.seen
      × IsLegal n.0.seen
