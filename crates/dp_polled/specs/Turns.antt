-- The rule of the table: which pieces were put and taken, what lies in the slot, and who may put
-- and take. Then what each kind of step says.
use Rattle.std.specs.Prelude.{◌≡◌, ◌≢◌, ◌⊎◌, ℕ, true, false, List, [], ◌∷◌, ◌++◌, Option, None, Some}
use mathlib.Core.Option.{some}
use mathlib.Core.List.{IsPrefix}
use lib.ListN.{get_elem?}
use Rattle.atomic_table.specs.Table.{State, Me, Step}
use Rattle.atomic_table.specs.Seated.{TableId}
use Rattle.dp_polled.specs.declared.piece.Piece.{Piece}
use Rattle.dp_polled.specs.declared.turns.View.{View}
use Rattle.dp_polled.specs.Posts.{Known}

abbrev pub known : TableId → View → Known
known z v = record {
  post = z;
  put = v.put;
  taken = v.taken;
  may_put = v.may_put;
  may_take = v.may_take;
  found = v.found;
}

-- the seat of a new post, which may do both
abbrev pub first : View
first = record {
  put = [];
  taken = [];
  may_put = true;
  may_take = true;
  putting = false;
  taking = false;
  found = [];
}

-- the right to take is left
abbrev pub taker_of : View → View
taker_of v = record v { put = []; may_put = false; putting = false; found = [] }

-- the right to put is given to another
abbrev pub putter_of : View → View
putter_of v = record v { taken = []; may_take = false; taking = false; found = [] }

-- the first has the right to take, and is handed the right of the other to put
abbrev pub joined : View → View → View
joined v w = record v { put = w.put; may_put = w.may_put; putting = w.putting }

-- the other has no right then
abbrev pub spent : View
spent = record first { may_put = false; may_take = false }

-- ---- the rule

abbrev pub AllViews : List View → (ℕ → View → Type 0) → Type 0
AllViews views P = (id : ℕ) (v : View) → get_elem? views id ≡ some v → P id v

abbrev pub St : Type 0
St = State (Option Piece) View

-- nobody has the slot
abbrev pub IsIdle : ℕ → View → Type 0
IsIdle id v = (v.putting ≡ false) × (v.taking ≡ false)

-- who may put has the slot
abbrev pub IsPutting : ℕ → View → Type 0
IsPutting id v = (v.putting ≡ v.may_put) × (v.taking ≡ false)

-- who may take has the slot
abbrev pub IsTaking : ℕ → View → Type 0
IsTaking id v = (v.putting ≡ false) × (v.taking ≡ v.may_take)

-- nothing is in the slot, and all that was put was taken
abbrev pub IsEmpty : List Piece → List Piece → St → Type 0
IsEmpty put taken s = (s.words ≡ 0 ∷ []) × (s.homes ≡ some None ∷ []) × (put ≡ taken)
    × AllViews s.views IsIdle

-- a piece is on its way into the slot
abbrev pub IsFilling : List Piece → List Piece → St → Type 0
IsFilling put taken s = (s.words ≡ 0 ∷ []) × (put ≡ taken) × AllViews s.views IsPutting

-- the piece that was put last is in the slot, and was not taken
abbrev pub IsFull : List Piece → List Piece → St → Type 0
IsFull put taken s = (piece : Piece) × (s.words ≡ 1 ∷ []) × (s.homes ≡ some (Some piece) ∷ [])
    × (put ≡ taken ++ piece ∷ []) × AllViews s.views IsIdle

-- a piece is on its way out of the slot
abbrev pub IsEmptying : List Piece → List Piece → St → Type 0
IsEmptying put taken s = (s.words ≡ 1 ∷ []) × (put ≡ taken) × AllViews s.views IsTaking

-- One seat at most may put, and has put all; one at most may take, and has taken all.
pub record KeptAt (put taken : List Piece) (s : St) : Type 0 where
  pub putter : ℕ
  pub taker : ℕ
  pub puts : AllViews s.views (λ id v. v.may_put ≡ true → (id ≡ putter) × (v.put ≡ put))
  pub takes : AllViews s.views (λ id v. v.may_take ≡ true → (id ≡ taker) × (v.taken ≡ taken))
  pub slot : (IsEmpty put taken s ⊎ IsFilling put taken s)
      ⊎ (IsFull put taken s ⊎ IsEmptying put taken s)

abbrev pub Kept : St → Type 0
Kept s = (put : List Piece) × (taken : List Piece) × KeptAt put taken s

-- ---- the steps

abbrev pub M : Type 0
M = Me (Option Piece) View

abbrev pub piece_in : Option Piece → List Piece
piece_in None = []
piece_in (Some piece) = piece ∷ []

-- the piece that a seat carries
abbrev pub carried : List (ℕ × Option Piece) → List Piece
carried [] = []
carried (x ∷ xs) = piece_in x.1

-- a put that asks: where the slot was empty the seat has it; else nothing changed
abbrev pub asked_to_put : Step (Option Piece) → M → ℕ → M → Type 0
asked_to_put st m r n =
    (r ≡ 0 → n ≡ (record m.0 { putting = true; found = m.0.found ++ false ∷ [] }, (0, None) ∷ []))
    × (r ≢ 0 → n ≡ (record m.0 { found = m.0.found ++ true ∷ [] }, m.1))

-- a put that counts the piece that it carries into the slot
abbrev pub counted_put : Step (Option Piece) → M → ℕ → M → Type 0
counted_put st m r n = n ≡ (record m.0 { put = m.0.put ++ carried m.1; putting = false }, [])

-- a take that asks: where the slot was full the seat has it with the piece; else nothing changed
abbrev pub asked_to_take : Step (Option Piece) → M → ℕ → M → Type 0
asked_to_take st m r n =
    (r ≢ 0 → (piece : Piece) × (n ≡ (
      record m.0 {
        taken = m.0.taken ++ piece ∷ [];
        taking = true;
        found = m.0.found ++ true ∷ [];
      },
      (0, Some piece) ∷ [],
    )))
    × (r ≡ 0 → n ≡ (record m.0 { found = m.0.found ++ false ∷ [] }, m.1))

-- a take that counts the piece that it has carried out of the slot
abbrev pub counted_taken : Step (Option Piece) → M → ℕ → M → Type 0
counted_taken st m r n = n ≡ (record m.0 { taking = false }, [])

-- what a seat that may do both has taken begins what it has put
abbrev pub compared : Step (Option Piece) → M → ℕ → M → Type 0
compared st m r n = (n ≡ m)
    × (m.0.may_put ≡ true → m.0.may_take ≡ true → IsPrefix m.0.taken m.0.put)
