-- A post as a Polled: which bytes it has given, and what a look at it comes to.
use Rattle.std.specs.Prelude.{◌≡◌, ℕ, ◌+◌, ◌-◌, ◌<◌, ◌≤◌, Bool, true, false, ◌&&◌, ◌++◌, List, [], ◌∷◌, length, take, drop, min, nat_le, nat_lt, replicate, Option, None, Some, Result, Ok, Err, IsErr}
use mathlib.Core.List.{IsPrefix}
use Rattle.dp_outside.specs.Fakes.{one_more}
use Rattle.dp_polled.specs.declared.piece.Piece.{Piece}
use Rattle.dp_polled.specs.declared.piece.Piece.TheVariants as piece
use Rattle.dp_polled.specs.declared.polled.Look.{Look}
use Rattle.dp_polled.specs.declared.polled.Look.TheVariants.{NotYet, Bytes, End}
use Rattle.dp_polled.specs.Polls.{count_of}
use Rattle.dp_polled.specs.Posts.{Known, after_empty, after_take}

-- the bytes that a piece brings
abbrev pub bytes_in : Piece → List ℕ
bytes_in (piece.Bytes bytes) = bytes
bytes_in piece.End = []
bytes_in piece.Failed = []

-- the bytes of all these pieces
abbrev pub bytes_of : List Piece → List ℕ
bytes_of [] = []
bytes_of (p ∷ ps) = bytes_in p ++ bytes_of ps

-- Its seat, the piece that it took last with how many bytes of it were given, how often it was
-- looked at and how often it has failed.
pub record State : Type 0 where
  pub seat : Known
  pub kept : Option Piece
  pub at : ℕ
  pub looks : ℕ
  pub faults : ℕ

-- the bytes of the piece that it keeps
abbrev pub kept_bytes : Option Piece → List ℕ
kept_bytes None = []
kept_bytes (Some p) = bytes_in p

-- what of them is still to be given
abbrev pub rest : Option Piece → ℕ → List ℕ
rest kept at = drop at (kept_bytes kept)

-- the bytes that the pieces taken have but for those
abbrev pub given : State → List ℕ
given p =
    take (length (bytes_of p.seat.taken) - length (rest p.kept p.at)) (bytes_of p.seat.taken)

-- Whether the input is over: a piece that says so stays.
abbrev pub is_over : Option Piece → Bool
is_over None = false
is_over (Some (piece.Bytes bytes)) = false
is_over (Some piece.End) = true
is_over (Some piece.Failed) = true

-- whether the piece that it keeps was given whole
abbrev pub is_spent : Option Piece → ℕ → Bool
is_spent None at = true
is_spent (Some (piece.Bytes bytes)) at = nat_le (length bytes) at
is_spent (Some piece.End) at = false
is_spent (Some piece.Failed) at = false

-- it keeps the last piece that it took, if any
abbrev pub IsLast : Option Piece → List Piece → Type 0
IsLast None taken = Unit {0}
IsLast (Some p) taken = (front : List Piece) × (taken ≡ front ++ p ∷ [])

-- The piece that it keeps is the last that it took. What is still to be given of it ends the bytes
-- of all that it took, and no more of it was given than it has. It has failed only where that piece
-- is a failure.
pub record IsKept (taken : List Piece) (kept : Option Piece) (at faults : ℕ) : Type 0 where
  pub before : List ℕ
  pub whole : bytes_of taken ≡ before ++ rest kept at
  pub within : at ≤ length (kept_bytes kept)
  pub last : IsLast kept taken
  pub failed : 0 < faults → kept ≡ Some piece.Failed

-- ---- a look

-- what was found where it asked for a piece
abbrev pub with_found : Option Piece → State → State
with_found None p = record p { seat = after_empty p.seat }
with_found (Some piece) p = record p { seat = after_take piece p.seat; kept = Some piece; at = 0 }

-- it asks for a piece exactly where the one that it keeps was given whole
abbrev pub AskedIf : Bool → State → State → Type 0
AskedIf true p q = (found : Option Piece) × (q ≡ with_found found p)
AskedIf false p q = q ≡ p

abbrev pub Asked : State → State → Type 0
Asked p q = AskedIf (is_spent p.kept p.at) p q

-- what it gives of the piece that it keeps, with so much room
abbrev pub some_of : ℕ → List ℕ → Look
some_of room [] = NotYet
some_of room (b ∷ bs) = Bytes (min room (length (b ∷ bs)))

abbrev pub Answers : {E : Type 0} → ℕ → Option Piece → ℕ → Result Look E → Type 0
Answers room None at result = result ≡ Ok NotYet
Answers room (Some (piece.Bytes bytes)) at result = result ≡ Ok (some_of room (drop at bytes))
Answers room (Some piece.End) at result = result ≡ Ok End
Answers room (Some piece.Failed) at result = IsErr result

-- and what of it was given then
abbrev pub moved : {E : Type 0} → Result Look E → State → State
moved (Ok look) p = record p { at = p.at + count_of look }
moved (Err failed) p = record p { faults = one_more p.faults }

-- It asks if it must, and answers of the piece that it keeps then.
pub record Tried {E : Type 0} (room : ℕ) (p : State) (result : Result Look E)
    (q : State) : Type 0 where
  pub middle : State
  pub asks : Asked p middle
  pub answer : Answers room middle.kept middle.at result
  pub moves : q ≡ moved result middle

-- a look is counted
abbrev pub with_look : State → State
with_look p = record p { looks = p.looks + 1 }

-- ---- a wait

-- It has come to a piece that is to be given: before that one it took pieces without bytes alone.
pub record CameTo (p q : State) : Type 0 where
  pub empty : ℕ
  pub next : Piece
  pub to_give : is_spent (Some next) 0 ≡ false
  pub taken : q.seat.taken ≡ p.seat.taken ++ (replicate empty (piece.Bytes []) ++ next ∷ [])
  pub kept : q.kept ≡ Some next
  pub at : q.at ≡ 0
  pub looks : q.looks ≡ p.looks
  pub faults : q.faults ≡ p.faults

-- it waits for one exactly where there is room and the one that it keeps was given whole
abbrev pub CameIf : Bool → State → State → Type 0
CameIf true p q = CameTo p q
CameIf false p q = q ≡ p

abbrev pub waits : ℕ → State → Bool
waits room p = nat_lt 0 room && is_spent p.kept p.at

-- what it gives of the piece that it keeps then, with so much room
abbrev pub WaitAnswers : {E : Type 0} → ℕ → Option Piece → ℕ → Result ℕ E → Type 0
WaitAnswers room None at result = result ≡ Ok 0
WaitAnswers room (Some (piece.Bytes bytes)) at result =
    result ≡ Ok (min room (length (drop at bytes)))
WaitAnswers room (Some piece.End) at result = result ≡ Ok 0
WaitAnswers room (Some piece.Failed) at result = IsErr result

-- and what of it was given then
abbrev pub wait_moved : {E : Type 0} → Result ℕ E → State → State
wait_moved (Ok n) p = record p { at = p.at + n }
wait_moved (Err failed) p = record p { faults = one_more p.faults }

-- It comes to a piece if it must, and answers of the one that it keeps then.
pub record Waited {E : Type 0} (room : ℕ) (p : State) (result : Result ℕ E)
    (q : State) : Type 0 where
  pub middle : State
  pub comes : CameIf (waits room p) p middle
  pub answer : WaitAnswers room middle.kept middle.at result
  pub moves : q ≡ wait_moved result middle

-- ---- its seat

-- a seat that has only taken, and asked
pub record HasOnlyTaken (v w : Known) : Type 0 where
  pub post : w.post ≡ v.post
  pub put : w.put ≡ v.put
  pub may_put : w.may_put ≡ v.may_put
  pub may_take : w.may_take ≡ v.may_take
  pub taken : IsPrefix v.taken w.taken
  pub found : IsPrefix v.found w.found
