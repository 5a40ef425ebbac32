-- Bytes in memory that come at looks of given numbers.
use Rattle.std.specs.Prelude.{ℕ, ◌==◌, Bool, true, false, nat_le, nat_lt, min, List, [], ◌∷◌, length, drop, map, if◌then◌else◌, Vec}
use Rattle.std.specs.List.{flat_map}
use Rattle.std.specs.declared.alloc.Global.{Global}
use Rattle.dp_outside.specs.Fakes.{Plan}
use Rattle.dp_polled.specs.declared.polled.Look.{Look}
use Rattle.dp_polled.specs.declared.polled.Look.TheVariants.{NotYet, Bytes, End}

-- an arrival: the number of a look, from 1, and the bytes that are there from that look on
abbrev pub Arrival : Type 0
Arrival = ℕ × List ℕ

abbrev pub arrivals_of : List (ℕ × Vec ℕ Global) → List Arrival
arrivals_of gives = map (λ give. (give.0, give.1.items)) gives

-- the bytes of all of them
abbrev pub bytes_of : List Arrival → List ℕ
bytes_of arrivals = flat_map (λ arrival. arrival.1) arrivals

-- arrivals still to come, and the bytes that were given
pub record Coming : Type 0 where
  pub left : List Arrival
  pub given : List ℕ

-- Whether the first says nothing: it has no bytes, and is not the last.
abbrev pub is_silent : List Arrival → Bool
is_silent [] = false
is_silent (a ∷ []) = false
is_silent (a ∷ b ∷ more) = length a.1 == 0

-- those still to come without the ones at their front that say nothing
abbrev pub next : List Arrival → List Arrival
next [] = []
next (a ∷ more) = if is_silent (a ∷ more) then next more else a ∷ more

-- the bytes of the first
abbrev pub first_bytes : List Arrival → List ℕ
first_bytes [] = []
first_bytes (a ∷ more) = a.1

-- what is still to come once the first has given so many bytes more
abbrev pub less : ℕ → List Arrival → List Arrival
less n [] = []
less n (a ∷ more) = if nat_lt n (length a.1) then (a.0, drop n a.1) ∷ more else more

-- Whether the first is there at the look of this number. Behind the last the end always is.
abbrev pub is_there : ℕ → List Arrival → Bool
is_there number [] = true
is_there number (a ∷ more) = nat_le a.0 number

-- a look at what is there: its bytes, as far as there is room, or the end
abbrev pub found : ℕ → List ℕ → Look
found room [] = End
found room (b ∷ bytes) = Bytes (min room (length (b ∷ bytes)))

-- what the look of this number finds, with so much room
abbrev pub look_at : ℕ → ℕ → List Arrival → Look
look_at number room arrivals =
    if is_there number arrivals then found room (first_bytes arrivals) else NotYet

-- what is still to come after a look
abbrev pub left_by : Look → List Arrival → List Arrival
left_by NotYet arrivals = arrivals
left_by (Bytes n) arrivals = less n arrivals
left_by End arrivals = less 0 arrivals

-- What contracts see of a Polled in memory: what is still to come, the bytes given, how often it
-- was looked at, whether a call has answered the end or a fault, and which of its calls fail.
pub record ListState : Type 0 where
  pub coming : Coming
  pub looks : ℕ
  pub over : Bool
  pub plan : Plan
