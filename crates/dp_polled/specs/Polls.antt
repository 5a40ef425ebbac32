-- What a look and a wait put into a buffer, and when they say that the input is over.
use Rattle.std.specs.Prelude.{ℕ, ◌==◌, Bool, true, false, ◌&&◌, ◌||◌, nat_lt, List, [], take, Result, Ok, Err, is_err}
use Rattle.dp_polled.specs.declared.polled.Look.{Look}
use Rattle.dp_polled.specs.declared.polled.Look.TheVariants.{NotYet, Bytes, End}

-- ---- a look

-- how many bytes it gave
abbrev pub count_of : Look → ℕ
count_of NotYet = 0
count_of (Bytes n) = n
count_of End = 0

-- the bytes that it gave, which are at the front of the buffer
abbrev pub came : {E : Type 0} → Result Look E → List ℕ → List ℕ
came (Ok look) buf = take (count_of look) buf
came (Err failed) buf = []

abbrev pub is_end : Look → Bool
is_end NotYet = false
is_end (Bytes n) = false
is_end End = true

-- whether it found the end
abbrev pub look_ends : {E : Type 0} → Result Look E → Bool
look_ends (Ok look) = is_end look
look_ends (Err failed) = false

-- whether it found the end, or failed
abbrev pub look_is_over : {E : Type 0} → Result Look E → Bool
look_is_over result = is_err result || look_ends result

-- ---- a wait

-- the bytes that it gave
abbrev pub waited : {E : Type 0} → Result ℕ E → List ℕ → List ℕ
waited (Ok n) buf = take n buf
waited (Err failed) buf = []

-- whether it came to the end: it gave no byte, though there was room
abbrev pub wait_ends : {E : Type 0} → Result ℕ E → ℕ → Bool
wait_ends (Ok n) room = (n == 0) && nat_lt 0 room
wait_ends (Err failed) room = false

-- whether it came to the end, or failed
abbrev pub wait_is_over : {E : Type 0} → Result ℕ E → ℕ → Bool
wait_is_over result room = is_err result || wait_ends result room
