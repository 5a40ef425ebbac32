-- What a take and a put do to the bytes that a source has given and a sink has taken, where these
-- are reported.
use Rattle.std.specs.Prelude.{ℕ, List, take, Result, MatchResult}
use Rattle.std.specs.declared.option.Option.{Option}
use Rattle.std.specs.Io.KnownBytes.{Appends, Keeps}

-- `take(buf)` gave the n bytes at the front of the buffer at `Ok(n)`, and nothing at `Err`
abbrev pub TakeGives : {E : Type 0} → Option (List ℕ) → Option (List ℕ) → Result ℕ E → List ℕ
    → Type 0
TakeGives old new result buf =
    MatchResult result (λ n. Appends old new (take n buf)) (λ _. Keeps old new)

-- the reported bytes grow by some front of these
abbrev pub AppendsFront : Option (List ℕ) → Option (List ℕ) → List ℕ → Type 0
AppendsFront old new bytes = (n : ℕ) × Appends old new (take n bytes)

-- `put(bytes)` took all of the bytes at `Ok`, and some front of them at `Err`
abbrev pub PutAppends : {T E : Type 0} → Option (List ℕ) → Option (List ℕ) → Result T E → List ℕ
    → Type 0
PutAppends old new result bytes =
    MatchResult result (λ _. Appends old new bytes) (λ _. AppendsFront old new bytes)
