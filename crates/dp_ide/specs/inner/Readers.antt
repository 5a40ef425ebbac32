-- What a function that reads a part of a script answers.
use Rattle.std.specs.Prelude.{◌≡◌, ◌⊎◌, ℕ, ◌≤◌, Bool, true, false, not, ◌==◌, if◌then◌else◌, List, [], ◌∷◌, ◌++◌, length, take, drop, Option, None, Some}
use Rattle.std.specs.List.{list_all}
use Rattle.dp_grammar.specs.Parts.{Part, ◌>>◌}
use Rattle.dp_grammar.specs.Prefixes.{◌>>=◌}
use Rattle.dp_ide.specs.declared.instruction.Instruction.{Instruction}
use Rattle.dp_ide.specs.Scripts.{Behind, Name, Says, Text, byte_of}

-- the one that the bytes spell by the rule, or that they spell none
abbrev pub Reads : {A : Type 0} → (A → List ℕ → Type 0) → List ℕ → Option A → Type 0
Reads {A = A} rule bytes None = (one : A) → rule one bytes → ⊥
Reads {A = A} rule bytes (Some one) =
    rule one bytes × ((other : A) → rule other bytes → other ≡ one)

-- what stands first in a text, as one byte, and what is behind it
abbrev pub in_hexadecimal : List ℕ → Option (ℕ × List ℕ)
in_hexadecimal [] = None
in_hexadecimal (high ∷ []) = None
in_hexadecimal (high ∷ low ∷ rest) = byte_of high low >>= λ byte. Some (byte, rest)

abbrev pub escaped : List ℕ → Option (ℕ × List ℕ)
escaped [] = None
escaped (byte ∷ rest) =
    if byte == 110 then Some (10, rest) else if byte == 92 then Some (92, rest)
    else if byte == 120 then in_hexadecimal rest else None

abbrev pub first_of : List ℕ → Option (ℕ × List ℕ)
first_of [] = None
first_of (byte ∷ rest) = if byte == 92 then escaped rest else Some (byte, rest)

-- This text was read, and the rest is still to be read: whatever the rest spells comes behind it.
pub record ReadsOn (bytes text rest : List ℕ) : Type 0 where
  pub goes : (later : List ℕ) → Text later rest → Text (text ++ later) bytes
  pub comes : (all : List ℕ) → Text all bytes
      → (later : List ℕ) × (all ≡ text ++ later) × Text later rest

-- so many bytes stand before the first of this kind, or before the end
pub record IsRun (mark : ℕ) (bytes : List ℕ) (count : ℕ) : Type 0 where
  pub within : count ≤ length bytes
  pub before : list_all (λ byte. not (byte == mark)) (take count bytes) ≡ true
  pub stops : (drop count bytes ≡ [])
      ⊎ ((rest : List ℕ) × (drop count bytes ≡ mark ∷ rest))

-- ---- a name and a text

abbrev pub IsNamed : List ℕ × List ℕ → Part ℕ
IsNamed named = Name named.0 >> Behind named.1

-- ---- whole lines

-- whether the line says something: that stands behind what was said before, and it says nothing
-- else; or it is no line of a script
abbrev pub Takes : ℕ → List ℕ → Bool → List Instruction → List Instruction → Type 0
Takes number line true old new =
    (said : List Instruction) × (new ≡ old ++ said) × Says number line said
    × ((other : List Instruction) → Says number line other → other ≡ said)
Takes number line false old new = (any : List Instruction) → Says number line any → ⊥
