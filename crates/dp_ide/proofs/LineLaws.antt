-- The lines of a script, and what they say one after another.
use Rattle.std.proofs.Common.{◌≡◌, ℕ, ◌+◌, ◌-◌, ◌<◌, true, false, not, eqb, ◌==◌, List, ◌∷◌, length, take, drop, get_or, sym, subst, arith}
use Rattle.std.specs.List.{list_all}
use Rattle.std.proofs.lemmas.Bool.{and_parts, not-true}
use Rattle.std.proofs.lemmas.List.{length-drop, take_all}
use Rattle.dp_grammar.specs.Lines.{lines_of}
use Rattle.dp_grammar.proofs.Lines as lines
use Rattle.dp_grammar.proofs.Lines.{IsRead, read_on}
use Rattle.dp_ide.specs.declared.instruction.Instruction.{Instruction}
use Rattle.dp_ide.specs.Scripts.{IsFirstBad, IsScript, SaysAt}
use Rattle.dp_ide.specs.inner.Readers.{Takes}

-- ---- bytes without a mark

abbrev pub Lacks : ℕ → List ℕ → Type 0
Lacks mark bytes = list_all (λ byte. not (byte == mark)) bytes ≡ true

pub lacks_head : (mark b : ℕ) (bs : List ℕ) → Lacks mark (b ∷ bs) → eqb b mark ≡ false
lacks_head mark b bs h = not-true _ (and_parts _ (list_all (λ byte. not (byte == mark)) bs) h).0

pub lacks_tail : (mark b : ℕ) (bs : List ℕ) → Lacks mark (b ∷ bs) → Lacks mark bs
lacks_tail mark b bs h = (and_parts (not (eqb b mark)) (list_all (λ byte. not (byte == mark)) bs) h).1

-- what is behind a place, as a slice of the bytes
pub rest_is : (n : ℕ) (bytes : List ℕ) → take (length bytes - n) (drop n bytes) ≡ drop n bytes
rest_is n bytes = take_all (length bytes - n) (drop n bytes) (omega (arith, length-drop n bytes))

-- ---- what lines say

-- one line more is read
pub read_line : (bytes : List ℕ) (number : ℕ) (said : List Instruction) (line : List ℕ) (new : List Instruction)
    → IsRead SaysAt bytes number said
    → (number < length (lines_of bytes)) × (line ≡ get_or (lines_of bytes) number line)
    → Takes (number + 1) line true said new → IsRead SaysAt bytes (number + 1) new
read_line bytes number said line new read here takes =
    subst (IsRead SaysAt bytes (number + 1)) (sym takes.1)
    (read_on SaysAt bytes number said line read here takes.0 takes.2 takes.3)

-- a script has no bad line
pub no_bad : (bytes : List ℕ) (number : ℕ) (said : List Instruction) → IsFirstBad bytes number → IsScript bytes said → ⊥
no_bad = lines.no_bad SaysAt
