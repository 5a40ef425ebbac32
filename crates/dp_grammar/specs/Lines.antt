-- Texts of lines: what the lines say one after another, and the first with which nothing is said.
use Rattle.std.specs.Prelude.{◌≡◌, ℕ, suc, ◌+◌, Bool, true, not, ◌==◌, List, [], ◌∷◌, ◌++◌}
use Rattle.std.specs.List.{list_all, slice_split}
use Rattle.dp_grammar.specs.Refused.{IsUnexpected}
use Rattle.dp_grammar.specs.Texts.{Text}

-- The lines, cut at the line feeds. What stands behind the last is a line too; where it is empty,
-- it does nothing.
abbrev pub lines_of : Text → List Text
lines_of text = slice_split (λ byte. byte == 10) text

-- lines with a byte more at the front of the first
abbrev pub begun : ℕ → List Text → List Text
begun byte [] = (byte ∷ []) ∷ []
begun byte (line ∷ lines) = (byte ∷ line) ∷ lines

-- empty lines, and those that begin with `#`, do nothing
abbrev pub is_idle : Text → Bool
is_idle [] = true
is_idle (byte ∷ line) = byte == 35

-- no byte is a space
abbrev pub has_no_blank : Text → Bool
has_no_blank text = list_all (λ byte. not (byte == 32)) text

-- what a line of this number says behind what was said before it
abbrev pub LineRule : Type 0 → Type 1
LineRule A = List A → ℕ → Text → List A → Type 0

-- The lines, of which the first has this number, say the rest of these behind the first ones, one
-- line after another.
abbrev pub AreSaid : {A : Type 0} → LineRule A → List A → ℕ → List Text → List A → Type 0
AreSaid says before number [] all = all ≡ before
AreSaid {A = A} says before number (line ∷ lines) all =
    (said : List A) × says before number line said
    × AreSaid says (before ++ said) (suc number) lines all

-- the lines say these; they are counted from 1
abbrev pub Say : {A : Type 0} → LineRule A → List Text → List A → Type 0
Say says lines all = AreSaid says [] 1 lines all

-- the line of this number is the first with which nothing is said
abbrev pub IsFirstBad : {A : Type 0} → LineRule A → Text → ℕ → Type 0
IsFirstBad says text number =
    (place : ℕ) × (number ≡ place + 1)
    × IsUnexpected (λ (u : Unit {0}). Say says) tt (lines_of text) place
