-- What the words of breakpoint commands mean: DBGp 1.0, "Breakpoints". Words have case.
use Rattle.std.specs.Prelude.{ℕ, Bool, true, false, List, [], ◌∷◌, Option, Some, None, is_none, option_and_then}
use Rattle.std.specs.List.{find}
use Rattle.std.specs.Str.{bytes_eq}
use Rattle.dp_command.specs.Numbers.{greatest}
use Rattle.dp_packet.specs.Breakpoints.{kind_name, rule_name, state_name}
use Rattle.dp_packet.specs.Parts.{flag}
use Rattle.dp_packet.specs.declared.packet.BreakKind.{BreakKind}
use Rattle.dp_packet.specs.declared.packet.BreakKind.TheVariants.{Line, Call, Return, Conditional}
use Rattle.dp_packet.specs.declared.packet.HitRule.{HitRule}
use Rattle.dp_packet.specs.declared.packet.HitRule.TheVariants.{AtLeast, Exactly, Multiple}
use Rattle.dp_bytes.specs.Decimals.{decimal_in}

-- the value whose name a word is
abbrev pub named : {A : Type 0} → (A → List ℕ) → List A → List ℕ → Option A
named name_of values word = find (λ value. bytes_eq word (name_of value)) values

-- `line`, `call`, `return`, `conditional`
unfoldable pub kind_named : List ℕ → Option BreakKind
kind_named word = named kind_name (Line ∷ Call ∷ Return ∷ Conditional ∷ []) word

-- `>=`, `==`, `%`
unfoldable pub rule_named : List ℕ → Option HitRule
rule_named word = named rule_name (AtLeast ∷ Exactly ∷ Multiple ∷ []) word

-- `enabled`, `disabled`
unfoldable pub state_named : List ℕ → Option Bool
state_named word = named state_name (true ∷ false ∷ []) word

-- `1`, `0`
unfoldable pub flag_named : List ℕ → Option Bool
flag_named word = named flag (true ∷ false ∷ []) word

-- a decimal of at most 2,147,483,647
unfoldable pub number_in : List ℕ → Option ℕ
number_in word = decimal_in greatest word

-- ---- words that may be missing

-- a word is given, and has no meaning
unfoldable pub has_no_meaning : {A : Type 0} → (List ℕ → Option A) → Option (List ℕ) → Bool
has_no_meaning meaning None = false
has_no_meaning meaning (Some word) = is_none (meaning word)

-- the meaning of a word that is given, if it has one
abbrev pub meant : {A : Type 0} → (List ℕ → Option A) → Option (List ℕ) → Option A
meant meaning given = option_and_then meaning given
