-- How a line is read: the event that it spells, if it spells one.
use Rattle.std.specs.Prelude.{◌≡◌, ℕ, ◌+◌, ◌-◌, ◌*◌, ◌^◌, ◌==◌, nat_le, true, ◌&&◌, if◌then◌else◌}
use Rattle.std.specs.Prelude.{List, [], ◌∷◌, ◌++◌, take, drop, Option, Some, None, codes}
use Rattle.std.specs.Prelude.{option_map, option_and_then}
use Rattle.std.specs.Str.{bytes_eq}
use Rattle.dp_grammar.specs.Lines.{has_no_blank}
use Rattle.dp_outside.specs.Names.{host_limit, is_name, key_limit}
use Rattle.dp_bytes.specs.Decimals.{decimal_in}
use Rattle.dp_events.specs.declared.event.Act.{Act}
use Rattle.dp_events.specs.declared.event.Act.TheVariants.{Ide, Engine, Give, Move, Close}
use Rattle.dp_events.specs.declared.event.Event.{Event}
use Rattle.dp_events.specs.Lists.{link_limit}

-- ---- bytes in hexadecimal

abbrev pub nibble : ℕ → Option ℕ
nibble c =
    if nat_le 48 c && nat_le c 57 then Some (c - 48)
    else (if nat_le 97 c && nat_le c 102 then Some (c - 87) else None)

abbrev pub byte_in : ℕ → ℕ → Option ℕ
byte_in high low =
    option_and_then (λ a. option_map (λ b. 16 * a + b) (nibble low)) (nibble high)

abbrev pub pairs : List ℕ → Option (List ℕ)
pairs [] = Some []
pairs (high ∷ []) = None
pairs (high ∷ low ∷ rest) =
    option_and_then (λ byte. option_map (λ bytes. byte ∷ bytes) (pairs rest)) (byte_in high low)

abbrev pub some_pairs : List ℕ → Option (List ℕ)
some_pairs [] = None
some_pairs (b ∷ part) = pairs (b ∷ part)

abbrev pub bytes_in : List ℕ → Option (List ℕ)
bytes_in part = if bytes_eq part (codes "-") then Some [] else some_pairs part

-- ---- words

-- what stands before the first blank, and what behind it
abbrev pub split_word : List ℕ → List ℕ × Option (List ℕ)
split_word [] = ([], None)
split_word (b ∷ bytes) =
    let rest = split_word bytes in
    if b == 32 then ([], Some bytes) else (b ∷ rest.0, rest.1)

abbrev pub word_of : List ℕ → List ℕ
word_of bytes = (split_word bytes).0

abbrev pub part_of : List ℕ → Option (List ℕ)
part_of bytes = (split_word bytes).1

-- the place of the first blank, or there is none
abbrev pub FirstBlank : List ℕ → Option ℕ → Type 0
FirstBlank bytes None = has_no_blank bytes ≡ true
FirstBlank bytes (Some at) =
    (has_no_blank (take at bytes) ≡ true) × (bytes ≡ take at bytes ++ 32 ∷ drop (at + 1) bytes)

abbrev pub name_in : ℕ → (List ℕ → Act) → List ℕ → Option Act
name_in most act part = if is_name most part then Some (act part) else None

-- ---- acts

-- the greatest count of bytes that are moved, of 32 bits
abbrev pub greatest_count : ℕ
greatest_count = 2 ^ 32 - 1

abbrev pub act_alone : List ℕ → Option Act
act_alone word =
    if bytes_eq word (codes "close") then Some Close
    else (if bytes_eq word (codes "say") then Some (Give (0 ∷ [])) else None)

abbrev pub act_with : List ℕ → List ℕ → Option Act
act_with word part =
    if bytes_eq word (codes "ide") then name_in host_limit Ide part
    else if bytes_eq word (codes "engine") then name_in key_limit Engine part
    else if bytes_eq word (codes "give") then option_map Give (bytes_in part)
    else if bytes_eq word (codes "say") then Some (Give (part ++ 0 ∷ []))
    else if bytes_eq word (codes "move") then option_map Move (decimal_in greatest_count part)
    else None

abbrev pub act_in : List ℕ → Option (List ℕ) → Option Act
act_in word None = act_alone word
act_in word (Some part) = act_with word part

-- ---- events

abbrev pub link_in : List ℕ → Option ℕ
link_in text =
    option_and_then (λ n. if n == 0 then None else Some n) (decimal_in link_limit text)

abbrev pub event_by : ℕ → Option Act → Option Event
event_by link act = option_map (λ a. record { link = link; act = a }) act

-- the word, and what stands behind it
abbrev pub event_in : List ℕ → List ℕ → Option Event
event_in word rest =
    option_and_then (λ link. event_by link (act_in word (part_of rest))) (link_in (word_of rest))

unfoldable pub spelled : List ℕ → Option Event
spelled line = option_and_then (event_in (word_of line)) (part_of line)
