-- The first test of the words: none is empty, and none begins with `-` but one `--bound`.
use Rattle.std.specs.Prelude.{ℕ, Bool, true, false, ◌&&◌, ◌||◌, not, if◌then◌else◌, List, [], ◌∷◌, codes}
use Rattle.std.specs.List.{list_all}
use Rattle.std.specs.Str.{bytes_eq}
use Rattle.dp_words.specs.Words.{is_option}

-- a word that is not empty and asks for no option
abbrev pub is_plain : List ℕ → Bool
is_plain [] = false
is_plain (byte ∷ word) = not (is_option (byte ∷ word))

-- a command that may have a bound
abbrev pub has_bound : List ℕ → Bool
has_bound name =
    bytes_eq name (codes "run") || bytes_eq name (codes "talk") || bytes_eq name (codes "tape")
    || bytes_eq name (codes "audit") || bytes_eq name (codes "dap")
    || bytes_eq name (codes "engine") || bytes_eq name (codes "async")
    || bytes_eq name (codes "replay")

-- a bound stands directly behind the command, and before a word
abbrev pub are_bounded : List (List ℕ) → Bool
are_bounded [] = true
are_bounded (word ∷ []) = is_plain word
are_bounded (word ∷ number ∷ words) =
    if bytes_eq word (codes "--bound") then (is_plain number && list_all is_plain words)
    else (is_plain word && (is_plain number && list_all is_plain words))

abbrev pub are_plain : List (List ℕ) → Bool
are_plain [] = true
are_plain (name ∷ words) =
    is_plain name && (if has_bound name then are_bounded words else list_all is_plain words)
