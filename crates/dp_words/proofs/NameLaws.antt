-- Words that are names of files, as the strings that hold them.
use Rattle.std.proofs.Common.{◌≡◌, ◌≢◌, ℕ, zero, suc, ◌≤◌, ◌<◌, Bool, true, false, ◌&&◌, not, List, [], ◌∷◌, length, map, All, get_or, sym, ap, refl, subst, arith, take, ◌+◌, String, string_bytes, Global}
use Rattle.std.specs.Prelude.{◌==◌, IsTrue, IsUtf8}
use Rattle.std.specs.List.{AllByRecursion, IsDistinct, list_all}
use Rattle.std.specs.Str.{bytes_eq}
use Rattle.std.proofs.lemmas.List.{length-map, get_or-map, take_all, take_more}
use Rattle.std.proofs.lemmas.List.Elements.{All-map, All-push}
use Rattle.std.proofs.lemmas.List.Folds.{list_all-map}
use Rattle.std.proofs.lemmas.Str.{IsUtf8-string_bytes}
use Rattle.dp_bytes.specs.Names.{without_slash}
use Rattle.dp_tree.specs.FileNames.{AreFileNames}
use Rattle.dp_tree.specs.declared.bundle.Bundle.{Bundle}
use Rattle.dp_tree.specs.declared.bundle.BundleFile.{BundleFile}
use Rattle.dp_wire.specs.Frames.{has_no_nul}
use Rattle.dp_words.specs.Words.{AreFileWords, IsFileWord, are_apart}
use Rattle.dp_words.specs.Plain.{is_plain}

-- a name and others
pub apart_cons : (name : String Global) (others : List (String Global)) →
    are_apart (map string_bytes (name ∷ others))
    ≡ (list_all (λ other. not (bytes_eq (without_slash (string_bytes name)) (without_slash (string_bytes other))))
    others && are_apart (map string_bytes others))
apart_cons name others = ap (λ b. b && are_apart (map string_bytes others))
    (list_all-map (λ other. not (bytes_eq (without_slash (string_bytes name)) (without_slash other))) string_bytes
    others)

pub files_if : (words : List (String Global)) → 1 ≤ length words → length words ≤ 64
    → All (λ word. IsFileWord (string_bytes word)) words
    → are_apart (map string_bytes words) ≡ true → AreFileWords (map string_bytes words)
files_if words some few named apart = record {
  some = omega (arith, some, length-map words string_bytes);
  few = omega (arith, few, length-map words string_bytes);
  named = All-map IsFileWord string_bytes words named;
  apart = apart;
}

pub files_some : (words : List (String Global)) → AreFileWords (map string_bytes words) → 1 ≤ length words
files_some words files = omega (arith, files.some, length-map words string_bytes)

pub files_few : (words : List (String Global)) → AreFileWords (map string_bytes words) → length words ≤ 64
files_few words files = omega (arith, files.few, length-map words string_bytes)

pub files_named : (words : List (String Global)) → AreFileWords (map string_bytes words)
    → All (λ word. IsFileWord (string_bytes word)) words
files_named words files = λ k d below.
    subst IsFileWord (get_or-map string_bytes words k d (string_bytes d) below)
    (files.named k (string_bytes d) (omega (arith, below, length-map words string_bytes)))

-- ---- names of a program

new_apart : (name : List ℕ) (names : List (List ℕ))
    → list_all (λ other. not (bytes_eq (without_slash name) (without_slash other))) names ≡ true
    → AllByRecursion (λ other. bytes_eq (without_slash name) other ≡ false) (map without_slash names)
new_apart name [] h = tt
new_apart name (other ∷ names) h =
    by (bytes_eq (without_slash name) (without_slash other)) refl h (new_apart name names) where
      by : (b : Bool) → bytes_eq (without_slash name) (without_slash other) ≡ b
          → (not b && list_all (λ o. not (bytes_eq (without_slash name) (without_slash o))) names) ≡ true
          → (list_all (λ o. not (bytes_eq (without_slash name) (without_slash o))) names ≡ true
          → AllByRecursion (λ o. bytes_eq (without_slash name) o ≡ false) (map without_slash names))
          → AllByRecursion (λ o. bytes_eq (without_slash name) o ≡ false) (map without_slash (other ∷ names))
      by true e h rest = absurd (cc)
      by false e h rest = (e, rest h)

-- names that are apart are distinct without one leading `/`
apart_distinct : (names : List (List ℕ)) → are_apart names ≡ true → IsDistinct bytes_eq (map without_slash names)
unfolding IsDistinct
apart_distinct [] h = tt
apart_distinct (name ∷ names) h =
    by (list_all (λ other. not (bytes_eq (without_slash name) (without_slash other))) names) refl h
    (apart_distinct names) where
      by : (b : Bool) → list_all (λ other. not (bytes_eq (without_slash name) (without_slash other))) names ≡ b
          → (b && are_apart names) ≡ true
          → (are_apart names ≡ true → IsDistinct bytes_eq (map without_slash names))
          → IsDistinct bytes_eq (map without_slash (name ∷ names))
      by true e h rest = (new_apart name names e, rest h)
      by false e h rest = absurd (cc)

-- ---- names of a program, as a run takes them

bare_head : (byte : ℕ) → (byte == 0) ≡ false → byte ≢ 0
bare_head byte e z = let no : (0 == 0) ≡ false = subst (λ n. (n == 0) ≡ false) z e in absurd (cc)

bare_all : (bytes : List ℕ) → has_no_nul bytes ≡ true → All (λ byte. byte ≢ 0) bytes
bare_all [] h = λ k d below. absurd (omega (arith, below))
bare_all (byte ∷ bytes) h = by (byte == 0) refl h (bare_all bytes) where
  cons : byte ≢ 0 → All (λ b. b ≢ 0) bytes → All (λ b. b ≢ 0) (byte ∷ bytes)
  cons head tail zero d below = head
  cons head tail (suc k) d below = tail k d (omega (arith, below))

  by : (t : Bool) → (byte == 0) ≡ t → (not t && has_no_nul bytes) ≡ true
      → (has_no_nul bytes ≡ true → All (λ b. b ≢ 0) bytes)
      → All (λ b. b ≢ 0) (byte ∷ bytes)
  by true e h rest = absurd (cc)
  by false e h rest = cons (bare_head byte e) (rest h)

text_at : (words : List (String Global)) (k : ℕ) (d : List ℕ) → k < length (map string_bytes words)
    → IsUtf8 (get_or (map string_bytes words) k d)
text_at [] k d below = absurd (omega (arith, below))
text_at (word ∷ words) k d below =
    subst IsUtf8 (sym (get_or-map string_bytes (word ∷ words) k word d
    (omega (arith, below, length-map (word ∷ words) string_bytes))))
    (IsUtf8-string_bytes (get_or (word ∷ words) k word))

-- the names that words are
pub names_of : (words : List (String Global)) → AreFileWords (map string_bytes words)
    → AreFileNames (map string_bytes words)
names_of words files = record {
  some = files.some;
  few = files.few;
  named = λ k d below.
      let name = files.named k d below in record {
        some = name.is_name.some;
        short = name.is_name.short;
        text = text_at words k d below;
        bare = bare_all (get_or (map string_bytes words) k d) name.is_name.no_nul;
      };
  apart = apart_distinct (map string_bytes words) files.apart;
}

-- ---- a loop over words

abbrev IsNamed : String Global → Type 0
IsNamed word = IsFileWord (string_bytes word)

pub one_named : (words : List (String Global)) (i : ℕ) (item : String Global) (bytes : List ℕ)
    → All IsNamed (take i words) → i < length words
    → item ≡ get_or words i item → bytes ≡ string_bytes item → (IsTrue true → IsFileWord bytes)
    → All IsNamed (take (i + 1) words)
one_named words i item bytes before more same spelled tells =
    subst (All IsNamed) (sym (take_more words i item more))
    (All-push IsNamed (take i words) (get_or words i item) before
    (subst IsNamed same (subst IsFileWord spelled (tells refl))))

pub all_named : (words : List (String Global)) (i : ℕ) → All IsNamed (take i words) → length words ≤ i
    → (IsTrue true → All IsNamed words) × (All IsNamed words → IsTrue true)
all_named words i all over = ((λ _. subst (All IsNamed) (take_all i words over) all), (λ _. refl))

-- words that are plain, as the strings that hold them
pub plain_map : (words : List (String Global))
    → list_all is_plain (map string_bytes words) ≡ list_all (λ word. is_plain (string_bytes word)) words
plain_map words = list_all-map is_plain string_bytes words

-- the files of a program that was made of the files of these words have their names, which are names of files
pub are_named : (words : List (String Global)) (program : Bundle)
    → map (λ (f : BundleFile). f.name) program.files ≡ map string_bytes words → AreFileWords (map string_bytes words)
    → AreFileNames (map (λ (f : BundleFile). f.name) program.files)
are_named words program named files = subst AreFileNames (sym named) (names_of words files)
