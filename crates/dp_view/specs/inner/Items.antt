-- What the code finds of a name: in a first pass, without memory, what stands behind items, and in
-- a second one the items.
use Rattle.std.specs.Prelude.{ℕ, zero, suc, Bool, List, [], ◌∷◌, length, Option, Some, None}
use Rattle.std.specs.Option.{option_map_or}
use Rattle.dp_lexer.specs.Bytes.{is_part}
use Rattle.dp_state.specs.declared.moments.Path.{Path}
use Rattle.dp_value.specs.declared.key.Key.{Key}
use Rattle.dp_value.specs.declared.key.Key.TheVariants as a_key
use Rattle.dp_value.specs.KeyOf.{key_of_text}
use Rattle.dp_view.specs.declared.sorts.Sort.{Sort}
use Rattle.dp_view.specs.declared.sorts.Sort.TheVariants as a_sort
use Rattle.dp_view.specs.declared.spelling.Spelling.{Spelling}
use Rattle.dp_view.specs.declared.spelling.Spelling.TheVariants.{Int, Text}
use Rattle.dp_view.specs.NameReader.{◌>>=◌, byte_at, index_at, is_int_byte}

abbrev pub test_of : Sort → ℕ → Bool
test_of a_sort.Name = is_part
test_of a_sort.Int = is_int_byte

-- what stands behind the items up to one that ends them, or none where one cannot be read
abbrev pub skipped_on : {A : Type 0} → Option A → List ℕ → (List ℕ → Option (List ℕ))
    → Option (List ℕ)
skipped_on None rest next = Some rest
skipped_on (Some item) rest next = next rest

unfoldable pub behind_items : {A : Type 0} → (List ℕ → Option (Option A × List ℕ)) → ℕ → List ℕ
    → Option (List ℕ)
behind_items step zero bytes = Some bytes
behind_items step (suc n) bytes =
    step bytes >>= λ found. skipped_on found.0 found.1 (behind_items step n)

-- the items up to one that ends them or cannot be read
abbrev pub taken_on : {A : Type 0} → Option A → List ℕ → (List ℕ → List A) → List A
taken_on None rest next = []
taken_on (Some item) rest next = item ∷ next rest

unfoldable pub items_taken : {A : Type 0} → (List ℕ → Option (Option A × List ℕ)) → ℕ → List ℕ
    → List A
items_taken step zero bytes = []
items_taken step (suc n) bytes =
    option_map_or (λ found. taken_on found.0 found.1 (items_taken step n)) (step bytes) []

-- the bytes between quotes, behind the opening one
abbrev pub text_taken : ℕ → List ℕ → List ℕ
text_taken quote bytes = items_taken (byte_at quote) (length bytes) bytes

-- the key that is spelt so
abbrev pub key_meant : Spelling → Key
key_meant (Int n) = a_key.Int n
key_meant (Text quote bytes) = key_of_text (text_taken quote bytes.now)

-- the keys of indices
abbrev pub keys_taken : List ℕ → List Key
keys_taken bytes = items_taken index_at (length bytes) bytes

-- the path of a name and indices
abbrev pub path_taken : List ℕ → List ℕ → Path
path_taken name indices = record { name = name; keys = keys_taken indices }
