-- How the logic stores an array: as a list of tokens, each value behind its parts, which two stacks
-- read back.
use Rattle.std.specs.Prelude.{◌≡◌, ℕ, ℤ, pos, List, [], ◌∷◌, Option, Bool, true, false, cond, ◌==◌, None, refl}
use Rattle.std.specs.Coded.{Coded, code_by, coded×, coded_ℕ, coded_ℤ, coded_list, coded_option}
use mathlib.Core.Path.{ap, ◌∙◌}
use Rattle.dp_value.specs.declared.key.Key.{Key}
use Rattle.dp_value.specs.declared.key.Key.TheVariants.{Int, Text}
use Rattle.dp_value.specs.Data.{Data, Entries, Table, null, boolean, integer, text, array, no_entries, entry, entries_of, pairs_of, data_of_table}

pub data Token : Type 0 where
  a_null : Token
  a_boolean : Bool → Token
  an_integer : ℤ → Token
  a_text : List ℕ → Token
  an_array : Option ℤ → Token
  an_end : Token
  an_entry : Key → Token

abbrev mutual
  pub tokens : Data → List Token → List Token
  tokens null ts = a_null ∷ ts
  tokens (boolean b) ts = a_boolean b ∷ ts
  tokens (integer n) ts = an_integer n ∷ ts
  tokens (text bytes) ts = a_text bytes ∷ ts
  tokens (array es largest) ts = entry_tokens es (an_array largest ∷ ts)

  pub entry_tokens : Entries → List Token → List Token
  entry_tokens no_entries ts = an_end ∷ ts
  entry_tokens (entry k d es) ts = tokens d (entry_tokens es (an_entry k ∷ ts))

-- the value on top of the stack once all tokens are read
abbrev pub top_of : List Data → Data
top_of [] = null
top_of (d ∷ ds) = d

abbrev pub build : List Token → List Data → List Entries → Data
build [] ds ess = top_of ds
build (a_null ∷ ts) ds ess = build ts (null ∷ ds) ess
build (a_boolean b ∷ ts) ds ess = build ts (boolean b ∷ ds) ess
build (an_integer n ∷ ts) ds ess = build ts (integer n ∷ ds) ess
build (a_text bytes ∷ ts) ds ess = build ts (text bytes ∷ ds) ess
build (an_array largest ∷ ts) ds [] = null
build (an_array largest ∷ ts) ds (es ∷ ess) = build ts (array es largest ∷ ds) ess
build (an_end ∷ ts) ds ess = build ts ds (no_entries ∷ ess)
build (an_entry k ∷ ts) [] ess = null
build (an_entry k ∷ ts) (d ∷ ds) [] = null
build (an_entry k ∷ ts) (d ∷ ds) (es ∷ ess) = build ts ds (entry k d es ∷ ess)

mutual
  pub build-tokens : (d : Data) (ts : List Token) (ds : List Data) (ess : List Entries)
      → build (tokens d ts) ds ess ≡ build ts (d ∷ ds) ess
  build-tokens null ts ds ess = refl
  build-tokens (boolean b) ts ds ess = refl
  build-tokens (integer n) ts ds ess = refl
  build-tokens (text bytes) ts ds ess = refl
  build-tokens (array es largest) ts ds ess = build-entry_tokens es (an_array largest ∷ ts) ds ess

  pub build-entry_tokens : (es : Entries) (ts : List Token) (ds : List Data) (ess : List Entries)
      → build (entry_tokens es ts) ds ess ≡ build ts ds (es ∷ ess)
  build-entry_tokens no_entries ts ds ess = refl
  build-entry_tokens (entry k d es) ts ds ess =
      build-tokens d (entry_tokens es (an_entry k ∷ ts)) ds ess ∙ build-entry_tokens es
      (an_entry k ∷ ts) (d ∷ ds) ess

pub pairs_of-entries_of : (ps : List (Key × Data)) → pairs_of (entries_of ps) ≡ ps
pairs_of-entries_of [] = refl
pairs_of-entries_of (p ∷ ps) = ap (λ qs. p ∷ qs) (pairs_of-entries_of ps)

abbrev pub table_from : Data → Table
table_from null = record { pairs = []; largest = None }
table_from (boolean b) = record { pairs = []; largest = None }
table_from (integer n) = record { pairs = []; largest = None }
table_from (text bytes) = record { pairs = []; largest = None }
table_from (array es largest) = record { pairs = pairs_of es; largest = largest }

pub table_from-data_of_table : (t : Table) → table_from (data_of_table t) ≡ t
table_from-data_of_table t =
    λ i. record { pairs = pairs_of-entries_of t.pairs i; largest = t.largest }

abbrev Parts : Type 0
Parts = ℕ × (ℤ × (List ℕ × Option ℤ))

abbrev to_parts : Token → Parts
to_parts a_null = (0, (pos 0, ([], None)))
to_parts (a_boolean true) = (1, (pos 0, ([], None)))
to_parts (a_boolean false) = (2, (pos 0, ([], None)))
to_parts (an_integer n) = (3, (n, ([], None)))
to_parts (a_text bytes) = (4, (pos 0, (bytes, None)))
to_parts (an_array largest) = (5, (pos 0, ([], largest)))
to_parts an_end = (6, (pos 0, ([], None)))
to_parts (an_entry (Int n)) = (7, (n, ([], None)))
to_parts (an_entry (Text bytes)) = (8, (pos 0, (bytes, None)))

abbrev from_parts : Parts → Token
from_parts p =
    cond (p.0 == 0) a_null (cond (p.0 == 1) (a_boolean true)
    (cond (p.0 == 2) (a_boolean false) (cond (p.0 == 3) (an_integer p.1.0)
    (cond (p.0 == 4) (a_text p.1.1.0) (cond (p.0 == 5) (an_array p.1.1.1)
    (cond (p.0 == 6) an_end (cond (p.0 == 7) (an_entry (Int p.1.0))
    (an_entry (Text p.1.1.0)))))))))

pub from_parts-to_parts : (t : Token) → from_parts (to_parts t) ≡ t
from_parts-to_parts a_null = refl
from_parts-to_parts (a_boolean true) = refl
from_parts-to_parts (a_boolean false) = refl
from_parts-to_parts (an_integer n) = refl
from_parts-to_parts (a_text bytes) = refl
from_parts-to_parts (an_array largest) = refl
from_parts-to_parts an_end = refl
from_parts-to_parts (an_entry (Int n)) = refl
from_parts-to_parts (an_entry (Text bytes)) = refl

abbrev pub token_code : Coded Token
token_code =
    code_by Parts (coded× coded_ℕ (coded× coded_ℤ (coded× (coded_list coded_ℕ)
    (coded_option coded_ℤ)))) to_parts from_parts from_parts-to_parts

pub table_back : (t : Table) → table_from (build (tokens (data_of_table t) []) [] []) ≡ t
table_back t = ap table_from (build-tokens (data_of_table t) [] [] []) ∙ table_from-data_of_table t

abbrev pub table_code : Coded Table
table_code =
    code_by (List Token) (coded_list token_code) (λ t. tokens (data_of_table t) [])
    (λ ts. table_from (build ts [] [])) table_back
