-- Values as data: what a value stands for, with no layout.
use Rattle.std.specs.Prelude.{ℕ, ℤ, ◌+◌, suc, max, Bool, List, [], ◌∷◌, Option, length}
use Rattle.dp_value.specs.declared.key.Key.{Key}
use Rattle.dp_value.specs.declared.key.Key.TheVariants.{Int, Text}
use Rattle.dp_value.specs.Key.{key_weight}

mutual
  -- a value; an array has its entries in order, and the largest integer key ever used in it, if any
  pub data Data : Type 0 where
    null : Data
    boolean : Bool → Data
    integer : ℤ → Data
    text : List ℕ → Data
    array : Entries → Option ℤ → Data

  pub data Entries : Type 0 where
    no_entries : Entries
    entry : Key → Data → Entries → Entries

-- a key as a value
abbrev pub data_of_key : Key → Data
data_of_key (Int n) = integer n
data_of_key (Text bytes) = text bytes

-- an array: its pairs in order, and the largest integer key ever used in it, if any
pub record Table : Type 0 where
  pub pairs : List (Key × Data)
  pub largest : Option ℤ

abbrev pub entries_of : List (Key × Data) → Entries
entries_of [] = no_entries
entries_of (p ∷ ps) = entry p.0 p.1 (entries_of ps)

abbrev pub pairs_of : Entries → List (Key × Data)
pairs_of no_entries = []
pairs_of (entry k d es) = (k, d) ∷ pairs_of es

-- an array as data
abbrev pub data_of_table : Table → Data
data_of_table t = array (entries_of t.pairs) t.largest

-- The weight of a text is its length; of an array the number of its entries, the lengths of its
-- text keys and the weights of its values together; of any other value 0.
abbrev mutual
  pub weight_of : Data → ℕ
  weight_of null = 0
  weight_of (boolean b) = 0
  weight_of (integer n) = 0
  weight_of (text bytes) = length bytes
  weight_of (array es largest) = entries_weight es

  pub entries_weight : Entries → ℕ
  entries_weight no_entries = 0
  entries_weight (entry k d es) = (1 + key_weight k + weight_of d) + entries_weight es

abbrev pub pairs_weight : List (Key × Data) → ℕ
pairs_weight ps = entries_weight (entries_of ps)

-- how deep arrays nest
abbrev mutual
  pub depth : Data → ℕ
  depth null = 0
  depth (boolean b) = 0
  depth (integer n) = 0
  depth (text bytes) = 0
  depth (array es largest) = suc (entries_depth es)

  pub entries_depth : Entries → ℕ
  entries_depth no_entries = 0
  entries_depth (entry k d es) = max (depth d) (entries_depth es)

abbrev pub table_depth : Table → ℕ
table_depth t = depth (data_of_table t)
