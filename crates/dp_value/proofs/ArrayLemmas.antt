-- What is left of the two columns of an array, as its pairs.
use Rattle.std.proofs.Common.{◌≡◌, ℕ, ◌<◌, Bool, List, length, map, get_or, slice_get, option_map, Some, ap, sym, subst, ◌∙◌, arith}
use Rattle.std.proofs.lemmas.List.{length-map}
use Rattle.std.proofs.lemmas.Option.{slice_get_read, slice_get-map, slice_get-get_or}
use Rattle.std.proofs.lemmas.Slice.Zip.{firsts-zip, length-zip, seconds-zip}
use Rattle.dp_value.specs.declared.key.Key.{Key}
use Rattle.dp_value.specs.declared.value.Value.{Value}
use Rattle.dp_value.specs.declared.value.Columns.TheInside.{Inside}
use Rattle.dp_value.specs.inner.Inside.{keys_left, values_left, table_of, IsArray}
use Rattle.dp_value.specs.inner.Kept.{is_rising, kept_keys}
use Rattle.dp_value.specs.inner.Rows.{AreRows}
use Rattle.dp_value.specs.Value.{data_of}
use Rattle.dp_value.specs.Data.{Data, Table, null, pairs_weight}
use Rattle.dp_value.specs.Place.{IsFirst}
use Rattle.dp_value.specs.Table.{keys_of, values_of, IsTable}
use Rattle.dp_value.proofs.PairLemmas.{pair_some}
use Rattle.dp_value.proofs.RowLemmas.{first-within, rows-length}

-- ---- the lengths
-- values as data have the length of the keys
pub data_length : (vs : List Value) (ks : List Key) → length vs ≡ length ks → length (map data_of vs) ≡ length ks
data_length vs ks same = length-map vs data_of ∙ same

pub lengths_left : (a : Inside) → IsArray a → length (values_left a) ≡ length (keys_left a)
lengths_left a is = rows-length is.rows

pub same_left : (a : Inside) → IsArray a → length (map data_of (values_left a)) ≡ length (keys_left a)
same_left a is = data_length (values_left a) (keys_left a) (lengths_left a is)

pub kept_length : (a : Inside) → IsArray a → length (keys_left a) ≡ length (table_of a).pairs
kept_length a is = omega (arith, length-zip (keys_left a) (map data_of (values_left a)), same_left a is)

-- ---- the columns that are left
pub keys_seen : (a : Inside) → IsArray a → (t : Table) → table_of a ≡ t → keys_left a ≡ keys_of t.pairs
keys_seen a is t seen =
    sym (firsts-zip (keys_left a) (map data_of (values_left a)) (same_left a is))
    ∙ ap (λ (u : Table). keys_of u.pairs) seen

pub values_seen : (a : Inside) → IsArray a → (t : Table) → table_of a ≡ t
    → map data_of (values_left a) ≡ values_of t.pairs
values_seen a is t seen =
    sym (seconds-zip (keys_left a) (map data_of (values_left a)) (same_left a is))
    ∙ ap (λ (u : Table). values_of u.pairs) seen

-- other columns with the same pairs
pub alike : (a : Inside) → IsArray a → (b : Inside) → AreRows b.start b.gone (is_rising b.kept)
    (kept_keys b.kept) b.values.items → table_of b ≡ table_of a → b.weight ≡ a.weight → IsArray b
alike a is b rows same weight = record {
  rows = rows;
  table = subst (λ (t : Table). IsTable t) (sym same) is.table;
  weight = weight ∙ is.weight ∙ sym (ap (λ (t : Table). pairs_weight t.pairs) same);
}

-- ---- the rows that are left
-- the value in a row of a column
pub row_value : (vs : List Value) (i : ℕ) (v : Value) → i < length vs → v ≡ get_or vs i v
    → slice_get (map data_of vs) i ≡ Some (data_of v)
row_value vs i v within read =
    slice_get-map data_of vs i
    ∙ ap (option_map data_of) (slice_get_read vs (length vs) i v (λ _. length vs) within read)

-- the value of the first key that passes a test
module _ (a : Inside) (is : IsArray a) (test : Key → Bool) (i : ℕ) (first : IsFirst test (keys_left a) i) where
  pub there : i < length (values_left a)
  there = omega (arith, lengths_left a is, first-within test i (keys_left a) first)

  pub read_value : (v : Value) → v ≡ get_or (values_left a) i v
      → slice_get (map data_of (values_left a)) i ≡ Some (data_of v)
  read_value v read = row_value (values_left a) i v there read

-- the pair in a row whose key was read, and its value where that was read too
module _ (a : Inside) (is : IsArray a) (t : Table) (seen : table_of a ≡ t) (i : ℕ) (k : Key)
    (within : i < length t.pairs) (key : k ≡ get_or (keys_left a) i k) where
  key_there : slice_get (keys_of t.pairs) i ≡ Some k
  key_there =
      slice_get_read (keys_of t.pairs) (length (keys_of t.pairs)) i k (λ _. length (keys_of t.pairs))
      (omega (arith, length-map t.pairs (λ p. p.0)))
      (key ∙ ap (λ (ks : List Key). get_or ks i k) (keys_seen a is t seen))

  pub row : (v : Value) → v ≡ get_or (values_left a) i v → slice_get t.pairs i ≡ Some (k, data_of v)
  row v value =
      let there : i < length (values_left a) =
      omega (arith, lengths_left a is, kept_length a is, ap (λ (u : Table). length u.pairs) seen) in
      pair_some t.pairs i k (data_of v) key_there
      (ap (λ (ds : List Data). slice_get ds i) (sym (values_seen a is t seen))
      ∙ row_value (values_left a) i v there value)

  pub row_of_key : slice_get t.pairs i ≡ Some (k, get_or (values_of t.pairs) i null)
  row_of_key =
      pair_some t.pairs i k (get_or (values_of t.pairs) i null) key_there
      (slice_get-get_or (values_of t.pairs) i null (omega (arith, length-map t.pairs (λ p. p.1))))
