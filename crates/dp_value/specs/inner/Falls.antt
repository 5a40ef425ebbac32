-- Each array in an array nests less deep than it.
use Rattle.std.specs.Prelude.{◌≡◌, ℕ, ◌≤◌, ◌+◌, zero, suc, max, List, [], ◌∷◌, length}
use Rattle.std.proofs.Common.{ap, arith}
use denote.Param.Weighed.{most}
use Rattle.dp_value.specs.declared.key.Key.{Key}
use Rattle.dp_value.specs.declared.value.Value.{Value}
use Rattle.dp_value.specs.declared.value.Value.TheVariants.{Null, Bool, Int, Text, Array}
use Rattle.dp_value.specs.declared.value.Columns.TheDeep.{deep-Value}
use Rattle.dp_value.specs.Data.{Data, depth, entries_depth, entries_of}
use Rattle.dp_value.specs.Value.{data_of, pairs_in}
use Rattle.dp_value.specs.inner.Rows.{left_in, AreNull}

deep_le : (v : Value) → deep-Value v ≤ suc (suc (depth (data_of v) + depth (data_of v)))
deep_le Null = omega arith
deep_le (Bool b) = omega arith
deep_le (Int n) = omega arith
deep_le (Text bytes) = omega arith
deep_le (Array t) = omega arith

-- a bound for the values of an array with these pairs
abbrev pub most_of : List (Key × Data) → ℕ
most_of ps = suc (entries_depth (entries_of ps)) + suc (entries_depth (entries_of ps))

pub all_le_depth : (ks : List Key) (vs : List Value) → length vs ≡ length ks
    → max (most deep-Value vs) 0 ≤ most_of (pairs_in ks vs)
all_le_depth ks [] same = omega arith
all_le_depth [] (v ∷ vs) same = omega arith
all_le_depth (k ∷ ks) (v ∷ vs) same =
    let rest : max (most deep-Value vs) 0 ≤ most_of (pairs_in ks vs) =
    all_le_depth ks vs (omega arith) in
    omega (arith, deep_le v)

null_behind : (s t g h : ℕ) (v : Value) (vs : List Value) → AreNull t h (v ∷ vs) → t ≤ suc s
    → suc (s + g) ≡ t + h → AreNull s g vs
null_behind s t g h v vs nulls from to = record {
  within = omega arith;
  null = λ row after before. nulls.null (suc row) (omega arith) (omega arith);
}

-- a row that is removed nests least of all
pub most_le_depth : (start gone : ℕ) (ks : List Key) (vs : List Value) → length vs ≡ length ks
    → AreNull start gone vs → max (most deep-Value vs) 0 ≤ most_of (left_in start gone ks vs)
most_le_depth zero zero ks vs same nulls = all_le_depth ks vs same
most_le_depth start gone ks [] same nulls = omega arith
most_le_depth start gone [] (v ∷ vs) same nulls = omega arith
most_le_depth zero (suc n) (k ∷ ks) (v ∷ vs) same nulls =
    let rest : max (most deep-Value vs) 0 ≤ most_of (left_in zero n ks vs) =
    most_le_depth zero n ks vs (omega arith)
    (null_behind zero zero n (suc n) v vs nulls (omega arith) (omega arith)) in
    let none : deep-Value v ≡ deep-Value Null =
    ap deep-Value (nulls.null zero (omega arith) (omega arith)) in
    omega (arith, deep_le Null, none)
most_le_depth (suc n) gone (k ∷ ks) (v ∷ vs) same nulls =
    let rest : max (most deep-Value vs) 0 ≤ most_of (left_in n gone ks vs) =
    most_le_depth n gone ks vs (omega arith)
    (null_behind n (suc n) gone gone v vs nulls (omega arith) (omega arith)) in
    omega (arith, deep_le v)
