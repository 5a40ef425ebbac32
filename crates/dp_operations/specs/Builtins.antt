-- The table of the built-in functions. Each takes exactly its arguments. Source: the PHP manual,
-- "Function Reference".
use Rattle.std.specs.Prelude.{◌≡◌, ◌⊎◌, ℕ, ℤ, pos, negsuc, ◌*◌, Bool, true, false, cond, nat_le, List, [], ◌∷◌, length, map, Option, Some, None, Result, Ok, Err, MatchResult, int_div}
use Rattle.std.specs.Int.{int_rem_euclid}
use Rattle.std.specs.Int.RustNames.{unsigned_abs}
use Rattle.std.specs.Ordering.{int_eq}
use Rattle.dp_value.specs.declared.errors.CallError.{CallError}
use Rattle.dp_value.specs.declared.errors.CallError.TheVariants.{Overflow, DivByZero, Unsupported, TooHeavy, Memory, Arguments}
use Rattle.dp_tree.specs.declared.operators.Builtin.{Builtin}
use Rattle.dp_tree.specs.declared.operators.Builtin.TheVariants.{StrLen, Ord, Count, ArrayKeys, ArrayValues, IntDiv, Chr, SubStr, StrRepeat, Implode, IsInt, IsString, IsBool, IsNull, IsArray}
use Rattle.dp_value.specs.declared.value.Value.{Value}
use Rattle.dp_value.specs.Data.{Data, data_of_key, null, boolean, integer, text, array, pairs_of}
use Rattle.dp_bytes.specs.IntText.{is_in_64_bits}
use Rattle.dp_value.specs.Table.{keys_of, values_of, weight_limit}
use Rattle.dp_value.specs.Value.{data_of}
use Rattle.dp_operations.specs.Lists.{list_of, light_array}
use Rattle.dp_operations.specs.Parts.{part_of, repeated, join_by}
use Rattle.dp_operations.specs.Text.{text_of}

-- r is the value or the refusal that the table has, or out of memory
abbrev pub CallAnswers : Result Value CallError → Result Data CallError → Type 0
CallAnswers r table =
    MatchResult r (λ v. table ≡ Ok (data_of v)) (λ e. (e ≡ Memory) ⊎ (table ≡ Err e))

-- r is the value or the refusal that the table has
abbrev pub CallGives : Result Value CallError → Result Data CallError → Type 0
CallGives r table = MatchResult r (λ v. table ≡ Ok (data_of v)) (λ e. table ≡ Err e)

-- ---- the arguments
abbrev pub single : List Data → Option Data
single [] = None
single (a ∷ []) = Some a
single (a ∷ b ∷ rest) = None

abbrev pub double : List Data → Option (Data × Data)
double [] = None
double (a ∷ []) = None
double (a ∷ b ∷ []) = Some (a, b)
double (a ∷ b ∷ c ∷ rest) = None

-- two arguments and a third that may be left out, as null
abbrev pub triple : List Data → Option (Data × (Data × Data))
triple [] = None
triple (a ∷ []) = None
triple (a ∷ b ∷ []) = Some (a, (b, null))
triple (a ∷ b ∷ c ∷ []) = Some (a, (b, c))
triple (a ∷ b ∷ c ∷ d ∷ rest) = None

abbrev pub on_one : (Data → Result Data CallError) → Option Data → Result Data CallError
on_one f None = Err Arguments
on_one f (Some a) = f a

abbrev pub on_two : (Data → Data → Result Data CallError) → Option (Data × Data)
    → Result Data CallError
on_two f None = Err Arguments
on_two f (Some p) = f p.0 p.1

abbrev pub on_three : (Data → Data → Data → Result Data CallError) → Option (Data × (Data × Data))
    → Result Data CallError
on_three f None = Err Arguments
on_three f (Some p) = f p.0 p.1.0 p.1.1

-- ---- texts
abbrev pub length_of : Data → Result Data CallError
length_of (text bytes) = Ok (integer (pos (length bytes)))
length_of _ = Err Unsupported

abbrev pub first_byte : List ℕ → ℕ
first_byte [] = 0
first_byte (c ∷ cs) = c

abbrev pub first_byte_of : Data → Result Data CallError
first_byte_of (text bytes) = Ok (integer (pos (first_byte bytes)))
first_byte_of _ = Err Unsupported

-- the byte of an integer modulo 256
abbrev pub byte_of : Data → Result Data CallError
byte_of (integer n) = Ok (text (unsigned_abs (int_rem_euclid n (pos 256)) ∷ []))
byte_of _ = Err Unsupported

abbrev pub part : Data → Data → Data → Result Data CallError
part (text bytes) (integer offset) null = Ok (text (part_of bytes offset None))
part (text bytes) (integer offset) (integer count) = Ok (text (part_of bytes offset (Some count)))
part _ _ _ = Err Unsupported

abbrev pub repetition_of : List ℕ → ℤ → Result Data CallError
repetition_of bytes (pos n) =
    cond (nat_le (n * length bytes) weight_limit) (Ok (text (repeated n bytes))) (Err TooHeavy)
repetition_of bytes (negsuc n) = Err Arguments

abbrev pub repetition : Data → Data → Result Data CallError
repetition (text bytes) (integer n) = repetition_of bytes n
repetition _ _ = Err Unsupported

abbrev pub joining_of : List ℕ → Result Data CallError
joining_of bytes = cond (nat_le (length bytes) weight_limit) (Ok (text bytes)) (Err TooHeavy)

abbrev pub joining : Data → Data → Result Data CallError
joining (text glue) (array es largest) =
    joining_of (join_by glue (map text_of (values_of (pairs_of es))))
joining _ _ = Err Unsupported

-- ---- arrays
abbrev pub count_of : Data → Result Data CallError
count_of (array es largest) = Ok (integer (pos (length (pairs_of es))))
count_of _ = Err Unsupported

abbrev pub key_list : Data → Result Data CallError
key_list (array es largest) = light_array (list_of (map data_of_key (keys_of (pairs_of es))))
key_list _ = Err Unsupported

abbrev pub value_list : Data → Result Data CallError
value_list (array es largest) = light_array (list_of (values_of (pairs_of es)))
value_list _ = Err Unsupported

-- ---- integers: the quotient toward zero
abbrev pub quotient_of : ℤ → ℤ → Result Data CallError
quotient_of m n =
    cond (int_eq n (pos 0)) (Err DivByZero) (cond (is_in_64_bits (int_div m n))
    (Ok (integer (int_div m n))) (Err Overflow))

abbrev pub quotient : Data → Data → Result Data CallError
quotient (integer m) (integer n) = quotient_of m n
quotient _ _ = Err Unsupported

-- ---- types
abbrev pub is_int : Data → Bool
is_int (integer n) = true
is_int _ = false

abbrev pub is_string : Data → Bool
is_string (text bytes) = true
is_string _ = false

abbrev pub is_bool : Data → Bool
is_bool (boolean b) = true
is_bool _ = false

abbrev pub is_null : Data → Bool
is_null null = true
is_null _ = false

abbrev pub is_array : Data → Bool
is_array (array es largest) = true
is_array _ = false

abbrev pub tested : (Data → Bool) → Data → Result Data CallError
tested test a = Ok (boolean (test a))

-- ---- the table
abbrev pub builtin_of : Builtin → List Data → Result Data CallError
builtin_of StrLen args = on_one length_of (single args)
builtin_of Ord args = on_one first_byte_of (single args)
builtin_of Count args = on_one count_of (single args)
builtin_of ArrayKeys args = on_one key_list (single args)
builtin_of ArrayValues args = on_one value_list (single args)
builtin_of IntDiv args = on_two quotient (double args)
builtin_of Chr args = on_one byte_of (single args)
builtin_of SubStr args = on_three part (triple args)
builtin_of StrRepeat args = on_two repetition (double args)
builtin_of Implode args = on_two joining (double args)
builtin_of IsInt args = on_one (tested is_int) (single args)
builtin_of IsString args = on_one (tested is_string) (single args)
builtin_of IsBool args = on_one (tested is_bool) (single args)
builtin_of IsNull args = on_one (tested is_null) (single args)
builtin_of IsArray args = on_one (tested is_array) (single args)
