-- The functions that are there without a declaration, by their names.
use Rattle.std.specs.Prelude.{ℕ, List, [], ◌∷◌, Option, Some, None, if◌then◌else◌, codes}
use Rattle.std.specs.Str.{str_eq_ignore_ascii_case}
use Rattle.dp_tree.specs.declared.operators.Builtin.TheVariants as builtin
use Rattle.dp_tree.specs.declared.operators.Native.{Native}
use Rattle.dp_tree.specs.declared.operators.Native.TheVariants.{Table, Define, Defined}

abbrev pub builtins : List (List ℕ × Native)
builtins =
    (codes "strlen", Table builtin.StrLen) ∷ (codes "ord", Table builtin.Ord)
    ∷ (codes "count", Table builtin.Count) ∷ (codes "array_keys", Table builtin.ArrayKeys)
    ∷ (codes "array_values", Table builtin.ArrayValues) ∷ (codes "intdiv", Table builtin.IntDiv)
    ∷ (codes "chr", Table builtin.Chr) ∷ (codes "substr", Table builtin.SubStr)
    ∷ (codes "str_repeat", Table builtin.StrRepeat) ∷ (codes "implode", Table builtin.Implode)
    ∷ (codes "is_int", Table builtin.IsInt) ∷ (codes "is_string", Table builtin.IsString)
    ∷ (codes "is_bool", Table builtin.IsBool) ∷ (codes "is_null", Table builtin.IsNull)
    ∷ (codes "is_array", Table builtin.IsArray) ∷ (codes "define", Define)
    ∷ (codes "defined", Defined) ∷ []

-- the first that has the name, in any case of letters
abbrev pub look_up : List ℕ → List (List ℕ × Native) → Option Native
look_up name [] = None
look_up name (b ∷ bs) = if str_eq_ignore_ascii_case name b.0 then Some b.1 else look_up name bs

abbrev pub builtin_of : List ℕ → Option Native
builtin_of name = look_up name builtins
