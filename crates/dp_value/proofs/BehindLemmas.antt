-- An array behind whose pointer nothing stands.
use Rattle.std.proofs.Common.{◌≡◌, ◌==◌, Bool, List, [], ◌∷◌, length, None, refl, ap, ◌∙◌, subst, arith}
use Rattle.dp_value.specs.declared.key.Key.{Key}
use Rattle.dp_value.specs.declared.value.PhpArray.TheInside.{Inside}
use Rattle.dp_value.specs.inner.Behind.{table_behind}
use Rattle.dp_value.specs.Comparison.{identical_entries}
use Rattle.dp_value.specs.Data.{Data, Table, entries_of}
use Rattle.dp_value.specs.Table.{empty, IsTable}
use Rattle.dp_value.proofs.TableLemmas.{IsTable-empty}

nothing_is_empty : (a : Inside) (t : Table) → a.columns ≡ None → table_behind a ≡ t → empty ≡ t
nothing_is_empty a t none seen = rw none at seen

pub table_of_nothing : (a : Inside) (t : Table) → a.columns ≡ None → table_behind a ≡ t → IsTable t
table_of_nothing a t none seen = subst (λ (u : Table). IsTable u) (nothing_is_empty a t none seen) IsTable-empty

-- ---- a comparison with it
left_empty : (ps : List (Key × Data)) → (length ps == 0) ≡ identical_entries (entries_of []) (entries_of ps)
left_empty [] = refl
left_empty (p ∷ ps) = grind arith

right_empty : (ps : List (Key × Data)) → (length ps == 0) ≡ identical_entries (entries_of ps) (entries_of [])
right_empty [] = refl
right_empty (p ∷ ps) = grind arith

pub nothing_beside : (a : Inside) (t u : Table) (r : Bool) → r ≡ (length u.pairs == 0) → a.columns ≡ None →
    table_behind a ≡ t → r ≡ identical_entries (entries_of t.pairs) (entries_of u.pairs)
nothing_beside a t u r says none seen =
    says
    ∙ left_empty u.pairs
    ∙ ap (λ (x : Table). identical_entries (entries_of x.pairs) (entries_of u.pairs)) (nothing_is_empty a t none seen)

pub beside_nothing : (a : Inside) (t u : Table) (r : Bool) → r ≡ (length t.pairs == 0) → a.columns ≡ None →
    table_behind a ≡ u → r ≡ identical_entries (entries_of t.pairs) (entries_of u.pairs)
beside_nothing a t u r says none seen =
    says
    ∙ right_empty t.pairs
    ∙ ap (λ (x : Table). identical_entries (entries_of t.pairs) (entries_of x.pairs)) (nothing_is_empty a u none seen)
