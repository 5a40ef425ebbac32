-- What holds of each, at the first and at the others.
use Rattle.std.proofs.Common.{◌≡◌, List, ◌∷◌, ◌++◌, Option, Some, None, IfSome, All, sym}
use Rattle.std.specs.Option.{option_to_list}
use Rattle.std.proofs.lemmas.List.Elements.{All-head, All-rest, All-same}

-- a list that is known to begin so
pub begins_all : {A : Type 0} (P : A → Type 0) (xs ys : List A) (x : A) → xs ≡ x ∷ ys → All P xs → P x × All P ys
begins_all P xs ys x same all = (All-head P x ys (All-same P (x ∷ ys) xs (sym same) all), All-rest P x ys xs same all)

-- the same of the next of a list, if there is one
pub next_all : {A : Type 0} (P : A → Type 0) (xs ys : List A) (next : Option A) → xs ≡ option_to_list next ++ ys
    → All P xs → IfSome next P × All P ys
next_all P xs ys None same all = (tt, All-same P ys xs (sym same) all)
next_all P xs ys (Some x) same all = begins_all P xs ys x same all
