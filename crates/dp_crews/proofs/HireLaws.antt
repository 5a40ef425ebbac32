-- How links are shared out.
use Rattle.std.proofs.Common.{◌≡◌, ◌<◌, ◌≤◌, ◌+◌, ◌/◌, ℕ, List, [], ◌∷◌, ◌++◌, length, length-append, div-le_self, append-nil, arith, ap, subst, sym, ◌∙◌}
use Rattle.std.specs.Iterator.{Yields}
use Rattle.std.specs.Vec.Iter.{into_iter_items, into_iter_steps}
use Rattle.std.specs.declared.vec.IntoIter.{IntoIter}
use Rattle.dp_crews.specs.inner.Accounts.{Folds}

pub part_within : (left workers : ℕ) → left / workers ≤ left
part_within left workers = div-le_self left workers

pub part_last : (left workers : ℕ) → workers ≡ 1 → left / workers ≡ left
part_last left workers one =
    let whole : left / 1 ≡ left = omega arith in subst (λ w. left / w ≡ left) (sym one) whole

-- what the iterator of a vector has given is a front of its items
pub taken_front : {X A : Type 0} (s : IntoIter X A) (xs : List X) (t : IntoIter X A) → Yields into_iter_steps s xs t
    → into_iter_items s ≡ xs ++ into_iter_items t
taken_front s [] t y = ap into_iter_items y
taken_front s (x ∷ xs) t y = y.1.0 ∙ ap (λ ys. x ∷ ys) (taken_front y.0 xs t y.2)

-- at its end it has given all
pub taken_all : {X A : Type 0} (s : IntoIter X A) (xs all : List X) (t : IntoIter X A) → Yields into_iter_steps s xs t
    → into_iter_items s ≡ all → into_iter_items t ≡ [] → xs ≡ all
taken_all s xs all t y given ended =
    sym (append-nil xs) ∙ (ap (λ l. xs ++ l) (sym ended) ∙ (sym (taken_front s xs t y) ∙ given))

-- one after another, and no link is left
pub folds_end : {A X : Type 0} (step : A → X → X → Type 0) (some all : List A) (x y z : X) → some ≡ all → y ≡ z
    → Folds step some x y → Folds step all x z
folds_end step some all x y z same ended f =
    subst (λ l. Folds step l x z) same (subst (λ k. Folds step some x k) ended f)

-- before its end it gives the next one
pub whole_at : {X A : Type 0} (s : IntoIter X A) (xs : List X) (t : IntoIter X A) (all : List X) (x : X) (more : List X)
    → Yields into_iter_steps s xs t → into_iter_items s ≡ all → into_iter_items t ≡ x ∷ more → all ≡ xs ++ x ∷ more
whole_at s xs t all x more y given next =
    sym given ∙ (taken_front s xs t y ∙ ap (λ l. xs ++ l) next)

pub some_left : {X A : Type 0} (s : IntoIter X A) (xs : List X) (t : IntoIter X A) (all : List X) (x : X)
    (more : List X)
    → Yields into_iter_steps s xs t → into_iter_items s ≡ all → into_iter_items t ≡ x ∷ more → length xs < length all
some_left s xs t all x more y given next =
    omega (arith, ap (λ l. length l) (whole_at s xs t all x more y given next), length-append xs (x ∷ more))
