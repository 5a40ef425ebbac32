-- A fact of each element of a list.
use Rattle.std.proofs.Common.{◌≡◌, ℕ, zero, suc, List, [], ◌∷◌, ◌++◌, map, Some, subst}
use Rattle.std.specs.List.{flat_map}
use Rattle.std.specs.Prelude.{slice_get}

abbrev pub Each : {X : Type 0} → (X → Type 0) → List X → Type 0
Each Q [] = Unit {0}
Each Q (x ∷ xs) = Q x × Each Q xs

-- elements with proofs of what is true of their images
pub each-images : {X Y : Type 0} (f : X → Y) (Q : Y → Type 0) (xs : List ((x : X) × Q (f x)))
    → Each Q (map f (map (λ e. e.0) xs))
each-images f Q [] = tt
each-images f Q (x ∷ xs) = (x.1, each-images f Q xs)

pub each-all : {X : Type 0} (Q : X → Type 0) → ((x : X) → Q x) → (xs : List X) → Each Q xs
each-all Q all [] = tt
each-all Q all (x ∷ xs) = (all x, each-all Q all xs)

pub each-left : {X : Type 0} (Q : X → Type 0) (xs ys : List X) → Each Q (xs ++ ys) → Each Q xs
each-left Q [] ys h = tt
each-left Q (x ∷ xs) ys h = (h.0, each-left Q xs ys h.1)

pub each-right : {X : Type 0} (Q : X → Type 0) (xs ys : List X) → Each Q (xs ++ ys) → Each Q ys
each-right Q [] ys h = h
each-right Q (x ∷ xs) ys h = each-right Q xs ys h.1

pub each-at : {X Y : Type 0} (Q : Y → Type 0) (f : X → List Y) (xs : List X) (k : ℕ) (x : X) → slice_get xs k ≡ Some x
    → Each Q (flat_map f xs)
    → Each Q (f x)
each-at Q f [] k x e h = absurd (cc)
each-at Q f (y ∷ ys) zero x e h =
    let same : y ≡ x = cc in subst (λ x. Each Q (f x)) same (each-left Q (f y) (flat_map f ys) h)
each-at Q f (y ∷ ys) (suc k) x e h = each-at Q f ys k x e (each-right Q (f y) (flat_map f ys) h)
