-- Columns of which some rows are removed already: what is left, which row stands where, and how both change.
use Rattle.std.proofs.Common.{◌≡◌, ℕ, zero, suc, ◌+◌, ◌-◌, ◌≤◌, ◌<◌, List, [], ◌∷◌, ◌++◌, length, set, take, drop, get_or, remove, Option, Some, None, IfSome, slice_get, refl, ap, sym, ◌∙◌, arith, length-drop}
use Rattle.std.proofs.Math.Seq.{take-append_seam}
use Rattle.std.proofs.lemmas.List.{get_or-drop, drop-set-add, drop-append-le, length-set, length_push, set-append_left}
use Rattle.std.proofs.lemmas.Option.{slice_get-get_or}
use Rattle.std.proofs.lemmas.List.Edits.{swap_is}
use Rattle.std.specs.List.{remove_range, slice_index_or, swap, swap_remove}
use Rattle.dp_value.specs.inner.Left.{left, row_at}

-- ---- the rows that are left
pub length-left : {X : Type 0} (s g : ℕ) (xs : List X) → s + g ≤ length xs → length (left s g xs) + g ≡ length xs
length-left zero g xs within = omega (arith, length-drop g xs)
length-left (suc s) g [] within = absurd (omega arith)
length-left (suc s) g (x ∷ xs) within = omega (arith, length-left s g xs (omega arith))

pub row-before : (s g i : ℕ) → i < s → row_at s g i ≡ i
row-before zero g i below = absurd (omega arith)
row-before (suc s) g zero below = refl
row-before (suc s) g (suc i) below = ap suc (row-before s g i (omega arith))

pub row-behind : (s g i : ℕ) → s ≤ i → row_at s g i ≡ g + i
row-behind zero g i past = refl
row-behind (suc s) g zero past = absurd (omega arith)
row-behind (suc s) g (suc i) past = omega (arith, row-behind s g i (omega arith))

pub row-most : (s g i : ℕ) → row_at s g i ≤ g + i
row-most zero g i = omega arith
row-most (suc s) g zero = omega arith
row-most (suc s) g (suc i) = omega (arith, row-most s g i)

pub row-within : {X : Type 0} (s g i : ℕ) (xs : List X) → s + g ≤ length xs → i < length (left s g xs)
    → row_at s g i < length xs
row-within s g i xs within there = omega (arith, length-left s g xs within, row-most s g i)

pub left-read : {X : Type 0} (s g i : ℕ) (xs : List X) (d : X) → get_or (left s g xs) i d ≡ get_or xs (row_at s g i) d
left-read zero g i xs d = get_or-drop g xs i d
left-read (suc s) g zero [] d = refl
left-read (suc s) g (suc i) [] d = refl
left-read (suc s) g zero (x ∷ xs) d = refl
left-read (suc s) g (suc i) (x ∷ xs) d = left-read s g i xs d

pub left-set : {X : Type 0} (s g i : ℕ) (xs : List X) (x : X)
    → left s g (set xs (row_at s g i) x) ≡ set (left s g xs) i x
left-set zero g i xs x = drop-set-add g xs i x
left-set (suc s) g zero [] x = refl
left-set (suc s) g (suc i) [] x = refl
left-set (suc s) g zero (y ∷ xs) x = refl
left-set (suc s) g (suc i) (y ∷ xs) x = ap (λ ys. y ∷ ys) (left-set s g i xs x)

pub left-push : {X : Type 0} (s g : ℕ) (xs ys : List X) → s + g ≤ length xs → left s g (xs ++ ys) ≡ left s g xs ++ ys
left-push zero g xs ys within = drop-append-le g xs ys (omega arith)
left-push (suc s) g [] ys within = absurd (omega arith)
left-push (suc s) g (x ∷ xs) ys within = ap (λ zs. x ∷ zs) (left-push s g xs ys (omega arith))

-- nothing is removed yet
pub left-none : {X : Type 0} (s : ℕ) (xs : List X) → left s 0 xs ≡ xs
left-none zero xs = refl
left-none (suc s) [] = refl
left-none (suc s) (x ∷ xs) = ap (λ ys. x ∷ ys) (left-none s xs)

-- the rows that are removed are cleared
pub left-range : {X : Type 0} (s g : ℕ) (xs : List X) → left s g xs ≡ remove_range xs s (s + g)
left-range zero g xs = let e : 0 + g ≡ g = omega arith in rw e refl
left-range (suc s) g [] = let e : suc s + g ≡ suc (s + g) = omega arith in rw e refl
left-range (suc s) g (x ∷ xs) =
    let e : suc s + g ≡ suc (s + g) = omega arith in rw e (ap (λ ys. x ∷ ys) (left-range s g xs))

-- ---- a row that is taken out
pub remove-nil : {X : Type 0} (n : ℕ) → remove {X = X} [] n ≡ []
remove-nil zero = refl
remove-nil (suc n) = refl

drop-remove : {X : Type 0} (g i : ℕ) (xs : List X) → drop g (remove xs (g + i)) ≡ remove (drop g xs) i
drop-remove zero i xs = let e : 0 + i ≡ i = omega arith in rw e refl
drop-remove (suc g) i [] = ap (drop (suc g)) (remove-nil (suc g + i)) ∙ sym (remove-nil i)
drop-remove (suc g) i (x ∷ xs) = let e : suc g + i ≡ suc (g + i) = omega arith in rw e (drop-remove g i xs)

drop-next : {X : Type 0} (g : ℕ) (xs : List X) → drop (suc g) xs ≡ remove (drop g xs) 0
drop-next zero [] = refl
drop-next zero (x ∷ xs) = refl
drop-next (suc g) [] = refl
drop-next (suc g) (x ∷ xs) = drop-next g xs

-- a row behind those that are removed closes up
pub left-remove : {X : Type 0} (s g i : ℕ) (xs : List X) → s ≤ i → left s g (remove xs (g + i)) ≡ remove (left s g xs) i
left-remove zero g i xs past = drop-remove g i xs
left-remove (suc s) g zero xs past = absurd (omega arith)
left-remove (suc s) g (suc i) [] past = ap (left (suc s) g) (remove-nil (g + suc i)) ∙ sym (remove-nil (suc i))
left-remove (suc s) g (suc i) (x ∷ xs) past =
    let e : g + suc i ≡ suc (g + i) = omega arith in rw e (ap (λ ys. x ∷ ys) (left-remove s g i xs (omega arith)))

-- the first row behind those that are removed becomes one of them
pub left-next : {X : Type 0} (s g : ℕ) (xs : List X) → left s (suc g) xs ≡ remove (left s g xs) s
left-next zero g xs = drop-next g xs
left-next (suc s) g [] = sym (remove-nil (suc s))
left-next (suc s) g (x ∷ xs) = ap (λ ys. x ∷ ys) (left-next s g xs)

-- whatever stands in a row that is removed
drop-past : {X : Type 0} (g r : ℕ) (xs : List X) (x : X) → r < g → drop g (set xs r x) ≡ drop g xs
drop-past zero r xs x below = absurd (omega arith)
drop-past (suc g) zero [] x below = refl
drop-past (suc g) (suc r) [] x below = refl
drop-past (suc g) zero (y ∷ xs) x below = refl
drop-past (suc g) (suc r) (y ∷ xs) x below = drop-past g r xs x (omega arith)

pub left-past : {X : Type 0} (s g r : ℕ) (xs : List X) (x : X) → s ≤ r → r < s + g
    → left s g (set xs r x) ≡ left s g xs
left-past zero g r xs x from below = drop-past g r xs x (omega arith)
left-past (suc s) g zero xs x from below = absurd (omega arith)
left-past (suc s) g (suc r) [] x from below = refl
left-past (suc s) g (suc r) (y ∷ xs) x from below =
    ap (λ ys. y ∷ ys) (left-past s g r xs x (omega arith) (omega arith))

-- ---- the first row behind those that are removed moves before them
drop-read : {X : Type 0} (g : ℕ) (xs : List X) (v d : X) → g < length xs → v ≡ get_or xs g d
    → drop g xs ≡ v ∷ drop (suc g) xs
drop-read zero [] v d within at = absurd (omega arith)
drop-read zero (x ∷ xs) v d within at = ap (λ y. y ∷ xs) (sym at)
drop-read (suc g) [] v d within at = absurd (omega arith)
drop-read (suc g) (x ∷ xs) v d within at = drop-read g xs v d (omega arith) at

left-moved : {X : Type 0} (s g : ℕ) (xs : List X) (v w d : X) → s + suc g < length xs → v ≡ get_or xs (s + suc g) d
    → left (suc s) (suc g) (set (set xs s v) (s + suc g) w) ≡ left s (suc g) xs
left-moved zero g [] v w d within at = absurd (omega arith)
left-moved zero g (x ∷ xs) v w d within at =
    let e : 0 + suc g ≡ suc g = omega arith in
    let read : v ≡ get_or (x ∷ xs) (suc g) d = rw e at at in
    rw e (ap (λ ys. v ∷ ys) (drop-past (suc g) g xs w (omega arith)) ∙ sym (drop-read g xs v d (omega arith) read))
left-moved (suc s) g [] v w d within at = absurd (omega arith)
left-moved (suc s) g (x ∷ xs) v w d within at =
    let e : suc s + suc g ≡ suc (s + suc g) = omega arith in
    let read : v ≡ get_or (x ∷ xs) (suc (s + suc g)) d = rw e at at in
    rw e (ap (λ ys. x ∷ ys) (left-moved s g xs v w d (omega arith) read))

pub left-swap : {X : Type 0} (s g : ℕ) (xs : List X) → 0 < g → s + g < length xs
    → left (suc s) g (swap xs s (s + g)) ≡ left s g xs
left-swap s zero xs some within = absurd (omega arith)
left-swap s (suc g) [] some within = absurd (omega arith)
left-swap s (suc g) (x ∷ xs) some within =
    ap (left (suc s) (suc g)) (sym (swap_is (x ∷ xs) s (s + suc g) x (omega arith) within))
    ∙ left-moved s g (x ∷ xs) (get_or (x ∷ xs) (s + suc g) x) (get_or (x ∷ xs) s x) x within refl

-- the last row before them moves behind them
drop-at : {X : Type 0} (g : ℕ) (xs : List X) (w : X) → g < length xs → drop g (set xs g w) ≡ w ∷ drop (suc g) xs
drop-at zero [] w within = absurd (omega arith)
drop-at zero (x ∷ xs) w within = refl
drop-at (suc g) [] w within = absurd (omega arith)
drop-at (suc g) (x ∷ xs) w within = drop-at g xs w (omega arith)

left-back : {X : Type 0} (s g : ℕ) (xs : List X) (v w d : X) → s + suc g < length xs → w ≡ get_or xs s d
    → left s (suc g) (set (set xs s v) (s + suc g) w) ≡ left (suc s) (suc g) xs
left-back zero g [] v w d within at = absurd (omega arith)
left-back zero g (x ∷ xs) v w d within at =
    let e : 0 + suc g ≡ suc g = omega arith in
    rw e (drop-at g xs w (omega arith) ∙ ap (λ y. y ∷ drop (suc g) xs) at)
left-back (suc s) g [] v w d within at = absurd (omega arith)
left-back (suc s) g (x ∷ xs) v w d within at =
    let e : suc s + suc g ≡ suc (s + suc g) = omega arith in
    rw e (ap (λ ys. x ∷ ys) (left-back s g xs v w d (omega arith) at))

pub left-swap_back : {X : Type 0} (s g : ℕ) (xs : List X) → 0 < g → s + g < length xs
    → left s g (swap xs s (s + g)) ≡ left (suc s) g xs
left-swap_back s zero xs some within = absurd (omega arith)
left-swap_back s (suc g) [] some within = absurd (omega arith)
left-swap_back s (suc g) (x ∷ xs) some within =
    ap (left s (suc g)) (sym (swap_is (x ∷ xs) s (s + suc g) x (omega arith) within))
    ∙ left-back s g (x ∷ xs) (get_or (x ∷ xs) (s + suc g) x) (get_or (x ∷ xs) s x) x within refl

-- another one takes the place of one that is removed
pub left-freed : {X : Type 0} (s g r : ℕ) (xs ys : List X) (x : X) (o : Option X) → s ≤ r → r < s + g
    → s + g ≤ length xs → o ≡ slice_get (xs ++ x ∷ []) r → IfSome o (λ k. ys ≡ swap_remove (xs ++ x ∷ []) r k)
    → (left s g ys ≡ left s g xs) × (length ys ≡ length xs)
left-freed s g r xs ys x None from below within read is =
    absurd (cc (read ∙ slice_get-get_or (xs ++ x ∷ []) r x (omega (arith, length_push xs x))))
left-freed s g r xs ys x (Some k) from below within read is =
    let v = slice_index_or (xs ++ x ∷ []) (length (xs ++ x ∷ []) - 1) k in
    let long : length (xs ++ x ∷ []) - 1 ≡ length (set xs r v) = omega (arith, length_push xs x, length-set xs r v) in
    let same : ys ≡ set xs r v =
    is
    ∙ ap (λ (zs : List _). take (length (xs ++ x ∷ []) - 1) zs) (set-append_left xs (x ∷ []) r v (omega arith))
    ∙ ap (λ (n : ℕ). take n (set xs r v ++ x ∷ [])) long
    ∙ take-append_seam (set xs r v) (x ∷ []) in
    (ap (left s g) same ∙ left-past s g r xs v from below, ap length same ∙ length-set xs r v)
