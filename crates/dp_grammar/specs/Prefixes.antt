-- How parts are taken from the front: a part is its value and what stands behind it, or none.
use Rattle.std.specs.Prelude.{ℕ, zero, suc, Bool, List, [], ◌∷◌, take, drop, Option, Some, None}
use Rattle.std.specs.List.{prefix_len}

infixl 10 ◌>>=◌
abbrev pub ◌>>=◌ : {A B : Type 0} → Option A → (A → Option B) → Option B
(Some x) >>= f = f x
None >>= f = None

-- the run of symbols of a sort at the front, and what stands behind it
abbrev pub run_at : {T : Type 0} → (T → Bool) → List T → List T × List T
run_at sort text = (take (prefix_len sort text) text, drop (prefix_len sort text) text)

-- items one after the other, as long as there is one; their count has a bound
abbrev pub onward : {T A : Type 0} → Option A → List T → (List T → Option (List A × List T))
    → Option (List A × List T)
onward None rest next = Some ([], rest)
onward (Some item) rest next = next rest >>= λ more. Some (item ∷ more.0, more.1)

unfoldable pub items_at : {T A : Type 0} → (List T → Option (Option A × List T)) → ℕ → List T
    → Option (List A × List T)
items_at step zero text = Some ([], text)
items_at step (suc n) text = step text >>= λ found. onward found.0 found.1 (items_at step n)
