-- The reader of elements, by the number of levels.
use Rattle.std.proofs.Common.{◌≡◌, ℕ, suc, ◌-◌, ◌<◌, List, ap, arith}
use Rattle.dp_markup.specs.inner.Readers.{opened, element_in, no_level}

pub opened_none : (level : ℕ) (ts : List ℕ) → level ≡ 0 → opened level ts ≡ no_level ts
unfolding opened
opened_none level ts is = ap (λ n. opened n ts) is

pub opened_some : (level : ℕ) (ts : List ℕ) → 0 < level → opened level ts ≡ element_in (opened (level - 1)) ts
unfolding opened
opened_some level ts some = let e : level ≡ suc (level - 1) = omega arith in ap (λ n. opened n ts) e
