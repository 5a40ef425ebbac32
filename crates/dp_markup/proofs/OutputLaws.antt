-- What is put in steps.
use Rattle.std.proofs.Common.{◌≡◌, ℕ, ◌-◌, ◌++◌, List, [], length, Option, Some, None, refl, ap, append-nil, append_assoc, length-append, arith}
use Rattle.std.specs.Prelude.{option_map}
use Rattle.dp_markup.specs.Outputs.{Written, behind}

pub behind_both : (w : Written) (a b : List ℕ) → behind (behind w a) b ≡ behind w (a ++ b)
behind_both w a b =
    let same : w.left - length a - length b ≡ w.left - length (a ++ b) = omega (arith, length-append a b) in
    λ i. record { text = texts w.text i; left = same i }
  where
    texts : (o : Option (List ℕ))
        → option_map (λ text. text ++ b) (option_map (λ text. text ++ a) o) ≡ option_map (λ text. text ++ (a ++ b)) o
    texts None = refl
    texts (Some text) = ap (λ (l : List ℕ). Some l) (append_assoc text a b)

pub behind_nothing : (w : Written) → behind w [] ≡ w
behind_nothing w =
    let same : w.left - 0 ≡ w.left = omega arith in
    λ i. record { text = texts w.text i; left = same i }
  where
    texts : (o : Option (List ℕ)) → option_map (λ text. text ++ []) o ≡ o
    texts None = refl
    texts (Some text) = ap (λ (l : List ℕ). Some l) (append-nil text)

-- how many bytes are left of so many
pub left_is : (n m : ℕ) (bytes : List ℕ)
    → ◌≡◌ {A = Written} (record { text = None; left = n }) (behind (record { text = None; left = m }) bytes)
    → n ≡ m - length bytes
left_is n m bytes is = ap (λ (w : Written). w.left) is
