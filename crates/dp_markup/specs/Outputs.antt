-- Where a text is put: into memory, or into a count of bytes that ends at 0.
use Rattle.std.specs.Prelude.{ℕ, ◌-◌, ◌++◌, List, length, Option, option_map}

-- the text that was put, where it is kept, and how many bytes are left of a count
pub record Written : Type 0 where
  pub text : Option (List ℕ)
  pub left : ℕ

-- with these bytes behind it
abbrev pub behind : Written → List ℕ → Written
behind old bytes = record {
  text = option_map (λ text. text ++ bytes) old.text;
  left = old.left - length bytes;
}
