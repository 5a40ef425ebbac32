-- Names of machines and keys of IDEs.
use Rattle.std.specs.Prelude.{ℕ, ◌≤◌, nat_le, Bool, ◌&&◌, List, length, All}
use Rattle.std.specs.List.{list_all}

-- printable ASCII and no blank
abbrev pub IsGraphic : ℕ → Type 0
IsGraphic byte = (0x21 ≤ byte) × (byte ≤ 0x7e)

-- 1 to so many bytes, each printable ASCII and no blank
pub record IsName (most : ℕ) (bytes : List ℕ) : Type 0 where
  pub some : 1 ≤ length bytes
  pub short : length bytes ≤ most
  pub graphic : All IsGraphic bytes

-- the same, as a test
abbrev pub is_name : ℕ → List ℕ → Bool
is_name most bytes =
    nat_le 1 (length bytes) && nat_le (length bytes) most
    && list_all (λ b. nat_le 0x21 b && nat_le b 0x7e) bytes

-- the most bytes of the name of a machine
abbrev pub host_limit : ℕ
host_limit = 64

-- the name of a machine
abbrev pub IsHost : List ℕ → Type 0
IsHost host = IsName host_limit host

-- the most bytes of the key of an IDE
abbrev pub key_limit : ℕ
key_limit = 128

-- the key of an IDE
abbrev pub IsKey : List ℕ → Type 0
IsKey key = IsName key_limit key
