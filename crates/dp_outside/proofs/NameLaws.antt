-- The test of a name is what a name is.
use Rattle.std.proofs.Common.{◌≡◌, ◌↔◌, ℕ, Bool, true, ◌&&◌, nat_le, IsTrue, List, [], ◌∷◌, length, All, refl, sym, ◌∙◌}
use Rattle.std.proofs.lemmas.Bool.{and_parts, and_from, leb-true, le-leb}
use Rattle.std.proofs.lemmas.List.Elements.{All-cons, All-head, All-tail, All-nil}
use Rattle.std.specs.List.{list_all}
use Rattle.dp_outside.specs.Names.{IsGraphic, IsName, is_name}

graphic_is : (bytes : List ℕ) → list_all (λ b. nat_le 0x21 b && nat_le b 0x7e) bytes ≡ true → All IsGraphic bytes
graphic_is [] h = All-nil IsGraphic
graphic_is (b ∷ bytes) h =
    let parts = and_parts (nat_le 0x21 b && nat_le b 0x7e) _ h in
    let both = and_parts (nat_le 0x21 b) (nat_le b 0x7e) parts.0 in
    All-cons IsGraphic b bytes (leb-true _ _ both.0, leb-true _ _ both.1) (graphic_is bytes parts.1)

graphic_again : (bytes : List ℕ) → All IsGraphic bytes → list_all (λ b. nat_le 0x21 b && nat_le b 0x7e) bytes ≡ true
graphic_again [] h = refl
graphic_again (b ∷ bytes) h =
    let first = All-head IsGraphic b bytes h in
    and_from (nat_le 0x21 b
    && nat_le b 0x7e) _ (and_from (nat_le 0x21 b) (nat_le b 0x7e) (le-leb _ _ first.0) (le-leb _ _ first.1))
    (graphic_again bytes (All-tail IsGraphic b bytes h))

pub name_is : (most : ℕ) (bytes : List ℕ) → is_name most bytes ≡ true → IsName most bytes
name_is most bytes h =
    let parts = and_parts (nat_le 1 (length bytes) && nat_le (length bytes) most) _ h in
    let both = and_parts (nat_le 1 (length bytes)) (nat_le (length bytes) most) parts.0 in
    record { some = leb-true _ _ both.0; short = leb-true _ _ both.1; graphic = graphic_is bytes parts.1 }

pub name_again : (most : ℕ) (bytes : List ℕ) → IsName most bytes → is_name most bytes ≡ true
name_again most bytes n =
    and_from (nat_le 1 (length bytes) && nat_le (length bytes) most) _
    (and_from (nat_le 1 (length bytes)) (nat_le (length bytes) most) (le-leb _ _ n.some) (le-leb _ _ n.short))
    (graphic_again bytes n.graphic)

pub name_by : (most : ℕ) (bytes : List ℕ) (b : Bool) → b ≡ is_name most bytes → IsTrue b ↔ IsName most bytes
name_by most bytes b is = ((λ t. name_is most bytes (sym is ∙ t)), (λ n. is ∙ name_again most bytes n))
