-- The tag at the head of a file.
use Rattle.std.proofs.Common.{◌≡◌, ◌⊎◌, inl, inr, ℕ, ◌<◌, ◌≤◌, true, List, [], ◌∷◌, length, take, drop, get_or, drop-cons, sym, refl, ap, ◌∙◌, arith, length-append}
use Rattle.std.specs.Prelude.{codes}
use Rattle.std.specs.Str.{str_to_ascii_lowercase}
use Rattle.std.proofs.Math.Seq.{take-append_seam, drop-append_seam}
use Rattle.dp_lexer.specs.Bytes.{is_space, begins}
use Rattle.dp_lexer.specs.Tokens.{HasTag}

pub length_lowered : (xs : List ℕ) → length (str_to_ascii_lowercase xs) ≡ length xs
length_lowered [] = refl
length_lowered (x ∷ xs) = let e = length_lowered xs in omega (arith, e)

pub record TagShape (bytes rest : List ℕ) : Type 0 where
  pub long : 5 ≤ length bytes
  pub rest_is : rest ≡ drop 5 bytes
  pub spelled : str_to_ascii_lowercase (take 5 bytes) ≡ codes "<?php"

pub tag_shape : (bytes rest : List ℕ) → HasTag bytes rest → TagShape bytes rest
tag_shape bytes rest h =
    let size : length h.tag ≡ 5 = sym (length_lowered h.tag) ∙ ap length h.spelled in
    record {
      long = omega (arith, size, ap length h.whole, length-append h.tag rest);
      rest_is = sym (drop-append_seam h.tag rest) ∙ (λ i. drop (size i) (h.whole i));
      spelled =
          ap str_to_ascii_lowercase (sym (λ i. take (size i) (h.whole i)) ∙ take-append_seam h.tag rest) ∙ h.spelled;
    }

-- what stands behind the tag, where something does
pub space_behind : (bytes rest : List ℕ) → HasTag bytes rest → 5 < length bytes → is_space (get_or bytes 5 0) ≡ true
space_behind bytes rest h long = go h.apart
  where
    shape : TagShape bytes rest
    shape = tag_shape bytes rest h

    more : drop 5 bytes ≡ get_or bytes 5 0 ∷ drop 6 bytes
    more = drop-cons bytes 5 0 long

    clash : (x : ℕ) (t : List ℕ) → [] ≡ x ∷ t → ⊥
    clash x t e = cc

    go : (rest ≡ []) ⊎ (begins is_space rest ≡ true) → is_space (get_or bytes 5 0) ≡ true
    go (inl e) = absurd (clash _ _ (sym e ∙ shape.rest_is ∙ more))
    go (inr e) = sym (ap (begins is_space) (shape.rest_is ∙ more)) ∙ e
