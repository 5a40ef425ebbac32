-- How many line feeds a file may have.
use Rattle.std.proofs.Common.{◌≡◌, ℕ, ◌+◌, ◌≤◌, ◌==◌, if◌then◌else◌, Bool, true, false, List, [], ◌∷◌, length, codes, refl, sym, ap, ◌∙◌, length-append, eqb-true, arith}
use Rattle.std.specs.Char.{to_ascii_lowercase}
use Rattle.std.specs.Str.{str_to_ascii_lowercase}
use Rattle.dp_lexer.specs.declared.token.Token.{Token}
use Rattle.dp_lexer.specs.Tokens.{feeds, AreFileTokens}
use Rattle.dp_lexer.proofs.Chains.{feeds_over, feeds_within}
use Rattle.dp_lexer.proofs.Tags.{length_lowered}

-- the tag has five bytes, and its first is no line feed
tag_feeds : (tag : List ℕ) → str_to_ascii_lowercase tag ≡ codes "<?php" → (length tag ≡ 5) × (feeds tag ≤ 4)
tag_feeds [] e = absurd (cc)
tag_feeds (x ∷ a) e = (five, go (x == 10) refl)
  where
    five : length (x ∷ a) ≡ 5
    five = sym (length_lowered (x ∷ a)) ∙ ap length e

    first : List ℕ → ℕ
    first [] = 0
    first (y ∷ ys) = y

    no_feed : x ≡ 10 → ⊥
    no_feed is =
        let f : to_ascii_lowercase x ≡ 60 = ap first e in let g : to_ascii_lowercase 10 ≡ 60 = ap to_ascii_lowercase
        (sym is) ∙ f in cc

    go : (k : Bool) → (x == 10) ≡ k → (if k then 1 else 0) + feeds a ≤ 4
    go true is = absurd (no_feed (eqb-true x 10 is))
    go false is = let w = feeds_within a in let v = five in omega (arith, w, v)

-- a file has fewer line feeds than bytes
pub file_feeds : (bytes : List ℕ) (ts : List Token) → AreFileTokens bytes ts → 1 + feeds bytes ≤ length bytes
file_feeds bytes ts are =
    let t = tag_feeds are.tag.tag are.tag.spelled in
    let e = ap length are.tag.whole in
    let f = ap feeds are.tag.whole in
    let g = feeds_over are.tag.tag are.rest in
    let h = length-append are.tag.tag are.rest in
    let w = feeds_within are.rest in
    let a = t.0 in
    let b = t.1 in
    omega (arith, a, b, e, f, g, h, w)
