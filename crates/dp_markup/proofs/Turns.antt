-- The turns of the loop over a word.
use Rattle.std.proofs.Common.{◌≡◌, ℕ, suc, ◌+◌, ◌<◌, List, ◌∷◌, length, get_or, drop, drop-cons, Ok, ap, ◌∙◌, arith}
use Rattle.dp_markup.specs.inner.Input.{and_then, mark, word}

-- one more byte of a word
pub word_turn : (bytes ts more : List ℕ) (i a : ℕ) → i < length bytes → mark (get_or bytes i 0) ts ≡ Ok (a, more)
    → word (drop i bytes) ts ≡ word (drop (i + 1) bytes) more
unfolding word
word_turn bytes ts more i a within is =
    let cut : drop i bytes ≡ get_or bytes i 0 ∷ drop (i + 1) bytes = drop-cons bytes i 0 within
    ∙ ap (λ n. get_or bytes i 0 ∷ drop n bytes) (let e : suc i ≡ i + 1 = omega arith in e) in
    ap (λ l. word l ts) cut ∙ ap (λ o. and_then o (λ _. word (drop (i + 1) bytes))) is
