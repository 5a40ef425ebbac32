-- What is left where no command begins is more than a command has, and a part of one is not.
use Rattle.std.proofs.Common.{◌≡◌, ◌⊎◌, ℕ, ◌<◌, ◌≤◌, ◌==◌, Bool, true, false, not, ◌&&◌, leb, List, [], ◌∷◌, ◌++◌, length, refl, sym, ap, ◌∙◌, append-nil, inl, inr, arith, length-append}
use Rattle.std.proofs.lemmas.Bool.{leb-true, leb-false, eqb-true}
use Rattle.dp_wire.specs.Frames.{BeginsNoCommand, IsPartialCommand, command_limit, has_no_nul}
use Rattle.dp_wire.proofs.FrameLaws.{partial_front}
use Rattle.dp_wire.proofs.NextLaws.{none_refused}
use Rattle.dp_wire.proofs.SplitLaws.{framed}

pub partial_short : (held : List ℕ) → IsPartialCommand held → length held ≤ command_limit
partial_short held p =
    let short = (partial_front held p.more p.text p.comes p.is_text.no_nul p.whole).1 in
    omega (arith, short, p.is_text.fits)

record HasNul (bytes : List ℕ) : Type 0 where
  front : List ℕ
  back : List ℕ
  whole : bytes ≡ front ++ 0 ∷ back
  no_nul : has_no_nul front ≡ true

first_nul : (bytes : List ℕ) → (has_no_nul bytes ≡ true) ⊎ HasNul bytes
first_nul [] = inl refl
first_nul (b ∷ bytes) = by (b == 0) refl (first_nul bytes) where
  by : (t : Bool) → (b == 0) ≡ t → (has_no_nul bytes ≡ true) ⊎ HasNul bytes
      → (has_no_nul (b ∷ bytes) ≡ true) ⊎ HasNul (b ∷ bytes)
  by true e rest =
      inr (record { front = []; back = bytes; whole = ap (λ n. n ∷ bytes) (eqb-true b 0 e); no_nul = refl })
  by false e (inl none) = inl (ap (λ t. not t && has_no_nul bytes) e ∙ none)
  by false e (inr h) = inr (record {
    front = b ∷ h.front;
    back = h.back;
    whole = ap (λ l. b ∷ l) h.whole;
    no_nul = ap (λ t. not t && has_no_nul h.front) e ∙ h.no_nul;
  })

-- so few bytes are a part of a command, or have one in front
few_begin : (held : List ℕ) → length held ≤ command_limit → BeginsNoCommand held → ⊥
few_begin held few refused = by (first_nul held) where
  by : (has_no_nul held ≡ true) ⊎ HasNul held → ⊥
  by (inl none) = none_refused held none few refused
  by (inr h) =
      let l = ap (λ (x : List ℕ). length x) h.whole in
      refused h.front h.back []
      (record { no_nul = h.no_nul; fits = omega (arith, few, l, length-append h.front (0 ∷ h.back)) })
      (append-nil held ∙ h.whole ∙ sym (framed h.front h.back))

pub refused_long : (held : List ℕ) → BeginsNoCommand held → command_limit < length held
refused_long held refused = by (leb (length held) command_limit) refl where
  by : (t : Bool) → leb (length held) command_limit ≡ t → command_limit < length held
  by true e = absurd (few_begin held (leb-true (length held) command_limit e) refused)
  by false e = leb-false (length held) command_limit e
