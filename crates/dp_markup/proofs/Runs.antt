-- Bytes that stand for themselves are put together: the run of them that is not put yet, and what is behind it.
use Rattle.std.proofs.Common.{◌≡◌, ℕ, ◌+◌, ◌-◌, ◌<◌, ◌≤◌, List, [], ◌∷◌, ◌++◌, length, take, drop, get_or, sym, ap, ◌∙◌, append_assoc, arith, length-drop}
use Rattle.std.proofs.lemmas.List.{take_more, drop_more, get_or-drop}
use Rattle.dp_markup.specs.Escapes.{escaped, escaped_all}
use Rattle.dp_markup.specs.Outputs.{Written, behind}
use Rattle.dp_markup.proofs.OutputLaws.{behind_both}

abbrev pub run : List ℕ → ℕ → ℕ → List ℕ
run bytes from to = take (to - from) (drop from bytes)

module _ (bytes : List ℕ) (at d : ℕ) (within : at < length bytes) where
  abbrev next : ℕ
  next = get_or bytes at d

  next_escaped : escaped_all (drop at bytes) ≡ escaped next ++ escaped_all (drop (at + 1) bytes)
  next_escaped = ap escaped_all (drop_more bytes at d within)

  module _ (from : ℕ) (order : from ≤ at) where
    longer : run bytes from (at + 1) ≡ run bytes from at ++ next ∷ []
    longer =
        let same : at + 1 - from ≡ at - from + 1 = omega (arith, order) in
        let there : at - from < length (drop from bytes) = omega (arith, order, within, length-drop from bytes) in
        let place : from + (at - from) ≡ at = omega (arith, order) in
        let read : get_or (drop from bytes) (at - from) d ≡ next =
        get_or-drop from bytes (at - from) d ∙ ap (λ (n : ℕ). get_or bytes n d) place in
        ap (λ (n : ℕ). take n (drop from bytes)) same
        ∙ take_more (drop from bytes) (at - from) d there
        ∙ ap (λ (y : ℕ). run bytes from at ++ y ∷ []) read

    pub plain_joins : escaped next ≡ next ∷ []
        → run bytes from at ++ escaped_all (drop at bytes)
        ≡ run bytes from (at + 1) ++ escaped_all (drop (at + 1) bytes)
    plain_joins plain =
        ap (λ (ys : List ℕ). run bytes from at ++ ys)
        (next_escaped ∙ ap (λ (e : List ℕ). e ++ escaped_all (drop (at + 1) bytes)) plain)
        ∙ sym (append_assoc (run bytes from at) (next ∷ []) (escaped_all (drop (at + 1) bytes)))
        ∙ ap (λ (ys : List ℕ). ys ++ escaped_all (drop (at + 1) bytes)) (sym longer)

  -- the run is put, and then the byte behind it
  pub reference_joins : (before put after : Written) (front : List ℕ) → put ≡ behind before front
      → after ≡ behind put (escaped next)
      → behind before (front ++ escaped_all (drop at bytes)) ≡ behind after (escaped_all (drop (at + 1) bytes))
  reference_joins before put after front run_is byte_is =
      let rest = escaped_all (drop (at + 1) bytes) in
      ap (λ (e : List ℕ). behind before (front ++ e)) next_escaped
      ∙ sym (behind_both before front (escaped next ++ rest))
      ∙ sym (behind_both (behind before front) (escaped next) rest)
      ∙ ap (λ (w : Written). behind (behind w (escaped next)) rest) (sym run_is)
      ∙ ap (λ (w : Written). behind w rest) (sym byte_is)
