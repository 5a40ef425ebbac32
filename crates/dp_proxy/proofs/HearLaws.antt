-- What an IDE asks, in whatever pieces it comes.
use Rattle.std.proofs.Common.{◌≡◌, ℕ, ◌+◌, true, false, if◌then◌else◌, List, ◌∷◌, ◌++◌, take, drop, Some, None}
use Rattle.std.proofs.Common.{sym, ap, subst, ◌∙◌, append_assoc}
use Rattle.std.proofs.lemmas.Bool.{and_from, false_from_ne_true}
use Rattle.std.proofs.lemmas.List.Folds.{list_all-append}
use Rattle.dp_wire.specs.Frames.{has_no_nul, up_to_nul, FirstNul}
use Rattle.dp_wire.proofs.FrameLaws.{no_nul-at}
use Rattle.dp_lanes.proofs.RestLaws.{up_before}
use Rattle.dp_proxy.specs.declared.events.Act.TheVariants.{Given}
use Rattle.dp_proxy.specs.declared.input.Hearing.TheVariants.{Asked}
use Rattle.dp_proxy.specs.inner.Acts.{Hears}

both_clean : (a b : List ℕ) → has_no_nul a ≡ true → has_no_nul b ≡ true → has_no_nul (a ++ b) ≡ true
both_clean a b p q = list_all-append _ a b ∙ and_from _ _ p q

module _ (heard bytes now : List ℕ) (clean : has_no_nul heard ≡ true) where
  pub command_heard : (place : ℕ) → FirstNul bytes (Some place) → now ≡ heard ++ take place bytes
      → Hears heard (Given bytes) Asked now
  command_heard place first put =
      let rest = drop (place + 1) bytes in
      let front : List ℕ = heard ++ take place bytes in
      let whole : heard ++ bytes ≡ front ++ 0 ∷ rest = ap (λ l. heard ++ l) first.1
      ∙ sym (append_assoc heard (take place bytes) (0 ∷ rest)) in
      let some : has_no_nul (heard ++ bytes) ≡ false =
      false_from_ne_true (has_no_nul (heard ++ bytes)) (λ h. no_nul-at front rest
      (subst (λ l. has_no_nul l ≡ true) whole h)) in
      let up : up_to_nul (heard ++ bytes) ≡ front = ap up_to_nul whole
      ∙ up_before front rest (both_clean heard (take place bytes) clean first.0) in
      ap (λ t. if t then None else Some (up_to_nul (heard ++ bytes))) some ∙ ap Some (up ∙ sym put)
