-- The ends of `show` that no fault brings exclude each other.
use Rattle.std.proofs.Common.{◌≡◌, ℕ, List, [], ◌∷◌, ◌++◌, None, Some, IsSome, sym, ap, ◌∙◌, subst, append-nil, arith}
use Rattle.std.specs.Prelude.{Ok, Err}
use Rattle.std.specs.Io.KnownBytes.{Consumes}
use Rattle.std.proofs.lemmas.List.{append_cancel_right}
use Rattle.dp_markup.specs.declared.tree.Element.{Element}
use Rattle.dp_markup.specs.Grammar.{IsMarkup}
use Rattle.dp_outside.specs.Changes.{Change}
use Rattle.dp_wire.specs.Frames.{packets_in, rest_of_packets, IsPartialPacket}
use Rattle.dp_wire.proofs.LengthLaws.{partial_refused, unfinished_partial}
use Rattle.dp_show.specs.declared.errors.ShowError.TheVariants.{PeerEnd, BadPacket}
use Rattle.dp_show.specs.Lines.{AreMarkup}
use Rattle.dp_show.specs.Shows.{Shown, Shows, IsBadAt}
use Rattle.dp_show.specs.inner.Progress.{Output}

-- what is told decides what was read
one_read : (before after : Output) (read other : List ℕ) → IsSome before → Consumes before after read
    → Consumes before after other → read ≡ other
one_read None after read other told p q = absurd (cc)
one_read (Some xs) None read other told p q = absurd p
one_read (Some xs) (Some ys) read other told p q = append_cancel_right read other ys (sym p ∙ q)

-- a text among those that are markup
marked_at : (texts others : List (List ℕ)) (next : List ℕ) (elements : List Element)
    → AreMarkup (texts ++ next ∷ others) elements → (e : Element) × IsMarkup next e
marked_at [] others next [] are = absurd are
marked_at [] others next (e ∷ elements) are = (e, are.0)
marked_at (text ∷ texts) others next [] are = absurd are
marked_at (text ∷ texts) others next (e ∷ elements) are = marked_at texts others next elements are.1

-- where each packet is markup, and more of the next may come, nothing is bad
none_bad : (offset : ℕ) (all texts others : List (List ℕ)) (rest : List ℕ) (elements : List Element)
    → AreMarkup all elements → all ≡ texts ++ others → IsPartialPacket rest
    → IsBadAt offset texts others rest → ⊥
none_bad offset all texts [] rest elements are same partial bad = partial_refused rest partial bad.none
none_bad offset all texts (next ∷ others) rest elements are same partial bad =
    let marked = marked_at texts others next elements (subst (λ (l : List (List ℕ)). AreMarkup l elements) same are) in
    bad.0 marked.0 marked.1

module _ (input : Change) (told : IsSome input.told_before) (one other : Shown input) where
  same_read : one.read ≡ other.read
  same_read = one_read input.told_before input.told one.read other.read told one.consumed other.consumed

  not_bad : (offset : ℕ) → one.others ≡ [] → IsPartialPacket (rest_of_packets one.read)
      → IsBadAt offset other.texts other.others (rest_of_packets other.read) → ⊥
  not_bad offset none partial bad =
      let all : one.texts ≡ other.texts ++ other.others =
      sym (append-nil one.texts) ∙ ap (λ l. one.texts ++ l) (sym none) ∙ sym one.split ∙ ap packets_in same_read
      ∙ other.split in
      none_bad offset one.texts other.texts other.others (rest_of_packets other.read) one.elements one.markup all
      (subst (λ (l : List ℕ). IsPartialPacket (rest_of_packets l)) same_read partial) bad

pub whole_or_inside : (input out other : Change) → IsSome input.told_before → Shows (Ok tt) input out
    → Shows (Err PeerEnd) input other → ⊥
whole_or_inside input out other told whole inside =
    inside.ends.1 (ap rest_of_packets (sym (same_read input told whole.shown inside.shown)) ∙ whole.ends.1)

pub whole_or_bad : (input out other : Change) (offset : ℕ) → IsSome input.told_before → Shows (Ok tt) input out
    → Shows (Err (BadPacket offset)) input other → ⊥
whole_or_bad input out other offset told whole bad =
    not_bad input told whole.shown bad.shown offset whole.ends.0
    (subst IsPartialPacket (sym whole.ends.1) (unfinished_partial 0 (omega arith))) bad.ends

pub inside_or_bad : (input out other : Change) (offset : ℕ) → IsSome input.told_before → Shows (Err PeerEnd) input out
    → Shows (Err (BadPacket offset)) input other → ⊥
inside_or_bad input out other offset told inside bad =
    not_bad input told inside.shown bad.shown offset inside.ends.0 inside.ends.2 bad.ends
