-- What a NUL does to a list of bytes: the first one ends a command.
use Rattle.std.proofs.Common.{◌≡◌, ◌≢◌, ℕ, ◌<◌, ◌≤◌, Bool, true, false, not, ◌&&◌, cond, eqb, leb, List, [], ◌∷◌, ◌++◌, length, refl, sym, ap, ◌∙◌, subst, append-nil, arith, length-append}
use Rattle.std.proofs.lemmas.Bool.{and_parts, not-true, le-leb, leb-true, false≢true}
use Rattle.dp_wire.specs.Frames.{has_no_nul, command_limit, ended_texts, widened, up_to_limit, commands_in}

-- ---- has_no_nul

pub no_nul-head : (b : ℕ) (bs : List ℕ) → has_no_nul (b ∷ bs) ≡ true → eqb b 0 ≡ false
no_nul-head b bs h = not-true _ (and_parts _ (has_no_nul bs) h).0

pub no_nul-tail : (b : ℕ) (bs : List ℕ) → has_no_nul (b ∷ bs) ≡ true → has_no_nul bs ≡ true
no_nul-tail b bs h = (and_parts (not (eqb b 0)) (has_no_nul bs) h).1

pub no_nul-here : (b : ℕ) (bs : List ℕ) → b ≡ 0 → has_no_nul (b ∷ bs) ≡ true → ⊥
no_nul-here b bs zero h = false≢true (sym (no_nul-head b bs h) ∙ ap (λ x. eqb x 0) zero)

pub no_nul-at : (front rest : List ℕ) → has_no_nul (front ++ 0 ∷ rest) ≡ true → ⊥
no_nul-at [] rest h = no_nul-here 0 rest refl h
no_nul-at (b ∷ bs) rest h = no_nul-at bs rest (no_nul-tail b (bs ++ 0 ∷ rest) h)

-- two texts without a NUL, each behind it: the texts are one, and so is what follows
pub same_text : (a b x y : List ℕ) → has_no_nul a ≡ true → has_no_nul b ≡ true → a ++ 0 ∷ x ≡ b ++ 0 ∷ y
    → (a ≡ b) × (x ≡ y)
same_text [] [] x y p q e = (refl, cc)
same_text [] (b ∷ bs) x y p q e = let zero : b ≡ 0 = cc in absurd (no_nul-here b bs zero q)
same_text (a ∷ xs) [] x y p q e = let zero : a ≡ 0 = cc in absurd (no_nul-here a xs zero p)
same_text (a ∷ xs) (b ∷ bs) x y p q e =
    let head : a ≡ b = cc in
    let tail : xs ++ 0 ∷ x ≡ bs ++ 0 ∷ y = cc in
    let rest = same_text xs bs x y (no_nul-tail a xs p) (no_nul-tail b bs q) tail in
    (λ i. head i ∷ rest.0 i, rest.1)

-- no frame with a shorter text begins bytes that have no NUL so far
pub no_shorter : (front text z w : List ℕ) → has_no_nul front ≡ true → length text < length front
    → front ++ z ≡ text ++ 0 ∷ w → ⊥
no_shorter [] text z w p short e = absurd (omega arith)
no_shorter (b ∷ bs) [] z w p short e = let zero : b ≡ 0 = cc in no_nul-here b bs zero p
no_shorter (b ∷ bs) (c ∷ cs) z w p short e =
    let tail : bs ++ z ≡ cs ++ 0 ∷ w = cc in
    no_shorter bs cs z w (no_nul-tail b bs p) (omega arith) tail

no_bytes : (bs more : List ℕ) → bs ++ more ≡ [] → more ≡ []
no_bytes [] more e = e
no_bytes (b ∷ bs) more e = cc

-- a proper prefix of a frame has no NUL, and is no longer than the text
pub partial_front : (bytes more text : List ℕ) → more ≢ [] → has_no_nul text ≡ true → bytes ++ more ≡ text ++ 0 ∷ []
    → (has_no_nul bytes ≡ true) × (length bytes ≤ length text)
partial_front [] more text comes p e = (refl, omega arith)
partial_front (b ∷ bs) more [] comes p e = let none : bs ++ more ≡ [] = cc in absurd (comes (no_bytes bs more none))
partial_front (b ∷ bs) more (c ∷ cs) comes p e =
    let head : b ≡ c = cc in
    let tail : bs ++ more ≡ cs ++ 0 ∷ [] = cc in
    let rest = partial_front bs more cs comes (no_nul-tail c cs p) tail in (
      subst (λ x. (not (eqb x 0) && has_no_nul bs) ≡ true) (sym head) (rw (no_nul-head c cs p, rest.0) refl),
      omega (arith, rest.1),
    )

-- ---- ended_texts and commands_in

pub ended-text : (line more : List ℕ) → has_no_nul line ≡ true
    → ended_texts (line ++ 0 ∷ more) ≡ line ∷ ended_texts more
ended-text [] more h = refl
ended-text (b ∷ bs) more h = rw (no_nul-head b bs h, ended-text bs more (no_nul-tail b bs h)) refl

abbrev behind : List ℕ → List (List ℕ) → List (List ℕ)
behind front [] = []
behind front (text ∷ texts) = (front ++ text) ∷ texts

behind-nil : (texts : List (List ℕ)) → texts ≡ behind [] texts
behind-nil [] = refl
behind-nil (text ∷ texts) = refl

widened-behind : (b : ℕ) (bs : List ℕ) (texts : List (List ℕ)) → widened b (behind bs texts) ≡ behind (b ∷ bs) texts
widened-behind b bs [] = refl
widened-behind b bs (text ∷ texts) = refl

pub ended-behind : (front more : List ℕ) → has_no_nul front ≡ true
    → ended_texts (front ++ more) ≡ behind front (ended_texts more)
ended-behind [] more h = behind-nil (ended_texts more)
ended-behind (b ∷ bs) more h =
    rw (no_nul-head b bs h, ended-behind bs more (no_nul-tail b bs h)) (widened-behind b bs (ended_texts more))

pub commands-text : (line more : List ℕ) → has_no_nul line ≡ true → length line ≤ command_limit
    → commands_in (line ++ 0 ∷ more) ≡ line ∷ commands_in more
commands-text line more h fits =
    ap up_to_limit (ended-text line more h)
    ∙ ap (λ t. cond t (line ∷ commands_in more) []) (le-leb (length line) command_limit fits)

pub commands-partial : (bytes : List ℕ) → has_no_nul bytes ≡ true → commands_in bytes ≡ []
commands-partial bytes h = ap commands_in (sym (append-nil bytes)) ∙ ap up_to_limit (ended-behind bytes [] h)

not_leb : (a b : ℕ) → b < a → leb a b ≡ false
not_leb a b h = go (leb a b) refl where
  go : (t : Bool) → leb a b ≡ t → t ≡ false
  go false e = refl
  go true e = absurd (omega (arith, leb-true a b e))

up_to_limit-behind : (front : List ℕ) (texts : List (List ℕ)) → command_limit < length front
    → up_to_limit (behind front texts) ≡ []
up_to_limit-behind front [] long = refl
up_to_limit-behind front (text ∷ texts) long =
    let longer : command_limit < length (front ++ text) = omega (arith, length-append front text) in
    ap (λ t. cond t ((front ++ text) ∷ up_to_limit texts) []) (not_leb (length (front ++ text)) command_limit longer)

pub commands-long : (front more : List ℕ) → has_no_nul front ≡ true → command_limit < length front
    → commands_in (front ++ more) ≡ []
commands-long front more h long =
    ap up_to_limit (ended-behind front more h) ∙ up_to_limit-behind front (ended_texts more) long
