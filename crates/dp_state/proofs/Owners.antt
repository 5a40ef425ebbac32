-- Whose variables each frame uses, and the line of the last of frames.
use Rattle.std.proofs.Common.{◌≡◌, ℕ, zero, suc, ◌+◌, ◌-◌, ◌<◌, ◌≤◌, Bool, true, false, if◌then◌else◌, nat_lt, ltb-true, ltb-false, List, [], ◌∷◌, ◌++◌, length, take, slice_get, slice_set, get_or, Option, Some, length-append, refl, sym, ap, ◌∙◌, arith}
use Rattle.std.specs.Option.{option_map_or}
use Rattle.std.proofs.Math.Seq.{take-append_seam, take-length, take-set-lt}
use Rattle.std.proofs.lemmas.List.{get_or-take, length-take-le, take-append-le, take-set-le, take-take, take_more_set}
use Rattle.std.proofs.lemmas.Option.{same_Some, slice_get_past, slice_get_read}
use Rattle.dp_state.specs.declared.state.Frame.{Frame}
use Rattle.dp_state.specs.inner.Owners.{owners_below, owners_of}
use Rattle.dp_state.specs.inner.Parts.{vars_in}
use Rattle.dp_state.specs.Places.{with_vars}
use Rattle.dp_state.specs.States.{owner, shares_at, with_line}
use Rattle.dp_state.specs.Variables.{Variables}
use Rattle.dp_state.proofs.Homes.{length-with_vars, set-vars}

-- ---- one position

-- the frame at a position that is not the lowest shares, or not
pub owner_shares : (frames : List Frame) (at : ℕ) → 0 < at → shares_at frames at ≡ true
    → owner frames at ≡ owner frames (at - 1)
owner_shares frames zero above shares = absurd (omega arith)
owner_shares frames (suc n) above shares =
    let below : suc n - 1 ≡ n = omega arith in
    ap (λ b. if b then owner frames n else suc n) shares ∙ ap (owner frames) (sym below)

pub owner_own : (frames : List Frame) (at : ℕ) → 0 < at → shares_at frames at ≡ false → owner frames at ≡ at
owner_own frames zero above shares = absurd (omega arith)
owner_own frames (suc n) above shares = ap (λ b. if b then owner frames n else suc n) shares

-- it is the position itself or one below it
pub owner_within : (frames : List Frame) (at : ℕ) → owner frames at ≤ at
owner_within frames zero = omega arith
owner_within frames (suc n) = by (shares_at frames (suc n)) (owner_within frames n)
  where
    by : (b : Bool) → owner frames n ≤ n → (if b then owner frames n else suc n) ≤ suc n
    by true within = omega arith
    by false within = omega arith

-- no frame stands there
owner_past : (frames : List Frame) (at : ℕ) → length frames ≤ at → owner frames at ≡ at
owner_past frames zero past = refl
owner_past frames (suc n) past =
    ap (λ (o : Option Frame). if option_map_or (λ f. f.shares) o false then owner frames n else suc n)
    (slice_get_past frames (suc n) past)

-- ---- the items of lists

module _ {X : Type 0} where
  at-front : (xs ys : List X) (k : ℕ) → k < length xs → slice_get (xs ++ ys) k ≡ slice_get xs k
  at-front [] ys k within = absurd (omega arith)
  at-front (x ∷ xs) ys zero within = refl
  at-front (x ∷ xs) ys (suc k) within = at-front xs ys k (omega arith)

  at-last : (xs : List X) (y : X) (k : ℕ) → k ≡ length xs → slice_get (xs ++ y ∷ []) k ≡ Some y
  at-last [] y zero last = refl
  at-last [] y (suc k) last = absurd (omega arith)
  at-last (x ∷ xs) y zero last = absurd (omega arith)
  at-last (x ∷ xs) y (suc k) last = at-last xs y k (omega arith)

  at-taken : (n : ℕ) (xs : List X) (k : ℕ) → k < n → slice_get (take n xs) k ≡ slice_get xs k
  at-taken zero xs k below = absurd (omega arith)
  at-taken (suc n) [] k below = refl
  at-taken (suc n) (x ∷ xs) zero below = refl
  at-taken (suc n) (x ∷ xs) (suc k) below = at-taken n xs k (omega arith)

-- ---- frames that share alike

abbrev ShareAlike : ℕ → List Frame → List Frame → Type 0
ShareAlike n fs gs = (at : ℕ) → at < n → shares_at fs at ≡ shares_at gs at

owner-alike : (n : ℕ) (fs gs : List Frame) → ShareAlike n fs gs → (at : ℕ) → at < n → owner fs at ≡ owner gs at
owner-alike n fs gs alike zero within = refl
owner-alike n fs gs alike (suc at) within =
    ap (λ b. if b then owner fs at else suc at) (alike (suc at) within)
    ∙ ap (λ (k : ℕ). if shares_at gs (suc at) then k else suc at) (owner-alike n fs gs alike at (omega arith))

owners-alike : (n : ℕ) (fs gs : List Frame) → ShareAlike n fs gs → owners_below fs n ≡ owners_below gs n
owners-alike zero fs gs alike = refl
owners-alike (suc n) fs gs alike =
    ap (λ (l : List ℕ). l ++ owner fs n ∷ []) (owners-alike n fs gs (λ at within. alike at (omega arith)))
    ∙ ap (λ (k : ℕ). owners_below gs n ++ k ∷ []) (owner-alike (suc n) fs gs alike n (omega arith))

-- those with as many frames, each of which shares or not as before
owners_of-alike : (fs gs : List Frame) → length fs ≡ length gs → ((at : ℕ) → shares_at fs at ≡ shares_at gs at)
    → owners_of fs ≡ owners_of gs
owners_of-alike fs gs even alike =
    owners-alike (length fs) fs gs (λ at within. alike at) ∙ ap (owners_below gs) even

-- ---- what is kept beside frames

length-owners_below : (fs : List Frame) (n : ℕ) → length (owners_below fs n) ≡ n
length-owners_below fs zero = refl
length-owners_below fs (suc n) =
    omega (arith, length-append (owners_below fs n) (owner fs n ∷ []), length-owners_below fs n)

owners-at : (fs : List Frame) (n k : ℕ) → k < n → slice_get (owners_below fs n) k ≡ Some (owner fs k)
owners-at fs zero k within = absurd (omega arith)
owners-at fs (suc n) k within = by (nat_lt k n) refl (owners-at fs n k)
  where
    by : (b : Bool) → nat_lt k n ≡ b → (k < n → slice_get (owners_below fs n) k ≡ Some (owner fs k))
        → slice_get (owners_below fs n ++ owner fs n ∷ []) k ≡ Some (owner fs k)
    by true less rest =
        let below : k < n = ltb-true k n less in
        let inside : k < length (owners_below fs n) = omega (arith, length-owners_below fs n) in
        at-front (owners_below fs n) (owner fs n ∷ []) k inside ∙ rest below
    by false more rest =
        let above : n ≤ k = ltb-false k n more in
        let last : k ≡ length (owners_below fs n) = omega (arith, length-owners_below fs n) in
        let same : n ≡ k = omega arith in
        at-last (owners_below fs n) (owner fs n) k last ∙ ap (λ (m : ℕ). Some (owner fs m)) same

module _ (fs : List Frame) (os : List ℕ) (kept : os ≡ owners_of fs) where
  length-kept : length os ≡ length fs
  length-kept = ap length kept ∙ length-owners_below fs (length fs)

  -- what stands there
  pub kept-found : (at o : ℕ) → at < length os → o ≡ get_or os at o → o ≡ owner fs at
  kept-found at o inside is =
      let within : at < length fs = omega (arith, length-kept) in
      same_Some o (owner fs at)
      (sym (slice_get_read os (length os) at o refl inside is)
      ∙ ap (λ (l : List ℕ). slice_get l at) kept
      ∙ owners-at fs (length fs) at within)

  -- nothing stands there
  pub kept-missing : (at : ℕ) → length os ≤ at → at ≡ owner fs at
  kept-missing at past = sym (owner_past fs at (omega (arith, length-kept)))

-- ---- a frame that goes on top

module _ (fs : List Frame) (f : Frame) where
  shares-below : ShareAlike (length fs) (fs ++ f ∷ []) fs
  shares-below at within =
      ap (λ (o : Option Frame). option_map_or (λ g. g.shares) o false) (at-front fs (f ∷ []) at within)

  shares-top : shares_at (fs ++ f ∷ []) (length fs) ≡ f.shares
  shares-top = ap (λ (o : Option Frame). option_map_or (λ g. g.shares) o false) (at-last fs f (length fs) refl)

  -- it has its own variables
  pub next-own : f.shares ≡ false → length fs ≡ owner (fs ++ f ∷ []) (length fs)
  next-own own = by (nat_lt 0 (length fs)) refl
    where
      by : (b : Bool) → nat_lt 0 (length fs) ≡ b → length fs ≡ owner (fs ++ f ∷ []) (length fs)
      by true some =
          sym (owner_own (fs ++ f ∷ []) (length fs) (ltb-true 0 (length fs) some) (shares-top ∙ own))
      by false less =
          let none : length fs ≤ 0 = ltb-false 0 (length fs) less in
          let lowest : length fs ≡ 0 = omega arith in
          lowest ∙ sym (ap (owner (fs ++ f ∷ [])) lowest)

  -- it uses those that the frame below it uses
  pub next-shares : (o : ℕ) → f.shares ≡ true → o ≡ owner fs (length fs - 1) → o ≡ owner (fs ++ f ∷ []) (length fs)
  next-shares o shares is = by (nat_lt 0 (length fs)) refl
    where
      by : (b : Bool) → nat_lt 0 (length fs) ≡ b → o ≡ owner (fs ++ f ∷ []) (length fs)
      by true more =
          let some : 0 < length fs = ltb-true 0 (length fs) more in
          is
          ∙ sym (owner-alike (length fs) (fs ++ f ∷ []) fs shares-below (length fs - 1) (omega arith))
          ∙ sym (owner_shares (fs ++ f ∷ []) (length fs) some (shares-top ∙ shares))
      by false less =
          let none : length fs ≤ 0 = ltb-false 0 (length fs) less in
          let below : length fs - 1 ≡ 0 = omega arith in
          let lowest : length fs ≡ 0 = omega arith in
          is ∙ ap (owner fs) below ∙ sym (ap (owner (fs ++ f ∷ [])) lowest)

  pub owners_of-push : owners_of (fs ++ f ∷ []) ≡ owners_of fs ++ owner (fs ++ f ∷ []) (length fs) ∷ []
  owners_of-push =
      let more : length (fs ++ f ∷ []) ≡ suc (length fs) = omega (arith, length-append fs (f ∷ [])) in
      ap (owners_below (fs ++ f ∷ [])) more
      ∙ ap (λ (l : List ℕ). l ++ owner (fs ++ f ∷ []) (length fs) ∷ [])
      (owners-alike (length fs) (fs ++ f ∷ []) fs shares-below)

  pub kept-push : (os : List ℕ) (o : ℕ) → os ≡ owners_of fs → o ≡ owner (fs ++ f ∷ []) (length fs)
      → os ++ o ∷ [] ≡ owners_of (fs ++ f ∷ [])
  kept-push os o kept is =
      ap (λ (l : List ℕ). l ++ o ∷ []) kept ∙ ap (λ (k : ℕ). owners_of fs ++ k ∷ []) is ∙ sym owners_of-push

-- ---- the top frame goes

take-owners_below : (fs : List Frame) (n k : ℕ) → k ≤ n → take k (owners_below fs n) ≡ owners_below fs k
take-owners_below fs zero zero few = refl
take-owners_below fs zero (suc k) few = absurd (omega arith)
take-owners_below fs (suc n) k few = by (nat_lt n k) refl (take-owners_below fs n k)
  where
    by : (b : Bool) → nat_lt n k ≡ b → (k ≤ n → take k (owners_below fs n) ≡ owners_below fs k)
        → take k (owners_below fs n ++ owner fs n ∷ []) ≡ owners_below fs k
    by true more rest =
        let above : n < k = ltb-true n k more in
        let all : List ℕ = owners_below fs (suc n) in
        let whole : k ≡ length all = omega (arith, length-owners_below fs (suc n)) in
        let same : suc n ≡ k = omega arith in
        ap (λ m. take m all) whole ∙ take-length all ∙ ap (owners_below fs) same
    by false fewer rest =
        let within : k ≤ n = ltb-false n k fewer in
        let inside : k ≤ length (owners_below fs n) = omega (arith, length-owners_below fs n) in
        take-append-le k (owners_below fs n) (owner fs n ∷ []) inside ∙ rest within

owners_of-take : (fs : List Frame) (k : ℕ) → k ≤ length fs → owners_of (take k fs) ≡ owners_below fs k
owners_of-take fs k few =
    ap (owners_below (take k fs)) (length-take-le k fs few)
    ∙ owners-alike k (take k fs) fs
    (λ at below. ap (λ (o : Option Frame). option_map_or (λ f. f.shares) o false) (at-taken k fs at below))

-- n and m are the lengths of what there was
pub kept-pop : (fs gs : List Frame) (os ps : List ℕ) (n m : ℕ) → os ≡ owners_of fs → n ≡ length fs → m ≡ length os
    → gs ≡ take (n - 1) fs → ps ≡ take (m - 1) os → ps ≡ owners_of gs
kept-pop fs gs os ps n m kept many as_many frames owners =
    let even : m - 1 ≡ n - 1 = omega (arith, length-kept fs os kept) in
    let few : n - 1 ≤ length fs = omega arith in
    owners
    ∙ ap (λ k. take k os) even
    ∙ ap (take (n - 1)) kept
    ∙ take-owners_below fs (length fs) (n - 1) few
    ∙ sym (owners_of-take fs (n - 1) few)
    ∙ sym (ap owners_of frames)

-- what went on top goes again
pub kept-undone : (os more ps : List ℕ) (o n : ℕ) → more ≡ os ++ o ∷ [] → n ≡ length more → ps ≡ take (n - 1) more
    → ps ≡ os
kept-undone os more ps o n grown many left =
    let less : n - 1 ≡ length os = omega (arith, ap length grown, length-append os (o ∷ [])) in
    left ∙ ap (λ k. take k more) less ∙ ap (take (length os)) grown ∙ take-append_seam os (o ∷ [])

-- ---- another line, other variables

shares-with_line : (line : ℕ) (fs : List Frame) (at : ℕ) → shares_at (with_line line fs) at ≡ shares_at fs at
shares-with_line line [] at = refl
shares-with_line line (f ∷ []) zero = refl
shares-with_line line (f ∷ []) (suc at) = refl
shares-with_line line (f ∷ g ∷ fs) zero = refl
shares-with_line line (f ∷ g ∷ fs) (suc at) = shares-with_line line (g ∷ fs) at

length-with_line : (line : ℕ) (fs : List Frame) → length (with_line line fs) ≡ length fs
length-with_line line [] = refl
length-with_line line (f ∷ []) = refl
length-with_line line (f ∷ g ∷ fs) = ap suc (length-with_line line (g ∷ fs))

pub kept-line : (line : ℕ) (fs : List Frame) (os : List ℕ) → os ≡ owners_of fs → os ≡ owners_of (with_line line fs)
kept-line line fs os kept =
    kept ∙ sym (owners_of-alike (with_line line fs) fs (length-with_line line fs) (shares-with_line line fs))

shares-with_vars : (at : ℕ) (vs : Variables) (fs : List Frame) (k : ℕ)
    → shares_at (with_vars at vs fs) k ≡ shares_at fs k
shares-with_vars at vs [] k = refl
shares-with_vars zero vs (f ∷ fs) zero = refl
shares-with_vars zero vs (f ∷ fs) (suc k) = refl
shares-with_vars (suc at) vs (f ∷ fs) zero = refl
shares-with_vars (suc at) vs (f ∷ fs) (suc k) = shares-with_vars at vs fs k

kept-vars : (at : ℕ) (vs : Variables) (fs : List Frame) (os : List ℕ) → os ≡ owners_of fs
    → os ≡ owners_of (with_vars at vs fs)
kept-vars at vs fs os kept =
    kept ∙ sym (owners_of-alike (with_vars at vs fs) fs (length-with_vars at vs fs) (shares-with_vars at vs fs))

-- Of the frames that are kept so many are in use, which are gs. The frame f at a position among these gets other
-- variables where it stands.
module _ (at live : ℕ) (fs gs : List Frame) (f : Frame) (few : live ≤ length fs) (seen : take live fs ≡ gs)
    (is : f ≡ get_or fs at f) (within : at < length gs) where
  below : at < live
  below = omega (arith, within, ap length seen, length-take-le live fs few)

  inside : at < length (take live fs)
  inside = omega (arith, within, ap length seen)

  is_there : f ≡ get_or (take live fs) at f
  is_there = is ∙ sym (get_or-take live fs at f below)

  frame-there : slice_get gs at ≡ Some f
  frame-there =
      ap (λ (l : List Frame). slice_get l at) (sym seen)
      ∙ slice_get_read (take live fs) (length (take live fs)) at f refl inside is_there

  pub vars-there : f.vars ≡ vars_in gs at
  vars-there =
      ap (λ (o : Option Frame). let none : Variables = [] in option_map_or (λ g. g.vars) o none) (sym frame-there)

  module _ (vs : Variables) where
    written : take live (slice_set fs at (record f { vars = vs })) ≡ with_vars at vs (take live fs)
    written =
        take-set-lt live fs at (record f { vars = vs }) below ∙ set-vars at (take live fs) f vs is_there inside

    pub vars-kept : (os : List ℕ) → os ≡ owners_of (take live fs)
        → os ≡ owners_of (take live (slice_set fs at (record f { vars = vs })))
    vars-kept os kept = kept-vars at vs (take live fs) os kept ∙ ap owners_of (sym written)

    pub vars-given : take live (slice_set fs at (record f { vars = vs })) ≡ with_vars at vs gs
    vars-given = written ∙ ap (with_vars at vs) seen

-- the last frame gets the line
pub set_last : (line n : ℕ) (f : Frame) (fs : List Frame) → n + 1 ≡ length fs → f ≡ get_or fs n f
    → slice_set fs n (record f { line = line }) ≡ with_line line fs
set_last line n f [] last at = absurd (omega arith)
set_last line zero f (g ∷ []) last at = ap (λ (h : Frame). (record h { line = line }) ∷ []) at
set_last line (suc n) f (g ∷ []) last at = absurd (omega arith)
set_last line zero f (g ∷ h ∷ fs) last at = absurd (omega arith)
set_last line (suc n) f (g ∷ h ∷ fs) last at =
    ap (λ (l : List Frame). g ∷ l) (set_last line n f (h ∷ fs) (omega arith) at)

-- so many frames are in use; the last of them gets the line where it stands
pub set_top : (line live : ℕ) (f : Frame) (fs : List Frame) → 0 < live → live ≤ length fs → f ≡ get_or fs (live - 1) f
    → take live (slice_set fs (live - 1) (record f { line = line })) ≡ with_line line (take live fs)
set_top line live f fs some few is =
    let below : live - 1 < live = omega (arith, some) in
    let last : (live - 1) + 1 ≡ length (take live fs) = omega (arith, some, length-take-le live fs few) in
    take-set-lt live fs (live - 1) (record f { line = line }) below
    ∙ set_last line (live - 1) f (take live fs) last (is ∙ sym (get_or-take live fs (live - 1) f below))

-- it is written to and goes
pub set_popped : (live : ℕ) (f : Frame) (fs : List Frame)
    → take (live - 1) (slice_set fs (live - 1) f) ≡ take (live - 1) (take live fs)
set_popped live f fs =
    take-set-le (live - 1) fs (live - 1) f (omega arith) ∙ sym (take-take (live - 1) live fs (omega arith))

-- the frame behind those in use comes to them
pub kept-called : (live : ℕ) (f : Frame) (fs : List Frame) (os : List ℕ) → live < length fs → f.shares ≡ false
    → os ≡ owners_of (take live fs) → os ++ live ∷ [] ≡ owners_of (take (live + 1) (slice_set fs live f))
kept-called live f fs os within own kept =
    let many : length (take live fs) ≡ live = length-take-le live fs (omega (arith, within)) in
    kept-push (take live fs) f os live kept (sym many ∙ next-own (take live fs) f own)
    ∙ ap owners_of (sym (take_more_set fs live f within))
