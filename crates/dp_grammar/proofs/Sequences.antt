-- Parts one behind the other: what was taken from the front, and what is taken again.
use Rattle.std.proofs.Common.{◌≡◌, ℕ, zero, suc, ◌≤◌, List, [], ◌∷◌, ◌++◌, length, Option, Some, None, refl, sym, ap, subst, ◌∙◌, append_assoc, length-append, arith}
use Rattle.dp_grammar.specs.Parts.{Joined, Repeated}
use Rattle.dp_grammar.specs.Prefixes.{◌>>=◌, onward, items_at}
use Rattle.dp_grammar.proofs.Runs.{some_is, bind_some}

-- a part stands at the front, and this behind it
pub record Takes (rule : List ℕ → Type 0) (bytes rest : List ℕ) : Type 0 where
  pub front : List ℕ
  pub whole : bytes ≡ front ++ rest
  pub is : rule front

pub takes_then : (a b : List ℕ → Type 0) (x y z : List ℕ) → Takes a x y → Takes b y z → Takes (Joined a b) x z
takes_then a b x y z p q = record {
  front = p.front ++ q.front;
  whole = p.whole ∙ ap (λ (t : List ℕ). p.front ++ t) q.whole ∙ sym (append_assoc p.front q.front z);
  is = record { front = p.front; back = q.front; whole = refl; first = p.is; second = q.is };
}

pub takes_last : (a b : List ℕ → Type 0) (x y : List ℕ) → Takes a x y → b y → Joined a b x
takes_last a b x y p q = record { front = p.front; back = y; whole = p.whole; first = p.is; second = q }

-- ---- items

onward_found : {A : Type 0} (rule : A → List ℕ → Type 0) (next : List ℕ → Option (List A × List ℕ))
    → ((mid : List ℕ) (z : List A × List ℕ) → next mid ≡ Some z → Takes (Repeated rule z.0) mid z.1)
    → (bytes : List ℕ) (o : Option A) (mid : List ℕ) (y : List A × List ℕ) → (o ≡ None → bytes ≡ mid)
    → ((a : A) → o ≡ Some a → Takes (rule a) bytes mid)
    → onward o mid next ≡ Some y → Takes (Repeated rule y.0) bytes y.1
onward_found rule next ih bytes None mid y none item e =
    let start : List _ × List ℕ = ([], mid) in
    subst (λ v. Takes (Repeated rule v.0) bytes v.1) (some_is start y e)
    (record { front = []; whole = none refl; is = refl })
onward_found {A = A} rule next ih bytes (Some a) mid y none item e =
    let m = bind_some (next mid) (λ more. Some (a ∷ more.0, more.1)) y e in
    let more = m.0 in
    let all : List A × List ℕ = (a ∷ more.0, more.1) in
    subst (λ v. Takes (Repeated rule v.0) bytes v.1) (some_is all y m.2)
    (takes_then (rule a) (Repeated rule more.0) bytes mid more.1 (item a refl) (ih mid more m.1))

pub items_found : {A : Type 0} (rule : A → List ℕ → Type 0) (step : List ℕ → Option (Option A × List ℕ))
    → ((bytes mid : List ℕ) → step bytes ≡ Some (None, mid) → bytes ≡ mid)
    → ((bytes mid : List ℕ) (a : A) → step bytes ≡ Some (Some a, mid) → Takes (rule a) bytes mid)
    → (n : ℕ) (bytes : List ℕ) (y : List A × List ℕ) → items_at step n bytes ≡ Some y
    → Takes (Repeated rule y.0) bytes y.1
unfolding items_at
items_found {A = A} rule step none item zero bytes y e =
    let start : List A × List ℕ = ([], bytes) in
    subst (λ v. Takes (Repeated rule v.0) bytes v.1) (some_is start y e)
    (record { front = []; whole = refl; is = refl })
items_found {A = A} rule step none item (suc n) bytes y e =
    let f = bind_some (step bytes) (λ found. onward found.0 found.1 (items_at step n)) y e in
    let found : Option A × List ℕ = f.0 in
    onward_found rule (items_at step n) (items_found rule step none item n) bytes found.0 found.1 y
    (λ h. none bytes found.1 (f.1 ∙ ap (λ (o : Option A). Some (o, found.1)) h))
    (λ a h. item bytes found.1 a (f.1 ∙ ap (λ (o : Option A). Some (o, found.1)) h)) f.2

-- what stands before the rest of the items
pub before_items : {A : Type 0} (rule : A → List ℕ → Type 0) (stops : List ℕ → Type 0) (rest : List ℕ)
    → ((a : A) (front tail : List ℕ) → rule a front → stops (front ++ tail)) → stops rest
    → (others : List A) (front : List ℕ) → Repeated rule others front → stops (front ++ rest)
before_items rule stops rest starts last [] front e = subst (λ (t : List ℕ). stops (t ++ rest)) (sym e) last
before_items rule stops rest starts last (a ∷ others) front j =
    subst stops (sym (append_assoc j.front j.back rest) ∙ ap (λ (t : List ℕ). t ++ rest) (sym j.whole))
    (starts a j.front (j.back ++ rest) j.first)

-- items that stand there are taken, where something stops them
pub items_again : {A : Type 0} (rule : A → List ℕ → Type 0) (step : List ℕ → Option (Option A × List ℕ))
    (stops : List ℕ → Type 0) (rest : List ℕ)
    → ((a : A) (front tail : List ℕ) → rule a front → stops (front ++ tail)) → stops rest
    → ((a : A) (front tail : List ℕ) → rule a front → stops tail → step (front ++ tail) ≡ Some (Some a, tail))
    → step rest ≡ Some (None, rest)
    → (n : ℕ) (others : List A) (front : List ℕ) → Repeated rule others front → length others ≤ n
    → items_at step n (front ++ rest) ≡ Some (others, rest)
unfolding items_at
items_again {A = A} rule step stops rest starts last item end zero [] front e le =
    ap (λ (t : List ℕ). items_at step zero (t ++ rest)) e
items_again rule step stops rest starts last item end zero (a ∷ others) front j le = absurd (omega arith)
items_again {A = A} rule step stops rest starts last item end (suc n) [] front e le =
    ap (λ (t : List ℕ). items_at step (suc n) (t ++ rest)) e
    ∙ ap (λ (o : Option (Option A × List ℕ)). o >>= λ found. onward found.0 found.1 (items_at step n)) end
items_again {A = A} rule step stops rest starts last item end (suc n) (a ∷ others) front j le =
    let tail = j.back ++ rest in
    let parts : front ++ rest ≡ j.front ++ tail = ap (λ (t : List ℕ). t ++ rest) j.whole
    ∙ append_assoc j.front j.back rest in
    let one : step (j.front ++ tail) ≡ Some (Some a, tail) = item a j.front tail j.first
    (before_items rule stops rest starts last others j.back j.second) in
    let more : items_at step n tail ≡ Some (others, rest) = items_again rule step stops rest starts last item end n
    others j.back j.second (omega arith) in
    ap (items_at step (suc n)) parts
    ∙ ap (λ (o : Option (Option A × List ℕ)). o >>= λ found. onward found.0 found.1 (items_at step n)) one
    ∙ ap (λ (o : Option (List A × List ℕ)). o >>= λ x. Some (a ∷ x.0, x.1)) more

-- items are not more than their bytes
pub items_few : {A : Type 0} (rule : A → List ℕ → Type 0) → ((a : A) (front : List ℕ) → rule a front → 1 ≤ length front)
    → (others : List A) (front : List ℕ) → Repeated rule others front → length others ≤ length front
items_few rule some [] front e = omega arith
items_few rule some (a ∷ others) front j =
    omega (
      arith,
      some a j.front j.first,
      items_few rule some others j.back j.second,
      length-append j.front j.back,
      ap length j.whole,
    )
