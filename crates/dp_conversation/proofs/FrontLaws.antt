-- What a sink has taken of bytes of which it has taken a front.
use Rattle.std.proofs.Common.{◌≡◌, ◌<◌, ◌≤◌, ◌+◌, ℕ, List, [], ◌∷◌, ◌++◌, length, get_or, Option, take, drop, refl, sym, ap, ◌∙◌, subst, append_assoc, append-nil, length-append, length-take, take-append-drop, Result, Ok, Err, true, false, arith}
use Rattle.std.specs.List.{flat_map}
use Rattle.std.specs.Io.KnownBytes.{Appends}
use Rattle.std.proofs.KnownBytes.{Appends-nil, Appends-trans}
use Rattle.std.proofs.lemmas.List.{take_at, take_more}
use Rattle.std.proofs.Math.Seq.{take-append-add}
use Rattle.std.proofs.lemmas.List.Concat.{flat_map-append}
use Rattle.std.specs.Result.{is_err}
use Rattle.dp_outside.specs.Causes.{HasCause, Rose}
use Rattle.dp_outside.specs.Streams.{AppendsFront, PutAppends}
use Rattle.dp_conversation.specs.Service.{AppendsPast}

-- all of these bytes, and none of those that follow
pub front_before : (a b : Option (List ℕ)) (bytes more : List ℕ) → Appends a b bytes → AppendsFront a b (bytes ++ more)
front_before a b bytes more p = (length bytes, subst (Appends a b) (sym (take_at bytes more (length bytes) refl)) p)

-- none of the bytes
pub front_none : (a : Option (List ℕ)) (bytes : List ℕ) → AppendsFront a a bytes
front_none a bytes = front_before a a [] bytes (Appends-nil a)

-- all of the bytes
pub front_all : (a b : Option (List ℕ)) (bytes : List ℕ) → Appends a b bytes → AppendsFront a b bytes
front_all a b bytes p = subst (AppendsFront a b) (append-nil bytes) (front_before a b bytes [] p)

-- a front of these bytes is one of more
pub front_of_more : (a b : Option (List ℕ)) (bytes more : List ℕ) → AppendsFront a b bytes
    → AppendsFront a b (bytes ++ more)
front_of_more a b bytes more p =
    let split : bytes ++ more ≡ take p.0 bytes ++ (drop p.0 bytes ++ more) =
    ap (λ l. l ++ more) (sym (take-append-drop p.0 bytes)) ∙ append_assoc (take p.0 bytes) (drop p.0 bytes) more in
    subst (AppendsFront a b) (sym split) (front_before a b (take p.0 bytes) (drop p.0 bytes ++ more) p.1)

-- all of these bytes, and then a front of more
pub front_after : (a b c : Option (List ℕ)) (bytes more : List ℕ) → Appends a b bytes → AppendsFront b c more
    → AppendsFront a c (bytes ++ more)
front_after a b c bytes more p q =
    let split : bytes ++ more ≡ (bytes ++ take q.0 more) ++ drop q.0 more =
    ap (λ l. bytes ++ l) (sym (take-append-drop q.0 more)) ∙ sym (append_assoc bytes (take q.0 more) (drop q.0 more)) in
    subst (AppendsFront a c) (sym split)
    (front_before a c (bytes ++ take q.0 more) (drop q.0 more) (Appends-trans a b c bytes (take q.0 more) p q.1))

-- a front of the bytes has at least none of them
pub past_none : (a b : Option (List ℕ)) (bytes : List ℕ) → AppendsFront a b bytes → AppendsPast a b [] bytes
past_none a b bytes p = (p.0, omega arith, p.1)

-- all of these bytes, and then more
pub past_after : (a b c : Option (List ℕ)) (bytes first all : List ℕ) → Appends a b bytes → AppendsPast b c first all
    → AppendsPast a c (bytes ++ first) (bytes ++ all)
past_after a b c bytes first all p q = (
  length bytes + q.0,
  omega (arith, q.1, length-append bytes first),
  subst (Appends a c) (sym (take-append-add bytes all q.0)) (Appends-trans a b c bytes (take q.0 all) p q.2),
)

-- the same bytes, told otherwise
pub past_same : (a b : Option (List ℕ)) (first all first' all' : List ℕ) → first' ≡ first → all' ≡ all
    → AppendsPast a b first all → AppendsPast a b first' all'
past_same a b first all first' all' is_first is_all p =
    subst (λ (l : List ℕ). AppendsPast a b l all') (sym is_first)
    (subst (λ (l : List ℕ). AppendsPast a b first l) (sym is_all) p)

-- all of the bytes
pub past_whole : (a b : Option (List ℕ)) (bytes : List ℕ) → Appends a b bytes → AppendsPast a b bytes bytes
past_whole a b bytes p =
    past_same a b _ _ _ _ (sym (append-nil bytes)) (sym (append-nil bytes))
    (past_after a b b bytes [] [] p (past_none b b [] (front_none b [])))

-- a front that has at least so many bytes has at least fewer
pub past_less : (a b : Option (List ℕ)) (less first all : List ℕ) → length less ≤ length first
    → AppendsPast a b first all → AppendsPast a b less all
past_less a b less first all fewer p = (p.0, omega (arith, fewer, p.1), p.2)

-- a front of these bytes is one of more
pub past_of_more : (a b : Option (List ℕ)) (first all more : List ℕ) → length first ≤ length all
    → AppendsPast a b first all → AppendsPast a b first (all ++ more)
past_of_more a b first all more within p =
    let front = take p.0 all in
    let split : all ++ more ≡ front ++ (drop p.0 all ++ more) =
    ap (λ l. l ++ more) (sym (take-append-drop p.0 all)) ∙ append_assoc front (drop p.0 all) more in (
      length front,
      omega (arith, within, p.1, length-take p.0 all),
      subst (λ (l : List ℕ). Appends a b (take (length front) l)) (sym split)
          (subst (Appends a b) (sym (take_at front (drop p.0 all ++ more) (length front) refl)) p.2),
    )

-- what the first items lead to, and then a front of what the next one leads to
pub front_of_next : {X : Type 0} (f : X → List ℕ) (a b c : Option (List ℕ)) (items : List X) (i : ℕ) (item : X)
    → i < length items → item ≡ get_or items i item
    → Appends a b (flat_map f (take i items)) → AppendsFront b c (f item) → AppendsFront a c (flat_map f items)
front_of_next f a b c items i item within is p q =
    let first = flat_map f (take i items) in
    let next : flat_map f (take (i + 1) items) ≡ first ++ f item =
    ap (flat_map f) (take_more items i item within) ∙ flat_map-append f (take i items) (get_or items i item ∷ [])
    ∙ ap (λ x. first ++ (f x ++ [])) (sym is) ∙ ap (λ l. first ++ l) (append-nil (f item)) in
    let split : flat_map f items ≡ (first ++ f item) ++ flat_map f (drop (i + 1) items) =
    ap (flat_map f) (sym (take-append-drop (i + 1) items)) ∙ flat_map-append f (take (i + 1) items) (drop (i + 1) items)
    ∙ ap (λ l. l ++ flat_map f (drop (i + 1) items)) next in
    subst (AppendsFront a c) (sym split) (front_of_more a c (first ++ f item) (flat_map f (drop (i + 1) items))
    (front_after a b c first (f item) p q))

-- a put that failed, and one that did not
pub put_failed : {T E : Type 0} (result : Result T E) (a b : Option (List ℕ)) (bytes : List ℕ) → is_err result ≡ true
    → PutAppends a b result bytes → AppendsFront a b bytes
put_failed (Ok x) a b bytes e p = absurd (cc)
put_failed (Err x) a b bytes e p = p

pub failed_rose : {T E : Type 0} (result : Result T E) (before now : ℕ) → is_err result ≡ true
    → HasCause before now result → Rose before now
failed_rose (Ok x) before now e h = absurd (cc)
failed_rose (Err x) before now e h = h.failed

pub put_whole : {T E : Type 0} (result : Result T E) (a b : Option (List ℕ)) (bytes : List ℕ) → is_err result ≡ false
    → PutAppends a b result bytes → Appends a b bytes
put_whole (Ok x) a b bytes e p = p
put_whole (Err x) a b bytes e p = absurd (cc)
