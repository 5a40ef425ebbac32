-- What the outcome of a reader of all symbols says of the rule: what is spelled, and with which symbol nothing is.
use Rattle.std.proofs.Common.{◌≡◌, inl, inr, ℕ, zero, suc, ◌+◌, ◌-◌, ◌<◌, ◌≤◌, Bool, true, false, None, List, [], ◌∷◌, ◌++◌, length, take, Ok, Err, sym, refl, ap, ◌∙◌, subst, append_assoc, append-nil, length-append, arith}
use Rattle.dp_grammar.specs.declared.refusal.Refusal.TheVariants.{Unexpected, TooDeep, Memory}
use Rattle.dp_grammar.specs.inner.Input.{Outcome, Reader}
use Rattle.dp_grammar.specs.Refused.{IsViable, IsDeadAt, IsUnexpected, IsTooDeep}
use Rattle.dp_grammar.proofs.Answers.{Rules, Stop, Begins, IsRead, IsRefused, Agrees, Answers}

-- ---- fronts of lists

take_all : {A : Type 0} (xs : List A) → take (length xs) xs ≡ xs
take_all [] = refl
take_all (x ∷ xs) = ap (λ l. x ∷ l) (take_all xs)

take_front : {A : Type 0} (xs ys : List A) → take (length xs) (xs ++ ys) ≡ xs
take_front [] ys = refl
take_front (x ∷ xs) ys = ap (λ l. x ∷ l) (take_front xs ys)

take_one_more : {A : Type 0} (xs : List A) (y : A) (ys : List A)
    → take (length xs + 1) (xs ++ (y ∷ ys)) ≡ xs ++ (y ∷ [])
take_one_more [] y ys = refl
take_one_more (x ∷ xs) y ys =
    let e : length (x ∷ xs) + 1 ≡ suc (length xs + 1) = omega arith in
    ap (λ n. take n ((x ∷ xs) ++ (y ∷ ys))) e ∙ ap (λ l. x ∷ l) (take_one_more xs y ys)

take_take : {A : Type 0} (n m : ℕ) (xs : List A) → n ≤ m → (back : List A) × (take m xs ≡ take n xs ++ back)
take_take zero m xs less = (take m xs, refl)
take_take (suc n) zero xs less = absurd (omega arith)
take_take (suc n) (suc m) [] less = ([], refl)
take_take (suc n) (suc m) (x ∷ xs) less = let w = take_take n m xs (omega arith) in (w.0, ap (λ l. x ∷ l) w.1)

-- ---- of a tree, an unexpected symbol and a symbol too deep there is one at most

module _ {T L A : Type 0} (rule : L → List T → A → Type 0) where
  -- with a front of what is viable nothing is wrong
  shorter_viable : (level : L) (n m : ℕ) (ts : List T) → n ≤ m → IsViable rule level (take m ts)
      → IsViable rule level (take n ts)
  shorter_viable level n m ts less v =
      let w = take_take n m ts less in (
        w.0
            ++ v.0,
        v.1,
        subst (λ l. rule level l v.1) (ap (λ l. l ++ v.0) w.1 ∙ append_assoc (take n ts) w.0 v.0) v.2,
      )

  spelled_viable : (level : L) (n : ℕ) (ts : List T) (a : A) → n ≤ length ts → rule level ts a
      → IsViable rule level (take n ts)
  spelled_viable level n ts a less h =
      shorter_viable level n (length ts) ts less (
        [],
        a,
        subst (λ l. rule level l a)
            (sym (append-nil (take (length ts) ts) ∙ take_all ts)) h,
      )

  -- behind a dead symbol nothing is viable
  dead_before : (level : L) (at other : ℕ) (ts : List T) → IsDeadAt rule level ts at → at < other → other ≤ length ts
      → IsViable rule level (take other ts) → ⊥
  dead_before level at other ts dead less within v =
      dead.here (omega arith) (shorter_viable level (at + 1) other ts (omega arith) v)

  -- nor is anything spelled
  dead_spelled : (level : L) (at : ℕ) (ts : List T) (a : A) → at ≤ length ts → IsDeadAt rule level ts at
      → rule level ts a → ⊥
  dead_spelled level at ts a within dead h = go (length ts - at) refl
    where
      go : (rest : ℕ) → length ts - at ≡ rest → ⊥
      go zero e = dead.end (omega arith) (a, h)
      go (suc rest) e = dead.here (omega arith) (spelled_viable level (at + 1) ts a (omega arith) h)

  -- With an unexpected symbol nothing is spelled, however deep it nests.
  pub unexpected_spelled : (limits level : L) (at : ℕ) (ts : List T) (a : A) → IsUnexpected rule limits ts at
      → rule level ts a → ⊥
  unexpected_spelled limits level at ts a u h = dead_spelled level at ts a u.within (u.dead level) h

  -- With a symbol too deep nothing is spelled within the limits.
  pub too_deep_spelled : (limits : L) (at : ℕ) (ts : List T) (a : A) → IsTooDeep rule limits ts at → rule limits ts a
      → ⊥
  too_deep_spelled limits at ts a d h = d.here (spelled_viable limits (at + 1) ts a (let w = d.within in omega arith) h)

  pub one_unexpected : (limits : L) (at other : ℕ) (ts : List T) → IsUnexpected rule limits ts at
      → IsUnexpected rule limits ts other → at ≡ other
  one_unexpected limits at other ts f g = go (at - other) (other - at) refl refl
    where
      go : (m n : ℕ) → at - other ≡ m → other - at ≡ n → at ≡ other
      go zero zero d e = omega arith
      go zero (suc n) d e = absurd (dead_before limits at other ts (f.dead limits) (omega arith) g.within g.before)
      go (suc m) n d e = absurd (dead_before limits other at ts (g.dead limits) (omega arith) f.within f.before)

  pub one_too_deep : (limits : L) (at other : ℕ) (ts : List T) → IsTooDeep rule limits ts at
      → IsTooDeep rule limits ts other → at ≡ other
  one_too_deep limits at other ts f g = go (at - other) (other - at) refl refl
    where
      go : (m n : ℕ) → at - other ≡ m → other - at ≡ n → at ≡ other
      go zero zero d e = omega arith
      go zero (suc n) d e = absurd (f.here (shorter_viable limits (at + 1) other ts (omega arith) g.before))
      go (suc m) n d e = absurd (g.here (shorter_viable limits (other + 1) at ts (omega arith) f.before))

  pub not_both : (limits : L) (at other : ℕ) (ts : List T) → IsUnexpected rule limits ts at
      → IsTooDeep rule limits ts other → ⊥
  not_both limits at other ts f g = go (at - other) (other - at) refl refl
    where
      go : (m n : ℕ) → at - other ≡ m → other - at ≡ n → ⊥
      go zero zero d e =
          let same : at ≡ other = omega arith in (f.dead g.beyond.0).here (let w = g.within in omega arith)
          (subst (λ n. IsViable rule g.beyond.0 (take (n + 1) ts)) (sym same) g.beyond.1)
      go zero (suc n) d e =
          dead_before limits at other ts (f.dead limits) (omega arith) (let w = g.within in omega arith) g.before
      go (suc m) n d e = g.here (shorter_viable limits (other + 1) at ts (omega arith) f.before)

-- ---- the refusals of a reader

-- `texts m` are what is read; a spelling of the rule is one, and each begins with one, which may end there.
module _ {T L A : Type 0} (Above : L → L → Type 0) (rule texts : Rules T L A) (stop : Stop T A) (limits : L)
    (to : (m : L) (ts : List T) (a : A) → rule m ts a → texts m ts a)
    (fro : (m : L) (ts : List T) (a : A) → texts m ts a → (r : List T) × Begins rule stop m ts a r)
    (p : Reader T A) (answers : (ts : List T) → Answers Above rule stop limits ts (p ts))
    (some : (ts : List T) × (a : A) × rule limits ts a) where
  module _ (ts : List T) (deep : Bool) (left : ℕ) (refused : IsRefused Above rule stop limits ts deep left) where
    lengths : length ts ≡ length refused.front + left
    lengths =
        let e = ap length refused.split in let f = length-append refused.front refused.rest in let g = refused.is_left
        in omega (arith, e, f, g)

    place_is : length ts - left ≡ length refused.front
    place_is = let e = lengths in omega (arith, e)

    front_is : take (length ts - left) ts ≡ refused.front
    front_is = (λ i. take (place_is i) (refused.split i)) ∙ take_front refused.front refused.rest

    one_more_is : (x : T) (after : List T) → refused.rest ≡ x ∷ after
        → take (length ts - left + 1) ts ≡ refused.front ++ (x ∷ [])
    one_more_is x after e =
        (λ i. take (place_is i + 1) ((refused.split ∙ ap (λ l. refused.front ++ l) e) i))
        ∙ take_one_more refused.front x after

    viable_before : IsViable texts limits (take (length ts - left) ts)
    viable_before = subst (λ l. IsViable texts limits l) (sym front_is) (elim refused.viable [
      | inl empty ↦ (
        some.0,
        some.1,
        subst (λ l. texts limits (l ++ some.0) some.1) (sym empty)
            (to limits some.0 some.1 some.2),
      )
      | inr more ↦ (more.0, more.1, to limits (refused.front ++ more.0) more.1 more.2)
    ])

    none : (m : L) → (deep ≡ true → m ≡ limits) → (us : List T) → Agrees refused.front refused.rest us → (a : A)
        → texts m us a → ⊥
    none m bound us agrees a h = let f = fro m us a h in refused.dead m bound us agrees a f.0 f.1

    dead_at : (m : L) → (deep ≡ true → m ≡ limits) → IsDeadAt texts m ts (length ts - left)
    dead_at m bound = go refused.rest refl
      where
        go : (rest : List T) → refused.rest ≡ rest → IsDeadAt texts m ts (length ts - left)
        go [] is = record {
          here =
              λ within v. absurd (let e = lengths in let f = ap length is in let g = refused.is_left in omega
              (arith, e, f, g));
          end = λ at s. none m bound ts (subst (λ l. Agrees refused.front l ts) (sym is)
              (refused.split ∙ ap (λ l. refused.front ++ l) is ∙ append-nil refused.front)) s.0 s.1;
        }
        go (x ∷ after) is = record {
          here = λ within v.
              none m bound (take (length ts - left + 1) ts ++ v.0)
              (subst (λ l. Agrees refused.front l (take (length ts - left + 1) ts ++ v.0)) (sym is)
              (v.0, ap (λ l. l ++ v.0) (one_more_is x after is) ∙ append_assoc refused.front (x ∷ []) v.0)) v.1 v.2;
          end = λ at s. absurd (let e = lengths in let f = ap length is in let g = refused.is_left in omega
              (arith, at, e, f, g));
        }

    left_within : left ≤ length ts
    left_within = let e = lengths in omega (arith, e)

  pub first_unexpected : (ts : List T) (left : ℕ) → p ts ≡ Err (Unexpected left)
      → (left ≤ length ts) × IsUnexpected texts limits ts (length ts - left)
  first_unexpected ts left is =
      let refused : IsRefused Above rule stop limits ts false left = subst (λ o. Answers Above rule stop limits ts o) is
      (answers ts) in (
        left_within ts false left refused,
        record {
          within = omega arith;
          before = viable_before ts false left refused;
          dead = λ m. dead_at ts false left refused m (λ deep. absurd (cc));
        },
      )

  pub first_too_deep : (ts : List T) (left : ℕ) → p ts ≡ Err (TooDeep left)
      → (left ≤ length ts) × IsTooDeep texts limits ts (length ts - left)
  first_too_deep ts left is =
      let refused : IsRefused Above rule stop limits ts true left = subst (λ o. Answers Above rule stop limits ts o) is
      (answers ts) in
      let w = refused.beyond refl in
      let less : length ts - left < length ts = (let e = lengths ts true left refused in let f = ap length w.6 in let g
      = refused.is_left in omega (arith, e, f, g)) in (
        left_within ts true left refused,
        record {
          within = less;
          before = viable_before ts true left refused;
          here = (dead_at ts true left refused limits (λ _. refl)).here less;
          beyond = (
            w.0,
            (
              w.4,
              w.5,
              subst (λ l. texts w.0 l w.5) (sym
                  (ap (λ l. l ++ w.4) (one_more_is ts true left refused w.2 w.3 w.6)
                  ∙ append_assoc refused.front (w.2 ∷ []) w.4)) (to w.0 (refused.front ++ (w.2 ∷ w.4)) w.5 w.7),
            ),
          );
        },
      )

-- ---- the outcome of a reader that leaves no symbol unread

-- The reader reads the rule within these limits, up to the end of the symbols.
pub record ReadsAll {T L A : Type 0} (Above : L → L → Type 0) (rule : Rules T L A) (stop : Stop T A) (limits : L)
    (p : Reader T A) : Type 0 where
  pub same_level : Above limits limits
  pub stops : (a : A) → stop a None ≡ true
  pub answers : (ts : List T) → Answers Above rule stop limits ts (p ts)
  pub leaves_none : (ts : List T) (a : A) (r : List T) → p ts ≡ Ok (a, r) → r ≡ []
  pub some : (ts : List T) × (a : A) × rule limits ts a

module _ {T L A : Type 0} {Above : L → L → Type 0} {rule : Rules T L A} {stop : Stop T A} {limits : L} {p : Reader T A}
    (reader : ReadsAll Above rule stop limits p) where
  -- the whole list begins with its spelling
  begins_whole : (m : L) (ts : List T) (a : A) → rule m ts a → Begins rule stop m ts a []
  begins_whole m ts a h = record { text = ts; split = sym (append-nil ts); spelled = h; stops = reader.stops a }

  -- ---- what is found

  module _ (ts : List T) (a : A) (r : List T) (is : p ts ≡ Ok (a, r)) where
    read_is : IsRead Above rule stop limits ts a r
    read_is = subst (λ o. Answers Above rule stop limits ts o) is (reader.answers ts)

    whole_text : ts ≡ read_is.text
    whole_text = read_is.split ∙ ap (λ l. read_is.text ++ l) (reader.leaves_none ts a r is) ∙ append-nil read_is.text

    -- it is spelled
    pub found : rule limits ts a
    found = subst (λ l. rule limits l a) (sym whole_text) (read_is.spelled limits reader.same_level)

    -- and nothing else is, however deep it nests
    pub only : (m : L) (b : A) → rule m ts b → b ≡ a
    only m b h =
        (read_is.only m r refl b [] (subst (λ l. Begins rule stop m l b []) read_is.split (begins_whole m ts b h))).0

  -- ---- refusals

  pub unexpected : (ts : List T) (left : ℕ) → p ts ≡ Err (Unexpected left)
      → (left ≤ length ts) × IsUnexpected rule limits ts (length ts - left)
  unexpected =
      first_unexpected Above rule rule stop limits (λ m ts a h. h)
      (λ m ts a h. ([], begins_whole m ts a h)) p reader.answers reader.some

  pub too_deep : (ts : List T) (left : ℕ) → p ts ≡ Err (TooDeep left)
      → (left ≤ length ts) × IsTooDeep rule limits ts (length ts - left)
  too_deep =
      first_too_deep Above rule rule stop limits (λ m ts a h. h)
      (λ m ts a h. ([], begins_whole m ts a h)) p reader.answers reader.some

  pub no_memory : (ts : List T) → p ts ≡ Err Memory → ⊥
  no_memory ts is = subst (λ o. Answers Above rule stop limits ts o) is (reader.answers ts)

  -- ---- the other way: each of the three decides the outcome

  -- what is spelled within the limits is found
  pub all_found : (ts : List T) (a : A) → rule limits ts a → p ts ≡ Ok (a, [])
  all_found ts a h = go (p ts) refl
    where
      go : (o : Outcome T A) → p ts ≡ o → p ts ≡ Ok (a, [])
      go (Ok x) is =
          let one = only ts x.0 x.1 is limits a h in let end = reader.leaves_none ts x.0 x.1 is in is
          ∙ (λ i. Ok (sym one i, end i))
      go (Err (Unexpected left)) is =
          absurd (unexpected_spelled rule limits limits (length ts - left) ts a (unexpected ts left is).1 h)
      go (Err (TooDeep left)) is =
          absurd (too_deep_spelled rule limits (length ts - left) ts a (too_deep ts left is).1 h)
      go (Err Memory) is = absurd (no_memory ts is)

  pub all_unexpected : (ts : List T) (at : ℕ) → IsUnexpected rule limits ts at
      → p ts ≡ Err (Unexpected (length ts - at))
  all_unexpected ts at u = go (p ts) refl
    where
      go : (o : Outcome T A) → p ts ≡ o → p ts ≡ Err (Unexpected (length ts - at))
      go (Ok x) is = absurd (unexpected_spelled rule limits limits at ts x.0 u (found ts x.0 x.1 is))
      go (Err (Unexpected left)) is =
          let v = unexpected ts left is in
          let e = one_unexpected rule limits at (length ts - left) ts u v.1 in
          let f : left ≡ length ts - at = (let w = v.0 in omega (arith, e, w)) in
          is ∙ ap (λ n. Err (Unexpected n)) f
      go (Err (TooDeep left)) is = absurd (not_both rule limits at (length ts - left) ts u (too_deep ts left is).1)
      go (Err Memory) is = absurd (no_memory ts is)

  pub all_too_deep : (ts : List T) (at : ℕ) → IsTooDeep rule limits ts at → p ts ≡ Err (TooDeep (length ts - at))
  all_too_deep ts at d = go (p ts) refl
    where
      go : (o : Outcome T A) → p ts ≡ o → p ts ≡ Err (TooDeep (length ts - at))
      go (Ok x) is = absurd (too_deep_spelled rule limits at ts x.0 d (found ts x.0 x.1 is))
      go (Err (Unexpected left)) is = absurd (not_both rule limits (length ts - left) at ts (unexpected ts left is).1 d)
      go (Err (TooDeep left)) is =
          let v = too_deep ts left is in
          let e = one_too_deep rule limits at (length ts - left) ts d v.1 in
          let f : left ≡ length ts - at = (let w = v.0 in omega (arith, e, w)) in
          is ∙ ap (λ n. Err (TooDeep n)) f
      go (Err Memory) is = absurd (no_memory ts is)

  -- what is spelled within the limits is the only thing spelled, however deep another nests
  pub one_tree : (m : L) (ts : List T) (a b : A) → rule limits ts a → rule m ts b → a ≡ b
  one_tree m ts a b h g = sym (only ts a [] (all_found ts a h) m b g)
