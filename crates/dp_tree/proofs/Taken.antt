-- Names that are taken.
use Rattle.std.proofs.Common.{take-append-drop, take-suc, ◌≡◌, ◌⊎◌, inl, inr, ℕ, suc, ◌+◌, ◌<◌, Bool, true, false, ◌||◌, List, [], ◌∷◌, ◌++◌, length, take, drop, map, is_some, sym, refl, ap, ◌∙◌, subst, get_or, drop-cons, arith}
use Rattle.std.specs.List.{list_any}
use Rattle.std.specs.Str.{bytes_eq, str_eq_ignore_ascii_case, str_to_ascii_lowercase}
use Rattle.dp_tree.specs.declared.tree.Function.{Function}
use Rattle.dp_tree.specs.Builtins.{builtin_of}
use Rattle.dp_tree.specs.Doubles.{is_taken, HasNoDouble, IsDouble}

abbrev pub lower_name : Function → List ℕ
lower_name f = str_to_ascii_lowercase f.name

any_lower : (fs : List Function) (name : List ℕ)
    → list_any (bytes_eq (str_to_ascii_lowercase name)) (map lower_name fs) ≡ list_any
    (λ f. str_eq_ignore_ascii_case name f.name) fs
any_lower [] name = refl
any_lower (f ∷ fs) name = ap (λ b. str_eq_ignore_ascii_case name f.name || b) (any_lower fs name)

pub taken_by_keys : (fs : List Function) (name : List ℕ)
    → (is_some (builtin_of name) || list_any (bytes_eq (str_to_ascii_lowercase name)) (map lower_name fs)) ≡ is_taken fs
    name
taken_by_keys fs name = ap (λ b. is_some (builtin_of name) || b) (any_lower fs name)

-- one list behind which one item stands, cut at an item
cut_behind : {A : Type 0} (xs : List A) (x : A) (before : List A) (y : A) (after : List A)
    → xs ++ x ∷ [] ≡ before ++ y ∷ after
    → ((before ≡ xs) × (y ≡ x)) ⊎ ((rest : List A) × (xs ≡ before ++ y ∷ rest))
cut_behind [] x [] y after e = inl (refl, cc)
cut_behind {A = A} [] x (b ∷ before) y after e = absurd (nothing before (ap tail_of e))
  where
    tail_of : List A → List A
    tail_of [] = []
    tail_of (z ∷ zs) = zs

    nothing : (before : List A) → [] ≡ before ++ y ∷ after → ⊥
    nothing [] e = cc
    nothing (c ∷ cs) e = cc
cut_behind (z ∷ xs) x [] y after e = inr (xs, cc)
cut_behind {A = A} (z ∷ xs) x (b ∷ before) y after e = go (cut_behind xs x before y after (ap tail_of e))
  where
    tail_of : List A → List A
    tail_of [] = []
    tail_of (c ∷ cs) = cs

    head_same : z ≡ b
    head_same = cc

    go : ((before ≡ xs) × (y ≡ x)) ⊎ ((rest : List A) × (xs ≡ before ++ y ∷ rest))
        → ((b ∷ before ≡ z ∷ xs) × (y ≡ x)) ⊎ ((rest : List A) × (z ∷ xs ≡ b ∷ before ++ y ∷ rest))
    go (inl h) = inl (ap (λ l. b ∷ l) h.0 ∙ ap (λ c. c ∷ xs) (sym head_same), h.1)
    go (inr h) = inr (h.0, ap (λ l. z ∷ l) h.1 ∙ ap (λ c. c ∷ (before ++ y ∷ h.0)) head_same)

pub no_double_behind : (fs : List Function) (f : Function) → HasNoDouble fs → is_taken fs f.name ≡ false
    → HasNoDouble (fs ++ f ∷ [])
no_double_behind fs f none free = record { free = λ before g after e. go before g (cut_behind fs f before g after e) }
  where
    go : (before : List Function) (g : Function)
        → ((before ≡ fs) × (g ≡ f)) ⊎ ((rest : List Function) × (fs ≡ before ++ g ∷ rest))
        → is_taken before g.name ≡ false
    go before g (inl h) = ap (λ l. is_taken l g.name) h.0 ∙ ap (λ x. is_taken fs x.name) h.1 ∙ free
    go before g (inr h) = none.free before g h.0 h.1

-- the same for the function at a position
module _ (fs : List Function) (i : ℕ) (f : Function) (within : i < length fs) (at : f ≡ get_or fs i f) where
  pub taken_at : (name lower : List ℕ) (keys : List (List ℕ)) (test : Bool) → name ≡ f.name
      → lower ≡ str_to_ascii_lowercase name → keys ≡ map lower_name (take i fs) → HasNoDouble (take i fs)
      → test ≡ (is_some (builtin_of name) || list_any (bytes_eq lower) keys) → test ≡ true → IsDouble fs name
  taken_at name lower keys test named low kept none is holds = record {
    before = take i fs;
    double = f;
    after = drop (suc i) fs;
    split =
        sym (take-append-drop i fs)
        ∙ ap (λ l. take i fs ++ l) (drop-cons fs i f within ∙ ap (λ x. x ∷ drop (suc i) fs) (sym at));
    taken = ap (λ n. is_taken (take i fs) n) (sym named) ∙ sym (taken_by_keys (take i fs) name)
        ∙ ap (λ k. is_some (builtin_of name) || list_any (bytes_eq (str_to_ascii_lowercase name)) k) (sym kept)
        ∙ ap (λ l. is_some (builtin_of name) || list_any (bytes_eq l) keys) (sym low) ∙ sym is ∙ holds;
    first = none;
    named = named;
  }

  pub free_at : (name lower : List ℕ) (keys : List (List ℕ)) (test : Bool) → name ≡ f.name
      → lower ≡ str_to_ascii_lowercase name → keys ≡ map lower_name (take i fs) → HasNoDouble (take i fs)
      → test ≡ (is_some (builtin_of name) || list_any (bytes_eq lower) keys) → test ≡ false
      → HasNoDouble (take (i + 1) fs)
  free_at name lower keys test named low kept none is fails =
      let seen : take (i + 1) fs ≡ take i fs ++ f ∷ [] = ap (λ n. take n fs) (let e : i + 1 ≡ suc i = omega arith in e)
      ∙ take-suc fs i f within ∙ ap (λ x. take i fs ++ x ∷ []) (sym at) in
      let free : is_taken (take i fs) f.name ≡ false = ap (λ n. is_taken (take i fs) n) (sym named)
      ∙ sym (taken_by_keys (take i fs) name)
      ∙ ap (λ k. is_some (builtin_of name) || list_any (bytes_eq (str_to_ascii_lowercase name)) k) (sym kept)
      ∙ ap (λ l. is_some (builtin_of name) || list_any (bytes_eq l) keys) (sym low) ∙ sym is ∙ fails in
      subst HasNoDouble (sym seen) (no_double_behind (take i fs) f none free)

  pub kept_at : (keys : List (List ℕ)) → keys ≡ map lower_name (take i fs)
      → keys ++ lower_name f ∷ [] ≡ map lower_name (take (i + 1) fs)
  kept_at keys kept =
      let seen : take (i + 1) fs ≡ take i fs ++ f ∷ [] = ap (λ n. take n fs) (let e : i + 1 ≡ suc i = omega arith in e)
      ∙ take-suc fs i f within ∙ ap (λ x. take i fs ++ x ∷ []) (sym at) in
      ap (λ k. k ++ lower_name f ∷ []) kept ∙ sym (map_behind (take i fs)) ∙ ap (map lower_name) (sym seen)
    where
      map_behind : (l : List Function) → map lower_name (l ++ f ∷ []) ≡ map lower_name l ++ lower_name f ∷ []
      map_behind [] = refl
      map_behind (g ∷ gs) = ap (λ k. lower_name g ∷ k) (map_behind gs)

pub any_free : (a b : Bool) → (a || b) ≡ false → b ≡ false
any_free true b e = absurd (cc)
any_free false b e = e

-- ---- there is one first function at most whose name is taken

-- a list cut at two items: it is one cut, or one is before the other
two_cuts : {A : Type 0} (b : List A) (x : A) (a : List A) (c : List A) (y : A) (d : List A) → b ++ x ∷ a ≡ c ++ y ∷ d
    → ((b ≡ c) × (x ≡ y)) ⊎ (((rest : List A) × (c ≡ b ++ x ∷ rest)) ⊎ ((rest : List A) × (b ≡ c ++ y ∷ rest)))
two_cuts [] x a [] y d e = inl (refl, cc)
two_cuts [] x a (z ∷ c) y d e = inr (inl (c, cc))
two_cuts (z ∷ b) x a [] y d e = inr (inr (b, cc))
two_cuts {A = A} (z ∷ b) x a (w ∷ c) y d e = go (two_cuts b x a c y d (ap tail_of e))
  where
    tail_of : List A → List A
    tail_of [] = []
    tail_of (v ∷ vs) = vs

    same : z ≡ w
    same = cc

    go : ((b ≡ c) × (x ≡ y)) ⊎ (((rest : List A) × (c ≡ b ++ x ∷ rest)) ⊎ ((rest : List A) × (b ≡ c ++ y ∷ rest)))
        → ((z ∷ b ≡ w ∷ c) × (x ≡ y))
        ⊎ (((rest : List A) × (w ∷ c ≡ z ∷ b ++ x ∷ rest)) ⊎ ((rest : List A) × (z ∷ b ≡ w ∷ c ++ y ∷ rest)))
    go (inl h) = inl (ap (λ l. z ∷ l) h.0 ∙ ap (λ v. v ∷ c) same, h.1)
    go (inr (inl h)) = inr (inl (h.0, ap (λ l. w ∷ l) h.1 ∙ ap (λ v. v ∷ (b ++ x ∷ h.0)) (sym same)))
    go (inr (inr h)) = inr (inr (h.0, ap (λ l. z ∷ l) h.1 ∙ ap (λ v. v ∷ (c ++ y ∷ h.0)) same))

clash : (b : Bool) → b ≡ true → b ≡ false → ⊥
clash b e f = cc

pub double_free : (fs : List Function) (name : List ℕ) → IsDouble fs name → HasNoDouble fs → ⊥
double_free fs name d free =
    clash (is_taken d.before d.double.name) d.taken (free.free d.before d.double d.after d.split)

pub one_double : (fs : List Function) (a b : List ℕ) → IsDouble fs a → IsDouble fs b → a ≡ b
one_double fs a b d e = go (two_cuts d.before d.double d.after e.before e.double e.after (sym d.split ∙ e.split))
  where
    go : ((d.before ≡ e.before) × (d.double ≡ e.double))
        ⊎ (((rest : List Function) × (e.before ≡ d.before ++ d.double ∷ rest))
        ⊎ ((rest : List Function) × (d.before ≡ e.before ++ e.double ∷ rest))) → a ≡ b
    go (inl h) = d.named ∙ ap (λ f. f.name) h.1 ∙ sym e.named
    go (inr (inl h)) = absurd (clash (is_taken d.before d.double.name) d.taken (e.first.free d.before d.double h.0 h.1))
    go (inr (inr h)) = absurd (clash (is_taken e.before e.double.name) e.taken (d.first.free e.before e.double h.0 h.1))
