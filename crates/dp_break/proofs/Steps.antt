-- Marks and hits, one place after another.
use Rattle.std.proofs.Common.{◌≡◌, ℕ, suc, ◌+◌, ◌-◌, ◌<◌, ◌≤◌, Bool, false, cond, ◌&&◌, ◌||◌, List, [], ◌∷◌, ◌++◌, length, get_or, set, take, drop, refl, sym, ap, ◌∙◌, append_assoc, append-nil, arith, subst}
use Rattle.std.proofs.lemmas.List.{drop_all, drop_at, drop_more, get_or_append_left, get_or_read, get_or-take, length-take-le, set_split, take-append-le, take-take, take_all}
use Rattle.dp_break.specs.declared.breakpoint.Breakpoint.{Breakpoint}
use Rattle.dp_break.specs.StopRule.{with_more}
use Rattle.dp_break.specs.inner.Marks.{one_settled, settled, settled_one, some_settled_stops, stops_once_more}

-- ---- marks

-- ---- one hit

pub hit_left : (old : List Breakpoint) (at : ℕ) (d b now : Breakpoint) → at < length old → b ≡ get_or old at b
    → now ≡ with_more 1 b → (stops_once_more b && b.temporary) ≡ false
    → set old at now ≡ take at old ++ one_settled (get_or old at d) ++ drop (at + 1) old
hit_left old at d b now within read more stays =
    set_split old at now within
    ∙ (λ i. take at old ++ (more i ∷ drop (suc at) old))
    ∙ sym (append_assoc (take at old) (with_more 1 b ∷ []) (drop (suc at) old))
    ∙ (λ i. take at old ++ cond (sym stays i) [] (with_more 1 b ∷ []) ++ drop (one i) old)
    ∙ (λ i. take at old ++ one_settled (get_or_read old at b within read d i) ++ drop (at + 1) old) where
      one : suc at ≡ at + 1
      one = omega arith

-- ---- all marks

settled-nil : (marks : List Bool) → settled marks [] ≡ []
settled-nil [] = refl
settled-nil (mark ∷ marks) = refl

some-nil : (marks : List Bool) → some_settled_stops marks [] ≡ false
some-nil [] = refl
some-nil (mark ∷ marks) = refl

-- so far, from the last place down
pub record IsSettledTo (marks : List Bool) (old held : List Breakpoint) (stopped : Bool) (at : ℕ) : Type 0 where
  pub within : at ≤ length old
  pub left : held ≡ take at old ++ settled (drop at marks) (drop at old)
  pub stops : stopped ≡ some_settled_stops (drop at marks) (drop at old)

module _ (marks : List Bool) (old : List Breakpoint) (room : length old ≤ length marks) where
  abbrev pub Settled : List Breakpoint → Bool → ℕ → Type 0
  Settled held stopped at = IsSettledTo marks old held stopped at

  pub settled_none : (at : ℕ) → at ≡ length old → Settled old false at
  settled_none at e =
      let none : drop at old ≡ [] = drop_all at old (omega arith) in record {
        within = omega arith;
        left =
            sym ((λ i. take_all at old (omega arith) i ++ settled (drop at marks) (none i))
            ∙ ap (λ l. old ++ l) (settled-nil (drop at marks)) ∙ append-nil old);
        stops = sym (ap (some_settled_stops (drop at marks)) none ∙ some-nil (drop at marks));
      }

  module _ (n : ℕ) (held : List Breakpoint) (stopped : Bool) (s : Settled held stopped (n + 1)) where
    within_old : n < length old
    within_old = let w = s.within in omega arith

    rest : List Breakpoint
    rest = settled (drop (n + 1) marks) (drop (n + 1) old)

    some_rest : Bool
    some_rest = some_settled_stops (drop (n + 1) marks) (drop (n + 1) old)

    step_at : (d : Breakpoint) (mark : Bool) (left : List Breakpoint) (stops : Bool) → mark ≡ get_or marks n mark
        → left ≡ take n held ++ settled_one mark (get_or held n d) ++ drop (n + 1) held
        → stops ≡ (mark && stops_once_more (get_or held n d)) → Settled left (stops || stopped) n
    unfolding rest some_rest
    step_at d mark left stops read is stopping =
        let here : drop n marks ≡ mark ∷ drop (n + 1) marks = drop_more marks n mark (let w = within_old in omega arith)
        ∙ ap (λ (m : Bool). m ∷ drop (n + 1) marks) (sym read) in
        let b : Breakpoint = get_or old n d in
        let there : drop n old ≡ b ∷ drop (n + 1) old = drop_more old n d within_old in
        let front : List Breakpoint = take (n + 1) old in
        let long : length front ≡ n + 1 = length-take-le (n + 1) old s.within in
        let same_front : take n held ≡ take n old =
        ap (take n) s.left ∙ take-append-le n front rest (omega arith) ∙ take-take n (n + 1) old (omega arith)
        in
        let same_here : get_or held n d ≡ b =
        ap (λ l. get_or l n d) s.left ∙ get_or_append_left front rest d n (omega arith)
        ∙ get_or-take (n + 1) old n d (omega arith)
        in
        let same_rest : drop (n + 1) held ≡ rest = ap (drop (n + 1)) s.left
        ∙ drop_at front rest (n + 1) long in record {
          within = let w = s.within in omega arith;
          left =
              is ∙ (λ i. same_front i ++ settled_one mark (same_here i) ++ same_rest i)
              ∙ append_assoc (take n old) (settled_one mark b) rest
              ∙ sym (λ i. take n old ++ settled (here i) (there i));
          stops =
              (λ i. (stopping ∙ ap (λ (c : Breakpoint). mark && stops_once_more c) same_here) i || s.stops i)
              ∙ sym (λ i. some_settled_stops (here i) (there i));
        }

    -- there is a breakpoint
    some_one : Breakpoint
    some_one = first old within_old where
      first : (l : List Breakpoint) → n < length l → Breakpoint
      first [] w = absurd (omega arith)
      first (b ∷ l) w = b

    step : (mark : Bool) (left : List Breakpoint) (stops : Bool) → mark ≡ get_or marks n mark
        → ((d : Breakpoint) → left ≡ take n held ++ settled_one mark (get_or held n d) ++ drop (n + 1) held)
        → ((d : Breakpoint) → stops ≡ (mark && stops_once_more (get_or held n d))) → Settled left (stops || stopped) n
    step mark left stops read is stopping = step_at some_one mark left stops read (is some_one) (stopping some_one)

  module _ (at : ℕ) (some : 0 < at) (held : List Breakpoint) (stopped : Bool) (s : Settled held stopped at) where
    abbrev before : Settled held stopped (at - 1 + 1)
    before = let same : at ≡ at - 1 + 1 = omega arith in subst (λ (k : ℕ). Settled held stopped k) same s

    pub stepped : (mark : Bool) (left : List Breakpoint) (stops now : Bool) → mark ≡ get_or marks (at - 1) mark
        → ((d : Breakpoint) → left ≡ take (at - 1) held ++ settled_one mark (get_or held (at - 1) d)
        ++ drop (at - 1 + 1) held)
        → ((d : Breakpoint) → stops ≡ (mark && stops_once_more (get_or held (at - 1) d))) → (stops || stopped) ≡ now
        → Settled left now (at - 1)
    stepped mark left stops now read is stopping e =
        subst (λ (t : Bool). Settled left t (at - 1)) e (step
        (at - 1) held stopped before mark left stops read is stopping)
