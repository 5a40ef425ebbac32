-- What is done by marks is what a moment does to breakpoints.
use Rattle.std.proofs.Common.{◌≡◌, ◌+◌, Bool, true, false, cond, not, ◌&&◌, ◌||◌, List, [], ◌∷◌, ◌++◌, length, take, map, refl, sym, ap, ◌∙◌}
use Rattle.std.specs.Prelude.{filter}
use Rattle.std.specs.List.{list_any}
use Rattle.std.proofs.lemmas.Bool.{or_parts}
use Rattle.dp_tree.specs.declared.bundle.Bundle.{Bundle}
use Rattle.dp_state.specs.declared.moments.Moment.{Moment}
use Rattle.dp_state.specs.declared.state.State.{State}
use Rattle.dp_break.specs.declared.breakpoint.Breakpoint.{Breakpoint}
use Rattle.dp_break.specs.Hits.{hits, is_enough}
use Rattle.dp_break.specs.StopRule.{after, held_after, is_there_after, one_stops, with_more}
use Rattle.dp_break.specs.inner.Marks.{one_settled, settled, some_settled_stops, stops_once_more}
use Rattle.dp_break.proofs.CountLaws.{with_more-zero}

module _ (bundle : Bundle) (at : Moment × State) where
  abbrev pub AreMarks : List Bool → List Breakpoint → Type 0
  AreMarks marks held = take (length held) marks ≡ map (hits bundle at) held

  map_cond : (t : Bool) (b : Breakpoint) (rest : List Breakpoint)
      → map (after bundle (at ∷ [])) (cond t (b ∷ rest) rest) ≡ cond t
      (after bundle (at ∷ []) b ∷ map (after bundle (at ∷ [])) rest) (map (after bundle (at ∷ [])) rest)
  map_cond true b rest = refl
  map_cond false b rest = refl

  -- by whether it hits
  one : (b : Breakpoint) (rest : List Breakpoint) (h : Bool)
      → cond h (one_settled b) (b ∷ []) ++ rest
      ≡ cond (not (((h && is_enough b (with_more (0 + cond h 1 0) b).hits) || false) && b.temporary))
      (with_more (0 + cond h 1 0) b ∷ rest) rest
  one b rest false = ap (λ (c : Breakpoint). c ∷ rest) (sym (with_more-zero b))
  one b rest true = cases (stops_once_more b) b.temporary where
    cases : (stops temporary : Bool)
        → cond (stops && temporary) [] (with_more 1 b ∷ [])
        ++ rest ≡ cond (not ((stops || false) && temporary)) (with_more 1 b ∷ rest) rest
    cases true true = refl
    cases true false = refl
    cases false temporary = refl

  pub settled-is : (marks : List Bool) (held : List Breakpoint) → AreMarks marks held
      → settled marks held ≡ held_after bundle (at ∷ []) held
  settled-is [] [] e = refl
  settled-is (mark ∷ marks) [] e = refl
  settled-is [] (b ∷ held) e = absurd cc
  settled-is (mark ∷ marks) (b ∷ held) e =
      let here : mark ≡ hits bundle at b = cc in
      let there : AreMarks marks held = cc in
      (λ i. cond (here i) (one_settled b) (b ∷ []) ++ settled-is marks held there i)
      ∙ one b (held_after bundle (at ∷ []) held) (hits bundle at b)
      ∙ sym (map_cond (is_there_after bundle (at ∷ []) b) b (filter (is_there_after bundle (at ∷ [])) held))

  pub some-is : (marks : List Bool) (held : List Breakpoint) → AreMarks marks held
      → some_settled_stops marks held ≡ one_stops bundle held [] at
  some-is [] [] e = refl
  some-is (mark ∷ marks) [] e = refl
  some-is [] (b ∷ held) e = absurd cc
  some-is (mark ∷ marks) (b ∷ held) e =
      let here : mark ≡ hits bundle at b = cc in
      let there : AreMarks marks held = cc in
      (λ i. (here i && stops_once_more b) || some-is marks held there i)
      ∙ ap (λ (t : Bool). t || one_stops bundle held [] at) (cases (hits bundle at b)) where
        cases : (h : Bool) → (h && stops_once_more b) ≡ (h && is_enough b (with_more (0 + cond h 1 0) b).hits)
        cases true = refl
        cases false = refl

  -- ---- a moment at which none hits

  pub no_hit-held : (held : List Breakpoint) → list_any (hits bundle at) held ≡ false
      → held_after bundle (at ∷ []) held ≡ held
  no_hit-held [] e = refl
  no_hit-held (b ∷ held) e =
      let parts = or_parts (hits bundle at b) (list_any (hits bundle at) held) e in
      map_cond (is_there_after bundle (at ∷ []) b) b (filter (is_there_after bundle (at ∷ [])) held)
      ∙ sym (one b (held_after bundle (at ∷ []) held) (hits bundle at b))
      ∙ (λ i. cond (parts.0 i) (one_settled b) (b ∷ []) ++ no_hit-held held parts.1 i)

  pub no_hit-stops : (held : List Breakpoint) → list_any (hits bundle at) held ≡ false
      → one_stops bundle held [] at ≡ false
  no_hit-stops [] e = refl
  no_hit-stops (b ∷ held) e =
      let parts = or_parts (hits bundle at b) (list_any (hits bundle at) held) e in
      λ i. (parts.0 i && is_enough b (after bundle (at ∷ []) b).hits) || no_hit-stops held parts.1 i
