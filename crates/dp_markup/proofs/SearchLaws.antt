-- A head in which one value is sought is read as the head is.
use Rattle.std.specs.declared.ops.ControlFlow.{ControlFlow}
use Rattle.std.specs.declared.ops.ControlFlow.TheVariants.{Continue, Break}
use Rattle.std.specs.List.{list_any}
use Rattle.std.proofs.Common.{◌≡◌, ℕ, Bool, true, false, not, ◌&&◌, ◌||◌, ◌==◌, cond, List, [], ◌∷◌, ◌++◌, length, codes, Option, Some, None, Ok, Err, refl, sym, ap, ◌∙◌, eqb-true}
use Rattle.dp_grammar.specs.declared.refusal.Refusal.{Refusal}
use Rattle.dp_grammar.specs.declared.refusal.Refusal.TheVariants.{Unexpected}
use Rattle.dp_grammar.proofs.Loops.{seen_as, closed_as}
use Rattle.dp_markup.specs.declared.sought.Sought.{Sought}
use Rattle.dp_markup.specs.declared.states.Tag.{Tag}
use Rattle.dp_markup.specs.declared.states.StartTag.{StartTag}
use Rattle.dp_markup.specs.Classes.{is_white, is_quote}
use Rattle.dp_markup.specs.Rules.{passing}
use Rattle.dp_markup.specs.Grammar.{Text, Attributes, same_text, is_new, white_in_tag, attribute_in_tag, start_tag, no_attribute, value_of, root_value}
use Rattle.dp_markup.specs.inner.Input.{head, next, Outcome, Reader, and_then, gives, made, refuse, one, mark, word, tested, closed, ◌>>=◌, ◌>>◌}
use Rattle.dp_markup.specs.inner.Names.{is_unseen}
use Rattle.dp_markup.specs.inner.Readers.{same, name, spaced_mark, value_byte, value_step, quoted, value, spaced_value_step, spaced_value, attribute, tag_piece, tag_end, tag_step, start, prolog, head_of}
use Rattle.dp_markup.specs.inner.Search.{pass_step, pass_quoted, pass_value, spaced_pass_step, spaced_pass, sought_value, kept, noted, sought_attribute, white_in_sought, sought_piece, sought_of, sought_end, sought_step, nothing_sought, sought_head}

abbrev none : {A : Type 0} → A → Unit {0}
none a = tt

-- ---- values

pass_step_as : (quote : ℕ) (v : Text) (ts : List ℕ)
    → pass_step quote tt ts ≡ made (value_step quote v) (seen_as none none) ts
unfolding pass_step value_step
pass_step_as quote v ts = go (next (same quote) (head ts)) (mark quote ts) (value_byte quote ts)
  where
    go : (b : Bool) (o p : Outcome ℕ) →
        cond b (and_then (and_then o (λ _. gives tt)) (λ u. gives (Break u)))
        (and_then (and_then p (λ _. gives tt)) (λ u. gives (Continue u)))
        ≡ and_then (cond b (and_then (and_then o (λ _. gives v)) (λ w. gives (Break w)))
        (and_then (and_then p (λ c. gives (v ++ c ∷ []))) (λ w. gives (Continue w))))
        (λ (w : ControlFlow Text Text). gives (seen_as none none w))
    go true (Ok x) p = refl
    go true (Err e) p = refl
    go false o (Ok x) = refl
    go false o (Err e) = refl

pass_quoted_as : (quote : ℕ) (ts : List ℕ) → pass_quoted quote ts ≡ made (quoted quote) none ts
unfolding pass_quoted quoted
pass_quoted_as quote ts = closed_as none none (value_step quote) (pass_step quote) (pass_step_as quote) [] ts

pass_value_as : (ts : List ℕ) → pass_value ts ≡ made value none ts
unfolding pass_value value
pass_value_as ts = go (one (passing is_quote) ts)
  where
    go : (o : Outcome ℕ) → and_then o pass_quoted ≡ and_then (and_then o quoted) (λ v. gives tt)
    go (Ok x) = pass_quoted_as x.0 x.1
    go (Err e) = refl

spaced_pass_step_as : (u : Unit {0}) (ts : List ℕ)
    → spaced_pass_step u ts ≡ made (spaced_value_step u) (seen_as (λ w. w) none) ts
unfolding spaced_pass_step spaced_value_step
spaced_pass_step_as u ts =
    ap (λ o. cond (next is_quote (head ts)) (and_then o (λ w. gives (Break w)))
    (and_then (and_then (one (passing is_white) ts) (λ _. gives tt)) (λ w. gives (Continue w)))) (pass_value_as ts)
    ∙ go (next is_quote (head ts)) (value ts) (one (passing is_white) ts)
  where
    go : (b : Bool) (o : Outcome Text) (p : Outcome ℕ) →
        cond b (and_then (and_then o (λ v. gives tt)) (λ w. gives (Break w)))
        (and_then (and_then p (λ _. gives tt)) (λ w. gives (Continue w)))
        ≡ and_then (cond b (and_then o (λ v. gives (Break v)))
        (and_then (and_then p (λ _. gives tt)) (λ w. gives (Continue w))))
        (λ (w : ControlFlow Text (Unit {0})). gives (seen_as (λ x. x) none w))
    go true (Ok x) p = refl
    go true (Err e) p = refl
    go false o (Ok x) = refl
    go false o (Err e) = refl

spaced_pass_as : (ts : List ℕ) → spaced_pass ts ≡ made spaced_value none ts
unfolding spaced_pass spaced_value
spaced_pass_as ts = closed_as (λ w. w) none spaced_value_step spaced_pass_step spaced_pass_step_as tt ts

-- a value, where it is the one that is sought
abbrev wanted_of : Bool → Text → Option Text
wanted_of b v = cond b (Some v) None

sought_value_as : (b : Bool) (ts : List ℕ) → sought_value b ts ≡ made spaced_value (wanted_of b) ts
unfolding sought_value
sought_value_as true ts = refl
sought_value_as false ts =
    ap (λ o. and_then o (λ _. gives {A = Option Text} None)) (spaced_pass_as ts) ∙ go (spaced_value ts)
  where
    go : (o : Outcome Text)
        → and_then (and_then o (λ v. gives (none v))) (λ _. gives {A = Option Text} None) ≡ and_then o
        (λ v. gives {A = Option Text} None)
    go (Ok x) = refl
    go (Err e) = refl

-- ---- what is kept of attributes

abbrev names_of : Attributes → List (Text × Unit {0})
names_of [] = []
names_of (a ∷ found) = (a.0, tt) ∷ names_of found

names_behind : (found : Attributes) (n v : Text) → names_of found ++ (n, tt) ∷ [] ≡ names_of (found ++ (n, v) ∷ [])
names_behind [] n v = refl
names_behind (a ∷ found) n v = ap (λ l. (a.0, tt) ∷ l) (names_behind found n v)

any_name : (found : Attributes) (n : Text)
    → list_any (λ x. same_text x.0 n) (names_of found) ≡ list_any (λ a. same_text a.0 n) found
any_name [] n = refl
any_name (a ∷ found) n = ap (λ b. same_text a.0 n || b) (any_name found n)

text_is : (a b : Text) → same_text a b ≡ true → a ≡ b
text_is [] [] e = refl
text_is [] (c ∷ cs) e = absurd (cc)
text_is (b ∷ bs) [] e = absurd (cc)
text_is (b ∷ bs) (c ∷ cs) e = go (b == c) refl (text_is bs cs) e
  where
    go : (t : Bool) → (b == c) ≡ t → (same_text bs cs ≡ true → bs ≡ cs) → (t && same_text bs cs) ≡ true
        → b ∷ bs ≡ c ∷ cs
    go true is rest more = (λ i. eqb-true b c is i ∷ rest more i)
    go false is rest more = absurd (cc)

value_behind : (found : Attributes) (n v wanted : Text) → is_new found n ≡ true
    → kept (value_of found wanted) (wanted_of (same_text n wanted) v) ≡ value_of (found ++ (n, v) ∷ []) wanted
value_behind [] n v wanted new = go (same_text n wanted)
  where
    go : (b : Bool) → kept None (wanted_of b v) ≡ cond b (Some v) None
    go true = refl
    go false = refl
value_behind (a ∷ found) n v wanted new = apart (value_behind found n v wanted) (same_text a.0 n) refl new
  where
    other : (b : Bool) → same_text n wanted ≡ b → same_text a.0 wanted ≡ true → same_text a.0 n ≡ false
        → kept (Some a.1) (wanted_of b v) ≡ Some a.1
    other true is here away =
        let f : same_text a.0 n ≡ true = ap (λ t. same_text a.0 t) (text_is n wanted is) ∙ here in absurd (cc)
    other false is here away = refl

    here : (is_new found n ≡ true
        → kept (value_of found wanted) (wanted_of (same_text n wanted) v) ≡ value_of (found ++ (n, v) ∷ []) wanted)
        → (b : Bool) → same_text a.0 wanted ≡ b → same_text a.0 n ≡ false → is_new found n ≡ true
        → kept (cond b (Some a.1) (value_of found wanted)) (wanted_of (same_text n wanted) v) ≡ cond b (Some a.1)
        (value_of (found ++ (n, v) ∷ []) wanted)
    here again true is away new = other (same_text n wanted) refl is away
    here again false is away new = again new

    apart : (is_new found n ≡ true
        → kept (value_of found wanted) (wanted_of (same_text n wanted) v) ≡ value_of (found ++ (n, v) ∷ []) wanted)
        → (b : Bool) → same_text a.0 n ≡ b → not (b || list_any (λ x. same_text x.0 n) found) ≡ true
        → kept (cond (same_text a.0 wanted) (Some a.1) (value_of found wanted))
        (wanted_of (same_text n wanted) v) ≡ cond (same_text a.0 wanted) (Some a.1)
        (value_of (found ++ (n, v) ∷ []) wanted)
    apart again true is new = absurd (cc)
    apart again false is new = here again (same_text a.0 wanted) refl is new

err_is : {A : Type 0} (s r : Refusal) → ◌≡◌ {A = Outcome A} (Err s) (Err r) → s ≡ r
err_is s r e = cc

module _ (root wanted : Text) where
  abbrev seen : Tag → Sought
  seen t = record { names = names_of t.found; value = value_of t.found wanted; apart = t.apart }

  abbrev found_in : StartTag → Option Text
  found_in tag = root_value tag root wanted

  noted_as : (t : Tag) (n v : Text) → is_new t.found n ≡ true
      → noted (seen t) n (wanted_of (same_text n wanted) v) ≡ seen (attribute_in_tag (t.found ++ (n, v) ∷ []))
  noted_as t n v new =
      λ i. record { names = names_behind t.found n v i; value = value_behind t.found n v wanted new i; apart = false }

  -- ---- one attribute

  abbrev rest_of : Tag → Text → Reader Sought
  rest_of t n = spaced_mark 61 >> made (sought_value (same_text n wanted)) (noted (seen t) n)

  abbrev whole_of : Attributes → Text → Reader Attributes
  whole_of found n = spaced_mark 61 >> made spaced_value (λ v. found ++ (n, v) ∷ [])

  attribute_as : (t : Tag) (ts : List ℕ)
      → sought_attribute wanted (seen t) ts ≡ made (made (attribute t.found) attribute_in_tag) seen ts
  unfolding sought_attribute attribute
  attribute_as t ts = named (name ts)
    where
      valued : (n : Text) → is_new t.found n ≡ true → (o : Outcome Text)
          → and_then (and_then o (λ v. gives (wanted_of (same_text n wanted) v)))
          (λ w. gives (noted (seen t) n w)) ≡ and_then (and_then (and_then o (λ v. gives (t.found ++ (n, v) ∷ [])))
          (λ f. gives (attribute_in_tag f))) (λ x. gives (seen x))
      valued n new (Ok x) = ap (λ s. Ok (s, x.1)) (noted_as t n x.0 new)
      valued n new (Err e) = refl

      spaced : (n : Text) → is_new t.found n ≡ true → (o : Outcome ℕ)
          → and_then o (λ _. made (sought_value (same_text n wanted)) (noted (seen t) n)) ≡ and_then
          (and_then (and_then o (λ _. made spaced_value (λ v. t.found ++ (n, v) ∷ [])))
          (λ f. gives (attribute_in_tag f))) (λ x. gives (seen x))
      spaced n new (Ok x) =
          ap (λ o. and_then o (λ w. gives (noted (seen t) n w))) (sought_value_as (same_text n wanted) x.1)
          ∙ valued n new (spaced_value x.1)
      spaced n new (Err e) = refl

      new_one : (n : Text) (us : List ℕ) (b : Bool) → is_new t.found n ≡ b
          → and_then (cond b (Ok (n, us)) (Err (Unexpected (length us)))) (rest_of t) ≡ and_then
          (and_then (and_then (cond b (Ok (n, us)) (Err (Unexpected (length us)))) (whole_of t.found))
          (λ f. gives (attribute_in_tag f))) (λ x. gives (seen x))
      new_one n us true new = spaced n new (spaced_mark 61 us)
      new_one n us false new = refl

      named : (o : Outcome Text)
          → and_then (and_then o (tested (is_unseen (names_of t.found)))) (rest_of t) ≡ and_then
          (and_then (and_then (and_then o (tested (is_new t.found))) (whole_of t.found))
          (λ f. gives (attribute_in_tag f))) (λ x. gives (seen x))
      named (Ok x) =
          ap (λ b. and_then (cond (not b) (Ok (x.0, x.1)) (Err (Unexpected (length x.1)))) (rest_of t))
          (any_name t.found x.0) ∙ new_one x.0 x.1 (is_new t.found x.0) refl
      named (Err e) = refl

  -- ---- start tags

  piece_as : (t : Tag) (ts : List ℕ) → sought_piece wanted (seen t) ts ≡ made (tag_piece t) seen ts
  unfolding sought_piece tag_piece refuse
  piece_as t ts =
      ap (λ o. cond (next is_white (head ts)) (and_then (one (passing is_white) ts)
      (λ _. gives (white_in_sought (seen t)))) (cond t.apart o (Err (Unexpected (length ts))))) (attribute_as t ts)
      ∙ go (next is_white (head ts)) t.apart (one (passing is_white) ts) (made (attribute t.found) attribute_in_tag ts)
    where
      go : (b c : Bool) (o : Outcome ℕ) (p : Outcome Tag)
          → cond b (and_then o (λ _. gives (white_in_sought (seen t))))
          (cond c (and_then p (λ x. gives (seen x))) (Err (Unexpected (length ts))))
          ≡ and_then (cond b (and_then o (λ _. gives (white_in_tag t))) (cond c p (Err (Unexpected (length ts)))))
          (λ x. gives (seen x))
      go true c (Ok x) p = refl
      go true c (Err e) p = refl
      go false true o p = refl
      go false false o p = refl

  end_as : (n : Text) (t : Tag) (ts : List ℕ)
      → sought_end (same_text n root) (seen t) ts ≡ made (tag_end n t) found_in ts
  unfolding sought_end tag_end
  end_as n t ts = go (next (same 62) (head ts)) (mark 62 ts) (word (codes "/>") ts)
    where
      go : (b : Bool) (o : Outcome ℕ) (p : Outcome (Unit {0}))
          → cond b (and_then o (λ _. gives (sought_of (same_text n root) (seen t))))
          (and_then p (λ _. gives (sought_of (same_text n root) (seen t))))
          ≡ and_then (cond b (and_then o (λ _. gives (start_tag n false t)))
          (and_then p (λ _. gives (start_tag n true t)))) (λ x. gives (found_in x))
      go true (Ok x) p = refl
      go true (Err e) p = refl
      go false o (Ok x) = refl
      go false o (Err e) = refl

  step_as : (n : Text) (t : Tag) (ts : List ℕ)
      → sought_step (same_text n root) wanted (seen t) ts ≡ made (tag_step n t) (seen_as seen found_in) ts
  unfolding sought_step tag_step
  step_as n t ts =
      (λ i. cond (next (λ b. b == 62 || b == 47) (head ts)) (and_then (end_as n t ts i) (λ v. gives (Break v)))
      (and_then (piece_as t ts i) (λ s. gives (Continue s))))
      ∙ go (next (λ b. b == 62 || b == 47) (head ts)) (tag_end n t ts) (tag_piece t ts)
    where
      go : (b : Bool) (o : Outcome StartTag) (p : Outcome Tag)
          → cond b (and_then (and_then o (λ x. gives (found_in x))) (λ v. gives (Break v)))
          (and_then (and_then p (λ x. gives (seen x))) (λ s. gives (Continue s)))
          ≡ and_then (cond b (and_then o (λ x. gives (Break x))) (and_then p (λ x. gives (Continue x))))
          (λ w. gives (seen_as seen found_in w))
      go true (Ok x) p = refl
      go true (Err e) p = refl
      go false o (Ok x) = refl
      go false o (Err e) = refl

  -- the whole head
  head_as : (ts : List ℕ) → sought_head root wanted ts ≡ made head_of found_in ts
  unfolding sought_head head_of start
  head_as ts = behind (prolog ts)
    where
      named : (o : Outcome Text)
          → and_then o (λ n. closed (sought_step (same_text n root) wanted) nothing_sought) ≡ and_then
          (and_then o (λ n. closed (tag_step n) no_attribute)) (λ x. gives (found_in x))
      named (Ok x) =
          closed_as seen found_in (tag_step x.0) (sought_step (same_text x.0 root) wanted)
          (step_as x.0) no_attribute x.1
      named (Err e) = refl

      behind : (o : Outcome ℕ)
          → and_then o (λ _. name >>= (λ n. closed (sought_step (same_text n root) wanted) nothing_sought)) ≡ and_then
          (and_then o (λ _. name >>= (λ n. closed (tag_step n) no_attribute))) (λ x. gives (found_in x))
      behind (Ok x) = named (name x.1)
      behind (Err e) = refl

  pub sought_found : (ts : List ℕ) (v : Option Text) (new : List ℕ) → sought_head root wanted ts ≡ Ok (v, new)
      → (tag : StartTag) × (head_of ts ≡ Ok (tag, new)) × (v ≡ root_value tag root wanted)
  sought_found ts v new is = go (head_of ts) refl (sym (head_as ts) ∙ is)
    where
      go : (o : Outcome StartTag) → head_of ts ≡ o → and_then o (λ x. gives (found_in x)) ≡ Ok (v, new)
          → (tag : StartTag) × (head_of ts ≡ Ok (tag, new)) × (v ≡ root_value tag root wanted)
      go (Ok x) so e =
          let y : Option Text × List ℕ = (found_in x.0, x.1) in let z : Option Text
          × List ℕ = (v, new) in let p : y ≡ z = cc in (
            x.0,
            so
                ∙ (λ i. Ok (x.0, (ap (λ q. q.1) p) i)),
            sym (ap (λ q. q.0) p),
          )
      go (Err r) so e = absurd (cc)

  pub sought_refused : (ts : List ℕ) (r : Refusal) → sought_head root wanted ts ≡ Err r → head_of ts ≡ Err r
  sought_refused ts r is = go (head_of ts) refl (sym (head_as ts) ∙ is)
    where
      go : (o : Outcome StartTag) → head_of ts ≡ o → and_then o (λ x. gives (found_in x)) ≡ Err r → head_of ts ≡ Err r
      go (Ok x) so e = absurd (cc)
      go (Err s) so e = so ∙ ap Err (err_is s r e)
