-- The event that a line is read as is the one that it spells.
use Rattle.std.proofs.Common.{◌≡◌, ◌⊎◌, ℕ, ◌≤◌, Bool, true, false, List, [], ◌∷◌, ◌++◌}
use Rattle.std.proofs.Common.{Option, Some, None, option_map, codes, decimal, refl, sym, ap, subst, ◌∙◌, inl, inr}
use Rattle.std.proofs.Common.{append_assoc, arith}
use Rattle.std.proofs.lemmas.Option.{same_Some}
use Rattle.std.proofs.lemmas.Slice.Eq.{bytes_eq-Decides}
use Rattle.std.specs.Str.{bytes_eq}
use Rattle.dp_outside.specs.Names.{host_limit, is_name, key_limit}
use Rattle.dp_outside.proofs.NameLaws.{name_again, name_is}
use Rattle.dp_bytes.specs.Decimals.{decimal_in}
use Rattle.dp_grammar.specs.Lines.{has_no_blank}
use Rattle.dp_events.specs.declared.event.Act.{Act}
use Rattle.dp_events.specs.declared.event.Act.TheVariants.{Ide, Engine, Give, Move, Close}
use Rattle.dp_events.specs.declared.event.Event.{Event}
use Rattle.dp_events.specs.Lists.{named, named_with, hex, Spells, IsFormed, link_limit}
use Rattle.dp_events.specs.inner.Spelling.{word_of, part_of, name_in, bytes_in, act_alone, act_with, act_in, link_in}
use Rattle.dp_events.specs.inner.Spelling.{event_by, event_in, greatest_count, spelled}
use Rattle.dp_events.proofs.HexLaws.{hex_again, hex_is}
use Rattle.dp_events.proofs.WordLaws.{word_before, part_behind, word_alone, no_part, with_part, without_part}
use Rattle.dp_events.proofs.WordLaws.{number_again, number_is, number_blank, link_again, link_is}

-- ---- a line that is spelled is read

with_named : (word : List ℕ) (link : ℕ) (part : List ℕ)
    → named_with word link part ≡ word ++ 32 ∷ (decimal link ++ 32 ∷ part)
with_named word link part = simp append_assoc

alone_named : (word : List ℕ) (link : ℕ) → named word link ≡ word ++ 32 ∷ decimal link
alone_named word link = simp append_assoc

module _ (word : List ℕ) (link : ℕ) (blank : has_no_blank word ≡ true) (some : 1 ≤ link)
    (within : link ≤ link_limit) where
  free : has_no_blank (decimal link) ≡ true
  free = number_blank link (omega arith)

  again_with : (part : List ℕ) → spelled (named_with word link part) ≡ event_by link (act_with word part)
  unfolding spelled
  again_with part =
      let rest : List ℕ = decimal link ++ 32 ∷ part in
      rw (
        with_named word link part,
        part_behind word blank rest,
        word_before word blank rest,
        word_before (decimal link) free part,
        part_behind (decimal link) free part,
        link_again link some within,
      ) refl

  again_alone : spelled (named word link) ≡ event_by link (act_alone word)
  unfolding spelled
  again_alone =
      rw (
        alone_named word link,
        part_behind word blank (decimal link),
        word_before word blank (decimal link),
        word_alone (decimal link) free,
        no_part (decimal link) free,
        link_again link some within,
      ) refl

pub spelled_again : (line : List ℕ) (link : ℕ) (act : Act) → Spells line link act → 1 ≤ link → link ≤ link_limit
    → IsFormed act
    → spelled line ≡ Some (record { link = link; act = act })
spelled_again line link (Ide host) s some within formed =
    rw (s, again_with (codes "ide") link refl some within host) (rw (name_again host_limit host formed) refl)
spelled_again line link (Engine key) s some within formed =
    rw (s, again_with (codes "engine") link refl some within key) (rw (name_again key_limit key formed) refl)
spelled_again line link (Move count) s some within formed =
    rw (s, again_with (codes "move") link refl some within (decimal count))
    (rw (number_again greatest_count count (omega arith) (omega arith)) refl)
spelled_again line link Close s some within formed = rw (s, again_alone (codes "close") link refl some within) refl
spelled_again line link (Give bytes) (inl g) some within formed =
    rw (g.spelled, again_with (codes "give") link refl some within (hex bytes)) (rw (hex_again bytes g.are_bytes) refl)
spelled_again line link (Give bytes) (inr s) some within formed = by s.spelled where
  by : (line ≡ named_with (codes "say") link s.said) ⊎ ((s.said ≡ []) × (line ≡ named (codes "say") link))
      → spelled line ≡ Some (record { link = link; act = Give bytes })
  by (inl e) = rw (e, again_with (codes "say") link refl some within s.said) (rw s.whole refl)
  by (inr e) =
      let whole : bytes ≡ 0 ∷ [] = s.whole ∙ ap (λ l. l ++ 0 ∷ []) e.0 in
      rw (e.1, again_alone (codes "say") link refl some within) (rw whole refl)

-- ---- a line that is read is spelled so

pub record IsSpelled (line : List ℕ) (link : ℕ) (act : Act) : Type 0 where
  pub spells : Spells line link act
  pub formed : IsFormed act

module _ (line word : List ℕ) (link : ℕ) where
  name_spelled : (most : ℕ) (act : List ℕ → Act) (part : List ℕ) (a : Act) → name_in most act part ≡ Some a
      → (is_name most part ≡ true) × (act part ≡ a)
  name_spelled most act part a e = by (is_name most part) refl e where
    by : (t : Bool) → is_name most part ≡ t → name_in most act part ≡ Some a
        → (is_name most part ≡ true) × (act part ≡ a)
    by true p e = (p, same_Some (act part) a (rw p at e))
    by false p e = let no : None ≡ Some a = rw p at e in absurd cc

  give_spelled : (part : List ℕ) (a : Act) → line ≡ named_with (codes "give") link part
      → option_map Give (bytes_in part) ≡ Some a → IsSpelled line link a
  give_spelled part a s e = by (bytes_in part) refl e where
    by : (o : Option (List ℕ)) → bytes_in part ≡ o → option_map Give (bytes_in part) ≡ Some a → IsSpelled line link a
    by None p e = let no : None ≡ Some a = rw p at e in absurd cc
    by (Some bytes) p e =
        let is = hex_is part bytes p in
        let same : Give bytes ≡ a = same_Some (Give bytes) a (rw p at e) in
        rw (← same) (record {
          spells = inl (record { spelled = s ∙ ap (named_with (codes "give") link) is.spelled; are_bytes = is.small });
          formed = tt;
        })

  move_spelled : (part : List ℕ) (a : Act) → line ≡ named_with (codes "move") link part
      → option_map Move (decimal_in greatest_count part) ≡ Some a → IsSpelled line link a
  move_spelled part a s e = by (decimal_in greatest_count part) refl e where
    by : (o : Option ℕ) → decimal_in greatest_count part ≡ o → option_map Move (decimal_in greatest_count part) ≡ Some a
        → IsSpelled line link a
    by None p e = let no : None ≡ Some a = rw p at e in absurd cc
    by (Some count) p e =
        let is = number_is greatest_count count part (omega arith) p in
        let fits = is.within in
        let same : Move count ≡ a = same_Some (Move count) a (rw p at e) in
        rw (← same) (record { spells = s ∙ ap (named_with (codes "move") link) is.spelled; formed = omega arith })

  named_as : (other part : List ℕ) → line ≡ named_with word link part → bytes_eq word other ≡ true
      → line ≡ named_with other link part
  named_as other part s t =
      let same : word ≡ other = (bytes_eq-Decides word other).0 t in s ∙ ap (λ w. named_with w link part) same

  with_spelled : (part : List ℕ) (a : Act) → line ≡ named_with word link part → act_with word part ≡ Some a
      → IsSpelled line link a
  with_spelled part a s e =
      by (bytes_eq word (codes "ide")) (bytes_eq word (codes "engine")) (bytes_eq word (codes "give"))
      (bytes_eq word (codes "say")) (bytes_eq word (codes "move"))
      refl refl refl refl refl e
    where
      by : (t u v w x : Bool) → bytes_eq word (codes "ide") ≡ t → bytes_eq word (codes "engine") ≡ u
          → bytes_eq word (codes "give") ≡ v
          → bytes_eq word (codes "say") ≡ w → bytes_eq word (codes "move") ≡ x → act_with word part ≡ Some a
          → IsSpelled line link a
      by true u v w x p q r y z e =
          let n = name_spelled host_limit Ide part a (rw p at e) in
          rw (← n.1) (record { spells = named_as (codes "ide") part s p; formed = name_is host_limit part n.0 })
      by false true v w x p q r y z e =
          let n = name_spelled key_limit Engine part a (rw (p, q) at e) in
          rw (← n.1) (record { spells = named_as (codes "engine") part s q; formed = name_is key_limit part n.0 })
      by false false true w x p q r y z e = give_spelled part a (named_as (codes "give") part s r) (rw (p, q, r) at e)
      by false false false true x p q r y z e =
          let same : Give (part ++ 0 ∷ []) ≡ a = same_Some (Give (part ++ 0 ∷ [])) a (rw (p, q, r, y) at e) in
          rw (← same) (record {
            spells = inr (record { said = part; whole = refl; spelled = inl (named_as (codes "say") part s y) });
            formed = tt;
          })
      by false false false false true p q r y z e =
          move_spelled part a (named_as (codes "move") part s z) (rw (p, q, r, y, z) at e)
      by false false false false false p q r y z e = let no : None ≡ Some a = rw (p, q, r, y, z) at e in absurd cc

  alone_as : (other : List ℕ) → line ≡ named word link → bytes_eq word other ≡ true → line ≡ named other link
  alone_as other s t = let same : word ≡ other = (bytes_eq-Decides word other).0 t in s ∙ ap (λ w. named w link) same

  alone_spelled : (a : Act) → line ≡ named word link → act_alone word ≡ Some a → IsSpelled line link a
  alone_spelled a s e = by (bytes_eq word (codes "close")) (bytes_eq word (codes "say")) refl refl e where
    by : (t u : Bool) → bytes_eq word (codes "close") ≡ t → bytes_eq word (codes "say") ≡ u → act_alone word ≡ Some a
        → IsSpelled line link a
    by true u p q e =
        let same : Close ≡ a = same_Some Close a (rw p at e) in
        rw (← same) (record { spells = alone_as (codes "close") s p; formed = tt })
    by false true p q e =
        let same : Give (0 ∷ []) ≡ a = same_Some (Give (0 ∷ [])) a (rw (p, q) at e) in
        rw (← same) (record {
          spells = inr (record { said = []; whole = refl; spelled = inr (refl, alone_as (codes "say") s q) });
          formed = tt;
        })
    by false false p q e = let no : None ≡ Some a = rw (p, q) at e in absurd cc

  act_spelled : (part : Option (List ℕ)) (rest : List ℕ) (a : Act) → part_of rest ≡ part → word_of rest ≡ decimal link
      → line ≡ word ++ 32 ∷ rest
      → act_in word part ≡ Some a → IsSpelled line link a
  act_spelled None rest a p w s e =
      alone_spelled a (s ∙ ap (λ r. word ++ 32 ∷ r) (without_part rest p ∙ w) ∙ sym (alone_named word link)) e
  act_spelled (Some part) rest a p w s e =
      with_spelled part a (s ∙ ap (λ r. word ++ 32 ∷ r) (with_part rest part p ∙ ap (λ d. d ++ 32 ∷ part) w)
      ∙ sym (with_named word link part)) e

pub record IsLine (line : List ℕ) (e : Event) : Type 0 where
  pub is : IsSpelled line e.link e.act
  pub some : 1 ≤ e.link
  pub known : e.link ≤ link_limit

event_spelled : (line rest : List ℕ) (e : Event) → line ≡ word_of line ++ 32 ∷ rest
    → event_in (word_of line) rest ≡ Some e → IsLine line e
event_spelled line rest e s h = by (link_in (word_of rest)) (act_in (word_of line) (part_of rest)) refl refl h where
  by : (o : Option ℕ) (a : Option Act) → link_in (word_of rest) ≡ o → act_in (word_of line) (part_of rest) ≡ a
      → event_in (word_of line) rest ≡ Some e → IsLine line e
  by None a p q h = let no : None ≡ Some e = rw p at h in absurd cc
  by (Some link) None p q h = let no : None ≡ Some e = rw (p, q) at h in absurd cc
  by (Some link) (Some act) p q h =
      let made : Event = record { link = link; act = act } in
      let same : made ≡ e = same_Some made e (rw (p, q) at h) in
      let is = link_is (word_of rest) link p in
      subst (IsLine line) same (record {
        is = act_spelled line (word_of line) link (part_of rest) rest act refl is.spelled s q;
        some = is.some;
        known = is.within;
      })

pub spelled_is : (line : List ℕ) (e : Event) → spelled line ≡ Some e → IsLine line e
unfolding spelled
spelled_is line e h = by (part_of line) refl h where
  by : (o : Option (List ℕ)) → part_of line ≡ o → spelled line ≡ Some e → IsLine line e
  by None p h = let no : None ≡ Some e = rw p at h in absurd cc
  by (Some rest) p h = event_spelled line rest e (with_part line rest p) (rw p at h)
