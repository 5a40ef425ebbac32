-- A list is read in one way: what its lines add, one after another.
use Rattle.std.proofs.Common.{◌≡◌, ℕ, ◌+◌, ◌<◌, ◌==◌, Bool, true, false, ◌&&◌, ◌||◌, if◌then◌else◌, List, [], ◌∷◌, ◌++◌, length}
use Rattle.std.proofs.Common.{Option, Some, None, is_some, unwrap_or, option_and_then, nat_eq, get_or, refl, sym, ap, subst, ◌∙◌, inl, inr}
use Rattle.std.proofs.Common.{append_assoc, append-nil}
use Rattle.std.proofs.lemmas.Bool.{eqb-true, or_right, false≢true}
use Rattle.std.proofs.lemmas.List.Folds.{list_any-append}
use Rattle.std.proofs.lemmas.Option.{same_Some}
use Rattle.std.specs.Map.{lookup}
use Rattle.std.specs.Option.{option_to_list}
use Rattle.dp_events.specs.declared.event.Act.{Act}
use Rattle.dp_events.specs.declared.event.Act.TheVariants.{Ide, Engine, Give, Move, Close}
use Rattle.dp_events.specs.declared.event.Event.{Event}
use Rattle.dp_events.specs.Lists.{Spells, Fits, AllFit, MayFollow, Adds, AddsAt, IsList, IsFirstBad, was, makes, is_engine}
use Rattle.dp_events.specs.inner.Spelling.{word_of, part_of, link_in, event_in, spelled}
use Rattle.dp_grammar.specs.Lines.{is_idle, lines_of}
use Rattle.dp_grammar.proofs.Lines.{IsRead, no_bad, one_said, read_on}
use Rattle.dp_events.specs.inner.Progress.{IsTable, Marks, IsReading, Takes}
use Rattle.dp_events.specs.declared.readers.Reading.{Reading}
use Rattle.dp_events.proofs.SpellingLaws.{spelled_again, spelled_is}
use Rattle.dp_events.proofs.WordLaws.{with_part}

-- ---- what a line adds

hash_word : (word rest : List ℕ) → event_in (35 ∷ word) rest ≡ None
hash_word word rest = by (link_in (word_of rest)) (part_of rest) refl refl where
  by : (o : Option ℕ) (p : Option (List ℕ)) → link_in (word_of rest) ≡ o → part_of rest ≡ p
      → event_in (35 ∷ word) rest ≡ None
  by None p e f = rw e refl
  by (Some link) None e f = rw (e, f) refl
  by (Some link) (Some part) e f = rw (e, f) refl

idle_word : (word rest : List ℕ) → is_idle (word ++ 32 ∷ rest) ≡ true → event_in word rest ≡ None
idle_word [] rest h = absurd cc
idle_word (b ∷ word) rest h = let same : b ≡ 35 = eqb-true b 35 h in rw same (hash_word word rest)

pub idle_none : (line : List ℕ) → is_idle line ≡ true → spelled line ≡ None
unfolding spelled
idle_none line h = by (part_of line) refl where
  by : (o : Option (List ℕ)) → part_of line ≡ o → spelled line ≡ None
  by None e = ap (option_and_then (event_in (word_of line))) e
  by (Some rest) e =
      ap (option_and_then (event_in (word_of line))) e
      ∙ idle_word (word_of line) rest (subst (λ l. is_idle l ≡ true) (with_part line rest e) h)

abbrev pub adds : List ℕ → List Event
adds line = option_to_list (spelled line)

pub fit_spelled : (before : List Event) (line : List ℕ) (e : Event) → Spells line e.link e.act → Fits before e
    → spelled line ≡ Some e
fit_spelled before line e s f = spelled_again line e.link e.act s f.some f.known f.formed

pub adds_is : (before : List Event) (line : List ℕ) (added : List Event) → Adds before line added → added ≡ adds line
adds_is before line added (inl idle) = rw (idle_none line idle.0) idle.1
adds_is before line added (inr one) = rw (fit_spelled before line one.0 one.1 one.2) one.3

-- ---- the list that bytes are

pub one_list : (bytes : List ℕ) (a b : List Event) → IsList bytes a → IsList bytes b → a ≡ b
one_list bytes a b p q = one_said AddsAt one [] 1 (lines_of bytes) a b p q where
  one : (before : List Event) (number : ℕ) (line : List ℕ) (added other : List Event) → Adds before line added
      → Adds before line other → added ≡ other
  one before number line added other h g = adds_is before line added h ∙ sym (adds_is before line other g)

pub bad_excludes : (bytes : List ℕ) (number : ℕ) (events : List Event) → IsFirstBad bytes number → IsList bytes events
    → ⊥
bad_excludes = no_bad AddsAt

-- ---- fitting

pub fit_push : (before events : List Event) (e : Event) → AllFit before events → Fits (before ++ events) e
    → AllFit before (events ++ e ∷ [])
fit_push before [] e h f = (subst (λ b. Fits b e) (append-nil before) f, tt)
fit_push before (first ∷ events) e h f = (
  h.0,
  fit_push (before ++ first
      ∷ []) events e h.1 (subst (λ b. Fits b e) (sym (append_assoc before (first ∷ []) events)) f),
)

-- ---- the table of links

module _ (table : List (ℕ × Bool)) (events : List Event) (is : IsTable table events) (e : Event) where
  was_push : (sort : Act → Bool) (link : ℕ)
      → was sort link (events ++ e ∷ []) ≡ (was sort link events || ((e.link == link) && sort e.act))
  was_push sort link =
      list_any-append (λ f. (f.link == link) && sort f.act) events (e ∷ [])
      ∙ ap (λ b. was sort link events || b) (or_false ((e.link == link) && sort e.act))
    where
      or_false : (b : Bool) → (b || false) ≡ b
      or_false true = refl
      or_false false = refl

  or_none : (a b : Bool) → b ≡ false → (a || b) ≡ a
  or_none true b h = refl
  or_none false b h = h

  same_was : (sort : Act → Bool) (link : ℕ) → ((e.link == link) && sort e.act) ≡ false
      → was sort link (events ++ e ∷ []) ≡ was sort link events
  same_was sort link isnt = was_push sort link ∙ or_none (was sort link events) _ isnt

  and_no : (a b : Bool) → b ≡ false → (a && b) ≡ false
  and_no true b h = h
  and_no false b h = refl

  pub table_same : makes e.act ≡ false → is_engine e.act ≡ false → IsTable table (events ++ e ∷ [])
  table_same none isnt = λ link. (
    (is link).0 ∙ sym (same_was makes link (and_no (e.link == link) (makes e.act) none)),
    (is link).1 ∙ sym (same_was is_engine link (and_no (e.link == link) (is_engine e.act) isnt)),
  )

  pub table_made : (after : List (ℕ × Bool)) (flag : Bool) → makes e.act ≡ true → is_engine e.act ≡ flag
      → was makes e.link events ≡ false
      → ((link : ℕ) → lookup (nat_eq link) after ≡ (if e.link == link then Some flag else lookup (nat_eq link) table))
      → IsTable after (events ++ e ∷ [])
  table_made after flag made engine new at = λ link. by link (e.link == link) refl where
    by : (link : ℕ) (t : Bool) → (e.link == link) ≡ t
        → (is_some (lookup (nat_eq link) after) ≡ was makes link (events ++ e ∷ []))
        × (unwrap_or (lookup (nat_eq link) after) false ≡ was is_engine link (events ++ e ∷ []))
    by link true p =
        let here : lookup (nat_eq link) after ≡ Some flag = rw p at (at link) in
        let same : e.link ≡ link = eqb-true e.link link p in
        let none : is_some (lookup (nat_eq link) table) ≡ false = (is link).0
        ∙ subst (λ (l : ℕ). was makes l events ≡ false) same new in
        let not_engine : was is_engine link events ≡ false = sym (is link).1
        ∙ no_flag (lookup (nat_eq link) table) none in (
          rw here (sym (was_push makes link ∙ or_right (was makes link events) _ (rw (p, made) refl))),
          rw here (sym (was_push is_engine link ∙ rw (not_engine, p, engine) refl)),
        )
      where
        no_flag : (o : Option Bool) → is_some o ≡ false → unwrap_or o false ≡ false
        no_flag None h = refl
        no_flag (Some b) h = absurd cc
    by link false p =
        let here : lookup (nat_eq link) after ≡ lookup (nat_eq link) table = rw p at (at link) in (
          rw here ((is link).0 ∙ sym (same_was makes link (ap (λ b. b && makes e.act) p))),
          rw here ((is link).1 ∙ sym (same_was is_engine link (ap (λ b. b && is_engine e.act) p))),
        )

-- a table with what an event adds to it
pub table_marked : (table after : List (ℕ × Bool)) (events : List Event) (e : Event) → IsTable table events
    → MayFollow events e.link e.act → Marks table e.link e.act after
    → IsTable after (events ++ e ∷ [])
table_marked table after events e is follows marks = by (makes e.act) refl where
  others : makes e.act ≡ false → IsTable after events
  others isnt = λ link.
      let same : lookup (nat_eq link) after ≡ lookup (nat_eq link) table = rw isnt at (marks link) in
      (rw same (is link).0, rw same (is link).1)

  no_engine : (act : Act) → makes act ≡ false → is_engine act ≡ false
  no_engine (Ide host) isnt = absurd cc
  no_engine (Engine key) isnt = absurd cc
  no_engine (Give bytes) isnt = refl
  no_engine (Move count) isnt = refl
  no_engine Close isnt = refl

  new : (act : Act) → makes act ≡ true → MayFollow events e.link act → was makes e.link events ≡ false
  new (Ide host) sure f = f
  new (Engine key) sure f = f
  new (Give bytes) sure f = absurd cc
  new (Move count) sure f = absurd cc
  new Close sure f = absurd cc

  by : (t : Bool) → makes e.act ≡ t → IsTable after (events ++ e ∷ [])
  by true sure =
      table_made table events is e after (is_engine e.act) sure refl (new e.act sure follows)
      (λ link. rw sure at (marks link))
  by false isnt = table_same after events (others isnt) e isnt (no_engine e.act isnt)

pub noted : (old : Reading) (new : Reading) (e : Event) → IsReading old old.events.items → Fits old.events.items e
    → Marks old.made.entries e.link e.act new.made.entries
    → new.events.items ≡ old.events.items ++ e ∷ [] → IsReading new (old.events.items ++ e ∷ [])
noted old new e is fits marks put = record {
  are = put;
  fit = fit_push [] old.events.items e is.fit fits;
  table = table_marked old.made.entries new.made.entries old.events.items e is.table fits.follows marks;
}

-- ---- line after line

module _ (bytes : List ℕ) (number : ℕ) (before : List Event) (line : List ℕ) (read : IsRead AddsAt bytes number before)
    (here : (number < length (lines_of bytes)) × (line ≡ get_or (lines_of bytes) number line)) where
  pub read_line : (after : List Event) → Takes before line true after → IsRead AddsAt bytes (number + 1) after
  read_line after takes =
      subst (IsRead AddsAt bytes (number + 1)) (sym takes.2) (read_on AddsAt bytes number before line read here takes.0
      takes.1 (λ other is. adds_is before line other is ∙ sym (adds_is before line takes.0 takes.1)))

-- ---- one line

module _ (before : List Event) (line : List ℕ) where
  pub not_spelled : is_idle line ≡ false → spelled line ≡ None → (added : List Event) → Adds before line added → ⊥
  not_spelled other none added (inl idle) = false≢true (sym other ∙ idle.0)
  not_spelled other none added (inr one) =
      let is = fit_spelled before line one.0 one.1 one.2 in
      let clash : None ≡ Some one.0 = sym none ∙ is in
      cc

  module _ (e : Event) (read : spelled line ≡ Some e) where
    pub may_not : is_idle line ≡ false → (MayFollow before e.link e.act → ⊥) → (added : List Event)
        → Adds before line added → ⊥
    may_not other bad added (inl idle) = false≢true (sym other ∙ idle.0)
    may_not other bad added (inr one) =
        let is = fit_spelled before line one.0 one.1 one.2 in
        let same : one.0 ≡ e = same_Some one.0 e (sym is ∙ read) in
        bad (subst (λ (f : Event). MayFollow before f.link f.act) same one.2.follows)

    pub fits_then : MayFollow before e.link e.act → Fits before e
    fits_then follows =
        let is = spelled_is line e read in record {
          some = is.some;
          known = is.known;
          formed = is.is.formed;
          follows =
              follows;
        }

    pub adds_one : MayFollow before e.link e.act → Adds before line (e ∷ [])
    adds_one follows = inr (e, (spelled_is line e read).is.spells, fits_then follows, refl)
