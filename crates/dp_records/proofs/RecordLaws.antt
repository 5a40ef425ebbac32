-- Records as lines: which entries they begin with, the first line that is bad, and the first that differs.
use Rattle.std.proofs.Common.{◌≡◌, ◌⊎◌, ℕ, zero, suc, ◌+◌, ◌<◌, ◌≤◌, true, List, [], ◌∷◌, ◌++◌, length, take, drop, get_or, map, refl, sym, ap, ◌∙◌, subst, append_assoc, append-nil, inl, inr, arith, length-append}
use Rattle.std.proofs.lemmas.Bool.{cases_lt}
use Rattle.std.proofs.lemmas.List.{length-map}
use Rattle.std.proofs.lemmas.List.Concat.{flat_map-append}
use Rattle.std.specs.List.{AllByRecursion, flat_map}
use Rattle.dp_grammar.specs.Refused.{IsDeadAt, IsUnexpected, IsViable}
use Rattle.dp_records.specs.declared.entry.Entry.{Entry}
use Rattle.dp_records.specs.Behaviours.{Behaviour}
use Rattle.dp_records.specs.Records.{AreEntries, IsFirstBad, IsPiece, Recording, Tell, bytes_in, end_line, given, line_of, lines_in}
use Rattle.dp_records.specs.Statuses.{is_status}
use Rattle.dp_records.specs.Verdicts.{Agrees, AgreesThroughout, DiffersAt, DiffersWithin, EndsRight}
use Rattle.dp_records.specs.inner.Audits.{StartsNoLine}
use Rattle.dp_records.proofs.LineLaws.{entries_first, lines_whole, never_end, one_end_line, one_entry}

abbrev pub Pieces : List Entry → Type 0
Pieces entries = AllByRecursion (λ e. IsPiece e.bytes) entries

abbrev first : List (List ℕ) → List ℕ
first lines = get_or lines 0 []

-- ---- fronts of lists

pub take_front : {A : Type 0} (xs ys : List A) → take (length xs) (xs ++ ys) ≡ xs
take_front [] ys = refl
take_front (x ∷ xs) ys = ap (λ l. x ∷ l) (take_front xs ys)

pub take_one_more : {A : Type 0} (xs : List A) (y : A) (ys : List A)
    → take (length xs + 1) (xs ++ (y ∷ ys)) ≡ xs ++ (y ∷ [])
take_one_more [] y ys = refl
take_one_more (x ∷ xs) y ys =
    let e : length (x ∷ xs) + 1 ≡ suc (length xs + 1) = omega arith in
    ap (λ n. take n ((x ∷ xs) ++ (y ∷ ys))) e ∙ ap (λ l. x ∷ l) (take_one_more xs y ys)

pub map_append : {A B : Type 0} (f : A → B) (xs ys : List A) → map f (xs ++ ys) ≡ map f xs ++ map f ys
map_append f [] ys = refl
map_append f (x ∷ xs) ys = ap (λ l. f x ∷ l) (map_append f xs ys)

pub pieces_join : (es fs : List Entry) → Pieces es → Pieces fs → Pieces (es ++ fs)
pieces_join [] fs p q = q
pieces_join (e ∷ es) fs p q = (p.0, pieces_join es fs p.1 q)

pub pieces_split : (es fs : List Entry) → Pieces (es ++ fs) → Pieces es × Pieces fs
pieces_split [] fs p = (tt, p)
pieces_split (e ∷ es) fs p = let rest = pieces_split es fs p.1 in ((p.0, rest.0), rest.1)

pub pieces_take : (n : ℕ) (es : List Entry) → Pieces es → Pieces (take n es)
pieces_take zero es p = tt
pieces_take (suc n) [] p = tt
pieces_take (suc n) (e ∷ es) p = (p.0, pieces_take n es p.1)

pub given_append : (es fs : List Entry) → given (es ++ fs) ≡ given es ++ given fs
given_append es fs = flat_map-append (λ (e : Entry). bytes_in e.stream e.bytes) es fs

pub given_length : (es fs : List Entry) → length (given (es ++ fs)) ≡ length (given es) + length (given fs)
given_length es fs = ap (λ (l : List ℕ). length l) (given_append es fs) ∙ length-append (given es) (given fs)

-- a front of what a session may be given may be given too
pub entries_split : (es fs : List Entry) → AreEntries (es ++ fs) → AreEntries es
entries_split es fs are =
    let l = given_length es fs in
    let w = are.within in
    record { each = (pieces_split es fs are.each).0; within = omega (arith, l, w) }

-- ---- which line comes next

pub next_line : (es fs : List Entry) (line : List ℕ) (more : List (List ℕ)) (status : ℕ) → Pieces es → Pieces fs
    → map line_of es ++ line ∷ more ≡ map line_of fs ++ end_line status ∷ []
    → ((fs ≡ es) × (line ≡ end_line status) × (more ≡ []))
    ⊎ ((f : Entry) × (later : List Entry) × (fs ≡ es ++ f ∷ later) × (line ≡ line_of f))
next_line [] [] line more status p q same = inl (refl, ap first same, ap (drop 1) same)
next_line [] (f ∷ fs) line more status p q same = inr (f, fs, refl, ap first same)
next_line (e ∷ es) [] line more status p q same = absurd (never_end e status (ap first same))
next_line (e ∷ es) (f ∷ fs) line more status p q same =
    let is : f ≡ e = sym (one_entry e f p.0 q.0 (ap first same)) in
    elim (next_line es fs line more status p.1 q.1 (ap (drop 1) same)) [
      | inl last ↦ inl ((λ i. is i ∷ last.0 i), last.1, last.2)
      | inr other ↦ inr (other.0, other.1, (λ i. is i ∷ other.2 i), other.3)
    ]

-- lines that begin alike are of the same entries, as far as both go
pub fronts : (es fs : List Entry) (x y : List (List ℕ)) → Pieces es → Pieces fs
    → map line_of es ++ x ≡ map line_of fs ++ y → length es ≤ length fs → es ≡ take (length es) fs
fronts [] fs x y p q same less = refl
fronts (e ∷ es) [] x y p q same less = absurd (omega (arith, less))
fronts (e ∷ es) (f ∷ fs) x y p q same less =
    let is = one_entry e f p.0 q.0 (ap first same) in
    let rest = fronts es fs x y p.1 q.1 (ap (drop 1) same) (omega (arith, less)) in
    λ i. is i ∷ rest i

-- no last line stands where bytes are told
pub no_end_within : (es fs : List Entry) (status : ℕ) (x y : List (List ℕ))
    → map line_of es ++ end_line status ∷ x ≡ map line_of fs ++ y → length es < length fs → ⊥
no_end_within es [] status x y same less = omega (arith, less)
no_end_within [] (f ∷ fs) status x y same less = never_end f status (sym (ap first same))
no_end_within (e ∷ es) (f ∷ fs) status x y same less =
    no_end_within es fs status x y (ap (drop 1) same) (omega (arith, less))

pub within_end : (es fs : List Entry) (status : ℕ) (x y : List (List ℕ))
    → map line_of es ++ x ≡ map line_of fs ++ end_line status ∷ y → length es ≤ length fs
within_end es fs status x y same = elim (cases_lt (length fs) (length es)) [
  | inl more ↦ absurd (no_end_within fs es status y x (sym same) more)
  | inr less ↦ omega (arith, less)
]

pub same_end : (es fs : List Entry) (s t : ℕ) (x y : List (List ℕ)) → Pieces es → Pieces fs
    → map line_of es ++ end_line s ∷ x ≡ map line_of fs ++ end_line t ∷ y → (es ≡ fs) × (end_line s ≡ end_line t)
same_end [] [] s t x y p q same = (refl, ap first same)
same_end [] (f ∷ fs) s t x y p q same = absurd (never_end f s (sym (ap first same)))
same_end (e ∷ es) [] s t x y p q same = absurd (never_end e t (ap first same))
same_end (e ∷ es) (f ∷ fs) s t x y p q same =
    let is = one_entry e f p.0 q.0 (ap first same) in
    let rest = same_end es fs s t x y p.1 q.1 (ap (drop 1) same) in
    ((λ i. is i ∷ rest.0 i), rest.1)

-- ---- viable lines

abbrev pub TellRule : Unit {0} → List (List ℕ) → Recording → Type 0
TellRule u = Tell

none_status : is_status 0 ≡ true
none_status = refl

viable_entries : (es : List Entry) → AreEntries es → IsViable TellRule tt (map line_of es)
viable_entries es are = (
  end_line 0 ∷ [],
  record { entries = es; status = 0 },
  record { whole = refl; entries = are; status = none_status },
)

viable_end : (es : List Entry) (status : ℕ) → AreEntries es → is_status status ≡ true
    → IsViable TellRule tt (map line_of es ++ end_line status ∷ [])
viable_end es status are is = (
  [],
  record { entries = es; status = status },
  record { whole = append-nil (map line_of es ++ end_line status ∷ []); entries = are; status = is },
)

pub lines_length : (es : List Entry) → length (map line_of es) ≡ length es
lines_length es = length-map es line_of

front_lines : (es : List Entry) (ls : List (List ℕ)) → take (length es) (map line_of es ++ ls) ≡ map line_of es
front_lines es ls =
    ap (λ n. take n (map line_of es ++ ls)) (sym (lines_length es)) ∙ take_front (map line_of es) ls

more_lines : (es : List Entry) (l : List ℕ) (ls : List (List ℕ))
    → take (length es + 1) (map line_of es ++ l ∷ ls) ≡ map line_of es ++ l ∷ []
more_lines es l ls =
    ap (λ n. take (n + 1) (map line_of es ++ l ∷ ls)) (sym (lines_length es)) ∙ take_one_more (map line_of es) l ls

-- the lines of entries in two parts
pub split_lines : (es fs : List Entry) (ls : List (List ℕ))
    → map line_of (es ++ fs) ++ ls ≡ map line_of es ++ (map line_of fs ++ ls)
split_lines es fs ls =
    ap (λ l. l ++ ls) (map_append line_of es fs) ∙ append_assoc (map line_of es) (map line_of fs) ls

-- a front of the lines of entries is one of theirs
take_lines : (n : ℕ) (es : List Entry) (ls : List (List ℕ)) → n ≤ length es
    → take n (map line_of es ++ ls) ≡ map line_of (take n es)
take_lines zero es ls less = refl
take_lines (suc n) [] ls less = absurd (omega (arith, less))
take_lines (suc n) (e ∷ es) ls less = ap (λ l. line_of e ∷ l) (take_lines n es ls (omega (arith, less)))

given_take : (n : ℕ) (es : List Entry) → length (given (take n es)) ≤ length (given es)
given_take zero es = omega arith
given_take (suc n) [] = omega arith
given_take (suc n) (e ∷ es) =
    omega (
      arith,
      given_length (e ∷ []) (take n es),
      given_length (e ∷ []) es,
      given_take n es,
    )

entries_take : (n : ℕ) (es : List Entry) → AreEntries es → AreEntries (take n es)
entries_take n es are =
    let w = are.within in
    record { each = pieces_take n es are.each; within = omega (arith, given_take n es, w) }

pub viable_front : (es : List Entry) (ls : List (List ℕ)) (n : ℕ) → AreEntries es → n ≤ length es
    → IsViable TellRule tt (take n (map line_of es ++ ls))
viable_front es ls n are less =
    subst (IsViable TellRule tt) (sym (take_lines n es ls less)) (viable_entries (take n es) (entries_take n es are))

pub viable_end_front : (es : List Entry) (status : ℕ) (ls : List (List ℕ)) (n : ℕ) → AreEntries es
    → is_status status ≡ true → n ≤ length es + 1
    → IsViable TellRule tt (take n (map line_of es ++ end_line status ∷ ls))
viable_end_front es status ls n are is less = elim (cases_lt (length es) n) [
  | inl more ↦
      let all : n ≡ length es + 1 = omega (arith, more, less) in
      subst (λ k. IsViable TellRule tt (take k (map line_of es ++ end_line status ∷ ls))) (sym all)
      (subst (IsViable TellRule tt) (sym (more_lines es (end_line status) ls)) (viable_end es status are is))
  | inr short ↦ viable_front es (end_line status ∷ ls) n are (omega (arith, short))
]

-- ---- the first line that is bad

module _ (entries : List Entry) (are : AreEntries entries) where
  -- behind entries comes what begins no line
  module _ (rest : List ℕ) (none : StartsNoLine entries rest) where
    dead_here : (l : List ℕ) (ls : List (List ℕ)) → lines_in rest ≡ l ∷ ls
        → IsViable TellRule tt (map line_of entries ++ l ∷ []) → ⊥
    dead_here l ls is v =
        let tell = v.2 in
        let whole : map line_of entries ++ l ∷ v.0 ≡ map line_of v.1.entries ++ end_line v.1.status ∷ [] =
        sym (append_assoc (map line_of entries) (l ∷ []) v.0) ∙ tell.whole in
        let text : rest ≡ l ++ flat_map (λ (x : List ℕ). x) ls =
        sym (lines_whole rest) ∙ ap (flat_map (λ (x : List ℕ). x)) is in
        elim (next_line entries v.1.entries l v.0 v.1.status are.each tell.entries.each whole) [
          | inl last ↦
              none.ends_none v.1.status (flat_map (λ (x : List ℕ). x) ls) tell.status
              (text ∙ ap (λ x. x ++ flat_map (λ (x : List ℕ). x) ls) last.1)
          | inr other ↦
              let all = subst AreEntries (other.2 ∙ sym (append_assoc entries (other.0 ∷ []) other.1)) tell.entries in
              let front = entries_split (entries ++ other.0 ∷ []) other.1 all in
              none.reports_none other.0 (flat_map (λ (x : List ℕ). x) ls)
              (pieces_split entries (other.0 ∷ []) front.each).1.0 front.within
              (text ∙ ap (λ x. x ++ flat_map (λ (x : List ℕ). x) ls) other.3)
        ]

    none_ends : (r : Recording) → Tell (map line_of entries) r → ⊥
    none_ends r tell =
        let same : map line_of r.entries ++ end_line r.status ∷ [] ≡ map line_of entries ++ [] =
        sym tell.whole ∙ sym (append-nil (map line_of entries)) in
        let whole = ap (λ (l : List (List ℕ)). length l) tell.whole in
        let last = length-append (map line_of r.entries) (end_line r.status ∷ []) in
        no_end_within r.entries entries r.status [] [] same
        (omega (arith, whole, last, lines_length r.entries, lines_length entries))

    dead : (u : Unit {0}) (lines : List (List ℕ)) → lines ≡ lines_in rest
        → IsDeadAt TellRule u (map line_of entries ++ lines) (length entries)
    dead u [] is = record {
      here = λ less v. omega (arith, less, length-append (map line_of entries) [], lines_length entries);
      end = λ at s. none_ends s.0 (subst (λ (l : List (List ℕ)). Tell l s.0) (append-nil (map line_of entries)) s.1);
    }
    dead u (l ∷ ls) is = record {
      here = λ less v. dead_here l ls (sym is) (subst (IsViable TellRule u) (more_lines entries l ls) v);
      end = λ at s. omega (arith, at, length-append (map line_of entries) (l ∷ ls), lines_length entries);
    }

    pub first_bad : (bytes : List ℕ) → bytes ≡ flat_map line_of entries ++ rest → IsFirstBad bytes (length entries + 1)
    first_bad bytes whole =
        let lines : map line_of entries ++ lines_in rest ≡ lines_in bytes =
        sym (ap lines_in whole ∙ entries_first entries rest are.each) in (
          length entries,
          refl,
          subst (λ (l : List (List ℕ)). IsUnexpected TellRule tt l (length entries)) lines (record {
            within = omega (arith, length-append (map line_of entries) (lines_in rest), lines_length entries);
            before = subst (IsViable TellRule tt) (sym (front_lines entries (lines_in rest)))
                (viable_entries entries are);
            dead = λ u. dead u (lines_in rest) refl;
          }),
        )

  -- behind the last line comes another
  module _ (status : ℕ) (is : is_status status ≡ true) (l : List ℕ) (ls : List (List ℕ)) where
    abbrev lines : List (List ℕ)
    lines = map line_of entries ++ end_line status ∷ l ∷ ls

    front_two : take (length entries + 1 + 1) lines ≡ (map line_of entries ++ end_line status ∷ []) ++ l ∷ []
    front_two =
        let longer : length (map line_of entries ++ end_line status ∷ []) ≡ length entries + 1 =
        omega (arith, length-append (map line_of entries) (end_line status ∷ []), lines_length entries) in
        ap (λ (x : List (List ℕ)). take (length entries + 1 + 1) x)
        (sym (append_assoc (map line_of entries) (end_line status ∷ []) (l ∷ ls)))
        ∙ ap (λ n. take (n + 1) ((map line_of entries ++ end_line status ∷ []) ++ l ∷ ls)) (sym longer)
        ∙ take_one_more (map line_of entries ++ end_line status ∷ []) l ls

    dead_behind : IsViable TellRule tt ((map line_of entries ++ end_line status ∷ []) ++ l ∷ []) → ⊥
    dead_behind v =
        let tell = v.2 in
        let whole : map line_of entries ++ end_line status ∷ (l ∷ v.0)
        ≡ map line_of v.1.entries ++ end_line v.1.status ∷ [] =
        sym (append_assoc (map line_of entries) (end_line status ∷ []) (l ∷ v.0))
        ∙ sym (append_assoc (map line_of entries ++ end_line status ∷ []) (l ∷ []) v.0) ∙ tell.whole in
        elim (next_line entries v.1.entries (end_line status) (l ∷ v.0) v.1.status are.each tell.entries.each whole) [
          | inl last ↦
              let e : length (l ∷ v.0) ≡ 0 = ap (λ (x : List (List ℕ)). length x) last.2 in omega (arith, e)
          | inr other ↦ never_end other.0 status (sym other.3)
        ]

    pub second_bad : (bytes : List ℕ) → lines_in bytes ≡ lines → IsFirstBad bytes (length entries + 1 + 1)
    second_bad bytes whole = (
      length entries + 1,
      refl,
      subst (λ (x : List (List ℕ)). IsUnexpected TellRule tt x (length entries + 1)) (sym whole) (record {
        within = omega (arith, length-append (map line_of entries) (end_line status ∷ l ∷ ls), lines_length entries);
        before = subst (IsViable TellRule tt) (sym (more_lines entries (end_line status) (l ∷ ls)))
            (viable_end entries status are is);
        dead = λ u. record {
          here = λ less v. dead_behind (subst (IsViable TellRule u) front_two v);
          end = λ at s. omega (
            arith,
            at,
            length-append (map line_of entries) (end_line status ∷ l ∷ ls),
            lines_length entries,
          );
        };
      }),
    )

-- ---- no earlier line differs

module _ (behaviour : Behaviour) (bytes : List ℕ) (entries : List Entry) (each : Pieces entries)
    (throughout : AgreesThroughout behaviour.sent entries) where
  -- lines of entries that agree throughout differ nowhere
  none_within : (number : ℕ) (d : DiffersWithin behaviour bytes number) (y : List (List ℕ))
      → lines_in bytes ≡ map line_of entries ++ y → number ≤ length entries → ⊥
  none_within number d y is less =
      let here = d.here in
      let longer : length (d.before ++ d.entry ∷ []) ≡ number =
      omega (arith, length-append d.before (d.entry ∷ []), here) in
      let front = fronts (d.before ++ d.entry ∷ []) entries d.later y d.begins.are.each each
      (sym d.begins.whole ∙ is) (omega (arith, longer, less)) in
      d.differs (subst (Agrees behaviour.sent) (sym front) (throughout (length (d.before ++ d.entry ∷ []))))

  pub none_before : (rest : List ℕ) → bytes ≡ flat_map line_of entries ++ rest
      → (earlier : ℕ) → earlier < length entries + 1 → DiffersAt behaviour bytes earlier → ⊥
  none_before rest whole earlier less (inl d) =
      none_within earlier d (lines_in rest) (ap lines_in whole ∙ entries_first entries rest each) (omega (arith, less))
  none_before rest whole earlier less (inr d) =
      let here = d.here in
      no_end_within d.entries entries d.status d.later (lines_in rest)
      (sym d.begins.whole ∙ ap lines_in whole ∙ entries_first entries rest each) (omega (arith, less, here))

  -- nor does a last line that is right
  module _ (status : ℕ) (is : is_status status ≡ true) (y : List (List ℕ))
      (whole : lines_in bytes ≡ map line_of entries ++ end_line status ∷ y)
      (right : EndsRight behaviour (record { entries = entries; status = status })) where
    pub none_at_all : (number : ℕ) → DiffersAt behaviour bytes number → ⊥
    none_at_all number (inl d) =
        let here = d.here in
        let less = within_end (d.before ++ d.entry ∷ []) entries status d.later y (sym d.begins.whole ∙ whole) in
        none_within number d (end_line status ∷ y) whole
        (omega (arith, less, here, length-append d.before (d.entry ∷ [])))
    none_at_all number (inr d) =
        let same = same_end d.entries entries d.status status d.later y d.begins.are.each each
        (sym d.begins.whole ∙ whole) in
        let one = one_end_line d.status status d.is_status is same.1 in
        d.differs (subst (EndsRight behaviour)
        (λ i. record { entries = sym same.0 i; status = sym one i }) right)
