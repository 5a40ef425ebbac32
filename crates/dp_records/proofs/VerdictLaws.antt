-- Of bytes one thing alone is to be said.
use Rattle.std.proofs.Common.{◌≡◌, ℕ, ◌+◌, ◌<◌, ◌≤◌, true, List, [], ◌∷◌, ◌++◌, length, take, map, Result, Ok, Err, refl, sym, ap, ◌∙◌, subst, inl, inr, arith, length-append}
use Rattle.std.proofs.lemmas.Bool.{cases_lt}
use Rattle.dp_grammar.specs.Refused.{IsViable}
use Rattle.dp_grammar.proofs.Verdicts.{one_unexpected, unexpected_spelled}
use Rattle.dp_records.specs.declared.entry.Entry.{Entry}
use Rattle.dp_records.specs.declared.verdict.AuditError.{AuditError}
use Rattle.dp_records.specs.declared.verdict.AuditError.TheVariants.{BadRecord, ReadFault, Memory}
use Rattle.dp_records.specs.declared.verdict.Verdict.{Verdict}
use Rattle.dp_records.specs.declared.verdict.Verdict.TheVariants.{Honest, Differs}
use Rattle.dp_records.specs.Behaviours.{Behaviour}
use Rattle.dp_records.specs.Records.{IsFirstBad, end_line, line_of, lines_in}
use Rattle.dp_records.specs.Verdicts.{Agrees, DiffersAt, DiffersAtEnd, DiffersWithin, IsBadAt, IsHonest, Judges, is_verdict}
use Rattle.dp_records.proofs.RecordLaws.{TellRule, fronts, lines_length, none_at_all, pieces_split, same_end, split_lines, viable_end_front, viable_front, within_end}

module _ (behaviour : Behaviour) (bytes : List ℕ) where
  -- ---- an honest record

  honest_alone : IsHonest behaviour bytes → (number : ℕ) → DiffersAt behaviour bytes number → ⊥
  honest_alone h number d =
      none_at_all behaviour bytes h.0.entries h.1.entries.each h.2.throughout h.0.status h.1.status [] h.1.whole
      h.2.ends number d

  honest_good : IsHonest behaviour bytes → (number : ℕ) → IsFirstBad bytes number → ⊥
  honest_good h number bad = unexpected_spelled TellRule tt tt bad.0 (lines_in bytes) h.0 bad.2 h.1

  -- ---- two differences

  -- of two lines that differ where bytes are told, none is later
  not_later : (n m : ℕ) → DiffersWithin behaviour bytes n → DiffersWithin behaviour bytes m → n < m → ⊥
  not_later n m d e less =
      let p = d.here in let q = e.here in
      let short : length (d.before ++ d.entry ∷ []) ≤ length e.before =
      omega (arith, length-append d.before (d.entry ∷ []), p, q, less) in
      let each = (pieces_split e.before (e.entry ∷ []) e.begins.are.each).0 in
      let whole : map line_of (d.before ++ d.entry ∷ []) ++ d.later
      ≡ map line_of e.before ++ (map line_of (e.entry ∷ []) ++ e.later) =
      sym d.begins.whole ∙ e.begins.whole ∙ split_lines e.before (e.entry ∷ []) e.later in
      let front = fronts (d.before ++ d.entry ∷ []) e.before d.later _ d.begins.are.each each whole short in
      d.differs (subst (Agrees behaviour.sent) (sym front) (e.throughout (length (d.before ++ d.entry ∷ []))))

  not_both : (n m : ℕ) → DiffersWithin behaviour bytes n → DiffersAtEnd behaviour bytes m → ⊥
  not_both n m d e =
      let whole = sym d.begins.whole ∙ e.begins.whole in
      let short = within_end (d.before ++ d.entry ∷ []) e.entries e.status d.later e.later whole in
      let front = fronts (d.before ++ d.entry ∷ []) e.entries d.later (end_line e.status ∷ e.later) d.begins.are.each
      e.begins.are.each whole short in
      d.differs (subst (Agrees behaviour.sent) (sym front) (e.throughout (length (d.before ++ d.entry ∷ []))))

  one_difference : (n m : ℕ) → DiffersAt behaviour bytes n → DiffersAt behaviour bytes m → n ≡ m
  one_difference n m (inl d) (inl e) = elim (cases_lt n m) [
    | inl less ↦ absurd (not_later n m d e less)
    | inr more ↦ elim (cases_lt m n) [
      | inl other ↦ absurd (not_later m n e d other)
      | inr same ↦ omega (arith, more, same)
    ]
  ]
  one_difference n m (inl d) (inr e) = absurd (not_both n m d e)
  one_difference n m (inr d) (inl e) = absurd (not_both m n e d)
  one_difference n m (inr d) (inr e) =
      let p = d.here in let q = e.here in
      let same = same_end d.entries e.entries d.status e.status d.later e.later d.begins.are.each e.begins.are.each
      (sym d.begins.whole ∙ e.begins.whole) in
      omega (arith, p, q, ap (λ (l : List Entry). length l) same.0)

  -- ---- a bad line and a difference

  -- the lines up to one that differs begin a record
  viable_up_to : (n m : ℕ) → DiffersAt behaviour bytes m → n ≤ m → IsViable TellRule tt (take n (lines_in bytes))
  viable_up_to n m (inl d) less =
      let p = d.here in
      subst (λ (l : List (List ℕ)). IsViable TellRule tt (take n l)) (sym d.begins.whole)
      (viable_front (d.before ++ d.entry ∷ []) d.later n d.begins.are
      (omega (arith, length-append d.before (d.entry ∷ []), p, less)))
  viable_up_to n m (inr d) less =
      let p = d.here in
      subst (λ (l : List (List ℕ)). IsViable TellRule tt (take n l)) (sym d.begins.whole)
      (viable_end_front d.entries d.status d.later n d.begins.are d.is_status (omega (arith, p, less)))

  -- as many lines as there are before and with one that differs
  reaches : (m : ℕ) → DiffersAt behaviour bytes m → m ≤ length (lines_in bytes)
  reaches m (inl d) =
      let p = d.here in
      let e = ap (λ (l : List (List ℕ)). length l) d.begins.whole in
      omega (
        arith,
        p,
        e,
        length-append (map line_of (d.before ++ d.entry ∷ [])) d.later,
        lines_length (d.before ++ d.entry ∷ []),
        length-append d.before (d.entry ∷ []),
      )
  reaches m (inr d) =
      let p = d.here in
      let e = ap (λ (l : List (List ℕ)). length l) d.begins.whole in
      omega (arith, p, e, length-append (map line_of d.entries) (end_line d.status ∷ d.later), lines_length d.entries)

  bad_alone : (n m : ℕ) → IsBadAt behaviour bytes n → DiffersAt behaviour bytes m → ⊥
  bad_alone n m bad d = elim (cases_lt m n) [
    | inl earlier ↦ bad.1 m earlier d
    | inr later ↦
        let place = bad.0.0 in
        let is = bad.0.1 in
        let viable = viable_up_to n m d (omega (arith, later)) in
        (bad.0.2.dead tt).here (omega (arith, is, later, reaches m d))
        (subst (λ k. IsViable TellRule tt (take k (lines_in bytes))) is viable)
  ]

  pub one_judgement : (one other : Result Verdict AuditError) → is_verdict one ≡ true → is_verdict other ≡ true
      → Judges behaviour bytes one → Judges behaviour bytes other → one ≡ other
  one_judgement (Ok Honest) (Ok Honest) p q h k = refl
  one_judgement (Ok Honest) (Ok (Differs n)) p q h k = absurd (honest_alone h n k)
  one_judgement (Ok Honest) (Err (BadRecord n)) p q h k = absurd (honest_good h n k.0)
  one_judgement (Ok (Differs n)) (Ok Honest) p q h k = absurd (honest_alone k n h)
  one_judgement (Ok (Differs n)) (Ok (Differs m)) p q h k = ap (λ l. Ok (Differs l)) (one_difference n m h k)
  one_judgement (Ok (Differs n)) (Err (BadRecord m)) p q h k = absurd (bad_alone m n k h)
  one_judgement (Err (BadRecord n)) (Ok Honest) p q h k = absurd (honest_good k n h.0)
  one_judgement (Err (BadRecord n)) (Ok (Differs m)) p q h k = absurd (bad_alone n m h k)
  one_judgement (Err (BadRecord n)) (Err (BadRecord m)) p q h k =
      ap (λ l. Err (BadRecord l))
      (h.0.1 ∙ ap (λ l. l + 1) (one_unexpected TellRule tt h.0.0 k.0.0 (lines_in bytes) h.0.2 k.0.2) ∙ sym k.0.1)
  one_judgement (Err ReadFault) other p q h k = absurd cc
  one_judgement (Err Memory) other p q h k = absurd cc
  one_judgement (Ok Honest) (Err ReadFault) p q h k = absurd cc
  one_judgement (Ok Honest) (Err Memory) p q h k = absurd cc
  one_judgement (Ok (Differs n)) (Err ReadFault) p q h k = absurd cc
  one_judgement (Ok (Differs n)) (Err Memory) p q h k = absurd cc
  one_judgement (Err (BadRecord n)) (Err ReadFault) p q h k = absurd cc
  one_judgement (Err (BadRecord n)) (Err Memory) p q h k = absurd cc
