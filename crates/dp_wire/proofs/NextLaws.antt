-- What a splitter says of the bytes that it holds, by the place of their first NUL.
use Rattle.std.proofs.Common.{◌≡◌, ◌≢◌, ℕ, ◌+◌, ◌<◌, ◌≤◌, true, List, [], ◌∷◌, ◌++◌, Some, length, take, drop, refl, sym, ap, ◌∙◌, subst, append_assoc, append-nil, arith, length-append, length-take}
use Rattle.std.proofs.lemmas.Bool.{and_from}
use Rattle.std.proofs.lemmas.List.Folds.{list_all-append}
use Rattle.std.proofs.Math.Seq.{drop-append-add, take-append-add}
use Rattle.dp_wire.specs.Frames.{has_no_nul, IsCommand, command_frame, command_limit, commands_in, BeginsCommand, IsPartialCommand, BeginsNoCommand}
use Rattle.dp_wire.specs.Frames.{FirstNul}
use Rattle.dp_wire.proofs.FrameLaws.{no_nul-at, same_text, no_shorter, partial_front, commands-text, commands-long}
use Rattle.dp_wire.proofs.SplitLaws.{framed}

module _ (now : List ℕ) (n : ℕ) (found : FirstNul now (Some n)) where
  pub front_length : length (take n now) ≡ n
  front_length = omega (arith, length-take n now, ap length found.1, length-append (take n now) (0 ∷ drop (n + 1) now))

  pub some_partial : IsPartialCommand now → ⊥
  some_partial p =
      let none = (partial_front now p.more p.text p.comes p.is_text.no_nul p.whole).0 in
      no_nul-at (take n now) (drop (n + 1) now) (subst (λ l. has_no_nul l ≡ true) found.1 none)

  pub some_is : n ≤ command_limit → IsCommand (take n now)
  some_is fits = record { no_nul = found.0; fits = omega (arith, front_length) }

  pub some_frame : now ≡ command_frame (take n now) ++ drop (n + 1) now
  some_frame = found.1 ∙ sym (framed (take n now) (drop (n + 1) now))

  pub some_refused : n ≤ command_limit → BeginsNoCommand now → ⊥
  some_refused fits no_frame = no_frame (take n now) (drop (n + 1) now) [] (some_is fits) (append-nil now ∙ some_frame)

  pub some_first : n ≤ command_limit → (more : List ℕ)
      → commands_in (now ++ more) ≡ take n now ∷ commands_in (drop (n + 1) now ++ more)
  some_first fits more =
      ap (λ l. commands_in (l ++ more)) found.1 ∙ ap commands_in (append_assoc (take n now) (0 ∷ drop (n + 1) now) more)
      ∙ commands-text (take n now) (drop (n + 1) now ++ more) found.0 (some_is fits).fits

  pub some_rest : (text rest : List ℕ) → BeginsCommand now text rest → drop (n + 1) now ≡ rest
  some_rest text rest b =
      (same_text (take n now) text _ rest found.0 b.is_text.no_nul (sym found.1 ∙ b.whole ∙ framed text rest)).1

  pub some_length : (text rest : List ℕ) → BeginsCommand now text rest → n + 1 ≡ length (command_frame text)
  some_length text rest b =
      let same = (same_text (take n now) text _ rest found.0 b.is_text.no_nul
      (sym found.1 ∙ b.whole ∙ framed text rest)).0 in
      omega (arith, front_length, ap length same, length-append text (0 ∷ []))

-- no command begins what has no NUL
pub none_begins : (now : List ℕ) → has_no_nul now ≡ true → (text rest : List ℕ) → BeginsCommand now text rest → ⊥
none_begins now none text rest b =
    no_nul-at text rest (subst (λ l. has_no_nul l ≡ true) (b.whole ∙ framed text rest) none)

nul_comes : (b : ℕ) → b ∷ [] ≢ []
nul_comes b e = cc

pub none_partial : (now : List ℕ) → has_no_nul now ≡ true → length now ≤ command_limit → IsPartialCommand now
none_partial now none fits =
    record {
      text = now;
      more = 0
          ∷ [];
      is_text = record { no_nul = none; fits = fits };
      comes = nul_comes 0;
      whole = refl;
    }

pub none_refused : (now : List ℕ) → has_no_nul now ≡ true → length now ≤ command_limit → BeginsNoCommand now → ⊥
none_refused now none fits no_frame =
    no_frame now [] (0 ∷ []) (record { no_nul = none; fits = fits }) (sym (append-nil (command_frame now)))

-- more bytes than a command has, and no NUL among them
pub record IsLong (now : List ℕ) : Type 0 where
  pub front : List ℕ
  pub back : List ℕ
  pub whole : now ≡ front ++ back
  pub no_nul : has_no_nul front ≡ true
  pub long : command_limit < length front

pub long_some : (now : List ℕ) (n : ℕ) → FirstNul now (Some n) → command_limit < n → IsLong now
long_some now n found long =
    record {
      front = take n now;
      back = 0
          ∷ drop (n + 1) now;
      whole = found.1;
      no_nul = found.0;
      long = omega (arith, front_length now n found);
    }

pub long_none : (now : List ℕ) → has_no_nul now ≡ true → command_limit < length now → IsLong now
long_none now none long = record { front = now; back = []; whole = sym (append-nil now); no_nul = none; long = long }

pub long_refused : (now : List ℕ) → IsLong now → BeginsNoCommand now
long_refused now l text rest more is e =
    no_shorter l.front text (l.back ++ more) rest l.no_nul (omega (arith, is.fits, l.long))
    (sym (append_assoc l.front l.back more) ∙ ap (λ x. x ++ more) (sym l.whole) ∙ e ∙ framed text rest)

pub long_partial : (now : List ℕ) → IsLong now → IsPartialCommand now → ⊥
long_partial now l p =
    let short = (partial_front now p.more p.text p.comes p.is_text.no_nul p.whole).1 in
    omega (arith, short, l.long, p.is_text.fits, ap length l.whole, length-append l.front l.back)

pub long_never : (now : List ℕ) → IsLong now → (more : List ℕ) → commands_in (now ++ more) ≡ []
long_never now l more =
    ap (λ x. commands_in (x ++ more)) l.whole ∙ ap commands_in (append_assoc l.front l.back more)
    ∙ commands-long l.front (l.back ++ more) l.no_nul l.long

-- ---- once a piece follows

pub none_comes : (held piece : List ℕ) → has_no_nul held ≡ true → has_no_nul piece ≡ true
    → has_no_nul (held ++ piece) ≡ true
none_comes held piece p q = list_all-append _ held piece ∙ and_from _ _ p q

pub first_comes : (held piece : List ℕ) (n : ℕ) → has_no_nul held ≡ true → FirstNul piece (Some n)
    → FirstNul (held ++ piece) (Some (length held + n))
first_comes held piece n none found =
    let front : take (length held + n) (held ++ piece) ≡ held ++ take n piece = take-append-add held piece n in
    let back : drop (length held + (n + 1)) (held ++ piece) ≡ drop (n + 1) piece = drop-append-add held piece (n + 1) in
    let place : length held + (n + 1) ≡ length held + n + 1 = omega arith in
    let after : drop (length held + n + 1) (held ++ piece) ≡ drop (n + 1) piece = subst
    (λ (k : ℕ). drop k (held ++ piece) ≡ drop (n + 1) piece) place back in (
      subst (λ l. has_no_nul l ≡ true) (sym front) (none_comes held (take n piece) none found.0),
      ap (λ l. held ++ l) found.1 ∙ sym (append_assoc held (take n piece) (0 ∷ drop (n + 1) piece))
          ∙ (λ i. sym front i ++ 0 ∷ sym after i),
    )
