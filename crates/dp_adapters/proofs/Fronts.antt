-- What reads and writes do piece by piece, taken together.
use Rattle.std.proofs.Common.{◌≡◌, ℕ, ◌+◌, ◌-◌, List, [], ◌++◌, length, take, drop, refl, sym, ap, ◌∙◌, subst, append-nil, append_assoc, take_all, take-append-drop, arith}
use Rattle.std.proofs.lemmas.List.{take_at, take_rest}
use Rattle.std.specs.declared.option.Option.{Option}
use Rattle.std.specs.Io.KnownBytes.{Appends, Keeps}
use Rattle.std.proofs.KnownBytes.{Appends-kept}
use Rattle.dp_outside.specs.Streams.{AppendsFront}

-- what was written is a front of the bytes
pub front_written : (a b : Option (List ℕ)) (bytes done rest : List ℕ) → bytes ≡ done ++ rest → Appends a b done
    → AppendsFront a b bytes
front_written a b bytes done rest split p =
    (length done, subst (Appends a b) (sym (ap (take (length done)) split ∙ take_at done rest (length done) refl)) p)

-- nothing is left to write
pub all_written : (a b : Option (List ℕ)) (bytes done rest : List ℕ) → bytes ≡ done ++ rest → rest ≡ []
    → Appends a b done → Appends a b bytes
all_written a b bytes done rest split none p =
    subst (Appends a b) (sym (split ∙ ap (λ l. done ++ l) none ∙ append-nil done)) p

-- one more piece was written
pub piece_written : (all done rest : List ℕ) (n : ℕ) → all ≡ done ++ rest
    → all ≡ (done ++ take n rest) ++ take (length rest - n) (drop n rest)
piece_written all done rest n split =
    split ∙ ap (λ l. done ++ l) (sym (take-append-drop n rest) ∙ ap (λ l. take n rest ++ l) (sym (take_rest rest n)))
    ∙ sym (append_assoc done (take n rest) _)

-- all of the bytes were written, and the writer kept them
pub all_and_kept : (a b c : Option (List ℕ)) (bytes : List ℕ) → Appends a b bytes → Keeps b c → Appends a c bytes
all_and_kept a b c bytes p q = Appends-kept a b c bytes p q

-- all of the bytes are a front of them
pub front_of_all : (a b c : Option (List ℕ)) (bytes : List ℕ) → Appends a b bytes → Keeps b c → AppendsFront a c bytes
front_of_all a b c bytes p q = (
  length bytes,
  subst (Appends a c) (sym (take_all (length bytes) bytes (omega arith)))
      (Appends-kept a b c bytes p q),
)
