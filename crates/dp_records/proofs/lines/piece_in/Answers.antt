use Rattle.std.proofs.Common.{inl, inr, sym, ◌∙◌, arith, length}
use Rattle.std.proofs.lemmas.Bool.{eqb-false, eqb-true}
use Rattle.dp_records.proofs.DigitLaws.{piece_decoded, piece_found, piece_length, piece_small}
use Rattle.dp_records.proofs.lines.piece_in.Goals.{then-is_empty-via-then-is_empty, then-is_empty-via-else-is_empty+then-digits}
use Rattle.dp_records.proofs.lines.piece_in.Goals as goal

pub returns-then-is_empty : goal.returns-then-is_empty
returns-then-is_empty c = λ bytes piece is.
    let within = piece_length c.args.digits.now bytes piece is in
    elim c.then-is_empty.branch [
      | then-is_empty-via-then-is_empty w ↦
          let none = eqb-true (length c.args.digits.now) 0 (sym c.is_empty.ensures ∙ w.if-is_empty.true) in
          omega (arith, none, within.0)
      | then-is_empty-via-else-is_empty+then-digits w ↦
          let more = w.if-digits.true in omega (arith, more, within.1)
    ]

pub returns-then-not-are_small_digits : goal.returns-then-not-are_small_digits
returns-then-not-are_small_digits c = λ bytes piece is.
    let small = piece_small c.args.digits.now bytes piece is in absurd (cc)

pub returns-in-Ok : goal.returns-in-Ok
returns-in-Ok c =
    let some = eqb-false (length c.args.digits.now) 0 (sym c.is_empty.ensures ∙ c.if-is_empty.false) in
    let short = c.if-digits.false in
    rw c.of.ensures
    (piece_found c.args.digits.now c.in-Ok.bytes.items c.in-Ok.ensures.ok
    (sym c.are_small_digits.ensures ∙ c.if-not-are_small_digits.false) (omega (arith, some)) (omega (arith, short)))

pub returns-in_default : goal.returns-in_default
returns-in_default c = λ bytes piece is.
    let decoded = piece_decoded c.args.digits.now bytes piece is in
    elim c.in-Err.ensures.err [
      | inl memory ↦ c.in_default.not-OutOfMemory memory
      | inr why ↦ absurd (cc)
    ]
