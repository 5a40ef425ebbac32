-- No value of a line is longer than the bytes that spell it.
use Rattle.std.proofs.Common.{ℕ, ◌≤◌, Bool, true, false, cond, eqb, List, [], ◌∷◌, length, ap, arith, length-append, ⊎_elim}
use Rattle.std.specs.Prelude.{IfOk, Result, Ok, Err}
use Rattle.std.specs.List.{AllByRecursion}
use Rattle.dp_bytes.specs.Quotes.{in_quotes}
use Rattle.dp_command.specs.declared.errors.LineError.{LineError}
use Rattle.dp_command.specs.declared.line.Line.{Line}
use Rattle.dp_command.specs.Grammar.{Bare, Quoted, InQuotes, Repeated, Value, Argument, Given, spelt}

abbrev pub IsShort : ℕ → ℕ × List ℕ → Type 0
IsShort most o = length o.1 ≤ most

either : (t : Bool) (x y : List ℕ) → 1 ≤ length x → 1 ≤ length y → 1 ≤ length (cond t x y)
either true x y p q = p
either false x y p q = q

one_at_least : (b : ℕ) → 1 ≤ length (in_quotes b)
one_at_least b =
    either (eqb b 34) _ _ (omega arith) (either (eqb b 92) _ _ (omega arith)
    (either (eqb b 0) _ _ (omega arith) (omega arith)))

quoted_short : (value bytes : List ℕ) → Repeated InQuotes value bytes → length value ≤ length bytes
quoted_short [] bytes j = omega arith
quoted_short (b ∷ value) bytes j =
    omega (
      arith,
      one_at_least b,
      ap length j.first,
      quoted_short value j.back j.second,
      ap length j.whole,
      length-append j.front j.back,
    )

in_quotes_short : (value bytes : List ℕ) → Quoted value bytes → length value ≤ length bytes
in_quotes_short value bytes j =
    let inner = j.second in
    omega (
      arith,
      quoted_short value inner.front inner.first,
      ap length inner.whole,
      length-append inner.front inner.back,
      ap length j.whole,
      length-append j.front j.back,
    )

value_short : (value bytes : List ℕ) → Value value bytes → length value ≤ length bytes
value_short value bytes j =
    ⊎_elim (λ (h : Bare value bytes). omega (arith, ap length h.2)) (in_quotes_short value bytes) j

argument_short : (o : ℕ × List ℕ) (bytes : List ℕ) → Argument o bytes → length o.1 ≤ length bytes
argument_short o bytes j =
    let rest = j.1.second in
    omega (
      arith,
      value_short o.1 rest.back rest.second,
      ap length rest.whole,
      length-append rest.front rest.back,
      ap length j.1.whole,
      length-append j.1.front j.1.back,
    )

given_short : (o : ℕ × List ℕ) (bytes : List ℕ) → Given o bytes → length o.1 ≤ length bytes
given_short o bytes j = omega (arith, argument_short o j.back j.second, ap length j.whole, length-append j.front j.back)

raised : (options : List (ℕ × List ℕ)) (few most : ℕ) → few ≤ most → AllByRecursion (IsShort few) options
    → AllByRecursion (IsShort most) options
raised [] few most h all = tt
raised (o ∷ options) few most h all = (omega (arith, all.0, h), raised options few most h all.1)

options_short : (options : List (ℕ × List ℕ)) (bytes : List ℕ) → Repeated Given options bytes
    → AllByRecursion (IsShort (length bytes)) options
options_short [] bytes j = tt
options_short (o ∷ options) bytes j =
    let whole = ap length j.whole in
    let sum = length-append j.front j.back in (
      omega (arith, given_short o j.front j.first, whole, sum),
      raised options (length j.back) (length bytes) (omega (arith, whole, sum))
          (options_short options j.back j.second),
    )

pub values_short : (bytes : List ℕ) (line : Line) → spelt bytes line
    → AllByRecursion (IsShort (length bytes)) line.options
values_short bytes line j =
    let options = j.second in
    let whole = ap length j.whole in
    let sum = length-append j.front j.back in
    let inner = ap length options.whole in
    let inner_sum = length-append options.front options.back in
    raised line.options (length options.front) (length bytes) (omega (arith, whole, sum, inner, inner_sum))
    (options_short line.options options.front options.first)

pub read_short : (bytes : List ℕ) (result : Result Line LineError) → IfOk result (λ line. spelt bytes line)
    → IfOk result (λ line. AllByRecursion (IsShort (length bytes)) line.options)
read_short bytes (Ok line) h = values_short bytes line h
read_short bytes (Err e) h = tt
