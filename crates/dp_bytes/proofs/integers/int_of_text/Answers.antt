use Rattle.std.proofs.Common.{◌≡◌, List, ℕ, false, Some, sym, ap, ◌∙◌}
use Rattle.std.proofs.lemmas.Str.{IsUtf8-from_ascii}
use Rattle.std.specs.Result.{MatchResult, is_ok, result_ok}
use Rattle.std.specs.Str.{IsUtf8}
use Rattle.std.proofs.Common.{Bor, Result, Ok, Err}
use Rattle.std.proofs.lemmas.Option.{same_Some}
use Rattle.dp_bytes.proofs.IntTextLemmas.{form-IsAscii, parsed_int}
use Rattle.dp_bytes.proofs.integers.int_of_text.Goals as goal

-- bytes that are text are read as text
never : {E : Type 0} (P : E → Type 0) {bs : List ℕ} (r : Result (Bor (List ℕ)) E)
    → MatchResult r (λ s. (s.now ≡ bs) × IsUtf8 bs) (λ e. ¬ (IsUtf8 bs) × P e) → false ≡ is_ok r → IsUtf8 bs → ⊥
never P (Ok s) says h utf8 = cc
never P (Err e) says h utf8 = says.0 utf8

same_text : {E : Type 0} (P : E → Type 0) {bs : List ℕ} (r : Result (Bor (List ℕ)) E) (t : Bor (List ℕ))
    → MatchResult r (λ s. (s.now ≡ bs) × IsUtf8 bs) (λ e. ¬ (IsUtf8 bs) × P e) → Some t ≡ result_ok r → t.now ≡ bs
same_text P (Ok s) t says h = ap (λ (x : Bor (List ℕ)). x.now) (same_Some t s h) ∙ says.0
same_text P (Err e) t says h = cc

pub returns-in_err-text : goal.returns-in_err-text
returns-in_err-text c =
    let utf8 = IsUtf8-from_ascii c.args.bytes.now (form-IsAscii c.args.bytes.now (sym c.if-not-has_int_form.ensures)) in
    absurd (never _ c.from_utf8.result c.from_utf8.ensures.cases c.in_err-text.ensures.variant utf8)

pub returns : goal.returns
returns c =
    let text = same_text _ c.from_utf8.result c.in_ok-text.text c.from_utf8.ensures.cases c.in_ok-text.ensures.value in
    c.ok-2.ensures.value
    ∙ parsed_int c.args.bytes.now c.parse.result (sym c.if-not-has_int_form.ensures)
    (rw text at c.parse.ensures.value.0)
