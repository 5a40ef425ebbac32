-- What the answer of a reader is, unless memory fails.
use Rattle.std.specs.Prelude.{◌≡◌, ◌⊎◌, Result, MatchResult}
use Rattle.dp_markup.specs.declared.errors.MarkupError.{MarkupError}
use Rattle.dp_markup.specs.declared.errors.MarkupError.TheVariants.{Memory}

-- this value
abbrev pub GivesValue : {T : Type 0} → Result T MarkupError → T → Type 0
GivesValue result value = MatchResult result (λ found. found ≡ value) (λ e. e ≡ Memory)

-- this refusal
abbrev pub Refuses : {T : Type 0} → Result T MarkupError → MarkupError → Type 0
Refuses result why = MatchResult result (λ found. ⊥) (λ e. (e ≡ why) ⊎ (e ≡ Memory))
