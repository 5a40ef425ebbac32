-- What the functions that read answer, and the steps that they are made of.
use Rattle.std.specs.Prelude.{◌≡◌, ◌≢◌, ℕ, zero, suc, Bool, false, if◌then◌else◌, List, [], ◌∷◌, ◌++◌, length, Option, Some, None, Result, Ok, Err}
use Rattle.std.specs.Borrow.{Bor}
use Rattle.std.specs.declared.ops.ControlFlow.{ControlFlow}
use Rattle.std.specs.declared.ops.ControlFlow.TheVariants.{Continue, Break}
use Rattle.dp_grammar.specs.Rules.{head}
use Rattle.dp_grammar.specs.declared.refusal.Refusal.{Refusal}
use Rattle.dp_grammar.specs.declared.refusal.Refusal.TheVariants.{Unexpected, TooDeep, Memory}

-- a symbol that passes the test comes next
abbrev pub next : {T : Type 0} → (T → Bool) → Option T → Bool
next test None = false
next test (Some t) = test t

-- a value and the symbols behind it, or a refusal
abbrev pub Outcome : Type 0 → Type 0 → Type 0
Outcome T A = Result (A × List T) Refusal

abbrev pub Reader : Type 0 → Type 0 → Type 0
Reader T A = List T → Outcome T A

abbrev pub and_then : {T A B : Type 0} → Outcome T A → (A → Reader T B) → Outcome T B
and_then (Ok p) f = f p.0 p.1
and_then (Err e) f = Err e

infixl 10 ◌>>=◌
abbrev pub ◌>>=◌ : {T A B : Type 0} → Reader T A → (A → Reader T B) → Reader T B
p >>= f = λ ts. and_then (p ts) f

infixl 10 ◌>>◌
abbrev pub ◌>>◌ : {T A B : Type 0} → Reader T A → Reader T B → Reader T B
p >> q = p >>= (λ _. q)

abbrev pub gives : {T A : Type 0} → A → Reader T A
gives a = λ ts. Ok (a, ts)

abbrev pub made : {T A B : Type 0} → Reader T A → (A → B) → Reader T B
made p f = p >>= (λ a. gives (f a))

unfoldable pub refuse : {T A : Type 0} → Reader T A
refuse ts = Err (Unexpected (length ts))

-- the symbol that was met, where it is worth something
abbrev pub met : {T A : Type 0} → Option A → T → Reader T A
met (Some a) t ts = Ok (a, ts)
met None t ts = Err (Unexpected (length (t ∷ ts)))

abbrev pub one : {T A : Type 0} → (T → Option A) → Reader T A
one worth [] = Err (Unexpected 0)
one worth (t ∷ ts) = met (worth t) t ts

-- the next symbol, for what it was found to be worth
abbrev pub taken : {T A : Type 0} → Option A → Reader T A
taken found [] = Err (Unexpected 0)
taken found (t ∷ ts) = met found t ts

-- what was read, if it passes
abbrev pub tested : {T A : Type 0} → (A → Bool) → A → Reader T A
tested test a = λ ts. if test a then Ok (a, ts) else Err (Unexpected (length ts))

-- on where a level of nesting is left
abbrev pub enter : {T : Type 0} → ℕ → Reader T (Unit {0})
enter zero ts = Err (TooDeep (length ts))
enter (suc level) ts = Ok (tt, ts)

-- on with the loop, or done
abbrev pub next_of : {T A B : Type 0} → (A → Reader T B) → ControlFlow B A → Reader T B
next_of go (Continue a) = go a
next_of go (Break b) = gives b

-- steps until one is done. The count bounds them.
unfoldable pub until : {T A B : Type 0} → (A → Reader T (ControlFlow B A)) → ℕ → A → Reader T B
until step zero a ts = Err (Unexpected (length ts))
until step (suc count) a ts = and_then (step a ts) (next_of (until step count))

-- Each step that goes on takes a symbol, so this count is enough.
abbrev pub closed : {T A B : Type 0} → (A → Reader T (ControlFlow B A)) → A → Reader T B
closed step a = λ ts. until step (suc (length ts)) a ts

-- any number of pieces, each where the test of the next symbol holds
abbrev pub many_step : {T A : Type 0} → (Option T → Bool) → Reader T A → List A
    → Reader T (ControlFlow (List A) (List A))
many_step test piece all ts =
    if test (head ts) then made (made piece (λ a. all ++ a ∷ [])) Continue ts
    else Ok (Break all, ts)

-- what a function that reads ensures: the reader's outcome, unless memory fails
abbrev pub Reads : {T A : Type 0} → Outcome T A → Result A Refusal → List T → Type 0
Reads outcome (Ok a) new = outcome ≡ Ok (a, new)
Reads outcome (Err e) new = e ≢ Memory → outcome ≡ Err e

-- what a function that reads ensures, where the value is a slice
abbrev pub ReadsSlice : {T A : Type 0} → Outcome T (List A) → Result (Bor (List A)) Refusal
    → List T → Type 0
ReadsSlice outcome (Ok a) new = outcome ≡ Ok (a.now, new)
ReadsSlice outcome (Err e) new = e ≢ Memory → outcome ≡ Err e

-- what such a function ensures beside that where it takes no memory: each refusal is the reader's
abbrev pub Surely : {T A B : Type 0} → Outcome T A → Result B Refusal → Type 0
Surely outcome (Ok b) = Unit {0}
Surely outcome (Err e) = outcome ≡ Err e
