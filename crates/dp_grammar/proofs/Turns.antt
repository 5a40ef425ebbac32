-- A recursion on a count of turns, beside a loop that counts up.
use Rattle.std.specs.declared.ops.ControlFlow.{ControlFlow}
use Rattle.std.specs.declared.ops.ControlFlow.TheVariants.{Continue, Break}
use Rattle.std.proofs.Common.{◌≡◌, ℕ, suc, ◌+◌, ◌-◌, ◌<◌, ◌≤◌, List, length, Ok, Err, refl, ap, arith}
use Rattle.dp_grammar.specs.declared.refusal.Refusal.{Refusal}
use Rattle.dp_grammar.specs.declared.refusal.Refusal.TheVariants.{Unexpected}
use Rattle.dp_grammar.specs.inner.Input.{Outcome, Reader, and_then, gives, made, next_of, until}

-- what a step comes to, with the turns behind it
pub after : {T A B : Type 0} → Outcome T (ControlFlow B A) → (A → Reader T B) → Outcome T B
after step on = and_then step (next_of on)

module _ {T A B : Type 0} where
  pub after_more : (a : A) (ts : List T) (on : A → Reader T B) → after (Ok (Continue a, ts)) on ≡ on a ts
  unfolding after
  after_more a ts on = refl

  pub after_end : (b : B) (ts : List T) (on : A → Reader T B) → after (Ok (Break b, ts)) on ≡ Ok (b, ts)
  unfolding after
  after_end b ts on = refl

  pub after_refusal : (e : Refusal) (on : A → Reader T B) → after (Err e) on ≡ Err e
  unfolding after
  after_refusal e on = refl

  -- steps that were told apart by what comes next

  pub after_last : (read : Reader T B) (ts : List T) (on : A → Reader T B) → after (made read Break ts) on ≡ read ts
  unfolding after
  after_last read ts on = by (read ts)
    where
      by : (o : Outcome T B) → and_then (and_then o (λ b. gives (Break b))) (next_of on) ≡ o
      by (Ok p) = refl
      by (Err e) = refl

  pub after_piece : (read : Reader T A) (ts : List T) (on : A → Reader T B)
      → after (made read Continue ts) on ≡ and_then (read ts) on
  unfolding after
  after_piece read ts on = by (read ts)
    where
      by : (o : Outcome T A) → and_then (and_then o (λ a. gives (Continue a))) (next_of on) ≡ and_then o on
      by (Ok p) = refl
      by (Err e) = refl

module _ {T A B : Type 0} (step : A → Reader T (ControlFlow B A)) (end turn : ℕ) (a : A) (ts : List T) where
  pub one_turn : turn < end → until step (end - turn) a ts ≡ after (step a ts) (until step (end - (turn + 1)))
  unfolding until after
  one_turn below = let e : end - turn ≡ suc (end - (turn + 1)) = omega arith in ap (λ n. until step n a ts) e

  pub no_turn : end ≤ turn → until step (end - turn) a ts ≡ Err (Unexpected (length ts))
  unfolding until
  no_turn done = let e : end - turn ≡ 0 = omega arith in ap (λ n. until step n a ts) e

-- what each exit of such a loop asks for
pub ruleset turns = (one_turn, no_turn, after_more, after_end, after_refusal)
