use Rattle.std.proofs.Common.{◌≡◌, ◌⊎◌, inl, inr, false, ℕ, ◌+◌, ◌-◌, ◌<◌, List, [], ◌∷◌, length, ◌^◌, take, drop, Result, Ok, Err, is_err, refl, sym, ap, ◌∙◌, subst, arith}
use Rattle.std.proofs.lemmas.Grind.{common_steps}
use Rattle.std.specs.Prelude.{OnOk}
use Rattle.std.specs.declared.alloc.AllocError.{AllocError}
use Rattle.dp_lexer.specs.declared.fault.Fault.{Fault}
use Rattle.dp_lexer.specs.declared.fault.Wrong.{Wrong}
use Rattle.dp_lexer.specs.declared.fault.Wrong.TheVariants as wrong
use Rattle.dp_lexer.specs.declared.token.Token.{Token}
use Rattle.dp_lexer.specs.declared.errors.LexError.TheVariants as error
use Rattle.dp_lexer.specs.Tokens.{feeds, AreTokensFrom, IsRefusedFrom, error_of}
use Rattle.dp_lexer.specs.inner.Lexed.{IsLexed, IsPlacedWithin, placed_at}
use Rattle.dp_lexer.specs.inner.Lexer.{Finds, piece_at}
use Rattle.dp_lexer.proofs.LexErrors.{error_one, error_no_memory}
use Rattle.dp_lexer.proofs.Chains.{next_lexed, takes_some, only_lexed, refused_lexed, none_lexed, line_within, rest_within, wrong_within, feeds_within, same_refusal, no_refusal}
use Rattle.dp_lexer.proofs.lexer.lex_from.Goals as goal

placed_within : (at : ℕ) (bytes rest : List ℕ) (ts : List Token) (line : ℕ) → IsLexed at bytes ts line rest
    → 0 < length rest → at + length bytes < 2 ^ 32 → (w : Wrong) → Finds (piece_at rest) (Err w)
    → IsPlacedWithin w (at + (length bytes - length rest))
placed_within at bytes rest ts line l some fits (wrong.Fault f d) h =
    omega (arith, wrong_within rest f d some h, rest_within at bytes rest ts line l)
placed_within at bytes rest ts line l some fits wrong.Memory h = tt

placed_none : (at : ℕ) (bytes rest : List ℕ) (ts : List Token) (line : ℕ) → IsLexed at bytes ts line rest
    → 0 < length rest → (w : Wrong) → Finds (piece_at rest) (Err w) → (others : List Token)
    → AreTokensFrom at bytes others → placed_at w (at + (length bytes - length rest)) ≡ error.Memory
placed_none at bytes rest ts line l some (wrong.Fault f d) h others o =
    absurd (none_lexed at bytes rest ts others line f d l some h o)
placed_none at bytes rest ts line l some wrong.Memory h others o = refl

placed_refused : (at : ℕ) (bytes rest : List ℕ) (ts : List Token) (line : ℕ) → IsLexed at bytes ts line rest
    → 0 < length rest → (w : Wrong) → Finds (piece_at rest) (Err w) → (f : Fault) (n : ℕ)
    → placed_at w (at + (length bytes - length rest)) ≡ error_of f n → IsRefusedFrom at bytes f n
placed_refused at bytes rest ts line l some (wrong.Fault g d) h f n e =
    let w = error_one g f (at + (length bytes - length rest) + d) n e in
    subst (λ k. IsRefusedFrom at bytes k n) w.0 (subst (λ m. IsRefusedFrom at bytes g m) w.1
    (refused_lexed at bytes rest ts line g d l some h))
placed_refused at bytes rest ts line l some wrong.Memory h f n e = absurd (error_no_memory f n (sym e))

placed_refuses : (at : ℕ) (bytes rest : List ℕ) (ts : List Token) (line : ℕ) → IsLexed at bytes ts line rest
    → 0 < length rest → (w : Wrong) → Finds (piece_at rest) (Err w) → (f : Fault) (n : ℕ) → IsRefusedFrom at bytes f n
    → (placed_at w (at + (length bytes - length rest)) ≡ error_of f n)
    ⊎ (placed_at w (at + (length bytes - length rest)) ≡ error.Memory)
placed_refuses at bytes rest ts line l some (wrong.Fault g d) h f n r =
    let s = same_refusal at bytes rest ts line g f d n l some h r in inl (λ i. error_of (s.0 i) (s.1 i))
placed_refuses at bytes rest ts line l some wrong.Memory h f n r = inr refl

pushed : (r : Result (Unit {0}) AllocError) (P : Type 0) → is_err r ≡ false → OnOk r P → P
pushed (Ok u) P e h = h
pushed (Err x) P e h = absurd (cc)

pub placed-requires : goal.placed-requires
placed-requires c =
    placed_within c.args.at c.args.bytes.now c.loop-rest.rest.now c.loop-rest.tokens.items c.loop-rest.line
    c.loop-rest.invariant (grind (arith, common_steps)) (omega arith) c.in-Err.wrong c.in-Err.ensures

pub returns-in-Err-clause-only : goal.returns-in-Err-clause-only
returns-in-Err-clause-only c =
    λ others o. c.placed.ensures
    ∙ placed_none c.args.at c.args.bytes.now c.loop-rest.rest.now c.loop-rest.tokens.items c.loop-rest.line
    c.loop-rest.invariant (grind (arith, common_steps)) c.in-Err.wrong c.in-Err.ensures others o

pub returns-in-Err-clause-refused : goal.returns-in-Err-clause-refused
returns-in-Err-clause-refused c =
    λ f n e. placed_refused c.args.at c.args.bytes.now c.loop-rest.rest.now c.loop-rest.tokens.items c.loop-rest.line
    c.loop-rest.invariant (grind (arith, common_steps)) c.in-Err.wrong c.in-Err.ensures f n
    (sym c.placed.ensures ∙ (cc))

pub returns-in-Err-clause-refuses : goal.returns-in-Err-clause-refuses
returns-in-Err-clause-refuses c = λ f n r.
    subst (λ e. (e ≡ error_of f n) ⊎ (e ≡ error.Memory)) (sym c.placed.ensures)
    (placed_refuses c.args.at c.args.bytes.now c.loop-rest.rest.now c.loop-rest.tokens.items c.loop-rest.line
    c.loop-rest.invariant (grind (arith, common_steps)) c.in-Err.wrong c.in-Err.ensures f n r)

pub push_token-requires-clause-end : goal.push_token-requires-clause-end
push_token-requires-clause-end c =
    let t = takes_some c.loop-rest.rest.now c.in-Ok.found.0 c.in-Ok.found.1 c.in-Ok.ensures in omega (
      arith,
      t.1,
      rest_within c.args.at c.args.bytes.now c.loop-rest.rest.now c.loop-rest.tokens.items c.loop-rest.line
          c.loop-rest.invariant,
    )

pub push_token-requires-clause-line : goal.push_token-requires-clause-line
push_token-requires-clause-line c =
    let t = takes_some c.loop-rest.rest.now c.in-Ok.found.0 c.in-Ok.found.1 c.in-Ok.ensures in omega (
      arith,
      t.0,
      t.1,
      line_within c.args.at c.args.bytes.now c.loop-rest.rest.now c.loop-rest.tokens.items
          c.loop-rest.line c.loop-rest.invariant,
    )

pub split_at-requires : goal.split_at-requires
split_at-requires c = (takes_some c.loop-rest.rest.now c.in-Ok.found.0 c.in-Ok.found.1 c.in-Ok.ensures).1

pub overflow_add-line : goal.overflow_add-line
overflow_add-line c =
    omega (
      arith,
      c.line_feeds-line.ensures,
      feeds_within c.split_at.result.0.now,
      c.split_at.ensures.front_len,
      (takes_some c.loop-rest.rest.now c.in-Ok.found.0 c.in-Ok.found.1 c.in-Ok.ensures).1,
      line_within c.args.at c.args.bytes.now c.loop-rest.rest.now c.loop-rest.tokens.items c.loop-rest.line
          c.loop-rest.invariant,
    )

pub loop-rest-smaller : goal.loop-rest-smaller
loop-rest-smaller c =
    let t = takes_some c.loop-rest.rest.now c.in-Ok.found.0 c.in-Ok.found.1 c.in-Ok.ensures in omega
    (arith, t.0, t.1, c.split_at.ensures.back_len)

pub loop-rest-preserved : goal.loop-rest-preserved
loop-rest-preserved c =
    let n = c.in-Ok.found.1 in
    let step = next_lexed c.args.at c.args.bytes.now c.loop-rest.rest.now c.loop-rest.tokens.items c.loop-rest.line
    c.in-Ok.found.0 c.in-Ok.found.1 c.loop-rest.invariant c.in-Ok.ensures in
    let items = pushed c.push_token.result _ (grind (arith, common_steps)) c.push_token.ensures in
    let lines = c.line_feeds-line.ensures ∙ ap feeds c.split_at.ensures.front in
    subst (λ r. IsLexed c.args.at c.args.bytes.now c.push_token.new.tokens.items
    (c.loop-rest.line + c.line_feeds-line.result) r) (sym c.split_at.ensures.back)
    (subst (λ k. IsLexed c.args.at c.args.bytes.now c.push_token.new.tokens.items (c.loop-rest.line + k)
    (drop c.in-Ok.found.1 c.loop-rest.rest.now)) (sym lines)
    (subst (λ ts. IsLexed c.args.at c.args.bytes.now ts (c.loop-rest.line + feeds
    (take c.in-Ok.found.1 c.loop-rest.rest.now)) (drop c.in-Ok.found.1 c.loop-rest.rest.now)) (sym items) step))

none_left : (rest : List ℕ) → length rest ≡ 0 → rest ≡ []
none_left [] e = refl
none_left (x ∷ xs) e = absurd (omega arith)

pub returns-clause-only : goal.returns-clause-only
returns-clause-only c =
    λ others o. only_lexed c.args.at c.args.bytes.now c.loop-rest.tokens.items others c.loop-rest.line
    (subst (λ r. IsLexed c.args.at c.args.bytes.now c.loop-rest.tokens.items c.loop-rest.line r)
    (none_left c.loop-rest.rest.now (grind (arith, common_steps))) c.loop-rest.invariant) o

pub returns-clause-refuses : goal.returns-clause-refuses
returns-clause-refuses c =
    λ f n r. no_refusal c.args.at c.args.bytes.now c.loop-rest.tokens.items c.loop-rest.line f n
    (subst (λ r. IsLexed c.args.at c.args.bytes.now c.loop-rest.tokens.items c.loop-rest.line r)
    (none_left c.loop-rest.rest.now (grind (arith, common_steps))) c.loop-rest.invariant) r
