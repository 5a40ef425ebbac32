-- How statements are read, at every depth.
use Rattle.std.proofs.Common.{◌≡◌, inl, inr, ℕ, zero, suc, ◌≤◌, Bool, List, [], ◌∷◌, refl, ap, arith}
use Rattle.dp_lexer.specs.declared.token.Token.{Token}
use Rattle.dp_lexer.specs.declared.token.TokenKind.TheVariants as kind
use Rattle.dp_parse.specs.declared.ended.Body.{Body}
use Rattle.dp_token_rules.specs.declared.terminal.Terminal.TheVariants.{Of}
use Rattle.dp_lexer.specs.declared.token.Word.TheVariants as word
use Rattle.dp_token_rules.specs.declared.terminal.Terminal.{Terminal}
use Rattle.dp_tree.specs.declared.tree.StatementKind.TheVariants as tree
use Rattle.dp_token_rules.specs.Rules.{Mark}
use Rattle.dp_parse.specs.Statements.{Depth, whole, stated, body_at}
use Rattle.dp_parse.specs.inner.StatementRules.{any_statement, on_its_line, body_below, statement}
use Rattle.dp_token_rules.proofs.Terminals.{placed, mark_alone}
use Rattle.dp_token_rules.proofs.Answers.{Answers, give, below_answers}
use Rattle.dp_parse.proofs.StatementReaders.{Deeper, IsPartReader}
use Rattle.dp_parse.proofs.StatementParts.{AreRead, reader_at, body_stop}
use Rattle.dp_parse.proofs.StatementStarts.{BodyAt, AnyAt, LineAt}
use Rattle.dp_parse.proofs.StatementBodies.{line_answers}

abbrev depth_of : ℕ → ℕ → Depth
depth_of expressions bodies = record { expressions = expressions; bodies = bodies }

-- one more level of bodies
abbrev raise : Depth → Depth
raise l = depth_of l.expressions (suc l.bodies)

down : (loops : ℕ) (m : Depth) (text : List Token) (a : Body) → BodyAt loops m text a
    → (k : Depth) × (m ≡ raise k) × LineAt loops k text a
down loops m text a h = go m.bodies refl h
  where
    go : (n : ℕ) → m.bodies ≡ n → body_at m.expressions n loops text a
        → (k : Depth) × (m ≡ raise k) × LineAt loops k text a
    go zero e none = absurd none
    go (suc n) e h = (depth_of m.expressions n, (λ i. depth_of m.expressions (e i)), h)

drops : (l m : Depth) → Deeper (raise l) m → (k : Depth) × (m ≡ raise k) × Deeper l k
drops l m above = go m.bodies refl
  where
    go : (n : ℕ) → m.bodies ≡ n → (k : Depth) × (m ≡ raise k) × Deeper l k
    go zero e = absurd (let d = above.bodies in omega (arith, d, e))
    go (suc n) e = (
      depth_of m.expressions n,
      (λ i. depth_of m.expressions (e i)),
      record { expressions = above.expressions; bodies = (let d = above.bodies in omega (arith, d, e)) },
    )

lifts : (l k : Depth) → Deeper l k → Deeper (raise l) (raise k)
lifts l k above = record { expressions = above.expressions; bodies = (let d = above.bodies in omega (arith, d)) }

raise_one : (k m : Depth) → raise k ≡ raise m → k ≡ m
raise_one k m e =
    let x = ap (λ l. l.expressions) e in
    let z : suc k.bodies ≡ suc m.bodies = ap (λ l. l.bodies) e in
    let y : k.bodies ≡ m.bodies = omega (arith, z) in
    λ i. depth_of (x i) (y i)

-- the least statement, `;`
least_line : (loops : ℕ) (m : Depth) → LineAt loops m (placed (kind.Word word.Semicolon) ∷ [])
    (stated 1 (whole tree.Empty))
least_line loops m =
    let text : List Token = placed (kind.Word word.Semicolon) ∷ [] in
    record {
      first = placed (kind.Word word.Semicolon);
      behind = [];
      begins = refl;
      spelled =
          give (AnyAt loops m) (stated 1) text (whole tree.Empty)
          (inr (inr (inr (inl (give (Mark (Of word.Semicolon)) (λ _. whole tree.Empty) text 1 (mark_alone
          (Of word.Semicolon) (kind.Word word.Semicolon) refl))))));
    }

pub least_body : (loops : ℕ) (m : Depth) → 1 ≤ m.bodies → (ts : List Token) × (b : Body) × BodyAt loops m ts b
least_body loops m some = go m.bodies some
  where
    go : (n : ℕ) → 1 ≤ n → (ts : List Token) × (b : Body) × body_at m.expressions n loops ts b
    go zero none = absurd (omega arith)
    go (suc n) some = (
      placed (kind.Word word.Semicolon) ∷ [],
      stated 1 (whole tree.Empty),
      least_line loops
          (depth_of m.expressions n),
    )

module _ (ends place_ends : Terminal → Bool) (known : AreRead ends place_ends) where
  pub body_reader : (expressions n loops : ℕ)
      → IsPartReader 1 (BodyAt loops) body_stop (depth_of expressions n) (body_below expressions n loops)
  unfolding body_below
  body_reader expressions zero loops = record { answers = λ none. absurd (omega arith); least = least_body loops }
  body_reader expressions (suc n) loops = record {
    answers =
        λ some ts. below_answers Deeper (LineAt loops) (BodyAt loops) body_stop (depth_of expressions n)
        (depth_of expressions (suc n)) ts raise (down loops) (λ k text a h. h) (drops (depth_of expressions n))
        (lifts (depth_of expressions n)) refl raise_one
        (on_its_line (reader_at any_statement loops (depth_of expressions n) (body_below expressions n)) ts)
        (line_answers ends place_ends known (depth_of expressions n) loops (body_below expressions n)
        (body_reader expressions n) ts);
    least = least_body loops;
  }

  -- a statement in so many loops
  pub statement_answers : (depth : Depth) (loops : ℕ) (ts : List Token)
      → Answers Deeper (LineAt loops) body_stop depth ts (statement depth.expressions depth.bodies loops ts)
  unfolding statement
  statement_answers depth loops ts =
      line_answers ends place_ends known depth loops (body_below depth.expressions depth.bodies)
      (body_reader depth.expressions depth.bodies) ts
