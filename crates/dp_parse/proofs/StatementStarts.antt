-- What statements begin with, and which statement begins with which token.
use Rattle.std.proofs.Common.{◌≡◌, inl, inr, ℕ, zero, suc, Bool, true, false, not, ◌||◌, List, ◌∷◌, nat_lt, sym, refl, ap, ◌∙◌, subst}
use Rattle.dp_lexer.specs.declared.token.Token.{Token}
use Rattle.dp_parse.specs.declared.ended.Body.{Body}
use Rattle.dp_parse.specs.declared.ended.Ended.{Ended}
use Rattle.dp_token_rules.specs.declared.terminal.Terminal.TheVariants.{Of}
use Rattle.dp_lexer.specs.declared.token.Word.TheVariants as word
use Rattle.dp_token_rules.specs.declared.terminal.Terminal.{Terminal}
use Rattle.dp_tree.specs.declared.tree.StatementKind.TheVariants as tree
use Rattle.dp_token_rules.specs.Terminals.{terminal_of, is}
use Rattle.dp_expressions.specs.inner.Readers.{begins_expression}
use Rattle.dp_parse.specs.Statements.{Depth, whole, stated, Empty, ElseIf, GlobalRule, Perform, Echo, Block, If, While, DoWhile, For, Foreach, Loops, Return, Unset, Exit, AnyStatement, body_at, Braced, HeadBody}
use Rattle.dp_parse.specs.Statements as grammar
use Rattle.dp_token_rules.proofs.Terminals.{or_left, or_right, mark_passes, mark_apart, same_is}
use Rattle.dp_token_rules.proofs.Answers.{Rules, JoinedAt, EitherAt, MarkAt, MadeAt, WhenAt, OnLineAt, StartsIn, mark_starts, joined_starts, either_starts, made_starts, when_starts, nests_starts, online_starts, starts_in_more, WithoutAt, without_starts}
use Rattle.dp_parse.proofs.StatementParts.{AreRead, ExpressionAt, StatementAt, takes_else, open_ends}

-- ---- what a statement begins with

abbrev pub begins_keyword : Terminal → Bool
begins_keyword (Of word.Echo) = true
begins_keyword (Of word.OpenBrace) = true
begins_keyword (Of word.Semicolon) = true
begins_keyword (Of word.If) = true
begins_keyword (Of word.While) = true
begins_keyword (Of word.Do) = true
begins_keyword (Of word.For) = true
begins_keyword (Of word.Foreach) = true
begins_keyword (Of word.Break) = true
begins_keyword (Of word.Continue) = true
begins_keyword (Of word.Return) = true
begins_keyword (Of word.Global) = true
begins_keyword (Of word.Unset) = true
begins_keyword (Of word.Exit) = true
begins_keyword (Of word.Die) = true
begins_keyword _ = false

abbrev pub begins_statement : Terminal → Bool
begins_statement s = begins_expression s || begins_keyword s

abbrev pub BodyAt : ℕ → Rules Depth Body
BodyAt loops m = body_at m.expressions m.bodies loops

-- "{" *stmt "}"
abbrev pub BracedAt : ℕ → Rules Depth Ended
BracedAt loops m = Braced (BodyAt loops m)

abbrev pub BracedLineAt : ℕ → Rules Depth Body
BracedLineAt loops = OnLineAt (λ line. MadeAt (BracedAt loops) (stated line))

-- the body of a head
abbrev pub HeadBodyAt : ℕ → Rules Depth Body
HeadBodyAt loops m = HeadBody (BodyAt loops m)

abbrev pub AnyAt : ℕ → Rules Depth Ended
AnyAt loops = StatementAt AnyStatement loops

-- a statement with the line of its first token
abbrev pub LineAt : ℕ → Rules Depth Body
LineAt loops = OnLineAt (λ line. MadeAt (AnyAt loops) (stated line))

-- the rule of the statements that begin with such a token
abbrev pub Chosen : ℕ → Terminal → Rules Depth Ended
Chosen loops (Of word.Echo) = StatementAt Echo loops
Chosen loops (Of word.OpenBrace) = StatementAt Block loops
Chosen loops (Of word.Semicolon) = λ _. Empty
Chosen loops (Of word.If) = StatementAt If loops
Chosen loops (Of word.While) = StatementAt While loops
Chosen loops (Of word.Do) = StatementAt DoWhile loops
Chosen loops (Of word.For) = StatementAt For loops
Chosen loops (Of word.Foreach) = StatementAt Foreach loops
Chosen loops (Of word.Break) = StatementAt grammar.Break loops
Chosen loops (Of word.Continue) = StatementAt grammar.Continue loops
Chosen loops (Of word.Return) = StatementAt Return loops
Chosen loops (Of word.Global) = λ _. GlobalRule
Chosen loops (Of word.Unset) = StatementAt Unset loops
Chosen loops (Of word.Exit) = StatementAt Exit loops
Chosen loops (Of word.Die) = StatementAt Exit loops
Chosen loops _ = StatementAt Perform loops

pub unchosen : (loops : ℕ) (s : Terminal) (m : Depth) (text : List Token) (a : Ended) → Chosen loops s m text a
    → AnyAt loops m text a
unchosen loops (Of word.Echo) m text a h = inr (inl h)
unchosen loops (Of word.OpenBrace) m text a h = inr (inr (inl h))
unchosen loops (Of word.Semicolon) m text a h = inr (inr (inr (inl h)))
unchosen loops (Of word.If) m text a h = inr (inr (inr (inr (inl h))))
unchosen loops (Of word.While) m text a h = inr (inr (inr (inr (inr (inl h)))))
unchosen loops (Of word.Do) m text a h = inr (inr (inr (inr (inr (inr (inl h))))))
unchosen loops (Of word.For) m text a h = inr (inr (inr (inr (inr (inr (inr (inl h)))))))
unchosen loops (Of word.Foreach) m text a h = inr (inr (inr (inr (inr (inr (inr (inr (inl h))))))))
unchosen loops (Of word.Break) m text a h = inr (inr (inr (inr (inr (inr (inr (inr (inr (inl h)))))))))
unchosen loops (Of word.Continue) m text a h = inr (inr (inr (inr (inr (inr (inr (inr (inr (inr (inl h))))))))))
unchosen loops (Of word.Return) m text a h = inr (inr (inr (inr (inr (inr (inr (inr (inr (inr (inr (inl h)))))))))))
unchosen loops (Of word.Global) m text a h =
    inr (inr (inr (inr (inr (inr (inr (inr (inr (inr (inr (inr (inl h))))))))))))
unchosen loops (Of word.Unset) m text a h =
    inr (inr (inr (inr (inr (inr (inr (inr (inr (inr (inr (inr (inr (inl h)))))))))))))
unchosen loops (Of word.Exit) m text a h =
    inr (inr (inr (inr (inr (inr (inr (inr (inr (inr (inr (inr (inr (inr h)))))))))))))
unchosen loops (Of word.Die) m text a h =
    inr (inr (inr (inr (inr (inr (inr (inr (inr (inr (inr (inr (inr (inr h)))))))))))))
unchosen loops _ m text a h = inl h

perform_chosen : (loops : ℕ) (s : Terminal) (m : Depth) (text : List Token) (a : Ended) → begins_expression s ≡ true
    → StatementAt Perform loops m text a → Chosen loops s m text a
perform_chosen loops (Of word.Echo) m text a e h = absurd (cc)
perform_chosen loops (Of word.OpenBrace) m text a e h = absurd (cc)
perform_chosen loops (Of word.Semicolon) m text a e h = absurd (cc)
perform_chosen loops (Of word.If) m text a e h = absurd (cc)
perform_chosen loops (Of word.While) m text a e h = absurd (cc)
perform_chosen loops (Of word.Do) m text a e h = absurd (cc)
perform_chosen loops (Of word.For) m text a e h = absurd (cc)
perform_chosen loops (Of word.Foreach) m text a e h = absurd (cc)
perform_chosen loops (Of word.Break) m text a e h = absurd (cc)
perform_chosen loops (Of word.Continue) m text a e h = absurd (cc)
perform_chosen loops (Of word.Return) m text a e h = absurd (cc)
perform_chosen loops (Of word.Global) m text a e h = absurd (cc)
perform_chosen loops (Of word.Unset) m text a e h = absurd (cc)
perform_chosen loops (Of word.Exit) m text a e h = absurd (cc)
perform_chosen loops (Of word.Die) m text a e h = absurd (cc)
perform_chosen loops _ m text a e h = h

-- ---- an end that is no `else`

pub open_ends_other : (o : Bool) (s : Terminal) → takes_else s ≡ false → open_ends o s ≡ true
open_ends_other true s e = ap not e
open_ends_other false s e = refl

pub statement_no_else : (s : Terminal) → begins_statement s ≡ true → takes_else s ≡ false
statement_no_else s e =
    ap (λ b. b || is (Of word.ElseIf) s) (mark_apart begins_statement (Of word.Else) refl s e)
    ∙ mark_apart begins_statement (Of word.ElseIf) refl s e

module _ (ends place_ends : Terminal → Bool) (known : AreRead ends place_ends) where
  -- The first token of a statement tells which it is.
  pub record Starts (loops : ℕ) (m : Depth) (text : List Token) (a : Ended) : Type 0 where
    pub first : Token
    pub rest : List Token
    pub split : text ≡ first ∷ rest
    pub begins : begins_statement (terminal_of first.kind) ≡ true
    pub chosen : Chosen loops (terminal_of first.kind) m text a

  starts_with : (loops : ℕ) (s : Terminal) → begins_statement s ≡ true → StartsIn (Chosen loops s) (is s)
      → (m : Depth) (text : List Token) (a : Ended) → Chosen loops s m text a → Starts loops m text a
  starts_with loops s passes starts m text a h =
      let x = starts m text a h in
      record {
        first = x.0;
        rest = x.1;
        split = x.2;
        begins = mark_passes begins_statement s passes (terminal_of x.0.kind) x.3;
        chosen = subst (λ k. Chosen loops k m text a) (sym (same_is (terminal_of x.0.kind) s x.3)) h;
      }

  perform_starts : (loops : ℕ) → StartsIn (StatementAt Perform loops) begins_expression
  perform_starts loops = joined_starts ExpressionAt _ begins_expression (λ k. known.starts k.expressions)

  starts_perform : (loops : ℕ) (m : Depth) (text : List Token) (a : Ended) → StatementAt Perform loops m text a
      → Starts loops m text a
  starts_perform loops m text a h =
      let x = perform_starts loops m text a h in
      record {
        first = x.0;
        rest = x.1;
        split = x.2;
        begins = ap (λ b. b || begins_keyword (terminal_of x.0.kind)) x.3;
        chosen = perform_chosen loops (terminal_of x.0.kind) m text a x.3 h;
      }

  echo_starts : (loops : ℕ) → StartsIn (StatementAt Echo loops) (is (Of word.Echo))
  echo_starts loops = joined_starts (MarkAt (Of word.Echo)) _ (is (Of word.Echo)) (mark_starts (Of word.Echo))

  block_starts : (loops : ℕ) → StartsIn (StatementAt Block loops) (is (Of word.OpenBrace))
  block_starts loops =
      nests_starts (λ m. m.bodies) _ (is (Of word.OpenBrace)) (joined_starts (MarkAt (Of word.OpenBrace)) _
      (is (Of word.OpenBrace)) (mark_starts (Of word.OpenBrace)))

  empty_starts : StartsIn {L = Depth} (λ _. Empty) (is (Of word.Semicolon))
  empty_starts =
      made_starts (MarkAt (Of word.Semicolon)) (λ _. whole tree.Empty) (is (Of word.Semicolon))
      (mark_starts (Of word.Semicolon))

  if_starts : (loops : ℕ) → StartsIn (StatementAt If loops) (is (Of word.If))
  if_starts loops =
      nests_starts (λ m. m.bodies) _ (is (Of word.If)) (joined_starts (MarkAt (Of word.If)) _ (is (Of word.If))
      (mark_starts (Of word.If)))

  while_starts : (loops : ℕ) → StartsIn (StatementAt While loops) (is (Of word.While))
  while_starts loops =
      nests_starts (λ m. m.bodies) _ (is (Of word.While)) (joined_starts (MarkAt (Of word.While)) _ (is (Of word.While))
      (mark_starts (Of word.While)))

  do_starts : (loops : ℕ) → StartsIn (StatementAt DoWhile loops) (is (Of word.Do))
  do_starts loops =
      nests_starts (λ m. m.bodies) _ (is (Of word.Do)) (joined_starts (MarkAt (Of word.Do)) _ (is (Of word.Do))
      (mark_starts (Of word.Do)))

  for_starts : (loops : ℕ) → StartsIn (StatementAt For loops) (is (Of word.For))
  for_starts loops =
      nests_starts (λ m. m.bodies) _ (is (Of word.For)) (joined_starts (MarkAt (Of word.For)) _ (is (Of word.For))
      (mark_starts (Of word.For)))

  foreach_starts : (loops : ℕ) → StartsIn (StatementAt Foreach loops) (is (Of word.Foreach))
  foreach_starts loops =
      nests_starts (λ m. m.bodies) _ (is (Of word.Foreach)) (joined_starts (MarkAt (Of word.Foreach)) _
      (is (Of word.Foreach)) (mark_starts (Of word.Foreach)))

  in_loop_starts : (loops : ℕ) (s : Terminal) (f : ℕ → Ended)
      → StartsIn (WhenAt (nat_lt 0 loops) (MadeAt (JoinedAt (MarkAt s) (λ _. StatementAt Loops loops)) f)) (is s)
  in_loop_starts loops s f =
      when_starts (nat_lt 0 loops) (MadeAt (JoinedAt (MarkAt s) (λ _. StatementAt Loops loops)) f) (is s)
      (made_starts (JoinedAt (MarkAt s) (λ _. StatementAt Loops loops)) f (is s)
      (joined_starts (MarkAt s) (λ _. StatementAt Loops loops) (is s) (mark_starts s)))

  return_starts : (loops : ℕ) → StartsIn (StatementAt Return loops) (is (Of word.Return))
  return_starts loops =
      made_starts _ (λ value. whole (tree.Return value)) (is (Of word.Return))
      (joined_starts (MarkAt (Of word.Return)) _ (is (Of word.Return)) (mark_starts (Of word.Return)))

  global_starts : StartsIn {L = Depth} (λ _. GlobalRule) (is (Of word.Global))
  global_starts =
      made_starts _ (λ names. whole (tree.Global names)) (is (Of word.Global))
      (joined_starts (MarkAt (Of word.Global)) _ (is (Of word.Global)) (mark_starts (Of word.Global)))

  unset_starts : (loops : ℕ) → StartsIn (StatementAt Unset loops) (is (Of word.Unset))
  unset_starts loops = joined_starts (MarkAt (Of word.Unset)) _ (is (Of word.Unset)) (mark_starts (Of word.Unset))

  exit_starts : (loops : ℕ) → StartsIn (StatementAt Exit loops) (λ s. is (Of word.Exit) s || is (Of word.Die) s)
  exit_starts loops =
      joined_starts (EitherAt (MarkAt (Of word.Exit)) (MarkAt (Of word.Die))) _
      (λ s. is (Of word.Exit) s
      || is (Of word.Die) s) (either_starts (MarkAt (Of word.Exit)) (MarkAt (Of word.Die))
      (λ s. is (Of word.Exit) s || is (Of word.Die) s)
      (starts_in_more (MarkAt (Of word.Exit)) (is (Of word.Exit)) (λ s. is (Of word.Exit) s || is (Of word.Die) s)
      (λ s. or_left (is (Of word.Exit) s) (is (Of word.Die) s)) (mark_starts (Of word.Exit)))
      (starts_in_more (MarkAt (Of word.Die)) (is (Of word.Die)) (λ s. is (Of word.Exit) s || is (Of word.Die) s)
      (λ s. or_right (is (Of word.Exit) s) (is (Of word.Die) s)) (mark_starts (Of word.Die))))

  starts_exit : (loops : ℕ) (m : Depth) (text : List Token) (a : Ended) → StatementAt Exit loops m text a
      → Starts loops m text a
  starts_exit loops m text a h = go (is (Of word.Exit) (terminal_of x.0.kind)) refl
    where
      x : (x : Token) × (rest : List Token) × (text ≡ x ∷ rest)
          × ((is (Of word.Exit) (terminal_of x.kind) || is (Of word.Die) (terminal_of x.kind)) ≡ true)
      x = exit_starts loops m text a h

      with_terminal : (s : Terminal) → begins_statement s ≡ true → Chosen loops s m text a
          → is s (terminal_of x.0.kind) ≡ true → Starts loops m text a
      with_terminal s passes c e = record {
        first = x.0;
        rest = x.1;
        split = x.2;
        begins = mark_passes begins_statement s passes (terminal_of x.0.kind) e;
        chosen = subst (λ k. Chosen loops k m text a) (sym (same_is (terminal_of x.0.kind) s e)) c;
      }

      go : (b : Bool) → is (Of word.Exit) (terminal_of x.0.kind) ≡ b → Starts loops m text a
      go true e = with_terminal (Of word.Exit) refl h e
      go false e =
          with_terminal (Of word.Die) refl h (ap (λ b. b || is (Of word.Die) (terminal_of x.0.kind)) (sym e) ∙ x.3)

  pub starts : (loops : ℕ) (m : Depth) (text : List Token) (a : Ended) → AnyAt loops m text a → Starts loops m text a
  starts loops m text a (inl h) = starts_perform loops m text a h
  starts loops m text a (inr (inl h)) = starts_with loops (Of word.Echo) refl (echo_starts loops) m text a h
  starts loops m text a (inr (inr (inl h))) = starts_with loops (Of word.OpenBrace) refl (block_starts loops) m text a h
  starts loops m text a (inr (inr (inr (inl h)))) = starts_with loops (Of word.Semicolon) refl empty_starts m text a h
  starts loops m text a (inr (inr (inr (inr (inl h))))) =
      starts_with loops (Of word.If) refl (if_starts loops) m text a h
  starts loops m text a (inr (inr (inr (inr (inr (inl h)))))) =
      starts_with loops (Of word.While) refl (while_starts loops) m text a h
  starts loops m text a (inr (inr (inr (inr (inr (inr (inl h))))))) =
      starts_with loops (Of word.Do) refl (do_starts loops) m text a h
  starts loops m text a (inr (inr (inr (inr (inr (inr (inr (inl h)))))))) =
      starts_with loops (Of word.For) refl (for_starts loops) m text a h
  starts loops m text a (inr (inr (inr (inr (inr (inr (inr (inr (inl h))))))))) =
      starts_with loops (Of word.Foreach) refl (foreach_starts loops) m text a h
  starts loops m text a (inr (inr (inr (inr (inr (inr (inr (inr (inr (inl h)))))))))) =
      starts_with loops (Of word.Break) refl (in_loop_starts loops (Of word.Break) (λ n. whole (tree.Break n))) m text a
      h
  starts loops m text a (inr (inr (inr (inr (inr (inr (inr (inr (inr (inr (inl h))))))))))) =
      starts_with loops (Of word.Continue) refl (in_loop_starts loops (Of word.Continue) (λ n. whole (tree.Continue n)))
      m
      text a h
  starts loops m text a (inr (inr (inr (inr (inr (inr (inr (inr (inr (inr (inr (inl h)))))))))))) =
      starts_with loops (Of word.Return) refl (return_starts loops) m text a h
  starts loops m text a (inr (inr (inr (inr (inr (inr (inr (inr (inr (inr (inr (inr (inl h))))))))))))) =
      starts_with loops (Of word.Global) refl global_starts m text a h
  starts loops m text a (inr (inr (inr (inr (inr (inr (inr (inr (inr (inr (inr (inr (inr (inl h)))))))))))))) =
      starts_with loops (Of word.Unset) refl (unset_starts loops) m text a h
  starts loops m text a (inr (inr (inr (inr (inr (inr (inr (inr (inr (inr (inr (inr (inr (inr h)))))))))))))) =
      starts_exit loops m text a h

  pub any_starts : (loops : ℕ) → StartsIn (AnyAt loops) begins_statement
  any_starts loops m text a h = let s = starts loops m text a h in (s.first, s.rest, s.split, s.begins)

  pub line_starts : (loops : ℕ) → StartsIn (LineAt loops) begins_statement
  line_starts loops =
      online_starts (λ line. MadeAt (AnyAt loops) (stated line)) begins_statement
      (λ line. made_starts (AnyAt loops) (stated line) begins_statement (any_starts loops))

  pub body_starts : (loops : ℕ) → StartsIn (BodyAt loops) begins_statement
  body_starts loops m = go m.bodies
    where
      go : (n : ℕ) (text : List Token) (a : Body) → body_at m.expressions n loops text a
          → (x : Token) × (rest : List Token) × (text ≡ x ∷ rest) × (begins_statement (terminal_of x.kind) ≡ true)
      go zero text a none = absurd none
      go (suc n) text a h = line_starts loops (record { expressions = m.expressions; bodies = n }) text a h

  pub braced_starts : (loops : ℕ) → StartsIn (BracedAt loops) (is (Of word.OpenBrace))
  braced_starts loops =
      joined_starts (MarkAt (Of word.OpenBrace)) _ (is (Of word.OpenBrace)) (mark_starts (Of word.OpenBrace))

  pub braced_line_starts : (loops : ℕ) → StartsIn (BracedLineAt loops) (is (Of word.OpenBrace))
  braced_line_starts loops =
      online_starts (λ line. MadeAt (BracedAt loops) (stated line)) (is (Of word.OpenBrace))
      (λ line. made_starts (BracedAt loops) (stated line) (is (Of word.OpenBrace)) (braced_starts loops))

  pub head_starts : (loops : ℕ) → StartsIn (HeadBodyAt loops) begins_statement
  head_starts loops = either_starts (BracedLineAt loops) (WithoutAt (Of word.OpenBrace) (BodyAt loops)) begins_statement
      (starts_in_more (BracedLineAt loops) (is (Of word.OpenBrace)) begins_statement
      (mark_passes begins_statement (Of word.OpenBrace) refl) (braced_line_starts loops))
      (without_starts (Of word.OpenBrace) (BodyAt loops) begins_statement (body_starts loops))
