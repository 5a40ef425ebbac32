-- How statements are read, where the bodies in them are.
use Rattle.std.specs.declared.ops.ControlFlow.{ControlFlow}
use Rattle.std.specs.declared.ops.ControlFlow.TheVariants.{Continue, Break}
use Rattle.std.proofs.Common.{◌≡◌, inl, inr, ℕ, suc, ◌≤◌, Bool, true, false, not, ◌&&◌, List, [], ◌∷◌, ◌++◌, Some, None, Ok, sym, refl, ap, ◌∙◌, subst, append_assoc, cond, arith}
use Rattle.dp_lexer.specs.declared.token.Token.{Token}
use Rattle.dp_lexer.specs.declared.token.TokenKind.TheVariants as kind
use Rattle.dp_parse.specs.declared.ended.Body.{Body}
use Rattle.dp_parse.specs.declared.ended.Ended.{Ended}
use Rattle.dp_expressions.specs.declared.operand.Part.TheVariants as part
use Rattle.dp_token_rules.specs.declared.terminal.Terminal.TheVariants.{Of}
use Rattle.dp_lexer.specs.declared.token.Word.TheVariants as word
use Rattle.dp_token_rules.specs.declared.terminal.Terminal.{Terminal}
use Rattle.dp_tree.specs.declared.tree.Arm.{Arm}
use Rattle.dp_tree.specs.declared.tree.Binding.{Binding}
use Rattle.dp_tree.specs.declared.tree.Expression.{Expression}
use Rattle.dp_tree.specs.declared.tree.Statement.{Statement}
use Rattle.dp_tree.specs.declared.tree.StatementKind.{StatementKind}
use Rattle.dp_tree.specs.declared.tree.StatementKind.TheVariants as tree
use Rattle.dp_token_rules.specs.Terminals.{terminal_of, is, head}
use Rattle.dp_token_rules.specs.Lines.{line_of}
use Rattle.dp_token_rules.specs.inner.Input.{Reader, gives, made, mark, closed, ◌>>=◌, ◌>>◌}
use Rattle.dp_token_rules.specs.Rules.{Joined, Mark, Without}
use Rattle.dp_token_rules.specs.inner.ListReaders.{any_plain_items}
use Rattle.dp_expressions.specs.inner.Readers.{reading}
use Rattle.dp_parse.specs.Statements.{Depth, Arms, ended, whole, with_arm, stated, Bodies, ElseIf, Bound, Block, Test, ArmRule, NextArm, Otherwise, If, LoopBody, While, DoWhile, For, Foreach}
use Rattle.dp_parse.specs.inner.StatementRules.{bodies_step, bodies, bound, block, head_test, next_arm, otherwise, behind_else, arms_step, arms, if_rule, loop_body, while_rule, do_while, for_rule, foreach, by_keyword, any_statement, on_its_line, braced, head_body}
use Rattle.dp_token_rules.proofs.Terminals.{not_true, or_left, or_right, contrary, placed, mark_alone, mark_passes, mark_fails, mark_apart}
use Rattle.dp_token_rules.proofs.Answers.{Rules, Anything, JoinedAt, EitherAt, GivesAt, MarkAt, MadeAt, WithoutAt, ClosedAt, StepAt, Answers, Follows, StartsIn, Apart, give, given, mark_starts, joined_starts, either_starts, made_starts, starts_in_more, starts_apart, gives_apart, either_apart, starts_follow, gives_answers, made_answers, carried, equal_answers, either_answers, without_answers, online_answers}
use Rattle.dp_token_rules.proofs.Loops.{step_stop, closed_now, closed_follows, closed_answers, end_first}
use Rattle.dp_token_rules.proofs.ListAnswers.{AnyPlainItemsAt}
use Rattle.dp_parse.proofs.StatementReaders.{Deeper, same_depth, IsPartReader, gives_reader, mark_reader, joined_reader, then_reader, made_reader, mark_then, before_mark, keyword_nests, nests_reader}
use Rattle.dp_parse.proofs.StatementParts.{AreRead, ExpressionAt, PlaceAt, StatementAt, reader_at, takes_else, open_ends, ended_stop, body_stop, bound_stop, bound_reader, empty_reader, global_reader, break_answers, continue_answers, expression_then, any_expressions, perform_reader, echo_reader, test_reader, return_reader, unset_reader, exit_reader}
use Rattle.dp_parse.proofs.StatementStarts.{begins_statement, BodyAt, AnyAt, LineAt, Chosen, unchosen, open_ends_other, statement_no_else, starts, any_starts, body_starts, BracedAt, BracedLineAt, HeadBodyAt, braced_starts, braced_line_starts, head_starts}

-- where an arm may end: before an `else` only where its body is not open
abbrev pub arms_stop : Arms → Terminal → Bool
arms_stop a s = open_ends a.1 s

-- ---- bodies up to a closing brace

abbrev pub BodiesAt : ℕ → Rules Depth (List Statement)
BodiesAt loops m = Bodies (BodyAt loops m)

module _ (ends place_ends : Terminal → Bool) (known : AreRead ends place_ends) (level : Depth) (loops : ℕ)
    (body : ℕ → Reader Body) (reads : (n : ℕ) → IsPartReader 1 (BodyAt n) body_stop level (body n)) where
  -- ---- bodies up to a closing brace

  abbrev OneBody : List Statement → Rules Depth (List Statement)
  OneBody all = MadeAt (BodyAt loops) (λ b. all ++ b.statement ∷ [])

  abbrev CloseBodies : List Statement → Rules Depth (List Statement)
  CloseBodies all = MadeAt (MarkAt (Of word.CloseBrace)) (λ _. all)

  abbrev between_bodies : List Statement → Terminal → Bool
  between_bodies all s = not (takes_else s)

  one_starts_body : (all : List Statement) → StartsIn (OneBody all) begins_statement
  one_starts_body all =
      made_starts (BodyAt loops) (λ b. all ++ b.statement ∷ []) begins_statement
      (body_starts ends place_ends known loops)

  close_starts_brace : (all : List Statement) → StartsIn (CloseBodies all) (is (Of word.CloseBrace))
  close_starts_brace all =
      made_starts (MarkAt (Of word.CloseBrace)) (λ _. all) (is (Of word.CloseBrace)) (mark_starts (Of word.CloseBrace))

  bodies_steps : 1 ≤ level.bodies → (all : List Statement) (ts : List Token)
      → Answers Deeper (StepAt OneBody CloseBodies all) (step_stop between_bodies Anything) level ts
      (bodies_step (body loops) all ts)
  bodies_steps some all ts =
      end_first Deeper same_depth OneBody CloseBodies between_bodies Anything level all ts (is (Of word.CloseBrace))
      (made (body loops) (λ b. all ++ b.statement ∷ []) ts) (made (mark (Of word.CloseBrace)) (λ _. all) ts)
      (close_starts_brace all) (starts_apart (OneBody all) between_bodies (is (Of word.CloseBrace)) begins_statement
      (mark_apart begins_statement (Of word.CloseBrace) refl) (one_starts_body all))
      (λ _. (made_reader 1 level (MarkAt (Of word.CloseBrace)) (λ _. all) Anything Anything (mark (Of word.CloseBrace))
      (λ a s e. refl) (mark_reader 1 level (Of word.CloseBrace) (kind.Word word.CloseBrace) refl)).answers some ts)
      (λ _. (made_reader 1 level (BodyAt loops) (λ b. all ++ b.statement ∷ []) body_stop between_bodies (body loops)
      (λ b s e. open_ends_other b.is_open s (not_true (takes_else s) e)) (reads loops)).answers some ts)

  pub bodies_reader : IsPartReader 1 (BodiesAt loops) Anything level (bodies (body loops))
  unfolding bodies
  bodies_reader = record {
    answers = λ some. closed_answers Deeper same_depth OneBody CloseBodies between_bodies Anything level
        (λ all. starts_in_more (OneBody all) begins_statement (between_bodies all)
        (λ s e. ap not (statement_no_else s e)) (one_starts_body all))
        (starts_follow between_bodies CloseBodies Anything (is (Of word.CloseBrace))
        (λ all s. mark_passes (between_bodies all) (Of word.CloseBrace) refl s) close_starts_brace)
        (λ m above all. (
          placed (kind.Word word.CloseBrace)
              ∷ [],
          all,
          give (Mark (Of word.CloseBrace)) (λ _. all) (placed (kind.Word word.CloseBrace) ∷ []) 1
              (mark_alone (Of word.CloseBrace) (kind.Word word.CloseBrace) refl),
        ))
        (bodies_step (body loops)) (bodies_steps some) [];
    least =
        λ m some. (
          placed (kind.Word word.CloseBrace)
              ∷ [],
          [],
          closed_now OneBody CloseBodies m [] (placed (kind.Word word.CloseBrace) ∷ []) []
              (give (Mark (Of word.CloseBrace)) (λ _. []) (placed (kind.Word word.CloseBrace) ∷ []) 1
              (mark_alone (Of word.CloseBrace) (kind.Word word.CloseBrace) refl)),
        );
  }

  -- ---- braces and the bodies of heads

  braced_reader : IsPartReader 1 (BracedAt loops) ended_stop level (braced (body loops))
  unfolding braced
  braced_reader =
      mark_then 1 level (Of word.OpenBrace) (kind.Word word.OpenBrace) refl
      (λ _. JoinedAt (BodiesAt loops) (λ all. GivesAt (whole (tree.Block all)))) ended_stop
      (λ _. bodies (body loops) >>= (λ all. gives (whole (tree.Block all))))
      (λ _. then_reader 1 level (BodiesAt loops) (λ all. GivesAt (whole (tree.Block all))) ended_stop
      (bodies (body loops)) (λ all. gives (whole (tree.Block all))) bodies_reader
      (λ all. gives_reader 1 level (whole (tree.Block all)) ended_stop))

  pub block_answers : (ts : List Token) → is (Of word.OpenBrace) (head ts) ≡ true
      → Answers Deeper (StatementAt Block loops) ended_stop level ts (reader_at block loops level body ts)
  unfolding block
  block_answers ts here =
      nests_reader (Of word.OpenBrace) (λ _. JoinedAt (BodiesAt loops) (λ all. GivesAt (whole (tree.Block all))))
      ended_stop level (braced (body loops)) ts refl here braced_reader
      (λ line m some. let g = bodies_reader.least m some in (
        g.0,
        whole (tree.Block g.1),
        give (BodiesAt loops m) (λ all. whole (tree.Block all)) g.0 g.1 g.2,
      ))

  braced_line_answers : 1 ≤ level.bodies → (ts : List Token)
      → Answers Deeper (BracedLineAt loops) body_stop level ts (on_its_line (braced (body loops)) ts)
  unfolding on_its_line
  braced_line_answers some ts =
      online_answers Deeper same_depth (λ line. MadeAt (BracedAt loops) (stated line))
      (is (Of word.OpenBrace)) body_stop level ts (λ line. made_starts (BracedAt loops) (stated line)
      (is (Of word.OpenBrace)) (braced_starts ends place_ends known loops))
      (made (braced (body loops)) (stated (line_of ts)) ts)
      (made_answers Deeper same_depth (BracedAt loops) (stated (line_of ts)) ended_stop body_stop level ts (λ a s e. e)
      (braced (body loops) ts) (braced_reader.answers some ts))

  -- `{ }`
  least_braced : (m : Depth)
      → BracedLineAt loops m (placed (kind.Word word.OpenBrace) ∷ (placed (kind.Word word.CloseBrace) ∷ []))
      (stated 1 (whole (tree.Block [])))
  least_braced m =
      let close : List Token = placed (kind.Word word.CloseBrace) ∷ [] in
      let text : List Token = placed (kind.Word word.OpenBrace) ∷ close in
      let none : BodiesAt loops m close [] = closed_now OneBody CloseBodies m [] close []
      (give (Mark (Of word.CloseBrace)) (λ _. []) close 1
      (mark_alone (Of word.CloseBrace) (kind.Word word.CloseBrace) refl)) in
      let braces : BracedAt loops m text (whole (tree.Block [])) = record {
        front = placed (kind.Word word.OpenBrace)
            ∷ [];
        back = close;
        value = 1;
        split = refl;
        one = mark_alone (Of word.OpenBrace) (kind.Word word.OpenBrace) refl;
        other =
            give (BodiesAt loops m) (λ all. whole (tree.Block all)) close [] none;
      } in
      record {
        first = placed (kind.Word word.OpenBrace);
        behind = close;
        begins = refl;
        spelled = give (BracedAt loops m)
            (stated 1) text (whole (tree.Block [])) braces;
      }

  brace_apart : Apart (WithoutAt (Of word.OpenBrace) (BodyAt loops)) body_stop (is (Of word.OpenBrace))
  brace_apart m text b r h here =
      let s = body_starts ends place_ends known loops m text b h.spelled in
      ap (λ l. is (Of word.OpenBrace) (head (l ++ r))) s.2 ∙ ap (λ l. is (Of word.OpenBrace) (head l)) (sym s.2) ∙
      h.apart

  pub head_reader : IsPartReader 1 (HeadBodyAt loops) body_stop level (head_body (body loops))
  unfolding head_body
  head_reader = record {
    answers =
        λ some ts. either_answers Deeper same_depth (BracedLineAt loops) (WithoutAt (Of word.OpenBrace) (BodyAt loops))
        (is (Of word.OpenBrace)) body_stop level ts (braced_line_starts ends place_ends known loops) brace_apart
        (on_its_line (braced (body loops)) ts) (body loops ts) (λ _. braced_line_answers some ts)
        (λ none. without_answers Deeper same_depth (Of word.OpenBrace) (BodyAt loops) body_stop level ts refl none
        (body loops ts) ((reads loops).answers some ts));
    least =
        λ m some. (
          placed (kind.Word word.OpenBrace)
              ∷ (placed (kind.Word word.CloseBrace) ∷ []),
          stated 1 (whole (tree.Block [])),
          inl (least_braced m),
        );
  }

module _ (ends place_ends : Terminal → Bool) (known : AreRead ends place_ends) (level : Depth) (loops : ℕ)
    (body : ℕ → Reader Body) (reads : (n : ℕ) → IsPartReader 1 (BodyAt n) body_stop level (body n)) where
  -- what reads the body of a head, in so many loops
  heads : (n : ℕ) → IsPartReader 1 (HeadBodyAt n) body_stop level (head_body (body n))
  heads n = head_reader ends place_ends known level n body reads

  -- ---- arms

  abbrev ArmAt : List Arm → ℕ → Rules Depth Arms
  ArmAt before line = StatementAt (λ l n e p b. ArmRule l n e p b before line) loops

  abbrev NextAt : Arms → Rules Depth Arms
  NextAt a = StatementAt (λ l n e p b. NextArm l n e p b a) loops

  abbrev OtherwiseAt : Arms → Rules Depth Ended
  OtherwiseAt a = StatementAt (λ l n e p b. Otherwise l n e p b a) loops

  abbrev with_else : List Arm → Body → Ended
  with_else before b = ended (tree.If before (Some b.statement)) b.is_open

  abbrev without_else : Arms → Ended
  without_else a = ended (tree.If a.0 None) true

  abbrev LastAt : Arms → Rules Depth Ended
  LastAt a = EitherAt (OtherwiseAt a) (GivesAt (without_else a))

  arm_reader : (before : List Arm) (line : ℕ)
      → IsPartReader 1 (ArmAt before line) arms_stop level (reader_at next_arm loops level body before line)
  unfolding next_arm
  arm_reader before line =
      then_reader 1 level (StatementAt Test loops) (λ found. MadeAt (HeadBodyAt loops)
      (λ b. with_arm before line found b)) arms_stop (reader_at head_test loops level body)
      (λ found. made (head_body (body loops)) (λ b. with_arm before line found b))
      (test_reader 1 level loops body ends place_ends known)
      (λ found. made_reader 1 level (HeadBodyAt loops) (λ b. with_arm before line found b) body_stop arms_stop
      (head_body (body loops)) (λ b s e. e) (heads loops))

  -- what is behind an `else`
  abbrev ElseAt : List Arm → Rules Depth Ended
  ElseAt before = MadeAt (WithoutAt (Of word.If) (HeadBodyAt loops)) (with_else before)

  abbrev GoOnAt : List Arm → ℕ → Rules Depth (ControlFlow Ended Arms)
  GoOnAt before line = MadeAt (JoinedAt (MarkAt (Of word.If)) (λ _. ArmAt before line)) Continue

  abbrev BehindAt : List Arm → ℕ → Rules Depth (ControlFlow Ended Arms)
  BehindAt before line = EitherAt (GoOnAt before line) (MadeAt (ElseAt before) Break)

  go_on_starts : (before : List Arm) (line : ℕ) → StartsIn (GoOnAt before line) (is (Of word.If))
  go_on_starts before line =
      made_starts (JoinedAt (MarkAt (Of word.If)) (λ _. ArmAt before line)) Continue (is (Of word.If))
      (joined_starts (MarkAt (Of word.If)) (λ _. ArmAt before line) (is (Of word.If)) (mark_starts (Of word.If)))

  -- what is behind an `else` that no `if` follows begins with no `if`
  else_apart : (before : List Arm)
      → Apart (MadeAt (ElseAt before) Break) (step_stop arms_stop ended_stop) (is (Of word.If))
  else_apart before m text v r h here =
      let e = given (ElseAt before m) Break text v h in
      let b = given (Without (Of word.If) (HeadBodyAt loops m)) (with_else before) text e.0 e.1 in
      let s = head_starts ends place_ends known loops m text b.0 b.1.spelled in
      ap (λ l. is (Of word.If) (head (l ++ r))) s.2 ∙ ap (λ l. is (Of word.If) (head l)) (sym s.2) ∙ b.1.apart

  behind_answers : 1 ≤ level.bodies → (before : List Arm) (line : ℕ) (ts : List Token)
      → Answers Deeper (BehindAt before line) (step_stop arms_stop ended_stop) level ts
      (reader_at behind_else loops level body before line ts)
  unfolding behind_else otherwise
  behind_answers some before line ts =
      either_answers Deeper same_depth (GoOnAt before line) (MadeAt (ElseAt before) Break) (is (Of word.If))
      (step_stop arms_stop ended_stop) level ts (go_on_starts before line) (else_apart before)
      (made (mark (Of word.If) >> reader_at next_arm loops level body before line) Continue ts)
      (made (made (head_body (body loops)) (with_else before)) Break ts)
      (λ _. (made_reader 1 level (JoinedAt (MarkAt (Of word.If)) (λ _. ArmAt before line)) Continue arms_stop
      (step_stop arms_stop ended_stop) (mark (Of word.If) >> reader_at next_arm loops level body before line)
      (λ a s e. e)
      (mark_then 1 level (Of word.If) (kind.Word word.If) refl (λ _. ArmAt before line) arms_stop
      (λ _. reader_at next_arm loops level body before line) (λ _. arm_reader before line))).answers some ts)
      (λ none. made_answers Deeper same_depth (ElseAt before) Break ended_stop (step_stop arms_stop ended_stop) level ts
      (λ a s e. e) (made (head_body (body loops)) (with_else before) ts)
      (made_answers Deeper same_depth (WithoutAt (Of word.If) (HeadBodyAt loops))
      (with_else before) body_stop ended_stop level ts (λ b s e. e) (head_body (body loops) ts)
      (without_answers Deeper same_depth (Of word.If) (HeadBodyAt loops) body_stop level ts refl none
      (head_body (body loops) ts) ((heads loops).answers some ts))))

  -- ---- one step of the arms: the grammar's, and that of the reader, which reads an `else` before it looks further

  abbrev WordAt : List Arm → Rules Depth (ControlFlow Ended Arms)
  WordAt before = MadeAt (JoinedAt (MarkAt (Of word.ElseIf)) (ArmAt before)) Continue

  abbrev AfterElseAt : List Arm → Rules Depth (ControlFlow Ended Arms)
  AfterElseAt before = JoinedAt (MarkAt (Of word.Else)) (BehindAt before)

  abbrev NoneAt : Arms → Rules Depth (ControlFlow Ended Arms)
  NoneAt a = GivesAt (Break (without_else a))

  abbrev FactoredAt : Arms → Rules Depth (ControlFlow Ended Arms)
  FactoredAt a = EitherAt (WordAt a.0) (EitherAt (AfterElseAt a.0) (NoneAt a))

  to_next : (a : Arms) → not a.1 ≡ true → (m : Depth) (text : List Token) (x : Arms)
      → Joined ElseIf (λ line. ArmAt a.0 line m) text x → StepAt NextAt LastAt a m text (Continue x)
  to_next a closed m text x j = inr (give (NextAt a m) Continue text x (record { holds = closed; spelled = j }))

  -- `else` and `if` are one word of the grammar
  two_words : (before : List Arm) (m : Depth) (text front back : List Token) (line : ℕ) (x : Arms)
      → text ≡ front ++ back → Mark (Of word.Else) front line
      → Joined (Mark (Of word.If)) (λ _. ArmAt before line m) back x → Joined ElseIf (λ n. ArmAt before n m) text x
  two_words before m text front back line x split mark j = record {
    front = front ++ j.front;
    back = j.back;
    value = line;
    split = split ∙ ap (λ l. front ++ l) j.split ∙ sym (append_assoc front j.front j.back);
    one = inr (record {
      front = front;
      back = j.front;
      value = line;
      split = refl;
      one = mark;
      other = give
          (Mark (Of word.If)) (λ _. line) j.front j.value j.one;
    });
    other = j.other;
  }

  to_step : (a : Arms) → not a.1 ≡ true → (m : Depth) (text : List Token) (v : ControlFlow Ended Arms)
      → FactoredAt a m text v → StepAt NextAt LastAt a m text v
  to_step a closed m text v (inl h) =
      let g = given (Joined (Mark (Of word.ElseIf)) (λ line. ArmAt a.0 line m)) Continue text v h in
      let j = g.1 in
      subst (λ x. StepAt NextAt LastAt a m text x) (sym g.2) (to_next a closed m text g.0
      (record {
        front = j.front;
        back = j.back;
        value = j.value;
        split = j.split;
        one = inl j.one;
        other = j.other;
      }))
  to_step a closed m text v (inr (inl j)) = go j.other
    where
      go : BehindAt a.0 j.value m j.back v → StepAt NextAt LastAt a m text v
      go (inl h) =
          let g = given (Joined (Mark (Of word.If)) (λ _. ArmAt a.0 j.value m)) Continue j.back v h in
          subst (λ x. StepAt NextAt LastAt a m text x) (sym g.2)
          (to_next a closed m text g.0 (two_words a.0 m text j.front j.back j.value g.0 j.split j.one g.1))
      go (inr h) =
          let g = given (ElseAt a.0 m) Break j.back v h in
          let last : Otherwise m.bodies loops (ExpressionAt m) (PlaceAt m) (λ n. BodyAt n m) a text g.0 = record {
            holds = closed;
            spelled = record {
              front = j.front;
              back = j.back;
              value = j.value;
              split = j.split;
              one
                  = j.one;
              other = g.1;
            };
          } in
          subst (λ x. StepAt NextAt LastAt a m text x) (sym g.2) (inl (give (LastAt a m) Break text g.0 (inl last)))
  to_step a closed m text v (inr (inr g)) =
      subst (λ x. StepAt NextAt LastAt a m text x) (sym g.same)
      (inl (give (LastAt a m) Break text (without_else a) (inr (record { empty = g.empty; same = refl }))))

  from_next : (a : Arms) (m : Depth) (text : List Token) (x : Arms)
      → (j : Joined ElseIf (λ line. ArmAt a.0 line m) text x) → ElseIf j.front j.value
      → FactoredAt a m text (Continue x)
  from_next a m text x j (inl mark) =
      inl (give (Joined (Mark (Of word.ElseIf)) (λ line. ArmAt a.0 line m)) Continue text x
      (record { front = j.front; back = j.back; value = j.value; split = j.split; one = mark; other = j.other }))
  from_next a m text x j (inr words) =
      let g = given (Mark (Of word.If)) (λ _. words.value) words.back j.value words.other in
      let arm : Joined (Mark (Of word.If)) (λ _. ArmAt a.0 words.value m) (words.back ++ j.back) x = record {
        front = words.back;
        back = j.back;
        value = g.0;
        split = refl;
        one = g.1;
        other = subst
            (λ n. ArmAt a.0 n m j.back x) g.2 j.other;
      } in
      inr (inl (record {
        front = words.front;
        back = words.back ++ j.back;
        value = words.value;
        split = j.split ∙ ap (λ l. l ++ j.back) words.split ∙ append_assoc words.front words.back j.back;
        one = words.one;
        other =
            inl (give (Joined (Mark (Of word.If)) (λ _. ArmAt a.0 words.value m)) Continue (words.back ++ j.back) x
            arm);
      }))

  from_last : (a : Arms) (m : Depth) (text : List Token) (x : Ended) → LastAt a m text x → FactoredAt a m text (Break x)
  from_last a m text x (inl h) =
      let j = h.spelled in
      inr (inl (record {
        front = j.front;
        back = j.back;
        value = j.value;
        split = j.split;
        one = j.one;
        other = inr
            (give (ElseAt a.0 m) Break j.back x j.other);
      }))
  from_last a m text x (inr g) = inr (inr (record { empty = g.empty; same = ap Break g.same }))

  from_step : (a : Arms) (m : Depth) (text : List Token) (v : ControlFlow Ended Arms) → StepAt NextAt LastAt a m text v
      → FactoredAt a m text v
  from_step a m text v (inl h) =
      let g = given (LastAt a m) Break text v h in subst (λ x. FactoredAt a m text x) (sym g.2)
      (from_last a m text g.0 g.1)
  from_step a m text v (inr h) =
      let g = given (NextAt a m) Continue text v h in subst (λ x. FactoredAt a m text x) (sym g.2)
      (from_next a m text g.0 g.1.spelled g.1.spelled.one)

  -- behind an open body there is no arm
  from_open : (a : Arms) → a.1 ≡ true → (m : Depth) (text : List Token) (v : ControlFlow Ended Arms)
      → StepAt NextAt LastAt a m text v → NoneAt a m text v
  from_open a is_open m text v (inl h) =
      let g = given (LastAt a m) Break text v h in subst (λ x. NoneAt a m text x) (sym g.2) (last g.0 g.1)
    where
      last : (x : Ended) → LastAt a m text x → NoneAt a m text (Break x)
      last x (inl h) = let c = h.holds in let d : not a.1 ≡ false = ap not is_open in absurd (cc)
      last x (inr g) = record { empty = g.empty; same = ap Break g.same }
  from_open a is_open m text v (inr h) =
      let g = given (NextAt a m) Continue text v h in let c = g.1.holds in let d : not a.1 ≡ false = ap not is_open in
      absurd (cc)

  to_open : (a : Arms) (m : Depth) (text : List Token) (v : ControlFlow Ended Arms) → NoneAt a m text v
      → StepAt NextAt LastAt a m text v
  to_open a m text v g =
      subst (λ x. StepAt NextAt LastAt a m text x) (sym g.same)
      (inl (give (LastAt a m) Break text (without_else a) (inr (record { empty = g.empty; same = refl }))))

  word_starts : (before : List Arm) → StartsIn (WordAt before) (is (Of word.ElseIf))
  word_starts before =
      made_starts (JoinedAt (MarkAt (Of word.ElseIf)) (ArmAt before)) Continue (is (Of word.ElseIf))
      (joined_starts (MarkAt (Of word.ElseIf)) (ArmAt before) (is (Of word.ElseIf)) (mark_starts (Of word.ElseIf)))

  after_else_starts : (before : List Arm) → StartsIn (AfterElseAt before) (is (Of word.Else))
  after_else_starts before =
      joined_starts (MarkAt (Of word.Else)) (BehindAt before) (is (Of word.Else)) (mark_starts (Of word.Else))

  none_apart : (a : Arms) (test : Terminal → Bool) → ((x : Terminal) → test x ≡ true → takes_else x ≡ true)
      → Apart (NoneAt a) (step_stop arms_stop ended_stop) test
  none_apart a test passes =
      gives_apart (Break (without_else a)) (step_stop arms_stop ended_stop) test
      (λ x here. contrary (test x) (takes_else x) (passes x) (not_true (takes_else x) here))

  least_arm : (m : Depth) → 1 ≤ m.bodies → (before : List Arm) (line : ℕ)
      → (ts : List Token) × (v : ControlFlow Ended Arms) × BehindAt before line m ts v
  least_arm m some before line =
      let g = (mark_then 1 level (Of word.If) (kind.Word word.If) refl (λ _. ArmAt before line) arms_stop
      (λ _. reader_at next_arm loops level body before line) (λ _. arm_reader before line)).least m some in
      (g.0, Continue g.1, inl (give (Joined (Mark (Of word.If)) (λ _. ArmAt before line m)) Continue g.0 g.1 g.2))

  factored_answers : 1 ≤ level.bodies → (a : Arms) (ts : List Token)
      → Answers Deeper (FactoredAt a) (step_stop arms_stop ended_stop) level ts
      (cond (is (Of word.ElseIf) (head ts)) (made (mark (Of word.ElseIf) >>= reader_at next_arm loops level body a.0)
      Continue ts) (cond (is (Of word.Else) (head ts)) ((mark (Of word.Else)
      >>= reader_at behind_else loops level body a.0) ts) (Ok (Break (without_else a), ts))))
  factored_answers some a ts =
      either_answers Deeper same_depth (WordAt a.0) (EitherAt (AfterElseAt a.0) (NoneAt a)) (is (Of word.ElseIf))
      (step_stop arms_stop ended_stop) level ts (word_starts a.0)
      (either_apart (AfterElseAt a.0) (NoneAt a) (step_stop arms_stop ended_stop) (is (Of word.ElseIf))
      (starts_apart (AfterElseAt a.0) (step_stop arms_stop ended_stop) (is (Of word.ElseIf)) (is (Of word.Else))
      (mark_fails (is (Of word.ElseIf)) (Of word.Else) refl) (after_else_starts a.0))
      (none_apart a (is (Of word.ElseIf)) (λ x. or_right (is (Of word.Else) x) (is (Of word.ElseIf) x))))
      (made (mark (Of word.ElseIf) >>= reader_at next_arm loops level body a.0) Continue ts)
      (cond (is (Of word.Else) (head ts)) ((mark (Of word.Else) >>= reader_at behind_else loops level body a.0) ts)
      (Ok (Break (without_else a), ts)))
      (λ _. (made_reader 1 level (JoinedAt (MarkAt (Of word.ElseIf)) (ArmAt a.0)) Continue arms_stop
      (step_stop arms_stop ended_stop) (mark (Of word.ElseIf) >>= reader_at next_arm loops level body a.0)
      (λ x s e. e)
      (mark_then 1 level (Of word.ElseIf) (kind.Word word.ElseIf) refl (ArmAt a.0) arms_stop
      (reader_at next_arm loops level body a.0) (arm_reader a.0))).answers some ts)
      (λ _. either_answers Deeper same_depth (AfterElseAt a.0) (NoneAt a) (is (Of word.Else))
      (step_stop arms_stop ended_stop) level ts (after_else_starts a.0)
      (none_apart a (is (Of word.Else)) (λ x. or_left (is (Of word.Else) x) (is (Of word.ElseIf) x)))
      ((mark (Of word.Else) >>= reader_at behind_else loops level body a.0) ts) (Ok (Break (without_else a), ts))
      (λ _. (mark_then 1 level (Of word.Else) (kind.Word word.Else) refl (BehindAt a.0) (step_stop arms_stop ended_stop)
      (reader_at behind_else loops level body a.0)
      (λ line. record {
        answers = λ more. behind_answers more a.0 line;
        least = λ m more. least_arm m more a.0 line;
      })).answers some ts)
      (λ _. gives_answers Deeper same_depth (Break (without_else a)) (step_stop arms_stop ended_stop) level ts))

  arms_steps : 1 ≤ level.bodies → (a : Arms) (ts : List Token)
      → Answers Deeper (StepAt NextAt LastAt a) (step_stop arms_stop ended_stop) level ts
      (reader_at arms_step loops level body a ts)
  arms_steps some a ts = go a.1 refl
    where
      go : (b : Bool) → a.1 ≡ b → Answers Deeper (StepAt NextAt LastAt a) (step_stop arms_stop ended_stop) level ts
          (cond (not b
          && is (Of word.ElseIf) (head ts)) (made (mark (Of word.ElseIf) >>= reader_at next_arm loops level body a.0)
          Continue ts)
          (cond (not b
          && is (Of word.Else) (head ts)) ((mark (Of word.Else) >>= reader_at behind_else loops level body a.0) ts)
          (Ok (Break (without_else a), ts))))
      go true is_open =
          equal_answers Deeper same_depth (NoneAt a) (StepAt NextAt LastAt a) (step_stop arms_stop ended_stop) level ts
          (to_open a) (from_open a is_open) (Ok (Break (without_else a), ts))
          (gives_answers Deeper same_depth (Break (without_else a)) (step_stop arms_stop ended_stop) level ts)
      go false is_closed =
          equal_answers Deeper same_depth (FactoredAt a) (StepAt NextAt LastAt a)
          (step_stop arms_stop ended_stop) level ts (to_step a (ap not is_closed)) (from_step a)
          (cond (is (Of word.ElseIf) (head ts)) (made (mark (Of word.ElseIf) >>= reader_at next_arm loops level body
          a.0)
          Continue ts) (cond (is (Of word.Else) (head ts))
          ((mark (Of word.Else) >>= reader_at behind_else loops level body a.0) ts)
          (Ok (Break (without_else a), ts))))
          (factored_answers some a ts)

  -- ---- the arms

  else_if_starts : StartsIn {L = Depth} (λ _. ElseIf) takes_else
  else_if_starts =
      either_starts (MarkAt (Of word.ElseIf)) (JoinedAt (MarkAt (Of word.Else))
      (λ line. MadeAt (MarkAt (Of word.If)) (λ _. line))) takes_else
      (starts_in_more (MarkAt (Of word.ElseIf)) (is (Of word.ElseIf)) takes_else
      (λ s. or_right (is (Of word.Else) s) (is (Of word.ElseIf) s)) (mark_starts (Of word.ElseIf)))
      (starts_in_more (JoinedAt (MarkAt (Of word.Else)) (λ line. MadeAt (MarkAt (Of word.If)) (λ _. line)))
      (is (Of word.Else)) takes_else (λ s. or_left (is (Of word.Else) s) (is (Of word.ElseIf) s))
      (joined_starts (MarkAt (Of word.Else)) (λ line. MadeAt (MarkAt (Of word.If)) (λ _. line)) (is (Of word.Else))
      (mark_starts (Of word.Else))))

  -- behind a body that is not open, any token may come
  closed_ends : (b : Bool) (s : Terminal) → not b ≡ true → open_ends b s ≡ true
  closed_ends true s e = absurd (cc)
  closed_ends false s e = refl

  next_starts : (a : Arms) → StartsIn (NextAt a) (arms_stop a)
  next_starts a m text x h =
      let s = joined_starts (λ _. ElseIf) (ArmAt a.0) takes_else else_if_starts m text x h.spelled in
      (s.0, s.1, s.2, closed_ends a.1 (terminal_of s.0.kind) h.holds)

  last_follows : Follows arms_stop LastAt ended_stop
  last_follows m a text x r (inl h) here = closed_ends a.1 (head (text ++ r)) h.holds
  last_follows m a text x r (inr g) here =
      open_ends_other a.1 (head (text ++ r)) (ap (λ l. takes_else (head (l ++ r))) g.empty
      ∙ not_true (takes_else (head r)) (ap (λ e. ended_stop e (head r)) (sym g.same) ∙ here))

  abbrev ArmsAt : Arms → Rules Depth Ended
  ArmsAt a = ClosedAt NextAt LastAt a

  arms_follow : Follows arms_stop ArmsAt ended_stop
  arms_follow = closed_follows NextAt LastAt arms_stop ended_stop next_starts last_follows

  arms_reader : (a : Arms) → IsPartReader 1 (ArmsAt a) ended_stop level (reader_at arms loops level body a)
  unfolding arms
  arms_reader a = record {
    answers =
        λ some. closed_answers Deeper same_depth NextAt LastAt arms_stop ended_stop level next_starts last_follows
        (λ m above x. ([], without_else x, inr (record { empty = refl; same = refl })))
        (reader_at arms_step loops level body) (arms_steps some) a;
    least =
        λ m some. (
          [],
          without_else a,
          closed_now NextAt LastAt m a [] (without_else a)
              (inr (record { empty = refl; same = refl })),
        );
  }

  pub if_answers : (ts : List Token) → is (Of word.If) (head ts) ≡ true
      → Answers Deeper (StatementAt If loops) ended_stop level ts (reader_at if_rule loops level body ts)
  unfolding if_rule
  if_answers ts here =
      keyword_nests (Of word.If) (kind.Word word.If) refl (λ line. JoinedAt (ArmAt [] line) ArmsAt) ended_stop level
      (λ line. reader_at next_arm loops level body [] line >>= reader_at arms loops level body) ts refl here
      (λ line. joined_reader 1 level (ArmAt [] line) ArmsAt arms_stop ended_stop
      (reader_at next_arm loops level body [] line) (reader_at arms loops level body) arms_follow
      (arm_reader [] line) arms_reader)

  -- ---- loops

  abbrev LoopBodyAt : (Statement → StatementKind) → Rules Depth Ended
  LoopBodyAt of = StatementAt (λ l n e p b. LoopBody l n e p b of) loops

  loop_body_reader : (of : Statement → StatementKind)
      → IsPartReader 1 (LoopBodyAt of) ended_stop level (reader_at loop_body loops level body of)
  unfolding loop_body
  loop_body_reader of =
      made_reader 1 level (HeadBodyAt (suc loops)) (λ b. ended (of b.statement) b.is_open) body_stop ended_stop
      (head_body (body (suc loops))) (λ b s e. e) (heads (suc loops))

  pub while_answers : (ts : List Token) → is (Of word.While) (head ts) ≡ true
      → Answers Deeper (StatementAt While loops) ended_stop level ts (reader_at while_rule loops level body ts)
  unfolding while_rule
  while_answers ts here =
      keyword_nests (Of word.While) (kind.Word word.While) refl (λ _. JoinedAt (StatementAt Test loops)
      (λ found. LoopBodyAt (λ b. tree.While found b))) ended_stop level
      (λ _. reader_at head_test loops level body
      >>= (λ found. reader_at loop_body loops level body (λ b. tree.While found b))) ts refl here
      (λ _. then_reader 1 level (StatementAt Test loops) (λ found. LoopBodyAt (λ b. tree.While found b)) ended_stop
      (reader_at head_test loops level body) (λ found. reader_at loop_body loops level body
      (λ b. tree.While found b))
      (test_reader 1 level loops body ends place_ends known) (λ found. loop_body_reader (λ b. tree.While found b)))

  abbrev AfterBodyAt : Body → ℕ → Rules Depth Ended
  AfterBodyAt b line =
      JoinedAt (StatementAt Test loops) (λ found. JoinedAt (MarkAt (Of word.Semicolon))
      (λ _. GivesAt (whole (tree.DoWhile b.statement line found))))

  after_body : Body → ℕ → Reader Ended
  after_body b line =
      reader_at head_test loops level body
      >>= (λ found. mark (Of word.Semicolon) >> gives (whole (tree.DoWhile b.statement line found)))

  after_body_reader : (b : Body) (line : ℕ) → IsPartReader 1 (AfterBodyAt b line) ended_stop level (after_body b line)
  unfolding after_body
  after_body_reader b line =
      before_mark 1 level (StatementAt Test loops) Anything (Of word.Semicolon) (kind.Word word.Semicolon) refl
      (λ a. refl)
      (λ found _. GivesAt (whole (tree.DoWhile b.statement line found))) ended_stop
      (reader_at head_test loops level body)
      (λ found _. gives (whole (tree.DoWhile b.statement line found)))
      (test_reader 1 level loops body ends place_ends known)
      (λ found _. gives_reader 1 level (whole (tree.DoWhile b.statement line found)) ended_stop)

  pub do_while_answers : (ts : List Token) → is (Of word.Do) (head ts) ≡ true
      → Answers Deeper (StatementAt DoWhile loops) ended_stop level ts (reader_at do_while loops level body ts)
  unfolding do_while after_body
  do_while_answers ts here =
      keyword_nests (Of word.Do) (kind.Word word.Do) refl (λ _. JoinedAt (HeadBodyAt (suc loops))
      (λ b. JoinedAt (MarkAt (Of word.While)) (AfterBodyAt b))) ended_stop level
      (λ _. head_body (body (suc loops)) >>= (λ b. mark (Of word.While) >>= after_body b)) ts refl here
      (λ _. before_mark 1 level (HeadBodyAt (suc loops)) body_stop (Of word.While) (kind.Word word.While) refl
      (λ b. open_ends_other b.is_open (Of word.While) refl) AfterBodyAt ended_stop
      (head_body (body (suc loops))) after_body (heads (suc loops)) after_body_reader)

  -- ---- for

  abbrev ExpressionsAt : Terminal → Rules Depth (List Expression)
  ExpressionsAt close = AnyPlainItemsAt (λ _. ExpressionAt) close

  abbrev expressions : Terminal → Reader (List Expression)
  expressions close = any_plain_items (λ _. reading level.expressions part.Whole) close

  up_to_semicolon : IsPartReader 1 (ExpressionsAt (Of word.Semicolon)) Anything level (expressions (Of word.Semicolon))
  up_to_semicolon =
      any_expressions 1 level loops body ends place_ends known (Of word.Semicolon) (kind.Word word.Semicolon) refl refl
      refl refl

  up_to_close : IsPartReader 1 (ExpressionsAt (Of word.CloseParenthesis)) Anything level
      (expressions (Of word.CloseParenthesis))
  up_to_close =
      any_expressions 1 level loops body ends place_ends known (Of word.CloseParenthesis)
      (kind.Word word.CloseParenthesis) refl refl
      refl refl

  abbrev AfterTestsAt : List Expression → List Expression → Rules Depth Ended
  AfterTestsAt before tests =
      JoinedAt (ExpressionsAt (Of word.CloseParenthesis)) (λ after. LoopBodyAt (λ b. tree.For before tests after b))

  abbrev after_tests : List Expression → List Expression → Reader Ended
  after_tests before tests =
      expressions (Of word.CloseParenthesis)
      >>= (λ after. reader_at loop_body loops level body (λ b. tree.For before tests after b))

  after_tests_reader : (before tests : List Expression)
      → IsPartReader 1 (AfterTestsAt before tests) ended_stop level (after_tests before tests)
  after_tests_reader before tests =
      then_reader 1 level (ExpressionsAt (Of word.CloseParenthesis))
      (λ after. LoopBodyAt (λ b. tree.For before tests after b)) ended_stop (expressions (Of word.CloseParenthesis))
      (λ after. reader_at loop_body loops level body (λ b. tree.For before tests after b)) up_to_close
      (λ after. loop_body_reader (λ b. tree.For before tests after b))

  abbrev AfterBeforeAt : List Expression → Rules Depth Ended
  AfterBeforeAt before = JoinedAt (ExpressionsAt (Of word.Semicolon)) (AfterTestsAt before)

  after_before_reader : (before : List Expression)
      → IsPartReader 1 (AfterBeforeAt before) ended_stop level (expressions (Of word.Semicolon) >>= after_tests before)
  after_before_reader before =
      then_reader 1 level (ExpressionsAt (Of word.Semicolon)) (AfterTestsAt before) ended_stop
      (expressions (Of word.Semicolon)) (after_tests before) up_to_semicolon (after_tests_reader before)

  pub for_answers : (ts : List Token) → is (Of word.For) (head ts) ≡ true
      → Answers Deeper (StatementAt For loops) ended_stop level ts (reader_at for_rule loops level body ts)
  unfolding for_rule
  for_answers ts here =
      let rest : Rules Depth Ended = JoinedAt (ExpressionsAt (Of word.Semicolon)) AfterBeforeAt in
      let read : Reader Ended = expressions (Of word.Semicolon)
      >>= (λ before. expressions (Of word.Semicolon) >>= after_tests before) in
      keyword_nests (Of word.For) (kind.Word word.For) refl
      (λ _. JoinedAt (MarkAt (Of word.OpenParenthesis)) (λ _. rest)) ended_stop
      level (λ _. mark (Of word.OpenParenthesis) >> read) ts refl here
      (λ _. mark_then 1 level (Of word.OpenParenthesis) (kind.Word word.OpenParenthesis) refl (λ _. rest) ended_stop
      (λ _. read)
      (λ _. then_reader 1 level (ExpressionsAt (Of word.Semicolon)) AfterBeforeAt ended_stop
      (expressions (Of word.Semicolon)) (λ before. expressions (Of word.Semicolon) >>= after_tests before)
      up_to_semicolon after_before_reader))

  -- ---- foreach

  abbrev AfterBoundAt : Expression → Binding → ℕ → Rules Depth Ended
  AfterBoundAt subject found line = LoopBodyAt (λ b. tree.Foreach subject found b)

  abbrev after_bound : Expression → Binding → ℕ → Reader Ended
  after_bound subject found line = reader_at loop_body loops level body (λ b. tree.Foreach subject found b)

  abbrev AfterAsAt : Expression → ℕ → Rules Depth Ended
  AfterAsAt subject line =
      JoinedAt (λ _. Bound) (λ found. JoinedAt (MarkAt (Of word.CloseParenthesis)) (AfterBoundAt subject found))

  abbrev after_as : Expression → ℕ → Reader Ended
  after_as subject line = bound >>= (λ found. mark (Of word.CloseParenthesis) >>= after_bound subject found)

  after_as_reader : (subject : Expression) (line : ℕ)
      → IsPartReader 1 (AfterAsAt subject line) ended_stop level (after_as subject line)
  after_as_reader subject line =
      before_mark 1 level (λ _. Bound) (bound_stop 1 level) (Of word.CloseParenthesis) (kind.Word word.CloseParenthesis)
      refl
      (λ a. refl) (AfterBoundAt subject) ended_stop bound (after_bound subject) (bound_reader 1 level)
      (λ found _. loop_body_reader (λ b. tree.Foreach subject found b))

  pub foreach_answers : (ts : List Token) → is (Of word.Foreach) (head ts) ≡ true
      → Answers Deeper (StatementAt Foreach loops) ended_stop level ts (reader_at foreach loops level body ts)
  unfolding foreach
  foreach_answers ts here =
      let rest : Rules Depth Ended = JoinedAt ExpressionAt (λ subject. JoinedAt (MarkAt (Of word.As))
      (AfterAsAt subject)) in
      let read : Reader Ended = reading level.expressions part.Whole
      >>= (λ subject. mark (Of word.As) >>= after_as subject) in
      keyword_nests (Of word.Foreach) (kind.Word word.Foreach) refl
      (λ _. JoinedAt (MarkAt (Of word.OpenParenthesis)) (λ _. rest))
      ended_stop level (λ _. mark (Of word.OpenParenthesis) >> read) ts refl here
      (λ _. mark_then 1 level (Of word.OpenParenthesis) (kind.Word word.OpenParenthesis) refl (λ _. rest) ended_stop
      (λ _. read)
      (λ _. expression_then 1 level loops body ends place_ends known (Of word.As) (kind.Word word.As) refl refl
      AfterAsAt ended_stop
      after_as after_as_reader))

  -- ---- any statement

  chosen_answers : (s : Terminal) (ts : List Token) → head ts ≡ s
      → Answers Deeper (Chosen loops s) ended_stop level ts (reader_at by_keyword loops level body s ts)
  unfolding by_keyword
  chosen_answers (Of word.Echo) ts e = (echo_reader 0 level loops body ends place_ends known).answers (omega arith) ts
  chosen_answers (Of word.OpenBrace) ts e =
      block_answers ends place_ends known level loops body reads ts (ap (is (Of word.OpenBrace)) e)
  chosen_answers (Of word.Semicolon) ts e = (empty_reader 0 level).answers (omega arith) ts
  chosen_answers (Of word.If) ts e = if_answers ts (ap (is (Of word.If)) e)
  chosen_answers (Of word.While) ts e = while_answers ts (ap (is (Of word.While)) e)
  chosen_answers (Of word.Do) ts e = do_while_answers ts (ap (is (Of word.Do)) e)
  chosen_answers (Of word.For) ts e = for_answers ts (ap (is (Of word.For)) e)
  chosen_answers (Of word.Foreach) ts e = foreach_answers ts (ap (is (Of word.Foreach)) e)
  chosen_answers (Of word.Break) ts e = break_answers 0 level loops body (omega arith) ts
  chosen_answers (Of word.Continue) ts e = continue_answers 0 level loops body (omega arith) ts
  chosen_answers (Of word.Return) ts e =
      (return_reader 0 level loops body ends place_ends known).answers (omega arith) ts
  chosen_answers (Of word.Global) ts e = (global_reader 0 level).answers (omega arith) ts
  chosen_answers (Of word.Unset) ts e = (unset_reader 0 level loops body ends place_ends known).answers (omega arith) ts
  chosen_answers (Of word.Exit) ts e = (exit_reader 0 level loops body ends place_ends known).answers (omega arith) ts
  chosen_answers (Of word.Die) ts e = (exit_reader 0 level loops body ends place_ends known).answers (omega arith) ts
  chosen_answers _ ts e = (perform_reader 0 level loops body ends place_ends known).answers (omega arith) ts

  any_answers : (ts : List Token)
      → Answers Deeper (AnyAt loops) ended_stop level ts (reader_at any_statement loops level body ts)
  unfolding any_statement
  any_answers ts =
      carried Deeper same_depth (Chosen loops (head ts)) (AnyAt loops) ended_stop ended_stop level ts
      (λ m above text a h. unchosen loops (head ts) m text a h)
      (λ m us e a r begins.
      let s = starts ends place_ends known loops m begins.text a begins.spelled in
      let here : terminal_of s.first.kind ≡ head ts = sym (ap head (begins.split ∙ ap (λ l. l ++ r) s.split)) ∙ e in
      record {
        text = begins.text;
        split = begins.split;
        spelled = subst
            (λ k. Chosen loops k m begins.text a) here s.chosen;
        stops = begins.stops;
      })
      (reader_at by_keyword loops level body (head ts) ts) (chosen_answers (head ts) ts refl)

  -- a statement, with its line
  pub line_answers : (ts : List Token)
      → Answers Deeper (LineAt loops) body_stop level ts (on_its_line (reader_at any_statement loops level body) ts)
  unfolding on_its_line
  line_answers ts =
      online_answers Deeper same_depth (λ line. MadeAt (AnyAt loops) (stated line)) begins_statement body_stop level ts
      (λ line. made_starts (AnyAt loops) (stated line) begins_statement (any_starts ends place_ends known loops))
      (made (reader_at any_statement loops level body) (stated (line_of ts)) ts)
      (made_answers Deeper same_depth (AnyAt loops) (stated (line_of ts)) ended_stop body_stop level ts (λ a s e. e)
      (reader_at any_statement loops level body ts) (any_answers ts))
