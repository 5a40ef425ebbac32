-- How readers of tokens compose: the lemmas on outcomes, for readers at every list of tokens.
use Rattle.std.proofs.Common.{◌≡◌, ℕ, true, List, [], ◌∷◌, refl}
use Rattle.dp_lexer.specs.declared.token.Token.{Token}
use Rattle.dp_token_rules.specs.declared.terminal.Terminal.{Terminal}
use Rattle.dp_token_rules.specs.Terminals.{terminal_of, same_terminal, is}
use Rattle.dp_token_rules.specs.inner.Input.{Reader, made, mark, ◌>>=◌}
use Rattle.dp_token_rules.specs.Rules.{Rule, Joined, Mark}
use Rattle.dp_token_rules.proofs.Terminals.{mark_passes, mark_of}
use Rattle.dp_token_rules.proofs.Answers.{Rules, Stop, Anything, JoinedAt, MarkAt, MadeAt, Answers, Follows, GoesOn, give, mark_starts, made_starts, starts_follow, anything_follows, mark_answers, joined_answers, made_answers}

-- The reader reads the rule, at each list of tokens.
abbrev pub IsReader : {L A : Type 0} → (L → L → Type 0) → Rules L A → Stop A → L → Reader A → Type 0
IsReader Above rule stop level p = (ts : List Token) → Answers Above rule stop level ts (p ts)

-- a token of the sort, and then the rule
pub marked : {A : Type 0} (s : Terminal) (t : Token) (rule : Rule A) (back : List Token) (a : A)
    → same_terminal (terminal_of t.kind) s ≡ true → rule back a → Joined (Mark s) (λ _. rule) (t ∷ back) a
marked s t rule back a is_sort h =
    record { front = t ∷ []; back = back; value = t.line; split = refl; one = mark_of s t is_sort; other = h }

module _ {L : Type 0} (Above : L → L → Type 0) (same_level : (l : L) → Above l l) where
  pub joined_reads : {A B : Type 0} (first : Rules L A) (second : A → Rules L B) (first_stop : Stop A) (stop : Stop B)
      (level : L) (p : Reader A) (f : A → Reader B) → Follows first_stop second stop
      → IsReader Above first first_stop level p → GoesOn Above level second
      → ((a : A) → IsReader Above (second a) stop level (f a))
      → IsReader Above (JoinedAt first second) stop level (p >>= f)
  joined_reads first second first_stop stop level p f follows one goes_on other ts =
      joined_answers Above same_level first second first_stop stop level ts follows (p ts) f goes_on (one ts)
      (λ a r _. other a r)

  -- a token of the sort, and then what is read behind it
  pub mark_then : {A : Type 0} (s : Terminal) (second : ℕ → Rules L A) (stop : Stop A) (level : L) (f : ℕ → Reader A)
      → GoesOn Above level second → ((line : ℕ) → IsReader Above (second line) stop level (f line))
      → IsReader Above (JoinedAt (MarkAt s) second) stop level (mark s >>= f)
  mark_then s second stop level f goes_on other =
      joined_reads (MarkAt s) second Anything stop level (mark s) f (anything_follows second stop)
      (mark_answers Above same_level s Anything level) goes_on other

  pub made_reads : {A B : Type 0} (rule : Rules L A) (f : A → B) (rule_stop : Stop A) (stop : Stop B) (level : L)
      (p : Reader A) → ((a : A) (s : Terminal) → stop (f a) s ≡ true → rule_stop a s ≡ true)
      → IsReader Above rule rule_stop level p → IsReader Above (MadeAt rule f) stop level (made p f)
  made_reads rule f rule_stop stop level p weaker reads ts =
      made_answers Above same_level rule f rule_stop stop level ts weaker (p ts) (reads ts)

  -- the rule, and then a token of the sort
  pub then_mark : {A B : Type 0} (rule : Rules L A) (s : Terminal) (f : A → ℕ → B) (rule_stop : Stop A) (stop : Stop B)
      (level : L) (p : Reader A) → ((a : A) → rule_stop a s ≡ true) → (t : Token)
      → same_terminal (terminal_of t.kind) s ≡ true
      → IsReader Above rule rule_stop level p
      → IsReader Above (JoinedAt rule (λ a. MadeAt (MarkAt s) (f a))) stop level (p >>= (λ a. made (mark s) (f a)))
  then_mark rule s f rule_stop stop level p stops t is_sort one =
      joined_reads rule (λ a. MadeAt (MarkAt s) (f a)) rule_stop stop level p (λ a. made (mark s) (f a))
      (starts_follow rule_stop (λ a. MadeAt (MarkAt s) (f a)) stop (is s)
      (λ a x e. mark_passes (rule_stop a) s (stops a) x e)
      (λ a. made_starts (MarkAt s) (f a) (is s) (mark_starts s)))
      one (λ m above a. (t ∷ [], f a t.line, give (Mark s) (f a) (t ∷ []) t.line (mark_of s t is_sort)))
      (λ a. made_reads (MarkAt s) (f a) Anything stop level (mark s) (λ n x e. refl)
      (mark_answers Above same_level s Anything level))
