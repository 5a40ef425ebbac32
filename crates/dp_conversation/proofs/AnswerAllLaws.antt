-- What a session has come to is joined to what comes next of it, one command at a time.
use Rattle.std.proofs.Common.{◌≡◌, ◌⊎◌, ℕ, Bool, List, [], ◌∷◌, ◌++◌, Option, None, Some, inl, inr, refl, sym, ap, ◌∙◌, subst, append_assoc, true, false, is_some}
use Rattle.std.proofs.lemmas.Bool.{false≢true}
use Rattle.std.specs.List.{flat_map, AllByRecursion}
use Rattle.dp_wire.specs.Frames.{command_frame, commands_in, rest_of, BeginsCommand, IsPartialCommand, BeginsNoCommand, IsPacketText}
use Rattle.dp_wire.proofs.SplitLaws.{one_split_lem, commands_split}
use Rattle.dp_conversation.specs.declared.responder.Answer.{Answer}
use Rattle.dp_conversation.specs.Folds.{Reply, followed, replies, reply_of}
use Rattle.dp_conversation.specs.Growth.{served}
use Rattle.dp_conversation.proofs.EndLaws.{NoMore, no_more_partial, no_more_refused}
use Rattle.dp_conversation.proofs.ServiceLaws.{reply, follows, followed_over, followed_none, front_comes}

-- ---- words of std

pub none_of : {E : Type 0} (o : Option E) → is_some o ≡ false → o ≡ None
none_of None e = refl
none_of (Some end) e = absurd (false≢true (sym e))

some_of : {E : Type 0} (o : Option E) → is_some o ≡ true → (end : E) × (o ≡ Some end)
some_of None e = absurd (false≢true e)
some_of (Some end) e = (end, refl)

-- ---- a session that had failed

-- nothing was answered yet of what was held, or it had not failed
abbrev pub Untouched : {S E : Type 0} → (S → Bool) → S → S → List ℕ → List ℕ → Option E → Type 0
Untouched failed start state bytes held ended =
    (failed start ≡ false) ⊎ ((state ≡ start) × (held ≡ bytes) × (ended ≡ None))

-- one that answers has not failed
pub had_not_failed : {S E : Type 0} (failed : S → Bool) (start state : S) (bytes held : List ℕ) (ended : Option E)
    → Untouched failed start state bytes held ended → failed state ≡ false → failed start ≡ false
had_not_failed failed start state bytes held ended (inl before) now = before
had_not_failed failed start state bytes held ended (inr same) now = subst (λ s. failed s ≡ false) same.0 now

-- no whole command is held
pub none_was_held : {S E : Type 0} (failed : S → Bool) (start state : S) (bytes held : List ℕ) (ended : Option E)
    → Untouched failed start state bytes held ended → commands_in held ≡ []
    → (failed start ≡ false) ⊎ (commands_in bytes ≡ [])
none_was_held failed start state bytes held ended (inl before) none = inl before
none_was_held failed start state bytes held ended (inr same) none = inr (ap commands_in (sym same.1) ∙ none)

-- a command has ended it
pub has_answered : {S E : Type 0} (failed : S → Bool) (start state : S) (bytes held : List ℕ) (ended : Option E)
    → Untouched failed start state bytes held ended → is_some ended ≡ true
    → (failed start ≡ false) ⊎ (commands_in bytes ≡ [])
has_answered failed start state bytes held ended (inl before) over = inl before
has_answered failed start state bytes held ended (inr same) over =
    absurd (false≢true (ap is_some (sym same.2) ∙ over))

-- ---- the texts of two answers

pub texts_none : (texts : List (List ℕ)) → texts ≡ [] → AllByRecursion IsPacketText texts
texts_none texts none = subst (AllByRecursion IsPacketText) (sym none) tt

each_of_both : (texts more : List (List ℕ)) → AllByRecursion IsPacketText texts → AllByRecursion IsPacketText more
    → AllByRecursion IsPacketText (texts ++ more)
each_of_both [] more p q = q
each_of_both (text ∷ texts) more p q = (p.0, each_of_both texts more p.1 q)

pub texts_joined : (all texts more : List (List ℕ)) → all ≡ texts ++ more → AllByRecursion IsPacketText texts
    → AllByRecursion IsPacketText more → AllByRecursion IsPacketText all
texts_joined all texts more are p q = subst (AllByRecursion IsPacketText) (sym are) (each_of_both texts more p q)

-- ---- the bytes held

-- behind the first command the same bytes are left
pub rest_behind : (held line rest : List ℕ) → BeginsCommand held line rest → rest_of rest ≡ rest_of held
rest_behind held line rest b =
    let split = commands_split rest in
    (one_split_lem held (line ∷ commands_in rest) (commands_in held) (rest_of rest) (rest_of held)
    (record {
      whole = b.whole ∙ ap (λ l. command_frame line ++ l) split.whole
          ∙ sym (append_assoc (command_frame line) (flat_map command_frame (commands_in rest)) (rest_of rest));
      each = (b.is_text, split.each);
      no_more = split.no_more;
    }) (commands_split held)).1

none_left : (held : List ℕ) → NoMore held → (commands_in held ≡ []) × (rest_of held ≡ held)
none_left held none =
    one_split_lem held (commands_in held) [] (rest_of held) held (commands_split held)
    (record { whole = refl; each = tt; no_more = none })

pub none_partial : (held : List ℕ) → IsPartialCommand held → (commands_in held ≡ []) × (rest_of held ≡ held)
none_partial held partial = none_left held (no_more_partial held partial)

pub none_refused : (held : List ℕ) → BeginsNoCommand held → (commands_in held ≡ []) × (rest_of held ≡ held)
none_refused held refused = none_left held (no_more_refused held refused)

-- ---- what was answered, and what is left

module _ {S E : Type 0} (step : S → List ℕ → Reply S E) where
  -- nothing was answered yet
  pub all_first : (answer : Answer E) (start : S) (held : List ℕ) → answer.packets ≡ [] → answer.program ≡ []
      → answer.ended ≡ None → followed (reply_of answer start) (served step start held) ≡ served step start held
  all_first answer start held p q e = rw (p, q, e) refl

  -- one command more was answered
  pub all_next : (all answer after : Answer E) (state now : S) (held line rest : List ℕ) → all.ended ≡ None
      → BeginsCommand held line rest → reply_of answer now ≡ step state line
      → after.packets ≡ all.packets ++ answer.packets → after.program ≡ all.program ++ answer.program
      → after.ended ≡ answer.ended
      → followed (reply_of after now) (served step now rest) ≡ followed (reply_of all state) (served step state held)
  all_next all answer after state now held line rest goes_on begins is p q e =
      let left = served step now rest in
      (λ i. followed (reply (p i) (q i) now (e i)) left)
      ∙ sym (follows all.packets all.program state None (reply_of answer now) (λ (s : S). served step s rest))
      ∙ (λ i. followed (reply all.packets all.program state (sym goes_on i)) (followed (reply_of answer now) left))
      ∙ ap (λ (r : Reply S E). followed (reply_of all state) (followed r (replies step r.state (commands_in rest)))) is
      ∙ ap (λ (l : List (List ℕ)). followed (reply_of all state) (replies step state l))
      (sym (front_comes held line rest begins))

  -- what was answered is all, where a command has ended the session
  pub all_ended : (answer : Answer E) (state : S) (held : List ℕ) (all : Reply S E) → is_some answer.ended ≡ true
      → followed (reply_of answer state) (served step state held) ≡ all → reply_of answer state ≡ all
  all_ended answer state held all over is =
      let end = some_of answer.ended over in
      sym (followed_over (reply_of answer state) (served step state held) end.0 end.1) ∙ is

  -- and where no command is left
  pub all_over : (answer : Answer E) (state now : S) (held : List ℕ) (all : Reply S E) → commands_in held ≡ []
      → now ≡ state → followed (reply_of answer state) (served step state held) ≡ all → reply_of answer now ≡ all
  all_over answer state now held all none stays is =
      ap (reply_of answer) stays
      ∙ sym (ap (λ (l : List (List ℕ)). followed (reply_of answer state) (replies step state l)) none
      ∙ followed_none (reply_of answer state))
      ∙ is
