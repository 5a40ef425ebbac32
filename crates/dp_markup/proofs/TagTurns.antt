-- One turn through a start tag.
use Rattle.std.specs.declared.ops.ControlFlow.TheVariants.{Continue, Break}
use Rattle.std.proofs.Common.{◌≡◌, ℕ, ◌+◌, ◌-◌, ◌<◌, true, false, cond, ◌||◌, ◌==◌, List, Bool, ap, ◌∙◌}
use Rattle.dp_grammar.proofs.Turns.{after, one_turn, after_last, after_piece}
use Rattle.dp_markup.specs.declared.sought.Sought.{Sought}
use Rattle.dp_markup.specs.declared.states.Tag.{Tag}
use Rattle.dp_markup.specs.Grammar.{Text}
use Rattle.dp_markup.specs.inner.Input.{head, next, and_then, until, made}
use Rattle.dp_markup.specs.inner.Readers.{tag_step, tag_piece, tag_end}
use Rattle.dp_markup.specs.inner.Search.{sought_step, sought_piece, sought_end}

abbrev ends : List ℕ → Bool
ends ts = next (λ b. b == 62 || b == 47) (head ts)

module _ (end turn : ℕ) (ts : List ℕ) (below : turn < end) where
  pub tag_stops : (name : Text) (tag : Tag) → ends ts ≡ true
      → until (tag_step name) (end - turn) tag ts ≡ tag_end name tag ts
  unfolding tag_step
  tag_stops name tag stop =
      let on = until (tag_step name) (end - (turn + 1)) in
      one_turn (tag_step name) end turn tag ts below
      ∙ ap (λ b. after (cond b (made (tag_end name tag) Break ts) (made (tag_piece tag) Continue ts)) on) stop
      ∙ after_last (tag_end name tag) ts on

  pub tag_goes_on : (name : Text) (tag : Tag) → ends ts ≡ false
      → until (tag_step name) (end - turn) tag ts
      ≡ and_then (tag_piece tag ts) (until (tag_step name) (end - (turn + 1)))
  unfolding tag_step
  tag_goes_on name tag stop =
      let on = until (tag_step name) (end - (turn + 1)) in
      one_turn (tag_step name) end turn tag ts below
      ∙ ap (λ b. after (cond b (made (tag_end name tag) Break ts) (made (tag_piece tag) Continue ts)) on) stop
      ∙ after_piece (tag_piece tag) ts on

  -- the same, where one value is sought

  pub sought_stops : (is_root : Bool) (wanted : Text) (s : Sought) → ends ts ≡ true
      → until (sought_step is_root wanted) (end - turn) s ts ≡ sought_end is_root s ts
  unfolding sought_step
  sought_stops is_root wanted s stop =
      let on = until (sought_step is_root wanted) (end - (turn + 1)) in
      one_turn (sought_step is_root wanted) end turn s ts below
      ∙ ap (λ b. after (cond b (made (sought_end is_root s) Break ts) (made (sought_piece wanted s) Continue ts)) on)
      stop ∙ after_last (sought_end is_root s) ts on

  pub sought_goes_on : (is_root : Bool) (wanted : Text) (s : Sought) → ends ts ≡ false
      → until (sought_step is_root wanted) (end - turn) s ts
      ≡ and_then (sought_piece wanted s ts) (until (sought_step is_root wanted) (end - (turn + 1)))
  unfolding sought_step
  sought_goes_on is_root wanted s stop =
      let on = until (sought_step is_root wanted) (end - (turn + 1)) in
      one_turn (sought_step is_root wanted) end turn s ts below
      ∙ ap (λ b. after (cond b (made (sought_end is_root s) Break ts) (made (sought_piece wanted s) Continue ts)) on)
      stop ∙ after_piece (sought_piece wanted s) ts on
