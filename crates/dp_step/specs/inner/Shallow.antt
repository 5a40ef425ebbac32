-- What is run whole: a statement, or the turns that are left of a loop, that comes to no deep call.
-- `deep` tells of a name whether a call of it is deep.
use Rattle.std.specs.Prelude.{ℕ, Bool, false, not, ◌||◌, List}
use Rattle.dp_analysis.specs.Depth.{any_deep, is_deep, statement_is_deep}
use Rattle.dp_small_steps.specs.declared.work.Hand.{Hand}
use Rattle.dp_small_steps.specs.declared.work.Hand.TheVariants as hand
use Rattle.dp_small_steps.specs.declared.work.Turns.{Turns}
use Rattle.dp_small_steps.specs.Rest.{after_of, tests_of}

module _ (deep : List ℕ → Bool) where
  -- what the turns evaluate, and their body
  abbrev pub turns_are_deep : Turns → Bool
  turns_are_deep turns =
      any_deep deep (tests_of turns.head) || any_deep deep (after_of turns.head)
      || statement_is_deep deep turns.body.now

  abbrev pub runs_whole : Hand → Bool
  runs_whole (hand.Run statement) = not (statement_is_deep deep statement.now)
  runs_whole (hand.Turn turns left) = not (turns_are_deep turns)
  runs_whole (hand.DoTurn turns left) =
      not (is_deep deep turns.test.now || statement_is_deep deep turns.body.now)
  runs_whole (hand.EachTurn turns subject at) = not (statement_is_deep deep turns.body.now)
  runs_whole hand = false
