use Rattle.std.proofs.Common.{◌≡◌, ◌-◌, ◌+◌, ◌++◌, ◌∷◌, [], length, length-append, vec_len, vec_capacity, MatchResult, OnOk, arith, sym, subst, ◌∙◌}
use Rattle.std.specs.Prelude.{⊤}
use Rattle.std.proofs.lemmas.List.{nil_from_length}
use Rattle.dp_crews.specs.Twins.{Each}
use Rattle.dp_crews.specs.inner.Accounts.{HasRoom, TookOver, TookUndone}
use Rattle.dp_crews.proofs.AccountLaws.{both_end, both_more, each_at}
use Rattle.dp_crews.proofs.HireLaws.{some_left, taken_all, whole_at}
use Rattle.dp_crews.proofs.accounts.gather.Goals as goal

pub take_back-requires-clause-own : goal.take_back-requires-clause-own
take_back-requires-clause-own g c =
    each_at
    (λ answer. MatchResult answer (λ over. OnOk over.over (over.clerk.desk ≡ c.args.desk.now)) (λ task. ⊤))
    c.loop-answer.yielded c.in-Some.answer c.next.new.self.rest.items
    (subst (Each (λ answer. MatchResult answer (λ over. OnOk over.over (over.clerk.desk ≡ c.args.desk.now))
    (λ task. ⊤)))
    (whole_at c.into_iter-answer-iterator.result c.loop-answer.yielded c.loop-answer.answer-iterator
    c.args.answers.items c.in-Some.answer c.next.new.self.rest.items c.loop-answer.yielded_by
    c.into_iter-answer-iterator.ensures.into_iter_gives.0 c.in-Some.ensures.steps.0) c.requires.own)

pub loop-answer-preserved : goal.loop-answer-preserved
loop-answer-preserved g c =
    let i = c.loop-answer.invariant in
    let snoc : length (c.loop-answer.yielded ++ c.in-Some.answer ∷ []) ≡ length c.loop-answer.yielded + 1 =
    length-append c.loop-answer.yielded (c.in-Some.answer ∷ []) in
    let more = length c.args.answers.items - length (c.loop-answer.yielded ++ c.in-Some.answer ∷ []) in
    let one : length c.args.answers.items - length c.loop-answer.yielded ≡ more + 1 = omega (
      arith,
      snoc,
      some_left c.into_iter-answer-iterator.result c.loop-answer.yielded c.loop-answer.answer-iterator
          c.args.answers.items c.in-Some.answer c.next.new.self.rest.items c.loop-answer.yielded_by
          c.into_iter-answer-iterator.ensures.into_iter_gives.0 c.in-Some.ensures.steps.0,
    ) in (
      both_more
          (λ answer v w x y. MatchResult answer (λ over. TookOver over.closed over.clerk over.over v w x y)
          (λ task. TookUndone task.port v w x y))
          c.loop-answer.yielded c.in-Some.answer c.args.clerk.now c.loop-answer.clerk c.take_back.new.clerk
          c.args.account.now c.loop-answer.account c.take_back.new.account i.0 c.take_back.ensures.took,
      c.take_back.ensures.desk ∙ i.1,
      c.take_back.ensures.room more
          (subst (λ n. HasRoom n (vec_len c.loop-answer.account.ides) (vec_capacity c.loop-answer.account.ides)
          (vec_len c.loop-answer.account.engines) (vec_capacity c.loop-answer.account.engines)) one i.2),
    )

pub returns-clause-took : goal.returns-clause-took
returns-clause-took g c =
    both_end _ c.loop-answer.yielded c.args.answers.items _ _ _ _
    (taken_all c.into_iter-answer-iterator.result c.loop-answer.yielded c.args.answers.items
    c.loop-answer.answer-iterator c.loop-answer.yielded_by
    c.into_iter-answer-iterator.ensures.into_iter_gives.0
    (nil_from_length _ (sym c.loop-answer.answer-iterator.rest.ok.0 ∙ c.in-None.ensures.steps.0)))
    c.loop-answer.invariant.0
