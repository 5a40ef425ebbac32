use Rattle.std.proofs.Common.{inl, inr, refl, sym, ap, ◌∙◌, not}
use Rattle.dp_conversation.specs.Growth.{served}
use Rattle.dp_conversation.proofs.AnswerAllLaws.{all_first, all_next, all_ended, all_over, had_not_failed, has_answered, none_of, none_partial, none_refused, none_was_held, rest_behind, texts_none, texts_joined}
use Rattle.dp_conversation.proofs.conversation.Conversation.answer_all.Goals as goal

pub commands-init : goal.commands-init
commands-init g c = (
  all_first g.A.Responder.step c.no_answer-all.result c.args.self.now.session c.args.self.now.held.held
      c.no_answer-all.ensures.packets c.no_answer-all.ensures.program c.no_answer-all.ensures.ended,
  texts_none c.no_answer-all.result.packets c.no_answer-all.ensures.packets,
  refl,
  inr (refl, refl, c.no_answer-all.ensures.ended),
)

pub commands-preserved : goal.commands-preserved
commands-preserved g c =
    let first = rw c.in-Answered.is at c.in_ok-answer.ensures.comes in
    let texts = rw c.in-Answered.is at c.in_ok-answer.ensures.are_texts in
    let joins = c.in_ok-all-in-Answered.ensures in (
      all_next g.A.Responder.step c.commands.all c.in-Answered.answer c.in_ok-all-in-Answered.all
          c.commands.self.session c.next.new.self.session c.commands.self.held.held first.line
          c.next.new.self.held.held
          (none_of c.commands.all.ended (c.is_none.ensures ∙ ap not c.commands-test.true))
          first.begins first.is joins.packets joins.program joins.ended
          ∙ c.commands.invariant.0,
      texts_joined c.in_ok-all-in-Answered.all.packets c.commands.all.packets c.in-Answered.answer.packets
          joins.packets c.commands.invariant.1 texts,
      rest_behind c.commands.self.held.held first.line c.next.new.self.held.held first.begins
          ∙ c.commands.invariant.2,
      inl (had_not_failed g.A.Responder.failed _ _ _ _ _ c.commands.invariant.3
          (rw c.in-Answered.is at c.in_ok-answer.ensures.stays)),
    )

pub returns-in-Partial-clause-answers : goal.returns-in-Partial-clause-answers
returns-in-Partial-clause-answers g c =
    let next = rw c.in-Partial.is at c.in_ok-answer.ensures.comes in
    all_over g.A.Responder.step c.commands.all c.commands.self.session c.next.new.self.session
    c.commands.self.held.held (served g.A.Responder.step c.args.self.now.session c.args.self.now.held.held)
    (none_partial c.commands.self.held.held next.0).0 next.1 c.commands.invariant.0

pub returns-in-Partial-clause-held : goal.returns-in-Partial-clause-held
returns-in-Partial-clause-held g c =
    let next = rw c.in-Partial.is at c.in_ok-answer.ensures.comes in
    λ _. next.2 ∙ sym ((none_partial c.commands.self.held.held next.0).1) ∙ c.commands.invariant.2

pub returns-in-TooLong-clause-answers : goal.returns-in-TooLong-clause-answers
returns-in-TooLong-clause-answers g c =
    let next = rw c.in-TooLong.is at c.in_ok-answer.ensures.comes in
    all_over g.A.Responder.step c.commands.all c.commands.self.session c.next.new.self.session
    c.commands.self.held.held (served g.A.Responder.step c.args.self.now.session c.args.self.now.held.held)
    (none_refused c.commands.self.held.held next.0).0 next.1 c.commands.invariant.0

pub returns-in-TooLong-clause-held : goal.returns-in-TooLong-clause-held
returns-in-TooLong-clause-held g c =
    let next = rw c.in-TooLong.is at c.in_ok-answer.ensures.comes in
    λ _. next.2 ∙ sym ((none_refused c.commands.self.held.held next.0).1) ∙ c.commands.invariant.2

pub returns-clause-answers : goal.returns-clause-answers
returns-clause-answers g c =
    all_ended g.A.Responder.step c.commands.all c.commands.self.session c.commands.self.held.held
    (served g.A.Responder.step c.args.self.now.session c.args.self.now.held.held)
    (c.is_none.ensures ∙ ap not c.commands-test.false) c.commands.invariant.0

pub returns-in-Partial-clause-stays : goal.returns-in-Partial-clause-stays
returns-in-Partial-clause-stays g c =
    none_was_held g.A.Responder.failed _ _ _ _ _ c.commands.invariant.3
    (none_partial c.commands.self.held.held (rw c.in-Partial.is at c.in_ok-answer.ensures.comes).0).0

pub returns-in-TooLong-clause-stays : goal.returns-in-TooLong-clause-stays
returns-in-TooLong-clause-stays g c =
    none_was_held g.A.Responder.failed _ _ _ _ _ c.commands.invariant.3
    (none_refused c.commands.self.held.held (rw c.in-TooLong.is at c.in_ok-answer.ensures.comes).0).0

pub returns-clause-stays : goal.returns-clause-stays
returns-clause-stays g c =
    has_answered g.A.Responder.failed _ _ _ _ _ c.commands.invariant.3
    (c.is_none.ensures ∙ ap not c.commands-test.false)
