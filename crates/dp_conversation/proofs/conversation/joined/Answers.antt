use Rattle.std.proofs.Common.{◌≡◌, ◌++◌, Ok, sym, ap, ◌∙◌, map-id}
use Rattle.std.proofs.lemmas.Iterator.Adapters.{fact_from_extend, YieldsList-from_vec}
use Rattle.dp_conversation.proofs.conversation.joined.Goals as goal

pub returns-clause-packets : goal.returns-clause-packets
returns-clause-packets g c =
    let went : c.extend.new.self.items ≡ c.into_vec-packets.result.items ++ c.into_vec.result.items =
    fact_from_extend {E = Unit {0}} (λ x. x) (Ok c.in_ok-extend.field-0) c.in_ok-extend.ensures.ran
    (λ it b. YieldsList-from_vec {s = it} _ b.0 (b.1 ∙ c.into_vec.result.ok.0))
    (λ xs e h. h.0 ∙ ap (λ l. c.into_vec-packets.result.items ++ l) (sym (map-id xs) ∙ e)) in
    c.of.ensures ∙ went ∙ (λ i. c.into_vec-packets.ensures i ++ c.into_vec.ensures i)
