use Rattle.std.proofs.Common.{◌≡◌, ℕ, suc, ◌+◌, length, refl, ap, sym, subst, ◌∙◌, arith, codes}
use Rattle.std.specs.Prelude.{nat_le}
use Rattle.std.proofs.lemmas.Bool.{leb-true}
use Rattle.std.proofs.lemmas.Result.{err_from_is_err_and}
use Rattle.dp_dap_messages.specs.declared.effects.Refusal.TheVariants as refusal
use Rattle.dp_dap.specs.declared.effects.Unanswered.TheVariants.{Refused}
use Rattle.dp_dap.specs.Answers as spec
use Rattle.dp_dap_messages.specs.Messages.{list}
use Rattle.dp_dap_messages.specs.Values as values
use Rattle.dp_dap.specs.inner.Effects.{DidSo, Refuses}
use Rattle.dp_dap.proofs.EffectLaws.{has_room, list_full, list_looked, no_room, places_count, scopes_refused}
use Rattle.dp_dap.proofs.gateway.Gateway.show_scopes.Goals as goal

pub scopes-requires : goal.scopes-requires
scopes-requires g c =
    let room = has_room c.is_full.result _ c.is_full.ensures c.if-is_full.false in
    omega (arith, leb-true _ _ room, c.listed.ensures)

pub returns-clause-ok : goal.returns-clause-ok
returns-clause-ok g c =
    let level = c.in-Some.level in
    let mid = c.ask_contexts.new.self in
    let contexts = spec.contexts_in c.in_ok-report.report.response.body in
    let are = c.contexts_in-contexts.ensures in
    let looks = c.in_ok-report.ensures.ok in
    let frame_is : suc level ≡ c.args.frame = omega (arith, c.in-Some.ensures) in
    let room = has_room c.is_full.result _ c.is_full.ensures c.if-is_full.false in
    subst (λ (n : ℕ). DidSo (spec.scopes_shown n c.args.self.now) c.bare.result c.list.new.self) frame_is
    (list_looked _ (spec.contexts_shown level c.args.self.now) c.in_ok-report.report c.args.self.now mid
    c.list.new.self (values.context_places level contexts) c.in_ok-places.places.items
    (list (codes "scopes") (values.scopes (length c.args.self.now.places) contexts)) c.bare.result c.in_ok-body.body
    looks refl (c.in_ok-places.ensures ∙ ap (values.context_places level) are)
    (ap (λ n. nat_le (length mid.places + n) spec.reference_limit)
    (places_count level contexts ∙ ap length (sym are)) ∙ room) c.bare.ensures
    (c.in_ok-body.ensures ∙ ap (list (codes "scopes")) (c.in_ok-scopes.ensures
    ∙ (λ i. values.scopes (c.listed.ensures i) (are i))
    ∙ ap (λ k. values.scopes (length k.places) contexts) looks.stays)) c.in_ok-list.ensures.ok)

pub returns-then-is_full-clause-refused : goal.returns-then-is_full-clause-refused
returns-then-is_full-clause-refused g c =
    let level = c.in-Some.level in
    let mid = c.ask_contexts.new.self in
    let contexts = spec.contexts_in c.in_ok-report.report.response.body in
    let are = c.contexts_in-contexts.ensures in
    let frame_is : suc level ≡ c.args.frame = omega (arith, c.in-Some.ensures) in
    let full = no_room c.is_full.result _ c.is_full.ensures c.if-is_full.true in
    subst (λ (n : ℕ). Refuses (spec.scopes_shown n c.args.self.now) (Refused refusal.TooManyReferences) c.args.self.now
    mid) frame_is
    (list_full _ (spec.contexts_shown level c.args.self.now) c.in_ok-report.report c.args.self.now mid
    (values.context_places level contexts)
    (list (codes "scopes") (values.scopes (length c.args.self.now.places) contexts)) c.in_ok-report.ensures.ok refl
    (ap (λ n. nat_le (length mid.places + n) spec.reference_limit)
    (places_count level contexts ∙ ap length (sym are)) ∙ full))

pub returns-in_err-report-clause-refused : goal.returns-in_err-report-clause-refused
returns-in_err-report-clause-refused g c =
    let p = err_from_is_err_and c.from_residual.result c.from_residual.ensures.1 in
    let frame_is : suc c.in-Some.level ≡ c.args.frame = omega (arith, c.in-Some.ensures) in
    rw (p.1, p.2)
    (scopes_refused c.args.frame c.in-Some.level _ c.args.self.now c.ask_contexts.new.self frame_is
    c.in_err-report.ensures.refused)
