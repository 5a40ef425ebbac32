use Rattle.std.proofs.Common.{◌≡◌, arith, ◌+◌, length, refl, ap, sym, ◌∙◌, codes}
use Rattle.std.specs.Prelude.{nat_le}
use Rattle.std.proofs.lemmas.Result.{err_from_is_err_and}
use Rattle.dp_dap.specs.Answers as spec
use Rattle.dp_dap_messages.specs.Lines.{place_line}
use Rattle.dp_dap_messages.specs.Messages.{list}
use Rattle.dp_dap_messages.specs.Values as values
use Rattle.dp_dap.proofs.AskLaws.{behind_refused, not_replied, not_replied_at, replied_at}
use Rattle.dp_dap.proofs.EffectLaws.{has_room, list_full, list_looked, looks_are, no_room}
use Rattle.dp_dap.proofs.TurnLaws.{place_stays}
use Rattle.dp_dap.proofs.gateway.Gateway.show_place.Goals as goal

pub returns-clause-ok : goal.returns-clause-ok
returns-clause-ok g c =
    let place = c.args.place.now in
    let old = c.args.self.now in
    let mid = c.ask.new.self in
    let report = c.in_ok-report.report in
    let held = spec.held_at place.name (spec.shown_in report.response.body) in
    let is = replied_at (place_line place) _ report old mid (c.as_slice.ensures ∙ c.in_ok-line.ensures.text)
    c.in_ok-report.ensures.ok in
    let looks = looks_are (place_line place) report old mid (λ s. place_stays s place) is in
    let are = c.held_at-held.ensures ∙ ap (spec.held_at place.name) c.shown_in.ensures in
    let room = has_room c.is_full.result _ c.is_full.ensures c.if-is_full.false in
    let places_are = c.in_ok-places.ensures ∙ ap (values.places_of place) are in
    let counted : c.len-count.result ≡ length c.in_ok-places.places.items = omega arith in
    list_looked _ (spec.held_shown place old) report old mid c.list.new.self (values.places_of place held)
    c.in_ok-places.places.items (list (codes "variables") (values.variables (length old.places) held)) c.bare.result
    c.in_ok-body.body looks refl places_are
    (ap (λ n. nat_le (length mid.places + n) spec.reference_limit) (ap length (sym places_are) ∙ sym counted) ∙ room)
    c.bare.ensures
    (c.in_ok-body.ensures ∙ ap (list (codes "variables")) (c.in_ok-variables.ensures
    ∙ (λ i. values.variables (c.listed.ensures i) (are i))
    ∙ ap (λ k. values.variables (length k.places) held) looks.stays)) c.in_ok-list.ensures.ok

pub returns-then-is_full-clause-refused : goal.returns-then-is_full-clause-refused
returns-then-is_full-clause-refused g c =
    let place = c.args.place.now in
    let old = c.args.self.now in
    let mid = c.ask.new.self in
    let report = c.in_ok-report.report in
    let held = spec.held_at place.name (spec.shown_in report.response.body) in
    let is = replied_at (place_line place) _ report old mid (c.as_slice.ensures ∙ c.in_ok-line.ensures.text)
    c.in_ok-report.ensures.ok in
    let looks = looks_are (place_line place) report old mid (λ s. place_stays s place) is in
    let are = c.held_at-held.ensures ∙ ap (spec.held_at place.name) c.shown_in.ensures in
    let full = no_room c.is_full.result _ c.is_full.ensures c.if-is_full.true in
    let places_are = c.in_ok-places.ensures ∙ ap (values.places_of place) are in
    let counted : c.len-count.result ≡ length c.in_ok-places.places.items = omega arith in
    list_full _ (spec.held_shown place old) report old mid (values.places_of place held)
    (list (codes "variables") (values.variables (length old.places) held)) looks refl
    (ap (λ n. nat_le (length mid.places + n) spec.reference_limit) (ap length (sym places_are) ∙ sym counted) ∙ full)

pub returns-in_err-report-clause-refused : goal.returns-in_err-report-clause-refused
returns-in_err-report-clause-refused g c =
    let p = err_from_is_err_and c.from_residual-in_err-report.result c.from_residual-in_err-report.ensures.1 in
    rw (p.1, p.2)
    (behind_refused (spec.held_shown c.args.place.now c.args.self.now) _ _ c.args.self.now c.ask.new.self
    (not_replied (place_line c.args.place.now) _ c.args.self.now c.ask.new.self
    (not_replied_at (place_line c.args.place.now) _ _ c.args.self.now c.ask.new.self
    (c.as_slice.ensures ∙ c.in_ok-line.ensures.text) c.in_err-report.ensures.refused)))
