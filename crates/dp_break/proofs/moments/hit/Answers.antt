use Rattle.std.proofs.Common.{◌≡◌, ◌+◌, ◌-◌, min, ℕ, false, rules, ◌&&◌, sym, ap, ◌∙◌, arith}
use Rattle.std.proofs.lemmas.Bool.{and_left, and_right}
use Rattle.dp_break.specs.Hits.{is_enough_for}
use Rattle.dp_break.specs.StopRule.{most_hits}
use Rattle.dp_break.specs.inner.Marks.{stops_once_more}
use Rattle.dp_break.proofs.Steps.{hit_left}
use Rattle.dp_break.proofs.moments.hit.Goals as goal

pub returns-then-not-is_enough-clause-left : goal.returns-then-not-is_enough-clause-left
returns-then-not-is_enough-clause-left c = λ d.
    let b = c.index_mut-breakpoint.result.now in
    let counted : c.saturating_add-breakpoint.result ≡ b.hits + min 1 (most_hits - b.hits) = omega arith in
    let bare : c.is_enough.result ≡ false = search rules in
    let stays : (stops_once_more b && b.temporary) ≡ false =
    and_left (stops_once_more b) b.temporary (sym (ap (is_enough_for b.hit_rule b.hit_value) counted)
    ∙ sym c.is_enough.ensures ∙ bare)
    in
    hit_left c.args.held.now.items c.args.at d b _ (search rules) c.index_mut-breakpoint.ensures.value
    (ap (λ (h : ℕ). record b { hits = h }) counted) stays

pub returns-then-not-breakpoint-clause-left : goal.returns-then-not-breakpoint-clause-left
returns-then-not-breakpoint-clause-left c = λ d.
    let b = c.index_mut-breakpoint.result.now in
    let counted : c.saturating_add-breakpoint.result ≡ b.hits + min 1 (most_hits - b.hits) = omega arith in
    let bare : b.temporary ≡ false = search rules in
    hit_left c.args.held.now.items c.args.at d b _ (search rules) c.index_mut-breakpoint.ensures.value
    (ap (λ (h : ℕ). record b { hits = h }) counted)
    (and_right (stops_once_more b) b.temporary bare)
