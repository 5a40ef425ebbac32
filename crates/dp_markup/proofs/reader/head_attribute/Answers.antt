use Rattle.std.proofs.Common.{◌≡◌, ◌-◌, ◌∙◌, length, inl, ap, subst, sym}
use Rattle.dp_markup.specs.declared.errors.MarkupError.TheVariants.{BadMarkup}
use Rattle.dp_grammar.specs.declared.refusal.Refusal.TheVariants.{Unexpected, TooDeep}
use Rattle.dp_markup.specs.Grammar.{heads, root_value}
use Rattle.dp_markup.specs.inner.Search.{sought_head}
use Rattle.dp_markup.specs.Refused.{IsFirstBad}
use Rattle.dp_markup.proofs.SearchLaws.{sought_found}
use Rattle.dp_markup.proofs.Verdicts.{head_left_in, head_is_bad, head_not_deep, is_head, one_head, not_head, same_head_offset, sought_refused_at}
use Rattle.dp_markup.proofs.reader.head_attribute.Goals as goal

pub overflow_sub-result : goal.overflow_sub-result
overflow_sub-result c =
    let bytes = c.args.bytes.now in
    let left = c.in-Err-Unexpected.left in
    head_left_in bytes left (inl (sought_refused_at c.args.root.now c.args.name.now bytes c.new-input.result
    c.in-Err-Unexpected.field-0 (Unexpected left) c.new-input.ensures c.in-Err-Unexpected.field-0-is
    (λ h. cc) c.in-Err-Unexpected.ensures))

pub returns-in-Ok-clause-found : goal.returns-in-Ok-clause-found
returns-in-Ok-clause-found c =
    let bytes = c.args.bytes.now in
    let s = sought_found c.args.root.now c.args.name.now bytes c.in-Ok.value c.sought_head.new.input
    (ap (sought_head c.args.root.now c.args.name.now) (sym c.new-input.ensures) ∙ c.in-Ok.ensures) in
    (s.0, is_head bytes s.0 c.sought_head.new.input s.1, s.2)

pub returns-in-Ok-clause-only : goal.returns-in-Ok-clause-only
returns-in-Ok-clause-only c = λ tag h.
    let bytes = c.args.bytes.now in
    let s = sought_found c.args.root.now c.args.name.now bytes c.in-Ok.value c.sought_head.new.input
    (ap (sought_head c.args.root.now c.args.name.now) (sym c.new-input.ensures) ∙ c.in-Ok.ensures) in
    s.2 ∙ ap (λ t. root_value t c.args.root.now c.args.name.now) (one_head bytes s.0 c.sought_head.new.input s.1 tag h)

pub returns-in-Ok-clause-bad_only : goal.returns-in-Ok-clause-bad_only
returns-in-Ok-clause-bad_only c = λ at bad.
    let bytes = c.args.bytes.now in
    let s = sought_found c.args.root.now c.args.name.now bytes c.in-Ok.value c.sought_head.new.input
    (ap (sought_head c.args.root.now c.args.name.now) (sym c.new-input.ensures) ∙ c.in-Ok.ensures) in
    not_head bytes at s.0 bad (is_head bytes s.0 c.sought_head.new.input s.1)

pub returns-in-Err-Unexpected-clause-only : goal.returns-in-Err-Unexpected-clause-only
returns-in-Err-Unexpected-clause-only c = λ tag h.
    let bytes = c.args.bytes.now in
    let left = c.in-Err-Unexpected.left in
    absurd (not_head bytes (length bytes - left) tag (head_is_bad bytes left
    (sought_refused_at c.args.root.now c.args.name.now bytes c.new-input.result c.in-Err-Unexpected.field-0
    (Unexpected left) c.new-input.ensures c.in-Err-Unexpected.field-0-is (λ h. cc) c.in-Err-Unexpected.ensures)) h)

pub returns-in-Err-Unexpected-clause-bad : goal.returns-in-Err-Unexpected-clause-bad
returns-in-Err-Unexpected-clause-bad c = λ at is.
    let bytes = c.args.bytes.now in
    let left = c.in-Err-Unexpected.left in
    let same : length bytes - left ≡ at = cc in
    subst (λ n. IsFirstBad heads 0 bytes n) same (head_is_bad bytes left
    (sought_refused_at c.args.root.now c.args.name.now bytes c.new-input.result c.in-Err-Unexpected.field-0
    (Unexpected left) c.new-input.ensures c.in-Err-Unexpected.field-0-is (λ h. cc) c.in-Err-Unexpected.ensures))

pub returns-in-Err-Unexpected-clause-bad_only : goal.returns-in-Err-Unexpected-clause-bad_only
returns-in-Err-Unexpected-clause-bad_only c = λ at bad.
    let bytes = c.args.bytes.now in
    let left = c.in-Err-Unexpected.left in
    inl (ap BadMarkup (same_head_offset bytes (length bytes - left) at
    (head_is_bad bytes left (sought_refused_at c.args.root.now c.args.name.now bytes c.new-input.result
    c.in-Err-Unexpected.field-0 (Unexpected left) c.new-input.ensures c.in-Err-Unexpected.field-0-is
    (λ h. cc) c.in-Err-Unexpected.ensures)) bad))

pub returns-in-Err-TooDeep-clause-only : goal.returns-in-Err-TooDeep-clause-only
returns-in-Err-TooDeep-clause-only c = λ tag h.
    let bytes = c.args.bytes.now in
    let left = c.in-Err-TooDeep._left in
    absurd (head_not_deep bytes left (sought_refused_at c.args.root.now c.args.name.now bytes c.new-input.result
    c.in-Err-TooDeep.field-0 (TooDeep left) c.new-input.ensures c.in-Err-TooDeep.field-0-is
    (λ h. cc) c.in-Err-TooDeep.ensures))

pub returns-in-Err-TooDeep-clause-bad_only : goal.returns-in-Err-TooDeep-clause-bad_only
returns-in-Err-TooDeep-clause-bad_only c = λ at bad.
    let bytes = c.args.bytes.now in
    let left = c.in-Err-TooDeep._left in
    absurd (head_not_deep bytes left (sought_refused_at c.args.root.now c.args.name.now bytes c.new-input.result
    c.in-Err-TooDeep.field-0 (TooDeep left) c.new-input.ensures c.in-Err-TooDeep.field-0-is
    (λ h. cc) c.in-Err-TooDeep.ensures))

pub returns-in-Err-TooDeep-clause-never_too_deep : goal.returns-in-Err-TooDeep-clause-never_too_deep
returns-in-Err-TooDeep-clause-never_too_deep c = λ is.
    let bytes = c.args.bytes.now in
    let left = c.in-Err-TooDeep._left in
    head_not_deep bytes left (sought_refused_at c.args.root.now c.args.name.now bytes c.new-input.result
    c.in-Err-TooDeep.field-0 (TooDeep left) c.new-input.ensures c.in-Err-TooDeep.field-0-is
    (λ h. cc) c.in-Err-TooDeep.ensures)
