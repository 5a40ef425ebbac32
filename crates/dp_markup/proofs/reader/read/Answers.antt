use Rattle.std.proofs.Common.{◌≡◌, ◌-◌, length, inl, ap, subst, arith}
use Rattle.dp_markup.specs.declared.errors.MarkupError.TheVariants.{BadMarkup}
use Rattle.dp_grammar.specs.declared.refusal.Refusal.TheVariants.{Unexpected, TooDeep}
use Rattle.dp_markup.specs.Grammar.{Document, limit}
use Rattle.dp_markup.specs.Refused.{IsFirstBad}
use Rattle.dp_markup.proofs.Verdicts.{left_in, is_bad, is_too_deep, is_markup, one_markup, not_markup, not_deep, same_offset, one_kind, found_at, refused_at}
use Rattle.dp_markup.proofs.Spelled.{markup_readable, bytes_are}
use Rattle.dp_markup.proofs.reader.read.Goals as goal

pub overflow_sub-result : goal.overflow_sub-result
overflow_sub-result c =
    let bytes = c.args.bytes.now in
    let left = c.in-Err-Unexpected.left in
    left_in bytes left (inl (refused_at c.level_limit.result bytes c.new-input.result c.in-Err-Unexpected.field-0
    (Unexpected left) c.level_limit.ensures c.new-input.ensures c.in-Err-Unexpected.field-0-is
    (λ h. cc) c.in-Err-Unexpected.ensures))

pub returns-in-Ok-clause-found : goal.returns-in-Ok-clause-found
returns-in-Ok-clause-found c =
    let bytes = c.args.bytes.now in
    is_markup bytes c.in-Ok.e c.document.new.input (found_at c.level_limit.result bytes c.new-input.result c.in-Ok.e
    c.document.new.input c.level_limit.ensures c.new-input.ensures c.in-Ok.ensures)

pub returns-in-Ok-clause-only : goal.returns-in-Ok-clause-only
returns-in-Ok-clause-only c =
    let bytes = c.args.bytes.now in
    one_markup bytes c.in-Ok.e c.document.new.input (found_at c.level_limit.result bytes c.new-input.result c.in-Ok.e
    c.document.new.input c.level_limit.ensures c.new-input.ensures c.in-Ok.ensures)

pub returns-in-Ok-clause-readable : goal.returns-in-Ok-clause-readable
returns-in-Ok-clause-readable c =
    let bytes = c.args.bytes.now in
    markup_readable bytes c.in-Ok.e (is_markup bytes c.in-Ok.e c.document.new.input
    (found_at c.level_limit.result bytes c.new-input.result c.in-Ok.e c.document.new.input c.level_limit.ensures
    c.new-input.ensures c.in-Ok.ensures)) (bytes_are bytes (λ i. omega (arith, c.type_inv.bytes i)))

pub returns-in-Ok-clause-bad_only : goal.returns-in-Ok-clause-bad_only
returns-in-Ok-clause-bad_only c = λ at bad.
    let bytes = c.args.bytes.now in
    not_markup bytes at c.in-Ok.e bad (is_markup bytes c.in-Ok.e c.document.new.input
    (found_at c.level_limit.result bytes c.new-input.result c.in-Ok.e c.document.new.input c.level_limit.ensures
    c.new-input.ensures c.in-Ok.ensures))

pub returns-in-Ok-clause-too_deep_only : goal.returns-in-Ok-clause-too_deep_only
returns-in-Ok-clause-too_deep_only c = λ at deep.
    let bytes = c.args.bytes.now in
    not_deep bytes at c.in-Ok.e deep (is_markup bytes c.in-Ok.e c.document.new.input
    (found_at c.level_limit.result bytes c.new-input.result c.in-Ok.e c.document.new.input c.level_limit.ensures
    c.new-input.ensures c.in-Ok.ensures))

pub returns-in-Err-Unexpected-clause-only : goal.returns-in-Err-Unexpected-clause-only
returns-in-Err-Unexpected-clause-only c = λ e h.
    let bytes = c.args.bytes.now in
    let left = c.in-Err-Unexpected.left in
    absurd (not_markup bytes (length bytes - left) e (is_bad bytes left
    (refused_at c.level_limit.result bytes c.new-input.result c.in-Err-Unexpected.field-0
    (Unexpected left) c.level_limit.ensures c.new-input.ensures c.in-Err-Unexpected.field-0-is
    (λ h. cc) c.in-Err-Unexpected.ensures)) h)

pub returns-in-Err-Unexpected-clause-bad : goal.returns-in-Err-Unexpected-clause-bad
returns-in-Err-Unexpected-clause-bad c = λ at is.
    let bytes = c.args.bytes.now in
    let left = c.in-Err-Unexpected.left in
    let same : length bytes - left ≡ at = cc in
    subst (λ n. IsFirstBad Document limit bytes n) same (is_bad bytes left
    (refused_at c.level_limit.result bytes c.new-input.result c.in-Err-Unexpected.field-0
    (Unexpected left) c.level_limit.ensures c.new-input.ensures c.in-Err-Unexpected.field-0-is
    (λ h. cc) c.in-Err-Unexpected.ensures))

pub returns-in-Err-Unexpected-clause-bad_only : goal.returns-in-Err-Unexpected-clause-bad_only
returns-in-Err-Unexpected-clause-bad_only c = λ at bad.
    let bytes = c.args.bytes.now in
    let left = c.in-Err-Unexpected.left in
    inl (ap BadMarkup (same_offset bytes (length bytes - left) at
    (is_bad bytes left (refused_at c.level_limit.result bytes c.new-input.result c.in-Err-Unexpected.field-0
    (Unexpected left) c.level_limit.ensures c.new-input.ensures c.in-Err-Unexpected.field-0-is
    (λ h. cc) c.in-Err-Unexpected.ensures)) bad))

pub returns-in-Err-Unexpected-clause-too_deep_only : goal.returns-in-Err-Unexpected-clause-too_deep_only
returns-in-Err-Unexpected-clause-too_deep_only c = λ at deep.
    let bytes = c.args.bytes.now in
    let left = c.in-Err-Unexpected.left in
    absurd (one_kind bytes (length bytes - left) at (is_bad bytes left
    (refused_at c.level_limit.result bytes c.new-input.result c.in-Err-Unexpected.field-0
    (Unexpected left) c.level_limit.ensures c.new-input.ensures c.in-Err-Unexpected.field-0-is
    (λ h. cc) c.in-Err-Unexpected.ensures)) deep)

pub returns-in-Err-TooDeep-clause-only : goal.returns-in-Err-TooDeep-clause-only
returns-in-Err-TooDeep-clause-only c = λ e h.
    let bytes = c.args.bytes.now in
    let left = c.in-Err-TooDeep._left in
    absurd (not_deep bytes (length bytes - left) e (is_too_deep bytes left
    (refused_at c.level_limit.result bytes c.new-input.result c.in-Err-TooDeep.field-0
    (TooDeep left) c.level_limit.ensures c.new-input.ensures c.in-Err-TooDeep.field-0-is
    (λ h. cc) c.in-Err-TooDeep.ensures)) h)

pub returns-in-Err-TooDeep-clause-bad_only : goal.returns-in-Err-TooDeep-clause-bad_only
returns-in-Err-TooDeep-clause-bad_only c = λ at bad.
    let bytes = c.args.bytes.now in
    let left = c.in-Err-TooDeep._left in
    absurd (one_kind bytes at (length bytes - left) bad (is_too_deep bytes left
    (refused_at c.level_limit.result bytes c.new-input.result c.in-Err-TooDeep.field-0
    (TooDeep left) c.level_limit.ensures c.new-input.ensures c.in-Err-TooDeep.field-0-is
    (λ h. cc) c.in-Err-TooDeep.ensures)))

pub returns-in-Err-TooDeep-clause-too_deep : goal.returns-in-Err-TooDeep-clause-too_deep
returns-in-Err-TooDeep-clause-too_deep c = λ _.
    let bytes = c.args.bytes.now in
    let left = c.in-Err-TooDeep._left in (
      length bytes - left,
      is_too_deep bytes left (refused_at c.level_limit.result bytes c.new-input.result
          c.in-Err-TooDeep.field-0 (TooDeep left) c.level_limit.ensures c.new-input.ensures c.in-Err-TooDeep.field-0-is
          (λ h. cc) c.in-Err-TooDeep.ensures),
    )
