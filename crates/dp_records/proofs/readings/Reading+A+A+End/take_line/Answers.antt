use Rattle.std.proofs.Common.{refl, sym, ◌∙◌, subst}
use Rattle.dp_records.specs.inner.Readings.{IsNoLine}
use Rattle.dp_records.proofs.ReadingLaws.{halts_differs, halts_none, halts_too_much, takes_entry}
use Rattle.dp_records.proofs.readings.Reading+A+A+End.take_line.Goals as goal

pub returns-in-None : goal.returns-in-None
returns-in-None g c = λ start init bytes behind is_more h.
    let now = c.args.self.now in
    halts_none g.A.Responder.step start init bytes behind now now h refl
    (subst IsNoLine c.as_slice.ensures.value (rw c.in-None.is at c.in_ok-line_in.ensures))

pub returns-in-Differs : goal.returns-in-Differs
returns-in-Differs g c = λ start init bytes behind is_more h.
    let now = c.args.self.now in
    let some = rw c.in-Some-Reported.is at c.in_ok-line_in.ensures in
    let said = rw c.in-Some-Reported.field-0-is at some in
    let fit = rw c.in-Differs.is at c.in_ok-take-in-Some-Reported.ensures in
    halts_differs g.A.Responder.step start init bytes behind now now h refl c.in-Some-Reported.entry
    (sym c.as_slice.ensures.value ∙ said.0) (fit start init h.entries h.audit)

pub returns-in-TooMuch : goal.returns-in-TooMuch
returns-in-TooMuch g c = λ start init bytes behind is_more h.
    let now = c.args.self.now in
    let some = rw c.in-Some-Reported.is at c.in_ok-line_in.ensures in
    let said = rw c.in-Some-Reported.field-0-is at some in
    let fit = rw c.in-TooMuch.is at c.in_ok-take-in-Some-Reported.ensures in
    halts_too_much g.A.Responder.step start init bytes behind now now h refl c.in-Some-Reported.entry
    (sym c.as_slice.ensures.value ∙ said.0) said.1 (fit start init h.entries h.audit)

pub returns-in_ok-self-in-Fits : goal.returns-in_ok-self-in-Fits
returns-in_ok-self-in-Fits g c = λ start init bytes behind is_more h.
    let now = c.args.self.now in
    let some = rw c.in-Some-Reported.is at c.in_ok-line_in.ensures in
    let said = rw c.in-Some-Reported.field-0-is at some in
    let fit = rw c.in-Fits.is at c.in_ok-take-in-Some-Reported.ensures in
    takes_entry g.A.Responder.step start init bytes now _ h c.in-Some-Reported.entry
    (sym c.as_slice.ensures.value ∙ said.0) (fit start init h.entries h.audit) c.clear.ensures.items
    (rw c.in_ok-self-in-Fits.ensures.ok_part at c.checked_add.ensures).1
