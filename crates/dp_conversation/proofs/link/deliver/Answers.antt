use Rattle.std.proofs.Common.{◌≡◌, true, false, refl, sym, ◌∙◌}
use Rattle.std.proofs.KnownBytes.{Appends-nil}
use Rattle.std.specs.Result.{is_err}
use Rattle.dp_conversation.proofs.FrontLaws.{failed_rose, past_none, put_failed, put_whole}
use Rattle.dp_conversation.proofs.link.deliver.Goals as goal

pub returns-then-is_err-clause-cut : goal.returns-then-is_err-clause-cut
returns-then-is_err-clause-cut g c =
    let failed : is_err c.put_unless_empty.result ≡ true = sym c.is_err.ensures.value ∙ c.if-is_err.true in
    record {
      sent = past_none _ _ _ (0, Appends-nil (g.K.Sink.taken c.args.sink.now));
      by = (
        failed_rose c.put_unless_empty.result _ _ failed c.put_unless_empty.ensures.cause,
        past_none _ _ _ (rw c.as_slice.ensures at (put_failed c.put_unless_empty.result _ _ _ failed
            c.put_unless_empty.ensures.taken)),
        Appends-nil (g.K.Sink.taken c.args.sink.now),
      );
    }

pub returns-in-Err-Failed-clause-cut : goal.returns-in-Err-Failed-clause-cut
returns-in-Err-Failed-clause-cut g c =
    let whole : is_err c.put_unless_empty.result ≡ false = sym c.is_err.ensures.value ∙ c.if-is_err.false in
    record {
      sent = past_none _ _ _ (rw c.as_slice-2.ensures at c.in-Err-Failed.ensures.taken);
      by = (
        (rw c.in-Err-Failed.field-0-is at c.in-Err-Failed.ensures.write) refl,
        refl,
        rw c.as_slice.ensures at (put_whole c.put_unless_empty.result _ _ _ whole c.put_unless_empty.ensures.taken),
      );
    }

pub returns-clause-cut : goal.returns-clause-cut
returns-clause-cut g c =
    let whole : is_err c.put_unless_empty.result ≡ false = sym c.is_err.ensures.value ∙ c.if-is_err.false in
    record {
      sent = past_none _ _ _ (rw c.as_slice-2.ensures at c.in-Err-Memory.ensures.taken);
      by = rw c.as_slice.ensures at (put_whole c.put_unless_empty.result _ _ _ whole c.put_unless_empty.ensures.taken);
    }
