-- Out of memory may come in place of any failure of `tape` and `audit`.
use Rattle.std.proofs.Common.{◌≡◌, ℕ, List, [], length, Option, Result, Ok, Err, refl, sym, subst, arith, inl, inr}
use Rattle.std.proofs.KnownBytes.{Appends-nil}
use Rattle.std.proofs.lemmas.List.{take_all}
use Rattle.std.specs.Io.KnownBytes.{Appends}
use Rattle.dp_outside.specs.Streams.{AppendsFront}
use Rattle.dp_records.specs.declared.verdict.AuditError.{AuditError}
use Rattle.dp_records.specs.declared.verdict.Verdict.{Verdict}
use Rattle.dp_top.specs.declared.failures.Failure.{Failure}
use Rattle.dp_top.specs.declared.failures.Failure.TheVariants as failure
use Rattle.dp_top.specs.Records.{AuditEnds, AuditFails, EndsPrinted, IsUntold, TapeFails, verdict_text}
use Rattle.dp_top.specs.Seen.{Seen}
use Rattle.dp_words.specs.Words.{Invocation}

pub tape_starved : (failed : Failure) (name key : List ℕ) (ask : Invocation) (old new : Seen)
    → TapeFails failed name key ask old new → TapeFails failure.Memory name key ask old new
tape_starved failed name key ask old new (inl memory) = inl (refl, memory.1)
tape_starved failed name key ask old new (inr (inl u)) = inl (refl, inl u.idle)
tape_starved failed name key ask old new (inr (inr h)) = inl (refl, inr (h.end, h.is))

-- all of it is a front of it
whole_front : (old new : Option (List ℕ)) (bytes : List ℕ) → Appends old new bytes → AppendsFront old new bytes
whole_front old new bytes whole =
    (length bytes, subst (Appends old new) (sym (take_all (length bytes) bytes (omega arith))) whole)

-- nothing is a front of anything
pub none_front : (old new : Option (List ℕ)) (bytes : List ℕ) → new ≡ old → AppendsFront old new bytes
none_front old new bytes stays = (0, subst (λ (n : Option (List ℕ)). Appends old n []) (sym stays) (Appends-nil old))

untold : (failed : Failure) (key : List ℕ) (ask : Invocation) (result : Result Verdict AuditError) (old new : Seen)
    → AuditEnds failed key ask result old new → IsUntold key ask old new
untold failed key ask (Ok verdict) old new h = record {
  result = Ok verdict;
  is = h.0;
  printed = by h.1;
} where
  by : EndsPrinted failed verdict old new → AppendsFront old.out.told new.out.told (verdict_text verdict)
  by (inl lies) = whole_front old.out.told new.out.told (verdict_text verdict) lies.3
  by (inr output) = output.2
untold failed key ask (Err cause) old new h = record {
  result = Err cause;
  is = h.0;
  printed = h.2;
}

pub audit_starved : (failed : Failure) (name key : List ℕ) (ask : Invocation) (old new : Seen)
    → AuditFails failed name key ask old new → AuditFails failure.Memory name key ask old new
audit_starved failed name key ask old new (inl memory) = inl (refl, memory.1)
audit_starved failed name key ask old new (inr (inl u)) = inl (refl, inl u.idle)
audit_starved failed name key ask old new (inr (inr h)) =
    inl (refl, inr (untold failed key ask h.1.0 old new h.1.1))
