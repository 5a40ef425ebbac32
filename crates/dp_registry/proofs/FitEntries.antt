-- Entries that are fit, and calls that are answered by the journal.
use Rattle.std.proofs.Common.{◌≡◌, ◌==◌, ◌||◌, ℕ, ◌+◌, nat_lt, Bool, true, false, List, length, Option, Some, refl, sym}
use Rattle.std.proofs.Common.{ap, ◌∙◌, arith}
use Rattle.std.proofs.lemmas.Bool.Decides.{nat_tests}
use Rattle.dp_registry.specs.declared.entry.Entry.{Entry}
use Rattle.dp_registry.specs.declared.entry.Entry.TheVariants.{Register, Stop, Admit}
use Rattle.dp_registry.specs.declared.entry.AdmitReply.{AdmitReply}
use Rattle.dp_registry.specs.declared.entry.AdmitReply.TheVariants as admission
use Rattle.dp_registry.specs.Journal.{holder, live, live_under, next_session}
use Rattle.dp_registry.specs.Legal.{IsFit}
use Rattle.dp_outside.specs.Names.{IsHost, IsKey}
use Rattle.dp_registry.specs.Verdicts.{is_full, is_crowded, registering, stopping, admitting, register_verdict}
use Rattle.dp_registry.specs.Verdicts.{stop_verdict, admit_verdict, reply_of, admit_reply_of, load, most_entries}
use Rattle.dp_registry.specs.Verdicts.{most_live}
use Rattle.dp_registry.specs.inner.Answered.{registered, stopped, admitted}

module _ (j : List Entry) (key : List ℕ) where
  pub register_free : (host : List ℕ) (port : ℕ) → is_full j ≡ false →
      register_verdict j host port key ≡ registering (holder j key) host port
  register_free host port free = rw free refl

  pub stop_free : (host : List ℕ) → is_full j ≡ false → stop_verdict j host key ≡ stopping (holder j key) host
  stop_free host free = rw free refl

  pub admit_free : is_crowded j ≡ false → admit_verdict j key ≡ admitting (holder j key) (live_under key j)
      (next_session j)
  admit_free free = rw free refl

  pub registers : (host : List ℕ) (port : ℕ) (multiple : Bool) (taken : Option (List ℕ × ℕ)) (reply : ℕ) →
      IsHost host → IsKey key → is_full j ≡ false →
      registered taken ≡ registering (holder j key) host port → reply_of (registered taken) ≡ Some reply →
      IsFit j (Register host port key multiple reply)
  registers host port multiple taken reply is_host is_key free is says =
      (is_host, is_key, ap reply_of (register_free host port free ∙ sym is) ∙ says)

  pub stops : (host : List ℕ) (holds : Option Bool) (reply : ℕ) → IsHost host → IsKey key → is_full j ≡ false →
      stopped holds ≡ stopping (holder j key) host → reply_of (stopped holds) ≡ Some reply →
      IsFit j (Stop host key reply)
  stops host holds reply is_host is_key free is says = (
    is_host,
    is_key,
    ap reply_of (stop_free host free
        ∙ sym is) ∙ says,
  )

  said : (reply : AdmitReply) → admit_reply_of (admitted reply) ≡ Some reply
  said (admission.Given session host port) = refl
  said admission.Unknown = refl
  said (admission.Busy session) = refl

  pub admits : (reply : AdmitReply) → IsKey key → is_crowded j ≡ false →
      admitted reply ≡ admitting (holder j key) (live_under key j) (next_session j) → IsFit j (Admit key reply)
  admits reply is_key free is = (is_key, ap admit_reply_of (admit_free free ∙ sym is) ∙ said reply)

or_left : (a b : Bool) → (a || b) ≡ false → a ≡ false
or_left true b h = h
or_left false b h = refl

-- where a session has room, an entry has
pub not_full : (j : List Entry) → is_crowded j ≡ false → is_full j ≡ false
not_full j free =
    let h : nat_lt most_entries (load j + 2) ≡ false =
    or_left (nat_lt most_entries (load j + 2)) (length (live j) == most_live) free in
    grind (arith, nat_tests)
