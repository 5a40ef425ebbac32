-- What a registration does to the books of its clerk.
use Rattle.std.proofs.Common.{◌≡◌, ℕ, ◌+◌, List, Option, Some, None, Result, Ok, Err, ap, ◌∙◌, inl, inr, arith}
use Rattle.dp_packet.specs.declared.packet.ProxyReply.{ProxyReply}
use Rattle.dp_registry.specs.declared.entry.Entry.{Entry}
use Rattle.dp_registry.specs.Verdicts.{reply_of}
use Rattle.dp_desk.specs.Desks.{Known, Entered}
use Rattle.dp_desk.specs.Made.{Made, made, plus}
use Rattle.dp_proxy.specs.declared.calls.Call.{Call}
use Rattle.dp_proxy.specs.declared.calls.Call.TheVariants.{Register, Stop}
use Rattle.dp_proxy.specs.Calls.{call_of}
use Rattle.dp_proxy.specs.Replies.{entry_of, verdict_on}
use Rattle.dp_wire.specs.Frames.{up_to_nul}
use Rattle.dp_relay.specs.declared.errors.RelayError.{RelayError}
use Rattle.dp_relay.specs.declared.errors.RelayError.TheVariants.{ReadFault, WriteFault, TooLong, Memory}
use Rattle.dp_relay.specs.Ends.{Ends}
use Rattle.dp_relay.specs.Registrations.{Came, MadeOne, Noted, Unnoted, Unanswered, Registered}

pub plus_none : (m : Made) → plus m (made 0 0 0) ≡ m
plus_none m =
    let r : m.registers + 0 ≡ m.registers = omega arith in
    let a : m.admits + 0 ≡ m.admits = omega arith in
    let d : m.dismissals + 0 ≡ m.dismissals = omega arith in
    ap (λ n. made n (m.admits + 0) (m.dismissals + 0)) r ∙ ap (λ n. made m.registers n (m.dismissals + 0)) a
    ∙ ap (λ n. made m.registers m.admits n) d

module _ (v w : Known) (host : List ℕ) where
  unchanged : w ≡ v → MadeOne v w
  unchanged same =
      record {
        desk = ap (λ (k : Known). k.desk) same;
        held = ap (λ (k : Known). k.held) same;
        share = ap (λ (k : Known). k.share) same;
        made = inl (ap (λ (k : Known). k.made) same);
      }

  entered : (at : List Entry) (call : Call) (reply : Option ℕ) → Entered v at (entry_of host call) reply w → MadeOne v w
  entered at (Register port key multiple) None e =
      record { desk = e.desk; held = e.held; share = e.share; made = inl (e.made ∙ plus_none v.made) }
  entered at (Register port key multiple) (Some n) e =
      record { desk = e.desk; held = e.held; share = e.share; made = inr e.made }
  entered at (Stop key) None e =
      record { desk = e.desk; held = e.held; share = e.share; made = inl (e.made ∙ plus_none v.made) }
  entered at (Stop key) (Some n) e =
      record { desk = e.desk; held = e.held; share = e.share; made = inr e.made }

  noted : (at : List Entry) (call : Option Call) → Noted v at host call w → MadeOne v w
  noted at None n = unchanged n.1
  noted at (Some call) n = entered at call (reply_of (verdict_on at host call)) n

  unnoted : (at : List Entry) (call : Option Call) → Unnoted v at host call w → MadeOne v w
  unnoted at None n = unchanged n
  unnoted at (Some call) n = entered at call None n

  unanswered : (command : List ℕ) → Unanswered v w host command → MadeOne v w
  unanswered command u = elim u [
    | inl same ↦ unchanged same
    | inr found ↦ elim found.1 [
      | inl none ↦ unnoted found.0 (call_of command) none
      | inr one ↦ noted found.0 (call_of command) one
    ]
  ]

  came : (x y : Ends) (read : List ℕ) (result : Result ProxyReply RelayError) → Came v w host x y read result
      → MadeOne v w
  came x y read (Ok answer) c = noted c.2.0.at (call_of (up_to_nul read)) c.2.0.noted
  came x y read (Err WriteFault) c = noted c.2.0.2.at (call_of (up_to_nul read)) c.2.0.2.noted
  came x y read (Err Memory) c = unanswered (up_to_nul read) c.2.0
  came x y read (Err TooLong) c = unchanged c.2
  came x y read (Err ReadFault) c = unchanged c.2

  pub makes_one : (x y : Ends) (result : Result ProxyReply RelayError) → Registered v w host x y result → MadeOne v w
  makes_one x y result r = came x y r.read result r.came
