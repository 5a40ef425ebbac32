-- What the engine sends, served alone, is whole packets: each text of a session, whatever bytes come, is one of a
-- packet.
use Rattle.std.proofs.Common.{◌≡◌, ℕ, ◌≤◌, Bool, true, false, if◌then◌else◌, List, [], ◌∷◌, ◌++◌, length, Option, Some, None, refl, ap, subst, ◌∙◌, arith, append_assoc, decimal, nat_le}
use Rattle.std.specs.Prelude.{◌&&◌, cond, is_some, option_and_then, option_map, IfSome, Result, Ok, Err}
use Rattle.std.specs.List.{AllByRecursion, flat_map}
use Rattle.std.specs.Option.{option_map_or}
use Rattle.std.specs.Str.Parse.{digits_value}
use Rattle.std.proofs.lemmas.Bool.{leb-true}
use Rattle.std.proofs.lemmas.Fmt.{length-decimal-le}
use Rattle.dp_bytes.specs.Decimals.{decimal_in, is_decimal}
use Rattle.dp_tree.specs.declared.bundle.Bundle.{Bundle}
use Rattle.dp_break.specs.Commands.{breakpoint_response}
use Rattle.dp_command.specs.declared.command.BreakpointAction.TheVariants.{Get, Remove}
use Rattle.dp_packet.specs.declared.error_codes.ErrorCode.{ErrorCode}
use Rattle.dp_packet.specs.declared.error_codes.ErrorCode.TheVariants.{UnimplementedCommand}
use Rattle.dp_packet.specs.declared.packet.Notify.{Notify}
use Rattle.dp_packet.specs.declared.packet.Response.{Response}
use Rattle.dp_view_commands.specs.Views.{view_response}
use Rattle.dp_command.specs.declared.command.Continuation.{Continuation}
use Rattle.dp_command.specs.declared.command.Finish.TheVariants.{Stop, Detach}
use Rattle.dp_command.specs.declared.command.Request.{Request}
use Rattle.dp_command.specs.declared.command.Request.TheVariants.{Session, Breakpoints, Look, Write}
use Rattle.dp_command.specs.declared.command.SessionRequest.{SessionRequest}
use Rattle.dp_command.specs.declared.command.SessionRequest.TheVariants as request
use Rattle.dp_command.specs.declared.command.BreakpointRequest.{BreakpointRequest}
use Rattle.dp_command.specs.declared.command.BreakpointRequest.TheVariants as asked
use Rattle.dp_command.specs.declared.command.LookRequest.{LookRequest}
use Rattle.dp_command.specs.declared.command.WriteRequest.{WriteRequest}
use Rattle.dp_command.specs.declared.command.Stream.TheVariants.{Stdout, Stderr}
use Rattle.dp_command.specs.declared.line.Line.{Line}
use Rattle.dp_command.specs.declared.names.CommandName.{CommandName}
use Rattle.dp_command.specs.Commands.{command_as, request_of}
use Rattle.dp_command.specs.Letters as letter
use Rattle.dp_command.specs.Lines.{line_of}
use Rattle.dp_command.specs.Names.{name_of}
use Rattle.dp_command.specs.Options.{given}
use Rattle.dp_command.specs.Refusals.{id_of, is_id, id_in as id_from}
use Rattle.dp_command.proofs.Decoded.{back_is, front_is}
use Rattle.dp_command.proofs.LineLaws.{line_found}
use Rattle.dp_command.proofs.Short.{values_short}
use Rattle.dp_features.specs.declared.feature.Feature.{Feature}
use Rattle.dp_features.specs.declared.feature.Feature.TheVariants.{Encoding, MultipleSessions, MaxChildren, MaxData, MaxDepth, ShowHidden, NotifyOk, ResolvedBreakpoints}
use Rattle.dp_features.specs.Features.{Features, feature_named, number_in, number_of, setting_named, value_of, with_number, resolves}
use Rattle.dp_meaning.specs.declared.writes.Write.{Write as ProgramWrite}
use Rattle.dp_packet.specs.Parts.{Text, flag}
use Rattle.dp_packet.specs.declared.packet.Packet.TheVariants as packet
use Rattle.dp_packet.proofs.LengthLaws.{bare_response_short, packet_some}
use Rattle.dp_conversation.specs.Folds.{Reply, unless_ended, replies}
use Rattle.dp_packet.specs.declared.packet.Body.TheVariants as body
use Rattle.dp_packet.specs.Packets.{HasMessage}
use Rattle.dp_packet.specs.Text.{text}
use Rattle.dp_wire.specs.Frames.{IsCommand, IsPacketText, packet_limit, command_frame, command_limit, commands_in, packet_frame, packets_in, rest_of}
use Rattle.dp_wire.proofs.PacketLaws.{packets-first}
use Rattle.dp_wire.proofs.SplitLaws.{commands_split}
use Rattle.dp_engine.specs.declared.session.SessionEnd.{SessionEnd}
use Rattle.dp_engine.specs.declared.states.Phase.{Phase}
use Rattle.dp_engine.specs.declared.states.Phase.TheVariants.{Starting, Break, Stopping}
use Rattle.dp_engine.specs.declared.states.Reason.{Reason}
use Rattle.dp_engine.specs.declared.states.Reason.TheVariants as reason
use Rattle.dp_engine.specs.Answers.{Turn, answer, command_in, continued, feature_answer, gone_on, id_in, in_packet, kept_if, moved, news, performed, response_in, session_done, set_by, state_response, turn, turn_by_command, turn_of}
use Rattle.dp_engine.specs.Refusals.{refusal_of_line}
use Rattle.dp_engine.specs.Responses.{init_text, main_name, response, response_text}
use Rattle.dp_engine.specs.Served.{alone, answers}
use Rattle.dp_session_laws.specs.AllOutput.{AreBytes}
use Rattle.dp_engine.specs.Session.{State, breaks_of, here, opening, program_of, stop_of, written_between}
use Rattle.dp_engine.specs.ShortLines.{IsShort, IsShortLine}
use Rattle.dp_engine.specs.inner.Sizes.{AreShortNames, Fits, IsShortRequest}
use Rattle.dp_engine.specs.States.{phase_name, reason_name}
use Rattle.dp_engine.proofs.ResponseSizes.{fault_fits, feature_fits_if, init_fits, request_short, set_fits, status_fits, success_fits}
use Rattle.dp_engine.proofs.StreamPackets.{both_texts, sent_texts}
use Rattle.dp_view_commands.proofs.Sent.{sent as shows}
use Rattle.dp_write_commands.specs.Requests.{requested_write}
use Rattle.dp_write_commands.specs.Responses.{write_response}
use Rattle.dp_write_commands.proofs.Sent.{sent as writes}

-- ---- lines

and_true : (a b : Bool) → (a && b) ≡ true → (a ≡ true) × (b ≡ true)
and_true true b e = (refl, e)
and_true false b e = absurd cc

id_short : (o : Option (List ℕ)) → length (id_from o) ≤ 64
id_short None = omega arith
id_short (Some value) = cases (is_id value) refl where
  cases : (b : Bool) → is_id value ≡ b → length (if b then value else []) ≤ 64
  cases true e =
      let most = (and_true (nat_le 1 (length value)) (nat_le (length value) 64) (and_true _ _ e).0).1 in leb-true
      (length value) 64 most
  cases false e = omega arith

raised : (options : List (ℕ × List ℕ)) (few most : ℕ) → few ≤ most
    → AllByRecursion (λ (o : ℕ × List ℕ). length o.1 ≤ few) options
    → AllByRecursion (λ (o : ℕ × List ℕ). length o.1 ≤ most) options
raised [] few most h all = tt
raised (o ∷ options) few most h all = (omega (arith, all.0, h), raised options few most h all.1)

-- a command, of bytes
record IsSpoken (bytes : List ℕ) : Type 0 where
  command : IsCommand bytes
  of_bytes : AreBytes bytes

line_short : (bytes : List ℕ) → IsSpoken bytes → (line : Option Line) → line_of bytes ≡ line → IsShortLine line
line_short bytes h None e = tt
line_short bytes h (Some line) e =
    let spelt = line_found bytes line h.of_bytes e in
    record {
      name = spelt.first.0.2;
      values = raised line.options (length bytes) command_limit h.command.fits (values_short bytes line spelt);
    }

name_short : (line : Option Line) → IsShortLine line → length (command_in line) ≤ 64
name_short None h = omega arith
name_short (Some line) h = h.name

line_id_short : (line : Option Line) → length (id_in line) ≤ 64
line_id_short None = omega arith
line_id_short (Some line) = id_short (given letter.i line.options)

-- ---- features

-- each number has at most seven digits
record AreSmall (features : Features) : Type 0 where
  multiple_sessions : features.multiple_sessions ≤ 1048576
  max_children : features.max_children ≤ 1048576
  max_data : features.max_data ≤ 1048576
  max_depth : features.max_depth ≤ 1048576
  show_hidden : features.show_hidden ≤ 1048576
  notify_ok : features.notify_ok ≤ 1048576
  resolved_breakpoints : features.resolved_breakpoints ≤ 1048576

with_small : (feature : Feature) (n : ℕ) (f : Features) → n ≤ 1048576 → AreSmall f → AreSmall (with_number feature n f)
with_small MultipleSessions n f p h =
    record {
      multiple_sessions = p;
      max_children = h.max_children;
      max_data = h.max_data;
      max_depth = h.max_depth;
      show_hidden = h.show_hidden;
      notify_ok = h.notify_ok;
      resolved_breakpoints = h.resolved_breakpoints;
    }
with_small MaxChildren n f p h =
    record {
      multiple_sessions = h.multiple_sessions;
      max_children = p;
      max_data = h.max_data;
      max_depth = h.max_depth;
      show_hidden = h.show_hidden;
      notify_ok = h.notify_ok;
      resolved_breakpoints = h.resolved_breakpoints;
    }
with_small MaxData n f p h =
    record {
      multiple_sessions = h.multiple_sessions;
      max_children = h.max_children;
      max_data = p;
      max_depth =
          h.max_depth;
      show_hidden = h.show_hidden;
      notify_ok = h.notify_ok;
      resolved_breakpoints = h.resolved_breakpoints;
    }
with_small MaxDepth n f p h =
    record {
      multiple_sessions = h.multiple_sessions;
      max_children = h.max_children;
      max_data = h.max_data;
      max_depth =
          p;
      show_hidden = h.show_hidden;
      notify_ok = h.notify_ok;
      resolved_breakpoints = h.resolved_breakpoints;
    }
with_small ShowHidden n f p h =
    record {
      multiple_sessions = h.multiple_sessions;
      max_children = h.max_children;
      max_data = h.max_data;
      max_depth =
          h.max_depth;
      show_hidden = p;
      notify_ok = h.notify_ok;
      resolved_breakpoints = h.resolved_breakpoints;
    }
with_small NotifyOk n f p h =
    record {
      multiple_sessions = h.multiple_sessions;
      max_children = h.max_children;
      max_data = h.max_data;
      max_depth =
          h.max_depth;
      show_hidden = h.show_hidden;
      notify_ok = p;
      resolved_breakpoints = h.resolved_breakpoints;
    }
with_small ResolvedBreakpoints n f p h =
    record {
      multiple_sessions = h.multiple_sessions;
      max_children = h.max_children;
      max_data = h.max_data;
      max_depth =
          h.max_depth;
      show_hidden = h.show_hidden;
      notify_ok = h.notify_ok;
      resolved_breakpoints = p;
    }
with_small feature n f p h = h

abbrev IsSmall : Option ℕ → Type 0
IsSmall None = Unit {0}
IsSmall (Some n) = n ≤ 1048576

decimal_small : (most : ℕ) (value : List ℕ) → most ≤ 1048576 → IsSmall (decimal_in most value)
unfolding decimal_in
decimal_small most value p = cases (is_decimal value && nat_le (digits_value 10 value) most) refl where
  cases : (b : Bool) → (is_decimal value && nat_le (digits_value 10 value) most) ≡ b
      → IsSmall (cond b (Some (digits_value 10 value)) None)
  cases true e =
      let le : digits_value 10 value ≤ most = leb-true (digits_value 10 value) most
      (and_true (is_decimal value) (nat_le (digits_value 10 value) most) e).1 in omega (arith, le, p)
  cases false e = tt

in_range_small : (value : List ℕ) (low most : ℕ) → most ≤ 1048576 → IsSmall (number_in value (low, most))
in_range_small value low most p = by (decimal_in most value) (decimal_small most value p) where
  by : (o : Option ℕ) → IsSmall o → IsSmall (option_and_then (λ n. if nat_le low n then Some n else None) o)
  by None h = tt
  by (Some n) h = cases (nat_le low n) where
    cases : (b : Bool) → IsSmall (if b then Some n else None)
    cases true = h
    cases false = tt

encoding_small : (b : Bool) → IsSmall (if b then Some 0 else None)
encoding_small true = omega arith
encoding_small false = tt

number_small : (feature : Feature) (value : List ℕ) → IsSmall (number_of feature value)
number_small Encoding value = encoding_small _
number_small MultipleSessions value = in_range_small value 0 1 (omega arith)
number_small MaxChildren value = in_range_small value 1 1048576 (omega arith)
number_small MaxData value = in_range_small value 0 1048576 (omega arith)
number_small MaxDepth value = in_range_small value 0 32 (omega arith)
number_small ShowHidden value = in_range_small value 0 1 (omega arith)
number_small NotifyOk value = in_range_small value 0 1 (omega arith)
number_small ResolvedBreakpoints value = in_range_small value 0 1 (omega arith)
number_small feature value = tt

set_small : (features : Features) (name value : List ℕ) → AreSmall features
    → AreSmall (set_by (setting_named name value) features)
set_small features name value h = named (feature_named name) where
  numbered : (feature : Feature) (n : Option ℕ) → IsSmall n
      → AreSmall (set_by (option_map (λ number. (feature, number)) n) features)
  numbered feature None p = h
  numbered feature (Some n) p = with_small feature n features p h

  named : (feature : Option Feature)
      → AreSmall (set_by (option_and_then (λ f. option_map (λ number. (f, number)) (number_of f value)) feature)
      features)
  named None = h
  named (Some feature) = numbered feature (number_of feature value) (number_small feature value)

digits_short : (n : ℕ) → n ≤ 1048576 → length (decimal n) ≤ 64
digits_short n p = let few = length-decimal-le 10 n (omega arith) (omega (arith, p)) (omega arith) in omega (arith, few)

value_short : (features : Features) (feature : Feature) → AreSmall features → length (value_of features feature) ≤ 64
value_short features MultipleSessions h = digits_short features.multiple_sessions h.multiple_sessions
value_short features MaxChildren h = digits_short features.max_children h.max_children
value_short features MaxData h = digits_short features.max_data h.max_data
value_short features MaxDepth h = digits_short features.max_depth h.max_depth
value_short features ShowHidden h = digits_short features.show_hidden h.show_hidden
value_short features NotifyOk h = digits_short features.notify_ok h.notify_ok
value_short features ResolvedBreakpoints h = digits_short features.resolved_breakpoints h.resolved_breakpoints
value_short features feature h = omega arith

told_short : (features : Features) (feature : Option Feature) → AreSmall features
    → IfSome (option_map (value_of features) feature) (λ text. length text ≤ 64)
told_short features None h = tt
told_short features (Some feature) h = value_short features feature h

flag_short : (b : Bool) → length (flag b) ≤ 16
flag_short true = omega arith
flag_short false = omega arith

-- ---- turns

phase_short : (p : Phase) → length (phase_name p) ≤ 16
phase_short Starting = omega arith
phase_short Break = omega arith
phase_short Stopping = omega arith

reason_short : (r : Reason) → length (reason_name r) ≤ 16
reason_short reason.Ok = omega arith
reason_short reason.Error = omega arith
reason_short reason.Aborted = omega arith

-- what a session is in, as far as sizes go: its features are short
record IsUsual (state : State) : Type 0 where
  small : AreSmall state.features

-- the turn sends texts of packets, and leaves the session as it is in that
record IsGood (t : Turn) : Type 0 where
  before : AllByRecursion IsPacketText (news t.before)
  fits : Fits t.response
  next : IsUsual t.next

module _ (command id : Text) (p : length command ≤ 64) (q : length id ≤ 64) (state : State) (h : IsUsual state) where
  gone_usual : (mode : Continuation) → IsUsual (gone_on mode state)
  gone_usual mode = by (stop_of mode state) where
    by : (stop : Option ℕ) → IsUsual (moved (record state { breaks = breaks_of mode state }) stop)
    by None = record { small = h.small }
    by (Some n) = record { small = h.small }

  tells : (s : State) → Fits (state_response command id s)
  tells s =
      status_fits command id p q (phase_name s.phase) (reason_name s.reason) (phase_short s.phase)
      (reason_short s.reason)

  continued_good : (mode : Continuation) (phase : Phase) → IsGood (continued command id mode phase state)
  continued_good mode Starting = record { before = tt; fits = tells (gone_on mode state); next = gone_usual mode }
  continued_good mode Break = record { before = tt; fits = tells (gone_on mode state); next = gone_usual mode }
  continued_good mode Stopping = record {
    before = tt;
    fits = status_fits command id p q _ _ (omega arith)
        (omega arith);
    next = h;
  }

  told_good : (name : Text) → length name ≤ 1048576 → Fits (feature_answer command id name state)
  told_good name few =
      feature_fits_if command id p q name _ _ few (flag_short
      (option_map_or (λ feature. true) (feature_named name) (is_some (name_of name))))
      (told_short state.features (feature_named name) h.small)

  session_good : (r : SessionRequest) → AreShortNames r → IsGood (session_done command id r state)
  session_good request.Status few = record { before = tt; fits = tells state; next = h }
  session_good (request.FeatureGet name) few = record { before = tt; fits = told_good name few; next = h }
  session_good (request.FeatureSet name value) few = record {
    before = tt;
    fits = set_fits command id p q name few;
    next = record { small = set_small state.features name value h.small };
  }
  session_good (request.Continue mode) few = continued_good mode state.phase
  session_good (request.Finish Stop) few =
      record { before = tt; fits = status_fits command id p q _ _ (omega arith) (omega arith); next = h }
  session_good (request.Finish Detach) few =
      record { before = tt; fits = status_fits command id p q _ _ (omega arith) (omega arith); next = h }
  session_good (request.Redirect Stdout mode) few =
      record { before = tt; fits = success_fits command id p q true; next = record { small = h.small } }
  session_good (request.Redirect Stderr mode) few = record {
    before = tt;
    fits = success_fits command id p q false;
    next
        = h;
  }

  -- a response to a breakpoint command
  breakpoint_known : (r : BreakpointRequest)
      → HasMessage (packet.Response (breakpoint_response (resolves state.features) state.bundle command id state.breaks
      r))
  breakpoint_known (asked.Set set) = refl
  breakpoint_known (asked.One Get number) = refl
  breakpoint_known (asked.One Remove number) = refl
  breakpoint_known (asked.Update update) = refl
  breakpoint_known asked.List = refl

  in_packet_fits : (r : Response) → HasMessage (packet.Response r) → Fits (in_packet command id r)
  unfolding response_text
  in_packet_fits r known = by (nat_le (length (text (packet.Response r))) packet_limit) refl where
    by : (b : Bool) → nat_le (length (text (packet.Response r))) packet_limit ≡ b
        → Fits (if b then r else response command id [] body.Nothing)
    by true e = record { known = known; short = leb-true (length (text (packet.Response r))) packet_limit e }
    by false e = record { known = refl; short = omega (arith, bare_response_short command id []) }

  news_fit : (n : Option Notify) → AllByRecursion IsPacketText (news n)
  news_fit None = tt
  news_fit (Some n) = by (nat_le (length (text (packet.Notify n))) packet_limit) refl where
    by : (b : Bool) → nat_le (length (text (packet.Notify n))) packet_limit ≡ b
        → AllByRecursion IsPacketText (if b then text (packet.Notify n) ∷ [] else [])
    by true e =
        let short = leb-true (length (text (packet.Notify n))) packet_limit e in (
          record { some_byte = packet_some (packet.Notify n); fits = short },
          tt,
        )
    by false e = tt

  shown_fits : (r : LookRequest) → (made : Result Response ErrorCode)
      → view_response state.bundle (here state) state.features (program_of state) command id r ≡ made
      → Fits (response_in command id made)
  unfolding response_text
  shown_fits r (Ok response) e =
      let sent = shows state.bundle (here state) state.features (program_of state) command id r response e in record
      { known = sent.known; short = sent.short }
  shown_fits r (Err code) e = fault_fits command id p q code

  -- the response to a write
  written_fits : (r : WriteRequest) → (made : Result Response ErrorCode)
      → write_response state.bundle state.features (program_of state) command id r ≡ made
      → Fits (response_in command id made)
  unfolding response_text
  written_fits r (Ok response) e =
      let sent = writes state.bundle state.features (program_of state) command id r p q response e in record
      { known = sent.known; short = sent.short }
  written_fits r (Err code) e = fault_fits command id p q code

  kept_usual : (told : Result Response ErrorCode) (asked : Result ProgramWrite ErrorCode)
      → IsUsual (kept_if told asked state)
  kept_usual (Ok r) (Ok w) = record { small = h.small }
  kept_usual (Ok r) (Err code) = h
  kept_usual (Err code) requested = h

  done_good : (r : Request) → IsShortRequest r → IsGood (performed command id r state)
  done_good (Session r) few = session_good r few
  done_good (Breakpoints r) few =
      record { before = news_fit _; fits = in_packet_fits _ (breakpoint_known r); next = record { small = h.small } }
  done_good (Look r) few = record { before = tt; fits = shown_fits r _ refl; next = h }
  done_good (Write r) few = record {
    before = tt;
    fits = written_fits r _ refl;
    next =
        kept_usual (write_response state.bundle state.features (program_of state) command id r)
        (requested_write (program_of state) r);
  }

module _ (state : State) (h : IsUsual state) where
  asked_good : (line : Line) → IsShort line → (name : Option CommandName)
      → ((n : CommandName) → name ≡ Some n → IsShortRequest (request_of n line))
      → IsGood (turn_by_command line.name (id_of line) (option_map (command_as line) name) state)
  asked_good line few None short =
      record {
        before = tt;
        fits = fault_fits line.name (id_of line) few.name (line_id_short (Some line)) UnimplementedCommand;
        next = h;
      }
  asked_good line few (Some name) short =
      done_good line.name (id_of line) few.name (line_id_short (Some line)) state h (request_of name line)
      (short name refl)

  turn_good : (line : Option Line) → IsShortLine line → (code : Option ErrorCode) → refusal_of_line state line ≡ code
      → IsGood (turn_of line code state)
  turn_good line few (Some code) e = record {
    before = tt;
    fits =
        fault_fits (command_in line) (id_in line) (name_short line few) (line_id_short line) code;
    next = h;
  }
  turn_good None few None e = absurd cc
  turn_good (Some line) few None e =
      asked_good line few (name_of line.name) (λ name n. request_short line name few)

  is_good : (bytes : List ℕ) → IsSpoken bytes → IsGood (turn state bytes)
  unfolding turn
  is_good bytes spoken =
      turn_good (line_of bytes) (line_short bytes spoken (line_of bytes) refl)
      (refusal_of_line state (line_of bytes)) refl

-- ---- all packets

fits_packet : (t : Turn) → Fits t.response → IsPacketText (response_text t.response)
unfolding response_text
fits_packet t fits = record { some_byte = packet_some (packet.Response t.response); fits = fits.short }

record SendsPackets (r : Reply State SessionEnd) : Type 0 where
  texts : AllByRecursion IsPacketText r.packets
  usual : IsUsual r.state

answer_sends : (state : State) (bytes : List ℕ) → IsUsual state → IsSpoken bytes → SendsPackets (answer state bytes)
unfolding answer
answer_sends state bytes h spoken =
    let good = is_good state h bytes spoken in
    record {
      texts =
          sent_texts state.stdout (written_between state (turn state bytes).next) (news (turn state bytes).before)
          (response_text (turn state bytes).response) good.before (fits_packet (turn state bytes) good.fits);
      usual = good.next;
    }

replies_send : (state : State) (lines : List (List ℕ)) → IsUsual state → AllByRecursion IsSpoken lines
    → SendsPackets (replies answer state lines)
replies_send state [] h each = record { texts = tt; usual = h }
replies_send state (line ∷ lines) h each =
    cases (answer state line).ended first (replies_send (answer state line).state lines first.usual each.1) where
      first : SendsPackets (answer state line)
      first = answer_sends state line h each.0

      rest : Reply State SessionEnd
      rest = replies answer (answer state line).state lines

      cases : (ended : Option SessionEnd) → SendsPackets (answer state line) → SendsPackets rest
          → SendsPackets (unless_ended ended (answer state line) rest)
      cases (Some end) one more = one
      cases None one more =
          record {
            texts = both_texts (answer state line).packets rest.packets one.texts more.texts;
            usual = more.usual;
          }

opening_usual : (bundle : Bundle) (bound : ℕ) → IsUsual (opening bundle bound)
opening_usual bundle bound = record {
  small =
      record {
        multiple_sessions = omega arith;
        max_children = omega arith;
        max_data = omega arith;
        max_depth = omega
            arith;
        show_hidden = omega arith;
        notify_ok = omega arith;
        resolved_breakpoints = omega arith;
      };
}

all_spoken : (lines : List (List ℕ)) (rest : List ℕ) → AreBytes (flat_map command_frame lines ++ rest)
    → AllByRecursion IsCommand lines → AllByRecursion IsSpoken lines
all_spoken [] rest b h = tt
all_spoken (line ∷ lines) rest b h =
    let front = front_is (command_frame line ++ flat_map command_frame lines) rest b in
    let back = back_is (command_frame line) (flat_map command_frame lines ++ rest)
    (subst AreBytes (append_assoc (command_frame line) (flat_map command_frame lines) rest) b) in (
      record {
        command = h.0;
        of_bytes = front_is line (0 ∷ [])
            (front_is (command_frame line) (flat_map command_frame lines) front);
      },
      all_spoken lines rest back h.1,
    )

frames_are : (texts : List (List ℕ)) → AllByRecursion IsPacketText texts
    → packets_in (flat_map packet_frame texts) ≡ texts
frames_are [] each = refl
frames_are (text ∷ texts) each =
    packets-first text (flat_map packet_frame texts) each.0
    ∙ ap (λ (l : List (List ℕ)). text ∷ l) (frames_are texts each.1)

pub whole_packets : (bundle : Bundle) (bound : ℕ) (key bytes : List ℕ) → AreBytes bytes → length key ≤ 128
    → length (main_name bundle) ≤ 255
    → packets_in (alone bundle bound key bytes) ≡ init_text bundle key ∷ (answers bundle bound bytes).packets
whole_packets bundle bound key bytes b p q =
    let split = commands_split bytes in
    let spoken = all_spoken (commands_in bytes) (rest_of bytes) (subst AreBytes split.whole b) split.each in
    let sends = replies_send (opening bundle bound) (commands_in bytes) (opening_usual bundle bound) spoken in
    frames_are (init_text bundle key ∷ (answers bundle bound bytes).packets) (init_fits bundle key p q, sends.texts)
