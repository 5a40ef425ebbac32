-- What stands where a fault has cut a session short.
use Rattle.std.proofs.Common.{◌≡◌, ◌≤◌, ℕ, List, [], ◌∷◌, ◌++◌, length, Option, None, refl, sym, ap, ◌∙◌, subst, arith, inl, inr, append_assoc}
use Rattle.std.specs.List.{flat_map}
use Rattle.std.specs.Io.KnownBytes.{Appends, Consumes}
use Rattle.std.proofs.KnownBytes.{Appends-nil, Appends-trans, Consumes-nil}
use Rattle.dp_outside.specs.Changes.{Change, change}
use Rattle.dp_outside.specs.Streams.{AppendsFront}
use Rattle.dp_wire.specs.Frames.{commands_in, packet_frame, IsPartialCommand}
use Rattle.dp_wire.proofs.NextLaws.{none_partial}
use Rattle.dp_conversation.specs.declared.link.Fault.{Fault}
use Rattle.dp_conversation.specs.declared.link.Fault.TheVariants.{Write, Out, Memory}
use Rattle.dp_conversation.specs.Deliveries.{CutsAnswer, SendFault}
use Rattle.dp_conversation.specs.inner.Exchanges.{Reached, CutsShort, Conversation}
use Rattle.dp_conversation.specs.declared.responder.Answer.{Answer}
use Rattle.dp_conversation.specs.Folds.{Reply, nothing_sent, replies, reply_of}
use Rattle.dp_conversation.specs.Service.{ConversationCutBy, IsConversationCut, IsLeftIn, IsReadUpTo, SendsPast, byte_limit, piece_limit}
use Rattle.dp_conversation.proofs.EndLaws.{read_behind}
use Rattle.dp_conversation.proofs.FrontLaws.{past_after, past_same}
use Rattle.dp_conversation.proofs.ServiceLaws.{Joins, replies_join, replies_one, taken_all, talk_fed}

module _ {S E X Y : Type 0} (step : S → List ℕ → Reply S E) (told : X → Option (List ℕ)) (faults : X → ℕ)
    (prints : Y → Option (List ℕ)) (fails : Y → ℕ) where
  -- the state after a fault is that of the reply to the commands taken
  left_in : (fault : Fault E) (after state : S) → after ≡ state → IsLeftIn fault after state
  left_in (Write ended) after state same = same
  left_in Out after state same = same
  left_in Memory after state same = tt

  left_joined : (fault : Fault E) (all after state : S) → all ≡ after → IsLeftIn fault after state
      → IsLeftIn fault all state
  left_joined (Write ended) all after state same is = same ∙ is
  left_joined Out all after state same is = same ∙ is
  left_joined Memory all after state same is = tt

  -- no command was taken
  pub cut_before : (start now : S) (lines : List (List ℕ)) (x : X) (y : Y)
      → CutsShort step start now lines Memory (change told faults x x) (change prints fails y y)
  cut_before start now lines x y = record {
    done = [];
    last = [];
    later = lines;
    first = refl;
    one = omega arith;
    goes_on = refl;
    sent = (0, omega arith, Appends-nil (told x));
    is_state = tt;
    by = Appends-nil (prints y);
  }

  -- the fault came while the reply to this command went out
  pub cut_within : (start : S) (line : List ℕ) (reply : Reply S E) (fault : Fault E) (sink out : Change)
      → reply ≡ step start line
      → SendsPast [] (nothing_sent start) reply sink
      → ConversationCutBy fault [] (nothing_sent start) reply sink out
      → CutsShort step start reply.state (line ∷ []) fault sink out
  cut_within start line reply fault sink out is sent by =
      let one : reply ≡ replies step start (line ∷ []) = is ∙ sym (replies_one step start line) in
      record {
        done = [];
        last = line ∷ [];
        later = [];
        first = refl;
        one = omega arith;
        goes_on = refl;
        sent = subst (λ (r : Reply S E). SendsPast [] (nothing_sent start) r sink) one sent;
        is_state = left_in fault _ _ (ap (λ (r : Reply S E). r.state) (sym one));
        by = subst (λ (r : Reply S E). ConversationCutBy fault [] (nothing_sent start) r sink out) one by;
      }

  -- what a fault leaves of an answer says nothing of the state
  by_any : {A : Type 0} (a : A) (start state : S) (answer : Answer E) (fault : Fault E) (sink out : Change)
      → ConversationCutBy fault [] (nothing_sent a) (reply_of answer a) sink out
      → ConversationCutBy fault [] (nothing_sent start) (reply_of answer state) sink out
  by_any a start state answer (Write ended) sink out c = c
  by_any a start state answer Out sink out c = c
  by_any a start state answer Memory sink out c = c

  -- the fault came while the answer to this command went out
  pub cut_answer : (start state : S) (line : List ℕ) (answer : Answer E) (fault : Fault E) (sink out : Change)
      → reply_of answer state ≡ step start line
      → CutsAnswer answer fault sink out → CutsShort step start state (line ∷ []) fault sink out
  cut_answer start state line answer fault sink out is c =
      cut_within start line (reply_of answer state) fault sink out is c.sent
      (by_any {A = ℕ} 0 start state answer fault sink out c.by)

  -- What a fault leaves of the reply to the last commands, it leaves of the whole. So many bytes went out before.
  packets_joined : (before : List ℕ) (first next all : Reply S E) → Joins first next all
      → before ++ flat_map packet_frame all.packets
      ≡ (before ++ flat_map packet_frame first.packets) ++ flat_map packet_frame next.packets
  packets_joined before first next all j =
      ap (λ l. before ++ l) j.packets
      ∙ sym (append_assoc before (flat_map packet_frame first.packets) (flat_map packet_frame next.packets))

  sends_joined : (before : List ℕ) (first done all more_done more_all : Reply S E) (x0 x1 x2 : X)
      → Joins first done more_done → Joins first all more_all
      → Appends (told x0) (told x1) (before ++ flat_map packet_frame first.packets)
      → SendsPast [] done all (change told faults x1 x2)
      → SendsPast before more_done more_all (change told faults x0 x2)
  sends_joined before first done all more_done more_all x0 x1 x2 d a sent c =
      past_same (told x0) (told x2) _ _ _ _ (packets_joined before first done more_done d)
      (packets_joined before first all more_all a)
      (past_after (told x0) (told x1) (told x2) _ (flat_map packet_frame done.packets)
      (flat_map packet_frame all.packets) sent c)

  by_joined : (fault : Fault E) (before : List ℕ) (first done all more_done more_all : Reply S E) (x0 x1 x2 : X)
      (y0 y1 y2 : Y)
      → Joins first done more_done → Joins first all more_all
      → faults x0 ≤ faults x1 → fails y0 ≤ fails y1
      → Appends (told x0) (told x1) (before ++ flat_map packet_frame first.packets)
      → Appends (prints y0) (prints y1) first.program
      → ConversationCutBy fault [] done all (change told faults x1 x2) (change prints fails y1 y2)
      → ConversationCutBy fault before more_done more_all (change told faults x0 x2) (change prints fails y0 y2)
  by_joined (Write ended) before first done all more_done more_all x0 x1 x2 y0 y1 y2 d a x_later y_later sent printed
      c = (
        omega (arith, c.0),
        c.1 ∙ sym a.ended,
        subst (Appends (prints y0) (prints y2)) (sym a.program)
            (Appends-trans (prints y0) (prints y1) (prints y2) first.program all.program printed c.2),
      )
  by_joined Out before first done all more_done more_all x0 x1 x2 y0 y1 y2 d a x_later y_later sent printed c = (
    omega (arith, c.0),
    past_same (prints y0) (prints y2) _ _ _ _ d.program a.program
        (past_after (prints y0) (prints y1) (prints y2) first.program done.program all.program printed c.1),
    subst (Appends (told x0) (told x2)) (sym (packets_joined before first done more_done d))
        (Appends-trans (told x0) (told x1) (told x2) (before ++ flat_map packet_frame first.packets)
        (flat_map packet_frame done.packets) sent c.2),
  )
  by_joined Memory before first done all more_done more_all x0 x1 x2 y0 y1 y2 d a x_later y_later sent printed c =
      subst (Appends (prints y0) (prints y2)) (sym a.program)
      (Appends-trans (prints y0) (prints y1) (prints y2) first.program all.program printed c)

  -- the reply to all commands, the last of which is told by itself
  joins_all : (start state : S) (taken done last : List (List ℕ)) → (replies step start taken).ended ≡ None
      → (replies step start taken).state ≡ state
      → Joins (replies step start taken) (replies step state (done ++ last)) (replies step start
      ((taken ++ done) ++ last))
  joins_all start state taken done last goes_on is_state =
      subst (λ (l : List (List ℕ)). Joins (replies step start taken) (replies step state (done ++ last))
      (replies step start l)) (sym (append_assoc taken done last))
      (replies_join step start state taken (done ++ last) goes_on is_state)

  all_lines : (taken done last later others : List (List ℕ))
      → taken ++ (((done ++ last) ++ later) ++ others) ≡ ((taken ++ done) ++ last) ++ (later ++ others)
  all_lines taken done last later others =
      ap (λ l. taken ++ l) (append_assoc (done ++ last) later others)
      ∙ sym (append_assoc taken (done ++ last) (later ++ others))
      ∙ ap (λ l. l ++ (later ++ others)) (sym (append_assoc taken done last))

  -- first commands were answered whole
  pub cut_after : (start state now : S) (bytes held : List ℕ) (lines others : List (List ℕ)) (fault : Fault E)
      (x0 x1 x2 : X) (y0 y1 y2 : Y)
      → (r : Reached step start state bytes held (change told faults x0 x1) (change prints fails y0 y1))
      → (replies step start r.taken).ended ≡ None → commands_in held ≡ lines ++ others
      → faults x0 ≤ faults x1 → fails y0 ≤ fails y1
      → CutsShort step state now lines fault (change told faults x1 x2) (change prints fails y1 y2)
      → CutsShort step start now (commands_in bytes) fault (change told faults x0 x2) (change prints fails y0 y2)
  cut_after start state now bytes held lines others fault x0 x1 x2 y0 y1 y2 r goes_on comes x_later y_later c =
      let d = replies_join step start state r.taken c.done goes_on r.is_state in
      let a = joins_all start state r.taken c.done c.last goes_on r.is_state in
      record {
        done = r.taken ++ c.done;
        last = c.last;
        later = c.later ++ others;
        first =
            taken_all bytes held r.taken r.place
            ∙ ap (λ l. r.taken ++ l) (comes ∙ ap (λ l. l ++ others) c.first)
            ∙ all_lines r.taken c.done c.last c.later others;
        one = c.one;
        goes_on = d.ended ∙ c.goes_on;
        sent = sends_joined [] (replies step start r.taken) _ _ _ _ x0 x1 x2 d a r.delivers.sent c.sent;
        is_state = left_joined fault _ _ now a.state c.is_state;
        by =
            by_joined fault [] (replies step start r.taken) _ _ _ _ x0 x1 x2 y0 y1 y2 d a x_later y_later
            r.delivers.sent r.delivers.printed c.by;
      }

  -- the same over the link
  pub talk_cut : (start state now : S) (init read held : List ℕ) (fault : Fault E) (source : Change) (x0 x1 x2 : X)
      (y0 y1 y2 : Y)
      → (talk : Conversation step start state init read held source (change told faults x0 x1)
      (change prints fails y0 y1)) → (replies step start talk.taken).ended ≡ None
      → length read ≤ byte_limit → (up_to : IsReadUpTo step start piece_limit read)
      → talk.taken ≡ commands_in up_to.front → faults x0 ≤ faults x1 → fails y0 ≤ fails y1
      → CutsShort step state now (commands_in held) fault (change told faults x1 x2) (change prints fails y1 y2)
      → IsConversationCut step start now init fault source (change told faults x0 x2) (change prints fails y0 y2)
  talk_cut start state now init read held fault source x0 x1 x2 y0 y1 y2 talk goes_on within up_to before x_later
      y_later c =
      let d = replies_join step start state talk.taken c.done goes_on talk.is_state in
      let a = joins_all start state talk.taken c.done c.last goes_on talk.is_state in
      record {
        read = read;
        within = within;
        up_to = up_to;
        consumed = talk.consumed;
        done = talk.taken ++ c.done;
        last = c.last;
        later = c.later;
        first =
            taken_all read held talk.taken talk.place ∙ ap (λ l. talk.taken ++ l) c.first
            ∙ sym (append_assoc talk.taken (c.done ++ c.last) c.later)
            ∙ ap (λ l. l ++ c.later) (sym (append_assoc talk.taken c.done c.last));
        one = c.one;
        lately = c.done;
        behind = ap (λ l. l ++ c.done) before;
        goes_on = d.ended ∙ c.goes_on;
        sent =
            inr (sends_joined (packet_frame init) (replies step start talk.taken) _ _ _ _ x0 x1 x2 d a talk.sent
            c.sent);
        is_state = left_joined fault _ _ now a.state c.is_state;
        by =
            by_joined fault (packet_frame init) (replies step start talk.taken) _ _ _ _ x0 x1 x2 y0 y1 y2 d a x_later
            y_later talk.sent talk.printed c.by;
      }

  module _ {W : Type 0} (left : W → Option (List ℕ)) (breaks : W → ℕ) where
    -- the first packet was not sent
    pub cut_at_start : (start : S) (init : List ℕ) (fault : Fault E) (w : W) (x0 x1 : X) (y : Y)
        → AppendsFront (told x0) (told x1) (packet_frame init) → SendFault fault (change told faults x0 x1)
        → IsConversationCut step start start init fault (change left breaks w w) (change told faults x0 x1)
        (change prints fails y y)
    cut_at_start start init fault w x0 x1 y front why = record {
      read = [];
      within = omega arith;
      up_to =
          record {
            front = [];
            piece = [];
            whole = refl;
            short = omega arith;
            goes_on = refl;
            partial = none_partial [] refl (omega arith);
          };
      consumed = Consumes-nil (left w);
      done = [];
      last = [];
      later = [];
      first = refl;
      one = omega arith;
      lately = [];
      behind = refl;
      goes_on = refl;
      sent = inl (refl, front);
      is_state = left_in fault start start refl;
      by = by fault why;
    } where
      by : (fault : Fault E) → SendFault fault (change told faults x0 x1)
          → ConversationCutBy fault (packet_frame init) (replies step start []) (replies step start [])
          (change told faults x0 x1) (change prints fails y y)
      by (Write ended) why = (why.0, why.1, Appends-nil (prints y))
      by Out why = absurd why
      by Memory why = Appends-nil (prints y)

    -- a piece was read, and memory ran out before it was held
    pub cut_reading : (start state : S) (init read held piece : List ℕ) (w0 w1 w2 : W) (x0 x1 : X) (y0 y1 : Y)
        → (talk : Conversation step start state init read held (change left breaks w0 w1) (change told faults x0 x1)
        (change prints fails y0 y1)) → (replies step start talk.taken).ended ≡ None
        → IsPartialCommand held → length (read ++ piece) ≤ byte_limit → length piece ≤ piece_limit
        → Consumes (left w1) (left w2) piece → faults x0 ≤ faults x1 → fails y0 ≤ fails y1
        → IsConversationCut step start state init Memory (change left breaks w0 w2) (change told faults x0 x1)
        (change prints fails y0 y1)
    cut_reading start state init read held piece w0 w1 w2 x0 x1 y0 y1 talk goes_on partial within short came x_later
        y_later =
        let up_to = read_behind step start read held piece talk.taken talk.place goes_on partial short in
        let fed = talk_fed step left breaks told faults prints fails start state init read held piece
        (held ++ piece) w0 w1 w2 (change told faults x0 x1) (change prints fails y0 y1) talk came refl in
        talk_cut start state state init (read ++ piece) (held ++ piece) Memory
        (change left breaks w0 w2) x0 x1 x1 y0 y1 y1 fed.0
        (ap (λ (l : List (List ℕ)). (replies step start l).ended) fed.1 ∙ goes_on) within up_to.0 (fed.1 ∙ up_to.1)
        x_later y_later
        (cut_before state state (commands_in (held ++ piece)) x1 y1)

    -- a piece was read, and a fault came while the commands then held were answered
    pub cut_answering : (start state now : S) (init read held fed piece : List ℕ) (fault : Fault E) (w0 w1 w2 : W)
        (x0 x1 x2 : X) (y0 y1 y2 : Y)
        → (talk : Conversation step start state init read held (change left breaks w0 w1) (change told faults x0 x1)
        (change prints fails y0 y1)) → (replies step start talk.taken).ended ≡ None
        → IsPartialCommand held → length (read ++ piece) ≤ byte_limit → length piece ≤ piece_limit
        → Consumes (left w1) (left w2) piece → fed ≡ held ++ piece → faults x0 ≤ faults x1 → fails y0 ≤ fails y1
        → CutsShort step state now (commands_in fed) fault (change told faults x1 x2) (change prints fails y1 y2)
        → IsConversationCut step start now init fault (change left breaks w0 w2) (change told faults x0 x2)
        (change prints fails y0 y2)
    cut_answering start state now init read held fed piece fault w0 w1 w2 x0 x1 x2 y0 y1 y2 talk goes_on partial
        within short came is_fed x_later y_later c =
        let up_to = read_behind step start read held piece talk.taken talk.place goes_on partial short in
        let more = talk_fed step left breaks told faults prints fails start state init read held piece fed w0 w1 w2
        (change told faults x0 x1) (change prints fails y0 y1) talk came is_fed in
        talk_cut start state now init (read ++ piece) fed fault (change left breaks w0 w2) x0 x1 x2 y0 y1 y2 more.0
        (ap (λ (l : List (List ℕ)). (replies step start l).ended) more.1 ∙ goes_on) within up_to.0 (more.1 ∙ up_to.1)
        x_later y_later c
