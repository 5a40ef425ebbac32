-- What a session over a link has come to, one command and one piece at a time.
use Rattle.std.proofs.Common.{◌≡◌, ℕ, List, [], ◌∷◌, ◌++◌, Option, None, Some, refl, sym, ap, ◌∙◌, subst, append_assoc, append-nil}
use Rattle.std.specs.List.{flat_map, AllByRecursion}
use Rattle.std.specs.Io.KnownBytes.{Appends, Consumes, Keeps}
use Rattle.std.proofs.KnownBytes.{Appends-nil, Appends-trans, Consumes-nil, Consumes-trans, Consumes-kept}
use Rattle.std.proofs.lemmas.List.Concat.{flat_map-append}
use Rattle.dp_outside.specs.Changes.{Change, change}
use Rattle.dp_wire.specs.Frames.{IsCommand, command_frame, commands_in, packet_frame, BeginsCommand}
use Rattle.dp_wire.proofs.FrameLaws.{commands-text}
use Rattle.dp_wire.proofs.SplitLaws.{framed}
use Rattle.dp_conversation.specs.Deliveries.{DeliversAnswer}
use Rattle.dp_conversation.specs.inner.Exchanges.{HasTaken, Delivers, Reached, Conversation}
use Rattle.dp_conversation.specs.declared.responder.Answer.{Answer}
use Rattle.dp_conversation.specs.Folds.{Reply, nothing_sent, unless_ended, followed, replies, reply_of}

-- ---- replies

module _ {S E : Type 0} where
  abbrev pub reply : List (List ℕ) → List ℕ → S → Option E → Reply S E
  reply packets program state ended = record { packets = packets; program = program; state = state; ended = ended }

  -- what follows the second of two replies follows both
  pub follows : (ps : List (List ℕ)) (bs : List ℕ) (s : S) (ended : Option E) (b : Reply S E) (rest : S → Reply S E)
      → followed (reply ps bs s ended) (followed b (rest b.state)) ≡ followed (followed (reply ps bs s ended) b)
      (rest (followed (reply ps bs s ended) b).state)
  follows ps bs s (Some e) b rest = refl
  follows ps bs s None b rest = by b.packets b.program b.state b.ended where
    by : (qs : List (List ℕ)) (cs : List ℕ) (t : S) (ends : Option E)
        → followed (reply ps bs s None) (followed (reply qs cs t ends) (rest t)) ≡ followed
        (reply (ps ++ qs) (bs ++ cs) t ends) (rest t)
    by qs cs t (Some e) = refl
    by qs cs t None =
        let c = rest t in
        λ i. reply (sym (append_assoc ps qs c.packets) i) (sym (append_assoc bs cs c.program) i) c.state c.ended

  -- what follows a reply that has ended nothing, and what follows one that has
  pub followed_open : (first next : Reply S E) → first.ended ≡ None
      → followed first next ≡ reply (first.packets ++ next.packets)
      (first.program ++ next.program) next.state next.ended
  followed_open first next e = ap (λ (o : Option E). unless_ended o first next) e

  pub followed_over : (first next : Reply S E) (end : E) → first.ended ≡ Some end → followed first next ≡ first
  followed_over first next end e = ap (λ (o : Option E). unless_ended o first next) e

  -- nothing follows
  pub followed_none : (first : Reply S E) → followed first (nothing_sent first.state) ≡ first
  followed_none first = by first.packets first.program first.state first.ended where
    by : (ps : List (List ℕ)) (bs : List ℕ) (s : S) (ended : Option E)
        → followed (reply ps bs s ended) (nothing_sent s) ≡ reply ps bs s ended
    by ps bs s (Some e) = refl
    by ps bs s None = λ i. reply (append-nil ps i) (append-nil bs i) s None

  -- A reply to more commands goes on from that to the first ones.
  pub record Joins (first next all : Reply S E) : Type 0 where
    pub packets : flat_map packet_frame all.packets ≡ flat_map packet_frame first.packets
        ++ flat_map packet_frame next.packets
    pub program : all.program ≡ first.program ++ next.program
    pub state : all.state ≡ next.state
    pub ended : all.ended ≡ next.ended

  module _ (step : S → List ℕ → Reply S E) where
    -- what more commands lead to
    pub replies_append : (start : S) (taken more : List (List ℕ))
        → replies step start (taken ++ more) ≡ followed (replies step start taken)
        (replies step (replies step start taken).state more)
    replies_append start [] more = refl
    replies_append start (line ∷ taken) more =
        let a = step start line in
        ap (followed a) (replies_append a.state taken more)
        ∙ follows a.packets a.program a.state a.ended (replies step a.state taken) (λ (s : S). replies step s more)

    pub replies_join : (start state : S) (taken more : List (List ℕ)) → (replies step start taken).ended ≡ None
        → (replies step start taken).state ≡ state
        → Joins (replies step start taken) (replies step state more) (replies step start (taken ++ more))
    replies_join start state taken more goes_on is_state =
        let first = replies step start taken in
        let next = replies step state more in
        let same : replies step start (taken ++ more) ≡ reply (first.packets ++ next.packets)
        (first.program ++ next.program) next.state next.ended =
        replies_append start taken more ∙ ap (λ (s : S). followed first (replies step s more)) is_state
        ∙ followed_open first next goes_on in
        record {
          packets =
              ap (λ (r : Reply S E). flat_map packet_frame r.packets) same
              ∙ flat_map-append packet_frame first.packets next.packets;
          program = ap (λ (r : Reply S E). r.program) same;
          state = ap (λ (r : Reply S E). r.state) same;
          ended = ap (λ (r : Reply S E). r.ended) same;
        }

    -- one command alone
    pub replies_one : (start : S) (line : List ℕ) → replies step start (line ∷ []) ≡ step start line
    replies_one start line = followed_none (step start line)

-- ---- the commands taken

-- nothing was taken yet
pub taken_first : (bytes : List ℕ) → HasTaken bytes bytes []
taken_first bytes = record { each = tt; whole = refl; first = λ more. refl }

-- one command
pub taken_one : (held line rest : List ℕ) → BeginsCommand held line rest
    → ((more : List ℕ) → commands_in (held ++ more) ≡ line ∷ commands_in (rest ++ more)) → HasTaken held rest
    (line ∷ [])
taken_one held line rest begins first = record {
  each = (begins.is_text, tt);
  whole = begins.whole ∙ ap (λ l. l ++ rest) (sym (append-nil (command_frame line)));
  first = first;
}

-- more commands were taken from what was held
pub taken_joined : (read held rest : List ℕ) (taken more : List (List ℕ)) → HasTaken read held taken
    → HasTaken held rest more → HasTaken read rest (taken ++ more)
taken_joined read held rest taken more s t = record {
  each = each_joined taken more s.each t.each;
  whole =
      s.whole ∙ ap (λ l. flat_map command_frame taken ++ l) t.whole
      ∙ sym (append_assoc (flat_map command_frame taken) (flat_map command_frame more) rest)
      ∙ ap (λ l. l ++ rest) (sym (flat_map-append command_frame taken more));
  first =
      λ bytes. s.first bytes ∙ ap (λ l. taken ++ l) (t.first bytes)
      ∙ sym (append_assoc taken more (commands_in (rest ++ bytes)));
} where
  each_joined : (lines others : List (List ℕ)) → AllByRecursion IsCommand lines → AllByRecursion IsCommand others
      → AllByRecursion IsCommand (lines ++ others)
  each_joined [] others p q = q
  each_joined (line ∷ lines) others p q = (p.0, each_joined lines others p.1 q)

-- one command, told by what it leaves
pub taken_first_of : (held line rest : List ℕ) → BeginsCommand held line rest → HasTaken held rest (line ∷ [])
taken_first_of held line rest b = taken_one held line rest b (λ more.
    ap commands_in (ap (λ l. l ++ more) (b.whole ∙ framed line rest) ∙ append_assoc line (0 ∷ rest) more)
    ∙ commands-text line (rest ++ more) b.is_text.no_nul b.is_text.fits)

-- a piece more was read
pub taken_fed : (read held piece : List ℕ) (taken : List (List ℕ)) → HasTaken read held taken
    → HasTaken (read ++ piece) (held ++ piece) taken
taken_fed read held piece taken s = record {
  each = s.each;
  whole = ap (λ l. l ++ piece) s.whole ∙ append_assoc (flat_map command_frame taken) held piece;
  first =
      λ more. ap commands_in (append_assoc read piece more) ∙ s.first (piece ++ more)
      ∙ ap (λ l. taken ++ commands_in l) (sym (append_assoc held piece more));
}

-- the commands among all the bytes read
pub taken_all : (read held : List ℕ) (taken : List (List ℕ)) → HasTaken read held taken
    → commands_in read ≡ taken ++ commands_in held
taken_all read held taken s =
    ap commands_in (sym (append-nil read)) ∙ s.first [] ∙ ap (λ l. taken ++ commands_in l) (append-nil held)

-- the command at the front is the first of those that are held
pub front_comes : (held line rest : List ℕ) → BeginsCommand held line rest → commands_in held ≡ line ∷ commands_in rest
front_comes held line rest b = taken_all held rest (line ∷ []) (taken_first_of held line rest b)

-- ---- answering what is held

module _ {S E X Y : Type 0} (step : S → List ℕ → Reply S E) (told : X → Option (List ℕ)) (faults : X → ℕ)
    (prints : Y → Option (List ℕ)) (fails : Y → ℕ) where
  -- one delivery after another
  pub delivers_joined : (first next all : Reply S E) (x0 x1 x2 : X) (y0 y1 y2 : Y) → Joins first next all
      → Delivers first (change told faults x0 x1) (change prints fails y0 y1)
      → Delivers next (change told faults x1 x2) (change prints fails y1 y2)
      → Delivers all (change told faults x0 x2) (change prints fails y0 y2)
  delivers_joined first next all x0 x1 x2 y0 y1 y2 joins p q = record {
    sent =
        subst (Appends (told x0) (told x2)) (sym joins.packets)
        (Appends-trans (told x0) (told x1) (told x2) _ _ p.sent q.sent);
    printed =
        subst (Appends (prints y0) (prints y2)) (sym joins.program)
        (Appends-trans (prints y0) (prints y1) (prints y2) _ _ p.printed q.printed);
  }

  -- an answer that was delivered is the reply that it is
  pub delivers_reply : (answer : Answer E) (state : S) (r : Reply S E) (sink out : Change) → reply_of answer state ≡ r
      → DeliversAnswer answer sink out → Delivers r sink out
  delivers_reply answer state r sink out is d = record {
    sent = subst (λ (a : Reply S E). Appends sink.told_before sink.told (flat_map packet_frame a.packets)) is d.sent;
    printed = subst (λ (a : Reply S E). Appends out.told_before out.told a.program) is d.printed;
  }

  pub reached_first : (start : S) (held : List ℕ) (x : X) (y : Y)
      → (r : Reached step start start held held (change told faults x x) (change prints fails y y))
      × ((replies step start r.taken).ended ≡ None)
  reached_first start held x y = (
    record {
      taken = [];
      place = taken_first held;
      delivers = record { sent = Appends-nil (told x); printed = Appends-nil (prints y) };
      is_state = refl;
    },
    refl,
  )

  -- one command more was answered
  pub reached_next : (start state now : S) (bytes held line rest : List ℕ) (x0 x1 x2 : X) (y0 y1 y2 : Y)
      → (r : Reached step start state bytes held (change told faults x0 x1) (change prints fails y0 y1))
      → (replies step start r.taken).ended ≡ None
      → HasTaken held rest (line ∷ []) → now ≡ (step state line).state
      → Delivers (step state line) (change told faults x1 x2) (change prints fails y1 y2)
      → (after : Reached step start now bytes rest (change told faults x0 x2) (change prints fails y0 y2))
      × ((replies step start after.taken).ended ≡ (step state line).ended)
  reached_next start state now bytes held line rest x0 x1 x2 y0 y1 y2 r goes_on stands is_now d =
      let one = replies_one step state line in
      let joins = replies_join step start state r.taken (line ∷ []) goes_on r.is_state in
      let next = subst (λ (a : Reply S E). Delivers a (change told faults x1 x2) (change prints fails y1 y2))
      (sym one) d in (
        record {
          taken = r.taken ++ line ∷ [];
          place = taken_joined bytes held rest r.taken (line ∷ []) r.place stands;
          delivers =
              delivers_joined (replies step start r.taken) (replies step state (line ∷ []))
              (replies step start (r.taken ++ line ∷ [])) x0 x1 x2 y0 y1 y2 joins r.delivers next;
          is_state = joins.state ∙ ap (λ (a : Reply S E). a.state) one ∙ sym is_now;
        },
        joins.ended ∙ ap (λ (a : Reply S E). a.ended) one,
      )

  -- nothing was answered
  pub reached_kept : (start state now : S) (bytes held rest : List ℕ) (sink out : Change)
      → (r : Reached step start state bytes held sink out) → now ≡ state → rest ≡ held
      → (kept : Reached step start now bytes rest sink out) × (kept.taken ≡ r.taken)
  reached_kept start state now bytes held rest sink out r is_now is_rest = (
    record {
      taken = r.taken;
      place = subst (λ (l : List ℕ). HasTaken bytes l r.taken) (sym is_rest) r.place;
      delivers = r.delivers;
      is_state = r.is_state ∙ sym is_now;
    },
    refl,
  )

-- ---- over the link

-- a session that is as it was
pub talk_same : {S E : Type 0} (step : S → List ℕ → Reply S E) (start state now : S) (init read held : List ℕ)
    (source sink out : Change) → now ≡ state
    → (talk : Conversation step start state init read held source sink out)
    → (replies step start talk.taken).ended ≡ None
    → (same : Conversation step start now init read held source sink out)
    × ((replies step start same.taken).ended ≡ None)
talk_same step start state now init read held source sink out is_now talk goes_on = (
  record {
    taken = talk.taken;
    consumed = talk.consumed;
    place = talk.place;
    sent = talk.sent;
    printed = talk.printed;
    is_state = talk.is_state ∙ sym is_now;
  },
  goes_on,
)

module _ {S E W X Y : Type 0} (step : S → List ℕ → Reply S E) (left : W → Option (List ℕ)) (breaks : W → ℕ)
    (told : X → Option (List ℕ)) (faults : X → ℕ) (prints : Y → Option (List ℕ)) (fails : Y → ℕ) where
  -- the first packet was sent, and nothing was read
  pub talk_first : (start : S) (init : List ℕ) (w : W) (x0 x1 : X) (y : Y)
      → Appends (told x0) (told x1) (packet_frame init)
      → (talk : Conversation step start start init [] [] (change left breaks w w) (change told faults x0 x1)
      (change prints fails y y)) × ((replies step start talk.taken).ended ≡ None)
  talk_first start init w x0 x1 y sent = (
    record {
      taken = [];
      consumed = Consumes-nil (left w);
      place = taken_first [];
      sent = subst (Appends (told x0) (told x1)) (sym (append-nil (packet_frame init))) sent;
      printed = Appends-nil (prints y);
      is_state = refl;
    },
    refl,
  )

  -- a piece was read
  pub talk_fed : (start state : S) (init read held piece now : List ℕ) (w0 w1 w2 : W) (sink out : Change)
      → (talk : Conversation step start state init read held (change left breaks w0 w1) sink out)
      → Consumes (left w1) (left w2) piece → now ≡ held ++ piece
      → (fed : Conversation step start state init (read ++ piece) now (change left breaks w0 w2) sink out)
      × (fed.taken ≡ talk.taken)
  talk_fed start state init read held piece now w0 w1 w2 sink out talk came is_now = (
    record {
      taken = talk.taken;
      consumed = Consumes-trans (left w0) (left w1) (left w2) read piece talk.consumed came;
      place =
          subst (λ (l : List ℕ). HasTaken (read ++ piece) l talk.taken) (sym is_now)
          (taken_fed read held piece talk.taken talk.place);
      sent = talk.sent;
      printed = talk.printed;
      is_state = talk.is_state;
    },
    refl,
  )

  -- the source told that it has changed nothing
  pub talk_kept : (start state : S) (init read held now : List ℕ) (w0 w1 w2 : W) (sink out : Change)
      → (talk : Conversation step start state init read held (change left breaks w0 w1) sink out)
      → Keeps (left w1) (left w2) → now ≡ held
      → (kept : Conversation step start state init read now (change left breaks w0 w2) sink out)
      × (kept.taken ≡ talk.taken)
  talk_kept start state init read held now w0 w1 w2 sink out talk keeps is_now = (
    record {
      taken = talk.taken;
      consumed = Consumes-kept (left w0) (left w1) (left w2) read talk.consumed keeps;
      place = subst (λ (l : List ℕ). HasTaken read l talk.taken) (sym is_now) talk.place;
      sent = talk.sent;
      printed = talk.printed;
      is_state = talk.is_state;
    },
    refl,
  )

  -- the commands held were answered
  pub talk_answered : (start state now : S) (init read held rest : List ℕ) (source : Change) (x0 x1 x2 : X)
      (y0 y1 y2 : Y)
      → (talk : Conversation step start state init read held source (change told faults x0 x1)
      (change prints fails y0 y1)) → (replies step start talk.taken).ended ≡ None
      → (reached : Reached step state now held rest (change told faults x1 x2) (change prints fails y1 y2))
      → (after : Conversation step start now init read rest source (change told faults x0 x2)
      (change prints fails y0 y2))
      × ((replies step start after.taken).ended ≡ (replies step state reached.taken).ended)
  talk_answered start state now init read held rest source x0 x1 x2 y0 y1 y2 talk goes_on reached =
      let joins = replies_join step start state talk.taken reached.taken goes_on talk.is_state in
      let packets : packet_frame init
      ++ flat_map packet_frame (replies step start (talk.taken ++ reached.taken)).packets
      ≡ (packet_frame init ++ flat_map packet_frame (replies step start talk.taken).packets)
      ++ flat_map packet_frame (replies step state reached.taken).packets =
      ap (λ l. packet_frame init ++ l) joins.packets ∙ sym (append_assoc (packet_frame init) _ _) in (
        record {
          taken = talk.taken ++ reached.taken;
          consumed = talk.consumed;
          place = taken_joined read held rest talk.taken reached.taken talk.place reached.place;
          sent =
              subst (Appends (told x0) (told x2)) (sym packets)
              (Appends-trans (told x0) (told x1) (told x2) _ _ talk.sent reached.delivers.sent);
          printed =
              subst (Appends (prints y0) (prints y2)) (sym joins.program)
              (Appends-trans (prints y0) (prints y1) (prints y2) _ _ talk.printed reached.delivers.printed);
          is_state = joins.state ∙ reached.is_state;
        },
        joins.ended,
      )

  -- a piece was read, and the commands then held were answered
  pub talk_goes_on : (start state now : S) (init read held fed piece rest : List ℕ) (w0 w1 w2 : W) (x0 x1 x2 : X)
      (y0 y1 y2 : Y)
      → (talk : Conversation step start state init read held (change left breaks w0 w1) (change told faults x0 x1)
      (change prints fails y0 y1)) → (replies step start talk.taken).ended ≡ None
      → Consumes (left w1) (left w2) piece → fed ≡ held ++ piece
      → (reached : Reached step state now fed rest (change told faults x1 x2) (change prints fails y1 y2))
      → (after : Conversation step start now init (read ++ piece) rest (change left breaks w0 w2)
      (change told faults x0 x2) (change prints fails y0 y2))
      × ((replies step start after.taken).ended ≡ (replies step state reached.taken).ended)
  talk_goes_on start state now init read held fed piece rest w0 w1 w2 x0 x1 x2 y0 y1 y2 talk goes_on came is_fed reached
      =
      let more = talk_fed start state init read held piece fed w0 w1 w2 (change told faults x0 x1)
      (change prints fails y0 y1) talk came is_fed in
      talk_answered start state now init (read ++ piece) fed rest (change left breaks w0 w2) x0 x1 x2 y0 y1 y2 more.0
      (ap (λ (l : List (List ℕ)). (replies step start l).ended) more.1 ∙ goes_on) reached
