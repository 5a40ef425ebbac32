-- The end of a session over a link: what it has led to is what all bytes read lead to.
use Rattle.std.proofs.Common.{◌≡◌, ◌⊎◌, ℕ, ◌+◌, ◌≤◌, List, [], ◌∷◌, ◌++◌, length, Option, None, Some, refl, sym, ap, ◌∙◌, subst, inl, inr, append_assoc, append-nil}
use Rattle.std.specs.List.{flat_map}
use Rattle.std.specs.Io.KnownBytes.{Appends}
use Rattle.dp_outside.specs.Changes.{Change}
use Rattle.dp_wire.specs.Frames.{IsCommand, command_frame, commands_in, rest_of, packet_frame, IsPartialCommand, BeginsNoCommand}
use Rattle.dp_wire.proofs.SplitLaws.{no_frame_begins, one_split_lem, commands_split}
use Rattle.dp_conversation.specs.declared.link.SessionOver.{SessionOver}
use Rattle.dp_conversation.specs.declared.link.SessionOver.TheVariants.{Ended, LinkEnd, ReadFault, BadCommandFrame, ByteLimit}
use Rattle.dp_conversation.specs.inner.Exchanges.{HasTaken, Converses}
use Rattle.dp_conversation.specs.Folds.{Reply, replies}
use Rattle.dp_conversation.specs.Growth.{served}
use Rattle.dp_conversation.specs.Service.{ConversationEndsBy, IsConversed, IsReadUpTo, piece_limit}
use Rattle.dp_conversation.proofs.ServiceLaws.{followed_over, replies_append, taken_all}

abbrev pub NoMore : List ℕ → Type 0
NoMore held = (text more : List ℕ) → IsCommand text → held ≡ command_frame text ++ more → ⊥

-- no whole command begins what is left
pub no_more_partial : (held : List ℕ) → IsPartialCommand held → NoMore held
no_more_partial held p text more is e =
    let joined : command_frame text ++ (more ++ p.more) ≡ command_frame p.text =
    sym (append_assoc (command_frame text) more p.more) ∙ ap (λ l. l ++ p.more) (sym e) ∙ p.whole in
    p.comes (no_bytes more p.more (no_frame_begins text p.text (more ++ p.more) is p.is_text joined).1) where
      no_bytes : (bs more : List ℕ) → bs ++ more ≡ [] → more ≡ []
      no_bytes [] more e = e
      no_bytes (b ∷ bs) more e = cc

pub no_more_refused : (held : List ℕ) → BeginsNoCommand held → NoMore held
no_more_refused held refused text more is e = refused text more [] is (append-nil held ∙ e)

-- a command has ended the session, or no whole command is left
abbrev IsOver : {E : Type 0} → Option E → List ℕ → Type 0
IsOver ended held = ((e : _) × (ended ≡ Some e)) ⊎ ((ended ≡ None) × NoMore held)

no_more : {E : Type 0} (over : SessionOver E) (ended : Option E) (held read : List ℕ) (source : Change)
    → ConversationEndsBy over ended held read source → IsOver ended held
no_more (Ended end) ended held read source h = inl (end, h)
no_more LinkEnd ended held read source h = inr (h.0, no_more_partial held h.1)
no_more ReadFault ended held read source h = inr (h.0, no_more_partial held h.1)
no_more (BadCommandFrame offset) ended held read source h = inr (h.0, no_more_refused held h.1)
no_more ByteLimit ended held read source h = inr (h.0, no_more_partial held h.1)

module _ {S E : Type 0} (step : S → List ℕ → Reply S E) (start : S) (read held : List ℕ) (taken : List (List ℕ))
    (stands : HasTaken read held taken) where
  over_ended : (end : E) → (replies step start taken).ended ≡ Some end
      → served step start read ≡ replies step start taken
  over_ended end e =
      ap (replies step start) (taken_all read held taken stands) ∙ replies_append step start taken (commands_in held)
      ∙ followed_over (replies step start taken) (replies step (replies step start taken).state (commands_in held)) end
      e

  no_commands : NoMore held → commands_in held ≡ []
  no_commands none =
      (one_split_lem held (commands_in held) [] (rest_of held) held (commands_split held)
      (record { whole = refl; each = tt; no_more = none })).0

  over_left : NoMore held → served step start read ≡ replies step start taken
  over_left none =
      ap (replies step start) (taken_all read held taken stands ∙ ap (λ l. taken ++ l) (no_commands none)
      ∙ append-nil taken)

  over_cases : IsOver (replies step start taken).ended held → served step start read ≡ replies step start taken
  over_cases (inl h) = over_ended h.0 h.1
  over_cases (inr h) = over_left h.1

  -- what is held is what follows the whole commands, where no command has ended the session
  rest_is : NoMore held → held ≡ rest_of read
  rest_is none =
      (one_split_lem read taken (commands_in read) held (rest_of read)
      (record { whole = stands.whole; each = stands.each; no_more = none }) (commands_split read)).1

  abbrev LeftOver : Option E → Type 0
  LeftOver ended = (ended ≡ None) × IsPartialCommand (rest_of read)

  left_over : (ended : Option E) → (replies step start taken).ended ≡ ended → (replies step start taken).ended ≡ None
      → IsPartialCommand held → LeftOver ended
  left_over ended same none partial =
      (sym same ∙ none, subst IsPartialCommand (rest_is (no_more_partial held partial)) partial)

  ends_over_all : (over : SessionOver E) (source : Change) (ended : Option E) → (replies step start taken).ended ≡ ended
      → ConversationEndsBy over (replies step start taken).ended held read source
      → ConversationEndsBy over ended (rest_of read) read source
  ends_over_all (Ended end) source ended same h = sym same ∙ h
  ends_over_all LinkEnd source ended same h = let left = left_over ended same h.0 h.1 in (left.0, left.1, h.2, h.3)
  ends_over_all ReadFault source ended same h = let left = left_over ended same h.0 h.1 in (left.0, left.1, h.2, h.3)
  ends_over_all (BadCommandFrame offset) source ended same h =
      let rest = rest_is (no_more_refused held h.1) in
      (sym same ∙ h.0, subst BeginsNoCommand rest h.1, subst (λ (l : List ℕ). offset + length l ≡ length read) rest h.2)
  ends_over_all ByteLimit source ended same h = let left = left_over ended same h.0 h.1 in (left.0, left.1, h.2)

-- a conversation that is over has served the session
pub is_served : {S E : Type 0} (step : S → List ℕ → Reply S E) (start state : S) (init : List ℕ) (over : SessionOver E)
    (source sink out : Change)
    → Converses step start state init over source sink out → IsConversed step start state init over source sink out
is_served {S} {E} step start state init over source sink out c =
    let talk = c.talk in
    let all : served step start c.read ≡ replies step start talk.taken =
    over_cases step start c.read c.held talk.taken talk.place
    (no_more over (replies step start talk.taken).ended c.held c.read source c.ends) in
    record {
      read = c.read;
      within = c.within;
      up_to = c.up_to;
      consumed = talk.consumed;
      sent =
          subst (λ (r : Reply S E). Appends sink.told_before sink.told
          (packet_frame init ++ flat_map packet_frame r.packets)) (sym all) talk.sent;
      printed = subst (λ (r : Reply S E). Appends out.told_before out.told r.program) (sym all) talk.printed;
      is_state = ap (λ (r : Reply S E). r.state) all ∙ talk.is_state;
      ends =
          ends_over_all step start c.read c.held talk.taken talk.place over source (served step start c.read).ended
          (ap (λ (r : Reply S E). r.ended) (sym all)) c.ends;
    }

-- where part of a command is held, all whole commands were taken
all_taken : (read held : List ℕ) (taken : List (List ℕ)) → HasTaken read held taken → IsPartialCommand held
    → commands_in read ≡ taken
all_taken read held taken stands partial =
    taken_all read held taken stands
    ∙ ap (λ l. taken ++ l)
    ((one_split_lem held (commands_in held) [] (rest_of held) held (commands_split held)
    (record { whole = refl; each = tt; no_more = no_more_partial held partial })).0)
    ∙ append-nil taken

-- What was read ends with this piece, before which the session went on: its commands had not ended it, and part of one
-- was held.
pub read_up_to : {S E : Type 0} (step : S → List ℕ → Reply S E) (start : S) (front held piece read : List ℕ)
    (done : List (List ℕ)) → HasTaken front held done → (replies step start done).ended ≡ None → IsPartialCommand held
    → read ≡ front ++ piece → length piece ≤ piece_limit → IsReadUpTo step start piece_limit read
read_up_to {S} {E} step start front held piece read done stands goes_on partial whole short =
    let none = no_more_partial held partial in
    record {
      front = front;
      piece = piece;
      whole = whole;
      short = short;
      goes_on = ap (λ (r : Reply S E). r.ended) (over_left step start front held done stands none) ∙ goes_on;
      partial = subst IsPartialCommand (rest_is step start front held done stands none) partial;
    }

-- and the commands before it are those that were taken
pub read_behind : {S E : Type 0} (step : S → List ℕ → Reply S E) (start : S) (front held piece : List ℕ)
    (taken : List (List ℕ)) → HasTaken front held taken → (replies step start taken).ended ≡ None
    → IsPartialCommand held → length piece ≤ piece_limit
    → (up_to : IsReadUpTo step start piece_limit (front ++ piece)) × (taken ≡ commands_in up_to.front)
read_behind {S} {E} step start front held piece taken stands goes_on partial short =
    let none = no_more_partial held partial in (
      record {
        front = front;
        piece = piece;
        whole = refl;
        short = short;
        goes_on = ap (λ (r : Reply S E). r.ended) (over_left step start front held taken stands none) ∙ goes_on;
        partial = subst IsPartialCommand (rest_is step start front held taken stands none) partial;
      },
      sym (all_taken front held taken stands partial),
    )
