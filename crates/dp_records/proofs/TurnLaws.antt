-- What commands that are held lead to, one after another; and what a session comes to that is given more.
use Rattle.std.proofs.Common.{◌≡◌, ℕ, List, [], ◌∷◌, ◌++◌, Option, None, Some, refl, sym, ap, ◌∙◌, subst, append_assoc, append-nil}
use Rattle.std.proofs.lemmas.List.{append_cancel_left}
use Rattle.std.proofs.lemmas.List.Concat.{flat_map-append}
use Rattle.std.specs.List.{flat_map}
use Rattle.dp_wire.specs.Frames.{BeginsCommand, BeginsNoCommand, IsCommand, IsPartialCommand, command_frame, commands_in, packet_frame, rest_of}
use Rattle.dp_wire.proofs.SplitLaws.{commands_split, no_frame_begins, one_split_lem}
use Rattle.dp_conversation.specs.Folds.{Reply, followed, nothing_sent, replies}
use Rattle.dp_conversation.specs.Growth.{served}
use Rattle.dp_conversation.proofs.NextAnswerLaws.{commands_go_on, feeding}
use Rattle.dp_conversation.proofs.ServiceLaws.{followed_none, followed_open, followed_over, front_comes}
use Rattle.dp_records.specs.declared.sessions.Over.{Over}
use Rattle.dp_records.specs.declared.sessions.Over.TheVariants.{Ended, Open, Bad}
use Rattle.dp_records.specs.declared.sessions.Turn.{Turn}
use Rattle.dp_records.specs.declared.sessions.Turn.TheVariants.{Answered, Partial, TooLong}
use Rattle.dp_records.specs.inner.Turns.{Answers, AnswersAll, HasAnswered, StopsBy, Takes}

abbrev reply : {S E : Type 0} → List (List ℕ) → List ℕ → S → Option E → Reply S E
reply packets program state ended =
    record { packets = packets; program = program; state = state; ended = ended }

-- ---- bytes that no whole command begins

abbrev NoMore : List ℕ → Type 0
NoMore held = (text more : List ℕ) → IsCommand text → held ≡ command_frame text ++ more → ⊥

no_more_partial : (held : List ℕ) → IsPartialCommand held → NoMore held
no_more_partial held p text more is e =
    let joined : command_frame text ++ (more ++ p.more) ≡ command_frame p.text =
    sym (append_assoc (command_frame text) more p.more) ∙ ap (λ l. l ++ p.more) (sym e) ∙ p.whole in
    p.comes (no_bytes more p.more (no_frame_begins text p.text (more ++ p.more) is p.is_text joined).1) where
      no_bytes : (bs more : List ℕ) → bs ++ more ≡ [] → more ≡ []
      no_bytes [] more e = e
      no_bytes (b ∷ bs) more e = cc

no_more_refused : (held : List ℕ) → BeginsNoCommand held → NoMore held
no_more_refused held refused text more is e = refused text more [] is (append-nil held ∙ e)

none_split : (held : List ℕ) → NoMore held → (commands_in held ≡ []) × (rest_of held ≡ held)
none_split held none =
    one_split_lem held (commands_in held) [] (rest_of held) held (commands_split held)
    (record { whole = refl; each = tt; no_more = none })

pub partial_rest : (held : List ℕ) → IsPartialCommand held → (commands_in held ≡ []) × (rest_of held ≡ held)
partial_rest held p = none_split held (no_more_partial held p)

pub refused_rest : (held : List ℕ) → BeginsNoCommand held → (commands_in held ≡ []) × (rest_of held ≡ held)
refused_rest held p = none_split held (no_more_refused held p)

-- however the bytes go on, none begins them
pub refused_more : (held more : List ℕ) → BeginsNoCommand held → BeginsNoCommand (held ++ more)
refused_more held more none text rest others is e =
    none text rest (more ++ others) is (sym (append_assoc held more others) ∙ e)

-- bytes that begin none are no part of one
pub partial_not : (held : List ℕ) → IsPartialCommand held → BeginsNoCommand held → ⊥
partial_not held p none = none p.text [] p.more p.is_text (p.whole ∙ sym (append-nil (command_frame p.text)))

-- what follows the whole commands of more bytes follows those of what was left and more
pub rest_goes_on : (bytes more : List ℕ) → rest_of (bytes ++ more) ≡ rest_of (rest_of bytes ++ more)
rest_goes_on bytes more =
    let first = commands_split bytes in
    let all = commands_split (bytes ++ more) in
    let next = commands_split (rest_of bytes ++ more) in
    let frames = λ (l : List (List ℕ)). flat_map command_frame l in
    let joined : frames (commands_in (bytes ++ more))
    ≡ frames (commands_in bytes) ++ frames (commands_in (rest_of bytes ++ more)) =
    ap frames (commands_go_on bytes more)
    ∙ flat_map-append command_frame (commands_in bytes) (commands_in (rest_of bytes ++ more)) in
    let other : bytes ++ more ≡ frames (commands_in (bytes ++ more)) ++ rest_of (rest_of bytes ++ more) =
    ap (λ l. l ++ more) first.whole ∙ append_assoc (frames (commands_in bytes)) (rest_of bytes) more
    ∙ ap (λ l. frames (commands_in bytes) ++ l) next.whole
    ∙ sym (append_assoc (frames (commands_in bytes)) (frames (commands_in (rest_of bytes ++ more)))
    (rest_of (rest_of bytes ++ more)))
    ∙ ap (λ l. l ++ rest_of (rest_of bytes ++ more)) (sym joined) in
    append_cancel_left (frames (commands_in (bytes ++ more))) (rest_of (bytes ++ more))
    (rest_of (rest_of bytes ++ more)) (sym all.whole ∙ other)

-- ---- one command after another

module _ {S E : Type 0} (step : S → List ℕ → Reply S E) where
  -- commands that lead to nothing
  pub served_none : (state : S) (held : List ℕ) → commands_in held ≡ [] → served step state held ≡ nothing_sent state
  served_none state held none = ap (replies step state) none

  pub served_front : (state : S) (held line rest : List ℕ) → BeginsCommand held line rest
      → served step state held ≡ followed (step state line) (served step (step state line).state rest)
  served_front state held line rest begins = ap (replies step state) (front_comes held line rest begins)

  rest_behind : (held line rest : List ℕ) → BeginsCommand held line rest → rest_of held ≡ rest_of rest
  rest_behind held line rest begins =
      let all = commands_split held in
      let next = commands_split rest in
      let frames = λ (l : List (List ℕ)). flat_map command_frame l in
      let joined : frames (commands_in held) ≡ command_frame line ++ frames (commands_in rest) =
      ap frames (front_comes held line rest begins) in
      let other : held ≡ frames (commands_in held) ++ rest_of rest =
      begins.whole ∙ ap (λ l. command_frame line ++ l) next.whole
      ∙ sym (append_assoc (command_frame line) (frames (commands_in rest)) (rest_of rest))
      ∙ ap (λ l. l ++ rest_of rest) (sym joined) in
      append_cancel_left (frames (commands_in held)) (rest_of held) (rest_of rest) (sym all.whole ∙ other)

  pub answered_first : (start : S) (held : List ℕ) → HasAnswered step start start held held [] []
  answered_first start held = record { is_rest = refl; frames = refl; program = refl; is_state = refl; is_end = refl }

  pub answered_next : (start state now : S) (ended : Option E) (bytes held rest sent own frames program : List ℕ)
      → HasAnswered step start state bytes held sent own → Answers step state now ended held rest frames program
      → ended ≡ None → HasAnswered step start now bytes rest (sent ++ frames) (own ++ program)
  answered_next start state now ended bytes held rest sent own frames program h a none =
      let first = step state a.line in
      let next = served step now rest in
      let none_yet : first.ended ≡ None = sym a.is_end ∙ none in
      let same : served step state held ≡ reply (first.packets ++ next.packets) (first.program ++ next.program)
      next.state next.ended =
      served_front state held a.line rest a.begins
      ∙ ap (λ (s : S). followed first (served step s rest)) (sym a.is_state)
      ∙ followed_open first next none_yet in
      record {
        is_rest = h.is_rest ∙ rest_behind held a.line rest a.begins;
        frames =
            h.frames ∙ ap (λ (r : Reply S E). sent ++ flat_map packet_frame r.packets) same
            ∙ ap (λ l. sent ++ l) (flat_map-append packet_frame first.packets next.packets
            ∙ ap (λ l. l ++ flat_map packet_frame next.packets) (sym a.frames))
            ∙ sym (append_assoc sent frames (flat_map packet_frame next.packets));
        program =
            h.program ∙ ap (λ (r : Reply S E). own ++ r.program) same
            ∙ ap (λ l. own ++ (l ++ next.program)) (sym a.program) ∙ sym (append_assoc own program next.program);
        is_state = h.is_state ∙ ap (λ (r : Reply S E). r.state) same;
        is_end = h.is_end ∙ ap (λ (r : Reply S E). r.ended) same;
      }

  -- all was told that the commands lead to
  pub record ToldAll (start : S) (held sent own : List ℕ) : Type 0 where
    pub frames : flat_map packet_frame (served step start held).packets ≡ sent
    pub program : (served step start held).program ≡ own

  -- the last command ended the session
  pub answered_end : (start state now : S) (ended : Option E) (end : E)
      (bytes held rest sent own frames program : List ℕ)
      → HasAnswered step start state bytes held sent own → Answers step state now ended held rest frames program
      → ended ≡ Some end
      → ToldAll start bytes (sent ++ frames) (own ++ program) × AnswersAll step start now (Ended end) bytes rest
  answered_end start state now ended end bytes held rest sent own frames program h a some =
      let first = step state a.line in
      let same : served step state held ≡ first =
      served_front state held a.line rest a.begins
      ∙ followed_over first (served step first.state rest) end (sym a.is_end ∙ some) in (
        record {
          frames = h.frames ∙ ap (λ (r : Reply S E). sent ++ flat_map packet_frame r.packets) same
              ∙ ap (λ l. sent ++ l) (sym a.frames);
          program = h.program ∙ ap (λ (r : Reply S E). own ++ r.program) same ∙ ap (λ l. own ++ l) (sym a.program);
        },
        record {
          is_state = a.is_state ∙ sym (h.is_state ∙ ap (λ (r : Reply S E). r.state) same);
          stops = h.is_end ∙ ap (λ (r : Reply S E). r.ended) same ∙ sym a.is_end ∙ some;
          is_left = λ none.
              let is = h.is_end ∙ ap (λ (r : Reply S E). r.ended) same ∙ sym a.is_end ∙ some in
              absurd (cc);
        },
      )

  -- no whole command is left
  pub answered_left : (start state : S) (bytes held sent own : List ℕ)
      → HasAnswered step start state bytes held sent own
      → (commands_in held ≡ []) × (rest_of held ≡ held)
      → ToldAll start bytes sent own × (state ≡ (served step start bytes).state)
      × ((served step start bytes).ended ≡ None) × (held ≡ rest_of bytes)
  answered_left start state bytes held sent own h none =
      let same = served_none state held none.0 in (
        record {
          frames = h.frames ∙ ap (λ (r : Reply S E). sent ++ flat_map packet_frame r.packets) same ∙ append-nil sent;
          program = h.program ∙ ap (λ (r : Reply S E). own ++ r.program) same ∙ append-nil own;
        },
        sym (h.is_state ∙ ap (λ (r : Reply S E). r.state) same),
        h.is_end ∙ ap (λ (r : Reply S E). r.ended) same,
        sym (h.is_rest ∙ none.1),
      )

  pub answered_partial : (start state : S) (bytes held sent own : List ℕ)
      → HasAnswered step start state bytes held sent own → IsPartialCommand held
      → ToldAll start bytes sent own × AnswersAll step start state Open bytes held
  answered_partial start state bytes held sent own h partial =
      let left = answered_left start state bytes held sent own h (partial_rest held partial) in (
        left.0,
        record {
          is_state = left.1;
          stops = (left.2, left.3, subst IsPartialCommand left.3 partial);
          is_left = λ none. left.3;
        },
      )

  pub answered_bad : (start state : S) (bytes held sent own : List ℕ)
      → HasAnswered step start state bytes held sent own → BeginsNoCommand held
      → ToldAll start bytes sent own × AnswersAll step start state Bad bytes held
  answered_bad start state bytes held sent own h refused =
      let left = answered_left start state bytes held sent own h (refused_rest held refused) in (
        left.0,
        record {
          is_state = left.1;
          stops = (left.2, subst BeginsNoCommand left.3 refused);
          is_left = λ none. left.3;
        },
      )

  -- the same by what came of the next command
  pub turn_partial : (start state now : S) (bytes held rest sent own frames program : List ℕ)
      → HasAnswered step start state bytes held sent own → Takes step state now Partial held rest frames program
      → ToldAll start bytes (sent ++ frames) (own ++ program) × AnswersAll step start now Open bytes rest
  turn_partial start state now bytes held rest sent own frames program h t =
      let left = answered_partial start state bytes held sent own h t.0 in (
        record {
          frames = left.0.frames ∙ sym (append-nil sent) ∙ ap (λ l. sent ++ l) (sym t.3);
          program = left.0.program ∙ sym (append-nil own) ∙ ap (λ l. own ++ l) (sym t.4);
        },
        record {
          is_state = t.1 ∙ left.1.is_state;
          stops =
              subst (λ (l : List ℕ). StopsBy Open (served step start bytes).ended l (rest_of bytes)) (sym t.2)
              left.1.stops;
          is_left = λ none. t.2 ∙ left.1.is_left none;
        },
      )

  pub turn_bad : (start state now : S) (bytes held rest sent own frames program : List ℕ)
      → HasAnswered step start state bytes held sent own → Takes step state now TooLong held rest frames program
      → ToldAll start bytes (sent ++ frames) (own ++ program) × AnswersAll step start now Bad bytes rest
  turn_bad start state now bytes held rest sent own frames program h t =
      let left = answered_bad start state bytes held sent own h t.0 in (
        record {
          frames = left.0.frames ∙ sym (append-nil sent) ∙ ap (λ l. sent ++ l) (sym t.3);
          program = left.0.program ∙ sym (append-nil own) ∙ ap (λ l. own ++ l) (sym t.4);
        },
        record {
          is_state = t.1 ∙ left.1.is_state;
          stops = left.1.stops;
          is_left = λ none. t.2 ∙ left.1.is_left none;
        },
      )

  -- what was told is a front of all that the commands lead to
  pub record ToldSome (start : S) (held sent own : List ℕ) : Type 0 where
    pub more : List ℕ
    pub others : List ℕ
    pub frames : flat_map packet_frame (served step start held).packets ≡ sent ++ more
    pub program : (served step start held).program ≡ own ++ others

  pub told_some : (start state : S) (bytes held sent own : List ℕ) → HasAnswered step start state bytes held sent own
      → ToldSome start bytes sent own
  told_some start state bytes held sent own h = record {
    more = flat_map packet_frame (served step state held).packets;
    others = (served step state held).program;
    frames = h.frames;
    program = h.program;
  }

  all_some : (start : S) (bytes sent own : List ℕ) → ToldAll start bytes sent own → ToldSome start bytes sent own
  all_some start bytes sent own told = record {
    more = [];
    others = [];
    frames = told.frames ∙ sym (append-nil sent);
    program = told.program ∙ sym (append-nil own);
  }

  pub told_turn : (start state now : S) (turn : Turn E) (bytes held rest sent own frames program : List ℕ)
      → HasAnswered step start state bytes held sent own → Takes step state now turn held rest frames program
      → ToldSome start bytes (sent ++ frames) (own ++ program)
  told_turn start state now (Answered None) bytes held rest sent own frames program h t =
      told_some start now bytes rest (sent ++ frames) (own ++ program)
      (answered_next start state now None bytes held rest sent own frames program h t refl)
  told_turn start state now (Answered (Some end)) bytes held rest sent own frames program h t =
      all_some start bytes (sent ++ frames) (own ++ program)
      (answered_end start state now (Some end) end bytes held rest sent own frames program h t refl).0
  told_turn start state now Partial bytes held rest sent own frames program h t =
      all_some start bytes (sent ++ frames) (own ++ program)
      (turn_partial start state now bytes held rest sent own frames program h t).0
  told_turn start state now TooLong bytes held rest sent own frames program h t =
      all_some start bytes (sent ++ frames) (own ++ program)
      (turn_bad start state now bytes held rest sent own frames program h t).0

  -- ---- a session that is given more

  -- What it sends and what its program writes by more bytes is what it was, and what these add.
  pub record Adds (start : S) (bytes more sent own : List ℕ) : Type 0 where
    pub frames : flat_map packet_frame (served step start (bytes ++ more)).packets
        ≡ flat_map packet_frame (served step start bytes).packets ++ sent
    pub program : (served step start (bytes ++ more)).program ≡ (served step start bytes).program ++ own

  -- and what it has come to
  pub record Grows (start : S) (bytes more : List ℕ) (now : S) (over : Over E) (left sent own : List ℕ)
      : Type 0 where
    pub is_state : now ≡ (served step start (bytes ++ more)).state
    pub stops : StopsBy over (served step start (bytes ++ more)).ended left (rest_of (bytes ++ more))
    pub adds : Adds start bytes more sent own

  -- a session that goes on answers what it holds and what it is given
  module _ (start state : S) (bytes more held : List ℕ) (is_state : state ≡ (served step start bytes).state)
      (stops : StopsBy Open (served step start bytes).ended held (rest_of bytes)) where
    abbrev first : Reply S E
    first = served step start bytes

    abbrev next : Reply S E
    next = served step state (held ++ more)

    goes_on : served step start (bytes ++ more)
        ≡ reply (first.packets ++ next.packets) (first.program ++ next.program) next.state next.ended
    goes_on =
        feeding step start bytes more
        ∙ (λ i. followed first (served step (sym is_state i) (sym stops.1 i ++ more)))
        ∙ followed_open first next stops.0

    pub adds_open : Adds start bytes more (flat_map packet_frame next.packets) next.program
    adds_open = record {
      frames =
          ap (λ (r : Reply S E). flat_map packet_frame r.packets) goes_on
          ∙ flat_map-append packet_frame first.packets next.packets;
      program = ap (λ (r : Reply S E). r.program) goes_on;
    }

    pub grows_open : (now : S) (left : List ℕ) (over : Over E) → AnswersAll step state now over (held ++ more) left
        → Grows start bytes more now over left (flat_map packet_frame next.packets) next.program
    grows_open now left over a =
        let rest : rest_of (bytes ++ more) ≡ rest_of (held ++ more) =
        rest_goes_on bytes more ∙ ap (λ l. rest_of (l ++ more)) (sym stops.1) in
        record {
          is_state = a.is_state ∙ sym (ap (λ (r : Reply S E). r.state) goes_on);
          stops = subst (λ (o : Option E). StopsBy over o left (rest_of (bytes ++ more)))
              (sym (ap (λ (r : Reply S E). r.ended) goes_on))
              (subst (StopsBy over next.ended left) (sym rest) a.stops);
          adds = adds_open;
        }

    pub left_open : (now : S) (left : List ℕ) (over : Over E) → AnswersAll step state now over (held ++ more) left
        → (served step start (bytes ++ more)).ended ≡ None → left ≡ rest_of (bytes ++ more)
    left_open now left over a none =
        a.is_left (sym (ap (λ (r : Reply S E). r.ended) goes_on) ∙ none)
        ∙ sym (rest_goes_on bytes more ∙ ap (λ l. rest_of (l ++ more)) (sym stops.1))

  -- the same where the bytes were fed to it
  module _ (start state fed : S) (bytes more held all : List ℕ) (is_state : state ≡ (served step start bytes).state)
      (stops : StopsBy Open (served step start bytes).ended held (rest_of bytes)) (same : fed ≡ state)
      (whole : all ≡ held ++ more) where
    pub adds_fed : Adds start bytes more (flat_map packet_frame (served step fed all).packets)
        (served step fed all).program
    adds_fed =
        subst (λ (l : List ℕ). Adds start bytes more (flat_map packet_frame (served step fed l).packets)
        (served step fed l).program) (sym whole) (adds_open start fed bytes more held (same ∙ is_state) stops)

    module _ (now : S) (left : List ℕ) (over : Over E) (a : AnswersAll step fed now over all left) where
      a_so : AnswersAll step fed now over (held ++ more) left
      a_so = subst (λ (l : List ℕ). AnswersAll step fed now over l left) whole a

      pub grows_fed : Grows start bytes more now over left (flat_map packet_frame (served step fed all).packets)
          (served step fed all).program
      grows_fed =
          let grows = grows_open start fed bytes more held (same ∙ is_state) stops now left over a_so in
          record { is_state = grows.is_state; stops = grows.stops; adds = adds_fed }

      pub left_fed : (served step start (bytes ++ more)).ended ≡ None → left ≡ rest_of (bytes ++ more)
      left_fed = left_open start fed bytes more held (same ∙ is_state) stops now left over a_so

  -- one that is over goes on no more
  pub over_not : (over : Over E) (ended : Option E) (left rest : List ℕ) → (over ≡ Open → ⊥)
      → StopsBy over ended left rest → ended ≡ None → IsPartialCommand rest → ⊥
  over_not Open ended left rest never stops none partial = never refl
  over_not (Ended end) ended left rest never stops none partial = cc
  over_not Bad ended left rest never stops none partial = partial_not rest partial stops.1

  grows_so : (start state : S) (bytes more left : List ℕ) (over : Over E) → state ≡ (served step start bytes).state
      → served step start (bytes ++ more) ≡ served step start bytes
      → StopsBy over (served step start bytes).ended left (rest_of (bytes ++ more))
      → Grows start bytes more state over left [] []
  grows_so start state bytes more left over is_state same stops = record {
    is_state = is_state ∙ sym (ap (λ (r : Reply S E). r.state) same);
    stops = subst (λ (o : Option E). StopsBy over o left (rest_of (bytes ++ more)))
        (sym (ap (λ (r : Reply S E). r.ended) same)) stops;
    adds = record {
      frames =
          ap (λ (r : Reply S E). flat_map packet_frame r.packets) same
          ∙ sym (append-nil (flat_map packet_frame (served step start bytes).packets));
      program = ap (λ (r : Reply S E). r.program) same ∙ sym (append-nil (served step start bytes).program);
    };
  }

  -- one that is over is given bytes in vain
  pub grows_not : (start state : S) (bytes more left : List ℕ) (over : Over E) → state ≡ (served step start bytes).state
      → StopsBy over (served step start bytes).ended left (rest_of bytes) → (over ≡ Open → ⊥)
      → Grows start bytes more state over left [] []
  grows_not start state bytes more left Open is_state stops never = absurd (never refl)
  grows_not start state bytes more left (Ended end) is_state stops never =
      grows_so start state bytes more left (Ended end) is_state
      (feeding step start bytes more
      ∙ followed_over (served step start bytes) (served step (served step start bytes).state (rest_of bytes ++ more))
      end
      stops) stops
  grows_not start state bytes more left Bad is_state stops never =
      let refused = refused_more (rest_of bytes) more stops.1 in
      let none = refused_rest (rest_of bytes ++ more) refused in
      let first = served step start bytes in
      grows_so start state bytes more left Bad is_state
      (feeding step start bytes more
      ∙ ap (followed first) (served_none first.state (rest_of bytes ++ more) none.0) ∙ followed_none first)
      (stops.0, subst BeginsNoCommand (sym (rest_goes_on bytes more ∙ none.1)) refused)
