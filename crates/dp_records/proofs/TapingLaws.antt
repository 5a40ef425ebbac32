-- How far a session is taped by one piece more, and what was read of it.
use Rattle.std.proofs.Common.{◌≡◌, ℕ, ◌<◌, ◌≤◌, List, [], ◌++◌, length, take, Option, refl, sym, ap, ◌∙◌, subst, append-nil, arith}
use Rattle.std.proofs.KnownBytes.{Appends-nil, Consumes-trans}
use Rattle.std.specs.Io.KnownBytes.{Appends, Consumes, IsAtEnd}
use Rattle.std.specs.List.{flat_map}
use Rattle.dp_conversation.specs.declared.conversation.Conversation.{Conversation}
use Rattle.dp_conversation.specs.Folds.{Reply}
use Rattle.dp_conversation.specs.Growth.{served}
use Rattle.dp_conversation.specs.Service.{IsReadUpTo, byte_limit}
use Rattle.dp_outside.specs.Causes.{Rose}
use Rattle.dp_outside.specs.Streams.{AppendsFront}
use Rattle.dp_records.specs.declared.entry.Entry.{Entry}
use Rattle.dp_records.specs.declared.entry.Stream.TheVariants.{In}
use Rattle.dp_records.specs.declared.sessions.Over.{Over}
use Rattle.dp_records.specs.declared.sessions.Over.TheVariants.{Open}
use Rattle.dp_records.specs.declared.tapes.Taping.{Taping}
use Rattle.dp_records.specs.Records.{IsPiece, line_of, piece_limit}
use Rattle.dp_records.specs.inner.Tapings.{HasPut, IsCut, IsTaping, PutFront, PutSome, Tells}
use Rattle.dp_records.specs.inner.Turns.{AnswersAll}
use Rattle.dp_records.proofs.TapeLaws.{cut_in, cut_more, cut_none, put_cut, put_in, put_on, tells_none}
use Rattle.dp_records.proofs.TurnLaws.{adds_fed, adds_open, grows_fed, left_fed}
use Rattle.dp_wire.specs.Frames.{packet_frame}
use Rattle.dp_wire.proofs.NextLaws.{none_partial}

-- what rose behind a later count rose behind an earlier one
pub rose_since : (first before now : ℕ) → first ≤ before → Rose before now → Rose first now
rose_since first before now later rose = omega (arith, rose, later)

-- a source that gave nothing where it was asked for bytes
pub read_end : (a b c : Option (List ℕ)) (read buffer : List ℕ) (count : ℕ) → Consumes a b read
    → Consumes b c (take count buffer) × (count ≡ 0 → 0 < length buffer → IsAtEnd c) → count ≡ 0 → 0 < length buffer
    → Consumes a c read × IsAtEnd c
read_end a b c read buffer count first next none some = (
  subst (Consumes a c) (append-nil read)
      (Consumes-trans a b c read [] first (subst (λ n. Consumes b c (take n buffer)) none next.0)),
  next.1 none some,
)

-- nothing was read yet
pub taping_first : {S E : Type 0} (step : S → List ℕ → Reply S E) (start : S) (init : List ℕ) (tape : Taping S)
    (old : Option (List ℕ)) → tape.talk.session ≡ start → tape.talk.held.held ≡ []
    → tape.sent.items ≡ packet_frame init → tape.own.items ≡ [] → IsTaping step start init Open [] tape old old
taping_first step start init tape old session held sent own = record {
  put = record {
    entries = [];
    reported = subst (λ (l : List ℕ). Tells step start init [] [] l) (sym sent) (tells_none step start init);
    own_reported = sym own;
    written = Appends-nil old;
  };
  is_state = session;
  stops = (refl, held, none_partial [] refl (omega arith));
  is_left = λ none. held;
}

module _ {S E : Type 0} (step : S → List ℕ → Reply S E) (start : S) (init read : List ℕ) (before old : Option (List ℕ))
    (tape : Taping S) (h : IsTaping step start init Open read tape before old) where
  -- ---- what was read

  pub read_here : IsReadUpTo step start piece_limit read
  read_here = record {
    front = read;
    piece = [];
    whole = sym (append-nil read);
    short = omega arith;
    goes_on = h.stops.0;
    partial = h.stops.2;
  }

  module _ (piece : List ℕ) where
    pub read_on : length piece ≤ piece_limit → IsReadUpTo step start piece_limit (read ++ piece)
    read_on short = record {
      front = read;
      piece = piece;
      whole = refl;
      short = short;
      goes_on = h.stops.0;
      partial = h.stops.2;
    }

    abbrev entry : Entry
    entry = record { stream = In; bytes = piece }

    -- ---- the line of a piece is put, behind other lines

    pub cut_before : (other : List ℕ) (new : Option (List ℕ)) → PutFront tape.sent.items other old new
        → IsCut step start init (read ++ piece) before new
    cut_before other new p =
        cut_more step start init read piece before new
        (put_cut step start init read tape.sent.items tape.own.items other before old new h.put p)

    module _ (one : Taping S) (first : Option (List ℕ)) (talk_one : one.talk ≡ tape.talk)
        (p : PutSome tape.sent.items tape.own.items one.sent.items one.own.items old first)
        (piece_is : IsPiece piece) (fits : length (read ++ piece) ≤ byte_limit) where
      put_first : HasPut step start init read one.sent.items one.own.items before first
      put_first =
          put_on step start init read tape.sent.items tape.own.items one.sent.items one.own.items before old first
          h.put p

      pub cut_line : (new : Option (List ℕ)) → AppendsFront first new (line_of entry)
          → IsCut step start init (read ++ piece) before new
      cut_line new written =
          cut_in step start init read piece one.sent.items one.own.items _ _ before first new put_first piece_is fits
          (adds_open step start tape.talk.session read piece tape.talk.held.held h.is_state h.stops) written

      -- ---- and the session fed it

      module _ (second : Option (List ℕ)) (written : Appends first second (line_of entry)) where
        pub cut_fed : IsCut step start init (read ++ piece) before second
        cut_fed =
            cut_none step start init (read ++ piece) _ _ before second
            (put_in step start init read piece one.sent.items one.own.items _ _ before first second put_first piece_is
            fits (adds_open step start tape.talk.session read piece tape.talk.held.held h.is_state h.stops) written)

        module _ (fed : Conversation S) (session : fed.session ≡ one.talk.session)
            (held : fed.held.held ≡ one.talk.held.held ++ piece) where
          abbrev frames : List ℕ
          frames = flat_map packet_frame (served step fed.session fed.held.held).packets

          abbrev program : List ℕ
          program = (served step fed.session fed.held.held).program

          same : fed.session ≡ tape.talk.session
          same = session ∙ ap (λ (t : Conversation S). t.session) talk_one

          whole : fed.held.held ≡ tape.talk.held.held ++ piece
          whole = held ∙ ap (λ (t : Conversation S). t.held.held ++ piece) talk_one

          put_fed : HasPut step start init (read ++ piece) (one.sent.items ++ frames) (one.own.items ++ program) before
              second
          put_fed =
              put_in step start init read piece one.sent.items one.own.items frames program before first second
              put_first
              piece_is fits
              (adds_fed step start tape.talk.session fed.session read piece tape.talk.held.held fed.held.held h.is_state
              h.stops same whole) written

          pub cut_answers : (new : Option (List ℕ))
              → PutFront (one.sent.items ++ frames) (one.own.items ++ program) second new
              → IsCut step start init (read ++ piece) before new
          cut_answers new q =
              put_cut step start init (read ++ piece) (one.sent.items ++ frames) (one.own.items ++ program)
              (one.own.items ++ program) before second new put_fed q

          module _ (two : Taping S) (third : Option (List ℕ))
              (q : PutSome (one.sent.items ++ frames) (one.own.items ++ program) two.sent.items two.own.items second
              third) where
            put_third : HasPut step start init (read ++ piece) two.sent.items two.own.items before third
            put_third =
                put_on step start init (read ++ piece) (one.sent.items ++ frames) (one.own.items ++ program)
                two.sent.items two.own.items before second third put_fed q

            pub cut_last : (new : Option (List ℕ)) → PutFront two.sent.items two.own.items third new
                → IsCut step start init (read ++ piece) before new
            cut_last new r =
                put_cut step start init (read ++ piece) two.sent.items two.own.items two.own.items before third new
                put_third r

            pub piece_taped : (over : Over E) (now : Taping S) (new : Option (List ℕ)) → now.talk ≡ two.talk
                → PutSome two.sent.items two.own.items now.sent.items now.own.items third new
                → AnswersAll step fed.session two.talk.session over fed.held.held two.talk.held.held
                → IsTaping step start init over (read ++ piece) now before new
            piece_taped over now new talk_now r a =
                let all = subst (λ (t : Conversation S).
                AnswersAll step fed.session t.session over fed.held.held t.held.held) (sym talk_now) a in
                let grows =
                grows_fed step start tape.talk.session fed.session read piece tape.talk.held.held fed.held.held
                h.is_state
                h.stops same whole now.talk.session now.talk.held.held over all in
                record {
                  put = put_on step start init (read ++ piece) two.sent.items two.own.items now.sent.items now.own.items
                      before third new put_third r;
                  is_state = grows.is_state;
                  stops = grows.stops;
                  is_left = left_fed step start tape.talk.session fed.session read piece tape.talk.held.held
                      fed.held.held h.is_state h.stops same whole now.talk.session now.talk.held.held over all;
                }
