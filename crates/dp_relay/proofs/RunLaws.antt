-- A lane's run, turn by turn.
use Rattle.std.proofs.Common.{◌≡◌, ℕ, ◌+◌, min, true, false, List, [], ◌++◌, length, take, drop, Result, Ok, Err, is_err}
use Rattle.std.specs.Prelude.{⊤, MatchResult, OnErr, OnOk}
use Rattle.std.specs.declared.option.Option.{Option}
use Rattle.std.proofs.Common.{refl, sym, ap, subst, ◌∙◌, inl, inr, append_assoc, append-nil, take-append-drop, arith}
use mathlib.Core.List.{IsPrefix}
use Rattle.dp_outside.specs.declared.sinks.Sink as sink_of
use Rattle.dp_outside.specs.declared.sources.Source as source_of
use Rattle.dp_wire.specs.declared.errors.WireError.{WireError}
use Rattle.dp_wire.specs.Received.{Received, last_place}
use Rattle.dp_lanes.specs.declared.lane.Lane.{Lane}
use Rattle.dp_lanes.specs.declared.lane.Lane.TheVariants as lane_of
use Rattle.dp_lanes.specs.declared.lane.LaneKind.{LaneKind}
use Rattle.dp_lanes.specs.declared.lane.LaneKind.TheVariants.{Up, Down}
use Rattle.dp_lanes.specs.Lanes.{frame, is_bad}
use Rattle.dp_lanes.specs.Passed.{HasPassed}
use Rattle.dp_lanes.specs.Places.{BeginsWith, IsPart, BeginsNone, Causes, Follows, IsBadIn, kind_of, received_in}
use Rattle.dp_lanes.proofs.PassedLaws.{passes_fed, passes_dropped, passes_front, passes_all, passes_follows, passes_good, passes_bad}
use Rattle.dp_relay.specs.declared.ends.LaneEnd.{LaneEnd}
use Rattle.dp_relay.specs.declared.ends.LaneEnd.TheVariants.{End, ReadFault, WriteFault, BadFrame, Memory}
use Rattle.dp_relay.specs.Ends.{Ends, Gives, Takes, Failed, SourceHeld, SinkHeld, ends}
use Rattle.dp_relay.specs.LaneRuns.{whole_frames, Passed, Ended, LaneRan}
use Rattle.dp_relay.specs.inner.Turns.{Stops, PutFails, Putting, Put, Behind, ReadFails, Fed, Going}
use Rattle.dp_relay.proofs.EndLaws.{gives_none, gives_on, takes_none, takes_on}

-- ---- a lane of this kind that has received so

abbrev lane_with : LaneKind → Received → Lane
lane_with Up received = lane_of.Up received
lane_with Down received = lane_of.Down received

with_kind : (kind : LaneKind) (received : Received) → kind_of (lane_with kind received) ≡ kind
with_kind Up received = refl
with_kind Down received = refl

with_received : (kind : LaneKind) (received : Received) → received_in (lane_with kind received) ≡ received
with_received Up received = refl
with_received Down received = refl

-- ---- what was written is a front of the frames of all

module _ (kind : LaneKind) (lane : Lane) (stream put : List ℕ) (h : HasPassed kind lane stream put) where
  pub in_front : IsPrefix put (whole_frames kind stream)
  in_front = let front = passes_front kind lane stream put h in (front.0, sym front.1)

  -- and with a front of the first frame
  pub with_front : (text rest : List ℕ) (n : ℕ) → BeginsWith (kind_of lane) (received_in lane).held text rest
      → IsPrefix (put ++ take n (frame kind text)) (whole_frames kind stream)
  with_front text rest n begins =
      let f = frame kind text in
      let end = min ((received_in lane).dropped + length (frame (kind_of lane) text)) last_place in
      let after : Received = record { held = rest; dropped = end } in
      let next = lane_with (kind_of lane) after in
      let is = with_received (kind_of lane) after in
      let gone : HasPassed kind next stream (put ++ f) = passes_dropped kind lane next stream put text rest h begins
      (with_kind (kind_of lane) after) (ap (λ (r : Received). r.held) is) (ap (λ (r : Received). r.dropped) is) in
      let front = passes_front kind next stream (put ++ f) gone in (
        drop n f ++ front.0,
        append_assoc put (take n f) (drop n f ++ front.0)
            ∙ ap (λ l. put ++ l) (sym (append_assoc (take n f) (drop n f) front.0)
            ∙ ap (λ l. l ++ front.0) (take-append-drop n f))
            ∙ sym (append_assoc put f front.0) ∙ sym front.1,
      )

  -- and whatever comes
  pub front_of_more : (piece : List ℕ) → IsPrefix put (whole_frames kind (stream ++ piece))
  front_of_more piece =
      let after : Received = record { held = (received_in lane).held ++ piece; dropped = (received_in lane).dropped } in
      let next = lane_with (kind_of lane) after in
      let is = with_received (kind_of lane) after in
      let fed : HasPassed kind next (stream ++ piece) put = passes_fed kind lane next stream put piece h
      (with_kind (kind_of lane) after) (ap (λ (r : Received). r.held) is) (ap (λ (r : Received). r.dropped) is) in
      let front = passes_front kind next (stream ++ piece) put fed in (front.0, sym front.1)

-- ---- frames are put

pub puts_none : (lane : Lane) (a : Option (List ℕ)) → Putting lane lane a a
puts_none lane a = record {
  written = [];
  takes = takes_none a;
  passes = λ kind stream put h. subst (λ (l : List ℕ). HasPassed kind lane stream l) (sym (append-nil put)) h;
}

pub puts_more : (old mid new : Lane) (a b c : Option (List ℕ)) (text rest : List ℕ) → Putting old mid a b
    → BeginsWith (kind_of mid) (received_in mid).held text rest → kind_of new ≡ kind_of mid
    → (received_in new).held ≡ rest
    → (received_in new).dropped ≡ min ((received_in mid).dropped + length (frame (kind_of mid) text)) last_place
    → Takes b c (frame (kind_of mid) text) → Putting old new a c
puts_more old mid new a b c text rest p begins way held dropped takes = record {
  written = p.written ++ frame (kind_of mid) text;
  takes = takes_on a b c p.written (frame (kind_of mid) text) p.takes takes;
  passes = λ kind stream put h.
      let so = p.passes kind stream put h in
      subst (λ (l : List ℕ). HasPassed kind new stream l)
      (append_assoc put p.written (frame kind text)
      ∙ ap (λ (k : LaneKind). put ++ (p.written ++ frame k text)) (sym so.way))
      (passes_dropped kind mid new stream (put ++ p.written) text rest so begins way held dropped);
}

module _ (old new : Lane) (a b : Option (List ℕ)) (m n : ℕ) (p : Putting old new a b) where
  -- more of a frame has to come
  pub puts_all : (done : ⊤) → n ≡ m → Put old new a b m n (Ok done)
  puts_all done same = record { written = p.written; takes = p.takes; stops = p.passes; fails = same }

  -- no frame begins what is held
  pub puts_bad : (offset : ℕ) (why : WireError) → BeginsNone (kind_of new) (received_in new).held
      → Causes (kind_of new) (received_in new) why
      → ((kind : LaneKind) (stream : List ℕ) → Follows kind new stream → is_bad kind stream ≡ true
      → IsBadIn kind stream offset)
      → n ≡ m → Put old new a b m n (Err (BadFrame offset))
  puts_bad offset why none cause place same = record {
    written = p.written;
    takes = p.takes;
    stops = λ kind stream put h.
        let so = p.passes kind stream put h in
        let bad = passes_bad kind new stream (put ++ p.written) so why none cause in (
          passes_all kind new stream (put ++ p.written) so (inr none),
          place kind stream (passes_follows kind new stream (put ++ p.written) so (inr none)) bad.bad,
        );
    fails = same;
  }

  -- the sink failed, after a front of the next frame
  pub puts_failed : (c : Option (List ℕ)) (o : ℕ) (text rest : List ℕ) (count : ℕ)
      → BeginsWith (kind_of new) (received_in new).held text rest
      → Takes b c (take count (frame (kind_of new) text)) → n ≡ m → Failed n o
      → Put old new a c m o (Err WriteFault)
  puts_failed c o text rest count begins takes same failed =
      let part = take count (frame (kind_of new) text) in record {
        written = p.written ++ part;
        takes = takes_on a b c p.written part p.takes takes;
        stops = λ kind stream put h.
            let so = p.passes kind stream put h in
            let front = with_front kind new stream (put ++ p.written) so text rest count begins in
            subst (λ (l : List ℕ). IsPrefix l (whole_frames kind stream))
            (append_assoc put p.written (take count (frame kind text))
            ∙ ap (λ (k : LaneKind). put ++ (p.written ++ take count (frame k text))) (sym so.way)) front;
        fails = subst (λ (k : ℕ). Failed k o) same failed;
      }

-- ---- how a put ended

pub put_ok : {T E : Type 0} (P Q : Type 0) (r : Result T E) → is_err r ≡ false → MatchResult r (λ _. P) (λ _. Q) → P
put_ok P Q (Ok done) n m = m
put_ok P Q (Err why) n m = absurd cc

pub put_err : {T E : Type 0} (P Q : Type 0) (r : Result T E) → is_err r ≡ true → MatchResult r (λ _. P) (λ _. Q) → Q
put_err P Q (Ok done) n m = absurd cc
put_err P Q (Err why) n m = m

pub on_err : {T E : Type 0} (Q : Type 0) (r : Result T E) → is_err r ≡ true → OnErr r Q → Q
on_err Q (Ok done) n m = absurd cc
on_err Q (Err why) n m = m

pub on_ok : {T E : Type 0} (Q : Type 0) (r : Result T E) → is_err r ≡ false → OnOk r Q → Q
on_ok Q (Ok done) n m = m
on_ok Q (Err why) n m = absurd cc

-- ---- by the end

stops_passed : (kind : LaneKind) (lane : Lane) (stream written : List ℕ) (end : LaneEnd)
    → Stops kind lane stream written (Err end) → Passed kind stream written end
stops_passed kind lane stream written End s = absurd s
stops_passed kind lane stream written ReadFault s = absurd s
stops_passed kind lane stream written WriteFault s = s
stops_passed kind lane stream written (BadFrame offset) s = s
stops_passed kind lane stream written Memory s = absurd s

put_ended : (kind : LaneKind) (lane : Lane) (stream written : List ℕ) (end : LaneEnd) (a b c : Ends)
    → Stops kind lane stream written (Err end) → SourceHeld a b → SinkHeld a b → SourceHeld b c
    → PutFails (Err end) b.sink_faults c.sink_faults → Ended a c end
put_ended kind lane stream written End a b c s p q r f = absurd s
put_ended kind lane stream written ReadFault a b c s p q r f = absurd s
put_ended kind lane stream written WriteFault a b c s p q r f =
    (r ∙ p, subst (λ (n : ℕ). Failed n c.sink_faults) q f)
put_ended kind lane stream written (BadFrame offset) a b c s p q r f = (r ∙ p, f ∙ q)
put_ended kind lane stream written Memory a b c s p q r f = absurd s

module _ (kind : LaneKind) (lane : Lane) (stream written : List ℕ) (h : HasPassed kind lane stream written)
    (part : IsPart (kind_of lane) (received_in lane).held) where
  all_passed : (written ≡ whole_frames kind stream) × (is_bad kind stream ≡ false)
  all_passed = (passes_all kind lane stream written h (inl part), passes_good kind lane stream written h part)

  read_passed : (last : Lane) (piece : List ℕ) (end : LaneEnd) → Behind lane last piece (Err end)
      → Passed kind (stream ++ piece) written end
  read_passed last piece End b = absurd b
  read_passed last piece ReadFault b =
      subst (λ (l : List ℕ). (written ≡ whole_frames kind l) × (is_bad kind l ≡ false))
      (sym (ap (λ l. stream ++ l) b.0 ∙ append-nil stream)) all_passed
  read_passed last piece WriteFault b = absurd b
  read_passed last piece (BadFrame offset) b = absurd b
  read_passed last piece Memory b = front_of_more kind lane stream written h piece

read_ended : (old new : Lane) (piece : List ℕ) (end : LaneEnd) (a b c : Ends) → Behind old new piece (Err end)
    → SourceHeld a b → SinkHeld a b → SinkHeld b c → ReadFails (Err end) b.source_faults c.source_faults
    → Ended a c end
read_ended old new piece End a b c s p q r f = absurd s
read_ended old new piece ReadFault a b c s p q r f =
    (subst (λ (n : ℕ). Failed n c.source_faults) p f, r ∙ q)
read_ended old new piece WriteFault a b c s p q r f = absurd s
read_ended old new piece (BadFrame offset) a b c s p q r f = absurd s
read_ended old new piece Memory a b c s p q r f = (f ∙ p, r ∙ q)

-- ---- turns

pub begins : (lane : Lane) (a : Ends) → (received_in lane).dropped ≡ 0
    → Going (kind_of lane) (received_in lane).held a a lane
begins lane a start = record {
  read = [];
  written = [];
  gave = gives_none a.left a.given;
  took = takes_none a.taken;
  passed = record {
    way = refl;
    texts = [];
    each = tt;
    whole = append-nil (received_in lane).held;
    put = refl;
    dropped = omega (arith, start);
  };
  source = refl;
  sink = refl;
}

module _ {S K : Type 0} (s : source_of.Ghosts S) (k : sink_of.Ghosts K) (kind : LaneKind) (held : List ℕ) (a : Ends)
    (x : S) (y z : K) (lane mid : Lane) (go : Going kind held a (ends s k x y) lane) where
  -- the putting ended it
  pub ends_putting : (end : LaneEnd) → Put lane mid (k.taken y) (k.taken z) (k.faults y) (k.faults z) (Err end)
      → LaneRan kind held a (ends s k x z) end
  ends_putting end put =
      let stop = put.stops kind (held ++ go.read) go.written go.passed in record {
        read = go.read;
        written = go.written ++ put.written;
        gave = go.gave;
        took = takes_on a.taken (k.taken y) (k.taken z) go.written put.written go.took put.takes;
        passed = stops_passed kind mid (held ++ go.read) (go.written ++ put.written) end stop;
        ended = put_ended kind mid (held ++ go.read) (go.written ++ put.written) end a (ends s k x y) (ends s k x z)
            stop go.source go.sink refl put.fails;
      }

  -- all was put
  pub goes_on : (done : ⊤) → Put lane mid (k.taken y) (k.taken z) (k.faults y) (k.faults z) (Ok done)
      → Going kind held a (ends s k x z) mid
  goes_on done put = record {
    read = go.read;
    written = go.written ++ put.written;
    gave = go.gave;
    took = takes_on a.taken (k.taken y) (k.taken z) go.written put.written go.took put.takes;
    passed = put.stops kind (held ++ go.read) go.written go.passed;
    source = go.source;
    sink = put.fails ∙ go.sink;
  }

module _ {S K : Type 0} (s : source_of.Ghosts S) (k : sink_of.Ghosts K) (kind : LaneKind) (held : List ℕ) (a : Ends)
    (x w : S) (y : K) (lane last : Lane) (go : Going kind held a (ends s k x y) lane) where
  gave : (piece : List ℕ) → Gives (s.left x) (s.left w) (s.given x) (s.given w) piece
      → Gives a.left (s.left w) a.given (s.given w) (go.read ++ piece)
  gave piece gives = gives_on a.left (s.left x) (s.left w) a.given (s.given x) (s.given w) go.read piece go.gave gives

  module _ (part : IsPart (kind_of lane) (received_in lane).held) where
    -- the reading ended it
    pub ends_reading : (end : LaneEnd)
        → Fed lane last (s.left x) (s.left w) (s.given x) (s.given w) (s.faults x) (s.faults w) (Err end)
        → LaneRan kind held a (ends s k w y) end
    ends_reading end fed = record {
      read = go.read ++ fed.piece;
      written = go.written;
      gave = gave fed.piece fed.gives;
      took = go.took;
      passed = subst (λ (l : List ℕ). Passed kind l go.written end) (append_assoc held go.read fed.piece)
          (read_passed kind lane (held ++ go.read) go.written go.passed part last fed.piece end fed.behind);
      ended = read_ended lane last fed.piece end a (ends s k x y) (ends s k w y) fed.behind go.source go.sink refl
          fed.fails;
    }

    -- nothing more came
    pub ends_well : Fed lane last (s.left x) (s.left w) (s.given x) (s.given w) (s.faults x) (s.faults w) (Ok false)
        → LaneRan kind held a (ends s k w y) End
    ends_well fed = record {
      read = go.read ++ fed.piece;
      written = go.written;
      gave = gave fed.piece fed.gives;
      took = go.took;
      passed = subst (λ (l : List ℕ). (go.written ≡ whole_frames kind l) × (is_bad kind l ≡ false))
          (sym (ap (λ l. held ++ (go.read ++ l)) fed.behind.0 ∙ ap (λ l. held ++ l) (append-nil go.read)))
          (all_passed kind lane (held ++ go.read) go.written go.passed part);
      ended = (fed.fails ∙ go.source, go.sink, fed.at_end);
    }

  -- a piece came
  pub goes_further : kind_of last ≡ kind_of lane
      → Fed lane last (s.left x) (s.left w) (s.given x) (s.given w) (s.faults x) (s.faults w) (Ok true)
      → Going kind held a (ends s k w y) last
  goes_further way fed = record {
    read = go.read ++ fed.piece;
    written = go.written;
    gave = gave fed.piece fed.gives;
    took = go.took;
    passed = subst (λ (l : List ℕ). HasPassed kind last l go.written) (append_assoc held go.read fed.piece)
        (passes_fed kind lane last (held ++ go.read) go.written fed.piece go.passed way fed.behind.0 fed.behind.1);
    source = fed.fails ∙ go.source;
    sink = go.sink;
  }

-- no turn is left
pub ends_late : (kind : LaneKind) (held : List ℕ) (a b : Ends) (lane : Lane) → Going kind held a b lane
    → LaneRan kind held a b Memory
ends_late kind held a b lane go = record {
  read = go.read;
  written = go.written;
  gave = go.gave;
  took = go.took;
  passed = in_front kind lane (held ++ go.read) go.written go.passed;
  ended = (go.source, go.sink);
}
