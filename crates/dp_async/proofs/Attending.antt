-- What a session that was served over a post has heard of what its reader put there.
use Rattle.std.proofs.Common.{◌≡◌, ℕ, ◌+◌, ◌-◌, ◌≤◌, ◌<◌, Bool, true, false, true≢false, ◌&&◌, ◌||◌, nat_lt}
use Rattle.std.proofs.Common.{List, [], ◌∷◌, ◌++◌, length, take, drop, Option, None, Some, Result, Ok, Err, MatchResult}
use Rattle.std.proofs.Common.{refl, sym, ap, ◌∙◌, subst, append_assoc, append-nil, take-append-drop, take_all, arith}
use Rattle.std.proofs.lemmas.Bool.Decides.{nat_tests}
use Rattle.std.proofs.lemmas.List.{drop_all}
use mathlib.Core.List.{IsPrefix}
use Rattle.atomic_table.specs.Seated.{TableId}
use Rattle.dp_outside.specs.Causes.{Rose}
use Rattle.dp_outside.specs.Changes.{Change}
use Rattle.dp_polled.specs.declared.piece.Piece.{Piece}
use Rattle.dp_polled.specs.declared.piece.Piece.TheVariants as piece
use Rattle.dp_polled.specs.Polls.{wait_is_over}
use Rattle.dp_polled.specs.Posts.{IsWhole, Known, seat_of}
use Rattle.dp_polled.specs.Posted.{CameIf, HasOnlyTaken, IsKept, IsLast, State, Waited, given, is_over, is_spent, rest, wait_moved, waits}
use Rattle.dp_polled.specs.Posted.{bytes_in as bytes_in_piece, bytes_of as bytes_in}
use Rattle.dp_polled.proofs.Giving.{goes_itself, goes_on_and_on}
use Rattle.dp_tree.specs.declared.bundle.Bundle.{Bundle}
use Rattle.dp_engine.specs.declared.service.ServeEnd.{ServeEnd}
use Rattle.dp_engine.specs.declared.service.ServeEnd.TheVariants.{Stopped, Detached, LinkEnd, ReadFault, WriteFault, OutFault, BadCommandFrame, ByteLimit, Memory}
use Rattle.dp_async.specs.declared.service.AsyncServed.{AsyncServed}
use Rattle.dp_async.specs.declared.errors.AsyncError.{AsyncError}
use Rattle.dp_async.specs.declared.errors.AsyncError.TheVariants as error_of
use Rattle.dp_async.specs.Beside.{Attends, AttendsNot, EndsByInput, Flow, HeardFront, new_input}
use Rattle.dp_async.specs.Heard.{bytes_of}
use Rattle.dp_async.specs.Served.{HeardCutBy, HeardEndsBy, HasSaidOver, Hears, HearsTo, Input, IsLater, Reads}
use Rattle.dp_async.specs.inner.Reading.{AllGoOn, IsListener, IsReader, ReadsOut, SessionRan, TakesRest}
use Rattle.dp_async.proofs.Reading.{bytes_more}

-- ---- the rest is taken

pub record TakesSoFar (before now : State) : Type 0 where
  pub takes : HasOnlyTaken before.seat now.seat
  pub stays : is_over before.kept ≡ true → (now.seat ≡ before.seat) × (is_over now.kept ≡ true)
  pub later : before.faults ≤ now.faults

pub takes_first : (p : State) → TakesSoFar p p
takes_first p = record { takes = goes_itself p.seat; stays = λ e. (refl, e); later = omega arith }

and_false : (b : Bool) → (b && false) ≡ false
and_false true = refl
and_false false = refl

over_unspent : (kept : Option Piece) (at : ℕ) → is_over kept ≡ true → is_spent kept at ≡ false
over_unspent None at e = absurd (true≢false (sym e))
over_unspent (Some (piece.Bytes bytes)) at e = absurd (true≢false (sym e))
over_unspent (Some piece.End) at e = refl
over_unspent (Some piece.Failed) at e = refl

moved_seat : {E : Type 0} (result : Result ℕ E) (p : State) → (wait_moved result p).seat ≡ p.seat
moved_seat (Ok n) p = refl
moved_seat (Err failed) p = refl

moved_kept : {E : Type 0} (result : Result ℕ E) (p : State) → (wait_moved result p).kept ≡ p.kept
moved_kept (Ok n) p = refl
moved_kept (Err failed) p = refl

-- where the input is over a wait takes nothing
waited_stays : {E : Type 0} (room : ℕ) (s : State) (result : Result ℕ E) (t : State) → Waited room s result t
    → is_over s.kept ≡ true → (t.seat ≡ s.seat) × (is_over t.kept ≡ true)
waited_stays room s result t w over =
    let not : waits room s ≡ false =
    ap (λ (b : Bool). nat_lt 0 room && b) (over_unspent s.kept s.at over) ∙ and_false (nat_lt 0 room) in
    let same : w.middle ≡ s = subst (λ (b : Bool). CameIf b s w.middle) not w.comes in (
      ap (λ (u : State). u.seat) w.moves ∙ moved_seat result w.middle ∙ ap (λ (u : State). u.seat) same,
      ap (λ (u : State). is_over u.kept) w.moves ∙ ap is_over (moved_kept result w.middle)
          ∙ ap (λ (u : State). is_over u.kept) same ∙ over,
    )

pub takes_more : {E : Type 0} (room : ℕ) (p s t : State) (result : Result ℕ E) → TakesSoFar p s
    → Waited room s result t → HasOnlyTaken s.seat t.seat → s.faults ≤ t.faults → TakesSoFar p t
takes_more room p s t result q w goes later = record {
  takes = goes_on_and_on p.seat s.seat t.seat q.takes goes;
  stays = λ over.
      let was = q.stays over in
      let is = waited_stays room s result t w was.1 in
      (is.0 ∙ was.0, is.1);
  later = omega (arith, q.later, later);
}

pub takes_rest : (p t : State) → TakesSoFar p t → is_over t.kept ≡ true → TakesRest p t
takes_rest p t q over = record { over = over; takes = q.takes; stays = λ e. (q.stays e).0; later = q.later }

pub or_true : (b : Bool) → (b || true) ≡ true
or_true true = refl
or_true false = refl

-- a wait with room that gave nothing has come to the end
pub wait_over : {E : Type 0} (b : Bool) (result : Result ℕ E) (room : ℕ) → result ≡ Ok 0 → 0 < room
    → (b || wait_is_over result room) ≡ true
wait_over {E} b result room e some =
    let test : nat_lt 0 room ≡ true = grind (arith, nat_tests) in
    ap (λ (r : Result ℕ E). b || wait_is_over r room) e ∙ ap (λ (t : Bool). b || t) test ∙ or_true b

-- ---- what was heard

-- what a post tells as an input
abbrev pub told : State → Input
told p = record {
  left = None;
  given = Some (given p);
  over = Some (is_over p.kept);
  post = Some p.seat.post;
  faults = p.faults;
  looks = p.looks;
}

-- a post of which nothing was taken
abbrev pub fresh : Known → State
fresh seat = record { seat = seat; kept = None; at = 0; looks = 0; faults = 0 }

told_fresh : (post : TableId) (seat : Known) → IsListener post seat → told (fresh seat) ≡ new_input post
told_fresh post seat l =
    ap (λ (taken : List Piece). told (fresh (record seat { taken = taken }))) l.none
    ∙ ap (λ (z : TableId). told (fresh (record seat { taken = []; post = z }))) l.post_is

-- the log has a front of what was read, unless memory ran out
module _ (served : AsyncServed) (bundle : Bundle) (bound : ℕ) (key : List ℕ) (before now : Input) (sink out : Change)
  where
    heard_front : (e : ServeEnd) (read : List ℕ) → HearsTo e served bundle bound key before now sink out
        → served.served.end ≡ e → (Reads before now (bytes_of served.log) → IsPrefix (bytes_of served.log) read)
        → HeardFront e (bytes_of served.log) read
    heard_front Stopped read h is front = front h.read
    heard_front Detached read h is front = front h.read
    heard_front LinkEnd read h is front = front h.read
    heard_front ReadFault read h is front = front h.read
    heard_front WriteFault read h is front =
        front (subst (λ (x : ServeEnd). HeardCutBy x served.log before now sink out) is h.by).1
    heard_front OutFault read h is front =
        front (subst (λ (x : ServeEnd). HeardCutBy x served.log before now sink out) is h.by).1
    heard_front (BadCommandFrame offset) read h is front = front h.read
    heard_front ByteLimit read h is front = front h.read
    heard_front Memory read h is front = tt

    -- what is told where the session has come to the end of its input, or to its failure
    abbrev Ended : Type 0
    Ended = Reads before now (bytes_of served.log) × HasSaidOver now.over

    heard_end : (e : ServeEnd) → HearsTo e served bundle bound key before now sink out → served.served.end ≡ e
        → EndsByInput e → Ended
    heard_end LinkEnd h is by =
        (h.read, (subst (λ (x : ServeEnd). HeardEndsBy x served.log h.ended h.rest before now) is h.ends).3)
    heard_end ReadFault h is by =
        (h.read, (subst (λ (x : ServeEnd). HeardEndsBy x served.log h.ended h.rest before now) is h.ends).3)
    heard_end Stopped h is by = absurd by
    heard_end Detached h is by = absurd by
    heard_end WriteFault h is by = absurd by
    heard_end OutFault h is by = absurd by
    heard_end (BadCommandFrame offset) h is by = absurd by
    heard_end ByteLimit h is by = absurd by
    heard_end Memory h is by = absurd by

    heard_fault : HearsTo served.served.end served bundle bound key before now sink out
        → served.served.end ≡ ReadFault → Rose before.faults now.faults
    heard_fault h is =
        let heard = subst (λ (x : ServeEnd). HearsTo x served bundle bound key before now sink out) is h in
        (subst (λ (x : ServeEnd). HeardEndsBy x served.log heard.ended heard.rest before now) is heard.ends).2

-- ---- what was taken

bytes_on : (ps qs : List Piece) → bytes_in (ps ++ qs) ≡ bytes_in ps ++ bytes_in qs
bytes_on [] qs = refl
bytes_on (p ∷ ps) qs =
    ap (λ (l : List ℕ). bytes_in_piece p ++ l) (bytes_on ps qs)
    ∙ sym (append_assoc (bytes_in_piece p) (bytes_in ps) (bytes_in qs))

bytes_front : (ps qs : List Piece) → IsPrefix ps qs → IsPrefix (bytes_in ps) (bytes_in qs)
bytes_front ps qs front = (bytes_in front.0, sym (bytes_on ps front.0) ∙ ap bytes_in front.1)

prefix_on : (xs ys zs : List ℕ) → IsPrefix xs ys → IsPrefix ys zs → IsPrefix xs zs
prefix_on xs ys zs p q = (p.0 ++ q.0, sym (append_assoc xs p.0 q.0) ∙ (ap (λ w. w ++ q.0) p.1 ∙ q.1))

-- what was given begins what was taken
given_front : (v : State) → IsPrefix (given v) (bytes_in v.seat.taken)
given_front v =
    let all = bytes_in v.seat.taken in
    let n = length all - length (rest v.kept v.at) in (drop n all, take-append-drop n all)

over_rest : (kept : Option Piece) (at : ℕ) → is_over kept ≡ true → rest kept at ≡ []
over_rest None at e = absurd (true≢false (sym e))
over_rest (Some (piece.Bytes bytes)) at e = absurd (true≢false (sym e))
over_rest (Some piece.End) at e = drop_all at [] (omega arith)
over_rest (Some piece.Failed) at e = drop_all at [] (omega arith)

-- all of it, where the input is over
given_all : (v : State) → is_over v.kept ≡ true → given v ≡ bytes_in v.seat.taken
given_all v over =
    let all = bytes_in v.seat.taken in
    ap (λ (l : List ℕ). take (length all - length l) all) (over_rest v.kept v.at over)
    ∙ take_all (length all - 0) all (omega arith)

-- the piece that says so is the last
abbrev LastOf : Option Piece → List Piece → Type 0
LastOf kept taken =
    (pieces : List Piece) × (last : Piece) × (taken ≡ pieces ++ last ∷ []) × (is_over (Some last) ≡ true)
    × (kept ≡ Some last)

last_of : (kept : Option Piece) (taken : List Piece) → IsLast kept taken → is_over kept ≡ true → LastOf kept taken
last_of None taken l over = absurd (true≢false (sym over))
last_of (Some p) taken l over = (l.0, p, l.1, over, refl)

last_is : (last : Piece) (kept : Option Piece) → kept ≡ Some last → kept ≡ Some piece.Failed → last ≡ piece.Failed
last_is last kept is failed = cc

some_post : (a b : TableId) → Some a ≡ Some b → a ≡ b
some_post a b e = cc

-- a session was served over its post, and took the rest
pub session_ran : (served : AsyncServed) (bundle : Bundle) (bound : ℕ) (key : List ℕ) (post : TableId) (first : Known)
    (u v w : State) (seat : Known) (sink out : Change) → IsListener post first → u ≡ fresh first
    → Hears served bundle bound key (told u) (told v) sink out → IsLater (told u) (told v) → TakesRest v w
    → seat ≡ w.seat → seat.may_take ≡ true → IsKept seat.taken w.kept w.at w.faults
    → sink.faults_before ≤ sink.faults → out.faults_before ≤ out.faults
    → SessionRan served bundle bound key post seat sink out
session_ran served bundle bound key post first u v w seat sink out listener is hears later takes ends may kept
    sink_later out_later =
    record {
      post_is = ap (λ (k : Known). k.post) ends ∙ takes.takes.post
          ∙ some_post v.seat.post post (subst (λ (i : Input). (told v).post ≡ i.post) begins later.1);
      right = may;
      input = told v;
      hears = heard;
      front = heard_front served bundle bound key (new_input post) (told v) sink out served.served.end
          (bytes_in seat.taken) heard refl (λ read. subst (λ (l : List ℕ). IsPrefix l (bytes_in seat.taken))
          (read.given) given_taken);
      all = λ by.
          let end = heard_end served bundle bound key (new_input post) (told v) sink out served.served.end in
          let e = end heard refl by in
          sym e.0.given ∙ given_all v e.1 ∙ sym (taken_is (takes.stays e.1));
      pieces = last.0;
      last = last.1;
      taken = last.2;
      over = last.3;
      failed = λ fault.
          let rose = heard_fault served bundle bound key (new_input post) (told v) sink out heard fault in
          let faults = takes.later in
          last_is last.1 w.kept last.4 (kept.failed (omega (arith, rose, faults)));
      sink_later = sink_later;
      out_later = out_later;
    }
  where
    begins : told u ≡ new_input post
    begins = ap told is ∙ told_fresh post first listener

    heard : Hears served bundle bound key (new_input post) (told v) sink out
    heard = subst (λ (i : Input). Hears served bundle bound key i (told v) sink out) begins hears

    last : LastOf w.kept seat.taken
    last = last_of w.kept seat.taken kept.last takes.over

    taken_is : w.seat ≡ v.seat → bytes_in seat.taken ≡ bytes_in v.seat.taken
    taken_is same = ap (λ (k : Known). bytes_in k.taken) (ends ∙ same)

    given_taken : IsPrefix (given v) (bytes_in seat.taken)
    given_taken =
        prefix_on (given v) (bytes_in v.seat.taken) (bytes_in seat.taken) (given_front v)
        (bytes_front v.seat.taken seat.taken
        (subst (λ (k : Known). IsPrefix v.seat.taken k.taken) (sym ends) takes.takes.taken))

-- ---- what the reader put

-- a piece that says that the input is over, and that was taken, is the last that was put
nothing_behind : (front pieces : List Piece) (last end : Piece) (more : List Piece) → is_over (Some last) ≡ true
    → AllGoOn pieces → (front ++ last ∷ []) ++ more ≡ pieces ++ end ∷ [] → (last ≡ end) × (more ≡ [])
nothing_behind [] [] last end more over all e = (cc, cc)
nothing_behind [] (p ∷ ps) last end more over all e =
    let same : last ≡ p = cc in
    absurd (true≢false (sym over ∙ ap (λ (x : Piece). is_over (Some x)) same ∙ all.0))
nothing_behind (x ∷ []) [] last end more over all e = absurd cc
nothing_behind (x ∷ y ∷ xs) [] last end more over all e = absurd cc
nothing_behind (x ∷ xs) (p ∷ ps) last end more over all e = nothing_behind xs ps last end more over all.1 cc

over_empty : (p : Piece) → is_over (Some p) ≡ true → bytes_in_piece p ≡ []
over_empty (piece.Bytes bytes) e = absurd (true≢false (sym e))
over_empty piece.End e = refl
over_empty piece.Failed e = refl

-- a session has attended to what its reader read
pub attends : (served : AsyncServed) (bundle : Bundle) (bound : ℕ) (key : List ℕ) (post : TableId) (seat put : Known)
    (before now : Flow) (starved : Bool) (sink out : Change)
    → SessionRan served bundle bound key post seat sink out → ReadsOut before now post put starved
    → IsPrefix seat.taken put.put → starved ≡ false → Attends served bundle bound key before now sink out
attends served bundle bound key post seat put before now starved sink out ran reads front fed = record {
  post = post;
  input = ran.input;
  hears = ran.hears;
  bytes = reads.bytes;
  gives = reads.gives;
  front = subst (HeardFront served.served.end (bytes_of served.log)) all ran.front;
  all = λ by. ran.all by ∙ all;
  failed = λ fault. reads.failed fed (sym last.0 ∙ ran.failed fault);
} where
  last : (ran.last ≡ reads.last) × (front.0 ≡ [])
  last =
      nothing_behind ran.pieces reads.pieces ran.last reads.last front.0 ran.over reads.go_on
      (ap (λ (l : List Piece). l ++ front.0) (sym ran.taken) ∙ front.1 ∙ reads.put)

  same : seat.taken ≡ put.put
  same = sym (append-nil seat.taken) ∙ ap (λ (l : List Piece). seat.taken ++ l) (sym last.1) ∙ front.1

  all : bytes_in seat.taken ≡ reads.bytes
  all =
      ap bytes_in (same ∙ reads.put) ∙ bytes_more reads.pieces reads.last
      ∙ ap (λ (l : List ℕ). bytes_in reads.pieces ++ l) (over_empty reads.last reads.over)
      ∙ append-nil (bytes_in reads.pieces) ∙ reads.all fed

-- ---- both are done

pub listens : (post : TableId) (seat : Known) → seat ≡ seat_of post false true → IsListener post seat
listens post seat e = record {
  post_is = ap (λ (k : Known). k.post) e;
  right = ap (λ (k : Known). k.may_take) e;
  none = ap (λ (k : Known). k.taken) e;
}

pub puts : (post : TableId) (seat : Known) → seat ≡ seat_of post true false → IsReader post seat
puts post seat e = record {
  post_is = ap (λ (k : Known). k.post) e;
  right = ap (λ (k : Known). k.may_put) e;
  none = ap (λ (k : Known). k.put) e;
}

pub is_whole : (post : TableId) (seat : Known) → seat ≡ seat_of post true true → IsWhole seat
is_whole post seat e = record {
  put = ap (λ (k : Known). k.put) e;
  taken = ap (λ (k : Known). k.taken) e;
  may_put = ap (λ (k : Known). k.may_put) e;
  may_take = ap (λ (k : Known). k.may_take) e;
}

-- what the call answers: the session that was served, unless memory ran out of the reader
abbrev pub Answered : Result AsyncServed AsyncError → Bundle → ℕ → List ℕ → ℕ → ℕ → Flow → Flow → Change → Change
    → Type 0
Answered result bundle bound key faults_before faults before now sink out =
    MatchResult result (λ served. Attends served bundle bound key before now sink out)
    (λ error. AttendsNot error faults_before faults before now sink out)

abbrev pub JoinedTo : Result AsyncServed AsyncError → AsyncServed → Bool → Type 0
JoinedTo result served starved =
    MatchResult result (λ given. (given ≡ served) × (starved ≡ false))
    (λ error. (error ≡ error_of.Memory) × (starved ≡ true))

pub answered : (result : Result AsyncServed AsyncError) (served : AsyncServed) (starved : Bool) (bundle : Bundle)
    (bound : ℕ) (key : List ℕ) (post : TableId) (seat put : Known) (faults_before faults : ℕ) (before now : Flow)
    (sink out : Change) → JoinedTo result served starved → SessionRan served bundle bound key post seat sink out
    → ReadsOut before now post put starved → IsPrefix seat.taken put.put → faults ≡ faults_before
    → Answered result bundle bound key faults_before faults before now sink out
answered (Ok given) served starved bundle bound key post seat put faults_before faults before now sink out joined ran
    reads front same =
    subst (λ (s : AsyncServed). Attends s bundle bound key before now sink out) (sym joined.0)
    (attends served bundle bound key post seat put before now starved sink out ran reads front joined.1)
answered (Err error) served starved bundle bound key post seat put faults_before faults before now sink out joined ran
    reads front same =
    subst (λ (e : AsyncError). AttendsNot e faults_before faults before now sink out) (sym joined.0)
    (same, reads.bytes, reads.gives)
