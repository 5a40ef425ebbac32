-- Lines that are put on a tape: what they tell, how they join, and how far a session is taped by them.
use Rattle.std.proofs.Common.{◌≡◌, ℕ, zero, suc, ◌+◌, ◌-◌, ◌≤◌, List, [], ◌∷◌, ◌++◌, length, take, drop, Option, refl, sym, ap, ◌∙◌, subst, append_assoc, append-nil, inl, inr, arith, take-append-drop}
use Rattle.std.proofs.KnownBytes.{Appends-nil, Appends-trans}
use Rattle.std.proofs.lemmas.Bool.{cases_lt}
use Rattle.std.proofs.lemmas.List.{take_all, take-append-le}
use Rattle.std.proofs.lemmas.List.Concat.{flat_map-append}
use Rattle.std.proofs.Math.Seq.{take-append-add}
use Rattle.std.specs.Io.KnownBytes.{Appends}
use Rattle.std.specs.List.{AllByRecursion, flat_map}
use Rattle.dp_conversation.specs.Folds.{Reply}
use Rattle.dp_conversation.specs.Growth.{served}
use Rattle.dp_conversation.specs.Service.{byte_limit}
use Rattle.dp_conversation.proofs.FrontLaws.{front_after, front_all}
use Rattle.dp_outside.specs.Streams.{AppendsFront}
use Rattle.dp_records.specs.declared.entry.Entry.{Entry}
use Rattle.dp_records.specs.declared.entry.Stream.{Stream}
use Rattle.dp_records.specs.declared.entry.Stream.TheVariants.{In, Out, Own}
use Rattle.dp_records.specs.Records.{IsPiece, bytes_in, bytes_out, bytes_own, given, line_of, own, sent}
use Rattle.dp_records.specs.Verdicts.{Agrees, AgreesThroughout}
use Rattle.dp_records.specs.inner.Audits.{sends}
use Rattle.dp_records.specs.inner.Tapings.{AreOn, FrontOn, HasPut, IsCut, PutFront, PutOn, PutSome, TellSome, Tells}
use Rattle.dp_records.proofs.RecordLaws.{given_append, given_length, pieces_join}
use Rattle.dp_records.proofs.TurnLaws.{Adds}
use Rattle.dp_wire.specs.Frames.{packet_frame}

-- ---- what lines tell

pub sent_append : (es fs : List Entry) → sent (es ++ fs) ≡ sent es ++ sent fs
sent_append es fs = flat_map-append (λ (e : Entry). bytes_out e.stream e.bytes) es fs

pub own_append : (es fs : List Entry) → own (es ++ fs) ≡ own es ++ own fs
own_append es fs = flat_map-append (λ (e : Entry). bytes_own e.stream e.bytes) es fs

lines_append : (es fs : List Entry) → flat_map line_of (es ++ fs) ≡ flat_map line_of es ++ flat_map line_of fs
lines_append es fs = flat_map-append line_of es fs

-- lines that all tell what was sent
told_out : (es : List Entry) → AllByRecursion (λ e. e.stream ≡ Out) es
    → (sent es ≡ flat_map (λ (e : Entry). e.bytes) es) × (own es ≡ []) × (given es ≡ [])
told_out [] all = (refl, refl, refl)
told_out (e ∷ es) all =
    let rest = told_out es all.1 in (
      λ i. bytes_out (all.0 i) e.bytes ++ rest.0 i,
      λ i. bytes_own (all.0 i) e.bytes ++ rest.1 i,
      λ i. bytes_in (all.0 i) e.bytes ++ rest.2 i,
    )

told_own : (es : List Entry) → AllByRecursion (λ e. e.stream ≡ Own) es
    → (own es ≡ flat_map (λ (e : Entry). e.bytes) es) × (sent es ≡ []) × (given es ≡ [])
told_own [] all = (refl, refl, refl)
told_own (e ∷ es) all =
    let rest = told_own es all.1 in (
      λ i. bytes_own (all.0 i) e.bytes ++ rest.0 i,
      λ i. bytes_out (all.0 i) e.bytes ++ rest.1 i,
      λ i. bytes_in (all.0 i) e.bytes ++ rest.2 i,
    )

-- ---- lines of one stream

pub on_none : (stream : Stream) (bytes : List ℕ) → AreOn stream bytes [] bytes
on_none stream bytes = record { each = tt; all = tt; whole = refl }

pub on_more : (stream : Stream) (bytes rest piece more : List ℕ) (es : List Entry) → AreOn stream bytes es rest
    → rest ≡ piece ++ more → IsPiece piece
    → AreOn stream bytes (es ++ record { stream = stream; bytes = piece } ∷ []) more
on_more stream bytes rest piece more es on whole is =
    let e : Entry = record { stream = stream; bytes = piece } in
    let told = λ (x : Entry). x.bytes in
    record {
      each = pieces_join es (e ∷ []) on.each (is, tt);
      all = all_join es on.all;
      whole =
          on.whole ∙ ap (λ l. flat_map told es ++ l) (whole ∙ ap (λ l. l ++ more) (sym (append-nil piece)))
          ∙ sym (append_assoc (flat_map told es) (flat_map told (e ∷ [])) more)
          ∙ ap (λ l. l ++ more) (sym (flat_map-append told es (e ∷ [])));
    } where
      all_join : (fs : List Entry) → AllByRecursion (λ x. x.stream ≡ stream) fs
          → AllByRecursion (λ x. x.stream ≡ stream) (fs ++ record { stream = stream; bytes = piece } ∷ [])
      all_join [] all = (refl, tt)
      all_join (f ∷ fs) all = (all.0, all_join fs all.1)

-- ---- lines that tell some of what there is

tell_out : (s o rest : List ℕ) (es : List Entry) → AreOn Out s es rest → TellSome s o es rest o
tell_out s o rest es on =
    let told = told_out es on.all in
    record {
      each = on.each;
      none_given = told.2;
      sent_reported = on.whole ∙ ap (λ l. l ++ rest) (sym told.0);
      own_reported = ap (λ l. l ++ o) (sym told.1);
    }

tell_own : (s o rest : List ℕ) (es : List Entry) → AreOn Own o es rest → TellSome s o es s rest
tell_own s o rest es on =
    let told = told_own es on.all in
    record {
      each = on.each;
      none_given = told.2;
      sent_reported = ap (λ l. l ++ s) (sym told.1);
      own_reported = on.whole ∙ ap (λ l. l ++ rest) (sym told.0);
    }

-- what is told by more lines, of what was left
more_told : (all first left second rest both : List ℕ) → all ≡ first ++ left → left ≡ second ++ rest
    → both ≡ first ++ second → all ≡ both ++ rest
more_told all first left second rest both a b c =
    a ∙ ap (λ l. first ++ l) b ∙ sym (append_assoc first second rest) ∙ ap (λ l. l ++ rest) (sym c)

module _ (s o sl ol : List ℕ) where
  tell_join : (sr wr : List ℕ) (es fs : List Entry) → TellSome s o es sl ol → TellSome sl ol fs sr wr
      → TellSome s o (es ++ fs) sr wr
  tell_join sr wr es fs a b = record {
    each = pieces_join es fs a.each b.each;
    none_given = given_append es fs ∙ (λ i. a.none_given i ++ b.none_given i);
    sent_reported = more_told s (sent es) sl (sent fs) sr (sent (es ++ fs)) a.sent_reported b.sent_reported
        (sent_append es fs);
    own_reported = more_told o (own es) ol (own fs) wr (own (es ++ fs)) a.own_reported b.own_reported
        (own_append es fs);
  }

-- ---- lines that were put

-- bytes that grew by the lines of these, and then by those
pub lines_put : (a b c : Option (List ℕ)) (es fs : List Entry) → Appends a b (flat_map line_of es)
    → Appends b c (flat_map line_of fs) → Appends a c (flat_map line_of (es ++ fs))
lines_put a b c es fs p q =
    subst (Appends a c) (sym (lines_append es fs)) (Appends-trans a b c (flat_map line_of es) (flat_map line_of fs) p q)

lines_front : (a b c : Option (List ℕ)) (es fs : List Entry) → Appends a b (flat_map line_of es)
    → AppendsFront b c (flat_map line_of fs) → AppendsFront a c (flat_map line_of (es ++ fs))
lines_front a b c es fs p q =
    subst (AppendsFront a c) (sym (lines_append es fs))
    (front_after a b c (flat_map line_of es) (flat_map line_of fs) p q)

-- and then by one line
pub line_put : (a b c : Option (List ℕ)) (es : List Entry) (e : Entry) → Appends a b (flat_map line_of es)
    → Appends b c (line_of e) → Appends a c (flat_map line_of (es ++ e ∷ []))
line_put a b c es e p q = lines_put a b c es (e ∷ []) p (subst (Appends b c) (sym (append-nil (line_of e))) q)

pub line_front : (a b c : Option (List ℕ)) (es : List Entry) (e : Entry) → Appends a b (flat_map line_of es)
    → AppendsFront b c (line_of e) → AppendsFront a c (flat_map line_of (es ++ e ∷ []))
line_front a b c es e p q =
    lines_front a b c es (e ∷ []) p (subst (AppendsFront b c) (sym (append-nil (line_of e))) q)

pub put_out : (s o : List ℕ) (old new : Option (List ℕ)) → PutOn Out s old new → PutSome s o [] o old new
put_out s o old new p =
    record { entries = p.entries; tell = tell_out s o [] p.entries p.on; written = p.written }

pub put_own : (s o : List ℕ) (old new : Option (List ℕ)) → PutOn Own o old new → PutSome s o s [] old new
put_own s o old new p =
    record { entries = p.entries; tell = tell_own s o [] p.entries p.on; written = p.written }

pub front_out : (s o : List ℕ) (old new : Option (List ℕ)) → FrontOn Out s old new → PutFront s o old new
front_out s o old new p = record {
  entries = p.entries;
  sent_left = p.rest;
  own_left = o;
  tell = tell_out s o p.rest p.entries p.on;
  written = p.written;
}

pub front_own : (s o : List ℕ) (old new : Option (List ℕ)) → FrontOn Own o old new → PutFront s o old new
front_own s o old new p = record {
  entries = p.entries;
  sent_left = s;
  own_left = p.rest;
  tell = tell_own s o p.rest p.entries p.on;
  written = p.written;
}

module _ (s o sl ol : List ℕ) where
  pub put_join : (sr wr : List ℕ) (old mid new : Option (List ℕ)) → PutSome s o sl ol old mid
      → PutSome sl ol sr wr mid new
      → PutSome s o sr wr old new
  put_join sr wr old mid new a b = record {
    entries = a.entries ++ b.entries;
    tell = tell_join s o sl ol sr wr a.entries b.entries a.tell b.tell;
    written = lines_put old mid new a.entries b.entries a.written b.written;
  }

  pub front_join : (old mid new : Option (List ℕ)) → PutSome s o sl ol old mid → PutFront sl ol mid new
      → PutFront s o old new
  front_join old mid new a b = record {
    entries = a.entries ++ b.entries;
    sent_left = b.sent_left;
    own_left = b.own_left;
    tell = tell_join s o sl ol b.sent_left b.own_left a.entries b.entries a.tell b.tell;
    written = lines_front old mid new a.entries b.entries a.written b.written;
  }

-- of bytes that are told otherwise
module _ (s o x y xs ys : List ℕ) (old new : Option (List ℕ)) (x_is : x ≡ xs) (y_is : y ≡ ys) where
  pub put_so : (sl ol : List ℕ) → PutSome (s ++ xs) (o ++ ys) sl ol old new → PutSome (s ++ x) (o ++ y) sl ol old new
  put_so sl ol p = record {
    entries = p.entries;
    tell = record {
      each = p.tell.each;
      none_given = p.tell.none_given;
      sent_reported = ap (λ l. s ++ l) x_is ∙ p.tell.sent_reported;
      own_reported = ap (λ l. o ++ l) y_is ∙ p.tell.own_reported;
    };
    written = p.written;
  }

  pub front_so : PutFront (s ++ xs) (o ++ ys) old new → PutFront (s ++ x) (o ++ y) old new
  front_so p = record {
    entries = p.entries;
    sent_left = p.sent_left;
    own_left = p.own_left;
    tell = record {
      each = p.tell.each;
      none_given = p.tell.none_given;
      sent_reported = ap (λ l. s ++ l) x_is ∙ p.tell.sent_reported;
      own_reported = ap (λ l. o ++ l) y_is ∙ p.tell.own_reported;
    };
    written = p.written;
  }

more_so : (all first more left : List ℕ) (es : List ℕ) → all ++ first ≡ es ++ left
    → all ++ (first ++ more) ≡ es ++ (left ++ more)
more_so all first more left es is =
    sym (append_assoc all first more) ∙ ap (λ l. l ++ more) is ∙ append_assoc es left more

pub put_first : (s o : List ℕ) (old : Option (List ℕ)) → PutSome (s ++ []) (o ++ []) s o old old
put_first s o old = record {
  entries = [];
  tell = record { each = tt; none_given = refl; sent_reported = append-nil s; own_reported = append-nil o };
  written = Appends-nil old;
}

pub front_further : (s o f p f_more p_more : List ℕ) (old new : Option (List ℕ)) → PutFront (s ++ f) (o ++ p) old new
    → PutFront (s ++ (f ++ f_more)) (o ++ (p ++ p_more)) old new
front_further s o f p f_more p_more old new a = record {
  entries = a.entries;
  sent_left = a.sent_left ++ f_more;
  own_left = a.own_left ++ p_more;
  tell = record {
    each = a.tell.each;
    none_given = a.tell.none_given;
    sent_reported = more_so s f f_more a.sent_left (sent a.entries) a.tell.sent_reported;
    own_reported = more_so o p p_more a.own_left (own a.entries) a.tell.own_reported;
  };
  written = a.written;
}

-- behind what was told, more is told
module _ (s o f p sl ol f_more p_more : List ℕ) (old mid : Option (List ℕ))
    (put : PutSome (s ++ f) (o ++ p) sl ol old mid) where
  -- of which nothing was put
  pub front_told : PutFront (s ++ (f ++ f_more)) (o ++ (p ++ p_more)) old mid
  front_told = record {
    entries = put.entries;
    sent_left = sl ++ f_more;
    own_left = ol ++ p_more;
    tell = record {
      each = put.tell.each;
      none_given = put.tell.none_given;
      sent_reported = more_so s f f_more sl (sent put.entries) put.tell.sent_reported;
      own_reported = more_so o p p_more ol (own put.entries) put.tell.own_reported;
    };
    written = front_all old mid (flat_map line_of put.entries) put.written;
  }

  module _ (sm om : List ℕ) (sm_is : sm ≡ sl ++ f_more) (om_is : om ≡ ol ++ p_more) (new : Option (List ℕ)) where
    told_put : PutSome (s ++ (f ++ f_more)) (o ++ (p ++ p_more)) sm om old mid
    told_put = record {
      entries = put.entries;
      tell = record {
        each = put.tell.each;
        none_given = put.tell.none_given;
        sent_reported =
            more_so s f f_more sl (sent put.entries) put.tell.sent_reported
            ∙ ap (λ l. sent put.entries ++ l) (sym sm_is);
        own_reported =
            more_so o p p_more ol (own put.entries) put.tell.own_reported
            ∙ ap (λ l. own put.entries ++ l) (sym om_is);
      };
      written = put.written;
    }

    pub turn_put : (sr wr : List ℕ) → PutSome sm om sr wr mid new
        → PutSome (s ++ (f ++ f_more)) (o ++ (p ++ p_more)) sr wr old new
    turn_put sr wr q =
        put_join (s ++ (f ++ f_more)) (o ++ (p ++ p_more)) sm om sr wr old mid new told_put q

    pub turn_front : PutFront sm om mid new → PutFront (s ++ (f ++ f_more)) (o ++ (p ++ p_more)) old new
    turn_front q = front_join (s ++ (f ++ f_more)) (o ++ (p ++ p_more)) sm om old mid new told_put q

-- ---- lines that agree

abbrev no_lines : List Entry
no_lines = []

none_taken : (count : ℕ) → take count no_lines ≡ no_lines
none_taken zero = refl
none_taken (suc count) = refl

module _ (sends_so : List ℕ → List ℕ) where
  agrees_all : (es : List Entry) → AgreesThroughout sends_so es → Agrees sends_so es
  agrees_all es t = subst (Agrees sends_so) (take_all (length es) es (omega arith)) (t (length es))

  pub throughout_none : Agrees sends_so [] → AgreesThroughout sends_so []
  throughout_none agrees = λ count. subst (Agrees sends_so) (sym (none_taken count)) agrees

  throughout_join : (es fs : List Entry) → AgreesThroughout sends_so es
      → ((count : ℕ) → Agrees sends_so (es ++ take count fs)) → AgreesThroughout sends_so (es ++ fs)
  throughout_join es fs t more count = elim (cases_lt (length es) count) [
    | inl behind ↦
        let is : length es + (count - length es) ≡ count = omega (arith, behind) in
        subst (λ n. Agrees sends_so (take n (es ++ fs))) is
        (subst (Agrees sends_so) (sym (take-append-add es fs (count - length es))) (more (count - length es)))
    | inr within ↦ subst (Agrees sends_so) (sym (take-append-le count es fs within)) (t count)
  ]

  pub throughout_one : (es : List Entry) (e : Entry) → AgreesThroughout sends_so es → Agrees sends_so (es ++ e ∷ [])
      → AgreesThroughout sends_so (es ++ e ∷ [])
  throughout_one es e t one = throughout_join es (e ∷ []) t by where
    by : (count : ℕ) → Agrees sends_so (es ++ take count (e ∷ []))
    by zero = subst (Agrees sends_so) (sym (append-nil es)) (agrees_all es t)
    by (suc count) = subst (λ (l : List Entry). Agrees sends_so (es ++ e ∷ l)) (sym (none_taken count)) one

  -- lines that give nothing, and tell of what was sent a front
  pub throughout_on : (es fs : List Entry) (left : List ℕ) → AgreesThroughout sends_so es → given fs ≡ []
      → sends_so (given es) ≡ sent es ++ (sent fs ++ left) → AgreesThroughout sends_so (es ++ fs)
  throughout_on es fs left t none told = throughout_join es fs t by where
    no_front : (x y : List ℕ) → x ++ y ≡ [] → x ≡ []
    no_front [] y e = refl
    no_front (b ∷ x) y e = cc

    by : (count : ℕ) → Agrees sends_so (es ++ take count fs)
    by count =
        let front = take count fs in
        let back = drop count fs in
        let split : front ++ back ≡ fs = take-append-drop count fs in
        let none_so : given front ++ given back ≡ [] = sym (given_append front back) ∙ ap given split ∙ none in
        let nothing : given front ≡ [] = no_front (given front) (given back) none_so in
        let same : given (es ++ front) ≡ given es =
        given_append es front ∙ ap (λ l. given es ++ l) nothing ∙ append-nil (given es) in
        let some : sent fs ≡ sent front ++ sent back = ap sent (sym split) ∙ sent_append front back in (
          sent back ++ left,
          ap sends_so same ∙ told ∙ ap (λ l. sent es ++ (l ++ left)) some
              ∙ ap (λ l. sent es ++ l) (append_assoc (sent front) (sent back) left)
              ∙ sym (append_assoc (sent es) (sent front) (sent back ++ left))
              ∙ ap (λ l. l ++ (sent back ++ left)) (sym (sent_append es front)),
        )

-- ---- how far a session is taped

module _ {S E : Type 0} (step : S → List ℕ → Reply S E) (start : S) (init : List ℕ) where
  -- nothing was read, and nothing put
  pub tells_none : Tells step start init [] [] (packet_frame init)
  tells_none = record {
    are = record { each = tt; within = omega arith };
    throughout = throughout_none (sends step start init) (sends step start init [], refl);
    all_given = refl;
    sent_reported = append-nil (packet_frame init);
  }

  module _ (read : List ℕ) (es : List Entry) (sl : List ℕ) (tells : Tells step start init read es sl) where
    told_given : sends step start init (given es) ≡ sent es ++ sl
    told_given = ap (sends step start init) tells.all_given ∙ tells.sent_reported

    pub tells_on : (ol sr wr : List ℕ) (fs : List Entry) → TellSome sl ol fs sr wr
        → Tells step start init read (es ++ fs) sr
    tells_on ol sr wr fs tell =
        let within = tells.are.within in
        let none = ap (λ (l : List ℕ). length l) tell.none_given in
        record {
          are = record {
            each = pieces_join es fs tells.are.each tell.each;
            within = omega (arith, given_length es fs, within, none);
          };
          throughout = throughout_on (sends step start init) es fs sr tells.throughout tell.none_given
              (told_given ∙ ap (λ l. sent es ++ l) tell.sent_reported);
          all_given =
              given_append es fs ∙ ap (λ l. given es ++ l) tell.none_given ∙ append-nil (given es) ∙ tells.all_given;
          sent_reported = more_told _ (sent es) sl (sent fs) sr (sent (es ++ fs)) tells.sent_reported tell.sent_reported
              (sent_append es fs);
        }

    -- the session is given a piece
    module _ (piece frames program : List ℕ) (is_piece : IsPiece piece) (fits : length (read ++ piece) ≤ byte_limit)
        (adds : Adds step start read piece frames program) where
      abbrev entry : Entry
      entry = record { stream = In; bytes = piece }

      all_given : given (es ++ entry ∷ []) ≡ read ++ piece
      all_given =
          given_append es (entry ∷ []) ∙ (λ i. tells.all_given i ++ append-nil piece i)

      none_sent : sent (es ++ entry ∷ []) ≡ sent es
      none_sent = sent_append es (entry ∷ []) ∙ append-nil (sent es)

      all_sent : sends step start init (read ++ piece) ≡ sent (es ++ entry ∷ []) ++ (sl ++ frames)
      all_sent =
          ap (λ l. packet_frame init ++ l) adds.frames
          ∙ sym (append_assoc (packet_frame init) (flat_map packet_frame (served step start read).packets) frames)
          ∙ ap (λ l. l ++ frames) tells.sent_reported ∙ append_assoc (sent es) sl frames
          ∙ ap (λ l. l ++ (sl ++ frames)) (sym none_sent)

      pub tells_in : Tells step start init (read ++ piece) (es ++ entry ∷ []) (sl ++ frames)
      tells_in = record {
        are = record {
          each = pieces_join es (entry ∷ []) tells.are.each (is_piece, tt);
          within = let same = ap (λ (l : List ℕ). length l) all_given in omega (arith, same, fits);
        };
        throughout = throughout_one (sends step start init) es entry tells.throughout
            (sl ++ frames, ap (sends step start init) all_given ∙ all_sent);
        all_given = all_given;
        sent_reported = all_sent;
      }

  -- ---- likewise of what was put

  pub put_on : (read sl ol sr wr : List ℕ) (old mid new : Option (List ℕ)) → HasPut step start init read sl ol old mid
      → PutSome sl ol sr wr mid new → HasPut step start init read sr wr old new
  put_on read sl ol sr wr old mid new h p = record {
    entries = h.entries ++ p.entries;
    reported = tells_on read h.entries sl h.reported ol sr wr p.entries p.tell;
    own_reported = more_told _ (own h.entries) ol (own p.entries) wr (own (h.entries ++ p.entries)) h.own_reported
        p.tell.own_reported (own_append h.entries p.entries);
    written = lines_put old mid new h.entries p.entries h.written p.written;
  }

  cut_by : (read sl : List ℕ) (es : List Entry) (old new : Option (List ℕ)) → Tells step start init read es sl
      → AppendsFront old new (flat_map line_of es) → IsCut step start init read old new
  cut_by read sl es old new t written = record {
    entries = es;
    are = t.are;
    written = written;
    throughout = t.throughout;
    front = ([], sym t.all_given ∙ sym (append-nil (given es)));
  }

  -- whatever is told of the program's own output
  pub put_cut : (read sl ol other : List ℕ) (old mid new : Option (List ℕ)) → HasPut step start init read sl ol old mid
      → PutFront sl other mid new → IsCut step start init read old new
  put_cut read sl ol other old mid new h p =
      cut_by read p.sent_left (h.entries ++ p.entries) old new
      (tells_on read h.entries sl h.reported other p.sent_left p.own_left p.entries p.tell)
      (lines_front old mid new h.entries p.entries h.written p.written)

  -- all that was put is a front of it
  pub cut_none : (read sl ol : List ℕ) (old new : Option (List ℕ)) → HasPut step start init read sl ol old new
      → IsCut step start init read old new
  cut_none read sl ol old new h =
      cut_by read sl h.entries old new h.reported (front_all old new (flat_map line_of h.entries) h.written)

  -- a front of what was given is one of more
  pub cut_more : (read more : List ℕ) (old new : Option (List ℕ)) → IsCut step start init read old new
      → IsCut step start init (read ++ more) old new
  cut_more read more old new cut = record {
    entries = cut.entries;
    are = cut.are;
    written = cut.written;
    throughout = cut.throughout;
    front = (
      cut.front.0 ++ more,
      ap (λ l. l ++ more) cut.front.1 ∙ append_assoc (given cut.entries) cut.front.0 more,
    );
  }

  module _ (read piece sl ol frames program : List ℕ) (old mid new : Option (List ℕ))
      (h : HasPut step start init read sl ol old mid) (is_piece : IsPiece piece)
      (fits : length (read ++ piece) ≤ byte_limit) (adds : Adds step start read piece frames program) where
    abbrev piece_entry : Entry
    piece_entry = record { stream = In; bytes = piece }

    told : Tells step start init (read ++ piece) (h.entries ++ piece_entry ∷ []) (sl ++ frames)
    told = tells_in read h.entries sl h.reported piece frames program is_piece fits adds

    none_own : own (h.entries ++ piece_entry ∷ []) ≡ own h.entries
    none_own = own_append h.entries (piece_entry ∷ []) ∙ append-nil (own h.entries)

    pub put_in : Appends mid new (line_of piece_entry)
        → HasPut step start init (read ++ piece) (sl ++ frames) (ol ++ program) old new
    put_in written = record {
      entries = h.entries ++ piece_entry ∷ [];
      reported = told;
      own_reported =
          adds.program ∙ ap (λ l. l ++ program) h.own_reported ∙ append_assoc (own h.entries) ol program
          ∙ ap (λ l. l ++ (ol ++ program)) (sym none_own);
      written = line_put old mid new h.entries piece_entry h.written written;
    }

    pub cut_in : AppendsFront mid new (line_of piece_entry) → IsCut step start init (read ++ piece) old new
    cut_in written =
        cut_by (read ++ piece) (sl ++ frames) (h.entries ++ piece_entry ∷ []) old new told
        (line_front old mid new h.entries piece_entry h.written written)
