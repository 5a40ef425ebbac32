-- A text has one message, and what was read decides how a script ends.
use Rattle.std.proofs.Common.{◌≡◌, ◌≢◌, ◌⊎◌, inl, inr, ℕ, ◌-◌, ◌<◌, true, false, not, List, [], ◌∷◌, ◌++◌, length, Option, Some, None, IsSome, refl, sym, ap, ◌∙◌, subst, append_assoc, arith}
use Rattle.std.specs.Prelude.{Result, Ok, Err, ⊤}
use Rattle.std.specs.Option.{option_map_or}
use Rattle.std.specs.List.{flat_map, list_all, AllByRecursion}
use Rattle.std.specs.Io.KnownBytes.{Consumes}
use Rattle.std.proofs.lemmas.Bool.{and_parts, false≢true, not-true}
use Rattle.std.proofs.lemmas.List.{append_cancel_right}
use Rattle.dp_grammar.specs.declared.refusal.Refusal.TheVariants as refusal
use Rattle.dp_markup.specs.declared.tree.Element.{Element}
use Rattle.dp_markup.specs.inner.Input.{Outcome}
use Rattle.dp_markup.specs.inner.Readers.{document}
use Rattle.dp_markup.specs.Grammar.{Document, IsMarkup, limit}
use Rattle.dp_markup.proofs.Answers.{Answers}
use Rattle.dp_markup.proofs.Verdicts.{is_bad, is_too_deep, not_deep, not_markup, one_markup}
use Rattle.dp_markup.proofs.WholeTexts.{at_end, document_reads}
use Rattle.dp_outside.specs.Changes.{Change}
use Rattle.dp_reply.specs.Readings.{packet_in}
use Rattle.dp_wire.specs.Frames.{packets_in, rest_of_packets, IsPartialPacket}
use Rattle.dp_wire.specs.Places.{place_behind}
use Rattle.dp_wire.proofs.LengthLaws.{partial_refused}
use Rattle.dp_ide.specs.declared.errors.IdeError.{IdeError}
use Rattle.dp_ide.specs.declared.errors.IdeError.TheVariants.{BadScript, Differs, PeerEnd, BadPacket, ReadFault, WriteFault, OutFault, Memory}
use Rattle.dp_ide.specs.declared.heard.Message.{Message}
use Rattle.dp_ide.specs.declared.instruction.Act.{Act}
use Rattle.dp_ide.specs.declared.instruction.Act.TheVariants.{Send, Attr, Code, Prop, Out, Print}
use Rattle.dp_ide.specs.declared.instruction.Instruction.{Instruction}
use Rattle.dp_ide.specs.Messages.{IsMessage, AreMessages, is_init, answers, output_in}
use Rattle.dp_ide.specs.Instructions.{Heard, Expectation, Answered, Does, Goes, IsMet, afterwards, expected, wants}
use Rattle.dp_ide.specs.Plays.{Progress, Awaited, Waiting, AwaitsInit, Awaits, IsUnfit, IsBadAt, Lacks, StopsAt, EndsPlaying, EndsWaiting, Ends, init, response, is_verdict}
use Rattle.dp_ide.proofs.PlaceLaws.{one_place}

-- ---- one message

some_level : 0 < limit
unfolding limit
some_level = omega arith

one_element : (text : List ℕ) (one other : Element) → IsMarkup text one → IsMarkup text other → one ≡ other
one_element text one other p q = by (document limit text) refl where
  by : (o : Outcome Element) → document limit text ≡ o → one ≡ other
  by (Ok (e, rest)) is = sym (one_markup text e rest is one p) ∙ one_markup text e rest is other q
  by (Err (refusal.Unexpected left)) is = absurd (not_markup text (length text - left) one (is_bad text left is) p)
  by (Err (refusal.TooDeep left)) is = absurd (not_deep text (length text - left) one (is_too_deep text left is) p)
  by (Err refusal.Memory) is =
      absurd (subst (λ (o : Outcome Element). Answers Document at_end limit text o) is
      (document_reads limit some_level text))

pub one_message_of : (text : List ℕ) (one other : Message) → IsMessage text one → IsMessage text other → one ≡ other
one_message_of text one other p q =
    let root : one.root ≡ other.root = one_element text one.root other.root p.markup q.markup in
    let both : Some one.packet ≡ Some other.packet = sym p.is ∙ ap packet_in root ∙ q.is in
    let packet : one.packet ≡ other.packet = cc in
    λ i. record { root = root i; packet = packet i }

are_split : (texts : List (List ℕ)) (now later : List Message) → AreMessages texts (now ++ later)
    → (first : List (List ℕ)) × (second : List (List ℕ)) × (texts ≡ first ++ second) × AreMessages first now
    × AreMessages second later
are_split texts [] later are = ([], texts, refl, tt, are)
are_split [] (m ∷ now) later are = absurd are
are_split (text ∷ texts) (m ∷ now) later are =
    let rest = are_split texts now later are.1 in
    (text ∷ rest.0, rest.1, ap (λ l. text ∷ l) rest.2, (are.0, rest.3), rest.4)

no_texts : (texts : List (List ℕ)) → AreMessages texts [] → texts ≡ []
no_texts [] are = refl
no_texts (text ∷ texts) are = absurd are

-- ---- one way to go

-- over the first of these texts the instructions are played, and the rest is left
record Came (done : List Instruction) (before : Heard) (all rest : List (List ℕ)) (after : Heard) : Type 0 where
  pub texts : List (List ℕ)
  pub split : all ≡ texts ++ rest
  pub messages : List Message
  pub are : AreMessages texts messages
  pub goes : Goes done before messages after

-- the first message that answers is one
first_answer : (id : List ℕ) (passed others : List Message) (answer other : Message)
    (texts more rest left : List (List ℕ)) → AreMessages texts (passed ++ answer ∷ [])
    → AreMessages more (others ++ other ∷ []) → texts ++ rest ≡ more ++ left
    → list_all (λ message. not (answers id message.packet)) passed ≡ true
    → list_all (λ message. not (answers id message.packet)) others ≡ true
    → answers id answer.packet ≡ true → answers id other.packet ≡ true
    → (passed ≡ others) × (answer ≡ other) × (rest ≡ left)
first_answer id passed others answer other [] more rest left are ares same none nones is iss =
    absurd (go passed are) where
      go : (p : List Message) → AreMessages [] (p ++ answer ∷ []) → ⊥
      go [] a = a
      go (m ∷ p) a = a
first_answer id passed others answer other (text ∷ texts) [] rest left are ares same none nones is iss =
    absurd (go others ares) where
      go : (p : List Message) → AreMessages [] (p ++ other ∷ []) → ⊥
      go [] a = a
      go (m ∷ p) a = a
first_answer id [] [] answer other (text ∷ texts) (next ∷ more) rest left are ares same none nones is iss =
    let head : text ≡ next = cc in
    let tail : texts ++ rest ≡ more ++ left = cc in (
      refl,
      one_message_of next answer other (subst (λ (t : List ℕ). IsMessage t answer) head are.0) ares.0,
      sym (ap (λ (l : List (List ℕ)). l ++ rest) (no_texts texts are.1)) ∙ tail ∙ ap (λ (l : List (List ℕ)). l ++ left)
          (no_texts more ares.1),
    )
first_answer id [] (m ∷ others) answer other (text ∷ texts) (next ∷ more) rest left are ares same none nones is iss =
    let head : text ≡ next = cc in
    let one : answer ≡ m = one_message_of next answer m (subst (λ (t : List ℕ). IsMessage t answer) head are.0) ares.0
    in
    let no : answers id m.packet ≡ false = not-true (answers id m.packet)
    (and_parts (not (answers id m.packet)) (list_all (λ message. not (answers id message.packet)) others) nones).0
    in
    absurd (false≢true (sym no ∙ ap (λ (x : Message). answers id x.packet) (sym one) ∙ is))
first_answer id (m ∷ passed) [] answer other (text ∷ texts) (next ∷ more) rest left are ares same none nones is iss =
    let head : text ≡ next = cc in
    let one : m ≡ other = one_message_of next m other (subst (λ (t : List ℕ). IsMessage t m) head are.0) ares.0 in
    let no : answers id m.packet ≡ false = not-true (answers id m.packet)
    (and_parts (not (answers id m.packet)) (list_all (λ message. not (answers id message.packet)) passed) none).0 in
    absurd (false≢true (sym no ∙ ap (λ (x : Message). answers id x.packet) one ∙ iss))
first_answer id (m ∷ passed) (n ∷ others) answer other (text ∷ texts)
    (next ∷ more) rest left are ares same none nones is iss =
    let head : text ≡ next = cc in
    let tail : texts ++ rest ≡ more ++ left = cc in
    let one : m ≡ n = one_message_of next m n (subst (λ (t : List ℕ). IsMessage t m) head are.0) ares.0 in
    let then = first_answer id passed others answer other texts more rest left are.1 ares.1 tail
    (and_parts (not (answers id m.packet)) (list_all (λ message. not (answers id message.packet)) passed) none).1
    (and_parts (not (answers id n.packet)) (list_all (λ message. not (answers id message.packet)) others) nones).1 is
    iss in
    ((λ i. one i ∷ then.0 i), then.1, then.2)

-- an instruction that awaits no packet takes none
quiet_one : (act : Act) (before after again : Heard) (texts more rest left : List (List ℕ))
    (messages others : List Message) → AreMessages texts messages → AreMessages more others
    → texts ++ rest ≡ more ++ left → messages ≡ [] → others ≡ [] → after ≡ afterwards act before
    → again ≡ afterwards act before → (after ≡ again) × (rest ≡ left)
quiet_one act before after again texts more rest left messages others are ares same m o a b = (
  a ∙ sym b,
  sym (ap (λ (l : List (List ℕ)). l ++ rest) (no_texts texts (subst (AreMessages texts) m are))) ∙ same ∙ ap
      (λ (l : List (List ℕ)). l ++ left) (no_texts more (subst (AreMessages more) o ares)),
)

one_deed : (act : Act) (before after again : Heard) (texts more rest left : List (List ℕ))
    (messages others : List Message) → AreMessages texts messages → AreMessages more others
    → texts ++ rest ≡ more ++ left → Does act before messages after → Does act before others again
    → (after ≡ again) × (rest ≡ left)
one_deed (Send line id) before after again texts more rest left messages others are ares same d e =
    let one = first_answer id d.passed e.passed d.answer e.answer texts more rest left
    (subst (AreMessages texts) d.whole are) (subst (AreMessages more) e.whole ares) same d.none e.none d.is e.is in (
      d.heard ∙ (λ i. record before {
        last = one.1 i;
        output = before.output
            ++ flat_map (λ (message : Message). output_in message.packet) (one.0 i);
      }) ∙ sym e.heard,
      one.2,
    )
one_deed (Attr name text) before after again texts more rest left messages others are ares same d e =
    quiet_one (Attr name text) before after again texts more rest left messages others are ares same d.1 e.1 d.2 e.2
one_deed (Code n) before after again texts more rest left messages others are ares same d e =
    quiet_one (Code n) before after again texts more rest left messages others are ares same d.1 e.1 d.2 e.2
one_deed (Prop name text) before after again texts more rest left messages others are ares same d e =
    quiet_one (Prop name text) before after again texts more rest left messages others are ares same d.1 e.1 d.2 e.2
one_deed (Out text) before after again texts more rest left messages others are ares same d e =
    quiet_one (Out text) before after again texts more rest left messages others are ares same d.1 e.1 d.2 e.2
one_deed Print before after again texts more rest left messages others are ares same d e =
    quiet_one Print before after again texts more rest left messages others are ares same d.1 e.1 d.2 e.2

-- the first instruction by itself, and the others behind it
record Begun (one : Instruction) (more : List Instruction) (before : Heard) (all rest : List (List ℕ))
    (after : Heard) : Type 0 where
  pub texts : List (List ℕ)
  pub left : List (List ℕ)
  pub split : all ≡ texts ++ left
  pub messages : List Message
  pub are : AreMessages texts messages
  pub heard : Heard
  pub does : Does one.act before messages heard
  pub later : Came more heard left rest after

begun : (one : Instruction) (more : List Instruction) (before : Heard) (all rest : List (List ℕ)) (after : Heard)
    → Came (one ∷ more) before all rest after → Begun one more before all rest after
begun one more before all rest after came =
    let g = came.goes in
    let parts = are_split came.texts g.0 g.1 (subst (AreMessages came.texts) g.3 came.are) in record {
      texts = parts.0;
      left = parts.1 ++ rest;
      split = came.split ∙ ap (λ (l : List (List ℕ)). l ++ rest) parts.2 ∙ append_assoc parts.0 parts.1 rest;
      messages = g.0;
      are = parts.3;
      heard = g.2;
      does = g.4;
      later = record { texts = parts.1; split = refl; messages = g.1; are = parts.4; goes = g.5 };
    }

-- what is played behind a front of it
came_behind : (done more : List Instruction) (before : Heard) (all rest : List (List ℕ)) (after between : Heard)
    (left : List (List ℕ)) → Came (done ++ more) before all rest after
    → Came done before all left between → Came more between left rest after
came_behind [] more before all rest after between left came front =
    let none : front.texts ≡ [] = no_texts front.texts (subst (AreMessages front.texts) front.goes.0 front.are) in
    let same : all ≡ left = front.split ∙ ap (λ (l : List (List ℕ)). l ++ left) none in
    subst (λ (h : Heard). Came more h left rest after) (sym front.goes.1)
    (subst (λ (l : List (List ℕ)). Came more before l rest after) same came)
came_behind (one ∷ done) more before all rest after between left came front =
    let a = begun one (done ++ more) before all rest after came in
    let b = begun one done before all left between front in
    let same = one_deed one.act before a.heard b.heard a.texts b.texts a.left b.left a.messages b.messages a.are b.are
    (sym a.split ∙ b.split) a.does b.does in
    came_behind done more b.heard b.left rest after between left
    (subst (λ (h : Heard). Came (done ++ more) h b.left rest after) same.0
    (subst (λ (l : List (List ℕ)). Came (done ++ more) a.heard l rest after) same.1 a.later)) b.later

-- ---- where a player stands

abbrev first_heard : Message → Heard
first_heard message = record { last = message; output = []; printed = [] }

record Position (script : List Instruction) (all : List (List ℕ)) (done left : List Instruction) (heard : Heard)
    (others : List (List ℕ)) : Type 0 where
  pub split : script ≡ done ++ left
  pub text : List ℕ
  pub later : List (List ℕ)
  pub whole : all ≡ text ∷ later
  pub init : Message
  pub is : IsMessage text init
  pub opens : is_init init.packet ≡ true
  pub came : Came done (first_heard init) later others heard

position_of : (script : List Instruction) (read : List ℕ) (p : Progress script read)
    → Position script (packets_in read) p.done p.left p.heard p.others
position_of script read p = by p.texts p.came (subst (AreMessages p.texts) p.played.whole p.are) where
  by : (texts : List (List ℕ)) → packets_in read ≡ texts ++ p.others
      → AreMessages texts (p.played.init ∷ p.played.later)
      → Position script (packets_in read) p.done p.left p.heard p.others
  by [] came are = absurd are
  by (text ∷ texts) came are = record {
    split = p.split;
    text = text;
    later = texts ++ p.others;
    whole = came;
    init = p.played.init;
    is = are.0;
    opens = p.played.is;
    came = record { texts = texts; split = refl; messages = p.played.later; are = are.1; goes = p.played.goes };
  }

-- of two who stand somewhere, one stands behind the other
record Follows (one other : List Instruction) : Type 0 where
  pub more : List Instruction
  pub is : other ≡ one ++ more

fronts : (one other left rest : List Instruction) → one ++ left ≡ other ++ rest → Follows one other ⊎ Follows other one
fronts [] other left rest same = inl (record { more = other; is = refl })
fronts (a ∷ one) [] left rest same = inr (record { more = a ∷ one; is = refl })
fronts (a ∷ one) (b ∷ other) left rest same = by (fronts one other left rest tail) where
  head : a ≡ b
  head = cc

  tail : one ++ left ≡ other ++ rest
  tail = cc

  by : Follows one other ⊎ Follows other one → Follows (a ∷ one) (b ∷ other) ⊎ Follows (b ∷ other) (a ∷ one)
  by (inl f) = inl (record { more = f.more; is = λ i. sym head i ∷ f.is i })
  by (inr f) = inr (record { more = f.more; is = λ i. head i ∷ f.is i })

same_front : (front one other : List Instruction) → front ++ one ≡ front ++ other → one ≡ other
same_front [] one other same = same
same_front (a ∷ front) one other same = let tail : front ++ one ≡ front ++ other = cc in same_front front one other tail

-- who stands behind has played on from there
plays_on : (script : List Instruction) (all : List (List ℕ)) (done left : List Instruction) (heard : Heard)
    (others : List (List ℕ)) (more rest : List Instruction) (last : Heard)
    (end : List (List ℕ)) → Position script all done left heard others
    → Position script all (done ++ more) rest last end
    → Came more heard others end last × (left ≡ more ++ rest)
plays_on script all done left heard others more rest last end here there =
    let text : here.text ≡ there.text = let both : here.text ∷ here.later ≡ there.text
    ∷ there.later = sym here.whole ∙ there.whole in cc in
    let later : here.later ≡ there.later = let both : here.text ∷ here.later ≡ there.text
    ∷ there.later = sym here.whole ∙ there.whole in cc in
    let init : here.init ≡ there.init = one_message_of there.text here.init there.init
    (subst (λ (t : List ℕ). IsMessage t here.init) text here.is) there.is in
    let came : Came done (first_heard there.init) there.later others heard =
    subst (λ (m : Message). Came done (first_heard m) there.later others heard) init
    (subst (λ (l : List (List ℕ)). Came done (first_heard here.init) l others heard) later here.came) in (
      came_behind done more (first_heard there.init) there.later end last heard others there.came came,
      same_front done left (more ++ rest) (sym here.split ∙ there.split ∙ append_assoc done more rest),
    )

-- ---- what lacks

-- these texts end there: none is left, or the next cannot stand there
abbrev IsStuck : (List ℕ → Type 0) → List (List ℕ) → Type 0
IsStuck Unfit [] = ⊤
IsStuck Unfit (text ∷ texts) = Unfit text

abbrev AreFit : (List ℕ → Type 0) → List (List ℕ) → Type 0
AreFit Unfit texts = AllByRecursion (λ text. Unfit text → ⊥) texts

one_stop : (Unfit : List ℕ → Type 0) (since more others left : List (List ℕ)) → AreFit Unfit since → AreFit Unfit more
    → IsStuck Unfit others → IsStuck Unfit left
    → since ++ others ≡ more ++ left → (since ≡ more) × (others ≡ left)
one_stop Unfit [] [] others left a b s t same = (refl, same)
one_stop Unfit [] (text ∷ more) others left a b s t same = absurd (b.0 (subst (IsStuck Unfit) same s))
one_stop Unfit (text ∷ since) [] others left a b s t same = absurd (a.0 (subst (IsStuck Unfit) (sym same) t))
one_stop Unfit (text ∷ since) (next ∷ more) others left a b s t same =
    let head : text ≡ next = cc in
    let tail : since ++ others ≡ more ++ left = cc in
    let then = one_stop Unfit since more others left a.1 b.1 s t tail in
    ((λ i. head i ∷ then.0 i), then.1)

stuck : (w : Waiting) (end : Result (Unit {0}) IdeError) (rest : List ℕ) (source : Change) → is_verdict end ≡ true
    → Lacks end w rest source → IsStuck (IsUnfit w.awaited) w.others
stuck w (Ok u) rest source v l = absurd l
stuck w (Err PeerEnd) rest source v l = subst (IsStuck (IsUnfit w.awaited)) (sym l.0) tt
stuck w (Err (BadPacket offset)) rest source v l = by w.others l where
  by : (others : List (List ℕ)) → IsBadAt offset w.awaited w.passed others rest → IsStuck (IsUnfit w.awaited) others
  by [] l = tt
  by (text ∷ texts) l = l.0
stuck w (Err (Differs line wanted found)) rest source v l = absurd l
stuck w (Err (BadScript line)) rest source v l = absurd (cc)
stuck w (Err ReadFault) rest source v l = absurd (cc)
stuck w (Err WriteFault) rest source v l = absurd (cc)
stuck w (Err OutFault) rest source v l = absurd (cc)
stuck w (Err Memory) rest source v l = absurd (cc)

-- what lacks behind the same texts is one
one_lack : (awaited : Awaited) (passed others : List (List ℕ)) (rest : List ℕ) (source source_2 : Change)
    (w v : Waiting) (one other : Result (Unit {0}) IdeError)
    → w.awaited ≡ awaited → v.awaited ≡ awaited → w.passed ≡ passed → v.passed ≡ passed → w.others ≡ others
    → v.others ≡ others
    → is_verdict one ≡ true → is_verdict other ≡ true → Lacks one w rest source → Lacks other v rest source_2
    → one ≡ other
one_lack awaited passed others rest source source_2 w v one other wa va wp vp wo vo a b l m = by one other a b l m where
  bad : (x : Waiting) (offset : ℕ) → x.awaited ≡ awaited → x.passed ≡ passed → x.others ≡ others
      → IsBadAt offset x.awaited x.passed x.others rest → IsBadAt offset awaited passed others rest
  bad x offset xa xp xo h =
      subst (λ (t : Awaited). IsBadAt offset t passed others rest) xa
      (subst (λ (p : List (List ℕ)). IsBadAt offset x.awaited p others rest) xp
      (subst (λ (o : List (List ℕ)). IsBadAt offset x.awaited x.passed o rest) xo h))

  apart : (offset : ℕ) → others ≡ [] → IsPartialPacket rest → IsBadAt offset awaited passed others rest → ⊥
  apart offset none partial h =
      partial_refused rest partial (subst (λ (o : List (List ℕ)). IsBadAt offset awaited passed o rest) none h).none

  offsets : (os : List (List ℕ)) (x y : ℕ) → IsBadAt x awaited passed os rest → IsBadAt y awaited passed os rest → x ≡ y
  offsets [] x y h k = one_place (record { held = rest; dropped = place_behind passed }) x y h k
  offsets (text ∷ os) x y h k = h.1 ∙ sym k.1

  by : (one other : Result (Unit {0}) IdeError) → is_verdict one ≡ true → is_verdict other ≡ true
      → Lacks one w rest source → Lacks other v rest source_2 → one ≡ other
  by (Ok u) other a b l m = absurd l
  by (Err (Differs line wanted found)) other a b l m = absurd l
  by (Err (BadScript line)) other a b l m = absurd (cc)
  by (Err ReadFault) other a b l m = absurd (cc)
  by (Err WriteFault) other a b l m = absurd (cc)
  by (Err OutFault) other a b l m = absurd (cc)
  by (Err Memory) other a b l m = absurd (cc)
  by (Err PeerEnd) (Ok u) a b l m = absurd m
  by (Err PeerEnd) (Err (Differs line wanted found)) a b l m = absurd m
  by (Err PeerEnd) (Err (BadScript line)) a b l m = absurd (cc)
  by (Err PeerEnd) (Err ReadFault) a b l m = absurd (cc)
  by (Err PeerEnd) (Err WriteFault) a b l m = absurd (cc)
  by (Err PeerEnd) (Err OutFault) a b l m = absurd (cc)
  by (Err PeerEnd) (Err Memory) a b l m = absurd (cc)
  by (Err PeerEnd) (Err PeerEnd) a b l m = refl
  by (Err PeerEnd) (Err (BadPacket offset)) a b l m = absurd (apart offset (sym wo ∙ l.0) l.1 (bad v offset va vp vo m))
  by (Err (BadPacket offset)) (Ok u) a b l m = absurd m
  by (Err (BadPacket offset)) (Err (Differs line wanted found)) a b l m = absurd m
  by (Err (BadPacket offset)) (Err (BadScript line)) a b l m = absurd (cc)
  by (Err (BadPacket offset)) (Err ReadFault) a b l m = absurd (cc)
  by (Err (BadPacket offset)) (Err WriteFault) a b l m = absurd (cc)
  by (Err (BadPacket offset)) (Err OutFault) a b l m = absurd (cc)
  by (Err (BadPacket offset)) (Err Memory) a b l m = absurd (cc)
  by (Err (BadPacket offset)) (Err PeerEnd) a b l m = absurd (apart offset (sym vo ∙ m.0) m.1 (bad w offset wa wp wo l))
  by (Err (BadPacket offset)) (Err (BadPacket place)) a b l m =
      ap (λ (n : ℕ). Err (BadPacket n)) (offsets others offset place (bad w offset wa wp wo l) (bad v place va vp vo m))

-- ---- why it ended where it stands

record IsOver (end : Result (Unit {0}) IdeError) (left : List Instruction) : Type 0 where
  pub is : end ≡ Ok tt
  pub none : left ≡ []

record Differing (end : Result (Unit {0}) IdeError) (heard : Heard) (left : List Instruction) : Type 0 where
  pub one : Instruction
  pub more : List Instruction
  pub comes : left ≡ one ∷ more
  pub line : ℕ
  pub wanted : List ℕ
  pub found : Option (List ℕ)
  pub is : end ≡ Err (Differs line wanted found)
  pub at : line ≡ one.line
  pub expects : expected one.act heard ≡ Some (record { wanted = wanted; found = found })
  pub differs : found ≢ Some wanted

record Awaiting (end : Result (Unit {0}) IdeError) (left : List Instruction) (texts others : List (List ℕ))
    (rest : List ℕ) (source : Change) : Type 0 where
  pub one : Instruction
  pub more : List Instruction
  pub comes : left ≡ one ∷ more
  pub line : List ℕ
  pub id : List ℕ
  pub sends : one.act ≡ Send line id
  pub waiting : Waiting
  pub awaited : waiting.awaited ≡ response id
  pub since : List (List ℕ)
  pub passed : waiting.passed ≡ texts ++ since
  pub came : others ≡ since ++ waiting.others
  pub messages : List Message
  pub are : AreMessages since messages
  pub none : list_all (λ message. not (answers id message.packet)) messages ≡ true
  pub verdict : is_verdict end ≡ true
  pub lacks : Lacks end waiting rest source

abbrev Cause : Result (Unit {0}) IdeError → Heard → List Instruction → List (List ℕ) → List (List ℕ) → List ℕ → Change
    → Type 0
Cause end heard left texts others rest source =
    IsOver end left ⊎ Differing end heard left ⊎ Awaiting end left texts others rest source

-- what did not hold was not played
unmet : (act : Act) (heard after : Heard) (messages : List Message) (wanted : List ℕ) (found : Option (List ℕ))
    → expected act heard ≡ Some (record { wanted = wanted; found = found })
    → found ≢ Some wanted → Does act heard messages after → ⊥
unmet (Send line id) heard after messages wanted found is differs does = cc
unmet (Attr name text) heard after messages wanted found is differs does = differs (subst IsMet is does.0)
unmet (Code n) heard after messages wanted found is differs does = differs (subst IsMet is does.0)
unmet (Prop name text) heard after messages wanted found is differs does = differs (subst IsMet is does.0)
unmet (Out text) heard after messages wanted found is differs does = differs (subst IsMet is does.0)
unmet Print heard after messages wanted found is differs does = cc

-- where none of the messages answers, and no message follows, the answer was not there
no_answer : (id : List ℕ) (passed : List Message) (answer : Message) (texts rest since others : List (List ℕ))
    (messages : List Message) → AreMessages texts (passed ++ answer ∷ [])
    → AreMessages since messages → list_all (λ message. not (answers id message.packet)) messages ≡ true
    → answers id answer.packet ≡ true
    → IsStuck (IsUnfit (response id)) others → since ++ others ≡ texts ++ rest → ⊥
no_answer id [] answer [] rest since others messages are ares none is end same = are
no_answer id (p ∷ passed) answer [] rest since others messages are ares none is end same = are
no_answer id [] answer (text ∷ texts) rest [] others messages are ares none is end same =
    let stuck_there : IsStuck (IsUnfit (response id)) (text ∷ (texts ++ rest)) = subst
    (IsStuck (IsUnfit (response id))) same end in stuck_there answer are.0
no_answer id (p ∷ passed) answer (text ∷ texts) rest [] others messages are ares none is end same =
    let stuck_there : IsStuck (IsUnfit (response id)) (text ∷ (texts ++ rest)) = subst
    (IsStuck (IsUnfit (response id))) same end in stuck_there p are.0
no_answer id passed answer (text ∷ texts) rest (next ∷ since) others [] are ares none is end same = ares
no_answer id [] answer (text ∷ texts) rest (next ∷ since) others (m ∷ messages) are ares none is end same =
    let head : next ≡ text = cc in
    let one : m ≡ answer = one_message_of text m answer (subst (λ (t : List ℕ). IsMessage t m) head ares.0) are.0 in
    let no : answers id m.packet ≡ false = not-true (answers id m.packet)
    (and_parts (not (answers id m.packet)) (list_all (λ message. not (answers id message.packet)) messages) none).0
    in
    false≢true (sym no ∙ ap (λ (x : Message). answers id x.packet) one ∙ is)
no_answer id (p ∷ passed) answer (text ∷ texts) rest (next ∷ since) others (m ∷ messages) are ares none is end same =
    let tail : since ++ others ≡ texts ++ rest = cc in
    no_answer id passed answer texts rest since others messages are.1 ares.1
    (and_parts (not (answers id m.packet)) (list_all (λ message. not (answers id message.packet)) messages) none).1 is
    end tail

stuck_there : (end : Result (Unit {0}) IdeError) (left : List Instruction) (texts others : List (List ℕ))
    (rest : List ℕ) (source : Change)
    (a : Awaiting end left texts others rest source) → IsStuck (IsUnfit (response a.id)) a.waiting.others
stuck_there end left texts others rest source a =
    subst (λ (t : Awaited). IsStuck (IsUnfit t) a.waiting.others) a.awaited
    (stuck a.waiting end rest source a.verdict a.lacks)

-- who ended there has not played on
no_further : (end : Result (Unit {0}) IdeError) (heard : Heard) (left : List Instruction) (texts others : List (List ℕ))
    (rest : List ℕ) (source : Change) → Cause end heard left texts others rest source
    → (one : Instruction) (more behind : List Instruction) (last : List (List ℕ)) (after : Heard)
    → Came (one ∷ more) heard others last after → left ≡ one ∷ (more ++ behind) → ⊥
no_further end heard left texts others rest source (inl o) one more behind last after came is =
    let both : [] ≡ one ∷ (more ++ behind) = sym o.none ∙ is in cc
no_further end heard left texts others rest source (inr (inl d)) one more behind last after came is =
    let same : d.one ≡ one = let both : d.one ∷ d.more ≡ one ∷ (more ++ behind) = sym d.comes ∙ is in cc in
    let first = begun one more heard others last after came in
    unmet one.act heard first.heard first.messages d.wanted d.found
    (ap (λ (o : Instruction). expected o.act heard) (sym same) ∙ d.expects) d.differs first.does
no_further end heard left texts others rest source (inr (inr a)) one more behind last after came is =
    let same : a.one ≡ one = let both : a.one ∷ a.more ≡ one ∷ (more ++ behind) = sym a.comes ∙ is in cc in
    let first = begun one more heard others last after came in
    let act : one.act ≡ Send a.line a.id = ap (λ (o : Instruction). o.act) (sym same) ∙ a.sends in
    let does : Answered a.id heard first.messages first.heard = subst
    (λ (t : Act). Does t heard first.messages first.heard) {y = Send a.line a.id} act first.does in
    no_answer a.id does.passed does.answer first.texts first.left a.since a.waiting.others a.messages
    (subst (AreMessages first.texts) does.whole first.are) a.are a.none does.is
    (stuck_there end left texts others rest source a) (sym a.came ∙ first.split)

fit : (id : List ℕ) (since : List (List ℕ)) (messages : List Message) → AreMessages since messages
    → AreFit (IsUnfit (response id)) since
fit id [] messages are = tt
fit id (text ∷ since) [] are = absurd are
fit id (text ∷ since) (m ∷ messages) are = ((λ unfit. unfit m are.0), fit id since messages are.1)

-- who ended at one place ended alike
module _ (heard : Heard) (left : List Instruction) (texts others : List (List ℕ)) (rest : List ℕ)
    (source source_2 : Change) (one other : Result (Unit {0}) IdeError) where
  both_differ : Differing one heard left → Differing other heard left → one ≡ other
  both_differ d e =
      let same : d.one ≡ e.one = let both : d.one ∷ d.more ≡ e.one ∷ e.more = sym d.comes ∙ e.comes in cc in
      let expects : wants d.wanted d.found ≡ wants e.wanted e.found = sym d.expects ∙ ap
      (λ (o : Instruction). expected o.act heard) same ∙ e.expects in
      let wanted : d.wanted ≡ e.wanted = ap (λ (o : Option Expectation). option_map_or (λ (x : Expectation). x.wanted) o
      []) expects in
      let found : d.found ≡ e.found = ap (λ (o : Option Expectation). option_map_or
      (λ (x : Expectation). x.found) o None) expects in
      let line : d.line ≡ e.line = d.at ∙ ap (λ (o : Instruction). o.line) same ∙ sym e.at in
      d.is ∙ (λ i. Err (Differs (line i) (wanted i) (found i))) ∙ sym e.is

  never_both : Differing one heard left → Awaiting other left texts others rest source_2 → ⊥
  never_both d a =
      let same : d.one ≡ a.one = let both : d.one ∷ d.more ≡ a.one ∷ a.more = sym d.comes ∙ a.comes in cc in
      let none : wants d.wanted d.found ≡ None =
      sym d.expects ∙ ap (λ (o : Instruction). expected o.act heard) same ∙ ap
      (λ (t : Act). expected t heard) a.sends in cc

  both_await : Awaiting one left texts others rest source → Awaiting other left texts others rest source_2 → one ≡ other
  both_await a b =
      let same : a.one ≡ b.one = let both : a.one ∷ a.more ≡ b.one ∷ b.more = sym a.comes ∙ b.comes in cc in
      let id : a.id ≡ b.id = let both : Send a.line a.id ≡ Send b.line b.id = sym a.sends ∙ ap
      (λ (o : Instruction). o.act) same ∙ b.sends in cc in
      let awaited : b.waiting.awaited ≡ response a.id = b.awaited ∙ ap response (sym id) in
      let stops = one_stop (IsUnfit (response a.id)) a.since b.since a.waiting.others b.waiting.others
      (fit a.id a.since a.messages a.are) (fit a.id b.since b.messages b.are)
      (stuck_there one left texts others rest source a)
      (subst (λ (t : List ℕ). IsStuck (IsUnfit (response t)) b.waiting.others) (sym id)
      (stuck_there other left texts others rest source_2 b)) (sym a.came ∙ b.came) in
      one_lack (response a.id) (texts ++ a.since) a.waiting.others rest source source_2 a.waiting b.waiting one other
      a.awaited awaited a.passed
      (b.passed ∙ ap (λ (l : List (List ℕ)). texts ++ l) (sym stops.0)) refl
      (sym stops.1) a.verdict b.verdict a.lacks b.lacks

alike : (heard : Heard) (left : List Instruction) (texts others : List (List ℕ)) (rest : List ℕ)
    (source source_2 : Change) (one other : Result (Unit {0}) IdeError)
    → Cause one heard left texts others rest source → Cause other heard left texts others rest source_2 → one ≡ other
alike heard left texts others rest source source_2 one other (inl o) (inl e) = o.is ∙ sym e.is
alike heard left texts others rest source source_2 one other (inl o) (inr (inl d)) =
    let both : [] ≡ d.one ∷ d.more = sym o.none ∙ d.comes in absurd (cc)
alike heard left texts others rest source source_2 one other (inl o) (inr (inr a)) =
    let both : [] ≡ a.one ∷ a.more = sym o.none ∙ a.comes in absurd (cc)
alike heard left texts others rest source source_2 one other (inr (inl d)) (inl o) =
    let both : [] ≡ d.one ∷ d.more = sym o.none ∙ d.comes in absurd (cc)
alike heard left texts others rest source source_2 one other (inr (inr a)) (inl o) =
    let both : [] ≡ a.one ∷ a.more = sym o.none ∙ a.comes in absurd (cc)
alike heard left texts others rest source source_2 one other (inr (inl d)) (inr (inl e)) =
    both_differ heard left texts others rest source source_2 one other d e
alike heard left texts others rest source source_2 one other (inr (inl d)) (inr (inr a)) =
    absurd (never_both heard left texts others rest source source_2 one other d a)
alike heard left texts others rest source source_2 one other (inr (inr a)) (inr (inl d)) =
    absurd (never_both heard left texts others rest source_2 source other one d a)
alike heard left texts others rest source source_2 one other (inr (inr a)) (inr (inr b)) =
    both_await heard left texts others rest source source_2 one other a b

-- ---- where it ended

record EndsAtInit (end : Result (Unit {0}) IdeError) (read : List ℕ) (source : Change) : Type 0 where
  pub waiting : Waiting
  pub awaited : waiting.awaited ≡ init
  pub awaits : AwaitsInit read waiting
  pub lacks : Lacks end waiting (rest_of_packets read) source

record EndsBehindInit (end : Result (Unit {0}) IdeError) (script : List Instruction) (read : List ℕ)
    (source : Change) : Type 0 where
  pub progress : Progress script read
  pub cause : Cause end progress.heard progress.left progress.texts progress.others (rest_of_packets read) source

stopped : (end : Result (Unit {0}) IdeError) (script : List Instruction) (read : List ℕ) (source sink out : Change)
    → is_verdict end ≡ true → EndsPlaying end script read sink out
    → EndsBehindInit end script read source
stopped end script read source sink out verdict e =
    record { progress = e.progress; cause = by end refl verdict e.stops } where
      by : (x : Result (Unit {0}) IdeError) → end ≡ x → is_verdict x ≡ true → StopsAt x e.progress sink out
          → Cause end e.progress.heard e.progress.left e.progress.texts e.progress.others (rest_of_packets read) source
      by (Ok u) is v s = inl (record { is = is; none = s.0 })
      by (Err (Differs line wanted found)) is v s = inr (inl (record {
        one = s.0.one;
        more = s.0.comes.more;
        comes = s.0.comes.is;
        line = line;
        wanted = wanted;
        found = found;
        is = is;
        at = s.0.at;
        expects = s.0.expects;
        differs = s.0.differs;
      }))
      by (Err PeerEnd) is v s = absurd s
      by (Err (BadPacket offset)) is v s = absurd s
      by (Err (BadScript line)) is v s = absurd (cc)
      by (Err ReadFault) is v s = absurd (cc)
      by (Err WriteFault) is v s = absurd (cc)
      by (Err OutFault) is v s = absurd (cc)
      by (Err Memory) is v s = absurd (cc)

waited : (end : Result (Unit {0}) IdeError) (script : List Instruction) (read : List ℕ) (source sink out : Change)
    → is_verdict end ≡ true → EndsWaiting end script read source sink out
    → EndsAtInit end read source ⊎ EndsBehindInit end script read source
waited end script read source sink out verdict e = by e.waiting.awaited refl e.awaits where
  by : (t : Awaited) → e.waiting.awaited ≡ t → Awaits t script read e.waiting
      → EndsAtInit end read source ⊎ EndsBehindInit end script read source
  by init is a = inl (record { waiting = e.waiting; awaited = is; awaits = a; lacks = e.lacks })
  by (response id) is a = inr (record {
    progress = a.progress;
    cause = inr (inr (record {
      one = a.one;
      more = a.comes.more;
      comes = a.comes.is;
      line = a.line;
      id = id;
      sends = a.sends;
      waiting = e.waiting;
      awaited = is;
      since = a.since;
      passed = a.passed;
      came = a.came;
      messages = a.messages;
      are = a.are;
      none = a.none;
      verdict = verdict;
      lacks = e.lacks;
    }));
  })

place_of : (end : Result (Unit {0}) IdeError) (script : List Instruction) (read : List ℕ) (source sink out : Change)
    → is_verdict end ≡ true
    → EndsPlaying end script read sink out ⊎ EndsWaiting end script read source sink out
    → EndsAtInit end read source ⊎ EndsBehindInit end script read source
place_of end script read source sink out verdict (inl e) = inr (stopped end script read source sink out verdict e)
place_of end script read source sink out verdict (inr e) = waited end script read source sink out verdict e

never_started : (end other : Result (Unit {0}) IdeError) (script : List Instruction) (read : List ℕ)
    (source source_2 : Change) → is_verdict end ≡ true → EndsAtInit end read source
    → EndsBehindInit other script read source_2 → ⊥
never_started end other script read source source_2 verdict s t =
    let there = position_of script read t.progress in
    let at_first : IsStuck (IsUnfit init) s.waiting.others =
    subst (λ (a : Awaited). IsStuck (IsUnfit a) s.waiting.others) s.awaited
    (stuck s.waiting end (rest_of_packets read) source verdict s.lacks) in
    let unfit : IsStuck (IsUnfit init) (there.text ∷ there.later) = subst (IsStuck (IsUnfit init))
    (sym s.awaits.came ∙ there.whole) at_first in
    false≢true (sym (unfit there.init there.is) ∙ there.opens)

-- the first stands where the other does, or before
ordered : (one other : Result (Unit {0}) IdeError) (script : List Instruction) (read : List ℕ)
    (source source_2 : Change) (s : EndsBehindInit one script read source)
    (t : EndsBehindInit other script read source_2) → Follows s.progress.done t.progress.done → one ≡ other
ordered one other script read source source_2 s t f = by f.more f.is where
  by : (more : List Instruction) → t.progress.done ≡ s.progress.done ++ more → one ≡ other
  by [] is =
      let on = plays_on script (packets_in read) s.progress.done s.progress.left s.progress.heard s.progress.others
      [] t.progress.left t.progress.heard t.progress.others (position_of script read s.progress)
      (subst (λ (d : List Instruction). Position script (packets_in read) d t.progress.left t.progress.heard
      t.progress.others) is (position_of script read t.progress)) in
      let none : on.0.texts ≡ [] = no_texts on.0.texts (subst (AreMessages on.0.texts) on.0.goes.0 on.0.are) in
      let others : s.progress.others ≡ t.progress.others = on.0.split ∙ ap
      (λ (l : List (List ℕ)). l ++ t.progress.others) none in
      let texts : s.progress.texts ≡ t.progress.texts =
      append_cancel_right s.progress.texts t.progress.texts t.progress.others
      (ap (λ (l : List (List ℕ)). s.progress.texts ++ l) (sym others) ∙ sym s.progress.came ∙ t.progress.came) in
      let cause : Cause other s.progress.heard s.progress.left s.progress.texts s.progress.others
      (rest_of_packets read) source_2 =
      subst (λ (h : Heard). Cause other h s.progress.left s.progress.texts s.progress.others
      (rest_of_packets read) source_2) on.0.goes.1
      (subst (λ (l : List Instruction). Cause other t.progress.heard l s.progress.texts s.progress.others
      (rest_of_packets read) source_2) (sym on.1)
      (subst (λ (l : List (List ℕ)). Cause other t.progress.heard t.progress.left l s.progress.others
      (rest_of_packets read) source_2) (sym texts)
      (subst (λ (l : List (List ℕ)). Cause other t.progress.heard t.progress.left t.progress.texts l
      (rest_of_packets read) source_2) (sym others) t.cause))) in
      alike s.progress.heard s.progress.left s.progress.texts s.progress.others
      (rest_of_packets read) source source_2 one other s.cause cause
  by (first ∷ more) is =
      let on = plays_on script (packets_in read) s.progress.done s.progress.left s.progress.heard s.progress.others
      (first ∷ more) t.progress.left t.progress.heard t.progress.others (position_of script read s.progress)
      (subst (λ (d : List Instruction). Position script (packets_in read) d t.progress.left t.progress.heard
      t.progress.others) is (position_of script read t.progress)) in
      absurd (no_further one s.progress.heard s.progress.left s.progress.texts s.progress.others
      (rest_of_packets read) source s.cause first more t.progress.left t.progress.others t.progress.heard on.0 on.1)

-- what is told decides what was read
one_read : (before after : Option (List ℕ)) (read other : List ℕ) → IsSome before → Consumes before after read
    → Consumes before after other → read ≡ other
one_read None after read other told p q = absurd (cc)
one_read (Some xs) None read other told p q = absurd p
one_read (Some xs) (Some ys) read other told p q = append_cancel_right read other ys (sym p ∙ q)

pub one_end_of : (script : List Instruction) (one other : Result (Unit {0}) IdeError)
    (source sink out other_sink other_out : Change) → IsSome source.told_before → is_verdict one ≡ true
    → is_verdict other ≡ true → Ends script one source sink out → Ends script other source other_sink other_out
    → one ≡ other
one_end_of script one other source sink out other_sink other_out told v w e f =
    by (place_of one script e.read source sink out v e.how)
    (place_of other script e.read source other_sink other_out w
    (subst (λ (r : List ℕ). EndsPlaying other script r other_sink other_out
    ⊎ EndsWaiting other script r source other_sink other_out) (sym same) f.how)) where
      same : e.read ≡ f.read
      same = one_read source.told_before source.told e.read f.read told e.consumed f.consumed

      by : EndsAtInit one e.read source ⊎ EndsBehindInit one script e.read source
          → EndsAtInit other e.read source ⊎ EndsBehindInit other script e.read source → one ≡ other
      by (inl s) (inl t) =
          one_lack init [] (packets_in e.read) (rest_of_packets e.read) source source s.waiting t.waiting one other
          s.awaited t.awaited s.awaits.none_passed t.awaits.none_passed
          (sym s.awaits.came) (sym t.awaits.came) v w s.lacks t.lacks
      by (inl s) (inr t) = absurd (never_started one other script e.read source source v s t)
      by (inr s) (inl t) = absurd (never_started other one script e.read source source w t s)
      by (inr s) (inr t) =
          order (fronts s.progress.done t.progress.done s.progress.left t.progress.left
          (sym s.progress.split ∙ t.progress.split)) where
            order : Follows s.progress.done t.progress.done ⊎ Follows t.progress.done s.progress.done → one ≡ other
            order (inl f) = ordered one other script e.read source source s t f
            order (inr f) = sym (ordered other one script e.read source source t s f)
