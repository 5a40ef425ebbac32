-- A session in plain words: while no lane is bad every act goes on, and the closing ends it.
use Rattle.std.proofs.Common.{◌≡◌, ℕ, ◌+◌, ◌≤◌, min, Bool, true, false, List, [], ◌∷◌, ◌++◌, length, take, drop, flat_map, fold}
use Rattle.std.proofs.Common.{is_none, refl, sym, ap, subst, ◌∙◌, append_assoc, append-nil, arith, length-append, length-take, length-drop}
use Rattle.std.proofs.lemmas.Bool.{or_from, false≢true}
use Rattle.std.specs.List.{AllByRecursion}
use Rattle.dp_conversation.specs.Growth.{Begins}
use Rattle.dp_wire.proofs.PacketLaws.{packets_split}
use Rattle.dp_wire.specs.Frames.{IsPacketText, packet_frame, packets_in, command_frame, commands_in}
use Rattle.dp_lanes.specs.declared.lane.LaneKind.TheVariants.{Up, Down}
use Rattle.dp_lanes.specs.Lanes.{is_bad}
use Rattle.dp_lanes.proofs.GoodLaws.{front_good, bad_stays}
use Rattle.dp_registry.specs.declared.pass.Pass.{Pass}
use Rattle.dp_events.specs.declared.event.Act.{Act}
use Rattle.dp_events.specs.declared.event.Act.TheVariants.{Ide, Engine, Give, Move, Close}
use Rattle.dp_proxy.specs.declared.events.Act.{Act as ProxyAct}
use Rattle.dp_proxy.specs.declared.events.Act.TheVariants as proxy
use Rattle.dp_proxy.specs.declared.events.Effect.{Effect}
use Rattle.dp_proxy.specs.declared.events.Effect.TheVariants.{ToEngine, ToIde}
use Rattle.dp_proxy.specs.Links.{stream, handed, is_broken, effect_of, ends}
use Rattle.dp_proxy.specs.Pasts.{Link, Joined, Ended, Lead, lead, acts_of}
use Rattle.dp_proxy.proofs.ActLaws.{joined_on, joined_over, over_still}
use Rattle.dp_proxy.proofs.HandedLaws.{all_is_handed}
use Rattle.dp_proxy.proofs.PassLaws.{stream_push, stream_same}
use Rattle.dp_world.proofs.EngineLaws.{grows}
use Rattle.dp_world.proofs.HeadlineLaws.{longer, front_of, its_sent, sent_on}
use Rattle.dp_world.specs.Alone.{Engines, alone, answers_to}
use Rattle.dp_world.specs.Engines.{act_of, alone_on}
use Rattle.dp_world.specs.Transcript.{received}
use Rattle.dp_proxy_laws.specs.PlainWords.{IsPlain, SendsPackets, given_on, read_on}

-- a front of what an engine sends is not bad
pub good_front : {S E : Type 0} (engines : Engines S E) (key commands front : List ℕ)
    → SendsPackets engines key commands → Begins front (alone engines key commands)
    → is_bad Up front ≡ false
good_front engines key commands front sends begins =
    front_good Up front begins.0 (engines.init key ∷ (answers_to engines (commands_in commands)).packets)
    (subst (AllByRecursion IsPacketText) sends (packets_split (alone engines key commands)).each) (sym begins.1)

begins_on : (a b c : List ℕ) → Begins a b → Begins b c → Begins a c
begins_on a b c f g = (f.0 ++ g.0, g.1 ∙ ap (λ l. l ++ g.0) f.1 ∙ append_assoc a f.0 g.0)

some_effect : (to : List ℕ → Effect) (bytes : List ℕ) (broken : Bool) → broken ≡ false
    → is_none (effect_of to bytes broken) ≡ false
some_effect to [] true whole = absurd (false≢true (sym whole))
some_effect to [] false whole = refl
some_effect to (b ∷ bytes) broken whole = refl

read_count : (up sends : List ℕ) (count : ℕ) → length up ≤ length sends
    → length (up ++ take count (drop (length up) sends)) ≡ min (length up + count) (length sends)
read_count up sends count small =
    omega (
      arith,
      length-append up (take count (drop (length up) sends)),
      length-take count (drop (length up) sends),
      length-drop (length up) sends,
    )

module _ {S E : Type 0} (engines : Engines S E) (key : List ℕ) (pass : Pass) (total : List ℕ)
    (each : SendsPackets engines key total) (good : is_bad Down total ≡ false) where
  abbrev step : Link → Act → Link
  step link act = (lead [] link (act_of engines link act)).link

  abbrev now : List ProxyAct → Act → ProxyAct
  now so_far act = act_of engines (Joined key pass so_far) act

  -- what was read begins what the engine has sent
  abbrev IsSent : List ProxyAct → Type 0
  IsSent so_far = Begins (stream Up so_far) (alone engines key (stream Down so_far))

  whole : (so_far : List ProxyAct) → IsSent so_far → Begins (stream Down so_far) total → is_broken so_far ≡ false
  whole so_far sent front =
      let more : Begins (stream Up so_far) (alone engines key total) =
      begins_on (stream Up so_far) (alone engines key (stream Down so_far)) (alone engines key total) sent
      (subst (λ l. Begins (alone engines key (stream Down so_far)) (alone engines key l)) (sym front.1)
      (grows engines key (stream Down so_far) front.0)) in
      or_from (is_bad Down (stream Down so_far)) (is_bad Up (stream Up so_far))
      (by (is_bad Down (stream Down so_far)) refl)
      (good_front engines key total (stream Up so_far) each more)
    where
      by : (t : Bool) → is_bad Down (stream Down so_far) ≡ t → t ≡ false
      by false e = refl
      by true e =
          let bad : is_bad Down total ≡ true = ap (is_bad Down) front.1 ∙ bad_stays (stream Down so_far) front.0 e in
          absurd (false≢true (sym good ∙ bad))

  -- what the session comes to from here
  abbrev Comes : Link → List ℕ → ℕ → List Act → Type 0
  Comes link given read acts =
      (stream Down (acts_of (fold step link acts)) ≡ given ++ given_on acts)
      × (length (stream Up (acts_of (fold step link acts))) ≡ read_on engines key given read acts)

  over : (so_far : List ProxyAct) (acts : List Act) → fold step (Ended key pass so_far) acts ≡ Ended key pass so_far
  over so_far [] = refl
  over so_far (act ∷ acts) =
      let stays : step (Ended key pass so_far) act ≡ Ended key pass so_far =
      ap (λ (t : Lead). t.link)
      (over_still [] (Ended key pass so_far) (act_of engines (Ended key pass so_far) act) tt) in
      ap (λ (l : Link). fold step l acts) stays ∙ over so_far acts

  -- an act that does not end it: the session goes on with it
  goes_on : (so_far : List ProxyAct) (act : Act) (acts : List Act) (given : List ℕ) (read : ℕ)
      → ends so_far (now so_far act) ≡ false
      → Comes (Joined key pass (so_far ++ now so_far act ∷ [])) given read acts
      → (stream Down (acts_of (fold step (Joined key pass so_far) (act ∷ acts))) ≡ given ++ given_on acts)
      × (length (stream Up (acts_of (fold step (Joined key pass so_far) (act ∷ acts))))
      ≡ read_on engines key given read acts)
  goes_on so_far act acts given read on comes =
      let one : step (Joined key pass so_far) act ≡ Joined key pass (so_far ++ now so_far act ∷ []) =
      ap (λ (t : Lead). t.link) (joined_on [] key pass so_far (now so_far act) on) in
      subst (λ (l : Link). Comes l given read acts) (sym one) comes

  ends_here : (so_far : List ProxyAct) (acts : List Act)
      → Comes (Joined key pass so_far) (stream Down so_far) (length (stream Up so_far)) (Close ∷ acts)
  ends_here so_far acts =
      let one : step (Joined key pass so_far) Close ≡ Ended key pass so_far =
      ap (λ (t : Lead). t.link) (joined_over [] key pass so_far proxy.Closed refl) in
      let last : fold step (Joined key pass so_far) (Close ∷ acts) ≡ Ended key pass so_far =
      ap (λ (l : Link). fold step l acts) one ∙ over so_far acts in (
        ap (λ (l : Link). stream Down (acts_of l)) last ∙ sym (append-nil (stream Down so_far)),
        ap (λ (l : Link). length (stream Up (acts_of l))) last,
      )

  plain : (so_far : List ProxyAct) (acts : List Act) → IsSent so_far → total ≡ stream Down so_far ++ given_on acts
      → Comes (Joined key pass so_far) (stream Down so_far) (length (stream Up so_far)) acts
  plain so_far [] sent is = (sym (append-nil (stream Down so_far)), refl)
  plain so_far (Close ∷ acts) sent is = ends_here so_far acts
  plain so_far (Give bytes ∷ acts) sent is =
      let act = proxy.Given bytes in
      let next = so_far ++ act ∷ [] in
      let more = sent_on engines (grows engines) key pass so_far (Give bytes) sent in
      let down : stream Down next ≡ stream Down so_far ++ bytes = stream_push Down so_far act in
      let up : stream Up next ≡ stream Up so_far = sym (stream_same Up so_far act refl) in
      let rest : total ≡ stream Down next ++ given_on acts =
      is ∙ sym (append_assoc (stream Down so_far) bytes (given_on acts)) ∙ ap (λ l. l ++ given_on acts) (sym down) in
      let on = some_effect ToEngine (handed Down so_far act) (is_broken next)
      (whole next more (given_on acts, rest)) in
      let comes = goes_on so_far (Give bytes) acts (stream Down next) (length (stream Up next)) on
      (plain next acts more rest) in (
        comes.0 ∙ ap (λ l. l ++ given_on acts) down ∙ append_assoc (stream Down so_far) bytes (given_on acts),
        comes.1 ∙ (λ i. read_on engines key (down i) (length (up i)) acts),
      )
  plain so_far (Move count ∷ acts) sent is =
      let sends = alone engines key (stream Down so_far) in
      let piece = take count (drop (length (stream Up so_far)) sends) in
      let act = proxy.Moved piece in
      let next = so_far ++ act ∷ [] in
      let more = sent_on engines (grows engines) key pass so_far (Move count) sent in
      let down : stream Down next ≡ stream Down so_far = sym (stream_same Down so_far act refl) in
      let up : length (stream Up next) ≡ min (length (stream Up so_far) + count) (length sends) =
      ap length (stream_push Up so_far act)
      ∙ read_count (stream Up so_far) sends count (longer (stream Up so_far) sends sent) in
      let rest : total ≡ stream Down next ++ given_on acts = is ∙ ap (λ l. l ++ given_on acts) (sym down) in
      let on = some_effect ToIde (handed Up so_far act) (is_broken next) (whole next more (given_on acts, rest)) in
      let comes = goes_on so_far (Move count) acts (stream Down next) (length (stream Up next)) on
      (plain next acts more rest) in (
        comes.0 ∙ ap (λ l. l ++ given_on acts) down,
        comes.1 ∙ (λ i. read_on engines key (down i) (up i) acts),
      )
  plain so_far (Ide host ∷ acts) sent is =
      let act = proxy.Ide host in
      let next = so_far ++ act ∷ [] in
      let more = sent_on engines (grows engines) key pass so_far (Ide host) sent in
      let down : stream Down next ≡ stream Down so_far = sym (stream_same Down so_far act refl) in
      let up : stream Up next ≡ stream Up so_far = sym (stream_same Up so_far act refl) in
      let rest : total ≡ stream Down next ++ given_on acts = is ∙ ap (λ l. l ++ given_on acts) (sym down) in
      let comes = goes_on so_far (Ide host) acts (stream Down next) (length (stream Up next)) refl
      (plain next acts more rest) in (
        comes.0 ∙ ap (λ l. l ++ given_on acts) down,
        comes.1 ∙ (λ i. read_on engines key (down i) (length (up i)) acts),
      )
  plain so_far (Engine other ∷ acts) sent is =
      let act = proxy.Engine other in
      let next = so_far ++ act ∷ [] in
      let more = sent_on engines (grows engines) key pass so_far (Engine other) sent in
      let down : stream Down next ≡ stream Down so_far = sym (stream_same Down so_far act refl) in
      let up : stream Up next ≡ stream Up so_far = sym (stream_same Up so_far act refl) in
      let rest : total ≡ stream Down next ++ given_on acts = is ∙ ap (λ l. l ++ given_on acts) (sym down) in
      let comes = goes_on so_far (Engine other) acts (stream Down next) (length (stream Up next)) refl
      (plain next acts more rest) in (
        comes.0 ∙ ap (λ l. l ++ given_on acts) down,
        comes.1 ∙ (λ i. read_on engines key (down i) (length (up i)) acts),
      )

pub plainly : {S E : Type 0} (engines : Engines S E) (key : List ℕ) (pass : Pass) (acts : List Act)
    → SendsPackets engines key (given_on acts) → is_bad Down (given_on acts) ≡ false
    → IsPlain engines key pass acts
plainly engines key pass acts each good =
    let sends = alone engines key [] in
    let told = plain engines key pass (given_on acts) each good [] acts (sends, refl) refl in
    let its = alone_on engines key pass acts in
    let front = front_of (stream Up its) (alone engines key (stream Down its))
    (its_sent engines (grows engines) key pass acts) in
    record {
      given = told.0;
      read = told.1;
      handed = all_is_handed Up its ∙ ap (λ s. flat_map packet_frame (packets_in s)) front
          ∙ (λ i. received engines key (told.0 i) (told.1 i));
      commands = all_is_handed Down its ∙ ap (λ s. flat_map command_frame (commands_in s)) told.0;
    }
