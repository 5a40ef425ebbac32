-- What playing a script over a link came to decides the end of `ide`.
use Rattle.std.proofs.Common.{◌≡◌, ◌⊎◌, inl, inr, Bool, true, false, ℕ, ◌+◌, ◌<◌, ◌≤◌, List, [], ◌∷◌, ◌++◌, length, Option, None, Some, IsSome, Result, Ok, Err, refl, sym, ap, ◌∙◌, subst, arith}
use Rattle.std.specs.Prelude.{MatchResult, IfOk, IfErr}
use Rattle.dp_outside.specs.Causes.{Rose}
use Rattle.dp_outside.specs.Changes.{Change}
use Rattle.dp_outside.specs.Links.{CountsReturned, Door, Link}
use Rattle.dp_outside.specs.Reports.{BeginsEmpty, grown}
use Rattle.dp_program.specs.Programs.{Files}
use Rattle.dp_ide.specs.declared.errors.IdeError.{IdeError}
use Rattle.dp_ide.specs.declared.errors.IdeError.TheVariants as ends
use Rattle.dp_ide.specs.declared.instruction.Instruction.{Instruction}
use Rattle.dp_ide.specs.Plays.{Ends, EndsPlaying, EndsWaiting}
use Rattle.dp_ide.specs.Scripts.{IsFirstBad}
use Rattle.dp_ide.proofs.LineLaws.{no_bad}
use Rattle.dp_top.specs.declared.failures.Failure.{Failure}
use Rattle.dp_top.specs.declared.failures.Failure.TheVariants as failure
use Rattle.dp_top.specs.declared.failures.Refused.{Refused}
use Rattle.dp_top.specs.Engine.{IsApart}
use Rattle.dp_top.specs.Failures.{status_of}
use Rattle.dp_top.specs.Ide.{IdeFails, IsNoScript, IsPlayed, IsScriptFile, Plays, failure_of}
use Rattle.dp_top.specs.Lines.{IsBadAt, Unread, lines_limit}
use Rattle.dp_top.specs.Links.{IsAccepted, IsGated, IsUncalled, Reports}
use Rattle.dp_top.specs.Seen.{Net, NoneRose, Seen, changed}
use Rattle.dp_top.specs.Tasks.{Caused, Does}
use Rattle.dp_top.specs.inner.Gated.{Called, DoorSeen, GatedSo, IsReportedBy, MetSo, PlayedSo}
use Rattle.dp_top.proofs.LineLaws.{held_or_lacking, same_content}
use Rattle.dp_top.proofs.TaskLaws.{one_task, returned_rose}
use Rattle.dp_words.specs.Words.{IsInvocation, IsIde, Task, ide}

-- ---- a gate

tells_grown : {A : Type 0} (told : Option (List A)) (more : List A) → BeginsEmpty told → Reports (grown told more) more
tells_grown None more empty = tt
tells_grown (Some told) more empty = ap (λ (l : List _). l ++ more) empty

pub called : (end : Result (Unit {0}) IdeError) (instructions : List Instruction) (given back : Link)
    (first read last sent : ℕ) (old over new : DoorSeen) (out : Change)
    → first ≡ 0 → last ≡ 0 → BeginsEmpty old.accepts → BeginsEmpty old.accepted → BeginsEmpty old.retired
    → over.accepts ≡ grown old.accepts (true ∷ []) → new.accepts ≡ over.accepts
    → over.accepted ≡ grown old.accepted (given ∷ []) → over.retired ≡ old.retired
    → new.accepted ≡ over.accepted → new.retired ≡ grown over.retired (back ∷ [])
    → CountsReturned (read + sent) over.returned new.returned
    → Ends instructions end (record {
      told_before = given.left;
      told = back.left;
      faults_before = first;
      faults = read;
    })
    (record { told_before = given.taken; told = back.taken; faults_before = last; faults = sent }) out
    → Called end instructions new out
called end instructions given back first read last sent old over new out none nothing unasked gave took asks still
    given_is kept same came counts ended = record {
      given = given;
      back = back;
      source = record { told_before = given.left; told = back.left; faults_before = first; faults = read };
      sink = record { told_before = given.taken; told = back.taken; faults_before = last; faults = sent };
      used = record {
        source_is = λ i. record { told_before = given.left; told = back.left; faults_before = none i; faults = read };
        sink_is =
            λ i. record { told_before = given.taken; told = back.taken; faults_before = nothing i; faults = sent };
      };
      accepts =
          subst (λ (t : Option (List Bool)). Reports t (true ∷ [])) (sym (still ∙ asks))
          (tells_grown old.accepts (true ∷ []) unasked);
      gave =
          subst (λ (t : Option (List Link)). Reports t (given ∷ [])) (sym (same ∙ given_is))
          (tells_grown old.accepted (given ∷ []) gave);
      took =
          subst (λ (t : Option (List Link)). Reports t (back ∷ []))
          (sym (came ∙ ap (λ (t : Option (List Link)). grown t (back ∷ [])) kept))
          (tells_grown old.retired (back ∷ []) took);
      counted =
          λ some. let rose = returned_rose (read + sent) over.returned new.returned counts some in omega (arith, rose);
      ends = ended;
    }

abbrev door_told : ℕ → DoorSeen → Door
door_told at door =
    record { port = at; accepts = door.accepts; accepted = door.accepted; retired = door.retired }

module _ (port at : ℕ) (door : DoorSeen) (old over new : Net) (at_port : at ≡ port) (dials : over.dials ≡ old.dials)
    (retired : over.retired ≡ old.retired)
    (requested : over.requested ≡ grown old.requested ((port, true) ∷ [])) (shut : over.shut ≡ old.shut)
    (returned : over.returned ≡ old.returned) (later : old.faults ≤ over.faults) (dials_2 : new.dials ≡ over.dials)
    (retired_2 : new.retired ≡ over.retired) (requested_2 : new.requested ≡ over.requested)
    (shut_2 : new.shut ≡ grown over.shut (door_told at door ∷ []))
    (faults : new.faults ≡ over.faults)
    (counts : CountsReturned (door.faults + door.returned) over.returned new.returned) where
  was_gated : (accepts : List Bool) (given back : List Link) → Reports door.accepts accepts
      → Reports door.accepted given → Reports door.retired back
      → IsGated port accepts given back (door.faults + door.returned) old new
  was_gated accepts given back asked gave took = record {
    door = door_told at door;
    at = at_port;
    requested = requested_2 ∙ requested;
    accepts = asked;
    gave = gave;
    took = took;
    shut =
        shut_2 ∙ ap (λ (t : Option (List Door)). grown t (door_told at door ∷ [])) shut;
    dials = dials_2 ∙ dials;
    retired = retired_2 ∙ retired;
    faults = omega (arith, later, faults);
    returned = subst (λ (n : ℕ). CountsReturned (door.faults + door.returned) n new.returned) returned counts;
  }

  pub gated_so : (played : Option (Result (Unit {0}) IdeError)) (instructions : List Instruction) (out : Change)
      → MetSo played instructions door out → GatedSo played port instructions out old new
  gated_so None instructions out met = (
    inr (record {
      failed = door.faults + door.returned;
      counted = omega (arith, met.failed);
      gated = was_gated (false ∷ []) [] [] met.accepts met.gave met.took;
    }),
    met.out_stays,
  )
  gated_so (Some end) instructions out met = record {
    source = met.source;
    sink = met.sink;
    accepted = record {
      given = met.given;
      back = met.back;
      used = met.used;
      failed = door.faults + door.returned;
      counted = met.counted;
      gated = was_gated (true ∷ []) (met.given ∷ []) (met.back ∷ []) met.accepts met.gave met.took;
    };
    ends = met.ends;
  }

-- ---- the end of the command

module _ (port : ℕ) (script : List ℕ) (old new : Seen) (apart : IsApart old new) where
  module _ (instructions : List Instruction) (held : IsScriptFile old.shelf.files script instructions) where
    was_played : (end : Result (Unit {0}) IdeError)
        → PlayedSo end port instructions (changed old.out new.out) old.net new.net → IsPlayed end port script old new
    was_played end h =
        record {
          instructions = instructions;
          held = held;
          source = h.source;
          sink = h.sink;
          accepted = h.accepted;
          ends
              = h.ends;
          apart = apart;
        }

    told_so : (played : Option (Result (Unit {0}) IdeError))
        → GatedSo played port instructions (changed old.out new.out) old.net new.net → (why : Failure) (name : List ℕ)
        → IsReportedBy played why → name ≡ [] → IdeFails why name port script old new
    told_so None h why name is none =
        inr (inr (inl (
          is,
          none,
          record {
            instructions = instructions;
            held = held;
            uncalled = h.0;
            out = h.1;
            apart =
                apart;
          },
        )))
    told_so (Some (Ok u)) h why name is none = absurd is
    told_so (Some (Err end)) h why name is none =
        inr (inr (inr (record { end = end; played = was_played (Err end) h; is_why = is; is_name = none })))

    pub played_told : (played : Option (Result (Unit {0}) IdeError)) (result : Result ℕ Refused)
        → GatedSo played port instructions (changed old.out new.out) old.net new.net
        → IfOk result (λ status. (status ≡ 0) × (played ≡ Some (Ok tt)))
        → IfErr result (λ why. IsReportedBy played why.failure × (why.name.now ≡ []))
        → MatchResult result (λ status. Plays status port script old new)
        (λ why. IdeFails why.failure why.name.now port script old new)
    played_told played (Ok status) h well ill = (
      well.0,
      was_played (Ok tt) (subst (λ (p : Option (Result (Unit {0}) IdeError)). GatedSo p port instructions
          (changed old.out new.out) old.net new.net) well.1 h),
    )
    played_told played (Err why) h well ill = told_so played h why.failure why.name.now ill.0 ill.1

-- ---- a script, or none

held_or_bad : (files : Files) (name : List ℕ) (line : ℕ) (instructions : List Instruction) → IsSome files
    → IsScriptFile files name instructions → IsNoScript files name line → ⊥
held_or_bad files name line instructions told held none = by none.bad where
  same : none.content ≡ held.content
  same = same_content files name lines_limit none.content held.content told none.fetched held.fetched

  by : IsBadAt IsFirstBad none.content line → ⊥
  by (inl long) = omega (arith, long.1, ap length same, held.fits)
  by (inr bad) =
      no_bad held.content line instructions (subst (λ (l : List ℕ). IsFirstBad l line) same bad.1) held.is_script

-- playing names no bad line
never_bad : (instructions : List Instruction) (line : ℕ) (source sink out : Change)
    → Ends instructions (Err (ends.BadScript line)) source sink out → ⊥
never_bad instructions line source sink out e = by e.how where
  by : EndsPlaying (Err (ends.BadScript line)) instructions e.read sink out
      ⊎ EndsWaiting (Err (ends.BadScript line)) instructions e.read source sink out → ⊥
  by (inl p) = p.stops
  by (inr w) = w.lacks

read_fault : (instructions : List Instruction) (source sink out : Change)
    → Ends instructions (Err ends.ReadFault) source sink out → Rose source.faults_before source.faults
read_fault instructions source sink out e = by e.how where
  by : EndsPlaying (Err ends.ReadFault) instructions e.read sink out
      ⊎ EndsWaiting (Err ends.ReadFault) instructions e.read source sink out → Rose source.faults_before source.faults
  by (inl p) = absurd p.stops
  by (inr w) = w.lacks.2

write_fault : (instructions : List Instruction) (source sink out : Change)
    → Ends instructions (Err ends.WriteFault) source sink out → Rose sink.faults_before sink.faults
write_fault instructions source sink out e = by e.how where
  by : EndsPlaying (Err ends.WriteFault) instructions e.read sink out
      ⊎ EndsWaiting (Err ends.WriteFault) instructions e.read source sink out → Rose sink.faults_before sink.faults
  by (inl p) = p.stops.fault
  by (inr w) = absurd w.lacks

out_fault : (instructions : List Instruction) (source sink out : Change)
    → Ends instructions (Err ends.OutFault) source sink out → Rose out.faults_before out.faults
out_fault instructions source sink out e = by e.how where
  by : EndsPlaying (Err ends.OutFault) instructions e.read sink out
      ⊎ EndsWaiting (Err ends.OutFault) instructions e.read source sink out → Rose out.faults_before out.faults
  by (inl p) = p.stops.fault
  by (inr w) = absurd w.lacks

-- ---- what is told of a file that is no script

module _ (port line : ℕ) (script : List ℕ) (old new : Seen) (told : IsSome old.shelf.files)
    (bad : IsNoScript old.shelf.files script line) where
  abbrev IsRefusal : Failure → Type 0
  IsRefusal why = (status_of why ≡ 204) ⊎ (status_of why ≡ 209) ⊎ Rose old.shelf.faults new.shelf.faults

  never_held : (instructions : List Instruction) → IsScriptFile old.shelf.files script instructions → ⊥
  never_held instructions held = held_or_bad old.shelf.files script line instructions told held bad

  unread : (why : Failure) (name : List ℕ)
      → Unread IsFirstBad why name script old.shelf.files old.shelf.faults new.shelf.faults
      → IsRefusal why
  unread failure.ShelfFailed name h = inr (inr h.1)
  unread failure.NoFile name h = absurd (held_or_lacking old.shelf.files script bad.content told bad.fetched h.1)
  unread (failure.Script n) name h = inl refl
  unread failure.Memory name h = absurd h
  unread failure.TooLong name h = absurd h
  unread (failure.Source reason number) name h = absurd h
  unread (failure.Fatal kind n) name h = absurd h
  unread (failure.Bound steps) name h = absurd h
  unread failure.Output name h = absurd h
  unread (failure.Differs n wanted found) name h = absurd h
  unread failure.PeerEnd name h = absurd h
  unread (failure.Packet offset) name h = absurd h
  unread failure.Network name h = absurd h
  unread failure.Stopped name h = absurd h
  unread (failure.Lies line) name h = absurd h

  refusal : (why : Failure) (name : List ℕ) → IdeFails why name port script old new → IsRefusal why
  refusal why name (inl memory) = inr (inl (ap status_of memory.0))
  refusal why name (inr (inl u)) = unread why name u.0
  refusal why name (inr (inr (inl alone))) = absurd (never_held alone.2.instructions alone.2.held)
  refusal why name (inr (inr (inr h))) = absurd (never_held h.played.instructions h.played.held)

pub script_refused_told : (status : ℕ) (words : List (List ℕ)) (task : Task) (old new : Seen) (refused : Refused)
    (A B : Type 0) → IsInvocation words task
    → Caused refused.failure refused.name.now task old new
    → ((status ≡ status_of refused.failure) × A) ⊎ ((status ≡ 209) × B)
    → (port line : ℕ) (script : List ℕ) → IsIde words port script → IsSome old.shelf.files
    → IsNoScript old.shelf.files script line
    → (status ≡ 204) ⊎ (status ≡ 209) ⊎ Rose old.shelf.faults new.shelf.faults
script_refused_told status words task old new refused A B asks caused is_told port line script is told bad =
    by is_told (refusal port line script old new told bad refused.failure refused.name.now
    (subst (λ (t : Task). Caused refused.failure refused.name.now t old new)
    (one_task words task (ide port script) asks is) caused)) where
      by : ((status ≡ status_of refused.failure) × A) ⊎ ((status ≡ 209) × B)
          → (status_of refused.failure ≡ 204) ⊎ (status_of refused.failure ≡ 209)
          ⊎ Rose old.shelf.faults new.shelf.faults
          → (status ≡ 204) ⊎ (status ≡ 209) ⊎ Rose old.shelf.faults new.shelf.faults
      by (inr t) e = inr (inl t.0)
      by (inl t) (inl e) = inl (t.0 ∙ e)
      by (inl t) (inr (inl e)) = inr (inl (t.0 ∙ e))
      by (inl t) (inr (inr e)) = inr (inr e)

pub script_refused_done : (status : ℕ) (words : List (List ℕ)) (task : Task) (old new : Seen) → IsInvocation words task
    → Does status task old new
    → (port line : ℕ) (script : List ℕ) → IsIde words port script → IsSome old.shelf.files
    → IsNoScript old.shelf.files script line → ⊥
script_refused_done status words task old new asks does port line script is told bad =
    let plays = subst (λ (t : Task). Does status t old new) (one_task words task (ide port script) asks is) does in
    never_held port line script old new told bad plays.1.instructions plays.1.held

-- ---- what is told where it is one

module _ (port : ℕ) (script : List ℕ) (instructions : List Instruction) (old new : Seen) (told : IsSome old.shelf.files)
    (held : IsScriptFile old.shelf.files script instructions) where
  not_204 : (end : IdeError) (given : List Instruction) (source sink out : Change)
      → Ends given (Err end) source sink out → status_of (failure_of end) ≡ 204 → ⊥
  not_204 (ends.BadScript line) given source sink out e is = never_bad given line source sink out e
  not_204 (ends.Differs line wanted found) given source sink out e is = omega (arith, is)
  not_204 ends.PeerEnd given source sink out e is = omega (arith, is)
  not_204 (ends.BadPacket offset) given source sink out e is = omega (arith, is)
  not_204 ends.ReadFault given source sink out e is = omega (arith, is)
  not_204 ends.WriteFault given source sink out e is = omega (arith, is)
  not_204 ends.OutFault given source sink out e is = omega (arith, is)
  not_204 ends.Memory given source sink out e is = omega (arith, is)

  unread_not : (why : Failure) (name : List ℕ)
      → Unread IsFirstBad why name script old.shelf.files old.shelf.faults new.shelf.faults → status_of why ≡ 204 → ⊥
  unread_not failure.ShelfFailed name h is = omega (arith, is)
  unread_not failure.NoFile name h is = omega (arith, is)
  unread_not (failure.Script n) name h is = held_or_bad old.shelf.files script n instructions told held h.1
  unread_not failure.Memory name h is = absurd h
  unread_not failure.TooLong name h is = absurd h
  unread_not (failure.Source reason number) name h is = absurd h
  unread_not (failure.Fatal kind n) name h is = absurd h
  unread_not (failure.Bound steps) name h is = absurd h
  unread_not failure.Output name h is = absurd h
  unread_not (failure.Differs n wanted found) name h is = absurd h
  unread_not failure.PeerEnd name h is = absurd h
  unread_not (failure.Packet offset) name h is = absurd h
  unread_not failure.Network name h is = absurd h
  unread_not failure.Stopped name h is = absurd h
  unread_not (failure.Lies line) name h is = absurd h

  no_refusal : (why : Failure) (name : List ℕ) → IdeFails why name port script old new → status_of why ≡ 204 → ⊥
  no_refusal why name (inl memory) is = omega (arith, ap status_of memory.0, is)
  no_refusal why name (inr (inl u)) is = unread_not why name u.0 is
  no_refusal why name (inr (inr (inl alone))) is = omega (arith, ap status_of alone.0, is)
  no_refusal why name (inr (inr (inr h))) is =
      not_204 h.end h.played.instructions h.played.source h.played.sink (changed old.out new.out) h.played.ends
      (sym (ap status_of h.is_why) ∙ is)

  module _ (none : NoneRose old new) where
    abbrev IsIdeEnd : Failure → Type 0
    IsIdeEnd why = (status_of why ≡ 205) ⊎ (status_of why ≡ 206) ⊎ (status_of why ≡ 207) ⊎ (status_of why ≡ 209)

    counted : (failed : ℕ) (before after : ℕ) → CountsReturned failed before after → 0 < failed → Rose before after
    counted = returned_rose

    link_sound : (source sink : Change) → IsAccepted port source sink old.net new.net → 0 < source.faults + sink.faults
        → ⊥
    link_sound source sink a some =
        none.returned_not (returned_rose a.failed old.net.returned new.net.returned a.gated.returned (a.counted some))

    uncalled_not : IsUncalled port old.net new.net → ⊥
    uncalled_not (inl u) = none.net_not u.faults
    uncalled_not (inr u) =
        none.returned_not (returned_rose u.failed old.net.returned new.net.returned u.gated.returned u.counted)

    by_end : (end : IdeError) (why : Failure) → why ≡ failure_of end → IsPlayed (Err end) port script old new
        → IsIdeEnd why
    by_end (ends.BadScript line) why is h =
        absurd (never_bad h.instructions line h.source h.sink (changed old.out new.out) h.ends)
    by_end (ends.Differs line wanted found) why is h = inl (ap status_of is)
    by_end ends.PeerEnd why is h = inr (inl (ap status_of is))
    by_end (ends.BadPacket offset) why is h = inr (inr (inl (ap status_of is)))
    by_end ends.ReadFault why is h =
        let rose : Rose h.source.faults_before h.source.faults = read_fault h.instructions h.source h.sink
        (changed old.out new.out) h.ends in
        absurd (link_sound h.source h.sink h.accepted (omega (arith, rose)))
    by_end ends.WriteFault why is h =
        let rose : Rose h.sink.faults_before h.sink.faults = write_fault h.instructions h.source h.sink
        (changed old.out new.out) h.ends in
        absurd (link_sound h.source h.sink h.accepted (omega (arith, rose)))
    by_end ends.OutFault why is h =
        absurd (none.out_not (out_fault h.instructions h.source h.sink (changed old.out new.out) h.ends))
    by_end ends.Memory why is h = inr (inr (inr (ap status_of is)))

    unread_ends : (why : Failure) (name : List ℕ)
        → Unread IsFirstBad why name script old.shelf.files old.shelf.faults new.shelf.faults → ⊥
    unread_ends failure.ShelfFailed name h = none.shelf h.1
    unread_ends failure.NoFile name h = held_or_lacking old.shelf.files script held.content told held.fetched h.1
    unread_ends (failure.Script n) name h = held_or_bad old.shelf.files script n instructions told held h.1
    unread_ends failure.Memory name h = h
    unread_ends failure.TooLong name h = h
    unread_ends (failure.Source reason number) name h = h
    unread_ends (failure.Fatal kind n) name h = h
    unread_ends (failure.Bound steps) name h = h
    unread_ends failure.Output name h = h
    unread_ends (failure.Differs n wanted found) name h = h
    unread_ends failure.PeerEnd name h = h
    unread_ends (failure.Packet offset) name h = h
    unread_ends failure.Network name h = h
    unread_ends failure.Stopped name h = h
    unread_ends (failure.Lies line) name h = h

    ide_end : (why : Failure) (name : List ℕ) → IdeFails why name port script old new → IsIdeEnd why
    ide_end why name (inl memory) = inr (inr (inr (ap status_of memory.0)))
    ide_end why name (inr (inl u)) = absurd (unread_ends why name u.0)
    ide_end why name (inr (inr (inl alone))) = absurd (uncalled_not alone.2.uncalled)
    ide_end why name (inr (inr (inr h))) = by_end h.end why h.is_why h.played

pub script_held_told : (status : ℕ) (words : List (List ℕ)) (task : Task) (old new : Seen) (refused : Refused)
    (A B : Type 0) → IsInvocation words task
    → Caused refused.failure refused.name.now task old new
    → ((status ≡ status_of refused.failure) × A) ⊎ ((status ≡ 209) × B)
    → (port : ℕ) (script : List ℕ) (instructions : List Instruction) → IsIde words port script → IsSome old.shelf.files
    → IsScriptFile old.shelf.files script instructions → status ≡ 204 → ⊥
script_held_told status words task old new refused A B asks caused is_told port script instructions is told held e =
    by is_told where
      fails : IdeFails refused.failure refused.name.now port script old new
      fails =
          subst (λ (t : Task). Caused refused.failure refused.name.now t old new)
          (one_task words task (ide port script) asks is) caused

      by : ((status ≡ status_of refused.failure) × A) ⊎ ((status ≡ 209) × B) → ⊥
      by (inl t) =
          no_refusal port script instructions old new told held refused.failure refused.name.now fails (sym t.0 ∙ e)
      by (inr t) = omega (arith, t.0, e)

pub complete_ide_told : (status : ℕ) (words : List (List ℕ)) (task : Task) (old new : Seen) (refused : Refused)
    (A B : Type 0) → IsInvocation words task
    → Caused refused.failure refused.name.now task old new
    → ((status ≡ status_of refused.failure) × A) ⊎ ((status ≡ 209) × B)
    → (port : ℕ) (script : List ℕ) (instructions : List Instruction) → IsIde words port script → IsSome old.shelf.files
    → IsScriptFile old.shelf.files script instructions → NoneRose old new
    → (status ≡ 0) ⊎ (status ≡ 205) ⊎ (status ≡ 206) ⊎ (status ≡ 207) ⊎ (status ≡ 209)
complete_ide_told status words task old new refused A B asks caused is_told port script instructions is told held none =
    by is_told (ide_end port script instructions old new told held none refused.failure refused.name.now
    (subst (λ (t : Task). Caused refused.failure refused.name.now t old new)
    (one_task words task (ide port script) asks is) caused)) where
      by : ((status ≡ status_of refused.failure) × A) ⊎ ((status ≡ 209) × B)
          → (status_of refused.failure ≡ 205) ⊎ (status_of refused.failure ≡ 206) ⊎ (status_of refused.failure ≡ 207)
          ⊎ (status_of refused.failure ≡ 209)
          → (status ≡ 0) ⊎ (status ≡ 205) ⊎ (status ≡ 206) ⊎ (status ≡ 207) ⊎ (status ≡ 209)
      by (inr t) e = inr (inr (inr (inr t.0)))
      by (inl t) (inl e) = inr (inl (t.0 ∙ e))
      by (inl t) (inr (inl e)) = inr (inr (inl (t.0 ∙ e)))
      by (inl t) (inr (inr (inl e))) = inr (inr (inr (inl (t.0 ∙ e))))
      by (inl t) (inr (inr (inr e))) = inr (inr (inr (inr (t.0 ∙ e))))

-- a script that was played well has the status 0
pub plays_well : (status : ℕ) (words : List (List ℕ)) (task : Task) (old new : Seen) → IsInvocation words task
    → Does status task old new → (port : ℕ) (script : List ℕ) → IsIde words port script
    → status ≡ 0
plays_well status words task old new asks does port script is =
    (subst (λ (t : Task). Does status t old new) (one_task words task (ide port script) asks is) does).0
