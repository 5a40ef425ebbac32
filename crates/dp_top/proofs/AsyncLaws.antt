-- What serving a session that listens over a dialled link came to decides the end of `async`.
use Rattle.std.proofs.Common.{◌≡◌, ◌⊎◌, ℕ, zero, suc, ◌≤◌, Bool, true, false, List, [], ◌∷◌, Option, None, Some, Result, Ok, Err, refl, sym, ap, ◌∙◌, subst, inl, inr, arith, codes}
use Rattle.std.specs.Prelude.{IfErr, IfOk, MatchResult, if◌then◌else◌}
use Rattle.std.specs.Option.{option_map, option_map_or}
use Rattle.std.specs.Str.{bytes_eq}
use Rattle.dp_async.specs.declared.errors.AsyncError.{AsyncError}
use Rattle.dp_async.specs.declared.errors.AsyncError.TheVariants.{NoThread, Memory as starves}
use Rattle.dp_async.specs.declared.service.AsyncServed.{AsyncServed}
use Rattle.dp_async.specs.Beside.{Attends, AttendsNot, Flow}
use Rattle.dp_async.specs.Served.{HearsTo, Input}
use Rattle.dp_engine.specs.declared.service.ServeEnd.{ServeEnd}
use Rattle.dp_engine.specs.declared.service.ServeEnd.TheVariants.{Stopped, Detached, LinkEnd, ReadFault, WriteFault, OutFault, BadCommandFrame, ByteLimit, Memory}
use Rattle.dp_outside.specs.Changes.{Change}
use Rattle.dp_state.specs.declared.moments.Outcome.{Outcome}
use Rattle.dp_tree.specs.declared.bundle.Bundle.{Bundle}
use Rattle.dp_program.specs.declared.errors.ProgramError.{ProgramError}
use Rattle.dp_program.specs.Programs.{NamesMake, ProgramCaused}
use Rattle.dp_top.specs.declared.failures.Failure.{Failure}
use Rattle.dp_top.specs.declared.failures.Failure.TheVariants as failure
use Rattle.dp_top.specs.declared.failures.Refused.{Refused}
use Rattle.dp_bytes.specs.Decimals.{decimal_in}
use Rattle.dp_words.specs.Words.{Address, Invocation, bound_limit, default_bound, invocation_of, not_zero, with_bound}
use Rattle.dp_top.specs.Async.{AsyncFails, IsStarved, IsServed, Listens, flow_change, judged_end}
use Rattle.dp_top.specs.Engine.{IsApart, IsIdle, IsUnused}
use Rattle.dp_top.specs.Links.{IsDialled}
use Rattle.dp_top.specs.Runs.{IsProgramReported}
use Rattle.dp_top.specs.Seen.{Net, Seen, changed}
use Rattle.dp_top.specs.Talk.{EndReport, ended, judged_by}
use Rattle.dp_top.specs.inner.Attended.{AttendedSo, IsAttended, IsReported, IsUnheard, UnattendedSo, failure_of}
use Rattle.dp_top.specs.inner.Completeness.{IsGood}
use Rattle.dp_top.specs.inner.Dialled.{CameBack}
use Rattle.dp_top.proofs.SoakLaws.{decimal_below}
use Rattle.dp_top.proofs.TalkLaws.{IsGoodReport, ended_small, good_judged}

-- memory ran out for the line on a failure
pub async_starved : (failed : Failure) (name : List ℕ) (address : Address) (key : List ℕ) (ask : Invocation)
    (old new : Seen) → AsyncFails failed name address key ask old new
    → AsyncFails failure.Memory name address key ask old new
async_starved failed name address key ask old new (inl memory) = inl (refl, memory.1)
async_starved failed name address key ask old new (inr (inl u)) = inl (refl, inl u.idle)
async_starved failed name address key ask old new (inr (inr (inl alone))) = inl (refl, inr (inr (inl alone.2)))
async_starved failed name address key ask old new (inr (inr (inr (inl none)))) =
    inl (refl, inr (inl none.unused))
async_starved failed name address key ask old new (inr (inr (inr (inr h)))) =
    inl (refl, inr (inr (inr (inl (h.served, h.is)))))

-- ---- how many moments the words give

same_bound : (one other : Invocation) → Some one ≡ Some other → one.bound ≡ other.bound
same_bound one other e = ap (λ (o : Option Invocation). option_map_or (λ (a : Invocation). a.bound) o 0) e

given_within : (words : List (List ℕ)) (ask : Invocation) → with_bound words ≡ Some ask → ask.bound ≤ bound_limit
given_within [] ask e = absurd cc
given_within (number ∷ names) ask e = by (decimal_in bound_limit number) refl e where
  by : (o : Option ℕ) → decimal_in bound_limit number ≡ o
      → option_map {U = Invocation} (λ (n : ℕ). record { bound = n; names = names }) (not_zero o) ≡ Some ask
      → ask.bound ≤ bound_limit
  by None is e = absurd cc
  by (Some zero) is e = absurd cc
  by (Some (suc n)) is e =
      let same : suc n ≡ ask.bound = same_bound (record { bound = suc n; names = names }) ask e in
      let small = decimal_below bound_limit (suc n) number is in omega (arith, small, same)

-- at most so many
pub bound_within : (words : List (List ℕ)) (ask : Invocation) → invocation_of words ≡ Some ask
    → ask.bound ≤ bound_limit
bound_within [] ask e = omega (arith, same_bound (record { bound = default_bound; names = [] }) ask e)
bound_within (word ∷ words) ask e = by (bytes_eq word (codes "--bound")) e where
  by : (b : Bool)
      → (if b then with_bound words else Some (record { bound = default_bound; names = word ∷ words })) ≡ Some ask
      → ask.bound ≤ bound_limit
  by true e = given_within words ask e
  by false e = omega (arith, same_bound (record { bound = default_bound; names = word ∷ words }) ask e)

-- ---- what is told of an end

-- an end but that of its limit of bytes is told as of other sessions
pub judged_else : (ask : Invocation) (outcome : Option Outcome) (end : ServeEnd) → (end ≡ ByteLimit → ⊥)
    → judged_by failure.Network ask outcome end ≡ judged_end ask outcome end
judged_else ask outcome Stopped other = refl
judged_else ask outcome Detached other = refl
judged_else ask outcome LinkEnd other = refl
judged_else ask outcome ReadFault other = refl
judged_else ask outcome WriteFault other = refl
judged_else ask outcome OutFault other = refl
judged_else ask outcome (BadCommandFrame offset) other = refl
judged_else ask outcome ByteLimit other = absurd (other refl)
judged_else ask outcome Memory other = refl

-- no end is a bad source
good_network : IsGood failure.Network
good_network = ((λ e. omega (arith, e)), (λ e. cc))

good_memory_left : IsGood failure.Memory
good_memory_left = ((λ e. omega (arith, e)), (λ e. cc))

good_heard : (ask : Invocation) (outcome : Option Outcome) (end : ServeEnd)
    → IsGoodReport (judged_end ask outcome end)
good_heard ask outcome Stopped = good_judged failure.Network good_network ask outcome Stopped
good_heard ask outcome Detached = good_judged failure.Network good_network ask outcome Detached
good_heard ask outcome LinkEnd = good_judged failure.Network good_network ask outcome LinkEnd
good_heard ask outcome ReadFault = good_judged failure.Network good_network ask outcome ReadFault
good_heard ask outcome WriteFault = good_judged failure.Network good_network ask outcome WriteFault
good_heard ask outcome OutFault = good_judged failure.Network good_network ask outcome OutFault
good_heard ask outcome (BadCommandFrame offset) =
    good_judged failure.Network good_network ask outcome (BadCommandFrame offset)
good_heard ask outcome ByteLimit = ((λ e. omega (arith, e)), (λ e. cc))
good_heard ask outcome Memory = good_judged failure.Network good_network ask outcome Memory

good_none : (error : AsyncError) → IsGood (failure_of error)
good_none NoThread = good_network
good_none starves = good_memory_left

pub good_attended : (ask : Invocation) (done : Result AsyncServed AsyncError) (result : Result ℕ Refused)
    → IsReported ask done result → IfErr result (λ why. IsGood why.failure)
good_attended ask done (Ok status) told = tt
good_attended ask (Ok served) (Err why) told =
    subst IsGoodReport (sym told) (good_heard ask served.served.outcome served.served.end)
good_attended ask (Err error) (Err why) told = subst IsGoodReport (sym told) (good_none error)

-- a status is one of 200
module _ (ask : Invocation) (served : AsyncServed) (program : Bundle) (key : List ℕ) (before now : Input)
    (sink out : Change) where
  small_heard : (status : ℕ) (end : ServeEnd) → HearsTo end served program ask.bound key before now sink out
      → judged_end ask served.served.outcome end ≡ Ok status → status ≤ 199
  small_heard status Stopped s e = ended_small ask _ _ status (ap (ended ask) (sym s.outcome) ∙ e)
  small_heard status Detached s e = ended_small ask _ _ status (ap (ended ask) (sym s.outcome) ∙ e)
  small_heard status LinkEnd s e = ended_small ask _ _ status (ap (ended ask) (sym s.outcome) ∙ e)
  small_heard status ReadFault s e = absurd (cc)
  small_heard status WriteFault s e = absurd (cc)
  small_heard status OutFault s e = absurd (cc)
  small_heard status (BadCommandFrame offset) s e = absurd (cc)
  small_heard status ByteLimit s e = absurd (cc)
  small_heard status Memory s e = absurd (cc)

-- ---- what was served is what is told

abbrev failure_in : EndReport → Failure
failure_in (Ok status) = failure.Memory
failure_in (Err why) = why.0

abbrev name_in : EndReport → List ℕ
name_in (Ok status) = []
name_in (Err why) = why.1

module _ (program : Bundle) (address : Address) (key : List ℕ) (ask : Invocation) (before now : Flow)
    (sink out : Change) (starts started : ℕ) where
  pub small_attended : (done : Result AsyncServed AsyncError) (result : Result ℕ Refused) → IsReported ask done result
      → MatchResult done (λ served. Attends served program ask.bound key before now sink out)
      (λ error. AttendsNot error starts started before now sink out)
      → IfOk result (λ status. status ≤ 199)
  small_attended done (Err why) told h = tt
  small_attended (Ok served) (Ok status) told h =
      small_heard ask served program key _ h.input sink out status served.served.end h.hears (sym told)
  small_attended (Err error) (Ok status) told h = absurd (cc)

  -- no thread was had: the link came back as it was given
  no_thread : (old new : Net) → IsDialled address (flow_change before now) sink old new
      → AttendsNot NoThread starts started before now sink out → CameBack address out old new
  no_thread old new dialled none = record {
    source = flow_change before now;
    sink = sink;
    source_stays = (ap (λ (f : Flow). f.left) none.1, ap (λ (f : Flow). f.faults) none.1);
    sink_stays = none.2;
    dialled = dialled;
    out_stays = none.3;
  }

  pub attended_over : (old new : Net) → IsDialled address (flow_change before now) sink old new
      → (done : Result AsyncServed AsyncError)
      → MatchResult done (λ served. Attends served program ask.bound key before now sink out)
      (λ error. AttendsNot error starts started before now sink out)
      → (result : Result ℕ Refused) → IsReported ask done result
      → MatchResult result (λ status. AttendedSo status program address key ask out old new)
      (λ why. UnattendedSo why.failure why.name.now program address key ask out old new starts started)
  attended_over old new dialled (Ok served) h (Ok status) told = record {
    served = served;
    before = before;
    now = now;
    sink = sink;
    dialled = dialled;
    attends = h;
    reported = sym told;
  }
  attended_over old new dialled (Ok served) h (Err why) told = inr (inr (inr (record {
    served = served;
    before = before;
    now = now;
    sink = sink;
    dialled = dialled;
    attends = h;
    reported = sym told;
  })))
  attended_over old new dialled (Err error) h (Ok status) told = absurd (cc)
  attended_over old new dialled (Err NoThread) h (Err why) told = inr (inr (inl (record {
    is_why = ap failure_in told;
    is_name = ap name_in told;
    rose = h.0;
    came_back = no_thread old new dialled h;
  })))
  attended_over old new dialled (Err starves) h (Err why) told =
      inl (
        ap failure_in told,
        inr (record { source = flow_change before now; sink = sink; dialled = dialled }),
      )

-- ---- over the program of the files

module _ (address : Address) (key : List ℕ) (ask : Invocation) (old new : Seen) (apart : IsApart old new) where
  -- the link came back unused
  unused : CameBack address (changed old.out new.out) old.net new.net → IsUnused address old new
  unused back = record {
    source = back.source;
    sink = back.sink;
    source_stays = back.source_stays;
    sink_stays = back.sink_stays;
    dialled = back.dialled;
    out = back.out_stays;
    apart = apart;
  }

  -- it was served
  attended : (report : EndReport) (program : Bundle) → NamesMake old.shelf.files ask.names (Ok program)
      → (h : IsAttended report program address key ask (changed old.out new.out) old.net new.net)
      → IsServed h.served address key ask old new
  attended report program made h = record {
    program = program;
    made = made;
    before = h.before;
    now = h.now;
    sink = h.sink;
    dialled = h.dialled;
    attends = h.attends;
    apart = apart;
  }

  starved : CameBack address (changed old.out new.out) old.net new.net ⊎ IsUnheard address old.net new.net
      → IsStarved address key ask old new
  starved (inl back) = inr (inl (unused back))
  starved (inr unheard) = inr (inr (inr (inr (record {
    source = unheard.source;
    sink = unheard.sink;
    dialled = unheard.dialled;
    apart = apart;
  }))))

  pub program_attended : (program : Bundle) → NamesMake old.shelf.files ask.names (Ok program)
      → (result : Result ℕ Refused)
      → MatchResult result
      (λ status. AttendedSo status program address key ask (changed old.out new.out) old.net new.net)
      (λ why. UnattendedSo why.failure why.name.now program address key ask (changed old.out new.out) old.net new.net
      old.spawner.faults new.spawner.faults)
      → MatchResult result (λ status. Listens status address key ask old new)
      (λ why. AsyncFails why.failure why.name.now address key ask old new)
  program_attended program made (Ok status) h =
      record { served = h.served; is = attended (Ok status) program made h; reported = h.reported }
  program_attended program made (Err why) (inl memory) = inl (memory.0, starved memory.1)
  program_attended program made (Err why) (inr (inl none)) =
      inr (inr (inl (
        none.is_why,
        none.is_name,
        record {
          program = program;
          made = made;
          undialled = none.undialled;
          out = none.out_stays;
          apart = apart;
        },
      )))
  program_attended program made (Err why) (inr (inr (inl none))) =
      inr (inr (inr (inl (record {
        program = program;
        made = made;
        is_why = none.is_why;
        is_name = none.is_name;
        rose = none.rose;
        unused = unused none.came_back;
      }))))
  program_attended program made (Err why) (inr (inr (inr h))) =
      inr (inr (inr (inr (record {
        served = h.served;
        is = attended (Err (why.failure, why.name.now)) program made h;
        reported = h.reported;
      }))))

  pub none_attended : (refused : Refused) (why : ProgramError)
      → ProgramCaused why old.shelf.files old.shelf.faults new.shelf.faults ask.names
      → IsProgramReported refused.failure refused.name.now ask why → IsIdle old new
      → AsyncFails refused.failure refused.name.now address key ask old new
  none_attended refused why caused told idle =
      inr (inl (record { cause = why; caused = caused; reported = told; idle = idle }))
