-- A continuation looks once at each moment at which it goes on.
use Rattle.std.proofs.Common.{◌≡◌, ℕ, ◌+◌, ◌<◌, Bool, true, false, List, Option, Some, None, refl, subst, arith}
use Rattle.std.specs.Prelude.{is_none}
use Rattle.dp_async.specs.declared.arrival.Arrival.{Arrival}
use Rattle.dp_async.specs.Heard.{Answers, AnswersOwn, Arrives, Begins, Ceases, Comes, Departs, Done, Ends, Fills, GoesOn, Heard, HearsBreak, Leaves, MayGoOn, OnItsWay, Passes, PassesLimit, PassesTo, PassesToEnd, SetOut, Situation, Stage, Stopped, Stops, TellsStatus, stage_after}
use Rattle.dp_async.specs.Listens.{break_refusal}
use Rattle.dp_async_laws.specs.Looks.{AtBreak, AtEnd, AtStop, Halt, halt_in, looks_before, looks_of, looks_to, moment_before, moments_of}
use Rattle.dp_command.specs.Lines.{line_of}
use Rattle.dp_tree.specs.declared.bundle.Bundle.{Bundle}

-- Where it has set out, nothing has come. Where it goes on, it has looked as often as moments have come. Behind that
-- it is known only by what it has come to.
abbrev AreCounted : Stage → ℕ → ℕ → ℕ → ℕ → Type 0
AreCounted SetOut from before moments looks = (moments ≡ from) × (looks ≡ before)
AreCounted GoesOn from before moments looks = (from < moments) × (looks + from ≡ before + moments)
AreCounted Stopped from before moments looks = Unit {0}

abbrev AreCountedOn : Option OnItsWay → ℕ → ℕ → ℕ → ℕ → Type 0
AreCountedOn None from before moments looks = Unit {0}
AreCountedOn (Some way) from before moments looks = AreCounted way.stage from before moments looks

-- one moment more, with one look
goes_on : (stage : Stage) (held : List ℕ) → MayGoOn stage held → (from before moments looks : ℕ)
    → AreCounted stage from before moments looks → AreCounted GoesOn from before (moments + 1) (looks + 1)
goes_on SetOut held may from before moments looks h = (omega (arith, h.0), omega (arith, h.0, h.1))
goes_on GoesOn held may from before moments looks h = (omega (arith, h.0), omega (arith, h.1))
goes_on Stopped held may from before moments looks h = absurd may

after_break : (stops : Bool) (from before moments looks : ℕ) → AreCounted GoesOn from before moments looks
    → AreCounted (stage_after stops) from before moments looks
after_break true from before moments looks h = tt
after_break false from before moments looks h = h

-- it comes to its stop, or to the end
to_stop : (stage : Stage) (held : List ℕ) → MayGoOn stage held → (from before moments looks : ℕ)
    → AreCounted stage from before moments looks → looks ≡ before + looks_to AtStop from (moments + 1)
to_stop SetOut held may from before moments looks h = omega (arith, h.0, h.1)
to_stop GoesOn held may from before moments looks h = omega (arith, h.0, h.1)
to_stop Stopped held may from before moments looks h = absurd may

to_end : (stage : Stage) (held : List ℕ) → MayGoOn stage held → (from before moments looks : ℕ)
    → AreCounted stage from before moments looks → looks ≡ before + looks_to AtEnd from moments
to_end SetOut held may from before moments looks h = omega (arith, h.0, h.1)
to_end GoesOn held may from before moments looks h = omega (arith, h.0, h.1)
to_end Stopped held may from before moments looks h = absurd may

-- it is what it has just come to
same_halt : (known halt : Halt) (from before moments looks : ℕ) → Some known ≡ Some halt
    → looks ≡ before + looks_to known from moments → looks ≡ before + looks_to halt from moments
same_halt known halt from before moments looks e h =
    let same : known ≡ halt = cc in
    subst (λ (x : Halt). looks ≡ before + looks_to x from moments) same h

module _ {bundle : Bundle} {bound : ℕ} where
  abbrev held_of : {log : List Arrival} {done : Done} {s : Situation} → Heard bundle bound log done s → List ℕ
  held_of {s} heard = s.held

  counted : {log : List Arrival} {done : Done} {s : Situation} → (heard : Heard bundle bound log done s)
      → AreCountedOn s.way (moment_before heard) (looks_before heard) s.moments done.looks
  counted Begins = tt
  counted (AnswersOwn h line rest begins response own) = tt
  counted (Answers h line rest begins own none unended) = tt
  counted (Departs h line rest begins own going sets_out) = (refl, refl)
  counted (Comes h partial free a number some) = tt
  counted (Ceases h partial free a number none) = tt
  counted (Fills h none full) = tt
  counted (Passes going stage h may free on) =
      goes_on stage (held_of h) may (moment_before h) (looks_before h) (moments_of h) (looks_of h) (counted h)
  counted (PassesTo going stage h may free on a number some) =
      goes_on stage (held_of h) may (moment_before h) (looks_before h) (moments_of h) (looks_of h) (counted h)
  counted (PassesToEnd going stage h may free on a number none) =
      goes_on stage (held_of h) may (moment_before h) (looks_before h) (moments_of h) (looks_of h) (counted h)
  counted (Stops going stage h may free halts) = tt
  counted (Ends going stage h may free ends) = tt
  counted (PassesLimit going stage h may full) = counted h
  counted (TellsStatus going h line rest begins other status) = counted h
  counted (HearsBreak going h line rest begins breaks) =
      after_break (is_none (break_refusal true (line_of line))) (moment_before h) (looks_before h) (moments_of h)
      (looks_of h) (counted h)
  counted (Arrives going h) = tt
  counted (Leaves going stage h) = tt

  pub looks_are : {log : List Arrival} {done : Done} {s : Situation} → (heard : Heard bundle bound log done s)
      → (halt : Halt) → halt_in heard ≡ Some halt
      → done.looks ≡ looks_before heard + looks_to halt (moment_before heard) s.moments
  looks_are (Stops going stage h may free halts) halt e =
      same_halt AtStop halt (moment_before h) (looks_before h) (moments_of h + 1) (looks_of h) e
      (to_stop stage (held_of h) may (moment_before h) (looks_before h) (moments_of h) (looks_of h) (counted h))
  looks_are (Ends going stage h may free ends) halt e =
      same_halt AtEnd halt (moment_before h) (looks_before h) (moments_of h) (looks_of h) e
      (to_end stage (held_of h) may (moment_before h) (looks_before h) (moments_of h) (looks_of h) (counted h))
  looks_are (HearsBreak going h line rest begins breaks) halt e =
      let c = counted h in
      same_halt AtBreak halt (moment_before h) (looks_before h) (moments_of h) (looks_of h) e
      (omega (arith, c.0, c.1))
  looks_are other halt e = absurd cc
