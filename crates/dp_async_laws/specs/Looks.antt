-- How often a continuation looks at its input.
use Rattle.std.specs.Prelude.{ℕ, ◌-◌, List, Option, Some, None}
use Rattle.dp_async.specs.declared.arrival.Arrival.{Arrival}
use Rattle.dp_async.specs.Heard.{Answers, AnswersOwn, Arrives, Begins, Ceases, Comes, Departs, Done, Ends, Fills, Heard, HearsBreak, Leaves, Passes, PassesLimit, PassesTo, PassesToEnd, Situation, Stops, TellsStatus}
use Rattle.dp_tree.specs.declared.bundle.Bundle.{Bundle}

-- how many moments have come where what was heard has led, and how often the input was looked at
abbrev pub moments_of : {bundle : Bundle} {bound : ℕ} {log : List Arrival} {done : Done}
    {s : Situation} → Heard bundle bound log done s → ℕ
moments_of {s} heard = s.moments

abbrev pub looks_of : {bundle : Bundle} {bound : ℕ} {log : List Arrival} {done : Done}
    {s : Situation} → Heard bundle bound log done s → ℕ
looks_of {done} heard = done.looks

-- ---- where it went on from

-- how many moments had come where the last continuation set out
abbrev pub moment_before : {bundle : Bundle} {bound : ℕ} {log : List Arrival} {done : Done}
    {s : Situation} → Heard bundle bound log done s → ℕ
moment_before Begins = 0
moment_before (AnswersOwn h line rest begins response own) = moment_before h
moment_before (Answers h line rest begins own none goes_on) = moment_before h
moment_before (Departs h line rest begins own going sets_out) = moments_of h
moment_before (Comes h partial free a number some) = moment_before h
moment_before (Ceases h partial free a number none) = moment_before h
moment_before (Fills h none full) = moment_before h
moment_before (Passes going stage h may free on) = moment_before h
moment_before (PassesTo going stage h may free on a number some) = moment_before h
moment_before (PassesToEnd going stage h may free on a number none) = moment_before h
moment_before (Stops going stage h may free stops) = moment_before h
moment_before (Ends going stage h may free ends) = moment_before h
moment_before (PassesLimit going stage h may full) = moment_before h
moment_before (TellsStatus going h line rest begins other status) = moment_before h
moment_before (HearsBreak going h line rest begins breaks) = moment_before h
moment_before (Arrives going h) = moment_before h
moment_before (Leaves going stage h) = moment_before h

-- and how often the input had been looked at there
abbrev pub looks_before : {bundle : Bundle} {bound : ℕ} {log : List Arrival} {done : Done}
    {s : Situation} → Heard bundle bound log done s → ℕ
looks_before Begins = 0
looks_before (AnswersOwn h line rest begins response own) = looks_before h
looks_before (Answers h line rest begins own none goes_on) = looks_before h
looks_before (Departs h line rest begins own going sets_out) = looks_of h
looks_before (Comes h partial free a number some) = looks_before h
looks_before (Ceases h partial free a number none) = looks_before h
looks_before (Fills h none full) = looks_before h
looks_before (Passes going stage h may free on) = looks_before h
looks_before (PassesTo going stage h may free on a number some) = looks_before h
looks_before (PassesToEnd going stage h may free on a number none) = looks_before h
looks_before (Stops going stage h may free stops) = looks_before h
looks_before (Ends going stage h may free ends) = looks_before h
looks_before (PassesLimit going stage h may full) = looks_before h
looks_before (TellsStatus going h line rest begins other status) = looks_before h
looks_before (HearsBreak going h line rest begins breaks) = looks_before h
looks_before (Arrives going h) = looks_before h
looks_before (Leaves going stage h) = looks_before h

-- ---- where it came to

-- it has stopped by itself at a moment, has heard a `break` at one, or has come to the program's
-- end
pub data Halt : Type 0 where
  AtStop : Halt
  AtBreak : Halt
  AtEnd : Halt

-- what it has just come to, if it has
abbrev pub halt_in : {bundle : Bundle} {bound : ℕ} {log : List Arrival} {done : Done}
    {s : Situation} → Heard bundle bound log done s → Option Halt
halt_in (Stops going stage h may free stops) = Some AtStop
halt_in (HearsBreak going h line rest begins breaks) = Some AtBreak
halt_in (Ends going stage h may free ends) = Some AtEnd
halt_in other = None

-- from moment i to the j-th, or to the program's end, where j have come
abbrev pub looks_to : Halt → ℕ → ℕ → ℕ
looks_to AtStop i j = j - i - 1
looks_to AtBreak i j = j - i
looks_to AtEnd i j = j - i
