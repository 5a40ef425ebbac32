-- Words behind the name of a command, where they are plain, are read exactly where they may ask for something.
use Rattle.std.proofs.Common.{◌≡◌, ◌⊎◌, ℕ, suc, ◌+◌, ◌<◌, ◌≤◌, Bool, true, false, ◌&&◌, ◌||◌, not, List, [], ◌∷◌, ◌++◌, length, Option, Some, None, refl, sym, ap, ap₂, ◌∙◌, subst, arith, codes, inl, inr, ⊎_elim}
use Rattle.std.specs.Prelude.{if◌then◌else◌, get_or, drop, nat_lt, ◌==◌}
use Rattle.std.specs.List.{list_all}
use Rattle.std.specs.Str.{bytes_eq}
use Rattle.std.specs.Option.{option_map, option_map_or}
use Rattle.std.proofs.lemmas.Bool.Decides.{nat_tests}
use Rattle.clap.specs.Kinds.{Kinds, or_else}
use Rattle.clap.specs.Faults.{fault_of}
use Rattle.clap.specs.Simple.{Shape, subcommand_of}
use Rattle.clap.specs.Walk.{Row, Text}
use Rattle.dp_words.specs.Words.{Invocation, IsInvocation, Task, run, talk, tape, audit, dap, engine, async, ide, replay, soak, proxy, show, invocation_of, default_bound, with_bound}
use Rattle.dp_words.specs.Plain.{has_bound, is_plain}
use Rattle.dp_words.specs.inner.Given.{Given, engine_given, async_given, ide_given, proxy_given, replay_given, run_given, show_given, soak_given, talk_given, tape_given, audit_given, dap_given, are_plain_in, requested, bound_given, bounded, name_in, row, rows_in, words_in}
use Rattle.dp_words.specs.inner.Shapes.{engine_words, program, replay_words, talk_words}
use Rattle.dp_words.proofs.Leaves.{HasFault, I, P, S, TakesFiles, alone, begun, both, engine_lacks_1, engine_lacks_2, engine_lacks_3, engine_lacks_4, engine_read, engine_rows, engine_takes, fault, few, files, ide_fine, ide_found, ide_lacks_1, ide_lacks_2, ide_over, is_plain_bound, level, many, pass_bound, Passes, proxy_fine, proxy_found, proxy_lacks_1, proxy_lacks_2, proxy_lacks_3, proxy_lacks_4, proxy_over, relay, replay_lacks_1, replay_lacks_2, replay_read, replay_rows, replay_takes, rows_at_end, run_lacks_1, run_read, run_rows, run_takes, show_fine, show_over, soak_fine, soak_found, soak_lacks_1, soak_lacks_2, soak_over, talk_lacks_1, talk_lacks_2, talk_read, talk_rows, talk_takes, too_many, wanting}
use Rattle.dp_words.proofs.Programs.{Known, fault_known, rows_known, run_known, talk_known, tape_known, audit_known, dap_known, engine_known, async_known, ide_known, replay_known, soak_known, proxy_known, show_known, names}

-- ---- what tasks want

abbrev pub name_of : Task → Text
name_of (run ask) = codes "run"
name_of (talk key ask) = codes "talk"
name_of (tape key ask) = codes "tape"
name_of (audit key ask) = codes "audit"
name_of (dap ask) = codes "dap"
name_of (engine address key ask) = codes "engine"
name_of (async address key ask) = codes "async"
name_of (ide port script) = codes "ide"
name_of (replay events ask) = codes "replay"
name_of (soak count seed) = codes "soak"
name_of (proxy service) = codes "proxy"
name_of show = codes "show"

-- the first of the words names the task
abbrev pub named : (words : List Text) (task : Task) → IsInvocation words task
    → (behind : List Text) × (words ≡ name_of task ∷ behind)
named words (run ask) h = (h.behind, h.words_are)
named words (talk key ask) h = (h.behind, h.words_are)
named words (tape key ask) h = (h.behind, h.words_are)
named words (audit key ask) h = (h.behind, h.words_are)
named words (dap ask) h = (h.behind, h.words_are)
named words (engine address key ask) h = (h.behind, h.words_are)
named words (async address key ask) h = (h.behind, h.words_are)
named words (ide port script) h = (h.number ∷ script ∷ [], h.words_are)
named words (replay events ask) h = (h.behind, h.words_are)
named words (soak count seed) h = (h.number ∷ h.drawn ∷ [], h.words_are)
named words (proxy service) h = (h.ides ∷ h.engines ∷ h.registrations ∷ h.sessions ∷ [], h.words_are)
named words show h = ([], h)

-- the name and the words behind it
module _ (name : Text) (behind : List Text) (task : Task) (asks : IsInvocation (name ∷ behind) task) where
  whole : name ∷ behind ≡ name_of task ∷ (named (name ∷ behind) task asks).0
  whole = (named (name ∷ behind) task asks).1

  pub same_name : name ≡ name_of task
  same_name = ap (λ (l : List Text). get_or l 0 []) whole

  pub same_behind : behind ≡ (named (name ∷ behind) task asks).0
  same_behind = ap (λ (l : List Text). drop 1 l) whole

-- the fewest words behind a command that runs a program, a bound aside
abbrev pub least : Text → ℕ
least name =
    if bytes_eq name (codes "talk") || bytes_eq name (codes "tape") || bytes_eq name (codes "audit")
    then 2 else (if bytes_eq name (codes "engine") || bytes_eq name (codes "async") then 4
    else (if bytes_eq name (codes "replay") then 2 else 1))

-- so many words stand behind it
pub record IsCounted (name : Text) (behind : List Text) : Type 0 where
  pub ask : Invocation
  pub asks : invocation_of behind ≡ Some ask
  pub enough : least name ≤ length ask.names
  pub few : length ask.names ≤ least name + 63

pub counted_for : (task : Task) (words : List Text) (h : IsInvocation words task) → has_bound (name_of task) ≡ true
    → IsCounted (name_of task) (named words task h).0
counted_for (run ask) words h b =
    record { ask = ask; asks = h.follows.invocation; enough = h.follows.files.some; few = h.follows.files.few }
counted_for (talk key ask) words h b =
    let f = h.speaks.session.files in
    record {
      ask = record { bound = ask.bound; names = key ∷ ask.names };
      asks = h.speaks.invocation;
      enough = omega (arith, f.some);
      few = omega (arith, f.few);
    }
counted_for (tape key ask) words h b =
    let f = h.speaks.session.files in
    record {
      ask = record { bound = ask.bound; names = key ∷ ask.names };
      asks = h.speaks.invocation;
      enough = omega (arith, f.some);
      few = omega (arith, f.few);
    }
counted_for (audit key ask) words h b =
    let f = h.speaks.session.files in
    record {
      ask = record { bound = ask.bound; names = key ∷ ask.names };
      asks = h.speaks.invocation;
      enough = omega (arith, f.some);
      few = omega (arith, f.few);
    }
counted_for (dap ask) words h b =
    record { ask = ask; asks = h.follows.invocation; enough = h.follows.files.some; few = h.follows.files.few }
counted_for (engine address key ask) words h b =
    let f = h.dials.session.files in
    record {
      ask = record { bound = ask.bound; names = address.host ∷ h.dials.number ∷ key ∷ ask.names };
      asks = h.dials.invocation;
      enough = omega (arith, f.some);
      few = omega (arith, f.few);
    }
counted_for (async address key ask) words h b =
    let f = h.dials.session.files in
    record {
      ask = record { bound = ask.bound; names = address.host ∷ h.dials.number ∷ key ∷ ask.names };
      asks = h.dials.invocation;
      enough = omega (arith, f.some);
      few = omega (arith, f.few);
    }
counted_for (replay events ask) words h b =
    let f = h.replays.files in
    record {
      ask = record { bound = ask.bound; names = events ∷ ask.names };
      asks = h.replays.invocation;
      enough = omega (arith, f.some);
      few = omega (arith, f.few);
    }
counted_for (ide port script) words h b = absurd cc
counted_for (soak count seed) words h b = absurd cc
counted_for (proxy service) words h b = absurd cc
counted_for show words h b = absurd cc

pub counted : (name : Text) (behind : List Text) (task : Task) → has_bound name ≡ true
    → IsInvocation (name ∷ behind) task → IsCounted name behind
counted name behind task has asks =
    let is = same_name name behind task asks in
    subst (λ (n : Text). IsCounted n behind) (sym is)
    (subst (IsCounted (name_of task)) (sym (same_behind name behind task asks))
    (counted_for task (name ∷ behind) asks (subst (λ (n : Text). has_bound n ≡ true) is has)))

pub not_bound : (v : Text) → is_plain v ≡ true → bytes_eq v (codes "--bound") ≡ false
not_bound [] h = absurd cc
not_bound (b ∷ bs) h = by (b == 45) refl h where
  by : (t : Bool) → (b == 45) ≡ t → not t ≡ true → bytes_eq (b ∷ bs) (codes "--bound") ≡ false
  by true e n = absurd cc
  by false e n = ap (λ (t : Bool). t && bytes_eq bs (codes "-bound")) e

-- what words behind a bound, or without one, ask for
pub invoked : (bound : Option Text) (words : List Text) → list_all is_plain words ≡ true
    → invocation_of (bounded bound words) ≡ requested bound words
invoked (Some n) words h = refl
invoked None [] h = refl
invoked None (v ∷ vs) h =
    ap (λ (t : Bool). if t then with_bound vs else Some (record { bound = default_bound; names = v ∷ vs }))
    (not_bound v (both (is_plain v) (list_all is_plain vs) h).0)

pub asked_names : (bound : Option Text) (words : List Text) (ask : Invocation) → requested bound words ≡ Some ask
    → words ≡ ask.names
asked_names bound words ask e = by (bound_given bound) e where
  by : (o : Option ℕ) → option_map (λ n. record { bound = n; names = words }) o ≡ Some ask → words ≡ ask.names
  by None none = absurd cc
  by (Some n) some = ap (λ (i : Option Invocation). option_map_or (λ (a : Invocation). a.names) i words) some

-- no task is asked for by fewer words, or by more
pub outside : (name : Text) (bound : Option Text) (words : List Text) (n : ℕ) → has_bound name ≡ true → least name ≡ n
    → list_all is_plain words ≡ true → (length words < n) ⊎ (n + 63 < length words) → (task : Task)
    → IsInvocation (name ∷ bounded bound words) task → ⊥
outside name bound words n has is plain out task asks =
    let c = counted name (bounded bound words) task has asks in
    let same : length words ≡ length c.ask.names =
    ap (λ (l : List Text). length l) (asked_names bound words c.ask (sym (invoked bound words plain) ∙ c.asks)) in
    by same c.enough c.few out where
      by : {l : ℕ} → length words ≡ l → least name ≤ l → l ≤ least name + 63
          → (length words < n) ⊎ (n + 63 < length words) → ⊥
      by same enough few (inl below) = omega (arith, same, enough, is, below)
      by same enough few (inr above) = omega (arith, same, few, is, above)

-- ---- what is read

pub record IsRead (words : List Text) : Type 0 where
  pub given : Given
  pub words_are : words ≡ words_in given
  pub plain : are_plain_in given ≡ true
  pub fine : fault_of program words ≡ []
  pub rows : subcommand_of program words ≡ Some (name_in given, rows_in given)

abbrev pub IsUnread : List Text → Type 0
IsUnread words = HasFault (fault_of program words) × ((task : Task) → IsInvocation words task → ⊥)

abbrev pub Reading : List Text → Type 0
Reading words = IsRead words ⊎ IsUnread words

pub faulty : (name : Text) (s : Shape) → Known name s → (behind : List Text) (k : Kinds) → HasFault (or_else k [])
    → fault s behind ≡ k → HasFault (fault_of program (name ∷ behind))
faulty name s known behind k has is =
    subst HasFault (sym (fault_known name s known behind ∙ ap (λ (f : Kinds). or_else f []) is)) has

-- a fault of its own, whatever it is
pub faulty_so : (name : Text) (s : Shape) → Known name s → (behind : List Text) → HasFault (fault s behind)
    → HasFault (fault_of program (name ∷ behind))
faulty_so name s known behind has = by (fault s behind) refl has where
  by : (k : Kinds) → fault s behind ≡ k → HasFault k → HasFault (fault_of program (name ∷ behind))
  by [] is none = absurd none
  by (k ∷ ks) is some = faulty name s known behind (k ∷ ks) tt is

pub fine_known : (name : Text) (s : Shape) → Known name s → (behind : List Text) → fault s behind ≡ []
    → fault_of program (name ∷ behind) ≡ []
fine_known name s known behind is = fault_known name s known behind ∙ ap (λ (f : Kinds). or_else f []) is

-- no more files than a program may have, or more
pub fits_or_not : (n : ℕ) → (suc n ≤ 64) ⊎ (65 ≤ suc n)
fits_or_not n = by (nat_lt n 64) refl where
  by : (t : Bool) → nat_lt n 64 ≡ t → (suc n ≤ 64) ⊎ (65 ≤ suc n)
  by true e = inl (grind (arith, nat_tests))
  by false e = inr (grind (arith, nat_tests))

-- files behind all other words of a command
module _ (name : Text) (ids : List Text) (known : Known name (P name ids)) (bound : Option Text) (first : List Text)
    (position : ℕ) (rows : List Row) (takes : TakesFiles (P name ids) position rows) (f : Text) (fs : List Text)
    (hb : is_plain_bound bound ≡ true)
    (passes : Passes (P name ids) (begun bound) (first ++ f ∷ fs) (files position rows (f ∷ fs))) where
  abbrev behind : List Text
  behind = bounded bound (first ++ f ∷ fs)

  through : Passes (P name ids) (begun None) behind (files position rows (f ∷ fs))
  through = pass_bound name ids bound (first ++ f ∷ fs) (files position rows (f ∷ fs)) hb passes

  fine_files : suc (length fs) ≤ 64 → fault_of program (name ∷ behind) ≡ []
  fine_files small =
      fine_known name (P name ids) known behind (level (P name ids) behind (files position rows (f ∷ fs)) [] through
      (takes.fits f fs [] (few (length fs) small)))

  over_files : 65 ≤ suc (length fs) → HasFault (fault_of program (name ∷ behind))
  over_files large =
      faulty name (P name ids) known behind too_many tt (level (P name ids) behind (files position rows (f ∷ fs))
      too_many through (takes.fits f fs too_many (many (length fs) large)))

  rows_found : subcommand_of program (name ∷ behind) ≡ Some (name, rows ++ row (codes "FILE") (f ∷ fs) ∷ [])
  rows_found =
      rows_known name (P name ids) known behind
      ∙ ap (λ (r : List Row). Some (name, r)) (rows_at_end (P name ids) behind (files position rows (f ∷ fs)) through
      ∙ takes.found f fs)

  -- the files are read, unless there are too many
  files_reads : (g : Given) → name ∷ behind ≡ words_in g → are_plain_in g ≡ true
      → name ≡ name_in g → rows ++ row (codes "FILE") (f ∷ fs) ∷ [] ≡ rows_in g
      → (65 ≤ suc (length fs) → (task : Task) → IsInvocation (name ∷ behind) task → ⊥)
      → Reading (name ∷ behind)
  files_reads g is plain named found out =
      ⊎_elim
      (λ small. inl (record {
        given = g;
        words_are = is;
        plain = plain;
        fine = fine_files small;
        rows = rows_found ∙ ap₂ (λ (n : Text) (r : List Row). Some (n, r)) named found;
      })) (λ large. inr (over_files large, out large)) (fits_or_not (length fs))

-- ---- `run`

pub run_reads : (bound : Option Text) (words : List Text) → is_plain_bound bound ≡ true → list_all is_plain words ≡ true
    → Reading (codes "run" ∷ bounded bound words)
run_reads bound [] hb hs =
    inr (
      faulty (codes "run") (P (codes "run") []) run_known (bounded bound []) wanting tt
          (run_lacks_1 (codes "run") bound hb),
      outside (codes "run") bound [] 1 refl refl hs (inl (omega arith)),
    )
run_reads bound (f ∷ fs) hb hs =
    let q0 = both (is_plain f) (list_all is_plain fs) hs in
    files_reads (codes "run") [] run_known bound [] 1 (run_rows bound)
    (run_takes (codes "run") bound) f fs hb
    (run_read (codes "run") bound f fs q0.0 q0.1)
    (run_given bound (f ∷ fs)) refl hs refl refl
    (λ large. outside (codes "run") bound (f ∷ fs) 1 refl refl hs (inr (omega (arith, large))))

-- ---- `talk`

pub talk_reads : (bound : Option Text) (words : List Text) → is_plain_bound bound ≡ true
    → list_all is_plain words ≡ true → Reading (codes "talk" ∷ bounded bound words)
talk_reads bound [] hb hs =
    inr (
      faulty (codes "talk") (P (codes "talk") talk_words) talk_known (bounded bound []) wanting tt
          (talk_lacks_2 (codes "talk") bound hb),
      outside (codes "talk") bound [] 2 refl refl hs (inl (omega arith)),
    )
talk_reads bound (k ∷ []) hb hs =
    let q0 = both (is_plain k) (list_all is_plain []) hs in
    inr (
      faulty (codes "talk") (P (codes "talk") talk_words) talk_known (bounded bound (k ∷ [])) wanting tt
          (talk_lacks_1 (codes "talk") bound k hb q0.0),
      outside (codes "talk") bound (k ∷ []) 2 refl refl hs (inl (omega arith)),
    )
talk_reads bound (k ∷ f ∷ fs) hb hs =
    let q0 = both (is_plain k) (list_all is_plain (f ∷ fs)) hs in
    let q1 = both (is_plain f) (list_all is_plain fs) q0.1 in
    files_reads (codes "talk") talk_words talk_known bound (k ∷ []) 2 (talk_rows bound k)
    (talk_takes (codes "talk") bound k) f fs hb
    (talk_read (codes "talk") bound k f fs q0.0 q1.0 q1.1)
    (talk_given bound k (f ∷ fs)) refl hs refl refl
    (λ large. outside (codes "talk") bound (k ∷ f ∷ fs) 2 refl refl hs (inr (omega (arith, large))))

-- ---- `tape`

pub tape_reads : (bound : Option Text) (words : List Text) → is_plain_bound bound ≡ true
    → list_all is_plain words ≡ true → Reading (codes "tape" ∷ bounded bound words)
tape_reads bound [] hb hs =
    inr (
      faulty (codes "tape") (P (codes "tape") talk_words) tape_known (bounded bound []) wanting tt
          (talk_lacks_2 (codes "tape") bound hb),
      outside (codes "tape") bound [] 2 refl refl hs (inl (omega arith)),
    )
tape_reads bound (k ∷ []) hb hs =
    let q0 = both (is_plain k) (list_all is_plain []) hs in
    inr (
      faulty (codes "tape") (P (codes "tape") talk_words) tape_known (bounded bound (k ∷ [])) wanting tt
          (talk_lacks_1 (codes "tape") bound k hb q0.0),
      outside (codes "tape") bound (k ∷ []) 2 refl refl hs (inl (omega arith)),
    )
tape_reads bound (k ∷ f ∷ fs) hb hs =
    let q0 = both (is_plain k) (list_all is_plain (f ∷ fs)) hs in
    let q1 = both (is_plain f) (list_all is_plain fs) q0.1 in
    files_reads (codes "tape") talk_words tape_known bound (k ∷ []) 2 (talk_rows bound k)
    (talk_takes (codes "tape") bound k) f fs hb
    (talk_read (codes "tape") bound k f fs q0.0 q1.0 q1.1)
    (tape_given bound k (f ∷ fs)) refl hs refl refl
    (λ large. outside (codes "tape") bound (k ∷ f ∷ fs) 2 refl refl hs (inr (omega (arith, large))))

-- ---- `audit`

pub audit_reads : (bound : Option Text) (words : List Text) → is_plain_bound bound ≡ true
    → list_all is_plain words ≡ true → Reading (codes "audit" ∷ bounded bound words)
audit_reads bound [] hb hs =
    inr (
      faulty (codes "audit") (P (codes "audit") talk_words) audit_known (bounded bound []) wanting tt
          (talk_lacks_2 (codes "audit") bound hb),
      outside (codes "audit") bound [] 2 refl refl hs (inl (omega arith)),
    )
audit_reads bound (k ∷ []) hb hs =
    let q0 = both (is_plain k) (list_all is_plain []) hs in
    inr (
      faulty (codes "audit") (P (codes "audit") talk_words) audit_known (bounded bound (k ∷ [])) wanting tt
          (talk_lacks_1 (codes "audit") bound k hb q0.0),
      outside (codes "audit") bound (k ∷ []) 2 refl refl hs (inl (omega arith)),
    )
audit_reads bound (k ∷ f ∷ fs) hb hs =
    let q0 = both (is_plain k) (list_all is_plain (f ∷ fs)) hs in
    let q1 = both (is_plain f) (list_all is_plain fs) q0.1 in
    files_reads (codes "audit") talk_words audit_known bound (k ∷ []) 2 (talk_rows bound k)
    (talk_takes (codes "audit") bound k) f fs hb
    (talk_read (codes "audit") bound k f fs q0.0 q1.0 q1.1)
    (audit_given bound k (f ∷ fs)) refl hs refl refl
    (λ large. outside (codes "audit") bound (k ∷ f ∷ fs) 2 refl refl hs (inr (omega (arith, large))))

-- ---- `dap`

pub dap_reads : (bound : Option Text) (words : List Text) → is_plain_bound bound ≡ true → list_all is_plain words ≡ true
    → Reading (codes "dap" ∷ bounded bound words)
dap_reads bound [] hb hs =
    inr (
      faulty (codes "dap") (P (codes "dap") []) dap_known (bounded bound []) wanting tt
          (run_lacks_1 (codes "dap") bound hb),
      outside (codes "dap") bound [] 1 refl refl hs (inl (omega arith)),
    )
dap_reads bound (f ∷ fs) hb hs =
    let q0 = both (is_plain f) (list_all is_plain fs) hs in
    files_reads (codes "dap") [] dap_known bound [] 1 (run_rows bound)
    (run_takes (codes "dap") bound) f fs hb
    (run_read (codes "dap") bound f fs q0.0 q0.1)
    (dap_given bound (f ∷ fs)) refl hs refl refl
    (λ large. outside (codes "dap") bound (f ∷ fs) 1 refl refl hs (inr (omega (arith, large))))

-- ---- `engine`

pub engine_reads : (bound : Option Text) (words : List Text) → is_plain_bound bound ≡ true
    → list_all is_plain words ≡ true
    → Reading (codes "engine" ∷ bounded bound words)
engine_reads bound [] hb hs =
    inr (
      faulty (codes "engine") (P (codes "engine") engine_words) engine_known (bounded bound []) wanting tt
          (engine_lacks_4 (codes "engine") bound hb),
      outside (codes "engine") bound [] 4 refl refl hs (inl (omega arith)),
    )
engine_reads bound (h ∷ []) hb hs =
    let q0 = both (is_plain h) (list_all is_plain []) hs in
    inr (
      faulty (codes "engine") (P (codes "engine") engine_words) engine_known (bounded bound (h ∷ [])) wanting tt
          (engine_lacks_3 (codes "engine") bound h hb q0.0),
      outside (codes "engine") bound (h ∷ []) 4 refl refl hs (inl (omega arith)),
    )
engine_reads bound (h ∷ p ∷ []) hb hs =
    let q0 = both (is_plain h) (list_all is_plain (p ∷ [])) hs in
    let q1 = both (is_plain p) (list_all is_plain []) q0.1 in
    inr (
      faulty (codes "engine") (P (codes "engine") engine_words) engine_known (bounded bound (h ∷ p ∷ [])) wanting tt
          (engine_lacks_2 (codes "engine") bound h p hb q0.0 q1.0),
      outside (codes "engine") bound (h ∷ p ∷ []) 4 refl refl hs (inl (omega arith)),
    )
engine_reads bound (h ∷ p ∷ k ∷ []) hb hs =
    let q0 = both (is_plain h) (list_all is_plain (p ∷ k ∷ [])) hs in
    let q1 = both (is_plain p) (list_all is_plain (k ∷ [])) q0.1 in
    let q2 = both (is_plain k) (list_all is_plain []) q1.1 in
    inr (
      faulty (codes "engine") (P (codes "engine") engine_words) engine_known (bounded bound (h ∷ p ∷ k ∷ []))
          wanting tt
          (engine_lacks_1 (codes "engine") bound h p k hb q0.0 q1.0 q2.0),
      outside (codes "engine") bound (h ∷ p ∷ k ∷ []) 4 refl refl hs (inl (omega arith)),
    )
engine_reads bound (h ∷ p ∷ k ∷ f ∷ fs) hb hs =
    let q0 = both (is_plain h) (list_all is_plain (p ∷ k ∷ f ∷ fs)) hs in
    let q1 = both (is_plain p) (list_all is_plain (k ∷ f ∷ fs)) q0.1 in
    let q2 = both (is_plain k) (list_all is_plain (f ∷ fs)) q1.1 in
    let q3 = both (is_plain f) (list_all is_plain fs) q2.1 in
    files_reads (codes "engine") engine_words engine_known bound (h ∷ p ∷ k ∷ []) 4 (engine_rows bound h p k)
    (engine_takes (codes "engine") bound h p k) f fs hb
    (engine_read (codes "engine") bound h p k f fs q0.0 q1.0 q2.0 q3.0 q3.1)
    (engine_given bound h p k (f ∷ fs)) refl hs refl refl
    (λ large. outside (codes "engine") bound (h ∷ p ∷ k ∷ f ∷ fs) 4 refl refl hs (inr (omega (arith, large))))

-- ---- `async`

pub async_reads : (bound : Option Text) (words : List Text) → is_plain_bound bound ≡ true
    → list_all is_plain words ≡ true
    → Reading (codes "async" ∷ bounded bound words)
async_reads bound [] hb hs =
    inr (
      faulty (codes "async") (P (codes "async") engine_words) async_known (bounded bound []) wanting tt
          (engine_lacks_4 (codes "async") bound hb),
      outside (codes "async") bound [] 4 refl refl hs (inl (omega arith)),
    )
async_reads bound (h ∷ []) hb hs =
    let q0 = both (is_plain h) (list_all is_plain []) hs in
    inr (
      faulty (codes "async") (P (codes "async") engine_words) async_known (bounded bound (h ∷ [])) wanting tt
          (engine_lacks_3 (codes "async") bound h hb q0.0),
      outside (codes "async") bound (h ∷ []) 4 refl refl hs (inl (omega arith)),
    )
async_reads bound (h ∷ p ∷ []) hb hs =
    let q0 = both (is_plain h) (list_all is_plain (p ∷ [])) hs in
    let q1 = both (is_plain p) (list_all is_plain []) q0.1 in
    inr (
      faulty (codes "async") (P (codes "async") engine_words) async_known (bounded bound (h ∷ p ∷ [])) wanting tt
          (engine_lacks_2 (codes "async") bound h p hb q0.0 q1.0),
      outside (codes "async") bound (h ∷ p ∷ []) 4 refl refl hs (inl (omega arith)),
    )
async_reads bound (h ∷ p ∷ k ∷ []) hb hs =
    let q0 = both (is_plain h) (list_all is_plain (p ∷ k ∷ [])) hs in
    let q1 = both (is_plain p) (list_all is_plain (k ∷ [])) q0.1 in
    let q2 = both (is_plain k) (list_all is_plain []) q1.1 in
    inr (
      faulty (codes "async") (P (codes "async") engine_words) async_known (bounded bound (h ∷ p ∷ k ∷ []))
          wanting tt
          (engine_lacks_1 (codes "async") bound h p k hb q0.0 q1.0 q2.0),
      outside (codes "async") bound (h ∷ p ∷ k ∷ []) 4 refl refl hs (inl (omega arith)),
    )
async_reads bound (h ∷ p ∷ k ∷ f ∷ fs) hb hs =
    let q0 = both (is_plain h) (list_all is_plain (p ∷ k ∷ f ∷ fs)) hs in
    let q1 = both (is_plain p) (list_all is_plain (k ∷ f ∷ fs)) q0.1 in
    let q2 = both (is_plain k) (list_all is_plain (f ∷ fs)) q1.1 in
    let q3 = both (is_plain f) (list_all is_plain fs) q2.1 in
    files_reads (codes "async") engine_words async_known bound (h ∷ p ∷ k ∷ []) 4 (engine_rows bound h p k)
    (engine_takes (codes "async") bound h p k) f fs hb
    (engine_read (codes "async") bound h p k f fs q0.0 q1.0 q2.0 q3.0 q3.1)
    (async_given bound h p k (f ∷ fs)) refl hs refl refl
    (λ large. outside (codes "async") bound (h ∷ p ∷ k ∷ f ∷ fs) 4 refl refl hs (inr (omega (arith, large))))

-- ---- `replay`

pub replay_reads : (bound : Option Text) (words : List Text) → is_plain_bound bound ≡ true
    → list_all is_plain words ≡ true
    → Reading (codes "replay" ∷ bounded bound words)
replay_reads bound [] hb hs =
    inr (
      faulty (codes "replay") (P (codes "replay") replay_words) replay_known (bounded bound []) wanting tt
          (replay_lacks_2 (codes "replay") bound hb),
      outside (codes "replay") bound [] 2 refl refl hs (inl (omega arith)),
    )
replay_reads bound (e ∷ []) hb hs =
    let q0 = both (is_plain e) (list_all is_plain []) hs in
    inr (
      faulty (codes "replay") (P (codes "replay") replay_words) replay_known (bounded bound (e ∷ [])) wanting tt
          (replay_lacks_1 (codes "replay") bound e hb q0.0),
      outside (codes "replay") bound (e ∷ []) 2 refl refl hs (inl (omega arith)),
    )
replay_reads bound (e ∷ f ∷ fs) hb hs =
    let q0 = both (is_plain e) (list_all is_plain (f ∷ fs)) hs in
    let q1 = both (is_plain f) (list_all is_plain fs) q0.1 in
    files_reads (codes "replay") replay_words replay_known bound (e ∷ []) 2 (replay_rows bound e)
    (replay_takes (codes "replay") bound e) f fs hb
    (replay_read (codes "replay") bound e f fs q0.0 q1.0 q1.1)
    (replay_given bound e (f ∷ fs)) refl hs refl refl
    (λ large. outside (codes "replay") bound (e ∷ f ∷ fs) 2 refl refl hs (inr (omega (arith, large))))

-- ---- the other commands

-- how many words stand behind a command that has no files of a program
abbrev pub plain_count : Text → ℕ
plain_count name =
    if bytes_eq name (codes "ide") then 2
    else (if bytes_eq name (codes "soak") then 2 else (if bytes_eq name (codes "proxy") then 4 else 0))

pub plain_behind : (task : Task) (words : List Text) (h : IsInvocation words task) → has_bound (name_of task) ≡ false
    → length (named words task h).0 ≡ plain_count (name_of task)
plain_behind (run ask) words h e = absurd cc
plain_behind (talk key ask) words h e = absurd cc
plain_behind (tape key ask) words h e = absurd cc
plain_behind (audit key ask) words h e = absurd cc
plain_behind (dap ask) words h e = absurd cc
plain_behind (engine address key ask) words h e = absurd cc
plain_behind (async address key ask) words h e = absurd cc
plain_behind (ide port script) words h e = refl
plain_behind (replay events ask) words h e = absurd cc
plain_behind (soak count seed) words h e = refl
plain_behind (proxy service) words h e = refl
plain_behind show words h e = refl

-- no task is asked for by another number of words
pub other_count : (name : Text) (behind : List Text) → has_bound name ≡ false → (length behind ≡ plain_count name → ⊥)
    → (task : Task) → IsInvocation (name ∷ behind) task → ⊥
other_count name behind none not_so task asks =
    let is = same_name name behind task asks in
    not_so (ap (λ (l : List Text). length l) (same_behind name behind task asks)
    ∙ plain_behind task (name ∷ behind) asks (subst (λ (n : Text). has_bound n ≡ false) is none)
    ∙ ap plain_count (sym is))

pub ide_reads : (behind : List Text) → list_all is_plain behind ≡ true → Reading (codes "ide" ∷ behind)
ide_reads [] h = inr (
  faulty (codes "ide") (I (codes "ide")) ide_known [] wanting tt (ide_lacks_2 (codes "ide")),
  other_count (codes "ide") [] refl (λ e. omega (arith, e)),
)
ide_reads (p ∷ []) h = inr (
  faulty (codes "ide") (I (codes "ide")) ide_known (p ∷ []) wanting tt
      (ide_lacks_1 (codes "ide") p (both (is_plain p) true h).0),
  other_count (codes "ide") (p ∷ []) refl (λ e. omega (arith, e)),
)
ide_reads (p ∷ s ∷ []) h =
    let q = both (is_plain p) (list_all is_plain (s ∷ [])) h in
    let hs = (both (is_plain s) true q.1).0 in
    inl (record {
      given = ide_given p s;
      words_are = refl;
      plain = h;
      fine = fine_known (codes "ide") (I (codes "ide")) ide_known (p ∷ s ∷ [])
          (ide_fine (codes "ide") p s q.0 hs);
      rows = rows_known (codes "ide") (I (codes "ide")) ide_known (p ∷ s ∷ [])
          ∙ ap (λ (r : List Row). Some (codes "ide", r)) (ide_found (codes "ide") p s q.0 hs);
    })
ide_reads (p ∷ s ∷ v ∷ vs) h =
    let q = both (is_plain p) (list_all is_plain (s ∷ v ∷ vs)) h in
    let r = both (is_plain s) (list_all is_plain (v ∷ vs)) q.1 in
    let t = both (is_plain v) (list_all is_plain vs) r.1 in
    inr (
      faulty_so (codes "ide") (I (codes "ide")) ide_known (p ∷ s ∷ v ∷ vs)
          (ide_over (codes "ide") p s v vs q.0 r.0 t.0),
      other_count (codes "ide") (p ∷ s ∷ v ∷ vs) refl (λ e. omega (arith, e)),
    )

pub soak_reads : (behind : List Text) → list_all is_plain behind ≡ true → Reading (codes "soak" ∷ behind)
soak_reads [] h = inr (
  faulty (codes "soak") (S (codes "soak")) soak_known [] wanting tt (soak_lacks_2 (codes "soak")),
  other_count (codes "soak") [] refl (λ e. omega (arith, e)),
)
soak_reads (p ∷ []) h = inr (
  faulty (codes "soak") (S (codes "soak")) soak_known (p ∷ []) wanting tt
      (soak_lacks_1 (codes "soak") p (both (is_plain p) true h).0),
  other_count (codes "soak") (p ∷ []) refl (λ e. omega (arith, e)),
)
soak_reads (p ∷ s ∷ []) h =
    let q = both (is_plain p) (list_all is_plain (s ∷ [])) h in
    let hs = (both (is_plain s) true q.1).0 in
    inl (record {
      given = soak_given p s;
      words_are = refl;
      plain = h;
      fine = fine_known (codes "soak") (S (codes "soak")) soak_known (p ∷ s ∷ [])
          (soak_fine (codes "soak") p s q.0 hs);
      rows = rows_known (codes "soak") (S (codes "soak")) soak_known (p ∷ s ∷ [])
          ∙ ap (λ (r : List Row). Some (codes "soak", r)) (soak_found (codes "soak") p s q.0 hs);
    })
soak_reads (p ∷ s ∷ v ∷ vs) h =
    let q = both (is_plain p) (list_all is_plain (s ∷ v ∷ vs)) h in
    let r = both (is_plain s) (list_all is_plain (v ∷ vs)) q.1 in
    let t = both (is_plain v) (list_all is_plain vs) r.1 in
    inr (
      faulty_so (codes "soak") (S (codes "soak")) soak_known (p ∷ s ∷ v ∷ vs)
          (soak_over (codes "soak") p s v vs q.0 r.0 t.0),
      other_count (codes "soak") (p ∷ s ∷ v ∷ vs) refl (λ e. omega (arith, e)),
    )

pub proxy_reads : (behind : List Text) → list_all is_plain behind ≡ true → Reading (codes "proxy" ∷ behind)
proxy_reads [] h = inr (
  faulty (codes "proxy") (relay (codes "proxy")) proxy_known [] wanting tt (proxy_lacks_4 (codes "proxy")),
  other_count (codes "proxy") [] refl (λ e. omega (arith, e)),
)
proxy_reads (i ∷ []) h = inr (
  faulty (codes "proxy") (relay (codes "proxy")) proxy_known (i ∷ []) wanting tt
      (proxy_lacks_3 (codes "proxy") i (both (is_plain i) true h).0),
  other_count (codes "proxy") (i ∷ []) refl (λ e. omega (arith, e)),
)
proxy_reads (i ∷ e ∷ []) h =
    let q = both (is_plain i) (list_all is_plain (e ∷ [])) h in
    inr (
      faulty (codes "proxy") (relay (codes "proxy")) proxy_known (i ∷ e ∷ []) wanting tt
          (proxy_lacks_2 (codes "proxy") i e q.0 (both (is_plain e) true q.1).0),
      other_count (codes "proxy") (i ∷ e ∷ []) refl (λ x. omega (arith, x)),
    )
proxy_reads (i ∷ e ∷ r ∷ []) h =
    let q = both (is_plain i) (list_all is_plain (e ∷ r ∷ [])) h in
    let t = both (is_plain e) (list_all is_plain (r ∷ [])) q.1 in
    inr (
      faulty (codes "proxy") (relay (codes "proxy")) proxy_known (i ∷ e ∷ r ∷ []) wanting tt
          (proxy_lacks_1 (codes "proxy") i e r q.0 t.0 (both (is_plain r) true t.1).0),
      other_count (codes "proxy") (i ∷ e ∷ r ∷ []) refl (λ x. omega (arith, x)),
    )
proxy_reads (i ∷ e ∷ r ∷ s ∷ []) h =
    let q = both (is_plain i) (list_all is_plain (e ∷ r ∷ s ∷ [])) h in
    let t = both (is_plain e) (list_all is_plain (r ∷ s ∷ [])) q.1 in
    let u = both (is_plain r) (list_all is_plain (s ∷ [])) t.1 in
    let hs = (both (is_plain s) true u.1).0 in
    inl (record {
      given = proxy_given i e r s;
      words_are = refl;
      plain = h;
      fine = fine_known (codes "proxy") (relay (codes "proxy")) proxy_known (i ∷ e ∷ r ∷ s ∷ [])
          (proxy_fine (codes "proxy") i e r s q.0 t.0 u.0 hs);
      rows = rows_known (codes "proxy") (relay (codes "proxy")) proxy_known (i ∷ e ∷ r ∷ s ∷ [])
          ∙ ap (λ (l : List Row). Some (codes "proxy", l)) (proxy_found (codes "proxy") i e r s q.0 t.0 u.0 hs);
    })
proxy_reads (i ∷ e ∷ r ∷ s ∷ v ∷ vs) h =
    let q = both (is_plain i) (list_all is_plain (e ∷ r ∷ s ∷ v ∷ vs)) h in
    let t = both (is_plain e) (list_all is_plain (r ∷ s ∷ v ∷ vs)) q.1 in
    let u = both (is_plain r) (list_all is_plain (s ∷ v ∷ vs)) t.1 in
    let w = both (is_plain s) (list_all is_plain (v ∷ vs)) u.1 in
    let x = both (is_plain v) (list_all is_plain vs) w.1 in
    inr (
      faulty_so (codes "proxy") (relay (codes "proxy")) proxy_known (i ∷ e ∷ r ∷ s ∷ v ∷ vs)
          (proxy_over (codes "proxy") i e r s v vs q.0 t.0 u.0 w.0 x.0),
      other_count (codes "proxy") (i ∷ e ∷ r ∷ s ∷ v ∷ vs) refl (λ y. omega (arith, y)),
    )

pub show_reads : (behind : List Text) → list_all is_plain behind ≡ true → Reading (codes "show" ∷ behind)
show_reads [] h = inl (record {
  given = show_given;
  words_are = refl;
  plain = refl;
  fine = fine_known (codes "show") (alone (codes "show")) show_known [] (show_fine (codes "show"));
  rows = rows_known (codes "show") (alone (codes "show")) show_known [];
})
show_reads (v ∷ vs) h = inr (
  faulty_so (codes "show") (alone (codes "show")) show_known (v ∷ vs)
      (show_over (codes "show") v vs (both (is_plain v) (list_all is_plain vs) h).0),
  other_count (codes "show") (v ∷ vs) refl (λ e. omega (arith, e)),
)
