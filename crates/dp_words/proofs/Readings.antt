-- Words that are plain are read exactly where they may ask for something.
use Rattle.std.proofs.Common.{◌≡◌, ℕ, suc, ◌≤◌, Bool, true, false, ◌&&◌, ◌||◌, not, List, [], ◌∷◌, length, All, Option, Some, None, refl, sym, ap, ap₂, ◌∙◌, subst, arith, codes, inr}
use Rattle.std.specs.Prelude.{if◌then◌else◌, find, ◌==◌}
use Rattle.std.specs.List.{list_all}
use Rattle.std.specs.Str.{bytes_eq}
use Rattle.std.specs.Option.{option_map, option_map_or}
use Rattle.std.proofs.lemmas.Slice.Eq.{bytes_eq-Decides}
use Rattle.std.proofs.lemmas.Bool.Decides.{nat_tests}
use Rattle.clap.specs.Walk.{Text, answers_to}
use Rattle.dp_outside.specs.Names.{IsKey}
use Rattle.dp_words.specs.Words.{Invocation, IsInvocation, Task, IsFileWord, run, talk, tape, audit, dap, engine, async, ide, replay, soak, proxy, show, invocation_of, bound_limit, bound_of, default_bound, is_option, not_zero, port_limit, port_of, seed_limit, served_count_of, served_limit, session_count_of, soak_limit, with_bound}
use Rattle.dp_bytes.specs.Decimals.{decimal_in}
use Rattle.dp_words.specs.Plain.{are_bounded, are_plain, has_bound, is_plain}
use Rattle.dp_words.specs.inner.Given.{bounded}
use Rattle.dp_words.proofs.Leaves.{HasFault, both, files, is_plain_bound}
use Rattle.dp_words.proofs.Programs.{names, no_words, unknown}
use Rattle.dp_words.proofs.CommandReadings.{Reading, async_reads, audit_reads, dap_reads, engine_reads, ide_reads, name_of, named, proxy_reads, replay_reads, run_reads, same_name, show_reads, soak_reads, talk_reads, tape_reads}

no_command : (task : Task) → find (answers_to (name_of task)) names ≡ None → ⊥
no_command (run ask) e = absurd cc
no_command (talk key ask) e = absurd cc
no_command (tape key ask) e = absurd cc
no_command (audit key ask) e = absurd cc
no_command (dap ask) e = absurd cc
no_command (engine address key ask) e = absurd cc
no_command (async address key ask) e = absurd cc
no_command (ide port script) e = absurd cc
no_command (replay events ask) e = absurd cc
no_command (soak count seed) e = absurd cc
no_command (proxy service) e = absurd cc
no_command show e = absurd cc

-- a bound and the words behind it
record Split (behind : List Text) : Type 0 where
  pub bound : Option Text
  pub words : List Text
  pub is : bounded bound words ≡ behind
  pub plain_bound : is_plain_bound bound ≡ true
  pub plain : list_all is_plain words ≡ true

split : (behind : List Text) → are_bounded behind ≡ true → Split behind
split [] h = record { bound = None; words = []; is = refl; plain_bound = refl; plain = refl }
split (word ∷ []) h = record {
  bound = None;
  words = word ∷ [];
  is = refl;
  plain_bound = refl;
  plain = ap (λ (t : Bool). t && true) h;
}
split (word ∷ number ∷ words) h = by (bytes_eq word (codes "--bound")) refl h where
  by : (t : Bool) → bytes_eq word (codes "--bound") ≡ t
      → (if t then (is_plain number && list_all is_plain words)
      else (is_plain word && (is_plain number && list_all is_plain words))) ≡ true
      → Split (word ∷ number ∷ words)
  by true e fits =
      let parts = both (is_plain number) (list_all is_plain words) fits in
      record {
        bound = Some number;
        words = words;
        is = ap (λ (w : Text). w ∷ number ∷ words) (sym ((bytes_eq-Decides word (codes "--bound")).0 e));
        plain_bound = parts.0;
        plain = parts.1;
      }
  by false e fits =
      record { bound = None; words = word ∷ number ∷ words; is = refl; plain_bound = refl; plain = fits }

-- ---- all words

choose : {X : Type 0} → (known name : Text) → (known ≡ name → X) → (bytes_eq known name ≡ false → X) → X
choose {X} known name yes_so not_so = by (bytes_eq known name) refl where
  by : (t : Bool) → bytes_eq known name ≡ t → X
  by true e = yes_so ((bytes_eq-Decides known name).0 e)
  by false e = not_so e

abbrev label : Text → Text × List Text
label name = (name, [])

-- the command that is found, by which names it has
abbrev found_by : Bool → Bool → Bool → Bool → Bool → Bool → Bool → Bool → Bool → Bool → Bool → Bool
    → Option (Text × List Text)
found_by a b t u w c x d e f g h =
    if a || false then Some (label (codes "run")) else (if b || false then Some (label (codes "talk"))
    else (if t || false then Some (label (codes "tape")) else (if u || false then Some (label (codes "audit"))
    else (if w || false then Some (label (codes "dap"))
    else (if c || false then Some (label (codes "engine")) else (if x || false then Some (label (codes "async"))
    else (if d || false then Some (label (codes "ide"))
    else (if e || false then Some (label (codes "replay")) else (if f || false then Some (label (codes "soak"))
    else (if g || false then Some (label (codes "proxy")) else (if h || false then Some (label (codes "show"))
    else None)))))))))))

abbrev fits : Text → List Text → Type 0
fits name behind = (if has_bound name then are_bounded behind else list_all is_plain behind) ≡ true

-- a command that may have a bound
split_reads : (name : Text) (behind : List Text) → are_bounded behind ≡ true
    → ((bound : Option Text) (words : List Text) → is_plain_bound bound ≡ true → list_all is_plain words ≡ true
    → Reading (name ∷ bounded bound words)) → Reading (name ∷ behind)
split_reads name behind h reads_so =
    let s = split behind h in
    subst (λ (l : List Text). Reading (name ∷ l)) s.is (reads_so s.bound s.words s.plain_bound s.plain)

pub reads : (words : List Text) → are_plain words ≡ true → Reading words
reads [] h =
    inr (
      subst HasFault (sym no_words) tt,
      λ task asks. absurd
          (omega (arith, ap (λ (l : List Text). length l) (named [] task asks).1)),
    )
reads (name ∷ behind) h =
    let parts = both (is_plain name) (if has_bound name then are_bounded behind else list_all is_plain behind) h in
    choose (codes "run") name
    (λ e. subst (λ n. fits n behind → Reading (n ∷ behind)) e
    (λ f. split_reads (codes "run") behind f run_reads) parts.1) (λ no_run.
    choose (codes "talk") name
    (λ e. subst (λ n. fits n behind → Reading (n ∷ behind)) e
    (λ f. split_reads (codes "talk") behind f talk_reads) parts.1) (λ no_talk.
    choose (codes "tape") name
    (λ e. subst (λ n. fits n behind → Reading (n ∷ behind)) e
    (λ f. split_reads (codes "tape") behind f tape_reads) parts.1) (λ no_tape.
    choose (codes "audit") name
    (λ e. subst (λ n. fits n behind → Reading (n ∷ behind)) e
    (λ f. split_reads (codes "audit") behind f audit_reads) parts.1) (λ no_audit.
    choose (codes "dap") name
    (λ e. subst (λ n. fits n behind → Reading (n ∷ behind)) e
    (λ f. split_reads (codes "dap") behind f dap_reads) parts.1) (λ no_dap.
    choose (codes "engine") name
    (λ e. subst (λ n. fits n behind → Reading (n ∷ behind)) e
    (λ f. split_reads (codes "engine") behind f engine_reads) parts.1) (λ no_engine.
    choose (codes "async") name
    (λ e. subst (λ n. fits n behind → Reading (n ∷ behind)) e
    (λ f. split_reads (codes "async") behind f async_reads) parts.1) (λ no_async.
    choose (codes "ide") name
    (λ e. subst (λ n. fits n behind → Reading (n ∷ behind)) e (λ f. ide_reads behind f) parts.1) (λ no_ide_name.
    choose (codes "replay") name
    (λ e. subst (λ n. fits n behind → Reading (n ∷ behind)) e
    (λ f. split_reads (codes "replay") behind f replay_reads) parts.1) (λ no_replay.
    choose (codes "soak") name
    (λ e. subst (λ n. fits n behind → Reading (n ∷ behind)) e (λ f. soak_reads behind f) parts.1) (λ no_soak.
    choose (codes "proxy") name
    (λ e. subst (λ n. fits n behind → Reading (n ∷ behind)) e (λ f. proxy_reads behind f) parts.1) (λ no_proxy.
    choose (codes "show") name
    (λ e. subst (λ n. fits n behind → Reading (n ∷ behind)) e (λ f. show_reads behind f) parts.1) (λ no_show_name.
    let none : find (answers_to name) names ≡ None = λ i. found_by (no_run i) (no_talk i) (no_tape i) (no_audit i)
    (no_dap i) (no_engine i) (no_async i)
    (no_ide_name i)
    (no_replay i) (no_soak i) (no_proxy i) (no_show_name i) in
    inr (
      subst HasFault (sym (unknown name behind parts.0 none)) tt,
      λ task asks. no_command task (subst (λ (n : Text). find (answers_to n) names ≡ None)
          (same_name name behind task asks) none),
    )))))))))))))

-- ---- words that ask for something are plain

number_plain : (most n : ℕ) (word : Text) → decimal_in most word ≡ Some n → is_plain word ≡ true
unfolding decimal_in
number_plain most n [] e = absurd cc
number_plain most n (b ∷ bs) e = by (b == 45) refl where
  minus : b ≡ 45 → decimal_in most (b ∷ bs) ≡ None
  minus is = ap (λ (c : ℕ). decimal_in most (c ∷ bs)) is

  by : (t : Bool) → (b == 45) ≡ t → not t ≡ true
  by false is = refl
  by true is = let none : Some n ≡ None = sym e ∙ minus (grind (arith, nat_tests, is)) in absurd cc

bound_plain : (word : Text) (n : ℕ) → bound_of word ≡ Some n → is_plain word ≡ true
bound_plain word n e = by (decimal_in bound_limit word) refl e where
  by : (o : Option ℕ) → decimal_in bound_limit word ≡ o → not_zero o ≡ Some n → is_plain word ≡ true
  by None is no_bound = absurd cc
  by (Some m) is some = number_plain bound_limit m word is

port_plain : (word : Text) (n : ℕ) → port_of word ≡ Some n → is_plain word ≡ true
port_plain word n e = by (decimal_in port_limit word) refl e where
  by : (o : Option ℕ) → decimal_in port_limit word ≡ o → not_zero o ≡ Some n → is_plain word ≡ true
  by None is no_port = absurd cc
  by (Some m) is some = number_plain port_limit m word is

count_plain : (word : Text) (n : ℕ) → session_count_of word ≡ Some n → is_plain word ≡ true
count_plain word n e = by (decimal_in soak_limit word) refl e where
  by : (o : Option ℕ) → decimal_in soak_limit word ≡ o → not_zero o ≡ Some n → is_plain word ≡ true
  by None is no_count = absurd cc
  by (Some m) is some = number_plain soak_limit m word is

served_plain : (word : Text) (n : ℕ) → served_count_of word ≡ Some n → is_plain word ≡ true
served_plain word n e = by (decimal_in served_limit word) refl e where
  by : (o : Option ℕ) → decimal_in served_limit word ≡ o → not_zero o ≡ Some n → is_plain word ≡ true
  by None is no_count = absurd cc
  by (Some m) is some = number_plain served_limit m word is

plain_if : (word : Text) → 1 ≤ length word → is_option word ≡ false → is_plain word ≡ true
plain_if [] some none = absurd (omega (arith, some))
plain_if (b ∷ bs) some none = ap not none

files_plain : (names : List Text) → All IsFileWord names → list_all is_plain names ≡ true
files_plain [] all = refl
files_plain (n ∷ names) all =
    let head : IsFileWord n = all 0 n (omega (arith)) in
    ap₂ (λ (a b : Bool). a && b) (plain_if n head.is_name.some head.is_none)
    (files_plain names (λ k d below. all (suc k) d (omega (arith, below))))

-- the words that give a program's names are plain where the names are
behind_plain : (behind : List Text) (ask : Invocation) → invocation_of behind ≡ Some ask
    → list_all is_plain ask.names ≡ true
    → are_bounded behind ≡ true
behind_plain [] ask e h = refl
behind_plain (word ∷ []) ask e h = by (bytes_eq word (codes "--bound")) refl e where
  by : (t : Bool) → bytes_eq word (codes "--bound") ≡ t
      → (if t then with_bound [] else Some (record { bound = default_bound; names = word ∷ [] })) ≡ Some ask
      → is_plain word ≡ true
  by true is none = absurd cc
  by false is some =
      let same : word ∷ [] ≡ ask.names = ap (λ (o : Option Invocation). option_map_or (λ (a : Invocation). a.names) o
      []) some in
      (both (is_plain word) true (ap (list_all is_plain) same ∙ h)).0
behind_plain (word ∷ number ∷ words) ask e h = by (bytes_eq word (codes "--bound")) refl e where
  bounded_so : (bound : Option ℕ) → bound_of number ≡ bound
      → option_map (λ n. record { bound = n; names = words }) bound ≡ Some ask
      → (is_plain number && list_all is_plain words) ≡ true
  bounded_so None is none = absurd cc
  bounded_so (Some n) is some =
      let same : words ≡ ask.names = ap (λ (o : Option Invocation). option_map_or (λ (a : Invocation). a.names) o [])
      some in
      ap₂ (λ (a b : Bool). a && b) (bound_plain number n is) (ap (list_all is_plain) same ∙ h)

  by : (t : Bool) → bytes_eq word (codes "--bound") ≡ t
      → (if t then with_bound (number ∷ words)
      else Some (record { bound = default_bound; names = word ∷ number ∷ words })) ≡ Some ask
      → (if bytes_eq word (codes "--bound") then (is_plain number && list_all is_plain words)
      else (is_plain word && (is_plain number && list_all is_plain words))) ≡ true
  by true is some =
      ap (λ (t : Bool). if t then (is_plain number && list_all is_plain words)
      else (is_plain word && (is_plain number && list_all is_plain words))) is
      ∙ bounded_so (bound_of number) refl some
  by false is some =
      let same : word ∷ number
      ∷ words ≡ ask.names = ap (λ (o : Option Invocation). option_map_or (λ (a : Invocation). a.names) o []) some in
      ap (λ (t : Bool). if t then (is_plain number && list_all is_plain words)
      else (is_plain word && (is_plain number && list_all is_plain words))) is
      ∙ ap (list_all is_plain) same ∙ h

key_plain : (key : Text) → IsKey key → is_option key ≡ false → is_plain key ≡ true
key_plain key is none = plain_if key is.some none

more_plain : (word : Text) (words : List Text) → is_plain word ≡ true → list_all is_plain words ≡ true
    → list_all is_plain (word ∷ words) ≡ true
more_plain word words h hs = ap₂ (λ (a b : Bool). a && b) h hs

asks_behind : (task : Task) (words : List Text) (h : IsInvocation words task) → has_bound (name_of task) ≡ true
    → are_bounded (named words task h).0 ≡ true
asks_behind (run ask) words h b =
    behind_plain h.behind ask h.follows.invocation (files_plain ask.names h.follows.files.named)
asks_behind (talk key ask) words h b =
    behind_plain h.behind _ h.speaks.invocation
    (more_plain key ask.names (key_plain key h.speaks.session.is_key h.speaks.session.is_none)
    (files_plain ask.names h.speaks.session.files.named))
asks_behind (tape key ask) words h b =
    behind_plain h.behind _ h.speaks.invocation
    (more_plain key ask.names (key_plain key h.speaks.session.is_key h.speaks.session.is_none)
    (files_plain ask.names h.speaks.session.files.named))
asks_behind (audit key ask) words h b =
    behind_plain h.behind _ h.speaks.invocation
    (more_plain key ask.names (key_plain key h.speaks.session.is_key h.speaks.session.is_none)
    (files_plain ask.names h.speaks.session.files.named))
asks_behind (dap ask) words h b =
    behind_plain h.behind ask h.follows.invocation (files_plain ask.names h.follows.files.named)
asks_behind (engine address key ask) words h b =
    let d = h.dials in
    behind_plain h.behind _ d.invocation
    (more_plain address.host (d.number ∷ key ∷ ask.names) (plain_if address.host d.host.is_host.some d.host.is_none)
    (more_plain d.number (key ∷ ask.names) (port_plain d.number address.port d.port)
    (more_plain key ask.names (key_plain key d.session.is_key d.session.is_none)
    (files_plain ask.names d.session.files.named))))
asks_behind (async address key ask) words h b =
    let d = h.dials in
    behind_plain h.behind _ d.invocation
    (more_plain address.host (d.number ∷ key ∷ ask.names) (plain_if address.host d.host.is_host.some d.host.is_none)
    (more_plain d.number (key ∷ ask.names) (port_plain d.number address.port d.port)
    (more_plain key ask.names (key_plain key d.session.is_key d.session.is_none)
    (files_plain ask.names d.session.files.named))))
asks_behind (replay events ask) words h b =
    behind_plain h.behind _ h.replays.invocation
    (more_plain events ask.names (plain_if events h.replays.is_events.is_name.some h.replays.is_events.is_none)
    (files_plain ask.names h.replays.files.named))
asks_behind (ide port script) words h b = absurd cc
asks_behind (soak count seed) words h b = absurd cc
asks_behind (proxy service) words h b = absurd cc
asks_behind show words h b = absurd cc

pub asks_plain : (words : List Text) (task : Task) → IsInvocation words task → are_plain words ≡ true
asks_plain words (run ask) h = ap are_plain h.words_are ∙ asks_behind (run ask) words h refl
asks_plain words (talk key ask) h = ap are_plain h.words_are ∙ asks_behind (talk key ask) words h refl
asks_plain words (tape key ask) h = ap are_plain h.words_are ∙ asks_behind (tape key ask) words h refl
asks_plain words (audit key ask) h = ap are_plain h.words_are ∙ asks_behind (audit key ask) words h refl
asks_plain words (dap ask) h = ap are_plain h.words_are ∙ asks_behind (dap ask) words h refl
asks_plain words (engine address key ask) h =
    ap are_plain h.words_are ∙ asks_behind (engine address key ask) words h refl
asks_plain words (async address key ask) h =
    ap are_plain h.words_are ∙ asks_behind (async address key ask) words h refl
asks_plain words (ide port script) h =
    ap are_plain h.words_are
    ∙ more_plain h.number (script ∷ []) (port_plain h.number port h.is_port)
    (more_plain script [] (plain_if script h.is_script.is_name.some h.is_script.is_none) refl)
asks_plain words (replay events ask) h = ap are_plain h.words_are ∙ asks_behind (replay events ask) words h refl
asks_plain words (soak count seed) h =
    ap are_plain h.words_are
    ∙ more_plain h.number (h.drawn ∷ []) (count_plain h.number count h.is_count)
    (more_plain h.drawn [] (number_plain seed_limit seed h.drawn h.is_seed) refl)
asks_plain words (proxy service) h =
    ap are_plain h.words_are
    ∙ more_plain h.ides (h.engines ∷ h.registrations ∷ h.sessions ∷ []) (port_plain h.ides service.ides h.is_ides)
    (more_plain h.engines (h.registrations ∷ h.sessions ∷ []) (port_plain h.engines service.engines h.is_engines)
    (more_plain h.registrations (h.sessions ∷ [])
    (served_plain h.registrations service.registrations h.is_registrations)
    (more_plain h.sessions [] (served_plain h.sessions service.sessions h.is_sessions) refl)))
asks_plain words show h = ap are_plain h
