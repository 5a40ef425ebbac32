-- What the rows of a command hold: its files, its bound and the words before them.
use Rattle.std.proofs.Common.{◌≡◌, ℕ, ◌+◌, ◌≤◌, ◌-◌, List, [], ◌∷◌, ◌++◌, length, map, drop, Option, Some, None, refl, sym, ap, ap₂, ◌∙◌, arith, codes, String, string_bytes, Global}
use Rattle.std.proofs.lemmas.List.{drop-map, length-append, length-map}
use Rattle.clap.specs.Walk.{Row, Text, first_of}
use Rattle.dp_words.specs.inner.Given.{Given, engine_given, async_given, ide_given, proxy_given, replay_given, run_given, show_given, soak_given, talk_given, tape_given, audit_given, dap_given, requested, bound_in, bounded, files_in, first_in, name_in, rows_in, words_in}
use Rattle.dp_words.specs.inner.Rows.{IsGiven, count_in, program_in}

-- ---- what the rows hold

count_said : (g : Given) → count_in (rows_in g) ≡ length (files_in g)
count_said (run_given None []) = refl
count_said (dap_given None []) = refl
count_said (run_given None (f ∷ fs)) = refl
count_said (dap_given None (f ∷ fs)) = refl
count_said (run_given (Some n) []) = refl
count_said (dap_given (Some n) []) = refl
count_said (run_given (Some n) (f ∷ fs)) = refl
count_said (dap_given (Some n) (f ∷ fs)) = refl
count_said (talk_given None key []) = refl
count_said (tape_given None key []) = refl
count_said (audit_given None key []) = refl
count_said (talk_given None key (f ∷ fs)) = refl
count_said (tape_given None key (f ∷ fs)) = refl
count_said (audit_given None key (f ∷ fs)) = refl
count_said (talk_given (Some n) key []) = refl
count_said (tape_given (Some n) key []) = refl
count_said (audit_given (Some n) key []) = refl
count_said (talk_given (Some n) key (f ∷ fs)) = refl
count_said (tape_given (Some n) key (f ∷ fs)) = refl
count_said (audit_given (Some n) key (f ∷ fs)) = refl
count_said (engine_given None host port key []) = refl
count_said (async_given None host port key []) = refl
count_said (engine_given None host port key (f ∷ fs)) = refl
count_said (async_given None host port key (f ∷ fs)) = refl
count_said (engine_given (Some n) host port key []) = refl
count_said (async_given (Some n) host port key []) = refl
count_said (engine_given (Some n) host port key (f ∷ fs)) = refl
count_said (async_given (Some n) host port key (f ∷ fs)) = refl
count_said (replay_given None events []) = refl
count_said (replay_given None events (f ∷ fs)) = refl
count_said (replay_given (Some n) events []) = refl
count_said (replay_given (Some n) events (f ∷ fs)) = refl
count_said (ide_given port script) = refl
count_said (soak_given count seed) = refl
count_said (proxy_given ides engines registrations sessions) = refl
count_said show_given = refl

bound_said : (g : Given) → first_of (codes "bound") (rows_in g) ≡ bound_in g
bound_said (run_given None []) = refl
bound_said (dap_given None []) = refl
bound_said (run_given None (f ∷ fs)) = refl
bound_said (dap_given None (f ∷ fs)) = refl
bound_said (run_given (Some n) []) = refl
bound_said (dap_given (Some n) []) = refl
bound_said (run_given (Some n) (f ∷ fs)) = refl
bound_said (dap_given (Some n) (f ∷ fs)) = refl
bound_said (talk_given None key []) = refl
bound_said (tape_given None key []) = refl
bound_said (audit_given None key []) = refl
bound_said (talk_given None key (f ∷ fs)) = refl
bound_said (tape_given None key (f ∷ fs)) = refl
bound_said (audit_given None key (f ∷ fs)) = refl
bound_said (talk_given (Some n) key []) = refl
bound_said (tape_given (Some n) key []) = refl
bound_said (audit_given (Some n) key []) = refl
bound_said (talk_given (Some n) key (f ∷ fs)) = refl
bound_said (tape_given (Some n) key (f ∷ fs)) = refl
bound_said (audit_given (Some n) key (f ∷ fs)) = refl
bound_said (engine_given None host port key []) = refl
bound_said (async_given None host port key []) = refl
bound_said (engine_given None host port key (f ∷ fs)) = refl
bound_said (async_given None host port key (f ∷ fs)) = refl
bound_said (engine_given (Some n) host port key []) = refl
bound_said (async_given (Some n) host port key []) = refl
bound_said (engine_given (Some n) host port key (f ∷ fs)) = refl
bound_said (async_given (Some n) host port key (f ∷ fs)) = refl
bound_said (replay_given None events []) = refl
bound_said (replay_given None events (f ∷ fs)) = refl
bound_said (replay_given (Some n) events []) = refl
bound_said (replay_given (Some n) events (f ∷ fs)) = refl
bound_said (ide_given port script) = refl
bound_said (soak_given count seed) = refl
bound_said (proxy_given ides engines registrations sessions) = refl
bound_said show_given = refl

pub key_of_talk : (bound : Option Text) (key : Text) (files : List Text)
    → first_of (codes "KEY") (rows_in (talk_given bound key files)) ≡ Some key
key_of_talk None key files = refl
key_of_talk (Some n) key files = refl

pub key_of_tape : (bound : Option Text) (key : Text) (files : List Text)
    → first_of (codes "KEY") (rows_in (tape_given bound key files)) ≡ Some key
key_of_tape None key files = refl
key_of_tape (Some n) key files = refl

pub key_of_audit : (bound : Option Text) (key : Text) (files : List Text)
    → first_of (codes "KEY") (rows_in (audit_given bound key files)) ≡ Some key
key_of_audit None key files = refl
key_of_audit (Some n) key files = refl

pub events_of_replay : (bound : Option Text) (events : Text) (files : List Text)
    → first_of (codes "EVENTS") (rows_in (replay_given bound events files)) ≡ Some events
events_of_replay None events files = refl
events_of_replay (Some n) events files = refl

module _ (host port key : Text) (files : List Text) where
  pub host_of_engine : (bound : Option Text)
      → first_of (codes "HOST") (rows_in (engine_given bound host port key files)) ≡ Some host
  host_of_engine None = refl
  host_of_engine (Some n) = refl

  pub port_of_engine : (bound : Option Text)
      → first_of (codes "PORT") (rows_in (engine_given bound host port key files)) ≡ Some port
  port_of_engine None = refl
  port_of_engine (Some n) = refl

  pub key_of_engine : (bound : Option Text) → first_of (codes "KEY") (rows_in (engine_given bound host port key files))
      ≡ Some key
  key_of_engine None = refl
  key_of_engine (Some n) = refl

  pub host_of_async : (bound : Option Text) → first_of (codes "HOST") (rows_in (async_given bound host port key files))
      ≡ Some host
  host_of_async None = refl
  host_of_async (Some n) = refl

  pub port_of_async : (bound : Option Text) → first_of (codes "PORT") (rows_in (async_given bound host port key files))
      ≡ Some port
  port_of_async None = refl
  port_of_async (Some n) = refl

  pub key_of_async : (bound : Option Text) → first_of (codes "KEY") (rows_in (async_given bound host port key files))
      ≡ Some key
  key_of_async None = refl
  key_of_async (Some n) = refl

-- ---- the files are the last of the words

drop_front : (front words : List Text) → drop (length front) (front ++ words) ≡ words
drop_front [] words = refl
drop_front (w ∷ front) words = drop_front front words

last_of : (all front words : List Text) (count : ℕ) → all ≡ front ++ words → count ≡ length words
    → drop (length all - count) all ≡ words
last_of all front words count is few =
    let whole : length all - count ≡ length front = omega (
      arith,
      ap (λ (l : List Text). length l) is,
      few,
      length-append front words,
    ) in
    ap₂ drop whole is ∙ drop_front front words

-- the words before the files
abbrev front_of : Given → List Text
front_of g = name_in g ∷ bounded (bound_in g) (first_in g)

front_is : (g : Given) → words_in g ≡ front_of g ++ files_in g
front_is (run_given None files) = refl
front_is (dap_given None files) = refl
front_is (run_given (Some n) files) = refl
front_is (dap_given (Some n) files) = refl
front_is (talk_given None key files) = refl
front_is (tape_given None key files) = refl
front_is (audit_given None key files) = refl
front_is (talk_given (Some n) key files) = refl
front_is (tape_given (Some n) key files) = refl
front_is (audit_given (Some n) key files) = refl
front_is (engine_given None host port key files) = refl
front_is (async_given None host port key files) = refl
front_is (engine_given (Some n) host port key files) = refl
front_is (async_given (Some n) host port key files) = refl
front_is (replay_given None events files) = refl
front_is (replay_given (Some n) events files) = refl
front_is (ide_given port script) = refl
front_is (soak_given count seed) = refl
front_is (proxy_given ides engines registrations sessions) = refl
front_is show_given = refl

module _ (words : List (String Global)) (name : Text) (rows : List Row) (i : IsGiven (map string_bytes words) name
    rows)
  where
    pub count_is : count_in rows ≡ length (files_in i.given)
    count_is = ap count_in i.rows_are ∙ count_said i.given

    pub few_files : count_in rows ≤ length words
    few_files = omega (
      arith,
      count_is,
      length-map words string_bytes,
      ap (λ (l : List Text). length l) (i.words_are ∙ front_is i.given),
      length-append (front_of i.given) (files_in i.given),
    )

    files_are : map string_bytes (drop (length words - count_in rows) words) ≡ files_in i.given
    files_are =
        sym (drop-map string_bytes (length words - count_in rows) words)
        ∙ ap (λ (n : ℕ). drop (n - count_in rows) (map string_bytes words)) (sym (length-map words string_bytes))
        ∙ last_of (map string_bytes words) (front_of i.given) (files_in i.given) (count_in rows)
        (i.words_are ∙ front_is i.given) count_is

    pub program_is : program_in rows words ≡ requested (bound_in i.given) (files_in i.given)
    program_is =
        ap₂ (λ (o : Option Text) (l : List Text). requested o l)
        (ap (first_of (codes "bound")) i.rows_are ∙ bound_said i.given) files_are
