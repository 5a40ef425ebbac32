-- What the matches of a command hold says what is asked for.
use Rattle.std.proofs.Common.{◌≡◌, ℕ, ◌+◌, ◌*◌, List, [], ◌∷◌, ◌++◌, map, drop, Option, Some, None, Box, refl, sym, ap, ◌∙◌, subst, arith, codes, String, string_bytes, Global}
use Rattle.std.specs.Prelude.{get_or, option_and_then}
use Rattle.std.specs.Option.{option_map, option_map_or}
use Rattle.std.specs.Box.{box_value}
use Rattle.clap.specs.Simple.{subcommand_rows}
use Rattle.clap.specs.Matches.{subcommand_name_of}
use Rattle.clap.specs.declared.parser.matches.ArgMatches.{ArgMatches}
use Rattle.clap.specs.declared.parser.matches.ArgMatches.TheViews.{out-ArgMatches, out-SubCommand}
use Rattle.clap.specs.declared.parser.matches.SubCommand.{SubCommand}
use Rattle.clap.specs.Walk.{Row, Text, first_of}
use Rattle.dp_bytes.specs.Decimals.{decimal_in}
use Rattle.dp_words.specs.Words.{AreFileWords, Invocation, IsFileWord, IsInvocation, Task, run, talk, tape, audit, dap, engine, async, ide, replay, soak, proxy, show, Service, invocation_of, port_of, seed_limit, served_count_of, session_count_of}
use Rattle.dp_words.specs.inner.Given.{Given, engine_given, async_given, ide_given, proxy_given, replay_given, run_given, show_given, soak_given, talk_given, tape_given, audit_given, dap_given, requested, bound_given, bound_in, bounded, files_in, first_in, name_in, rows_in, words_in, are_plain_in}
use Rattle.dp_words.specs.inner.Rows.{AreRows, IsGiven, program_in}
use Rattle.dp_words.proofs.CommandReadings.{invoked, named, name_of}
use Rattle.dp_words.proofs.RowLaws.{count_is, events_of_replay, program_is}

-- ---- the bound and the names

-- a program with one more name in front, or one less
pub longer : (bound : Option Text) (name : Text) (names : List Text) (ask : Invocation)
    → requested bound names ≡ Some ask
    → requested bound (name ∷ names) ≡ Some (record { bound = ask.bound; names = name ∷ ask.names })
longer bound name names ask e = by (bound_given bound) e where
  by : (o : Option ℕ) → option_map {U = Invocation} (λ (n : ℕ). record { bound = n; names = names }) o ≡ Some ask
      → option_map {U = Invocation} (λ (n : ℕ). record { bound = n; names = name ∷ names }) o
      ≡ Some (record { bound = ask.bound; names = name ∷ ask.names })
  by None none = absurd cc
  by (Some n) some =
      ap (option_map {U = Invocation} (λ (a : Invocation). record { bound = a.bound; names = name ∷ a.names })) some

pub shorter : (bound : Option Text) (name other : Text) (names : List Text) (ask : Invocation)
    → requested bound (name ∷ names) ≡ Some (record { bound = ask.bound; names = other ∷ ask.names })
    → (name ≡ other) × (requested bound names ≡ Some ask)
shorter bound name other names ask e = by (bound_given bound) e where
  by : (o : Option ℕ) → option_map {U = Invocation} (λ (n : ℕ). record { bound = n; names = name ∷ names }) o
      ≡ Some (record { bound = ask.bound; names = other ∷ ask.names })
      → (name ≡ other) × (option_map {U = Invocation} (λ (n : ℕ). record { bound = n; names = names }) o ≡ Some ask)
  by None none = absurd cc
  by (Some n) some = (
    ap (λ (o : Option Invocation). option_map_or (λ (a : Invocation). get_or a.names 0 name) o name) some,
    ap (option_map {U = Invocation} (λ (a : Invocation). record { bound = a.bound; names = drop 1 a.names })) some,
  )

-- no two names have the same first three letters
abbrev pub letters : Text → ℕ
letters [] = 0
letters (a ∷ []) = 0
letters (a ∷ b ∷ []) = 0
letters (a ∷ b ∷ c ∷ more) = 256 * (256 * a + b) + c

pub the_same : {A : Type 0} (x y : A) → Some x ≡ Some y → x ≡ y
the_same x y e = ap (λ o. option_map_or (λ a. a) o x) e

-- the words behind the command
behind_is : (words behind other : List Text) (name : Text) → words ≡ name ∷ behind → words ≡ name ∷ other
    → behind ≡ other
behind_is words behind other name p q = ap (λ (l : List Text). drop 1 l) (sym p ∙ q)

-- ---- each command

module _ (words : List (String Global)) (name : Text) (rows : List Row) (i : IsGiven (map string_bytes words) name
    rows)
  where
    abbrev pub all : List Text
    all = map string_bytes words

    -- another command is not given
    pub differs : (known : Text) (g : Given) → i.given ≡ g → name ≡ known → letters known ≡ letters (name_in g)
    differs known g at is = ap letters (sym is ∙ i.name_is ∙ ap name_in at)

    -- nor asked for
    pub clashes : (known : Text) (task : Task) → name ≡ known
        → IsInvocation all task → letters known ≡ letters (name_of task)
    clashes known task is asks =
        ap letters (sym is ∙ i.name_is ∙ ap (λ (l : List Text). get_or l 0 []) (sym i.words_are ∙ (named all task
        asks).1))

    module _ (g : Given) (at : i.given ≡ g) where
      pub words_at : all ≡ words_in g
      words_at = i.words_are ∙ ap words_in at

      pub rows_at : rows ≡ rows_in g
      rows_at = i.rows_are ∙ ap rows_in at

      pub program_at : program_in rows words ≡ requested (bound_in g) (files_in g)
      program_at = program_is words name rows i ∙ ap (λ (x : Given). requested (bound_in x) (files_in x)) at

      pub invoked_at : invocation_of (bounded (bound_in g) (first_in g ++ files_in g))
          ≡ requested (bound_in g) (first_in g ++ files_in g)
      invoked_at =
          invoked (bound_in g) (first_in g ++ files_in g) (ap (λ (x : Given). are_plain_in x) (sym at) ∙ i.plain)

      -- what another spelling of the words behind asks for
      pub asked_by : (behind : List Text) → all ≡ name_in g ∷ behind
          → invocation_of behind ≡ requested (bound_in g) (first_in g ++ files_in g)
      asked_by behind is =
          ap invocation_of (behind_is all behind (bounded (bound_in g) (first_in g ++ files_in g)) (name_in g) is
          words_at)
          ∙ invoked_at

    -- ---- `run`

    pub run_found : name ≡ codes "run" → (ask : Invocation) → program_in rows words ≡ Some ask → AreFileWords
        ask.names
        → IsInvocation all (run ask)
    run_found is ask program files_named = by i.given refl where
      by : (g : Given) → i.given ≡ g → IsInvocation all (run ask)
      by (run_given bound files) at =
          let g = run_given bound files in
          record {
            behind = bounded bound files;
            words_are = words_at g at;
            follows = record { invocation = invoked_at g at ∙ sym (program_at g at) ∙ program; files = files_named };
          }
      by (talk_given x0 x1 x2) at = absurd (omega (arith, differs (codes "run") (talk_given x0 x1 x2) at is))
      by (tape_given x0 x1 x2) at = absurd (omega (arith, differs (codes "run") (tape_given x0 x1 x2) at is))
      by (audit_given x0 x1 x2) at = absurd (omega (arith, differs (codes "run") (audit_given x0 x1 x2) at is))
      by (dap_given x0 x1) at = absurd (omega (arith, differs (codes "run") (dap_given x0 x1) at is))
      by (engine_given x0 x1 x2 x3 x4) at =
          absurd (omega (arith, differs (codes "run") (engine_given x0 x1 x2 x3 x4) at is))
      by (async_given x0 x1 x2 x3 x4) at =
          absurd (omega (arith, differs (codes "run") (async_given x0 x1 x2 x3 x4) at is))
      by (ide_given x0 x1) at = absurd (omega (arith, differs (codes "run") (ide_given x0 x1) at is))
      by (replay_given x0 x1 x2) at = absurd (omega (arith, differs (codes "run") (replay_given x0 x1 x2) at is))
      by (soak_given x0 x1) at = absurd (omega (arith, differs (codes "run") (soak_given x0 x1) at is))
      by (proxy_given x0 x1 x2 x3) at =
          absurd (omega (arith, differs (codes "run") (proxy_given x0 x1 x2 x3) at is))
      by show_given at = absurd (omega (arith, differs (codes "run") show_given at is))

    pub run_none : name ≡ codes "run"
        → ((ask : Invocation) → program_in rows words ≡ Some ask → AreFileWords ask.names → ⊥)
        → (task : Task) → IsInvocation all task → ⊥
    run_none is none = by i.given refl where
      by : (g : Given) → i.given ≡ g → (task : Task) → IsInvocation all task → ⊥
      by (run_given bound files) at = by_task where
        g : Given
        g = run_given bound files

        by_task : (task : Task) → IsInvocation all task → ⊥
        by_task (run ask) asks =
            none ask (program_at g at ∙ sym (asked_by g at asks.behind asks.words_are) ∙ asks.follows.invocation)
            asks.follows.files
        by_task (talk k asking) asks = omega (arith, clashes (codes "run") (talk k asking) is asks)
        by_task (tape k asking) asks = omega (arith, clashes (codes "run") (tape k asking) is asks)
        by_task (audit k asking) asks = omega (arith, clashes (codes "run") (audit k asking) is asks)
        by_task (dap asking) asks = omega (arith, clashes (codes "run") (dap asking) is asks)
        by_task (engine a k asking) asks = omega (arith, clashes (codes "run") (engine a k asking) is asks)
        by_task (async a k asking) asks = omega (arith, clashes (codes "run") (async a k asking) is asks)
        by_task (ide n s) asks = omega (arith, clashes (codes "run") (ide n s) is asks)
        by_task (replay e asking) asks = omega (arith, clashes (codes "run") (replay e asking) is asks)
        by_task (soak n d) asks = omega (arith, clashes (codes "run") (soak n d) is asks)
        by_task (proxy service) asks = omega (arith, clashes (codes "run") (proxy service) is asks)
        by_task show asks = omega (arith, clashes (codes "run") show is asks)
      by (talk_given x0 x1 x2) at = absurd (omega (arith, differs (codes "run") (talk_given x0 x1 x2) at is))
      by (tape_given x0 x1 x2) at = absurd (omega (arith, differs (codes "run") (tape_given x0 x1 x2) at is))
      by (audit_given x0 x1 x2) at = absurd (omega (arith, differs (codes "run") (audit_given x0 x1 x2) at is))
      by (dap_given x0 x1) at = absurd (omega (arith, differs (codes "run") (dap_given x0 x1) at is))
      by (engine_given x0 x1 x2 x3 x4) at =
          absurd (omega (arith, differs (codes "run") (engine_given x0 x1 x2 x3 x4) at is))
      by (async_given x0 x1 x2 x3 x4) at =
          absurd (omega (arith, differs (codes "run") (async_given x0 x1 x2 x3 x4) at is))
      by (ide_given x0 x1) at = absurd (omega (arith, differs (codes "run") (ide_given x0 x1) at is))
      by (replay_given x0 x1 x2) at = absurd (omega (arith, differs (codes "run") (replay_given x0 x1 x2) at is))
      by (soak_given x0 x1) at = absurd (omega (arith, differs (codes "run") (soak_given x0 x1) at is))
      by (proxy_given x0 x1 x2 x3) at =
          absurd (omega (arith, differs (codes "run") (proxy_given x0 x1 x2 x3) at is))
      by show_given at = absurd (omega (arith, differs (codes "run") show_given at is))

    -- ---- `dap`

    pub dap_found : name ≡ codes "dap" → (ask : Invocation) → program_in rows words ≡ Some ask → AreFileWords
        ask.names
        → IsInvocation all (dap ask)
    dap_found is ask program files_named = by i.given refl where
      by : (g : Given) → i.given ≡ g → IsInvocation all (dap ask)
      by (dap_given bound files) at =
          let g = dap_given bound files in
          record {
            behind = bounded bound files;
            words_are = words_at g at;
            follows = record { invocation = invoked_at g at ∙ sym (program_at g at) ∙ program; files = files_named };
          }
      by (talk_given x0 x1 x2) at = absurd (omega (arith, differs (codes "dap") (talk_given x0 x1 x2) at is))
      by (tape_given x0 x1 x2) at = absurd (omega (arith, differs (codes "dap") (tape_given x0 x1 x2) at is))
      by (audit_given x0 x1 x2) at = absurd (omega (arith, differs (codes "dap") (audit_given x0 x1 x2) at is))
      by (run_given x0 x1) at = absurd (omega (arith, differs (codes "dap") (run_given x0 x1) at is))
      by (engine_given x0 x1 x2 x3 x4) at =
          absurd (omega (arith, differs (codes "dap") (engine_given x0 x1 x2 x3 x4) at is))
      by (async_given x0 x1 x2 x3 x4) at =
          absurd (omega (arith, differs (codes "dap") (async_given x0 x1 x2 x3 x4) at is))
      by (ide_given x0 x1) at = absurd (omega (arith, differs (codes "dap") (ide_given x0 x1) at is))
      by (replay_given x0 x1 x2) at = absurd (omega (arith, differs (codes "dap") (replay_given x0 x1 x2) at is))
      by (soak_given x0 x1) at = absurd (omega (arith, differs (codes "dap") (soak_given x0 x1) at is))
      by (proxy_given x0 x1 x2 x3) at =
          absurd (omega (arith, differs (codes "dap") (proxy_given x0 x1 x2 x3) at is))
      by show_given at = absurd (omega (arith, differs (codes "dap") show_given at is))

    pub dap_none : name ≡ codes "dap"
        → ((ask : Invocation) → program_in rows words ≡ Some ask → AreFileWords ask.names → ⊥)
        → (task : Task) → IsInvocation all task → ⊥
    dap_none is none = by i.given refl where
      by : (g : Given) → i.given ≡ g → (task : Task) → IsInvocation all task → ⊥
      by (dap_given bound files) at = by_task where
        g : Given
        g = dap_given bound files

        by_task : (task : Task) → IsInvocation all task → ⊥
        by_task (dap ask) asks =
            none ask (program_at g at ∙ sym (asked_by g at asks.behind asks.words_are) ∙ asks.follows.invocation)
            asks.follows.files
        by_task (talk k asking) asks = omega (arith, clashes (codes "dap") (talk k asking) is asks)
        by_task (tape k asking) asks = omega (arith, clashes (codes "dap") (tape k asking) is asks)
        by_task (audit k asking) asks = omega (arith, clashes (codes "dap") (audit k asking) is asks)
        by_task (run asking) asks = omega (arith, clashes (codes "dap") (run asking) is asks)
        by_task (engine a k asking) asks = omega (arith, clashes (codes "dap") (engine a k asking) is asks)
        by_task (async a k asking) asks = omega (arith, clashes (codes "dap") (async a k asking) is asks)
        by_task (ide n s) asks = omega (arith, clashes (codes "dap") (ide n s) is asks)
        by_task (replay e asking) asks = omega (arith, clashes (codes "dap") (replay e asking) is asks)
        by_task (soak n d) asks = omega (arith, clashes (codes "dap") (soak n d) is asks)
        by_task (proxy service) asks = omega (arith, clashes (codes "dap") (proxy service) is asks)
        by_task show asks = omega (arith, clashes (codes "dap") show is asks)
      by (talk_given x0 x1 x2) at = absurd (omega (arith, differs (codes "dap") (talk_given x0 x1 x2) at is))
      by (tape_given x0 x1 x2) at = absurd (omega (arith, differs (codes "dap") (tape_given x0 x1 x2) at is))
      by (audit_given x0 x1 x2) at = absurd (omega (arith, differs (codes "dap") (audit_given x0 x1 x2) at is))
      by (run_given x0 x1) at = absurd (omega (arith, differs (codes "dap") (run_given x0 x1) at is))
      by (engine_given x0 x1 x2 x3 x4) at =
          absurd (omega (arith, differs (codes "dap") (engine_given x0 x1 x2 x3 x4) at is))
      by (async_given x0 x1 x2 x3 x4) at =
          absurd (omega (arith, differs (codes "dap") (async_given x0 x1 x2 x3 x4) at is))
      by (ide_given x0 x1) at = absurd (omega (arith, differs (codes "dap") (ide_given x0 x1) at is))
      by (replay_given x0 x1 x2) at = absurd (omega (arith, differs (codes "dap") (replay_given x0 x1 x2) at is))
      by (soak_given x0 x1) at = absurd (omega (arith, differs (codes "dap") (soak_given x0 x1) at is))
      by (proxy_given x0 x1 x2 x3) at =
          absurd (omega (arith, differs (codes "dap") (proxy_given x0 x1 x2 x3) at is))
      by show_given at = absurd (omega (arith, differs (codes "dap") show_given at is))

    -- ---- `ide`

    pub ide_found : name ≡ codes "ide" → (port : ℕ) (script : Text)
        → option_and_then port_of (first_of (codes "PORT") rows) ≡ Some port
        → first_of (codes "SCRIPT") rows ≡ Some script → IsFileWord script → IsInvocation all (ide port script)
    ide_found is port script port_is script_is scripted = by i.given refl where
      by : (g : Given) → i.given ≡ g → IsInvocation all (ide port script)
      by (ide_given p s) at =
          let g = ide_given p s in
          let same : s ≡ script = the_same s script (ap (first_of (codes "SCRIPT")) (sym (rows_at g at)) ∙
          script_is) in
          let ported : port_of p ≡ Some port =
          sym (ap (λ (o : Option Text). option_and_then port_of o) (ap (first_of (codes "PORT")) (rows_at g at)))
          ∙ port_is in
          subst (λ (x : Text). IsInvocation all (ide port x)) same
          (record {
            number = p;
            words_are = words_at g at;
            is_port = ported;
            is_script = subst IsFileWord (sym same) scripted;
          })
      by (run_given x0 x1) at = absurd (omega (arith, differs (codes "ide") (run_given x0 x1) at is))
      by (talk_given x0 x1 x2) at = absurd (omega (arith, differs (codes "ide") (talk_given x0 x1 x2) at is))
      by (tape_given x0 x1 x2) at = absurd (omega (arith, differs (codes "ide") (tape_given x0 x1 x2) at is))
      by (audit_given x0 x1 x2) at = absurd (omega (arith, differs (codes "ide") (audit_given x0 x1 x2) at is))
      by (dap_given x0 x1) at = absurd (omega (arith, differs (codes "ide") (dap_given x0 x1) at is))
      by (engine_given x0 x1 x2 x3 x4) at =
          absurd (omega (arith, differs (codes "ide") (engine_given x0 x1 x2 x3 x4) at is))
      by (async_given x0 x1 x2 x3 x4) at =
          absurd (omega (arith, differs (codes "ide") (async_given x0 x1 x2 x3 x4) at is))
      by (replay_given x0 x1 x2) at = absurd (omega (arith, differs (codes "ide") (replay_given x0 x1 x2) at is))
      by (soak_given x0 x1) at = absurd (omega (arith, differs (codes "ide") (soak_given x0 x1) at is))
      by (proxy_given x0 x1 x2 x3) at =
          absurd (omega (arith, differs (codes "ide") (proxy_given x0 x1 x2 x3) at is))
      by show_given at = absurd (omega (arith, differs (codes "ide") show_given at is))

    pub ide_none : name ≡ codes "ide"
        → ((number script : Text) (port : ℕ) → first_of (codes "PORT") rows ≡ Some number
        → first_of (codes "SCRIPT") rows ≡ Some script → port_of number ≡ Some port → IsFileWord script → ⊥)
        → (task : Task) → IsInvocation all task → ⊥
    ide_none is none = by i.given refl where
      by : (g : Given) → i.given ≡ g → (task : Task) → IsInvocation all task → ⊥
      by (ide_given p s) at = by_task where
        g : Given
        g = ide_given p s

        by_task : (task : Task) → IsInvocation all task → ⊥
        by_task (ide port script) asks =
            let same = behind_is all (p ∷ s ∷ []) (asks.number ∷ script ∷ []) (codes "ide") (words_at g at)
            asks.words_are
            in
            let same_port : p ≡ asks.number = ap (λ (l : List Text). get_or l 0 []) same in
            let same_script : s ≡ script = ap (λ (l : List Text). get_or l 1 []) same in
            none p s port (ap (first_of (codes "PORT")) (rows_at g at)) (ap (first_of (codes "SCRIPT")) (rows_at g
            at))
            (ap port_of same_port ∙ asks.is_port) (subst IsFileWord (sym same_script) asks.is_script)
        by_task (run asking) asks = omega (arith, clashes (codes "ide") (run asking) is asks)
        by_task (talk k asking) asks = omega (arith, clashes (codes "ide") (talk k asking) is asks)
        by_task (tape k asking) asks = omega (arith, clashes (codes "ide") (tape k asking) is asks)
        by_task (audit k asking) asks = omega (arith, clashes (codes "ide") (audit k asking) is asks)
        by_task (dap asking) asks = omega (arith, clashes (codes "ide") (dap asking) is asks)
        by_task (engine a k asking) asks = omega (arith, clashes (codes "ide") (engine a k asking) is asks)
        by_task (async a k asking) asks = omega (arith, clashes (codes "ide") (async a k asking) is asks)
        by_task (replay e asking) asks = omega (arith, clashes (codes "ide") (replay e asking) is asks)
        by_task (soak n d) asks = omega (arith, clashes (codes "ide") (soak n d) is asks)
        by_task (proxy service) asks = omega (arith, clashes (codes "ide") (proxy service) is asks)
        by_task show asks = omega (arith, clashes (codes "ide") show is asks)
      by (run_given x0 x1) at = absurd (omega (arith, differs (codes "ide") (run_given x0 x1) at is))
      by (talk_given x0 x1 x2) at = absurd (omega (arith, differs (codes "ide") (talk_given x0 x1 x2) at is))
      by (tape_given x0 x1 x2) at = absurd (omega (arith, differs (codes "ide") (tape_given x0 x1 x2) at is))
      by (audit_given x0 x1 x2) at = absurd (omega (arith, differs (codes "ide") (audit_given x0 x1 x2) at is))
      by (dap_given x0 x1) at = absurd (omega (arith, differs (codes "ide") (dap_given x0 x1) at is))
      by (engine_given x0 x1 x2 x3 x4) at =
          absurd (omega (arith, differs (codes "ide") (engine_given x0 x1 x2 x3 x4) at is))
      by (async_given x0 x1 x2 x3 x4) at =
          absurd (omega (arith, differs (codes "ide") (async_given x0 x1 x2 x3 x4) at is))
      by (replay_given x0 x1 x2) at = absurd (omega (arith, differs (codes "ide") (replay_given x0 x1 x2) at is))
      by (soak_given x0 x1) at = absurd (omega (arith, differs (codes "ide") (soak_given x0 x1) at is))
      by (proxy_given x0 x1 x2 x3) at =
          absurd (omega (arith, differs (codes "ide") (proxy_given x0 x1 x2 x3) at is))
      by show_given at = absurd (omega (arith, differs (codes "ide") show_given at is))

    -- ---- `replay`

    pub replay_found : name ≡ codes "replay" → (events : Text) (ask : Invocation)
        → first_of (codes "EVENTS") rows ≡ Some events
        → program_in rows words ≡ Some ask → IsFileWord events → AreFileWords ask.names
        → IsInvocation all (replay events ask)
    replay_found is events ask events_are program listed files_named = by i.given refl where
      by : (g : Given) → i.given ≡ g → IsInvocation all (replay events ask)
      by (replay_given bound e files) at =
          let g = replay_given bound e files in
          let same : e ≡ events = the_same e events
          (sym (events_of_replay bound e files) ∙ ap (first_of (codes "EVENTS")) (sym (rows_at g at)) ∙ events_are) in
          subst (λ (x : Text). IsInvocation all (replay x ask)) same
          (record {
            behind = bounded bound (e ∷ files);
            words_are = words_at g at;
            replays = record {
              invocation = invoked_at g at ∙ longer bound e files ask (sym (program_at g at) ∙ program);
              is_events = subst IsFileWord (sym same) listed;
              files = files_named;
            };
          })
      by (run_given x0 x1) at = absurd (omega (arith, differs (codes "replay") (run_given x0 x1) at is))
      by (talk_given x0 x1 x2) at = absurd (omega (arith, differs (codes "replay") (talk_given x0 x1 x2) at is))
      by (tape_given x0 x1 x2) at = absurd (omega (arith, differs (codes "replay") (tape_given x0 x1 x2) at is))
      by (audit_given x0 x1 x2) at = absurd (omega (arith, differs (codes "replay") (audit_given x0 x1 x2) at is))
      by (dap_given x0 x1) at = absurd (omega (arith, differs (codes "replay") (dap_given x0 x1) at is))
      by (engine_given x0 x1 x2 x3 x4) at =
          absurd (omega (arith, differs (codes "replay") (engine_given x0 x1 x2 x3 x4) at is))
      by (async_given x0 x1 x2 x3 x4) at =
          absurd (omega (arith, differs (codes "replay") (async_given x0 x1 x2 x3 x4) at is))
      by (ide_given x0 x1) at = absurd (omega (arith, differs (codes "replay") (ide_given x0 x1) at is))
      by (soak_given x0 x1) at = absurd (omega (arith, differs (codes "replay") (soak_given x0 x1) at is))
      by (proxy_given x0 x1 x2 x3) at =
          absurd (omega (arith, differs (codes "replay") (proxy_given x0 x1 x2 x3) at is))
      by show_given at = absurd (omega (arith, differs (codes "replay") show_given at is))

    pub replay_none : name ≡ codes "replay"
        → ((events : Text) (ask : Invocation) → first_of (codes "EVENTS") rows ≡ Some events
        → program_in rows words ≡ Some ask → IsFileWord events → AreFileWords ask.names → ⊥)
        → (task : Task) → IsInvocation all task → ⊥
    replay_none is none = by i.given refl where
      by : (g : Given) → i.given ≡ g → (task : Task) → IsInvocation all task → ⊥
      by (replay_given bound e files) at = by_task where
        g : Given
        g = replay_given bound e files

        by_task : (task : Task) → IsInvocation all task → ⊥
        by_task (replay events ask) asks =
            let r = asks.replays in
            let one = shorter bound e events files ask
            (sym (asked_by g at asks.behind asks.words_are) ∙ r.invocation) in
            none e ask (ap (first_of (codes "EVENTS")) (rows_at g at) ∙ events_of_replay bound e files)
            (program_at g at ∙ one.1) (subst IsFileWord (sym one.0) r.is_events) r.files
        by_task (run asking) asks = omega (arith, clashes (codes "replay") (run asking) is asks)
        by_task (talk k asking) asks = omega (arith, clashes (codes "replay") (talk k asking) is asks)
        by_task (tape k asking) asks = omega (arith, clashes (codes "replay") (tape k asking) is asks)
        by_task (audit k asking) asks = omega (arith, clashes (codes "replay") (audit k asking) is asks)
        by_task (dap asking) asks = omega (arith, clashes (codes "replay") (dap asking) is asks)
        by_task (engine a k asking) asks = omega (arith, clashes (codes "replay") (engine a k asking) is asks)
        by_task (async a k asking) asks = omega (arith, clashes (codes "replay") (async a k asking) is asks)
        by_task (ide n s) asks = omega (arith, clashes (codes "replay") (ide n s) is asks)
        by_task (soak n d) asks = omega (arith, clashes (codes "replay") (soak n d) is asks)
        by_task (proxy service) asks = omega (arith, clashes (codes "replay") (proxy service) is asks)
        by_task show asks = omega (arith, clashes (codes "replay") show is asks)
      by (run_given x0 x1) at = absurd (omega (arith, differs (codes "replay") (run_given x0 x1) at is))
      by (talk_given x0 x1 x2) at = absurd (omega (arith, differs (codes "replay") (talk_given x0 x1 x2) at is))
      by (tape_given x0 x1 x2) at = absurd (omega (arith, differs (codes "replay") (tape_given x0 x1 x2) at is))
      by (audit_given x0 x1 x2) at = absurd (omega (arith, differs (codes "replay") (audit_given x0 x1 x2) at is))
      by (dap_given x0 x1) at = absurd (omega (arith, differs (codes "replay") (dap_given x0 x1) at is))
      by (engine_given x0 x1 x2 x3 x4) at =
          absurd (omega (arith, differs (codes "replay") (engine_given x0 x1 x2 x3 x4) at is))
      by (async_given x0 x1 x2 x3 x4) at =
          absurd (omega (arith, differs (codes "replay") (async_given x0 x1 x2 x3 x4) at is))
      by (ide_given x0 x1) at = absurd (omega (arith, differs (codes "replay") (ide_given x0 x1) at is))
      by (soak_given x0 x1) at = absurd (omega (arith, differs (codes "replay") (soak_given x0 x1) at is))
      by (proxy_given x0 x1 x2 x3) at =
          absurd (omega (arith, differs (codes "replay") (proxy_given x0 x1 x2 x3) at is))
      by show_given at = absurd (omega (arith, differs (codes "replay") show_given at is))

    -- ---- `soak`

    pub soak_found : name ≡ codes "soak" → (count seed : ℕ)
        → option_and_then session_count_of (first_of (codes "N") rows) ≡ Some count
        → option_and_then (decimal_in seed_limit) (first_of (codes "SEED") rows) ≡ Some seed
        → IsInvocation all (soak count seed)
    soak_found is count seed count_is seed_is = by i.given refl where
      by : (g : Given) → i.given ≡ g → IsInvocation all (soak count seed)
      by (soak_given n d) at =
          let g = soak_given n d in
          record {
            number = n;
            drawn = d;
            words_are = words_at g at;
            is_count = sym (ap (λ (o : Option Text). option_and_then session_count_of o)
                (ap (first_of (codes "N")) (rows_at g at))) ∙ count_is;
            is_seed = sym (ap (λ (o : Option Text). option_and_then (decimal_in seed_limit) o)
                (ap (first_of (codes "SEED")) (rows_at g at))) ∙ seed_is;
          }
      by (run_given x0 x1) at = absurd (omega (arith, differs (codes "soak") (run_given x0 x1) at is))
      by (talk_given x0 x1 x2) at = absurd (omega (arith, differs (codes "soak") (talk_given x0 x1 x2) at is))
      by (tape_given x0 x1 x2) at = absurd (omega (arith, differs (codes "soak") (tape_given x0 x1 x2) at is))
      by (audit_given x0 x1 x2) at = absurd (omega (arith, differs (codes "soak") (audit_given x0 x1 x2) at is))
      by (dap_given x0 x1) at = absurd (omega (arith, differs (codes "soak") (dap_given x0 x1) at is))
      by (engine_given x0 x1 x2 x3 x4) at =
          absurd (omega (arith, differs (codes "soak") (engine_given x0 x1 x2 x3 x4) at is))
      by (async_given x0 x1 x2 x3 x4) at =
          absurd (omega (arith, differs (codes "soak") (async_given x0 x1 x2 x3 x4) at is))
      by (ide_given x0 x1) at = absurd (omega (arith, differs (codes "soak") (ide_given x0 x1) at is))
      by (replay_given x0 x1 x2) at = absurd (omega (arith, differs (codes "soak") (replay_given x0 x1 x2) at is))
      by (proxy_given x0 x1 x2 x3) at =
          absurd (omega (arith, differs (codes "soak") (proxy_given x0 x1 x2 x3) at is))
      by show_given at = absurd (omega (arith, differs (codes "soak") show_given at is))

    pub soak_none : name ≡ codes "soak"
        → ((number drawn : Text) (count seed : ℕ) → first_of (codes "N") rows ≡ Some number
        → first_of (codes "SEED") rows ≡ Some drawn → session_count_of number ≡ Some count
        → decimal_in seed_limit drawn ≡ Some seed → ⊥)
        → (task : Task) → IsInvocation all task → ⊥
    soak_none is none = by i.given refl where
      by : (g : Given) → i.given ≡ g → (task : Task) → IsInvocation all task → ⊥
      by (soak_given n d) at = by_task where
        g : Given
        g = soak_given n d

        by_task : (task : Task) → IsInvocation all task → ⊥
        by_task (soak count seed) asks =
            let same = behind_is all (n ∷ d ∷ []) (asks.number ∷ asks.drawn ∷ []) (codes "soak") (words_at g at)
            asks.words_are
            in
            none n d count seed (ap (first_of (codes "N")) (rows_at g at)) (ap (first_of (codes "SEED")) (rows_at g
            at))
            (ap (λ (l : List Text). session_count_of (get_or l 0 [])) same ∙ asks.is_count)
            (ap (λ (l : List Text). decimal_in seed_limit (get_or l 1 [])) same ∙ asks.is_seed)
        by_task (run asking) asks = omega (arith, clashes (codes "soak") (run asking) is asks)
        by_task (talk k asking) asks = omega (arith, clashes (codes "soak") (talk k asking) is asks)
        by_task (tape k asking) asks = omega (arith, clashes (codes "soak") (tape k asking) is asks)
        by_task (audit k asking) asks = omega (arith, clashes (codes "soak") (audit k asking) is asks)
        by_task (dap asking) asks = omega (arith, clashes (codes "soak") (dap asking) is asks)
        by_task (engine a k asking) asks = omega (arith, clashes (codes "soak") (engine a k asking) is asks)
        by_task (async a k asking) asks = omega (arith, clashes (codes "soak") (async a k asking) is asks)
        by_task (ide n s) asks = omega (arith, clashes (codes "soak") (ide n s) is asks)
        by_task (replay e asking) asks = omega (arith, clashes (codes "soak") (replay e asking) is asks)
        by_task (proxy service) asks = omega (arith, clashes (codes "soak") (proxy service) is asks)
        by_task show asks = omega (arith, clashes (codes "soak") show is asks)
      by (run_given x0 x1) at = absurd (omega (arith, differs (codes "soak") (run_given x0 x1) at is))
      by (talk_given x0 x1 x2) at = absurd (omega (arith, differs (codes "soak") (talk_given x0 x1 x2) at is))
      by (tape_given x0 x1 x2) at = absurd (omega (arith, differs (codes "soak") (tape_given x0 x1 x2) at is))
      by (audit_given x0 x1 x2) at = absurd (omega (arith, differs (codes "soak") (audit_given x0 x1 x2) at is))
      by (dap_given x0 x1) at = absurd (omega (arith, differs (codes "soak") (dap_given x0 x1) at is))
      by (engine_given x0 x1 x2 x3 x4) at =
          absurd (omega (arith, differs (codes "soak") (engine_given x0 x1 x2 x3 x4) at is))
      by (async_given x0 x1 x2 x3 x4) at =
          absurd (omega (arith, differs (codes "soak") (async_given x0 x1 x2 x3 x4) at is))
      by (ide_given x0 x1) at = absurd (omega (arith, differs (codes "soak") (ide_given x0 x1) at is))
      by (replay_given x0 x1 x2) at = absurd (omega (arith, differs (codes "soak") (replay_given x0 x1 x2) at is))
      by (proxy_given x0 x1 x2 x3) at =
          absurd (omega (arith, differs (codes "soak") (proxy_given x0 x1 x2 x3) at is))
      by show_given at = absurd (omega (arith, differs (codes "soak") show_given at is))

    -- ---- `proxy`

    pub proxy_found : name ≡ codes "proxy" → (service : Service)
        → option_and_then port_of (first_of (codes "IDEPORT") rows) ≡ Some service.ides
        → option_and_then port_of (first_of (codes "ENGINEPORT") rows) ≡ Some service.engines
        → option_and_then served_count_of (first_of (codes "REGISTRATIONS") rows) ≡ Some service.registrations
        → option_and_then served_count_of (first_of (codes "SESSIONS") rows) ≡ Some service.sessions
        → IsInvocation all (proxy service)
    proxy_found is service ides_is engines_is registrations_is sessions_is = by i.given refl where
      by : (g : Given) → i.given ≡ g → IsInvocation all (proxy service)
      by (proxy_given a b c d) at =
          let g = proxy_given a b c d in
          record {
            ides = a;
            engines = b;
            registrations = c;
            sessions = d;
            words_are = words_at g at;
            is_ides = sym (ap (λ (o : Option Text). option_and_then port_of o)
                (ap (first_of (codes "IDEPORT")) (rows_at g at))) ∙ ides_is;
            is_engines = sym (ap (λ (o : Option Text). option_and_then port_of o)
                (ap (first_of (codes "ENGINEPORT")) (rows_at g at))) ∙ engines_is;
            is_registrations = sym (ap (λ (o : Option Text). option_and_then served_count_of o)
                (ap (first_of (codes "REGISTRATIONS")) (rows_at g at))) ∙ registrations_is;
            is_sessions = sym (ap (λ (o : Option Text). option_and_then served_count_of o)
                (ap (first_of (codes "SESSIONS")) (rows_at g at))) ∙ sessions_is;
          }
      by (run_given x0 x1) at = absurd (omega (arith, differs (codes "proxy") (run_given x0 x1) at is))
      by (talk_given x0 x1 x2) at = absurd (omega (arith, differs (codes "proxy") (talk_given x0 x1 x2) at is))
      by (tape_given x0 x1 x2) at = absurd (omega (arith, differs (codes "proxy") (tape_given x0 x1 x2) at is))
      by (audit_given x0 x1 x2) at = absurd (omega (arith, differs (codes "proxy") (audit_given x0 x1 x2) at is))
      by (dap_given x0 x1) at = absurd (omega (arith, differs (codes "proxy") (dap_given x0 x1) at is))
      by (engine_given x0 x1 x2 x3 x4) at =
          absurd (omega (arith, differs (codes "proxy") (engine_given x0 x1 x2 x3 x4) at is))
      by (async_given x0 x1 x2 x3 x4) at =
          absurd (omega (arith, differs (codes "proxy") (async_given x0 x1 x2 x3 x4) at is))
      by (ide_given x0 x1) at = absurd (omega (arith, differs (codes "proxy") (ide_given x0 x1) at is))
      by (replay_given x0 x1 x2) at = absurd (omega (arith, differs (codes "proxy") (replay_given x0 x1 x2) at is))
      by (soak_given x0 x1) at = absurd (omega (arith, differs (codes "proxy") (soak_given x0 x1) at is))
      by show_given at = absurd (omega (arith, differs (codes "proxy") show_given at is))

    pub proxy_none : name ≡ codes "proxy"
        → ((ides engines registrations sessions : Text) (a b c d : ℕ) → first_of (codes "IDEPORT") rows ≡ Some ides
        → first_of (codes "ENGINEPORT") rows ≡ Some engines
        → first_of (codes "REGISTRATIONS") rows ≡ Some registrations
        → first_of (codes "SESSIONS") rows ≡ Some sessions
        → port_of ides ≡ Some a → port_of engines ≡ Some b
        → served_count_of registrations ≡ Some c → served_count_of sessions ≡ Some d → ⊥)
        → (task : Task) → IsInvocation all task → ⊥
    proxy_none is none = by i.given refl where
      by : (g : Given) → i.given ≡ g → (task : Task) → IsInvocation all task → ⊥
      by (proxy_given a b c d) at = by_task where
        g : Given
        g = proxy_given a b c d

        by_task : (task : Task) → IsInvocation all task → ⊥
        by_task (proxy service) asks =
            let same = behind_is all (a ∷ b ∷ c ∷ d ∷ [])
            (asks.ides ∷ asks.engines ∷ asks.registrations ∷ asks.sessions ∷ []) (codes "proxy") (words_at g at)
            asks.words_are
            in
            none a b c d service.ides service.engines service.registrations service.sessions
            (ap (first_of (codes "IDEPORT")) (rows_at g at)) (ap (first_of (codes "ENGINEPORT")) (rows_at g at))
            (ap (first_of (codes "REGISTRATIONS")) (rows_at g at)) (ap (first_of (codes "SESSIONS")) (rows_at g at))
            (ap (λ (l : List Text). port_of (get_or l 0 [])) same ∙ asks.is_ides)
            (ap (λ (l : List Text). port_of (get_or l 1 [])) same ∙ asks.is_engines)
            (ap (λ (l : List Text). served_count_of (get_or l 2 [])) same ∙ asks.is_registrations)
            (ap (λ (l : List Text). served_count_of (get_or l 3 [])) same ∙ asks.is_sessions)
        by_task (run asking) asks = omega (arith, clashes (codes "proxy") (run asking) is asks)
        by_task (talk k asking) asks = omega (arith, clashes (codes "proxy") (talk k asking) is asks)
        by_task (tape k asking) asks = omega (arith, clashes (codes "proxy") (tape k asking) is asks)
        by_task (audit k asking) asks = omega (arith, clashes (codes "proxy") (audit k asking) is asks)
        by_task (dap asking) asks = omega (arith, clashes (codes "proxy") (dap asking) is asks)
        by_task (engine a k asking) asks = omega (arith, clashes (codes "proxy") (engine a k asking) is asks)
        by_task (async a k asking) asks = omega (arith, clashes (codes "proxy") (async a k asking) is asks)
        by_task (ide n s) asks = omega (arith, clashes (codes "proxy") (ide n s) is asks)
        by_task (replay e asking) asks = omega (arith, clashes (codes "proxy") (replay e asking) is asks)
        by_task (soak n d) asks = omega (arith, clashes (codes "proxy") (soak n d) is asks)
        by_task show asks = omega (arith, clashes (codes "proxy") show is asks)
      by (run_given x0 x1) at = absurd (omega (arith, differs (codes "proxy") (run_given x0 x1) at is))
      by (talk_given x0 x1 x2) at = absurd (omega (arith, differs (codes "proxy") (talk_given x0 x1 x2) at is))
      by (tape_given x0 x1 x2) at = absurd (omega (arith, differs (codes "proxy") (tape_given x0 x1 x2) at is))
      by (audit_given x0 x1 x2) at = absurd (omega (arith, differs (codes "proxy") (audit_given x0 x1 x2) at is))
      by (dap_given x0 x1) at = absurd (omega (arith, differs (codes "proxy") (dap_given x0 x1) at is))
      by (engine_given x0 x1 x2 x3 x4) at =
          absurd (omega (arith, differs (codes "proxy") (engine_given x0 x1 x2 x3 x4) at is))
      by (async_given x0 x1 x2 x3 x4) at =
          absurd (omega (arith, differs (codes "proxy") (async_given x0 x1 x2 x3 x4) at is))
      by (ide_given x0 x1) at = absurd (omega (arith, differs (codes "proxy") (ide_given x0 x1) at is))
      by (replay_given x0 x1 x2) at = absurd (omega (arith, differs (codes "proxy") (replay_given x0 x1 x2) at is))
      by (soak_given x0 x1) at = absurd (omega (arith, differs (codes "proxy") (soak_given x0 x1) at is))
      by show_given at = absurd (omega (arith, differs (codes "proxy") show_given at is))

    -- ---- `show`: no other name is left

    pub show_found : (name ≡ codes "run" → ⊥) → (name ≡ codes "talk" → ⊥) → (name ≡ codes "tape" → ⊥)
        → (name ≡ codes "audit" → ⊥) → (name ≡ codes "dap" → ⊥) → (name ≡ codes "engine" → ⊥)
        → (name ≡ codes "async" → ⊥)
        → (name ≡ codes "ide" → ⊥) → (name ≡ codes "replay" → ⊥) → (name ≡ codes "soak" → ⊥)
        → (name ≡ codes "proxy" → ⊥) → IsInvocation all show
    show_found a b t u w c x d e f p = by i.given refl where
      by : (g : Given) → i.given ≡ g → IsInvocation all show
      by show_given at = words_at show_given at
      by (run_given bound files) at = absurd (a (i.name_is ∙ ap name_in at))
      by (talk_given bound key files) at = absurd (b (i.name_is ∙ ap name_in at))
      by (tape_given bound key files) at = absurd (t (i.name_is ∙ ap name_in at))
      by (audit_given bound key files) at = absurd (u (i.name_is ∙ ap name_in at))
      by (dap_given bound files) at = absurd (w (i.name_is ∙ ap name_in at))
      by (engine_given bound host port key files) at = absurd (c (i.name_is ∙ ap name_in at))
      by (async_given bound host port key files) at = absurd (x (i.name_is ∙ ap name_in at))
      by (ide_given port script) at = absurd (d (i.name_is ∙ ap name_in at))
      by (replay_given bound events files) at = absurd (e (i.name_is ∙ ap name_in at))
      by (soak_given count seed) at = absurd (f (i.name_is ∙ ap name_in at))
      by (proxy_given ides engines registrations sessions) at = absurd (p (i.name_is ∙ ap name_in at))

-- ---- the matches of the whole

module _ {Z : Type 0} where
  named_so : (x : Option (Box SubCommand Z)) (n : Text) (rows : List Row) → subcommand_rows x ≡ Some (n, rows)
      → option_map (λ b. (out-SubCommand (box_value b)).name.now) x ≡ Some n
  named_so None n rows e = absurd cc
  named_so (Some b) n rows e = ap (option_map (λ (p : Text × List Row). p.0)) e

abbrev rows_or : Option (List Row) → List Row
rows_or o = option_map_or (λ (rows : List Row). rows) o []

abbrev name_or : Option Text → Text
name_or o = option_map_or (λ (name : Text). name) o []

module _ (words : List Text) (matches : ArgMatches) (r : AreRows words matches) where
  named_in : subcommand_name_of matches ≡ Some (name_in r.given)
  named_in = named_so (out-ArgMatches matches).subcommand (name_in r.given) (rows_in r.given) r.rows

  pub given_of : (name : Text) (rows : List Row) → Some name ≡ subcommand_name_of matches
      → Some rows ≡ option_map (λ (p : Text × List Row). p.1) (subcommand_rows (out-ArgMatches matches).subcommand)
      → IsGiven words name rows
  given_of name rows name_is rows_are = record {
    given = r.given;
    words_are = r.words_are;
    plain = r.plain;
    name_is = ap name_or (name_is ∙ named_in);
    rows_are = ap rows_or (rows_are ∙ ap (option_map (λ (p : Text × List Row). p.1)) r.rows);
  }

  pub never_none : None ≡ subcommand_name_of matches → ⊥
  never_none none = let e : None ≡ Some (name_in r.given) = none ∙ named_in in absurd cc
