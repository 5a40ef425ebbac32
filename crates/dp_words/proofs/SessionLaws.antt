-- What the matches of `talk`, `tape` and `audit` hold says what is asked for.
use Rattle.std.proofs.Common.{◌≡◌, List, ◌∷◌, ◌++◌, map, Some, refl, sym, ap, ◌∙◌, subst, arith, codes, String, string_bytes, Global}
use Rattle.clap.specs.Walk.{Row, Text, first_of}
use Rattle.dp_words.specs.Words.{Invocation, IsInvocation, IsSession, Task, run, talk, tape, audit, dap, engine, async, ide, replay, soak, proxy, show, invocation_of}
use Rattle.dp_words.specs.inner.Given.{Given, engine_given, async_given, ide_given, proxy_given, replay_given, run_given, show_given, soak_given, talk_given, tape_given, audit_given, dap_given, requested, bound_in, bounded, files_in, first_in, name_in, rows_in, words_in}
use Rattle.dp_words.specs.inner.Rows.{IsGiven, program_in}
use Rattle.dp_words.proofs.CommandReadings.{name_of}
use Rattle.dp_words.proofs.GivenLaws as law
use Rattle.dp_words.proofs.GivenLaws.{letters, longer, shorter, the_same}
use Rattle.dp_words.proofs.RowLaws.{key_of_audit, key_of_talk, key_of_tape}

module _ (words : List (String Global)) (name : Text) (rows : List Row) (i : IsGiven (map string_bytes words) name
    rows)
  where
    abbrev all : List Text
    all = map string_bytes words

    differs : (known : Text) (g : Given) → i.given ≡ g → name ≡ known → letters known ≡ letters (name_in g)
    differs known g at is = law.differs words name rows i known g at is

    clashes : (known : Text) (task : Task) → name ≡ known
        → IsInvocation all task → letters known ≡ letters (name_of task)
    clashes known task is asks = law.clashes words name rows i known task is asks

    words_at : (g : Given) → i.given ≡ g → all ≡ words_in g
    words_at g at = law.words_at words name rows i g at

    rows_at : (g : Given) → i.given ≡ g → rows ≡ rows_in g
    rows_at g at = law.rows_at words name rows i g at

    program_at : (g : Given) → i.given ≡ g → program_in rows words ≡ requested (bound_in g) (files_in g)
    program_at g at = law.program_at words name rows i g at

    invoked_at : (g : Given) → i.given ≡ g → invocation_of (bounded (bound_in g) (first_in g ++ files_in g))
        ≡ requested (bound_in g) (first_in g ++ files_in g)
    invoked_at g at = law.invoked_at words name rows i g at

    asked_by : (g : Given) → i.given ≡ g → (behind : List Text) → all ≡ name_in g ∷ behind
        → invocation_of behind ≡ requested (bound_in g) (first_in g ++ files_in g)
    asked_by g at behind is = law.asked_by words name rows i g at behind is

    -- ---- `talk`

    pub talk_found : name ≡ codes "talk" → (key : Text) (ask : Invocation) → first_of (codes "KEY") rows ≡ Some key
        → program_in rows words ≡ Some ask → IsSession key ask → IsInvocation all (talk key ask)
    talk_found is key ask key_is program session = by i.given refl where
      by : (g : Given) → i.given ≡ g → IsInvocation all (talk key ask)
      by (talk_given bound k files) at =
          let g = talk_given bound k files in
          let same : k ≡ key = the_same k key
          (sym (key_of_talk bound k files) ∙ ap (first_of (codes "KEY")) (sym (rows_at g at)) ∙ key_is) in
          subst (λ (x : Text). IsInvocation all (talk x ask)) same
          (record {
            behind = bounded bound (k ∷ files);
            words_are = words_at g at;
            speaks = record {
              invocation = invoked_at g at ∙ longer bound k files ask (sym (program_at g at) ∙ program);
              session = subst (λ (x : Text). IsSession x ask) (sym same) session;
            };
          })
      by (run_given x0 x1) at = absurd (omega (arith, differs (codes "talk") (run_given x0 x1) at is))
      by (tape_given x0 x1 x2) at = absurd (omega (arith, differs (codes "talk") (tape_given x0 x1 x2) at is))
      by (audit_given x0 x1 x2) at = absurd (omega (arith, differs (codes "talk") (audit_given x0 x1 x2) at is))
      by (dap_given x0 x1) at = absurd (omega (arith, differs (codes "talk") (dap_given x0 x1) at is))
      by (engine_given x0 x1 x2 x3 x4) at =
          absurd (omega (arith, differs (codes "talk") (engine_given x0 x1 x2 x3 x4) at is))
      by (async_given x0 x1 x2 x3 x4) at =
          absurd (omega (arith, differs (codes "talk") (async_given x0 x1 x2 x3 x4) at is))
      by (ide_given x0 x1) at = absurd (omega (arith, differs (codes "talk") (ide_given x0 x1) at is))
      by (replay_given x0 x1 x2) at = absurd (omega (arith, differs (codes "talk") (replay_given x0 x1 x2) at is))
      by (soak_given x0 x1) at = absurd (omega (arith, differs (codes "talk") (soak_given x0 x1) at is))
      by (proxy_given x0 x1 x2 x3) at =
          absurd (omega (arith, differs (codes "talk") (proxy_given x0 x1 x2 x3) at is))
      by show_given at = absurd (omega (arith, differs (codes "talk") show_given at is))

    pub talk_none : name ≡ codes "talk"
        → ((key : Text) (ask : Invocation) → first_of (codes "KEY") rows ≡ Some key → program_in rows words ≡ Some ask
        → IsSession key ask → ⊥)
        → (task : Task) → IsInvocation all task → ⊥
    talk_none is none = by i.given refl where
      by : (g : Given) → i.given ≡ g → (task : Task) → IsInvocation all task → ⊥
      by (talk_given bound key files) at = by_task where
        g : Given
        g = talk_given bound key files

        by_task : (task : Task) → IsInvocation all task → ⊥
        by_task (talk k ask) asks =
            let one = shorter bound key k files ask
            (sym (asked_by g at asks.behind asks.words_are) ∙ asks.speaks.invocation) in
            none key ask (ap (first_of (codes "KEY")) (rows_at g at) ∙ key_of_talk bound key files)
            (program_at g at ∙ one.1) (subst (λ (x : Text). IsSession x ask) (sym one.0) asks.speaks.session)
        by_task (run asking) asks = omega (arith, clashes (codes "talk") (run asking) is asks)
        by_task (tape k asking) asks = omega (arith, clashes (codes "talk") (tape k asking) is asks)
        by_task (audit k asking) asks = omega (arith, clashes (codes "talk") (audit k asking) is asks)
        by_task (dap asking) asks = omega (arith, clashes (codes "talk") (dap asking) is asks)
        by_task (engine a k asking) asks = omega (arith, clashes (codes "talk") (engine a k asking) is asks)
        by_task (async a k asking) asks = omega (arith, clashes (codes "talk") (async a k asking) is asks)
        by_task (ide n s) asks = omega (arith, clashes (codes "talk") (ide n s) is asks)
        by_task (replay e asking) asks = omega (arith, clashes (codes "talk") (replay e asking) is asks)
        by_task (soak n d) asks = omega (arith, clashes (codes "talk") (soak n d) is asks)
        by_task (proxy service) asks = omega (arith, clashes (codes "talk") (proxy service) is asks)
        by_task show asks = omega (arith, clashes (codes "talk") show is asks)
      by (run_given x0 x1) at = absurd (omega (arith, differs (codes "talk") (run_given x0 x1) at is))
      by (tape_given x0 x1 x2) at = absurd (omega (arith, differs (codes "talk") (tape_given x0 x1 x2) at is))
      by (audit_given x0 x1 x2) at = absurd (omega (arith, differs (codes "talk") (audit_given x0 x1 x2) at is))
      by (dap_given x0 x1) at = absurd (omega (arith, differs (codes "talk") (dap_given x0 x1) at is))
      by (engine_given x0 x1 x2 x3 x4) at =
          absurd (omega (arith, differs (codes "talk") (engine_given x0 x1 x2 x3 x4) at is))
      by (async_given x0 x1 x2 x3 x4) at =
          absurd (omega (arith, differs (codes "talk") (async_given x0 x1 x2 x3 x4) at is))
      by (ide_given x0 x1) at = absurd (omega (arith, differs (codes "talk") (ide_given x0 x1) at is))
      by (replay_given x0 x1 x2) at = absurd (omega (arith, differs (codes "talk") (replay_given x0 x1 x2) at is))
      by (soak_given x0 x1) at = absurd (omega (arith, differs (codes "talk") (soak_given x0 x1) at is))
      by (proxy_given x0 x1 x2 x3) at =
          absurd (omega (arith, differs (codes "talk") (proxy_given x0 x1 x2 x3) at is))
      by show_given at = absurd (omega (arith, differs (codes "talk") show_given at is))

    -- ---- `tape`

    pub tape_found : name ≡ codes "tape" → (key : Text) (ask : Invocation) → first_of (codes "KEY") rows ≡ Some key
        → program_in rows words ≡ Some ask → IsSession key ask → IsInvocation all (tape key ask)
    tape_found is key ask key_is program session = by i.given refl where
      by : (g : Given) → i.given ≡ g → IsInvocation all (tape key ask)
      by (tape_given bound k files) at =
          let g = tape_given bound k files in
          let same : k ≡ key = the_same k key
          (sym (key_of_tape bound k files) ∙ ap (first_of (codes "KEY")) (sym (rows_at g at)) ∙ key_is) in
          subst (λ (x : Text). IsInvocation all (tape x ask)) same
          (record {
            behind = bounded bound (k ∷ files);
            words_are = words_at g at;
            speaks = record {
              invocation = invoked_at g at ∙ longer bound k files ask (sym (program_at g at) ∙ program);
              session = subst (λ (x : Text). IsSession x ask) (sym same) session;
            };
          })
      by (run_given x0 x1) at = absurd (omega (arith, differs (codes "tape") (run_given x0 x1) at is))
      by (talk_given x0 x1 x2) at = absurd (omega (arith, differs (codes "tape") (talk_given x0 x1 x2) at is))
      by (audit_given x0 x1 x2) at = absurd (omega (arith, differs (codes "tape") (audit_given x0 x1 x2) at is))
      by (dap_given x0 x1) at = absurd (omega (arith, differs (codes "tape") (dap_given x0 x1) at is))
      by (engine_given x0 x1 x2 x3 x4) at =
          absurd (omega (arith, differs (codes "tape") (engine_given x0 x1 x2 x3 x4) at is))
      by (async_given x0 x1 x2 x3 x4) at =
          absurd (omega (arith, differs (codes "tape") (async_given x0 x1 x2 x3 x4) at is))
      by (ide_given x0 x1) at = absurd (omega (arith, differs (codes "tape") (ide_given x0 x1) at is))
      by (replay_given x0 x1 x2) at = absurd (omega (arith, differs (codes "tape") (replay_given x0 x1 x2) at is))
      by (soak_given x0 x1) at = absurd (omega (arith, differs (codes "tape") (soak_given x0 x1) at is))
      by (proxy_given x0 x1 x2 x3) at =
          absurd (omega (arith, differs (codes "tape") (proxy_given x0 x1 x2 x3) at is))
      by show_given at = absurd (omega (arith, differs (codes "tape") show_given at is))

    pub tape_none : name ≡ codes "tape"
        → ((key : Text) (ask : Invocation) → first_of (codes "KEY") rows ≡ Some key → program_in rows words ≡ Some ask
        → IsSession key ask → ⊥)
        → (task : Task) → IsInvocation all task → ⊥
    tape_none is none = by i.given refl where
      by : (g : Given) → i.given ≡ g → (task : Task) → IsInvocation all task → ⊥
      by (tape_given bound key files) at = by_task where
        g : Given
        g = tape_given bound key files

        by_task : (task : Task) → IsInvocation all task → ⊥
        by_task (tape k ask) asks =
            let one = shorter bound key k files ask
            (sym (asked_by g at asks.behind asks.words_are) ∙ asks.speaks.invocation) in
            none key ask (ap (first_of (codes "KEY")) (rows_at g at) ∙ key_of_tape bound key files)
            (program_at g at ∙ one.1) (subst (λ (x : Text). IsSession x ask) (sym one.0) asks.speaks.session)
        by_task (run asking) asks = omega (arith, clashes (codes "tape") (run asking) is asks)
        by_task (talk k asking) asks = omega (arith, clashes (codes "tape") (talk k asking) is asks)
        by_task (audit k asking) asks = omega (arith, clashes (codes "tape") (audit k asking) is asks)
        by_task (dap asking) asks = omega (arith, clashes (codes "tape") (dap asking) is asks)
        by_task (engine a k asking) asks = omega (arith, clashes (codes "tape") (engine a k asking) is asks)
        by_task (async a k asking) asks = omega (arith, clashes (codes "tape") (async a k asking) is asks)
        by_task (ide n s) asks = omega (arith, clashes (codes "tape") (ide n s) is asks)
        by_task (replay e asking) asks = omega (arith, clashes (codes "tape") (replay e asking) is asks)
        by_task (soak n d) asks = omega (arith, clashes (codes "tape") (soak n d) is asks)
        by_task (proxy service) asks = omega (arith, clashes (codes "tape") (proxy service) is asks)
        by_task show asks = omega (arith, clashes (codes "tape") show is asks)
      by (run_given x0 x1) at = absurd (omega (arith, differs (codes "tape") (run_given x0 x1) at is))
      by (talk_given x0 x1 x2) at = absurd (omega (arith, differs (codes "tape") (talk_given x0 x1 x2) at is))
      by (audit_given x0 x1 x2) at = absurd (omega (arith, differs (codes "tape") (audit_given x0 x1 x2) at is))
      by (dap_given x0 x1) at = absurd (omega (arith, differs (codes "tape") (dap_given x0 x1) at is))
      by (engine_given x0 x1 x2 x3 x4) at =
          absurd (omega (arith, differs (codes "tape") (engine_given x0 x1 x2 x3 x4) at is))
      by (async_given x0 x1 x2 x3 x4) at =
          absurd (omega (arith, differs (codes "tape") (async_given x0 x1 x2 x3 x4) at is))
      by (ide_given x0 x1) at = absurd (omega (arith, differs (codes "tape") (ide_given x0 x1) at is))
      by (replay_given x0 x1 x2) at = absurd (omega (arith, differs (codes "tape") (replay_given x0 x1 x2) at is))
      by (soak_given x0 x1) at = absurd (omega (arith, differs (codes "tape") (soak_given x0 x1) at is))
      by (proxy_given x0 x1 x2 x3) at =
          absurd (omega (arith, differs (codes "tape") (proxy_given x0 x1 x2 x3) at is))
      by show_given at = absurd (omega (arith, differs (codes "tape") show_given at is))

    -- ---- `audit`

    pub audit_found : name ≡ codes "audit" → (key : Text) (ask : Invocation) → first_of (codes "KEY") rows ≡ Some key
        → program_in rows words ≡ Some ask → IsSession key ask → IsInvocation all (audit key ask)
    audit_found is key ask key_is program session = by i.given refl where
      by : (g : Given) → i.given ≡ g → IsInvocation all (audit key ask)
      by (audit_given bound k files) at =
          let g = audit_given bound k files in
          let same : k ≡ key = the_same k key
          (sym (key_of_audit bound k files) ∙ ap (first_of (codes "KEY")) (sym (rows_at g at)) ∙ key_is) in
          subst (λ (x : Text). IsInvocation all (audit x ask)) same
          (record {
            behind = bounded bound (k ∷ files);
            words_are = words_at g at;
            speaks = record {
              invocation = invoked_at g at ∙ longer bound k files ask (sym (program_at g at) ∙ program);
              session = subst (λ (x : Text). IsSession x ask) (sym same) session;
            };
          })
      by (run_given x0 x1) at = absurd (omega (arith, differs (codes "audit") (run_given x0 x1) at is))
      by (talk_given x0 x1 x2) at = absurd (omega (arith, differs (codes "audit") (talk_given x0 x1 x2) at is))
      by (tape_given x0 x1 x2) at = absurd (omega (arith, differs (codes "audit") (tape_given x0 x1 x2) at is))
      by (dap_given x0 x1) at = absurd (omega (arith, differs (codes "audit") (dap_given x0 x1) at is))
      by (engine_given x0 x1 x2 x3 x4) at =
          absurd (omega (arith, differs (codes "audit") (engine_given x0 x1 x2 x3 x4) at is))
      by (async_given x0 x1 x2 x3 x4) at =
          absurd (omega (arith, differs (codes "audit") (async_given x0 x1 x2 x3 x4) at is))
      by (ide_given x0 x1) at = absurd (omega (arith, differs (codes "audit") (ide_given x0 x1) at is))
      by (replay_given x0 x1 x2) at = absurd (omega (arith, differs (codes "audit") (replay_given x0 x1 x2) at is))
      by (soak_given x0 x1) at = absurd (omega (arith, differs (codes "audit") (soak_given x0 x1) at is))
      by (proxy_given x0 x1 x2 x3) at =
          absurd (omega (arith, differs (codes "audit") (proxy_given x0 x1 x2 x3) at is))
      by show_given at = absurd (omega (arith, differs (codes "audit") show_given at is))

    pub audit_none : name ≡ codes "audit"
        → ((key : Text) (ask : Invocation) → first_of (codes "KEY") rows ≡ Some key → program_in rows words ≡ Some ask
        → IsSession key ask → ⊥)
        → (task : Task) → IsInvocation all task → ⊥
    audit_none is none = by i.given refl where
      by : (g : Given) → i.given ≡ g → (task : Task) → IsInvocation all task → ⊥
      by (audit_given bound key files) at = by_task where
        g : Given
        g = audit_given bound key files

        by_task : (task : Task) → IsInvocation all task → ⊥
        by_task (audit k ask) asks =
            let one = shorter bound key k files ask
            (sym (asked_by g at asks.behind asks.words_are) ∙ asks.speaks.invocation) in
            none key ask (ap (first_of (codes "KEY")) (rows_at g at) ∙ key_of_audit bound key files)
            (program_at g at ∙ one.1) (subst (λ (x : Text). IsSession x ask) (sym one.0) asks.speaks.session)
        by_task (run asking) asks = omega (arith, clashes (codes "audit") (run asking) is asks)
        by_task (talk k asking) asks = omega (arith, clashes (codes "audit") (talk k asking) is asks)
        by_task (tape k asking) asks = omega (arith, clashes (codes "audit") (tape k asking) is asks)
        by_task (dap asking) asks = omega (arith, clashes (codes "audit") (dap asking) is asks)
        by_task (engine a k asking) asks = omega (arith, clashes (codes "audit") (engine a k asking) is asks)
        by_task (async a k asking) asks = omega (arith, clashes (codes "audit") (async a k asking) is asks)
        by_task (ide n s) asks = omega (arith, clashes (codes "audit") (ide n s) is asks)
        by_task (replay e asking) asks = omega (arith, clashes (codes "audit") (replay e asking) is asks)
        by_task (soak n d) asks = omega (arith, clashes (codes "audit") (soak n d) is asks)
        by_task (proxy service) asks = omega (arith, clashes (codes "audit") (proxy service) is asks)
        by_task show asks = omega (arith, clashes (codes "audit") show is asks)
      by (run_given x0 x1) at = absurd (omega (arith, differs (codes "audit") (run_given x0 x1) at is))
      by (talk_given x0 x1 x2) at = absurd (omega (arith, differs (codes "audit") (talk_given x0 x1 x2) at is))
      by (tape_given x0 x1 x2) at = absurd (omega (arith, differs (codes "audit") (tape_given x0 x1 x2) at is))
      by (dap_given x0 x1) at = absurd (omega (arith, differs (codes "audit") (dap_given x0 x1) at is))
      by (engine_given x0 x1 x2 x3 x4) at =
          absurd (omega (arith, differs (codes "audit") (engine_given x0 x1 x2 x3 x4) at is))
      by (async_given x0 x1 x2 x3 x4) at =
          absurd (omega (arith, differs (codes "audit") (async_given x0 x1 x2 x3 x4) at is))
      by (ide_given x0 x1) at = absurd (omega (arith, differs (codes "audit") (ide_given x0 x1) at is))
      by (replay_given x0 x1 x2) at = absurd (omega (arith, differs (codes "audit") (replay_given x0 x1 x2) at is))
      by (soak_given x0 x1) at = absurd (omega (arith, differs (codes "audit") (soak_given x0 x1) at is))
      by (proxy_given x0 x1 x2 x3) at =
          absurd (omega (arith, differs (codes "audit") (proxy_given x0 x1 x2 x3) at is))
      by show_given at = absurd (omega (arith, differs (codes "audit") show_given at is))
