-- What the matches of `engine` and `async` hold says what is asked for.
use Rattle.std.proofs.Common.{◌≡◌, ℕ, List, ◌∷◌, ◌++◌, map, Option, Some, refl, sym, ap, ◌∙◌, subst, arith, codes, String, string_bytes, Global}
use Rattle.std.specs.Prelude.{option_and_then}
use Rattle.clap.specs.Walk.{Row, Text, first_of}
use Rattle.dp_words.specs.Words.{Address, Invocation, IsHostWord, IsInvocation, IsSession, Task, run, talk, tape, audit, dap, engine, async, ide, replay, soak, proxy, show, invocation_of, port_of}
use Rattle.dp_words.specs.inner.Given.{Given, engine_given, async_given, ide_given, proxy_given, replay_given, run_given, show_given, soak_given, talk_given, tape_given, audit_given, dap_given, requested, bound_in, bounded, files_in, first_in, name_in, rows_in, words_in}
use Rattle.dp_words.specs.inner.Rows.{IsGiven, program_in}
use Rattle.dp_words.proofs.CommandReadings.{name_of}
use Rattle.dp_words.proofs.GivenLaws as law
use Rattle.dp_words.proofs.GivenLaws.{letters, longer, shorter, the_same}
use Rattle.dp_words.proofs.RowLaws.{host_of_async, host_of_engine, key_of_async, key_of_engine, port_of_async, port_of_engine}

module _ (words : List (String Global)) (name : Text) (rows : List Row) (i : IsGiven (map string_bytes words) name
    rows)
  where
    abbrev all : List Text
    all = map string_bytes words

    differs : (known : Text) (g : Given) → i.given ≡ g → name ≡ known → letters known ≡ letters (name_in g)
    differs known g at is = law.differs words name rows i known g at is

    clashes : (known : Text) (task : Task) → name ≡ known
        → IsInvocation all task → letters known ≡ letters (name_of task)
    clashes known task is asks = law.clashes words name rows i known task is asks

    words_at : (g : Given) → i.given ≡ g → all ≡ words_in g
    words_at g at = law.words_at words name rows i g at

    rows_at : (g : Given) → i.given ≡ g → rows ≡ rows_in g
    rows_at g at = law.rows_at words name rows i g at

    program_at : (g : Given) → i.given ≡ g → program_in rows words ≡ requested (bound_in g) (files_in g)
    program_at g at = law.program_at words name rows i g at

    invoked_at : (g : Given) → i.given ≡ g → invocation_of (bounded (bound_in g) (first_in g ++ files_in g))
        ≡ requested (bound_in g) (first_in g ++ files_in g)
    invoked_at g at = law.invoked_at words name rows i g at

    asked_by : (g : Given) → i.given ≡ g → (behind : List Text) → all ≡ name_in g ∷ behind
        → invocation_of behind ≡ requested (bound_in g) (first_in g ++ files_in g)
    asked_by g at behind is = law.asked_by words name rows i g at behind is

    -- ---- `engine`

    pub engine_found : name ≡ codes "engine" → (address : Address) (key : Text) (ask : Invocation)
        → first_of (codes "HOST") rows ≡ Some address.host
        → option_and_then port_of (first_of (codes "PORT") rows) ≡ Some address.port
        → first_of (codes "KEY") rows ≡ Some key → program_in rows words ≡ Some ask
        → IsHostWord address.host → IsSession key ask → IsInvocation all (engine address key ask)
    engine_found is address key ask host_is port_is key_is program hosted session = by i.given refl where
      by : (g : Given) → i.given ≡ g → IsInvocation all (engine address key ask)
      by (engine_given bound h p k files) at =
          let g = engine_given bound h p k files in
          let same_host : h ≡ address.host = the_same h address.host
          (sym (host_of_engine h p k files bound) ∙ ap (first_of (codes "HOST")) (sym (rows_at g at)) ∙ host_is) in
          let same_key : k ≡ key = the_same k key
          (sym (key_of_engine h p k files bound) ∙ ap (first_of (codes "KEY")) (sym (rows_at g at)) ∙ key_is) in
          let ported : port_of p ≡ Some address.port =
          sym (ap (λ (o : Option Text). option_and_then port_of o)
          (ap (first_of (codes "PORT")) (rows_at g at) ∙ port_of_engine h p k files bound)) ∙ port_is in
          subst (λ (x : Text). IsInvocation all (engine (record { host = x; port = address.port }) key ask)) same_host
          (subst (λ (x : Text). IsInvocation all (engine (record { host = h; port = address.port }) x ask)) same_key
          (record {
            behind = bounded bound (h ∷ p ∷ k ∷ files);
            words_are = words_at g at;
            dials = record {
              number = p;
              invocation = invoked_at g at ∙ longer bound h (p ∷ k ∷ files) _ (longer bound p (k ∷ files) _
                  (longer bound k files ask (sym (program_at g at) ∙ program)));
              host = subst IsHostWord (sym same_host) hosted;
              port = ported;
              session = subst (λ (x : Text). IsSession x ask) (sym same_key) session;
            };
          }))
      by (run_given x0 x1) at = absurd (omega (arith, differs (codes "engine") (run_given x0 x1) at is))
      by (talk_given x0 x1 x2) at = absurd (omega (arith, differs (codes "engine") (talk_given x0 x1 x2) at is))
      by (tape_given x0 x1 x2) at = absurd (omega (arith, differs (codes "engine") (tape_given x0 x1 x2) at is))
      by (audit_given x0 x1 x2) at = absurd (omega (arith, differs (codes "engine") (audit_given x0 x1 x2) at is))
      by (dap_given x0 x1) at = absurd (omega (arith, differs (codes "engine") (dap_given x0 x1) at is))
      by (async_given x0 x1 x2 x3 x4) at =
          absurd (omega (arith, differs (codes "engine") (async_given x0 x1 x2 x3 x4) at is))
      by (ide_given x0 x1) at = absurd (omega (arith, differs (codes "engine") (ide_given x0 x1) at is))
      by (replay_given x0 x1 x2) at = absurd (omega (arith, differs (codes "engine") (replay_given x0 x1 x2) at is))
      by (soak_given x0 x1) at = absurd (omega (arith, differs (codes "engine") (soak_given x0 x1) at is))
      by (proxy_given x0 x1 x2 x3) at =
          absurd (omega (arith, differs (codes "engine") (proxy_given x0 x1 x2 x3) at is))
      by show_given at = absurd (omega (arith, differs (codes "engine") show_given at is))

    pub engine_none : name ≡ codes "engine"
        → ((host number key : Text) (port : ℕ) (ask : Invocation) → first_of (codes "HOST") rows ≡ Some host
        → first_of (codes "PORT") rows ≡ Some number → first_of (codes "KEY") rows ≡ Some key
        → program_in rows words ≡ Some ask → IsHostWord host → port_of number ≡ Some port → IsSession key ask → ⊥)
        → (task : Task) → IsInvocation all task → ⊥
    engine_none is none = by i.given refl where
      by : (g : Given) → i.given ≡ g → (task : Task) → IsInvocation all task → ⊥
      by (engine_given bound h p k files) at = by_task where
        g : Given
        g = engine_given bound h p k files

        by_task : (task : Task) → IsInvocation all task → ⊥
        by_task (engine address key ask) asks =
            let d = asks.dials in
            let one = shorter bound h address.host (p ∷ k ∷ files)
            (record { bound = ask.bound; names = d.number ∷ key ∷ ask.names })
            (sym (asked_by g at asks.behind asks.words_are) ∙ d.invocation) in
            let two = shorter bound p d.number (k ∷ files) (record { bound = ask.bound; names = key ∷ ask.names })
            one.1 in
            let three = shorter bound k key files ask two.1 in
            none h p k address.port ask
            (ap (first_of (codes "HOST")) (rows_at g at) ∙ host_of_engine h p k files bound)
            (ap (first_of (codes "PORT")) (rows_at g at) ∙ port_of_engine h p k files bound)
            (ap (first_of (codes "KEY")) (rows_at g at) ∙ key_of_engine h p k files bound)
            (program_at g at ∙ three.1) (subst IsHostWord (sym one.0) d.host) (ap port_of two.0 ∙ d.port)
            (subst (λ (x : Text). IsSession x ask) (sym three.0) d.session)
        by_task (run asking) asks = omega (arith, clashes (codes "engine") (run asking) is asks)
        by_task (talk k asking) asks = omega (arith, clashes (codes "engine") (talk k asking) is asks)
        by_task (tape k asking) asks = omega (arith, clashes (codes "engine") (tape k asking) is asks)
        by_task (audit k asking) asks = omega (arith, clashes (codes "engine") (audit k asking) is asks)
        by_task (dap asking) asks = omega (arith, clashes (codes "engine") (dap asking) is asks)
        by_task (async a k asking) asks = omega (arith, clashes (codes "engine") (async a k asking) is asks)
        by_task (ide n s) asks = omega (arith, clashes (codes "engine") (ide n s) is asks)
        by_task (replay e asking) asks = omega (arith, clashes (codes "engine") (replay e asking) is asks)
        by_task (soak n d) asks = omega (arith, clashes (codes "engine") (soak n d) is asks)
        by_task (proxy service) asks = omega (arith, clashes (codes "engine") (proxy service) is asks)
        by_task show asks = omega (arith, clashes (codes "engine") show is asks)
      by (run_given x0 x1) at = absurd (omega (arith, differs (codes "engine") (run_given x0 x1) at is))
      by (talk_given x0 x1 x2) at = absurd (omega (arith, differs (codes "engine") (talk_given x0 x1 x2) at is))
      by (tape_given x0 x1 x2) at = absurd (omega (arith, differs (codes "engine") (tape_given x0 x1 x2) at is))
      by (audit_given x0 x1 x2) at = absurd (omega (arith, differs (codes "engine") (audit_given x0 x1 x2) at is))
      by (dap_given x0 x1) at = absurd (omega (arith, differs (codes "engine") (dap_given x0 x1) at is))
      by (async_given x0 x1 x2 x3 x4) at =
          absurd (omega (arith, differs (codes "engine") (async_given x0 x1 x2 x3 x4) at is))
      by (ide_given x0 x1) at = absurd (omega (arith, differs (codes "engine") (ide_given x0 x1) at is))
      by (replay_given x0 x1 x2) at = absurd (omega (arith, differs (codes "engine") (replay_given x0 x1 x2) at is))
      by (soak_given x0 x1) at = absurd (omega (arith, differs (codes "engine") (soak_given x0 x1) at is))
      by (proxy_given x0 x1 x2 x3) at =
          absurd (omega (arith, differs (codes "engine") (proxy_given x0 x1 x2 x3) at is))
      by show_given at = absurd (omega (arith, differs (codes "engine") show_given at is))

    -- ---- `async`

    pub async_found : name ≡ codes "async" → (address : Address) (key : Text) (ask : Invocation)
        → first_of (codes "HOST") rows ≡ Some address.host
        → option_and_then port_of (first_of (codes "PORT") rows) ≡ Some address.port
        → first_of (codes "KEY") rows ≡ Some key → program_in rows words ≡ Some ask
        → IsHostWord address.host → IsSession key ask → IsInvocation all (async address key ask)
    async_found is address key ask host_is port_is key_is program hosted session = by i.given refl where
      by : (g : Given) → i.given ≡ g → IsInvocation all (async address key ask)
      by (async_given bound h p k files) at =
          let g = async_given bound h p k files in
          let same_host : h ≡ address.host = the_same h address.host
          (sym (host_of_async h p k files bound) ∙ ap (first_of (codes "HOST")) (sym (rows_at g at)) ∙ host_is) in
          let same_key : k ≡ key = the_same k key
          (sym (key_of_async h p k files bound) ∙ ap (first_of (codes "KEY")) (sym (rows_at g at)) ∙ key_is) in
          let ported : port_of p ≡ Some address.port =
          sym (ap (λ (o : Option Text). option_and_then port_of o)
          (ap (first_of (codes "PORT")) (rows_at g at) ∙ port_of_async h p k files bound)) ∙ port_is in
          subst (λ (x : Text). IsInvocation all (async (record { host = x; port = address.port }) key ask)) same_host
          (subst (λ (x : Text). IsInvocation all (async (record { host = h; port = address.port }) x ask)) same_key
          (record {
            behind = bounded bound (h ∷ p ∷ k ∷ files);
            words_are = words_at g at;
            dials = record {
              number = p;
              invocation = invoked_at g at ∙ longer bound h (p ∷ k ∷ files) _ (longer bound p (k ∷ files) _
                  (longer bound k files ask (sym (program_at g at) ∙ program)));
              host = subst IsHostWord (sym same_host) hosted;
              port = ported;
              session = subst (λ (x : Text). IsSession x ask) (sym same_key) session;
            };
          }))
      by (run_given x0 x1) at = absurd (omega (arith, differs (codes "async") (run_given x0 x1) at is))
      by (talk_given x0 x1 x2) at = absurd (omega (arith, differs (codes "async") (talk_given x0 x1 x2) at is))
      by (tape_given x0 x1 x2) at = absurd (omega (arith, differs (codes "async") (tape_given x0 x1 x2) at is))
      by (audit_given x0 x1 x2) at = absurd (omega (arith, differs (codes "async") (audit_given x0 x1 x2) at is))
      by (dap_given x0 x1) at = absurd (omega (arith, differs (codes "async") (dap_given x0 x1) at is))
      by (engine_given x0 x1 x2 x3 x4) at =
          absurd (omega (arith, differs (codes "async") (engine_given x0 x1 x2 x3 x4) at is))
      by (ide_given x0 x1) at = absurd (omega (arith, differs (codes "async") (ide_given x0 x1) at is))
      by (replay_given x0 x1 x2) at = absurd (omega (arith, differs (codes "async") (replay_given x0 x1 x2) at is))
      by (soak_given x0 x1) at = absurd (omega (arith, differs (codes "async") (soak_given x0 x1) at is))
      by (proxy_given x0 x1 x2 x3) at =
          absurd (omega (arith, differs (codes "async") (proxy_given x0 x1 x2 x3) at is))
      by show_given at = absurd (omega (arith, differs (codes "async") show_given at is))

    pub async_none : name ≡ codes "async"
        → ((host number key : Text) (port : ℕ) (ask : Invocation) → first_of (codes "HOST") rows ≡ Some host
        → first_of (codes "PORT") rows ≡ Some number → first_of (codes "KEY") rows ≡ Some key
        → program_in rows words ≡ Some ask → IsHostWord host → port_of number ≡ Some port → IsSession key ask → ⊥)
        → (task : Task) → IsInvocation all task → ⊥
    async_none is none = by i.given refl where
      by : (g : Given) → i.given ≡ g → (task : Task) → IsInvocation all task → ⊥
      by (async_given bound h p k files) at = by_task where
        g : Given
        g = async_given bound h p k files

        by_task : (task : Task) → IsInvocation all task → ⊥
        by_task (async address key ask) asks =
            let d = asks.dials in
            let one = shorter bound h address.host (p ∷ k ∷ files)
            (record { bound = ask.bound; names = d.number ∷ key ∷ ask.names })
            (sym (asked_by g at asks.behind asks.words_are) ∙ d.invocation) in
            let two = shorter bound p d.number (k ∷ files) (record { bound = ask.bound; names = key ∷ ask.names })
            one.1 in
            let three = shorter bound k key files ask two.1 in
            none h p k address.port ask
            (ap (first_of (codes "HOST")) (rows_at g at) ∙ host_of_async h p k files bound)
            (ap (first_of (codes "PORT")) (rows_at g at) ∙ port_of_async h p k files bound)
            (ap (first_of (codes "KEY")) (rows_at g at) ∙ key_of_async h p k files bound)
            (program_at g at ∙ three.1) (subst IsHostWord (sym one.0) d.host) (ap port_of two.0 ∙ d.port)
            (subst (λ (x : Text). IsSession x ask) (sym three.0) d.session)
        by_task (run asking) asks = omega (arith, clashes (codes "async") (run asking) is asks)
        by_task (talk k asking) asks = omega (arith, clashes (codes "async") (talk k asking) is asks)
        by_task (tape k asking) asks = omega (arith, clashes (codes "async") (tape k asking) is asks)
        by_task (audit k asking) asks = omega (arith, clashes (codes "async") (audit k asking) is asks)
        by_task (dap asking) asks = omega (arith, clashes (codes "async") (dap asking) is asks)
        by_task (engine a k asking) asks = omega (arith, clashes (codes "async") (engine a k asking) is asks)
        by_task (ide n s) asks = omega (arith, clashes (codes "async") (ide n s) is asks)
        by_task (replay e asking) asks = omega (arith, clashes (codes "async") (replay e asking) is asks)
        by_task (soak n d) asks = omega (arith, clashes (codes "async") (soak n d) is asks)
        by_task (proxy service) asks = omega (arith, clashes (codes "async") (proxy service) is asks)
        by_task show asks = omega (arith, clashes (codes "async") show is asks)
      by (run_given x0 x1) at = absurd (omega (arith, differs (codes "async") (run_given x0 x1) at is))
      by (talk_given x0 x1 x2) at = absurd (omega (arith, differs (codes "async") (talk_given x0 x1 x2) at is))
      by (tape_given x0 x1 x2) at = absurd (omega (arith, differs (codes "async") (tape_given x0 x1 x2) at is))
      by (audit_given x0 x1 x2) at = absurd (omega (arith, differs (codes "async") (audit_given x0 x1 x2) at is))
      by (dap_given x0 x1) at = absurd (omega (arith, differs (codes "async") (dap_given x0 x1) at is))
      by (engine_given x0 x1 x2 x3 x4) at =
          absurd (omega (arith, differs (codes "async") (engine_given x0 x1 x2 x3 x4) at is))
      by (ide_given x0 x1) at = absurd (omega (arith, differs (codes "async") (ide_given x0 x1) at is))
      by (replay_given x0 x1 x2) at = absurd (omega (arith, differs (codes "async") (replay_given x0 x1 x2) at is))
      by (soak_given x0 x1) at = absurd (omega (arith, differs (codes "async") (soak_given x0 x1) at is))
      by (proxy_given x0 x1 x2 x3) at =
          absurd (omega (arith, differs (codes "async") (proxy_given x0 x1 x2 x3) at is))
      by show_given at = absurd (omega (arith, differs (codes "async") show_given at is))
