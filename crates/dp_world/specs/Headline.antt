-- THE HEADLINE of `replay`
--
-- For every list of connections, registrations, pieces and closures, each IDE receives exactly the
-- whole packets that its engine, served alone with that IDE's commands, would send for the session
-- its key gave it, and nothing of another's.
--
-- `replay` of dp_world promises `EachReceives` below for its engines and its list of events, and
-- writes the `transcript` of the list. The words:
--
-- - *Every list*: any list of events in which a link is made once and before its use (Lists). Its
--   pieces may cut commands and packets anywhere.
-- - *The session its key gave it*: when the engine connects, the registry answers its key by the
--   calls before it, and by nothing else (dp_registry: Journal, Verdicts). A later registration or
--   stop changes nothing of it.
-- - *Each IDE receives*: all that the proxy hands out to it, one act after another, by its own
--   answers to what happens on the link (dp_proxy: `all_handed`); and the `ide` line of the session
--   is that, whose line `session` has the address.
-- - *Whole packets*: those in the bytes that were read of the engine. Half a packet is never sent.
--   What the engine sends is whole packets (dp_session_laws: `alone_is_whole_packets`), so where
--   all was read, the IDE has all.
-- - *Served alone*: `alone` (Alone), in which there is one engine, one IDE and no proxy. Of the
--   engines that dp_top hands in it is `alone` of dp_engine.
-- - *With that IDE's commands*: those among the bytes that it gave until its session ended. Where
--   no command passes its limit, these are all that it gave before the link closed, and as much was
--   read as each `move` asked for of what was there (dp_proxy_laws: `in_plain_words`).
-- - *Nothing of another's*: what becomes of a session is a function of its key, its pass and what
--   happens on its own link.
--
-- An example: the engine sends `5 NUL a b c d e NUL`, then `2 NUL f g NUL`. Where 10 bytes were
-- read of it, `received` is `5 NUL a b c d e NUL`: of the second packet two bytes came, and the IDE
-- has none of them. The line is `ide 3500616263646500`.
--
-- What each reply shows is said with `alone` (dp_session_laws: `replies_show_the_run`): the
-- program's run, with the accepted writes, at that step. While none was accepted, output and result
-- are those of the run without a debugger (`watching_changes_nothing`).
use Rattle.std.specs.Prelude.{◌≡◌, ℕ, ◌≤◌, List, [], ◌∷◌, ◌++◌, length, flat_map, Ok}
use Rattle.dp_world.specs.Alone.{Engines, alone}
use Rattle.dp_registry.specs.declared.pass.Pass.{Pass}
use Rattle.dp_registry.specs.Verdicts.{admit_verdict}
use Rattle.dp_wire.specs.Frames.{command_frame, commands_in}
use Rattle.dp_lanes.specs.declared.lane.LaneKind.TheVariants.{Up, Down}
use Rattle.dp_proxy.specs.Links.{stream, all_handed}
use Rattle.dp_events.specs.declared.event.Act.TheVariants.{Engine}
use Rattle.dp_events.specs.declared.event.Event.{Event}
use Rattle.dp_world.specs.Engines.{past_of, acts_on, alone_on}
use Rattle.dp_events.specs.Lists.{AllFit}
use Rattle.dp_world.specs.Transcript.{received, session_of, shown_of, transcript}

-- in this list an engine connects here with a key, and the registry gives it a session
pub record IsSession {S E : Type 0} (engines : Engines S E) (events : List Event) (link : ℕ)
    (key : List ℕ) (pass : Pass) : Type 0 where
  pub before : List Event
  pub after : List Event
  pub connects : events ≡ before ++ (record { link = link; act = Engine key }) ∷ after
  pub gives : admit_verdict (past_of engines before).journal key ≡ Ok pass

-- What its IDE has given and how much was read of the engine, when the session ended or at the end
-- of the list, is told by its own link alone. All that the proxy has handed out to the IDE is the
-- whole packets of what was read, and all that it has handed out to the engine is the whole
-- commands of what was given. Of the transcript this session has its five lines, and these say just
-- that.
pub record Receives {S E : Type 0} (engines : Engines S E) (events : List Event) (link : ℕ)
    (key : List ℕ) (pass : Pass) (its : IsSession engines events link key pass)
    : Type 0 where
  pub given : List ℕ
  pub read : ℕ
  pub its_ide : given ≡ stream Down (alone_on engines key pass (acts_on link its.after))
  pub its_engine :
      read ≡ length (stream Up (alone_on engines key pass (acts_on link its.after)))
  pub sent : read ≤ length (alone engines key given)
  pub handed : all_handed Up (alone_on engines key pass (acts_on link its.after))
      ≡ received engines key given read
  pub commands : all_handed Down (alone_on engines key pass (acts_on link its.after))
      ≡ flat_map command_frame (commands_in given)
  pub printed : transcript engines events
      ≡ shown_of engines (past_of engines events) its.before
      ++ session_of engines link key pass given read
      ++ shown_of engines (past_of engines events) its.after

abbrev pub EachReceives : {S E : Type 0} → Engines S E → List Event → Type 0
EachReceives engines events =
    AllFit [] events → (link : ℕ) (key : List ℕ) (pass : Pass)
    → (its : IsSession engines events link key pass)
    → Receives engines events link key pass its
