-- The answer of the top call, by how it came to it.
use Rattle.std.proofs.Common.{◌≡◌, ◌⊎◌, ℕ, ◌<◌, ◌≤◌, false, List, Ok, Err, refl, arith, inl, inr, codes}
use Rattle.dp_words.specs.Words.{IsInvocation, Task, run, talk, tape, audit, dap, engine, async, ide, replay, soak, proxy, show}
use Rattle.dp_words.specs.Plain.{are_plain}
use Rattle.dp_top.specs.declared.failures.Refused.{Refused}
use Rattle.dp_top.specs.Failures.{status_of, line_of, Says}
use Rattle.dp_top.specs.Seen.{NoneRose, Seen, Stream, changed}
use Rattle.dp_top.specs.Tasks.{Fails, before_line}
use Rattle.dp_top.specs.Top.{Answers}
use Rattle.dp_top.specs.inner.Carried.{IsCarriedOut}
use Rattle.dp_top.proofs.AsyncReports.{complete_async_told}
use Rattle.dp_top.proofs.DapReports.{complete_dap_told}
use Rattle.dp_top.proofs.IdeLaws.{complete_ide_told, plays_well, script_held_told, script_refused_done, script_refused_told}
use Rattle.dp_top.proofs.RecordReports.{audits_well, complete_audit_told, complete_tape_told}
use Rattle.dp_top.proofs.ReplayReports.{asks_replay, complete_replay_told, list_held_told, list_refused_done, list_refused_told, replays_well}
use Rattle.dp_top.proofs.TaskLaws.{asks_fetched, asks_program, asks_unshelved, complete_engine_told, complete_proxy_told, complete_run_told, complete_show_fails, complete_soak_told, complete_talk_told, fails_told, none_fetched, asks_unspawned, offline_caused, offline_done, proxies_well, refused_told, shows_well, soaks_well, told_above}

-- the words ask for nothing, which is said
pub usage_answers : (words : List (List ℕ)) (old : Seen) (err : Stream)
    → ((task : Task) → IsInvocation words task → ⊥)
    → Says (changed old.err err) (codes "usage\n") → old.err.faults ≤ err.faults
    → Answers 200 words old (before_line old err)
usage_answers words old err none says later = record {
  usage = λ same. none;
  usage_only = λ nothing. inl refl;
  usage_plain = λ bad. refl;
  usage_told = λ same. says;
  usage_input = λ same. (refl, refl);
  usage_out = λ same. (refl, refl);
  usage_shelf = λ same. refl;
  usage_net = λ same. refl;
  usage_spawner = λ same. refl;
  done = λ low. absurd (omega (arith, low));
  fails = λ high. absurd (omega (arith, high));
  complete_run = λ ask program is made still. absurd (none (run ask) is);
  complete_talk = λ key ask program is made still. absurd (none (talk key ask) is);
  complete_tape = λ key ask program is made still. absurd (none (tape key ask) is);
  complete_audit = λ key ask program is made still. absurd (none (audit key ask) is);
  complete_dap = λ ask program is made still. absurd (none (dap ask) is);
  complete_engine = λ address key ask program is made still. absurd (none (engine address key ask) is);
  complete_async = λ address key ask program is made still. absurd (none (async address key ask) is);
  refused = λ task ask why is asked makes. absurd (none task is);
  complete_show = λ is still. absurd (none show is);
  script_refused = λ port line script is told bad. absurd (none (ide port script) is);
  script_held = λ port script instructions is told held same. none (ide port script) is;
  complete_ide = λ port script instructions is told held still. absurd (none (ide port script) is);
  list_refused = λ events ask line made is bad makes. absurd (none (replay events ask) is);
  list_held = λ events ask list is told held same. none (replay events ask) is;
  replay_refused = λ events ask list why is held makes. absurd (none (replay events ask) is);
  complete_replay = λ events ask list program is held makes still. absurd (none (replay events ask) is);
  complete_soak = λ count seed is still. absurd (none (soak count seed) is);
  complete_proxy = λ service is still. absurd (none (proxy service) is);
  unshelved = λ task is off. refl;
  fetched = λ task is. none_fetched task old.shelf.fetched;
  files = refl;
  offline = λ task is off. refl;
  unspawned = λ task is off. refl;
  shelf_later = omega arith;
  input_later = omega arith;
  out_later = omega arith;
  err_later = later;
  net_later = omega arith;
  returned_later = omega arith;
  spawner_later = omega arith;
}

-- memory ran out as the words were read, which is said
pub unread_answers : (words : List (List ℕ)) (old : Seen) (err : Stream) → (are_plain words ≡ false → ⊥)
    → Says (changed old.err err) (codes "out of memory\n") → old.err.faults ≤ err.faults
    → Answers 209 words old (before_line old err)
unread_answers words old err plain says later = record {
  usage = λ same. absurd (omega (arith, same));
  usage_only = λ nothing. inr refl;
  usage_plain = λ bad. absurd (plain bad);
  usage_told = λ same. absurd (omega (arith, same));
  usage_input = λ same. (refl, refl);
  usage_out = λ same. (refl, refl);
  usage_shelf = λ same. refl;
  usage_net = λ same. refl;
  usage_spawner = λ same. refl;
  done = λ low. absurd (omega (arith, low));
  fails = λ high. inr (record {
    is_status = refl;
    shelf = refl;
    input = (refl, refl);
    out = (refl, refl);
    net = refl;
    spawner = refl;
    says = says;
  });
  complete_run = λ ask program is made still. inr (inr refl);
  complete_talk = λ key ask program is made still. inr (inr (inr (inr refl)));
  complete_tape = λ key ask program is made still. inr (inr (inr (inr refl)));
  complete_audit = λ key ask program is made still. inr (inr (inr refl));
  complete_dap = λ ask program is made still. inr (inr (inr (inr refl)));
  complete_engine = λ address key ask program is made still. inr (inr (inr (inr refl)));
  complete_async = λ address key ask program is made still. inr (inr (inr (inr refl)));
  refused = λ task ask why is asked makes. inr (inl refl);
  complete_show = λ is still. inr (inr (inr refl));
  script_refused = λ port line script is told bad. inr (inl refl);
  script_held = λ port script instructions is told held same. omega (arith, same);
  complete_ide = λ port script instructions is told held still. inr (inr (inr (inr refl)));
  list_refused = λ events ask line made is bad makes. inr (inl refl);
  list_held = λ events ask list is told held same. omega (arith, same);
  replay_refused = λ events ask list why is held makes. inr (inl refl);
  complete_replay = λ events ask list program is held makes still. inr refl;
  complete_soak = λ count seed is still. inr refl;
  complete_proxy = λ service is still. inr refl;
  unshelved = λ task is off. refl;
  fetched = λ task is. none_fetched task old.shelf.fetched;
  files = refl;
  offline = λ task is off. refl;
  unspawned = λ task is off. refl;
  shelf_later = omega arith;
  input_later = omega arith;
  out_later = omega arith;
  err_later = later;
  net_later = omega arith;
  returned_later = omega arith;
  spawner_later = omega arith;
}

-- what the words ask for went well
pub done_answers : (status : ℕ) (words : List (List ℕ)) (task : Task) (old new : Seen) → IsInvocation words task
    → (are_plain words ≡ false → ⊥) → IsCarriedOut (Ok status) task old new
    → Answers status words old new
done_answers status words task old new asks plain carried = record {
  usage = λ same. absurd (omega (arith, carried.status, same));
  usage_only = λ nothing. absurd (nothing task asks);
  usage_plain = λ bad. absurd (plain bad);
  usage_told = λ same. absurd (omega (arith, carried.status, same));
  usage_input = λ same. absurd (omega (arith, carried.status, same));
  usage_out = λ same. absurd (omega (arith, carried.status, same));
  usage_shelf = λ same. absurd (omega (arith, carried.status, same));
  usage_net = λ same. absurd (omega (arith, carried.status, same));
  usage_spawner = λ same. absurd (omega (arith, carried.status, same));
  done = λ low. record { task = task; asks = asks; does = carried.ends };
  fails = λ high. absurd (omega (arith, carried.status, high));
  complete_run = λ ask program is made still. inl carried.status;
  complete_talk = λ key ask program is made still. inl carried.status;
  complete_tape = λ key ask program is made still. inl carried.status;
  complete_audit = λ key ask program is made still.
      inl (audits_well status words task old new asks carried.ends key ask is);
  complete_dap = λ ask program is made still. inl carried.status;
  complete_engine = λ address key ask program is made still. inl carried.status;
  complete_async = λ address key ask program is made still. inl carried.status;
  refused = λ other ask why is asked makes.
      absurd ((carried.held ask (asks_program words task other ask asks is asked)).by_files (Err why) makes);
  complete_show = λ is still. inl (shows_well status words task old new asks carried.ends is);
  script_refused = λ port line script is told bad.
      absurd (script_refused_done status words task old new asks carried.ends port line script is told bad);
  script_held = λ port script instructions is told held same. omega (arith, carried.status, same);
  complete_ide = λ port script instructions is told held still.
      inl (plays_well status words task old new asks carried.ends port script is);
  list_refused = λ events ask line made is bad makes.
      absurd (list_refused_done status words task old new asks carried.ends events ask line made is bad makes);
  list_held = λ events ask list is told held same. omega (arith, carried.status, same);
  replay_refused = λ events ask list why is held makes.
      absurd ((carried.replay_held events ask (asks_replay words task events ask asks is)).by_files (Err why) makes list
      held);
  complete_replay = λ events ask list program is held makes still.
      inl (replays_well status words task old new asks carried.ends events ask is);
  complete_soak = λ count seed is still. inl (soaks_well status words task old new asks carried.ends count seed is);
  complete_proxy = λ service is still. inl (proxies_well status words task old new asks carried.ends service is);
  unshelved = λ other is off. carried.unshelved (asks_unshelved words task other asks is off);
  fetched = λ other is. asks_fetched words task other old.shelf.fetched new.shelf.fetched asks carried.fetched is;
  files = carried.goes_on.files;
  offline = λ other is off. offline_done status words task other old new asks carried.ends is off;
  unspawned = λ other is off. carried.unspawned (asks_unspawned words task other asks is off);
  shelf_later = carried.goes_on.shelf;
  input_later = carried.goes_on.input;
  out_later = carried.goes_on.out;
  err_later = carried.goes_on.err;
  net_later = carried.goes_on.net;
  returned_later = carried.goes_on.returned;
  spawner_later = carried.goes_on.spawner;
}

-- it failed, and that is said; the error output was `err` before
module _ (status : ℕ) (words : List (List ℕ)) (task : Task) (refused : Refused) (old new : Seen) (err : Stream)
    (asks : IsInvocation words task) (plain : are_plain words ≡ false → ⊥)
    (carried : IsCarriedOut (Err refused) task old (before_line new err)) (later : err.faults ≤ new.err.faults)
    (told : ((status ≡ status_of refused.failure) × Says (changed err new.err)
    (line_of refused.failure refused.name.now))
    ⊎ ((status ≡ 209) × Says (changed err new.err) (codes "out of memory\n"))) where
  abbrev mid : Seen
  mid = before_line new err

  high : 200 < status
  high = told_above status refused.failure _ _ told

  -- no count rose up to the line
  still_before : NoneRose old new → NoneRose old mid
  still_before still = record {
    shelf = still.shelf;
    input_not = still.input_not;
    out_not = still.out_not;
    err_not = λ rose. still.err_not (omega (arith, rose, later));
    net_not = still.net_not;
    returned_not = still.returned_not;
    spawner_not = still.spawner_not;
  }

  failed : Fails status words old new
  failed = fails_told status words task refused.name.now old new err refused.failure asks carried.ends later told

  pub fails_answers : Answers status words old new
  fails_answers = record {
    usage = λ same. absurd (omega (arith, high, same));
    usage_only = λ nothing. absurd (nothing task asks);
    usage_plain = λ bad. absurd (plain bad);
    usage_told = λ same. absurd (omega (arith, high, same));
    usage_input = λ same. absurd (omega (arith, high, same));
    usage_out = λ same. absurd (omega (arith, high, same));
    usage_shelf = λ same. absurd (omega (arith, high, same));
    usage_net = λ same. absurd (omega (arith, high, same));
    usage_spawner = λ same. absurd (omega (arith, high, same));
    done = λ low. absurd (omega (arith, high, low));
    fails = λ above. inl failed;
    complete_run = λ ask program is made still.
        complete_run_told status words task old mid refused _ _ asks carried.ends carried.held told ask program is made
        (still_before still);
    complete_talk = λ key ask program is made still.
        complete_talk_told status words task old mid refused _ _ asks carried.ends carried.held told key ask program is
        made (still_before still);
    complete_tape = λ key ask program is made still.
        complete_tape_told status words task old mid refused _ _ asks carried.ends carried.held told key ask program is
        made (still_before still);
    complete_audit = λ key ask program is made still.
        complete_audit_told status words task old mid refused _ _ asks carried.ends carried.held told key ask program is
        made (still_before still);
    complete_dap = λ ask program is made still.
        complete_dap_told status words task old mid refused _ _ asks carried.ends carried.held told ask program is made
        (still_before still);
    complete_engine = λ address key ask program is made still.
        complete_engine_told status words task old mid refused _ _ asks carried.ends carried.held told address key ask
        program is made (still_before still);
    complete_async = λ address key ask program is made still.
        complete_async_told status words task old mid refused _ _ asks carried.ends carried.held told address key ask
        program is made (still_before still);
    refused = λ other ask why is asked makes.
        refused_told status old.shelf.faults new.shelf.faults refused.failure _ _ told
        ((carried.held ask (asks_program words task other ask asks is asked)).by_files (Err why) makes);
    complete_show = complete_show_fails status words old new failed;
    script_refused = script_refused_told status words task old mid refused _ _ asks carried.ends told;
    script_held = script_held_told status words task old mid refused _ _ asks carried.ends told;
    complete_ide = λ port script instructions is told_files held still.
        complete_ide_told status words task old mid refused _ _ asks carried.ends told port script instructions is
        told_files held (still_before still);
    list_refused = list_refused_told status words task old mid refused _ _ asks carried.ends told;
    list_held = list_held_told status words task old mid refused _ _ asks carried.ends told;
    replay_refused = λ events ask list why is held makes.
        refused_told status old.shelf.faults new.shelf.faults refused.failure _ _ told
        ((carried.replay_held events ask (asks_replay words task events ask asks is)).by_files (Err why) makes list
        held);
    complete_replay = λ events ask list program is held makes still.
        complete_replay_told status words task old mid refused _ _ asks carried.ends told events ask list is makes.tells
        held ((carried.replay_held events ask (asks_replay words task events ask asks is)).by_files (Ok program) makes
        list held) (still_before still);
    complete_soak = λ count seed is still.
        complete_soak_told status words task old mid refused _ _ asks carried.ends told count seed is
        (still_before still);
    complete_proxy = λ service is still.
        complete_proxy_told status words task old mid refused _ _ asks carried.ends told service is
        (still_before still);
    unshelved = λ other is off. carried.unshelved (asks_unshelved words task other asks is off);
    fetched = λ other is. asks_fetched words task other old.shelf.fetched new.shelf.fetched asks carried.fetched is;
    files = carried.goes_on.files;
    offline = λ other is off.
        offline_caused refused.failure refused.name.now words task other old mid asks carried.ends is off;
    unspawned = λ other is off. carried.unspawned (asks_unspawned words task other asks is off);
    shelf_later = carried.goes_on.shelf;
    input_later = carried.goes_on.input;
    out_later = carried.goes_on.out;
    err_later = omega (arith, carried.goes_on.err, later);
    net_later = carried.goes_on.net;
    returned_later = carried.goes_on.returned;
    spawner_later = carried.goes_on.spawner;
  }
