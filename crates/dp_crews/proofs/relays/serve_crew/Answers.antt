use Rattle.std.proofs.Common.{rules, ◌≡◌, ◌+◌, [], length, vec_len, sym, subst, inl, arith, ◌∙◌, MatchResult, OnOk}
use Rattle.std.specs.Prelude.{⊤}
use Rattle.dp_outside.specs.Causes.{Rose}
use Rattle.dp_crews.specs.Relays.{faults}
use Rattle.dp_crews.specs.Twins.{Each}
use Rattle.dp_crews.specs.inner.Crewed.{Crewed}
use Rattle.dp_crews.proofs.AllLaws.{untouched, zip_length}
use Rattle.dp_crews.proofs.CrewEndLaws.{crew_answered, crew_own, crew_shares}
use Rattle.dp_crews.proofs.relays.serve_crew.Goals as goal

pub returns-in_default-clause-crewed : goal.returns-in_default-clause-crewed
returns-in_default-clause-crewed g c =
    inl (untouched g.G.Gate c.args.ides.items, untouched g.H.Gate c.args.engines.items)

pub returns-in_default-account_of-clause-crewed : goal.returns-in_default-account_of-clause-crewed
returns-in_default-account_of-clause-crewed g c =
    inl (untouched g.G.Gate c.args.ides.items, untouched g.H.Gate c.args.engines.items)

pub gather-requires-clause-own : goal.gather-requires-clause-own
gather-requires-clause-own g c =
    let none : c.in-Ok.tasks.items ≡ [] = search rules in
    subst (λ z. Each (λ answer. MatchResult answer (λ over. OnOk over.over (over.clerk.desk ≡ z)) (λ task. ⊤))
    c.in-Ok-run_tasks.answers.items) c.requires.new.desk
    (crew_own g.G.Gate g.H.Gate g.D.Dialer g.P.Spawner (λ task. task.clerk) (λ task. task.port) (λ task. task.count)
    (λ over. over.closed) (λ over. over.clerk) (λ over. over.over) c.args.clerk
    (Rose (g.P.Spawner.faults c.args.spawner.now) (g.P.Spawner.faults c.run_tasks.new.spawner)) c.args.ides.items
    c.args.engines.items c.args.sizes.registrations c.args.sizes.sessions c.in-Ok.tasks.items
    c.hire_ides.new.tasks.items c.hire_ides.new.clerk c.hire_engines.new.clerk c.hire_engines.new.tasks.items
    c.in-Ok-run_tasks.answers.items none c.hire_ides.ensures.hired c.hire_engines.ensures.hired
    c.in-Ok-run_tasks.ensures.done)

pub gather-requires-clause-room : goal.gather-requires-clause-room
gather-requires-clause-room g c =
    let many : length c.in-Ok-run_tasks.answers.items ≡ length c.hire_engines.new.tasks.items =
    zip_length _ c.hire_engines.new.tasks.items c.in-Ok-run_tasks.answers.items c.in-Ok-run_tasks.ensures.done in
    let before : vec_len c.in-Ok.tasks ≡ 0 = search rules in
    let all : length c.in-Ok-run_tasks.answers.items ≡ vec_len c.args.ides + vec_len c.args.engines = omega (
      arith,
      many,
      c.hire_engines.new.tasks.ok.0,
      c.hire_ides.ensures.more,
      c.hire_engines.ensures.more,
      before,
    ) in
    record {
      ides = omega (arith, all, c.in-Ok-account_of.ensures.room.ides, c.len-askers.ensures, c.len-servers.ensures);
      engines = omega (
        arith,
        all,
        c.in-Ok-account_of.ensures.room.engines,
        c.len-askers.ensures,
        c.len-servers.ensures,
      );
    }

pub end_of-requires-clause-share : goal.end_of-requires-clause-share
end_of-requires-clause-share g c =
    let none : c.in-Ok.tasks.items ≡ [] = search rules in
    λ whole begun. sym (crew_shares g.G.Gate g.H.Gate g.D.Dialer g.P.Spawner (λ task. task.clerk) (λ task. task.port)
    (λ task. task.count)
    (λ over. over.closed) (λ over. over.clerk) (λ over. over.over) c.args.clerk
    (Rose (g.P.Spawner.faults c.args.spawner.now) (g.P.Spawner.faults c.run_tasks.new.spawner)) c.args.ides.items
    c.args.engines.items c.args.sizes.registrations c.args.sizes.sessions c.in-Ok.tasks.items
    c.hire_ides.new.tasks.items c.hire_ides.new.clerk c.hire_engines.new.clerk c.hire_engines.new.tasks.items
    c.in-Ok-run_tasks.answers.items none c.hire_ides.ensures.hired c.hire_engines.ensures.hired
    c.in-Ok-run_tasks.ensures.done c.gather.new.clerk c.in-Ok-account_of.account c.gather.new.account
    c.in-Ok-run_tasks.ensures.refused
    c.gather.ensures.took
    (record {
      no_ides = c.in-Ok-account_of.ensures.ides;
      no_engines = c.in-Ok-account_of.ensures.engines;
      tally = c.in-Ok-account_of.ensures.tally;
      whole = c.in-Ok-account_of.ensures.faultless.0;
      begun = c.in-Ok-account_of.ensures.faultless.1;
    }) c.requires.few whole begun) ∙ c.requires.new.share

pub returns-clause-crewed : goal.returns-clause-crewed
returns-clause-crewed g c =
    let none : c.in-Ok.tasks.items ≡ [] = search rules in
    let starts = faults (g.P.Spawner.faults c.args.spawner.now) (g.P.Spawner.faults c.run_tasks.new.spawner) in
    subst (λ k. Crewed g.G.Gate g.H.Gate c.args.ides.items c.args.engines.items c.args.sizes.registrations
    c.args.sizes.sessions starts k.items c.end_of.result.2.items c.end_of.result.0) (sym c.end_of.ensures.ides)
    (subst (λ k. Crewed g.G.Gate g.H.Gate c.args.ides.items c.args.engines.items c.args.sizes.registrations
    c.args.sizes.sessions starts c.gather.new.account.ides.items k.items c.end_of.result.0)
    (sym c.end_of.ensures.engines)
    (crew_answered g.G.Gate g.H.Gate g.D.Dialer g.P.Spawner (λ task. task.clerk) (λ task. task.port)
    (λ task. task.count)
    (λ over. over.closed) (λ over. over.clerk) (λ over. over.over) c.args.clerk
    (Rose (g.P.Spawner.faults c.args.spawner.now) (g.P.Spawner.faults c.run_tasks.new.spawner)) c.args.ides.items
    c.args.engines.items c.args.sizes.registrations c.args.sizes.sessions c.in-Ok.tasks.items
    c.hire_ides.new.tasks.items c.hire_ides.new.clerk c.hire_engines.new.clerk c.hire_engines.new.tasks.items
    c.in-Ok-run_tasks.answers.items none c.hire_ides.ensures.hired c.hire_engines.ensures.hired
    c.in-Ok-run_tasks.ensures.done c.gather.new.clerk c.in-Ok-account_of.account c.gather.new.account
    c.in-Ok-run_tasks.ensures.refused
    c.gather.ensures.took
    (record {
      no_ides = c.in-Ok-account_of.ensures.ides;
      no_engines = c.in-Ok-account_of.ensures.engines;
      tally = c.in-Ok-account_of.ensures.tally;
      whole = c.in-Ok-account_of.ensures.faultless.0;
      begun = c.in-Ok-account_of.ensures.faultless.1;
    }) c.requires.few starts c.end_of.result.0 c.requires.new.made (λ r. r) c.end_of.ensures.ended))
