use Rattle.std.proofs.Common.{◌≡◌, ◌<◌, ◌+◌, ◌-◌, ◌∷◌, ◌++◌, [], length, length-append, refl, sym, ◌∙◌, ap, arith, rules}
use Rattle.std.proofs.lemmas.List.{nil_from_length}
use Rattle.dp_crews.specs.inner.Hires.{Hired, IsEngines, roster}
use Rattle.dp_crews.proofs.AccountLaws.{folds_more}
use Rattle.dp_crews.proofs.HireLaws.{folds_end, some_left, taken_all}
use Rattle.dp_crews.proofs.hires.hire_engines.Goals as goal

pub loop-gate-preserved : goal.loop-gate-preserved
loop-gate-preserved g c =
    let i = c.loop-gate.invariant in
    let some : 0 < c.loop-gate.workers = omega (
      arith,
      i.3,
      c.args.gates.ok.0,
      some_left c.into_iter-gate-iterator.result c.loop-gate.yielded c.loop-gate.gate-iterator c.args.gates.items
          c.in-Some.gate c.next.new.self.rest.items c.loop-gate.yielded_by
          c.into_iter-gate-iterator.ensures.into_iter_gives.0 c.in-Some.ensures.steps.0,
    ) in
    let snoc : length (c.loop-gate.yielded ++ c.in-Some.gate ∷ []) ≡ length c.loop-gate.yielded + 1 =
    length-append c.loop-gate.yielded (c.in-Some.gate ∷ []) in (
      folds_more
          (λ gate. Hired (λ task. task.clerk) (λ task. task.port) (λ task. task.count) (IsEngines gate))
          c.loop-gate.yielded c.in-Some.gate (roster c.args.clerk.now c.args.tasks.now.items c.args.count)
          (roster c.loop-gate.clerk c.loop-gate.tasks.items c.loop-gate.left)
          (roster c.split.new.clerk c.push_reserved.new.self.items (c.loop-gate.left - c.part_of-part.result)) i.0
          (record {
            task = _;
            clerk = c.split.ensures.new;
            lost = c.split.ensures.left;
            port = refl;
            tasks = c.push_reserved.ensures.items;
            left = omega (arith, c.part_of-part.ensures.within);
          }),
      search rules,
      omega (arith, i.2, c.split.ensures.left.share, snoc),
      omega (arith, i.3, some, snoc),
      search rules,
      omega (arith, i.5, c.push_reserved.ensures.len, snoc),
      omega (arith, i.6, c.in-Some-pop.ensures.cases, snoc),
      search rules,
    )

pub returns-clause-hired : goal.returns-clause-hired
returns-clause-hired g c =
    let i = c.loop-gate.invariant in
    let all : c.loop-gate.yielded ≡ c.args.gates.items =
    taken_all c.into_iter-gate-iterator.result c.loop-gate.yielded c.args.gates.items c.loop-gate.gate-iterator
    c.loop-gate.yielded_by c.into_iter-gate-iterator.ensures.into_iter_gives.0
    (nil_from_length _ (sym c.loop-gate.gate-iterator.rest.ok.0 ∙ c.in-None.ensures.steps.0)) in
    let none : c.loop-gate.left ≡ 0 = search rules in
    folds_end _ c.loop-gate.yielded c.args.gates.items _ _ _ all
    (ap (λ n. roster c.loop-gate.clerk c.loop-gate.tasks.items n) none) i.0
