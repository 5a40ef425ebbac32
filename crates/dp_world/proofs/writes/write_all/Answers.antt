use Rattle.std.proofs.Common.{◌≡◌, ℕ, ◌∷◌, [], ◌++◌, ap, sym, subst, ◌∙◌, append_assoc, append-nil, arith}
use Rattle.std.specs.Io.KnownBytes.{Appends}
use Rattle.std.proofs.lemmas.Result.{err_from_is_err_and}
use Rattle.dp_world.specs.declared.shown.Shown.{Shown}
use Rattle.dp_world.specs.inner.LinkLines.{AllShown, lines_of}
use Rattle.dp_world.proofs.TranscriptLaws.{all_shown, next_shown, wrote_one, wrote_some}
use Rattle.dp_world.proofs.writes.write_all.Goals as goal

pub links-preserved : goal.links-preserved
links-preserved g c =
    let k = g.A.Engines.known c.args.engines.now in
    let so_far = c.links.invariant.1 in
    let done = so_far.0 in
    let rest = c.next.new.self in
    let e : ℕ × Shown _ _ = (c.in-Some.link, c.in-Some.shown) in
    let here : c.into_iter-left.result ≡ done ++ e
    ∷ rest = so_far.1 ∙ ap (λ (l : _). done ++ l) c.in-Some.ensures.steps in
    let before = c.links.invariant.0 in
    let later = c.in_ok-write_one.ensures.later in (
      omega arith,
      (
        done ++ e ∷ [],
        here ∙ sym (append_assoc done (e ∷ []) rest),
        λ past all.
            wrote_one k past done e (g.K.Sink.taken c.args.out.now) (g.K.Sink.taken c.links.out)
            (g.K.Sink.taken c.write_one.new.out)
            (so_far.2 past all)
            (c.in_ok-write_one.ensures.writes (past.link c.in-Some.link)
            (next_shown k past done e rest (subst (AllShown k past) here all))),
      ),
    )

pub returns-in_err-write_one-clause-writes : goal.returns-in_err-write_one-clause-writes
returns-in_err-write_one-clause-writes g c = λ past are.
    let k = g.A.Engines.known c.args.engines.now in
    let p = err_from_is_err_and c.from_residual.result c.from_residual.ensures.1 in
    let so_far = c.links.invariant.1 in
    let done = so_far.0 in
    let rest = c.next.new.self in
    let e : ℕ × Shown _ _ = (c.in-Some.link, c.in-Some.shown) in
    let gives = c.into_iter-left.ensures.into_iter_gives in
    let here : c.into_iter-left.result ≡ done ++ e
    ∷ rest = so_far.1 ∙ ap (λ (l : _). done ++ l) c.in-Some.ensures.steps in
    let all = subst (AllShown k past) (sym gives.0)
    (all_shown k past c.args.links.entries gives.4 are) in
    rw (p.1, p.2, sym gives.0 ∙ here)
    (wrote_some k past done e (g.K.Sink.taken c.args.out.now) (g.K.Sink.taken c.links.out)
    (g.K.Sink.taken c.write_one.new.out)
    (so_far.2 past all) rest c.in_err-write_one.field-0.0 (g.K.Sink.faults c.args.out.now)
    (g.K.Sink.faults c.links.out) (g.K.Sink.faults c.write_one.new.out)
    c.links.invariant.0
    (c.in_err-write_one.ensures.writes (past.link c.in-Some.link)
    (next_shown k past done e rest (subst (AllShown k past) here all))))

pub returns-clause-writes : goal.returns-clause-writes
returns-clause-writes g c = λ past are.
    let k = g.A.Engines.known c.args.engines.now in
    let so_far = c.links.invariant.1 in
    let done = so_far.0 in
    let gives = c.into_iter-left.ensures.into_iter_gives in
    let all = subst (AllShown k past) (sym gives.0)
    (all_shown k past c.args.links.entries gives.4 are) in
    let same : c.args.links.entries ≡ done = sym gives.0 ∙ so_far.1 ∙ ap
    (λ (l : _). done ++ l) c.in_default.ensures.steps.0 ∙ append-nil done in
    subst (λ (l : _). Appends (g.K.Sink.taken c.args.out.now) (g.K.Sink.taken c.links.out)
    (lines_of k past l)) (sym same)
    (so_far.2 past all)
