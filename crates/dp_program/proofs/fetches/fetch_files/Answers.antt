use Rattle.std.proofs.Common.{◌≡◌, ℕ, List, [], ◌∷◌, length, string_bytes, refl, sym, ◌∙◌, subst, arith}
use Rattle.dp_outside.specs.Reports.{grown}
use Rattle.dp_program.proofs.GrownNames.{grown_by_none}
use Rattle.dp_program.specs.Programs.{AreFetched}
use Rattle.dp_program.specs.inner.Steps.{FetchCaused, IsNext}
use Rattle.dp_program.proofs.RunLaws.{fetched_none, so_many, one_more, none_more, all_fetched, all_requested, requested_last}
use Rattle.dp_program.proofs.RunLaws.{requested_more, unread}
use Rattle.dp_program.proofs.fetches.fetch_files.Goals as goal

pub loop-name-init : goal.loop-name-init
loop-name-init g c =
    (omega arith, refl, subst (AreFetched _ _) (sym c.new-fetched.ensures.items) (fetched_none _), grown_by_none _)

pub fetch_next-requires : goal.fetch_next-requires
fetch_next-requires g c =
    let many = so_many _ c.args.names.now c.loop-name.name-index c.loop-name.fetched.items c.loop-name.invariant.2
    c.loop-name-test.true in
    omega (arith, many, c.loop-name-test.true, c.requires)

pub returns-in-Err-clause-err : goal.returns-in-Err-clause-err
returns-in-Err-clause-err g c =
    let first = g.H.Shelf.faults c.args.shelf.now in
    let before = g.H.Shelf.faults c.loop-name.shelf in
    let after = g.H.Shelf.faults c.fetch_next.new.shelf in
    let files = g.H.Shelf.files c.args.shelf.now in
    none_more files c.args.names.now c.loop-name.name-index c.loop-name.fetched.items c.loop-name.invariant.2
    c.loop-name-test.true
    c.in-Err.why c.name-item.result first before after c.name-item.is c.loop-name.invariant.0
    (subst (λ fs. FetchCaused c.in-Err.why (length c.loop-name.fetched.items) (string_bytes c.name-item.result) fs
    before after) c.loop-name.invariant.1
    (subst
    (λ (name : List ℕ). FetchCaused c.in-Err.why (length c.loop-name.fetched.items) name
    (g.H.Shelf.files c.loop-name.shelf) before after) c.as_str.ensures.value c.in-Err.ensures.err))

pub returns-in-Err-clause-unread : goal.returns-in-Err-clause-unread
returns-in-Err-clause-unread g c = unread c.in-Err.why _ _ _ _ _ c.in-Err.ensures.err

pub returns-in-Err-clause-asked : goal.returns-in-Err-clause-asked
returns-in-Err-clause-asked g c =
    let before = g.H.Shelf.faults c.loop-name.shelf in
    let after = g.H.Shelf.faults c.fetch_next.new.shelf in
    let files = g.H.Shelf.files c.args.shelf.now in
    let start = g.H.Shelf.fetched c.args.shelf.now in
    let asked =
    subst (λ (name : List ℕ). g.H.Shelf.fetched c.fetch_next.new.shelf ≡ grown (g.H.Shelf.fetched c.loop-name.shelf)
    (name ∷ [])) c.as_str.ensures.value c.fetch_next.ensures.asked in
    let far = requested_more files c.args.names.now c.loop-name.name-index c.loop-name.fetched.items
    c.loop-name.invariant.2 c.loop-name-test.true
    c.name-item.result start (g.H.Shelf.fetched c.loop-name.shelf) (g.H.Shelf.fetched c.fetch_next.new.shelf)
    c.name-item.is c.loop-name.invariant.3 asked in
    requested_last files c.args.names.now c.loop-name.name-index c.loop-name.fetched.items c.loop-name.invariant.2
    c.loop-name-test.true
    c.in-Err.why c.name-item.result before after start (g.H.Shelf.fetched c.fetch_next.new.shelf) far
    (subst (λ fs. FetchCaused c.in-Err.why (length c.loop-name.fetched.items) (string_bytes c.name-item.result) fs
    before after) c.loop-name.invariant.1
    (subst
    (λ (name : List ℕ). FetchCaused c.in-Err.why (length c.loop-name.fetched.items) name
    (g.H.Shelf.files c.loop-name.shelf) before after) c.as_str.ensures.value c.in-Err.ensures.err))

pub loop-name-preserved : goal.loop-name-preserved
loop-name-preserved g c =
    let files = g.H.Shelf.files c.args.shelf.now in (
      omega (arith, c.loop-name.invariant.0, c.fetch_next.ensures.later),
      c.fetch_next.ensures.files ∙ c.loop-name.invariant.1,
      one_more files c.args.names.now c.loop-name.name-index c.loop-name.fetched.items c.loop-name.invariant.2
          c.loop-name-test.true
          c.name-item.result c.fetch_next.new.fetched.items c.name-item.is
          (subst
          (λ fs. IsNext fs (string_bytes c.name-item.result) c.loop-name.fetched.items
          c.fetch_next.new.fetched.items) c.loop-name.invariant.1
          (subst (λ (name : List ℕ). IsNext (g.H.Shelf.files c.loop-name.shelf) name c.loop-name.fetched.items
          c.fetch_next.new.fetched.items) c.as_str.ensures.value c.in-Ok.ensures.ok)),
      requested_more files c.args.names.now c.loop-name.name-index c.loop-name.fetched.items c.loop-name.invariant.2
          c.loop-name-test.true
          c.name-item.result (g.H.Shelf.fetched c.args.shelf.now) (g.H.Shelf.fetched c.loop-name.shelf)
          (g.H.Shelf.fetched c.fetch_next.new.shelf) c.name-item.is c.loop-name.invariant.3
          (subst
          (λ (name : List ℕ). g.H.Shelf.fetched c.fetch_next.new.shelf ≡ grown (g.H.Shelf.fetched c.loop-name.shelf)
          (name ∷ [])) c.as_str.ensures.value c.fetch_next.ensures.asked),
    )

pub returns-clause-ok : goal.returns-clause-ok
returns-clause-ok g c =
    subst (AreFetched _ _) (sym c.of.ensures)
    (all_fetched _ c.args.names.now c.loop-name.name-index c.loop-name.fetched.items c.loop-name.invariant.2
    c.loop-name-test.false)

pub returns-clause-asked : goal.returns-clause-asked
returns-clause-asked g c = all_requested c.args.names.now c.loop-name.name-index _ _ c.loop-name.invariant.3
    c.loop-name-test.false
