use Rattle.std.proofs.Common.{◌≡◌, ◌⊎◌, Result, Ok, [], List, length, sym, ◌∙◌, subst, arith}
use Rattle.std.proofs.lemmas.List.{length-map, nil_from_length}
use Rattle.dp_bundle.specs.declared.errors.BundleError.TheVariants.{Memory}
use Rattle.dp_tree.specs.declared.bundle.Bundle.{Bundle}
use Rattle.dp_bundle.specs.declared.errors.BundleError.{BundleError}
use Rattle.dp_tree.specs.declared.bundle.BundleFile.{BundleFile}
use Rattle.dp_bundle.specs.Bundles.{Given, IsAnswer, IsRefused, Makes}
use Rattle.dp_bundle.proofs.MadeFiles.{IsMadeOrStarved, IsReadSoFar, read_first, read_next, refused_made, refused_only, all_made, all_only}
use Rattle.dp_bundle.proofs.from_texts.bundle_of.Goals as goal

pub loop-name-init : goal.loop-name-init
loop-name-init c =
    let given = c.into_iter-name-iterator.ensures.into_iter_gives.0 ∙ c.into_vec-name-items.ensures in (
      tt,
      tt,
      subst (λ (made : List BundleFile). IsReadSoFar c.args.files made c.into_iter-name-iterator.result.rest.items)
          (sym c.new-made.ensures.items)
          (subst (λ (rest : List Given). IsReadSoFar c.args.files [] rest) (sym given) (read_first c.args.files)),
    )

pub overflow_cast-len : goal.overflow_cast-len
overflow_cast-len c =
    omega (
      arith,
      c.len.ensures,
      c.loop-name.invariant.2.counted,
      c.requires.few,
      length-map c.args.files (λ (file : Given). file.0),
    )

pub loop-name-preserved : goal.loop-name-preserved
loop-name-preserved c =
    let so_far = subst (λ (rest : List Given). IsReadSoFar c.args.files c.loop-name.made.items rest)
    c.in-Some.ensures.steps.0 c.loop-name.invariant.2 in
    let number : length c.loop-name.made.items ≡ c.len.result = omega (arith, c.len.ensures) in (
      tt,
      tt,
      subst (λ (made : List BundleFile). IsReadSoFar c.args.files made c.next.new.self.rest.items)
          (sym c.in_ok-push.ensures.items)
          (read_next c.args.files c.loop-name.made.items (c.in-Some.name, c.in-Some.text) c.next.new.self.rest.items
          so_far c.in-Ok.file
          c.in-Ok.ensures.made c.in-Ok.ensures.only
          (λ why h. c.in-Ok.ensures.refuses why (subst (λ n. IsRefused n c.in-Some.text why) number h))),
    )

pub returns-in-Err-clause-made : goal.returns-in-Err-clause-made
returns-in-Err-clause-made c =
    let so_far = subst (λ (rest : List Given). IsReadSoFar c.args.files c.loop-name.made.items rest)
    c.in-Some.ensures.steps.0 c.loop-name.invariant.2 in
    let number : length c.loop-name.made.items ≡ c.len.result = omega (arith, c.len.ensures) in
    refused_made c.args.files c.loop-name.made.items (c.in-Some.name, c.in-Some.text) c.next.new.self.rest.items so_far
    c.in-Err.why
    (subst (λ n. (c.in-Err.why ≡ Memory) ⊎ IsRefused n c.in-Some.text c.in-Err.why) (sym number) c.in-Err.ensures.cause)

pub returns-in-Err-clause-only : goal.returns-in-Err-clause-only
returns-in-Err-clause-only c =
    let so_far = subst (λ (rest : List Given). IsReadSoFar c.args.files c.loop-name.made.items rest)
    c.in-Some.ensures.steps.0 c.loop-name.invariant.2 in
    let number : length c.loop-name.made.items ≡ c.len.result = omega (arith, c.len.ensures) in
    refused_only c.args.files c.loop-name.made.items (c.in-Some.name, c.in-Some.text) c.next.new.self.rest.items so_far
    c.in-Err.why
    c.in-Err.ensures.only (λ why h. c.in-Err.ensures.refuses why (subst (λ n. IsRefused n c.in-Some.text why) number h))

pub returns-clause-made : goal.returns-clause-made
returns-clause-made c =
    let ended : c.loop-name.name-iterator.rest.items ≡ [] = nil_from_length _
    (sym c.loop-name.name-iterator.rest.ok.0 ∙ c.in-None.ensures.steps.0) in
    subst (λ (files : List BundleFile). IsMadeOrStarved c.args.files (Ok (record { files = files })))
    (sym (c.in_ok-files.ensures ∙ c.of.ensures))
    (all_made c.args.files c.loop-name.made.items (subst (λ
    (rest : List Given). IsReadSoFar c.args.files c.loop-name.made.items rest) ended c.loop-name.invariant.2))

pub returns-clause-only : goal.returns-clause-only
returns-clause-only c =
    let ended : c.loop-name.name-iterator.rest.items ≡ [] = nil_from_length _
    (sym c.loop-name.name-iterator.rest.ok.0 ∙ c.in-None.ensures.steps.0) in
    subst (λ (files : List BundleFile). (asked : Result Bundle BundleError) → Makes c.args.files asked
    → IsAnswer asked (Ok (record { files = files }))) (sym (c.in_ok-files.ensures ∙ c.of.ensures))
    (all_only c.args.files c.loop-name.made.items (subst (λ (rest : List Given). IsReadSoFar c.args.files
    c.loop-name.made.items rest) ended c.loop-name.invariant.2))
