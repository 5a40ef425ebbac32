use Rattle.std.proofs.Common.{◌≡◌, ℕ, ◌∷◌, ◌++◌, List, Some, option_map, sym, subst, ◌∙◌}
use Rattle.dp_events.specs.inner.Spelling.{byte_in, pairs}
use Rattle.dp_events.proofs.HexLaws.{pairs_more}
use Rattle.dp_events.proofs.hex.pairs.Goals as goal

pub pairs-preserved : goal.pairs-preserved
pairs-preserved c =
    let whole : c.pairs.rest.now ≡ c.in-Some.high ∷ c.in-Some.low ∷ c.in-Some.more.now = c.in-Some.ensures in
    let byte : byte_in c.in-Some.high c.in-Some.low ≡ Some c.in-Some-byte_in.byte = sym c.byte_in.ensures
    ∙ c.in-Some-byte_in.is in
    subst (λ (l : List ℕ). pairs c.args.part.now ≡ option_map (λ bs. l ++ bs) (pairs c.in-Some.more.now))
    (sym c.in_ok-push.ensures.items)
    (pairs_more c.args.part.now c.pairs.bytes.items c.pairs.rest.now c.pairs.invariant c.in-Some.high c.in-Some.low
    c.in-Some-byte_in.byte
    c.in-Some.more.now whole byte)
