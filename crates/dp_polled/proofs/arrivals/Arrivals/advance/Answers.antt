use Rattle.std.proofs.Common.{◌≡◌, ◌<◌, ◌≤◌, ◌++◌, length, take, ap, sym, ◌∙◌, subst, arith}
use Rattle.std.proofs.lemmas.Grind.{common_steps}
use Rattle.dp_polled.specs.Arrivals.{Coming, first_bytes}
use Rattle.dp_polled.proofs.Coming.{moves_within, moves_on, place}
use Rattle.dp_polled.proofs.arrivals.Arrivals.advance.Goals as goal

pub returns-then-count-size-clause-given : goal.returns-then-count-size-clause-given
returns-then-count-size-clause-given c =
    let s = c.self.inside in
    let left = first_bytes (place s.all.items s.first s.at).left in
    let some : s.first < length s.all.items = grind (arith, common_steps) in
    let within : c.args.count < length left = grind (arith, common_steps) in
    ap (λ (p : Coming). p.given) (moves_within s.all.items s.first s.at c.args.count some within)
    ∙ ap (λ (p : Coming). p.given ++ take c.args.count (first_bytes p.left)) c.self.view_is

pub returns-else-count-size-clause-given : goal.returns-else-count-size-clause-given
returns-else-count-size-clause-given c =
    let s = c.self.inside in
    let left = first_bytes (place s.all.items s.first s.at).left in
    let some : s.first < length s.all.items = grind (arith, common_steps) in
    let least : length left ≤ c.args.count = grind (arith, common_steps) in
    let most : c.args.count ≤ length left =
    subst (λ (p : Coming). c.args.count ≤ length (first_bytes p.left)) (sym c.self.view_is) c.requires in
    let whole : c.args.count ≡ length left = omega (arith, least, most) in
    ap (λ (p : Coming). p.given) (moves_on s.all.items s.first s.at c.args.count some whole)
    ∙ ap (λ (p : Coming). p.given ++ take c.args.count (first_bytes p.left)) c.self.view_is
