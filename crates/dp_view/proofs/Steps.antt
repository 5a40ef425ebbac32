-- Lists that are made step by step: what stands at a position, and what is left.
use Rattle.std.proofs.Common.{◌≡◌, ℕ, zero, suc, ◌+◌, ◌*◌, ◌<◌, ◌≤◌, min, List, [], ◌∷◌, ◌++◌, length, map, take, drop, Option, Some, slice_get, refl, sym, ap, ◌∙◌, append_assoc, arith}
use Rattle.std.specs.List.{flat_map}
use Rattle.std.specs.Option.{option_map_or}
use Rattle.std.proofs.lemmas.List.{append-nil, drop_all, length-take, take_min, drop_min, drop-take}
use Rattle.dp_tree.specs.declared.bundle.Bundle.{Bundle}
use Rattle.dp_packet.specs.declared.packet.StackLine.{StackLine}
use Rattle.dp_state.specs.declared.state.Frame.{Frame}
use Rattle.dp_view.specs.Properties.{page_of}
use Rattle.dp_view.specs.Stacks.{lines_from}
use Rattle.dp_view.specs.inner.Additions.{line_of}

more : (n : ℕ) → suc n + 1 ≡ suc (n + 1)
more n = omega arith

pub flat_step : {A B : Type 0} (g : A → List B) (xs : List A) (at : ℕ)
    → flat_map g (drop at xs) ≡ option_map_or g (slice_get xs at) [] ++ flat_map g (drop (at + 1) xs)
flat_step g [] zero = refl
flat_step g [] (suc n) = ap (λ k. flat_map g (drop k [])) (sym (more n))
flat_step g (x ∷ xs) zero = refl
flat_step g (x ∷ xs) (suc n) =
    flat_step g xs n ∙ ap (λ k. option_map_or g (slice_get xs n) [] ++ flat_map g (drop k (x ∷ xs))) (sym (more n))

map_step : {A B : Type 0} (f : A → B) (xs : List A) (at : ℕ)
    → map f (drop at xs) ≡ option_map_or (λ x. f x ∷ []) (slice_get xs at) [] ++ map f (drop (at + 1) xs)
map_step f [] zero = refl
map_step f [] (suc n) = ap (λ k. map f (drop k [])) (sym (more n))
map_step f (x ∷ xs) zero = refl
map_step f (x ∷ xs) (suc n) =
    map_step f xs n ∙ ap (λ k. option_map_or (λ x. f x ∷ []) (slice_get xs n) [] ++ map f (drop k (x ∷ xs)))
    (sym (more n))

pub slice_get_front : {A : Type 0} (xs : List A) (at end : ℕ) → at < end → slice_get (take end xs) at ≡ slice_get xs at
slice_get_front xs at zero below = absurd (omega arith)
slice_get_front [] at (suc end) below = refl
slice_get_front (x ∷ xs) zero (suc end) below = refl
slice_get_front (x ∷ xs) (suc at) (suc end) below = slice_get_front xs at end (omega arith)

-- one more of the elements before an end
pub front_step : {A B : Type 0} (f : A → B) (xs : List A) (made next all : List B) (at end : ℕ) → at < end
    → made ++ map f (drop at (take end xs)) ≡ all
    → next ≡ made ++ option_map_or (λ x. f x ∷ []) (slice_get xs at) []
    → next ++ map f (drop (at + 1) (take end xs)) ≡ all
front_step {A} {B} f xs made next all at end below so_far added =
    let here : List B = option_map_or (λ x. f x ∷ []) (slice_get xs at) [] in
    let rest : List B = map f (drop (at + 1) (take end xs)) in
    let step : map f (drop at (take end xs)) ≡ here ++ rest =
    map_step f (take end xs) at
    ∙ ap (λ (o : Option A). option_map_or (λ x. f x ∷ []) o [] ++ rest) (slice_get_front xs at end below) in
    ap (λ (l : List B). l ++ rest) added ∙ append_assoc made here rest ∙ ap (λ (l : List B). made ++ l) (sym step)
    ∙ so_far

-- all of the elements before an end
pub front_all : {A B : Type 0} (f : A → B) (xs : List A) (made all : List B) (at end : ℕ) → end ≤ at
    → made ++ map f (drop at (take end xs)) ≡ all → made ≡ all
front_all {A} {B} f xs made all at end past so_far =
    sym (append-nil made)
    ∙ ap (λ (l : List A). made ++ map f l) (sym (drop_all at (take end xs) (omega (arith, length-take end xs))))
    ∙ so_far

-- one more of all elements
pub whole_step : {A B : Type 0} (g : A → List B) (xs : List A) (made next all : List B) (at : ℕ)
    → made ++ flat_map g (drop at xs) ≡ all
    → next ≡ made ++ option_map_or g (slice_get xs at) [] → next ++ flat_map g (drop (at + 1) xs) ≡ all
whole_step {A} {B} g xs made next all at so_far added =
    let here : List B = option_map_or g (slice_get xs at) [] in
    let rest : List B = flat_map g (drop (at + 1) xs) in
    ap (λ (l : List B). l ++ rest) added ∙ append_assoc made here rest
    ∙ ap (λ (l : List B). made ++ l) (sym (flat_step g xs at)) ∙ so_far

-- where a page is cut
pub page_cut : {A : Type 0} (page size start end : ℕ) (xs : List A) → start ≡ min (page * size) (length xs)
    → end ≡ min (start + size) (length xs) → drop start (take end xs) ≡ page_of page size xs
page_cut {A} page size start end xs s e =
    ap (λ k. drop start (take k xs)) e
    ∙ ap (drop start) (take_min (start + size) xs)
    ∙ drop-take start size xs
    ∙ ap (λ k. take size (drop k xs)) s
    ∙ ap (take size) (drop_min (page * size) xs)

-- ---- the stack

lines_step : (bundle : Bundle) (frames : List Frame) (level at : ℕ)
    → lines_from bundle level (drop at frames) ≡ line_of bundle level (slice_get frames at)
    ++ lines_from bundle (level + 1) (drop (at + 1) frames)
lines_step bundle [] level zero = refl
lines_step bundle [] level (suc n) = ap (λ k. lines_from bundle (level + 1) (drop k [])) (sym (more n))
lines_step bundle (f ∷ fs) level zero =
    let e : suc level ≡ level + 1 = omega arith in ap (λ k. line_of bundle level (Some f) ++ lines_from bundle k fs) e
lines_step bundle (f ∷ fs) level (suc n) =
    lines_step bundle fs level n
    ∙ ap (λ k. line_of bundle level (slice_get fs n) ++ lines_from bundle (level + 1) (drop k (f ∷ fs)))
    (sym (more n))

-- one more of all levels
pub level_step : (bundle : Bundle) (frames : List Frame) (made next all : List StackLine) (level : ℕ)
    → made ++ lines_from bundle level (drop level frames) ≡ all
    → next ≡ made ++ line_of bundle level (slice_get frames level)
    → next ++ lines_from bundle (level + 1) (drop (level + 1) frames) ≡ all
level_step bundle frames made next all level so_far added =
    let here : List StackLine = line_of bundle level (slice_get frames level) in
    let rest : List StackLine = lines_from bundle (level + 1) (drop (level + 1) frames) in
    ap (λ (l : List StackLine). l ++ rest) added ∙ append_assoc made here rest
    ∙ ap (λ (l : List StackLine). made ++ l) (sym (lines_step bundle frames level level)) ∙ so_far
