-- The URI of a file names that file.
use Rattle.std.proofs.Common.{◌≡◌, ℕ, zero, suc, ◌+◌, ◌^◌, ◌<◌, ◌==◌, Bool, true, false, cond, List, [], ◌∷◌, map, Some, nat_eq, slice_get, refl, sym, ap, subst, ◌∙◌, arith}
use Rattle.std.specs.Prelude.{All, codes, position}
use Rattle.std.specs.List.{AllByRecursion, IsDistinct, position_from, starts_with}
use Rattle.std.specs.Str.{bytes_eq}
use Rattle.std.proofs.lemmas.Bool.{eqb-true}
use Rattle.std.proofs.lemmas.Slice.Eq.{bytes_eq-Decides}
use Rattle.std.proofs.lemmas.Iterator.Adapters.{position_from-zero}
use Rattle.std.proofs.lemmas.Map.Keys.{IsDistinct-head, IsDistinct-tail}
use Rattle.percent_encoding.specs.Percent.{percent_decode}
use Rattle.percent_encoding.proofs.PercentLemmas.{round_trip}
use Rattle.dp_packet.specs.Uris.{file_uri}
use Rattle.dp_packet.proofs.UriLaws.{IsByte, same_bytes, small_rest}
use Rattle.dp_tree.specs.declared.bundle.Bundle.{Bundle}
use Rattle.dp_tree.specs.declared.bundle.BundleFile.{BundleFile}
use Rattle.dp_tree.specs.FileNames.{AreFileNames}
use Rattle.dp_bytes.specs.Names.{without_slash}
use Rattle.dp_file_uris.specs.Files.{file_like, name_in, requested_file}

-- ---- names

named : (name : List ℕ) → All IsByte name → name_in (file_uri name) ≡ without_slash name
unfolding name_in file_uri
named name small =
    let rest = without_slash name in
    let bytes = small_rest name small in
    ap percent_decode (sym (same_bytes rest bytes)) ∙ round_trip _ rest refl bytes

-- one slash is taken off once
one_slash : (name : List ℕ) → starts_with nat_eq name (codes "//") ≡ false
    → without_slash (without_slash name) ≡ without_slash name
one_slash [] apart = refl
one_slash (b ∷ name) apart = by (b == 47) refl where
  second : (t : List ℕ) → starts_with nat_eq (47 ∷ t) (codes "//") ≡ false → without_slash t ≡ t
  second [] h = refl
  second (c ∷ t) h = ap (λ u. cond u t (c ∷ t)) (other (c == 47) refl) where
    other : (u : Bool) → (c == 47) ≡ u → u ≡ false
    other false e = refl
    other true e =
        let both : true ≡ false = subst (λ (d : ℕ). starts_with nat_eq (47 ∷ d ∷ t) (codes "//") ≡ false)
        (eqb-true c 47 e) h in
        absurd cc

  by : (t : Bool) → (b == 47) ≡ t → without_slash (cond t name (b ∷ name)) ≡ cond t name (b ∷ name)
  by true e =
      second name (subst (λ (c : ℕ). starts_with nat_eq (c ∷ name) (codes "//") ≡ false) (eqb-true b 47 e) apart)
  by false e = ap (λ u. cond u name (b ∷ name)) e

-- ---- files

-- the place of one of distinct names
placed : (files : List BundleFile) (k n : ℕ) (file : BundleFile)
    → IsDistinct bytes_eq (map without_slash (map (λ f. f.name) files)) → slice_get files n ≡ Some file
    → position_from (λ f. bytes_eq (without_slash f.name) (without_slash file.name)) k files ≡ Some (k + n)
placed [] k n file apart at = absurd cc
placed (f ∷ files) k zero file apart at =
    let same : f ≡ file = cc in
    let here : bytes_eq (without_slash f.name) (without_slash file.name) ≡ true =
    subst (λ (g : BundleFile). bytes_eq (without_slash f.name) (without_slash g.name) ≡ true) same
    ((bytes_eq-Decides (without_slash f.name) (without_slash f.name)).1 refl) in
    let none : k ≡ k + 0 = omega arith in
    ap (λ b. cond b (Some k) (position_from (λ f. bytes_eq (without_slash f.name) (without_slash file.name))
    (k + 1) files)) here ∙ ap (λ m. Some m) none
placed (f ∷ files) k (suc n) file apart at =
    let more : (k + 1) + n ≡ k + suc n = omega arith in
    ap (λ b. cond b (Some k) (position_from (λ f. bytes_eq (without_slash f.name) (without_slash file.name))
    (k + 1) files))
    (other files n file (IsDistinct-head bytes_eq (without_slash f.name)
    (map without_slash (map (λ f. f.name) files)) apart) at)
    ∙ placed files (k + 1) n file (IsDistinct-tail bytes_eq (without_slash f.name)
    (map without_slash (map (λ f. f.name) files)) apart) at
    ∙ ap (λ m. Some m) more
  where
    other : (files : List BundleFile) (n : ℕ) (file : BundleFile)
        → AllByRecursion (λ y. bytes_eq (without_slash f.name) y ≡ false) (map without_slash (map (λ f. f.name) files))
        → slice_get files n ≡ Some file → bytes_eq (without_slash f.name) (without_slash file.name) ≡ false
    other [] n file all at = absurd cc
    other (g ∷ files) zero file all at =
        let same : g ≡ file = cc in subst (λ (h : BundleFile). bytes_eq (without_slash f.name)
        (without_slash h.name) ≡ false) same all.0
    other (g ∷ files) (suc n) file all at = other files n file all.1 at

pub read_back : (bundle : Bundle) (number : ℕ) (file : BundleFile) → AreFileNames (map (λ f. f.name) bundle.files)
    → All (λ byte. byte < 2 ^ 8) file.name
    → slice_get bundle.files number ≡ Some file → starts_with nat_eq file.name (codes "//") ≡ false
    → requested_file bundle (file_uri file.name) ≡ Some number
unfolding file_like
read_back bundle number file names small at apart =
    let none : 0 + number ≡ number = omega arith in
    ap (λ (n : List ℕ). position (λ f. bytes_eq (without_slash f.name) (without_slash n)) bundle.files)
    (named file.name small)
    ∙ ap (λ (n : List ℕ). position (λ f. bytes_eq (without_slash f.name) n) bundle.files) (one_slash file.name apart)
    ∙ position_from-zero (λ f. bytes_eq (without_slash f.name) (without_slash file.name)) bundle.files
    ∙ placed bundle.files 0 number file names.apart at
    ∙ ap (λ m. Some m) none
