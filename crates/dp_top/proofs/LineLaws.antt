-- Bytes that are no script or no list of events, and the one content of a file.
use Rattle.std.proofs.Common.{◌≡◌, inl, inr, ℕ, ◌+◌, List, take, None, Some, IsSome, refl, sym, ap, ◌∙◌}
use Rattle.dp_outside.specs.Files.{Fetches, Lacks}
use Rattle.dp_program.specs.Programs.{Files}
use Rattle.dp_top.specs.declared.failures.Failure.{Failure}
use Rattle.dp_top.specs.declared.failures.Failure.TheVariants as failure
use Rattle.dp_top.specs.Lines.{lines_limit}
use Rattle.dp_top.specs.inner.BadLines.{AreNone, UnreadSo}

-- why bytes of a file are none
pub bad_bytes : (first : List ℕ → ℕ → Type 0) (why : Failure) (name file bytes : List ℕ) (files : Files)
    (before after : ℕ)
    → Fetches files file lines_limit bytes → AreNone first why name bytes
    → UnreadSo first why name file files before after
bad_bytes first (failure.Script line) name file bytes files before after fetched bad =
    inr (bad.0, record { content = bytes; fetched = fetched; bad = bad.1 })
bad_bytes first failure.Memory name file bytes files before after fetched bad = inl refl
bad_bytes first failure.TooLong name file bytes files before after fetched bad = absurd bad
bad_bytes first (failure.Source reason number) name file bytes files before after fetched bad = absurd bad
bad_bytes first failure.ShelfFailed name file bytes files before after fetched bad = absurd bad
bad_bytes first failure.NoFile name file bytes files before after fetched bad = absurd bad
bad_bytes first (failure.Fatal kind line) name file bytes files before after fetched bad = absurd bad
bad_bytes first (failure.Bound steps) name file bytes files before after fetched bad = absurd bad
bad_bytes first failure.Output name file bytes files before after fetched bad = absurd bad
bad_bytes first (failure.Differs line wanted found) name file bytes files before after fetched bad = absurd bad
bad_bytes first failure.PeerEnd name file bytes files before after fetched bad = absurd bad
bad_bytes first (failure.Packet offset) name file bytes files before after fetched bad = absurd bad
bad_bytes first failure.Network name file bytes files before after fetched bad = absurd bad
bad_bytes first failure.Stopped name file bytes files before after fetched bad = absurd bad
bad_bytes first (failure.Lies line) name file bytes files before after fetched bad = absurd bad

-- a told file has one content
pub same_content : (files : Files) (name : List ℕ) (limit : ℕ) (one other : List ℕ) → IsSome files
    → Fetches files name limit one → Fetches files name limit other → one ≡ other
same_content None name limit one other told p q = absurd (cc)
same_content (Some files) name limit one other told p q =
    let both : Some p.0 ≡ Some q.0 = sym p.1 ∙ q.1 in
    let same : p.0 ≡ q.0 = cc in
    p.2 ∙ ap (λ (l : List ℕ). take (limit + 1) l) same ∙ sym q.2

-- what has a content is not lacking
pub held_or_lacking : (files : Files) (name : List ℕ) (content : List ℕ) → IsSome files
    → Fetches files name lines_limit content → Lacks files name → ⊥
held_or_lacking None name content told p lacks = absurd (cc)
held_or_lacking (Some files) name content told p lacks = let both : Some p.0 ≡ None = sym p.1 ∙ lacks in cc
