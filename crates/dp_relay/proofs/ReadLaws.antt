-- What is read of a command, piece by piece.
use Rattle.std.proofs.Common.{◌≡◌, ℕ, ◌+◌, ◌-◌, ◌<◌, ◌≤◌, true, List, ◌∷◌, ◌++◌, length, take, drop, slice_range, Some, None, Ok}
use Rattle.std.proofs.Common.{refl, sym, ap, subst, ◌∙◌, inl, inr, append_assoc, arith, take-add, take-take, length-take-le, length-drop}
use Rattle.std.proofs.lemmas.Bool.{and_from, false_from_ne_true}
use Rattle.std.proofs.lemmas.List.Folds.{list_all-append}
use Rattle.std.specs.Io.KnownBytes.{Appends, Consumes, IsAtEnd}
use Rattle.dp_outside.specs.Reports.{StaysSilent}
use Rattle.dp_wire.specs.Frames.{has_no_nul, up_to_nul, FirstNul}
use Rattle.dp_wire.proofs.FrameLaws.{no_nul-at}
use Rattle.dp_lanes.proofs.RestLaws.{all_up, up_before}
use Rattle.dp_relay.specs.Ends.{Ends, Gave}
use Rattle.dp_relay.specs.Asked.{read_limit}
use Rattle.dp_relay.specs.inner.Reading.{HasRead, Heard}
use Rattle.dp_relay.proofs.EndLaws.{gives_none, gives_on}

both_clean : (a b : List ℕ) → has_no_nul a ≡ true → has_no_nul b ≡ true → has_no_nul (a ++ b) ≡ true
both_clean a b p q = list_all-append _ a b ∙ and_from _ _ p q

-- ---- pieces

pub starts : (x : Ends) (buffer : List ℕ) → length buffer ≡ read_limit → HasRead x x buffer 0
starts x buffer room =
    record { room = room; within = omega arith; gave = gives_none x.left x.given; no_nul = refl; held = refl }

-- one more take, behind `count` bytes of the buffer
module _ (x y z : Ends) (buffer now : List ℕ) (count : ℕ) (has : HasRead x y buffer count)
    (room : length now ≡ length buffer) (front : take count now ≡ take count buffer)
    (untold_given : StaysSilent y.given z.given) (untold_left : StaysSilent y.left z.left)
    (more : ℕ) (given : Appends y.given z.given (take more (drop count now)))
    (left : Consumes y.left z.left (take more (drop count now))) (held : z.source_faults ≡ y.source_faults)
    (within : count + more ≤ length buffer) where
  abbrev piece : List ℕ
  piece = take more (drop count now)

  joined : take (count + more) now ≡ take count buffer ++ piece
  joined = take-add count more now ∙ ap (λ l. l ++ piece) front

  size : length (take (count + more) now) ≡ count + more
  size = length-take-le (count + more) now (omega (arith, room, within))

  long : length piece ≡ more
  long = length-take-le more (drop count now) (omega (arith, room, within, length-drop count now))

  gave : Gave x z (take (count + more) now)
  gave =
      subst (Gave x z) (sym joined) (gives_on x.left y.left z.left x.given y.given z.given (take count buffer) piece
      has.gave (record { given = given; left = left; untold_given = untold_given; untold_left = untold_left }))

  cut : (count + more) - count ≡ more
  cut = omega arith

  pub goes_on : FirstNul (slice_range now count (count + more)) None → HasRead x z now (count + more)
  goes_on found =
      let none : has_no_nul piece ≡ true = subst (λ n. has_no_nul (take n (drop count now)) ≡ true) cut found in
      record {
        room = room ∙ has.room;
        within = omega (arith, within, has.room);
        gave = gave;
        no_nul = ap has_no_nul joined ∙ both_clean (take count buffer) piece has.no_nul none;
        held = held ∙ has.held;
      }

  -- the end of the input
  pub comes_to_end : more ≡ 0 → IsAtEnd z.left → count < read_limit → Heard x z now (Ok count)
  comes_to_end none end below =
      let same : count + more ≡ count = omega (arith, none) in
      let clean : has_no_nul (take count now) ≡ true = ap has_no_nul front ∙ has.no_nul in
      let short : length (take count now) ≡ count = subst (λ n. length (take n now) ≡ n) same size in
      record {
        read = take count now;
        gave = subst (λ n. Gave x z (take n now)) same gave;
        by = (
          record {
            within = omega (arith, short, has.within);
            ended = inr (omega (arith, short, below), end);
          },
          held ∙ has.held,
          sym (all_up (take count now) clean),
          omega (arith, room, has.room, below),
        );
      }

  -- the first NUL
  pub comes_whole : (place : ℕ) → FirstNul (slice_range now count (count + more)) (Some place)
      → place < length (slice_range now count (count + more)) → Heard x z now (Ok (count + place))
  comes_whole place found within_it =
      let first : FirstNul piece (Some place) =
      subst (λ n. FirstNul (take n (drop count now)) (Some place)) cut found in
      let below : place < length piece = subst (λ n. place < length (take n (drop count now))) cut within_it in
      let rest = drop (place + 1) piece in
      let before : List ℕ = take count buffer ++ take place piece in
      let whole : take (count + more) now ≡ before ++ 0 ∷ rest = joined ∙ ap (λ l. take count buffer ++ l) first.1
      ∙ sym (append_assoc (take count buffer) (take place piece) (0 ∷ rest)) in
      let up : up_to_nul (take (count + more) now) ≡ before = ap up_to_nul whole
      ∙ up_before before rest (both_clean (take count buffer) (take place piece) has.no_nul first.0) in
      let kept : take (count + place) now ≡ before = take-add count place now
      ∙ ap (λ l. l ++ take place (drop count now)) front
      ∙ ap (λ l. take count buffer ++ l)
      (sym (take-take place more (drop count now) (omega (arith, long, below)))) in
      record {
        read = take (count + more) now;
        gave = gave;
        by = (
          record {
            within = omega (arith, size, within, has.room);
            ended = inl (false_from_ne_true (has_no_nul (take (count + more) now)) (λ h. no_nul-at before rest
                (subst (λ l. has_no_nul l ≡ true) whole h)));
          },
          held ∙ has.held,
          kept ∙ sym up,
          omega (arith, room, within, long, below),
        );
      }
