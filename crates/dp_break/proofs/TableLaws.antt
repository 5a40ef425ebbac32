-- The calls keep what holds of the breakpoints that are held.
use Rattle.std.proofs.Common.{◌≡◌, ℕ, ◌+◌, ◌<◌, ◌≤◌, Bool, true, false, cond, ◌&&◌, List, [], ◌∷◌, ◌++◌, length, map, arith}
use Rattle.std.specs.Prelude.{filter, All}
use Rattle.std.proofs.lemmas.List.{length-append}
use Rattle.std.proofs.lemmas.List.Sums.{count_by-le-length, length-filter}
use Rattle.std.proofs.lemmas.List.Elements.{All-append, All-cons, All-filter, All-head, All-nil, All-push, All-tail}
use Rattle.dp_break.specs.declared.breakpoint.Breakpoint.{Breakpoint}
use Rattle.dp_break.specs.StopRule.{with_more}
use Rattle.dp_break.specs.inner.Marks.{one_settled, settled, stops_once_more}
use Rattle.dp_break.specs.Tables.{Ascend, IsSound, IsTable, Table, breakpoint_limit, last_id}

-- ---- orders

Ascend-lower : (low least : ℕ) (held : List Breakpoint) (next : ℕ) → low ≤ least → Ascend least held next
    → Ascend low held next
Ascend-lower low least [] next le a = omega arith
Ascend-lower low least (b ∷ held) next le a = (omega (arith, a.0), a.1)

Ascend-push : (least : ℕ) (held : List Breakpoint) (b : Breakpoint) (next : ℕ) → b.id ≡ next → Ascend least held next
    → Ascend least (held ++ b ∷ []) (next + 1)
Ascend-push least [] b next e a = (omega arith, omega arith)
Ascend-push least (c ∷ held) b next e a = (a.0, Ascend-push (c.id + 1) held b next e a.1)

pub Ascend-filter : (p : Breakpoint → Bool) (least : ℕ) (held : List Breakpoint) (next : ℕ) → Ascend least held next
    → Ascend least (filter p held) next
Ascend-filter p least [] next a = a
Ascend-filter p least (b ∷ held) next a = cases (p b) (Ascend-filter p (b.id + 1) held next a.1) where
  cases : (t : Bool) → Ascend (b.id + 1) (filter p held) next
      → Ascend least (cond t (b ∷ filter p held) (filter p held)) next
  cases true more = (a.0, more)
  cases false more = let le = a.0 in Ascend-lower least (b.id + 1) (filter p held) next (omega arith) more

pub Ascend-map : (f : Breakpoint → Breakpoint) → ((b : Breakpoint) → (f b).id ≡ b.id)
    → (least : ℕ) (held : List Breakpoint) (next : ℕ) → Ascend least held next → Ascend least (map f held) next
Ascend-map f same least [] next a = a
Ascend-map f same least (b ∷ held) next a =
    let le = a.0 in
    let e = same b in
    let more = Ascend-map f same (b.id + 1) held next a.1 in
    (omega arith, Ascend-lower ((f b).id + 1) (b.id + 1) (map f held) next (omega arith) more)

Ascend-settled : (least : ℕ) (marks : List Bool) (held : List Breakpoint) (next : ℕ) → Ascend least held next
    → Ascend least (settled marks held) next
Ascend-settled least [] held next a = a
Ascend-settled least (mark ∷ marks) [] next a = a
Ascend-settled least (mark ∷ marks) (b ∷ held) next a =
    cases mark (stops_once_more b && b.temporary) (Ascend-settled (b.id + 1) marks held next a.1) where
      cases : (m gone : Bool) → Ascend (b.id + 1) (settled marks held) next
          → Ascend least (cond m (cond gone [] (with_more 1 b ∷ [])) (b ∷ []) ++ settled marks held) next
      cases false gone more = (a.0, more)
      cases true false more = (a.0, more)
      cases true true more = let le = a.0 in Ascend-lower least (b.id + 1) (settled marks held) next (omega arith) more

-- ---- settling

pub length-settled : (marks : List Bool) (held : List Breakpoint) → length (settled marks held) ≤ length held
length-settled [] held = omega arith
length-settled (mark ∷ marks) [] = omega arith
length-settled (mark ∷ marks) (b ∷ held) =
    cases mark (stops_once_more b && b.temporary) (length-settled marks held) where
      cases : (m gone : Bool) → length (settled marks held) ≤ length held
          → length (cond m (cond gone [] (with_more 1 b ∷ [])) (b ∷ []) ++ settled marks held) ≤ length (b ∷ held)
      cases false gone more = omega arith
      cases true false more = omega arith
      cases true true more = omega arith

more_is_sound : (b : Breakpoint) → IsSound b → IsSound (with_more 1 b)
more_is_sound b s = record { parts = s.parts; placed = s.placed; named = s.named; tree = s.tree; formed = s.formed }

All-settled : (marks : List Bool) (held : List Breakpoint) → All IsSound held → All IsSound (settled marks held)
All-settled [] held s = s
All-settled (mark ∷ marks) [] s = s
All-settled (mark ∷ marks) (b ∷ held) s =
    All-append IsSound (cond mark (one_settled b) (b ∷ [])) (settled marks held)
    (cases mark (stops_once_more b && b.temporary)) (All-settled marks held (All-tail IsSound b held s)) where
      here : IsSound b
      here = All-head IsSound b held s

      cases : (m gone : Bool) → All IsSound (cond m (cond gone [] (with_more 1 b ∷ [])) (b ∷ []))
      cases false gone = All-cons IsSound b [] here (All-nil IsSound)
      cases true false = All-cons IsSound (with_more 1 b) [] (more_is_sound b here) (All-nil IsSound)
      cases true true = All-nil IsSound

-- ---- tables

abbrev pub table : List Breakpoint → ℕ → Table
table held next = record { held = held; next = next }

pub settled_table : (marks : List Bool) (held : List Breakpoint) (next : ℕ) → IsTable (table held next)
    → IsTable (table (settled marks held) next)
settled_table marks held next t = record {
  few = let few = t.few in let fewer = length-settled marks held in omega arith;
  ascend = Ascend-settled 1 marks held next t.ascend;
  last = t.last;
  sound = All-settled marks held t.sound;
}

pub filtered_short : (p : Breakpoint → Bool) (held : List Breakpoint) → length (filter p held) ≤ length held
filtered_short p held = omega (arith, length-filter p held, count_by-le-length p held)

pub filtered_table : (p : Breakpoint → Bool) (held : List Breakpoint) (next : ℕ) → IsTable (table held next)
    → IsTable (table (filter p held) next)
filtered_table p held next t = record {
  few = let few = t.few in omega (arith, filtered_short p held);
  ascend = Ascend-filter p 1 held next t.ascend;
  last = t.last;
  sound = All-filter p IsSound held t.sound;
}

pub new_table : (held : List Breakpoint) (next : ℕ) (b : Breakpoint) → IsTable (table held next)
    → length held < breakpoint_limit → next < last_id → b.id ≡ next → IsSound b
    → IsTable (table (held ++ b ∷ []) (next + 1))
new_table held next b t room below numbered sound = record {
  few = let long = length-append held (b ∷ []) in omega arith;
  ascend = Ascend-push 1 held b next numbered t.ascend;
  last = omega arith;
  sound = All-push IsSound held b t.sound sound;
}
