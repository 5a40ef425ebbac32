use Rattle.std.proofs.Common.{rules, ◌∙◌, Bool, List, ℕ, Option, Ok, Err, refl, sym, subst}
use Rattle.dp_lanes.specs.Places.{received_in}
use Rattle.dp_relay.specs.declared.ends.RelayEnd.{RelayEnd}
use Rattle.dp_relay.specs.Ends.{Gives}
use Rattle.dp_relay.specs.inner.Turns.{Fed}
use Rattle.dp_relay.specs.inner.Openings.{Fronts, Opened}
use Rattle.dp_relay.proofs.EndLaws.{gives_none}
use Rattle.dp_relay.proofs.EngineLaws.{front_opens, opens_unread, opens_ended, reads_on}
use Rattle.dp_relay.proofs.engines.first_key.Goals as goal

pub pieces-init : goal.pieces-init
pieces-init g c =
    let left = g.S.Source.left c.args.source.now in
    let given = g.S.Source.given c.args.source.now in (
      c.requires.lane,
      search rules,
      subst (λ (l : List ℕ). Gives left left given given l) (sym c.requires.empty) (gives_none left given),
      refl,
    )

pub key_at_front-requires : goal.key_at_front-requires
key_at_front-requires g c = record { lane = c.pieces.invariant.0 }

pub returns-in-Ok-Some : goal.returns-in-Ok-Some
returns-in-Ok-Some g c =
    let held = (received_in c.pieces.lane).held in record {
      read = held;
      gives = c.pieces.invariant.2;
      opens = (
        c.pieces.invariant.0,
        refl,
        subst (λ (o : Option (List ℕ)). Fronts held (Ok o)) c.in-Ok-Some.field-0-is c.in-Ok-Some.ensures,
        c.pieces.invariant.3,
      );
    }

pub returns-in-Err : goal.returns-in-Err
returns-in-Err g c =
    let held = (received_in c.pieces.lane).held in record {
      read = held;
      gives = c.pieces.invariant.2;
      opens = front_opens c.pieces.lane held (g.S.Source.left c.pieces.source) (g.S.Source.faults c.args.source.now)
          (g.S.Source.faults c.pieces.source) c.in-Err.end c.in-Err.ensures c.pieces.invariant.3;
    }

pub returns-in-Ok-false : goal.returns-in-Ok-false
returns-in-Ok-false g c =
    let s = g.S.Source in
    let a = c.args.source.now in
    let b = c.pieces.source in
    let d = c.read_piece.new.source in
    let held = (received_in c.pieces.lane).held in
    opens_ended c.pieces.lane c.read_piece.new.lane (s.left a) (s.left b) (s.left d) (s.given a) (s.given b)
    (s.given d) (s.faults a) (s.faults b) (s.faults d) c.pieces.invariant.2 c.pieces.invariant.3
    (subst (λ (o : Option (List ℕ)). Fronts held (Ok o)) c.in-Ok-None.field-0-is c.in-Ok-None.ensures)
    (subst (λ (t : Bool). Fed c.pieces.lane c.read_piece.new.lane (s.left b) (s.left d) (s.given b) (s.given d)
    (s.faults b) (s.faults d) (Ok t)) c.in-Ok-false.field-0-test c.in-Ok-false.ensures.fed)

pub returns-in-Err-read_piece : goal.returns-in-Err-read_piece
returns-in-Err-read_piece g c =
    let s = g.S.Source in
    let a = c.args.source.now in
    let b = c.pieces.source in
    let d = c.read_piece.new.source in
    let held = (received_in c.pieces.lane).held in
    subst (λ (e : RelayEnd). Opened c.read_piece.new.lane (s.left a) (s.left d) (s.given a) (s.given d) (s.faults a)
    (s.faults d) (Err e)) (sym c.reading_end.ensures)
    (opens_unread c.pieces.lane c.read_piece.new.lane (s.left a) (s.left b) (s.left d) (s.given a) (s.given b)
    (s.given d) (s.faults a) (s.faults b) (s.faults d) c.pieces.invariant.2 c.pieces.invariant.3
    (subst (λ (o : Option (List ℕ)). Fronts held (Ok o)) c.in-Ok-None.field-0-is c.in-Ok-None.ensures)
    c.in-Err-read_piece.end c.in-Err-read_piece.ensures.fed)

pub pieces-preserved : goal.pieces-preserved
pieces-preserved g c =
    let s = g.S.Source in
    let a = c.args.source.now in
    let b = c.pieces.source in
    let d = c.read_piece.new.source in
    let held = (received_in c.pieces.lane).held in
    let fed = subst (λ (t : Bool). Fed c.pieces.lane c.read_piece.new.lane (s.left b) (s.left d) (s.given b) (s.given d)
    (s.faults b) (s.faults d) (Ok t)) c.in-Ok-true.field-0-test c.in-Ok-true.ensures.fed in (
      (c.in-Ok-true.ensures.way ∙ c.pieces.invariant.0.0, fed.behind.1 ∙ c.pieces.invariant.0.1),
      c.in-Ok-true.ensures.buffer ∙ c.pieces.invariant.1,
      reads_on c.pieces.lane c.read_piece.new.lane (s.left a) (s.left b) (s.left d) (s.given a) (s.given b) (s.given d)
          (s.faults a) (s.faults b) (s.faults d) c.pieces.invariant.2 c.pieces.invariant.3
          (subst (λ (o : Option (List ℕ)). Fronts held (Ok o)) c.in-Ok-None.field-0-is c.in-Ok-None.ensures) fed,
      fed.fails ∙ c.pieces.invariant.3,
    )

pub returns : goal.returns
returns g c = record {
  read = (received_in c.pieces.lane).held;
  gives = c.pieces.invariant.2;
  opens = c.pieces.invariant.3;
}
