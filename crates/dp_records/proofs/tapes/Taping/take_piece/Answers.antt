use Rattle.std.proofs.Common.{ℕ, List, ◌<◌, ◌≤◌, length, arith}
use Rattle.std.proofs.lemmas.Result.{err_from_is_err_and}
use Rattle.std.specs.List.{AllByRecursion}
use Rattle.dp_records.specs.Records.{IsPiece, piece_limit}
use Rattle.dp_records.proofs.DigitLaws.{bytes_all}
use Rattle.dp_records.proofs.TapingLaws.{cut_answers, cut_before, cut_fed, cut_last, cut_line, piece_taped}
use Rattle.dp_records.proofs.tapes.Taping.take_piece.Goals as goal

piece_of : (bytes : List ℕ) → 1 ≤ length bytes → length bytes ≤ piece_limit → AllByRecursion (λ b. b < 256) bytes
    → IsPiece bytes
piece_of bytes some fits are = record { some_byte = some; fits = fits; are_bytes = are }

pub returns-in_err-put_own-clause-cut : goal.returns-in_err-put_own-clause-cut
returns-in_err-put_own-clause-cut g c =
    let p = err_from_is_err_and c.from_residual.result c.from_residual.ensures.1 in
    rw p.1 (λ start init read before fits h.
    cut_before g.A.Responder.step start init read before (g.K.Sink.taken c.args.sink.now) c.args.self.now h
    c.args.piece.now
    c.args.self.now.own.items (g.K.Sink.taken c.put_own.new.sink) c.in_err-put_own.ensures.front)

pub returns-in_err-put_line-clause-cut : goal.returns-in_err-put_line-clause-cut
returns-in_err-put_line-clause-cut g c =
    let p = err_from_is_err_and c.from_residual-in_err-put_line.result c.from_residual-in_err-put_line.ensures.1 in
    let is = piece_of c.args.piece.now c.requires.some c.requires.fits
    (bytes_all c.args.piece.now (λ i. omega (arith, c.type_inv.piece i))) in
    rw p.1 (λ start init read before fits h.
    cut_line g.A.Responder.step start init read before (g.K.Sink.taken c.args.sink.now) c.args.self.now h
    c.args.piece.now
    c.put_own.new.self (g.K.Sink.taken c.put_own.new.sink) c.in_ok-put_own.ensures.talk c.in_ok-put_own.ensures.all
    is fits (g.K.Sink.taken c.put_line.new.sink) c.in_err-put_line.ensures.taken)

pub returns-in_err-feed-clause-cut : goal.returns-in_err-feed-clause-cut
returns-in_err-feed-clause-cut g c =
    let p = err_from_is_err_and c.from_residual-in_err-feed.result c.from_residual-in_err-feed.ensures.1 in
    let is = piece_of c.args.piece.now c.requires.some c.requires.fits
    (bytes_all c.args.piece.now (λ i. omega (arith, c.type_inv.piece i))) in
    rw p.1 (λ start init read before fits h.
    cut_fed g.A.Responder.step start init read before (g.K.Sink.taken c.args.sink.now) c.args.self.now h
    c.args.piece.now
    c.put_own.new.self (g.K.Sink.taken c.put_own.new.sink) c.in_ok-put_own.ensures.talk c.in_ok-put_own.ensures.all
    is fits (g.K.Sink.taken c.put_line.new.sink) c.in_ok-put_line.ensures.taken)

pub returns-in_err-over-clause-cut : goal.returns-in_err-over-clause-cut
returns-in_err-over-clause-cut g c =
    let p = err_from_is_err_and c.from_residual-in_err-over.result c.from_residual-in_err-over.ensures.1 in
    let is = piece_of c.args.piece.now c.requires.some c.requires.fits
    (bytes_all c.args.piece.now (λ i. omega (arith, c.type_inv.piece i))) in
    rw p.1 (λ start init read before fits h.
    cut_answers g.A.Responder.step start init read before (g.K.Sink.taken c.args.sink.now) c.args.self.now h
    c.args.piece.now
    c.put_own.new.self (g.K.Sink.taken c.put_own.new.sink) c.in_ok-put_own.ensures.talk c.in_ok-put_own.ensures.all
    is fits (g.K.Sink.taken c.put_line.new.sink) c.in_ok-put_line.ensures.taken
    c.feed.new.self c.in_ok-feed.ensures.session c.in_ok-feed.ensures.ok
    (g.K.Sink.taken c.answer_held.new.sink) c.in_err-over.ensures.front)

pub returns-in_err-put_sent-clause-cut : goal.returns-in_err-put_sent-clause-cut
returns-in_err-put_sent-clause-cut g c =
    let p = err_from_is_err_and c.from_residual-in_err-put_sent.result c.from_residual-in_err-put_sent.ensures.1 in
    let is = piece_of c.args.piece.now c.requires.some c.requires.fits
    (bytes_all c.args.piece.now (λ i. omega (arith, c.type_inv.piece i))) in
    rw p.1 (λ start init read before fits h.
    cut_last g.A.Responder.step start init read before (g.K.Sink.taken c.args.sink.now) c.args.self.now h
    c.args.piece.now
    c.put_own.new.self (g.K.Sink.taken c.put_own.new.sink) c.in_ok-put_own.ensures.talk c.in_ok-put_own.ensures.all
    is fits (g.K.Sink.taken c.put_line.new.sink) c.in_ok-put_line.ensures.taken
    c.feed.new.self c.in_ok-feed.ensures.session c.in_ok-feed.ensures.ok
    c.answer_held.new.self (g.K.Sink.taken c.answer_held.new.sink) c.in_ok-over.ensures.all
    (g.K.Sink.taken c.put_sent.new.sink) c.in_err-put_sent.ensures.front)

pub returns-clause-taped : goal.returns-clause-taped
returns-clause-taped g c =
    let is = piece_of c.args.piece.now c.requires.some c.requires.fits
    (bytes_all c.args.piece.now (λ i. omega (arith, c.type_inv.piece i))) in
    λ start init read before fits h.
    piece_taped g.A.Responder.step start init read before (g.K.Sink.taken c.args.sink.now) c.args.self.now h
    c.args.piece.now
    c.put_own.new.self (g.K.Sink.taken c.put_own.new.sink) c.in_ok-put_own.ensures.talk c.in_ok-put_own.ensures.all
    is fits (g.K.Sink.taken c.put_line.new.sink) c.in_ok-put_line.ensures.taken
    c.feed.new.self c.in_ok-feed.ensures.session c.in_ok-feed.ensures.ok
    c.answer_held.new.self (g.K.Sink.taken c.answer_held.new.sink) c.in_ok-over.ensures.all
    c.in_ok-over.over c.put_sent.new.self (g.K.Sink.taken c.put_sent.new.sink) c.in_ok-put_sent.ensures.talk
    c.in_ok-put_sent.ensures.all c.in_ok-over.ensures.answers
