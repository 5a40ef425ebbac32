use Rattle.std.proofs.Common.{◌≡◌, ◌+◌, ℕ, Bool, List, [], ◌∷◌, ◌++◌, length, true, false, refl, sym, ap, subst, ◌∙◌, append-nil, arith}
use Rattle.std.proofs.lemmas.Result.{err_from_is_err_and}
use Rattle.dp_async.specs.declared.arrival.Arrival.{Arrival}
use Rattle.dp_async.specs.Heard.{GoesOn, HearsNone, MayGoOn, Stopped, at_end, number_of_arrival, on_its_way, standing}
use Rattle.dp_async.specs.Served.{ends_empty, input_of}
use Rattle.dp_async.specs.inner.Standing.{over_input, stage_of}
use Rattle.dp_async.proofs.Standings.{cut_short, later_on, reads_no_more}
use Rattle.dp_async.proofs.Turns.{is_free, stands_as, stands_ended, stands_passed, stands_passed_to, stands_passed_to_end, stands_stopped}
use Rattle.dp_async.proofs.listener.Listener.moment.Goals as goal

pub returns-in_err-pass-clause-position : goal.returns-in_err-pass-clause-position
returns-in_err-pass-clause-position g c =
    let p = err_from_is_err_and c.from_residual.result c.from_residual.ensures.1 in
    λ start o s may begins. rw (p.1, p.2)
    (cut_short start _ _ _ _ _ _ _ s ([], c.in_err-pass.ensures.same.log ∙ sym (append-nil _)) refl refl s.agrees.later)

pub returns-in-Stop-clause-position : goal.returns-in-Stop-clause-position
returns-in-Stop-clause-position g c =
    let e = c.in_ok-pass.ensures in
    let moments = rw c.in-Stop.is at e.moments in
    λ start o s may begins.
    stands_as start _ _ _ _ _ _ _ (sym e.same.log)
    (λ i. standing (on_its_way c.args.going.now Stopped) (sym e.session i) (sym moments i) (sym e.same.held i))
    (sym e.same.count)
    (stands_stopped start _ _ _ c.args.going.now (stage_of c.args.fresh) _ _ _ s may
    (is_free start _ _ _ _ _ s begins c.requires) (sym e.passing ∙ c.in-Stop.is))

pub returns-in-End-clause-position : goal.returns-in-End-clause-position
returns-in-End-clause-position g c =
    let e = c.in_ok-pass.ensures in
    let moments = rw c.in-End.is at e.moments in
    λ start o s may begins.
    stands_as start _ _ _ _ _ _ _ (sym e.same.log)
    (λ i. standing (on_its_way c.args.going.now Stopped) (sym e.session i) (sym moments i) (sym e.same.held i))
    (sym e.same.count)
    (stands_ended start _ _ _ c.args.going.now (stage_of c.args.fresh) _ _ _ s may
    (is_free start _ _ _ _ _ s begins c.requires) (sym e.passing ∙ c.in-End.is))

pub returns-in_err-look-clause-position : goal.returns-in_err-look-clause-position
returns-in_err-look-clause-position g c =
    let p = err_from_is_err_and c.from_residual-in_err-look.result c.from_residual-in_err-look.ensures.1 in
    let e = c.in_ok-pass.ensures in
    let f = c.in_err-look.ensures in
    λ start o s may begins. rw (p.1, p.2)
    (cut_short start _ _ _ _ _ _ _ s (f.log.0, f.log.1 ∙ ap (λ (l : List Arrival). l ++ f.log.0) e.same.log) refl refl
    (record {
      breaks =
          later_on start.before.input (input_of g.Q.Polled c.args.polled.now) (input_of g.Q.Polled c.look.new.polled)
          s.agrees.later.breaks f.later;
      faults = s.agrees.later.faults;
      fails = s.agrees.later.fails;
    }))

-- nothing was there
pub returns-in-NotYet-clause-position : goal.returns-in-NotYet-clause-position
returns-in-NotYet-clause-position g c =
    let e = c.in_ok-pass.ensures in
    let f = c.in_ok-look.ensures in
    let b = rw c.in-NotYet.is at f.brings in
    let moments = rw c.in-On.is at e.moments in
    λ start o s may begins.
    c.hear_if.ensures.position start c.args.going.now
    (over_input g.Q.Polled g.K.Sink c.look.new.polled c.args.sink.now o)
    (stands_as start _ _ _ _ _ _ _ (sym (b.1.log ∙ e.same.log))
    (λ i. standing (on_its_way c.args.going.now GoesOn) (sym (f.session ∙ e.session) i)
    (sym (f.moments ∙ moments) i) (sym (b.1.held ∙ e.same.held) i))
    (sym (b.1.count ∙ e.same.count))
    (stands_passed start _ _ _ c.args.going.now (stage_of c.args.fresh) _ _ _ s may
    (is_free start _ _ _ _ _ s begins c.requires) (sym e.passing ∙ c.in-On.is) _ f.later f.looks b.0))
    (λ old. subst (λ (h : List ℕ). HearsNone h) (sym (b.1.held ∙ e.same.held))
    (subst (λ (f : Bool). MayGoOn (stage_of f) c.args.self.now.held.held) old may))

-- something came
pub returns-in-More-clause-position : goal.returns-in-More-clause-position
returns-in-More-clause-position g c =
    let e = c.in_ok-pass.ensures in
    let f = c.in_ok-look.ensures in
    let b = rw c.in-More.is at f.brings in
    let moments = rw c.in-On.is at e.moments in
    let a : Arrival = record {
      moment = number_of_arrival c.pass.new.self.session c.pass.new.self.moments;
      bytes = b.0;
    } in
    λ start o s may begins.
    c.hear_if-in-More.ensures.position start c.args.going.now
    (over_input g.Q.Polled g.K.Sink c.look.new.polled c.args.sink.now o)
    (stands_as start _ _ _ _ _ _ _ (sym (b.3.log ∙ ap (λ (l : List Arrival). l ++ a ∷ []) e.same.log))
    (λ i. standing (on_its_way c.args.going.now GoesOn) (sym (f.session ∙ e.session) i)
    (sym (f.moments ∙ moments) i)
    (sym (b.3.held ∙ ap (λ (h : List ℕ). h ++ b.0) e.same.held) i))
    (sym (b.3.count ∙ ap (λ (n : ℕ). n + length b.0) e.same.count))
    (stands_passed_to start _ _ _ c.args.going.now (stage_of c.args.fresh) _ _ _ s may
    (is_free start _ _ _ _ _ s begins c.requires) (sym e.passing ∙ c.in-On.is) _ f.later f.looks a
    (λ i. number_of_arrival (e.session i) (moments i)) b.1 b.2))
    (λ no. absurd (let t : true ≡ false = no in cc))

-- the input ends, or has failed
pub returns-in-Ceased-clause-position : goal.returns-in-Ceased-clause-position
returns-in-Ceased-clause-position g c =
    let e = c.in_ok-pass.ensures in
    let f = c.in_ok-look.ensures in
    let b = rw c.in-Ceased.is at f.brings in
    let moments = rw c.in-On.is at e.moments in
    let a : Arrival = record {
      moment = number_of_arrival c.pass.new.self.session c.pass.new.self.moments;
      bytes = [];
    } in
    let logged = b.3.log ∙ ap (λ (l : List Arrival). l ++ a ∷ []) e.same.log in
    λ start o s may begins. (
      stands_as start _ _ _ _ _ _ _ (sym logged)
          (λ i. at_end (on_its_way c.args.going.now GoesOn) (sym (f.session ∙ e.session) i)
          (sym (f.moments ∙ moments) i) (sym (b.3.held ∙ append-nil _ ∙ e.same.held) i))
          (omega (arith, b.3.count, e.same.count))
          (stands_passed_to_end start _ _ _ c.args.going.now (stage_of c.args.fresh) _ _ _ s may
          (is_free start _ _ _ _ _ s begins c.requires) (sym e.passing ∙ c.in-On.is) _ f.later f.looks a
          (λ i. number_of_arrival (e.session i) (moments i)) refl b.0),
      (ap ends_empty logged ∙ reads_no_more c.args.self.now.log.items a refl, b.1, b.2),
    )

pub returns-in-Failed-clause-position : goal.returns-in-Failed-clause-position
returns-in-Failed-clause-position g c =
    let e = c.in_ok-pass.ensures in
    let f = c.in_ok-look.ensures in
    let b = rw c.in-Failed.is at f.brings in
    let moments = rw c.in-On.is at e.moments in
    let a : Arrival = record {
      moment = number_of_arrival c.pass.new.self.session c.pass.new.self.moments;
      bytes = [];
    } in
    let logged = b.3.log ∙ ap (λ (l : List Arrival). l ++ a ∷ []) e.same.log in
    λ start o s may begins. (
      stands_as start _ _ _ _ _ _ _ (sym logged)
          (λ i. at_end (on_its_way c.args.going.now GoesOn) (sym (f.session ∙ e.session) i)
          (sym (f.moments ∙ moments) i) (sym (b.3.held ∙ append-nil _ ∙ e.same.held) i))
          (omega (arith, b.3.count, e.same.count))
          (stands_passed_to_end start _ _ _ c.args.going.now (stage_of c.args.fresh) _ _ _ s may
          (is_free start _ _ _ _ _ s begins c.requires) (sym e.passing ∙ c.in-On.is) _ f.later f.looks a
          (λ i. number_of_arrival (e.session i) (moments i)) refl b.0),
      (
        ap ends_empty logged ∙ reads_no_more c.args.self.now.log.items a refl,
        omega (arith, b.1, s.agrees.later.breaks.0),
        b.2,
      ),
    )
