use Rattle.std.proofs.Common.{◌+◌, drop, Ok, refl, sym, ap, ◌∙◌, arith, length-drop}
use Rattle.dp_lexer.specs.inner.Lexer.{ahead, doubled, meant_bytes}
use Rattle.dp_lexer.proofs.FoundParts.{doubled-more, doubled-stop, doubled-end}
use Rattle.dp_lexer.proofs.quotes.double.Goals as goal

pub loop-n-preserved : goal.loop-n-preserved
loop-n-preserved c =
    let z = c.args.body.now in
    let len = c.in-Some.len in (
      ap (λ l. ahead l (c.loop-n.n + len) (doubled 0 (drop (c.loop-n.n + len) z))) c.in_ok-push_meant.ensures
          ∙ doubled-more z c.loop-n.bytes.items (meant_bytes c.in-Some.meant) c.loop-n.n len c.in-Some.ensures.value
          ∙ c.loop-n.invariant.0,
      omega (arith, c.in-Some.ensures.within, length-drop c.loop-n.n z),
    )

pub returns-in_default-clause-value : goal.returns-in_default-clause-value
returns-in_default-clause-value c = (
  refl,
  sym c.loop-n.invariant.0
      ∙ doubled-stop c.args.body.now c.loop-n.bytes.items c.loop-n.n c.loop-n-test.true c.in_default.ensures.value,
)

pub returns-clause-value : goal.returns-clause-value
returns-clause-value c =
    sym c.loop-n.invariant.0 ∙ doubled-end c.args.body.now c.loop-n.bytes.items c.loop-n.n c.loop-n-test.false
    ∙ ap (λ l. Ok l) (sym c.of.ensures)
