use Rattle.std.proofs.Common.{sym, rules, SFits, w64}
use Rattle.std.proofs.lemmas.Int.{to_z-of_z}
use Rattle.dp_small_steps.proofs.Begins as begins
use Rattle.dp_small_steps.proofs.expressions.begin_expression.Goals as goal

pub returns-in-Null : goal.returns-in-Null
returns-in-Null c = λ setting. record {
  by = λ k. rw (c.in-Null.is, c.give.ensures) (begins.begins-Null setting k c.args.state.now);
}

pub returns-in-Bool : goal.returns-in-Bool
returns-in-Bool c = λ setting. record {
  by = λ k. rw (c.in-Bool.is, c.give-in-Bool.ensures)
      (begins.begins-Bool setting k c.args.state.now _);
}

pub returns-in-Number : goal.returns-in-Number
returns-in-Number c = λ setting. record {
  by = λ k.
      let fits : SFits w64 c.in-Number.n = search rules in
      rw (c.in-Number.is, c.give-in-Number.ensures, to_z-of_z w64 c.in-Number.n fits)
      (begins.begins-Number setting k c.args.state.now _);
}

pub returns-in-Text : goal.returns-in-Text
returns-in-Text c = λ setting.
    rw (c.in-Text.is, begins.begins-Text setting begins.anything c.args.state.now c.in-Text.text)
    (c.given.ensures setting _ c.args.state.now (c.text_value.ensures c.args.state.now))

pub returns-in-Variable : goal.returns-in-Variable
returns-in-Variable c = λ setting.
    rw (c.in-Variable.is, begins.begins-Variable setting begins.anything c.args.state.now c.in-Variable.name)
    (c.given-in-Variable.ensures setting _ c.args.state.now c.variable_value.ensures)

pub returns-in-Constant : goal.returns-in-Constant
returns-in-Constant c = λ setting.
    rw (c.in-Constant.is, begins.begins-Constant setting begins.anything c.args.state.now c.in-Constant.name)
    (c.given-in-Constant.ensures setting _ c.args.state.now c.constant_value.ensures.run)

pub returns-in-Array : goal.returns-in-Array
returns-in-Array c = λ setting. record {
  by = λ k. rw (c.in-Array.is, c.alone.ensures, c.new.ensures) (begins.begins-Array setting k c.args.state.now _);
}

pub returns-in-Isset : goal.returns-in-Isset
returns-in-Isset c = λ setting. record {
  by = λ k. rw (c.in-Isset.is, c.alone-in-Isset.ensures, c.as_slice.ensures)
      (begins.begins-Isset setting k c.args.state.now _);
}

pub returns-in_default : goal.returns-in_default
returns-in_default c = λ setting. record { by = λ k. sym (c.begin_operator.ensures setting k c.args.state.now) }
