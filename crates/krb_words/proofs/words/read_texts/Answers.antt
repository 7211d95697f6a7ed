use Rattle.std.proofs.lemmas.Result.{IfErr-weaker, IfOk-weaker}
use Rattle.krb_words.proofs.Matched.{IsCommandLineFor-matches, IsCommandLineFor-text}
use Rattle.krb_words.proofs.NotRead.{IsFaultFor-error, IsFaultFor-matches}
use Rattle.krb_words.proofs.words.read_texts.Goals as goal

pub returns-in-Ok : goal.returns-in-Ok
returns-in-Ok c = record {
  command_line = IfOk-weaker c.command_line_of.result _ _
      (λ command_line o. IsCommandLineFor-matches _ _ c.in-Ok.matches command_line c.in_ok-command.ensures c.in-Ok.ensures.kinds c.in-Ok.ensures.matches o)
      c.command_line_of.ensures.command_line;
  fault = IfErr-weaker c.command_line_of.result _ _
      (λ e no. IsFaultFor-matches _ _ c.in-Ok.matches e c.in_ok-command.ensures c.in-Ok.ensures.kinds c.in-Ok.ensures.matches no)
      c.command_line_of.ensures.fault;
}

pub returns-in-Err : goal.returns-in-Err
returns-in-Err c = record {
  command_line = IfOk-weaker c.text_of.result _ _
      (λ command_line h. IsCommandLineFor-text _ _ c.in-Err.error command_line c.in_ok-command.ensures c.in-Err.ensures.kinds h.0 h.1)
      c.text_of.ensures.text;
  fault = IfErr-weaker c.text_of.result _ _
      (λ e no. IsFaultFor-error _ _ c.in-Err.error e c.in_ok-command.ensures c.in-Err.ensures.kinds no)
      c.text_of.ensures.fault;
}
