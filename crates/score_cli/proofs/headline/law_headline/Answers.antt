use Rattle.score_cli.proofs.headline.law_headline.Goals as goal

pub returns : goal.returns
returns c = λ d h rise one l. record {
  lawful = l;
  copy = c.law_one_copy.ensures d h one l.run;
  atomic = c.law_atomic.ensures d h one l.run;
  kept = c.law_kept.ensures d h one l.run;
  footprint = c.law_genuine.ensures d h one l.run;
  causes = c.law_caused.ensures.causes d h l.run;
  asked = c.law_caused.ensures.asked d h l.run;
  accounted = c.law_excused.ensures.begun d h one l.run;
  sessions = c.law_sessions.ensures d h l.run;
}
