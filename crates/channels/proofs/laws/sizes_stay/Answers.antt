use Rattle.channels.proofs.SizeLaws as laws
use Rattle.channels.proofs.TextLaws as texts
use Rattle.channels.proofs.laws.sizes_stay.Goals as goal

pub returns : goal.returns
returns c = record {
  opening = laws.opens_keeps;
  closing = laws.closes_keeps;
  shutting = laws.shuts_keeps;
  closing_all = laws.closes_all_keeps;
  getting = laws.gets_keeps;
  putting = laws.puts_keeps;
  unlocking = laws.unlocks_keeps;
  text_out = texts.writes_text_keeps;
  text_in = texts.reads_line_keeps;
  window = laws.opens_window_keeps;
}
