-- A symbol is one token.
use Rattle.wcps_text.specs.Token as tokens
use Rattle.wcps_print.proofs.Puts.{put_token, on_ok}
use Rattle.wcps_print.proofs.words.put_symbol.Goals as goal

pub returns : goal.returns
returns c = on_ok c.put.result (put_token (tokens.sign c.args.symbol) _ _ _ c.text.ensures) c.put.ensures
