-- A word of the language is one token.
use Rattle.wcps_text.specs.Token as tokens
use Rattle.wcps_print.proofs.Puts.{put_token, on_ok}
use Rattle.wcps_print.proofs.words.put_word.Goals as goal

pub returns : goal.returns
returns c = on_ok c.put.result (put_token (tokens.word c.args.word) _ _ _ c.text.ensures) c.put.ensures
