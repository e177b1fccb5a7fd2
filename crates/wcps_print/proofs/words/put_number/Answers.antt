-- A number without a sign is one token.
use Rattle.wcps_text.specs.Token as tokens
use Rattle.wcps_print.proofs.Puts.{put_token, on_ok}
use Rattle.wcps_print.proofs.words.put_number.Goals as goal

pub returns : goal.returns
returns c = on_ok c.put.result (put_token (tokens.number c.args.number) _ _ _ c.format.ensures.text) c.put.ensures
