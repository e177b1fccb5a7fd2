-- The name that serves for any is one token, `c`.
use Rattle.std.proofs.Common.{refl, codes}
use Rattle.wcps_text.specs.Token as tokens
use Rattle.wcps_print.proofs.Puts.{put_token, on_ok}
use Rattle.wcps_print.proofs.words.put_any_name.Goals as goal

pub returns : goal.returns
returns c = on_ok c.put.result (put_token (tokens.name (codes "c")) _ _ _ refl) c.put.ensures
