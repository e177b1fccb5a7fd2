-- A name is one token, with its `$` where it has one.
use Rattle.std.proofs.Common.{◌∙◌}
use Rattle.wcps_print.proofs.Puts.{put_token, on_ok, bytes_of_name}
use Rattle.wcps_print.specs.Printing.{name_token}
use Rattle.wcps_print.proofs.words.put_name.Goals as goal

pub returns : goal.returns
returns c = on_ok c.put.result (put_token (name_token c.args.name.now) _ _ _ (c.as_str.ensures ∙ bytes_of_name c.args.name.now)) c.put.ensures
