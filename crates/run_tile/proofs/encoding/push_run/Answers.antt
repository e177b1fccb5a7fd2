-- Behind the bytes come the count of the run and its value, in the width of its type.
use Rattle.std.proofs.Common.{SFits, w64, to_z-of_z, rules}
use Rattle.run_tile.proofs.Values.{run-written}
use Rattle.run_tile.proofs.encoding.push_run.Goals as goal

pub returns : goal.returns
returns c =
    let fits : SFits w64 c.args.run.value = search rules in
    run-written c.args.kind c.args.run c.args.bytes.now.items c.extend_from_slice.new.self.items c.extend_from_slice-2.new.self.items c.write_u16.new.buf c.write_int.new.buf _ c.width-size.result _
    c.width-size.ensures (to_z-of_z fits) c.write_u16.ensures c.in_ok-extend_from_slice.ensures.items c.write_int.ensures c.in_ok-extend_from_slice-2.ensures.items
