-- The place before is one field back, else the last field of the point back, else that of a line's last point.
use Rattle.std.proofs.Common.{arith}
use Rattle.csv_out.proofs.Places.{before-field, before-point, before-line}
use Rattle.csv_out.proofs.cells.place_before.Goals as goal

pub returns-then-place-gt0 : goal.returns-then-place-gt0
returns-then-place-gt0 c =
    let was = c.requires.place in
    let b = before-field c.args.written c.args.shape.fields c.args.shape.line c.args.place.field c.args.place.point c.requires.fields was.field was.point c.if-place-gt0.true in
    record { field = b.0; point = b.1 }

pub returns-then-place-gt0-2 : goal.returns-then-place-gt0-2
returns-then-place-gt0-2 c =
    let was = c.requires.place in
    let b = before-point c.args.written c.args.shape.fields c.args.shape.line c.args.place.field c.args.place.point c.requires.fields c.requires.line c.requires.some was.field was.point (omega arith) c.if-place-gt0-2.true in
    record { field = b.0; point = b.1 }

pub returns : goal.returns
returns c =
    let was = c.requires.place in
    let b = before-line c.args.written c.args.shape.fields c.args.shape.line c.args.place.field c.args.place.point c.requires.fields c.requires.line c.requires.some was.field was.point (omega arith) (omega arith) in
    record { field = b.0; point = b.1 }
