-- On a coverage with two axes the text is that of the focal operation that is asked for.
use Rattle.std.proofs.Common.{◌≡◌, length, string_bytes, arith}
use Rattle.map_templates.proofs.Planes.{focal-found}
use Rattle.map_templates.proofs.expansion.expand_focal.Goals as goal

pub returns-in_ok-focal_text-in-len2 : goal.returns-in_ok-focal_text-in-len2
returns-in_ok-focal_text-in-len2 c =
    let two : length c.axes.result.now ≡ 2 = omega arith in
    focal-found c.args.summary c.args.params.now c.args.signatures.now c.in_ok-coverage.coverage.now c.in_ok-_field._field c.in_ok-radius.radius c.axes.result.now c.x-item.result c.y-item.result
    (string_bytes c.in_ok-focal_text-in-len2.field-0) c.in_ok-coverage.ensures c.in_ok-_field.ensures c.in_ok-radius.ensures c.axes.ensures.value two c.x-item.is c.y-item.is c.in_ok-focal_text-in-len2.ensures
