-- The bytes taken so far are in the file, and of the others the file has at most torn ones at their places.
use Rattle.std.proofs.Common.{◌+◌, ◌-◌, ◌<◌, ◌≤◌, ◌∙◌, length, take, drop, arith, sym, subst, IsTrue}
use Rattle.std.proofs.lemmas.List.{length-take}
use Rattle.disk_face.proofs.Parts.{Written-more, Torn-rest}
use Rattle.disk_face.proofs.file.write_all.Goals as goal

pub writing-preserved : goal.writing-preserved
writing-preserved g c =
    let all = length c.args.bytes.now in
    let within = c.writing.invariant.0 in
    let rest = take (all - c.writing.taken) (drop c.writing.taken c.args.bytes.now) in
    let some : 0 < c.in-Ok.count = omega (arith, c.in-Ok.count-test.1) in
    let room : length rest ≤ all - c.writing.taken =
    omega (arith, length-take (all - c.writing.taken) (drop c.writing.taken c.args.bytes.now)) in
    let few : c.writing.taken + length rest ≤ all = omega arith in (
      omega (arith, c.in-Ok.ensures.bound),
      λ nothing. absurd (omega arith),
      λ honest more.
          let still : IsTrue (g.F.RawFile.honest c.writing.file) = subst IsTrue (sym c.writing.invariant.5) honest in
          Written-more c.args.at c.writing.taken c.in-Ok.count c.args.bytes.now _ _ _ within c.in-Ok.ensures.bound c.writing.invariant.1
          (c.writing.invariant.2 honest) (c.in-Ok.ensures.written still some),
      Torn-rest c.args.at all c.writing.taken (length rest) _ _ _ few c.writing.invariant.3 c.in-Ok.ensures.torn,
      Torn-rest c.args.at all c.writing.taken (length rest) _ _ _ few c.writing.invariant.4 c.in-Ok.ensures.torn_synced,
      c.in-Ok.ensures.honest ∙ c.writing.invariant.5,
      λ works. (c.in-Ok.ensures.works (c.writing.invariant.6 works)).0,
      λ told. c.in-Ok.ensures.tells_length (c.writing.invariant.7 told),
    )
