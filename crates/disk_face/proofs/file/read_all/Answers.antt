-- The bytes filled so far are those of the file at their places, and reading changes nothing in it.
use Rattle.std.proofs.Common.{◌+◌, ◌-◌, ◌<◌, ◌∙◌, length, take, arith, sym, subst, IsTrue}
use Rattle.disk_face.specs.Disk.{Holds}
use Rattle.disk_face.proofs.Parts.{Holds-more, room-more}
use Rattle.disk_face.proofs.file.read_all.Goals as goal

pub reading-preserved : goal.reading-preserved
reading-preserved g c =
    let within = c.reading.invariant.0 in
    let free = length c.reading.buf - c.reading.filled in
    let some : 0 < c.in-Ok.count = omega (arith, c.in-Ok.count-test.1) in (
      room-more c.reading.filled free c.in-Ok.count c.reading.buf c.read_some.new.buf within c.in-Ok.ensures.bound.0,
      λ honest i l.
          let still : IsTrue (g.F.RawFile.honest c.reading.file) = subst IsTrue (sym c.reading.invariant.2.same_honest) honest in
          let came : Holds (g.F.RawFile.content c.args.file.now) (c.args.at + c.reading.filled) (take c.in-Ok.count c.read_some.new.buf) =
          subst (λ z. Holds z (c.args.at + c.reading.filled) (take c.in-Ok.count c.read_some.new.buf)) c.reading.invariant.2.same_content
          (c.in-Ok.ensures.read still some) in
          Holds-more _ c.args.at c.reading.filled free c.in-Ok.count c.reading.buf c.read_some.new.buf within c.in-Ok.ensures.bound.0
          (c.reading.invariant.1 honest) came i l,
      record {
        same_content = c.in-Ok.ensures.same.same_content ∙ c.reading.invariant.2.same_content;
        same_synced = c.in-Ok.ensures.same.same_synced ∙ c.reading.invariant.2.same_synced;
        same_honest = c.in-Ok.ensures.same.same_honest ∙ c.reading.invariant.2.same_honest;
      },
      λ works. (c.in-Ok.ensures.works (c.reading.invariant.3 works)).0,
      λ told. c.in-Ok.ensures.tells_length (c.reading.invariant.4 told),
    )
