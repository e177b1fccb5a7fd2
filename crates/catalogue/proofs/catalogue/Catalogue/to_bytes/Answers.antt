-- What is written and what is still to be written are the bytes of the catalogue.
use Rattle.std.proofs.Common.{◌≡◌, ◌∙◌, append_assoc, rules}
use Rattle.std.specs.Map.Iter.{deref}
use Rattle.std.proofs.lemmas.Map.Iter.{rest_more}
use Rattle.std.proofs.lemmas.List.Elements.{All-rest}
use Rattle.catalogue.specs.Signatures.{IsSignature}
use Rattle.catalogue.specs.Bytes.{catalogue_bytes}
use Rattle.catalogue.specs.Held.{signatures_of}
use Rattle.catalogue.proofs.catalogue.Catalogue.to_bytes.Goals as goal

pub loop-signature-init : goal.loop-signature-init
unfolding catalogue_bytes
loop-signature-init c =
    let shown : c.into_iter-signature-iterator.result ≡ signatures_of c.self.inside.signatures.entries = search rules in
    let all : c.into_iter-signature-iterator.result ≡ c.args.self.now = shown ∙ c.self.view_is in
    record {
      written = simp (c.in_ok-push_u32.ensures, c.in_ok-bytes.ensures.items, c.len-count.ensures.len, all);
      each = rw all c.len-count.ensures.catalogue.each;
    }

pub loop-signature-preserved : goal.loop-signature-preserved
loop-signature-preserved c =
    let old = c.loop-signature.invariant in
    let step = rest_more deref c.loop-signature.signature-iterator c.next.new.self c.next.result c.in-Some.signature c.in-Some.is c.next.ensures.steps in
    record {
      written = rw (c.in_ok-push_signature.ensures, append_assoc) (rw step at old.written);
      each = All-rest IsSignature c.in-Some.signature.now c.next.new.self c.loop-signature.signature-iterator step old.each;
    }
