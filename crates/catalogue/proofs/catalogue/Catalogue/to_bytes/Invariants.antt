use Rattle.std.proofs.Common.{◌≡◌, ◌++◌, flat_map, All}
use Rattle.catalogue.specs.Signatures.{IsSignature}
use Rattle.catalogue.specs.Bytes.{signature_bytes, catalogue_bytes}
use Rattle.catalogue.proofs.catalogue.Catalogue.to_bytes.Given as goal

abbrev pub invariant-loop-signature : goal.invariant-loop-signature
invariant-loop-signature l = record {
  written : l.bytes.items ++ flat_map signature_bytes l.signature-iterator ≡ catalogue_bytes l.self;
  each : All IsSignature l.signature-iterator;
}
