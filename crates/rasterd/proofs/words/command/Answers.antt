-- Two words, of which the second is `run`.
use Rattle.std.proofs.Common.{◌≡◌, List, ℕ, [], ◌∷◌, map, sym, ap, ◌∙◌}
use Rattle.std.specs.Prelude.{codes, string_bytes}
use Rattle.std.proofs.lemmas.Slice.Eq.{bytes_eq-Decides}
use Rattle.rasterd.proofs.WordLemmas.{two_words}
use Rattle.rasterd.proofs.words.command.Goals as goal

pub returns-then-eq-clause-some : goal.returns-then-eq-clause-some
returns-then-eq-clause-some c =
    let words = two_words c.args.words.now c.file-item.result c.verb-item.result c.in-len2.len_at_least c.in-len2.len_below c.file-item.is c.verb-item.is in
    let verb : string_bytes c.verb-item.result ≡ codes "run" = sym c.as_str.ensures.value ∙ (bytes_eq-Decides _ _).0 (sym c.if-eq.ensures) in
    ap (map string_bytes) words ∙ ap (λ (l : List ℕ). string_bytes c.file-item.result ∷ l ∷ []) verb
    ∙ ap (λ (l : List ℕ). l ∷ codes "run" ∷ []) (sym c.as_str-then-eq.ensures.value)
