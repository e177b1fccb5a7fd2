-- An index after changes is an index.
use Rattle.std.proofs.Common.{◌≡◌, ℕ, ◌<◌, ◌^◌, List, get_or, refl, sym, ap, ◌∙◌, arith, All, Option, Some, None, unwrap_or}
use Rattle.tile_index.specs.declared.entry.Entry.{Entry}
use Rattle.tile_index.specs.Index.{found_at, changed_at, IsRising, IsPair, IsIndex, AreChanges}
use Rattle.tile_index.proofs.Between.{between-from}
use Rattle.tile_index.proofs.Found.{found_of_place, found_is, few_with_room}

-- what changes give, or what was there, is sound
sound_at : (changes : List (ℕ × Option Entry)) (old : List (ℕ × Entry)) → IsIndex old → AreChanges changes old → (t : ℕ) (e : Entry) (o : Option (Option Entry)) → found_at t changes ≡ o → unwrap_or o (found_at t old) ≡ Some e → IsPair (t, e)
sound_at changes old i c t e None h q = found_is IsPair t old e i.pairs.each q
sound_at changes old i c t e (Some o) h q =
    let given : found_at t changes ≡ Some (Some e) = h ∙ ap (λ (p : Option Entry). Some p) q in
    (found_is (λ (x : ℕ × Option Entry). x.0 < 2 ^ 32) t changes (Some e) c.small given, c.entries t e given)

pub index-changed : (changes : List (ℕ × Option Entry)) (old new : List (ℕ × Entry)) → IsIndex old → AreChanges changes old → ((t : ℕ) → found_at t new ≡ changed_at t changes old) → IsRising new → IsIndex new
index-changed changes old new i c gives rising =
    let each : All IsPair new = λ k d l.
    let x = get_or new k d in
    sound_at changes old i c x.0 x.1 (found_at x.0 changes) refl (sym (gives x.0) ∙ found_of_place new k d rising l) in
    let between = between-from 0 (2 ^ 32) new (omega arith) (λ k d l. omega arith) (λ k d l. (each k d l).0) rising in
    let few = few_with_room 0 (2 ^ 32) c.room.0 new between (omega arith) c.room.1 (gives c.room.0 ∙ c.room.2) in
    record { pairs = record { rising = rising; each = each }; few = omega arith }
