-- The query of each template means Tomlin's operation.
use Rattle.std.proofs.Common.{◌≡◌, ℤ, List, [], ◌∷◌, Result, Ok, Err, IfOk}
use Rattle.arr_core.specs.Domains.{points, IsInside}
use Rattle.wcps_mean.specs.Cells.{ranged}
use Rattle.wcps_mean.specs.Meaning.{val}
use Rattle.map_templates.specs.Tomlin.{local, focal, zonal}
use Rattle.map_templates.specs.Expansion.{Operation, local_on, focal_on, zonal_on}
use Rattle.map_templates.specs.TypedTrees.{local_tree, focal_tree, zonal_tree}
use Rattle.map_templates.specs.Laws.{IsTomlins}
use Rattle.map_templates.proofs.Sets.{every-of, every-all}
use Rattle.map_templates.proofs.Summaries.{answer-array}
use Rattle.map_templates.proofs.Places.{points-inside}
use Rattle.map_templates.proofs.Values.{local-value, focal-value, zonal-value}

pub tomlins : (o : Operation) → IsTomlins o
tomlins (local_on op first f second g axes) s cells coverages a b integers reads bounded ordered =
    answer-array s coverages axes (local_tree op a b) (local op (cells first.coverage f) (cells second.coverage g))
    (every-all (λ (p : List ℤ). val s (local_tree op a b) [] p ≡ ranged (local op (cells first.coverage f) (cells second.coverage g) p)) (points axes)
    (λ p. local-value op s a b (cells first.coverage f) (cells second.coverage g) p (reads.0 [] p) (reads.1 [] p) (integers first.coverage f p) (integers second.coverage g p)))
tomlins (focal_on op layer f x y radius) s cells coverages a b integers reads bounded ordered =
    answer-array s coverages (x ∷ y ∷ []) (focal_tree op x y radius a) (focal op (x ∷ y ∷ []) radius (cells layer.coverage f))
    (every-of (IsInside (x ∷ y ∷ [])) (λ (p : List ℤ). val s (focal_tree op x y radius a) [] p ≡ ranged (focal op (x ∷ y ∷ []) radius (cells layer.coverage f) p)) (points (x ∷ y ∷ []))
    (λ p inside. focal-value op s x y radius a (cells layer.coverage f) p bounded.0 bounded.1 bounded.2 ordered reads (λ q. integers layer.coverage f q) inside) (points-inside (x ∷ y ∷ []) ordered))
tomlins (zonal_on op layer f zones g axes) s cells coverages a b integers reads bounded ordered =
    answer-array s coverages axes (zonal_tree op axes a b) (zonal op axes (cells layer.coverage f) (cells zones.coverage g))
    (every-of (IsInside axes) (λ (p : List ℤ). val s (zonal_tree op axes a b) [] p ≡ ranged (zonal op axes (cells layer.coverage f) (cells zones.coverage g) p)) (points axes)
    (λ p inside. zonal-value op s axes a b (cells layer.coverage f) (cells zones.coverage g) p ordered reads.0 reads.1 (λ q. integers layer.coverage f q) inside) (points-inside axes ordered))

-- of what a call is to expand, whether it does or not
pub all-tomlins : {A E : Type 0} (r : Result A E) (P : Operation → Type 0) → IfOk r (λ text. (o : Operation) → P o → IsTomlins o)
all-tomlins (Ok text) P = λ o _. tomlins o
all-tomlins (Err e) P = tt
