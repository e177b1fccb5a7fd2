-- The request of each name.
use Rattle.std.proofs.Common.{◌≡◌, ◌≢◌, ℕ, Bool, true, false, List, [], ◌∷◌, Ok, Err, refl, ap}
use Rattle.std.specs.Prelude.{codes, bytes_eq}
use Rattle.std.proofs.lemmas.Slice.Eq.{bytes_eq-Decides}
use Rattle.kvp_front.specs.declared.request.RequestError.TheVariants.{UnknownRequest}
use Rattle.kvp_front.specs.Values.{values_of, only_value}
use Rattle.kvp_front.specs.Requests.{kind_of, spelled_of, spelled_by}

only_kind : (pairs : List (List ℕ × List ℕ)) (values : List (List ℕ)) (kind : List ℕ) → only_value values ≡ Ok kind → spelled_by pairs values ≡ kind_of pairs kind
only_kind pairs [] kind e = absurd cc
only_kind pairs (value ∷ []) kind e = let same : value ≡ kind = cc in ap (kind_of pairs) same
only_kind pairs (value ∷ second ∷ more) kind e = absurd cc

pub spelled_kind : (pairs : List (List ℕ × List ℕ)) (kind : List ℕ) → only_value (values_of (codes "request") pairs) ≡ Ok kind
    → spelled_of pairs ≡ kind_of pairs kind
spelled_kind pairs kind e = only_kind pairs (values_of (codes "request") pairs) kind e

-- the request of a name that is known
pub kind_known : (pairs : List (List ℕ × List ℕ)) (kind name : List ℕ) → kind ≡ name → kind_of pairs kind ≡ kind_of pairs name
kind_known pairs kind name e = ap (kind_of pairs) e

differs : (kind name : List ℕ) → kind ≢ name → bytes_eq kind name ≡ false
differs kind name other = by_test (bytes_eq kind name) refl
  where
    by_test : (b : Bool) → bytes_eq kind name ≡ b → bytes_eq kind name ≡ false
    by_test true e = absurd (other ((bytes_eq-Decides kind name).0 e))
    by_test false e = e

pub kind_unknown : (pairs : List (List ℕ × List ℕ)) (kind : List ℕ) → kind ≢ codes "InsertCoverage" → kind ≢ codes "UpdateCoverage"
    → kind ≢ codes "DeleteCoverage" → kind ≢ codes "ListCoverages" → kind ≢ codes "DescribeCoverage" → kind ≢ codes "ProcessCoverages"
    → kind ≢ codes "SubmitQuery" → kind ≢ codes "StepJob" → kind ≢ codes "FetchJob" → kind ≢ codes "CancelJob"
    → kind ≢ codes "ExpandTemplate" → kind ≢ codes "ProcessTemplate" → kind_of pairs kind ≡ Err UnknownRequest
kind_unknown pairs kind a b c d e f i j k l g h =
    rw (differs kind (codes "InsertCoverage") a, differs kind (codes "UpdateCoverage") b, differs kind (codes "DeleteCoverage") c, differs kind (codes "ListCoverages") d, differs kind (codes "DescribeCoverage") e, differs kind (codes "ProcessCoverages") f, differs kind (codes "SubmitQuery") i, differs kind (codes "StepJob") j, differs kind (codes "FetchJob") k, differs kind (codes "CancelJob") l, differs kind (codes "ExpandTemplate") g, differs kind (codes "ProcessTemplate") h)
    refl
