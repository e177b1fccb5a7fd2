-- The request of the name under the key `request`.
use Rattle.std.proofs.Common.{inl, sym, ◌∙◌, subst, map}
use Rattle.std.specs.Prelude.{string_bytes, codes}
use Rattle.kvp_front.specs.Values.{Gives, pair_view}
use Rattle.kvp_front.specs.Requests.{asks}
use Rattle.kvp_front.proofs.RequestLemmas.{spelled_kind, kind_known, kind_unknown}
use Rattle.kvp_front.proofs.reading.request_of.Goals as goal

pub returns-in-InsertCoverage : goal.returns-in-InsertCoverage
returns-in-InsertCoverage c =
    let pairs = map pair_view c.args.pairs.now in
    let is = spelled_kind pairs (string_bytes c.in-Ok.kind) c.in-Ok.ensures in
    let kind = sym c.as_str.ensures.value ∙ c.in-InsertCoverage.is in
    subst (λ x. Gives asks x c.read_insertion.result) (sym (is ∙ kind_known pairs _ (codes "InsertCoverage") kind)) c.read_insertion.ensures

pub returns-in-UpdateCoverage : goal.returns-in-UpdateCoverage
returns-in-UpdateCoverage c =
    let pairs = map pair_view c.args.pairs.now in
    let is = spelled_kind pairs (string_bytes c.in-Ok.kind) c.in-Ok.ensures in
    let kind = sym c.as_str.ensures.value ∙ c.in-UpdateCoverage.is in
    subst (λ x. Gives asks x c.read_update.result) (sym (is ∙ kind_known pairs _ (codes "UpdateCoverage") kind)) c.read_update.ensures

pub returns-in-DeleteCoverage : goal.returns-in-DeleteCoverage
returns-in-DeleteCoverage c =
    let pairs = map pair_view c.args.pairs.now in
    let is = spelled_kind pairs (string_bytes c.in-Ok.kind) c.in-Ok.ensures in
    let kind = sym c.as_str.ensures.value ∙ c.in-DeleteCoverage.is in
    subst (λ x. Gives asks x c.read_deletion.result) (sym (is ∙ kind_known pairs _ (codes "DeleteCoverage") kind)) c.read_deletion.ensures

pub returns-in-DescribeCoverage : goal.returns-in-DescribeCoverage
returns-in-DescribeCoverage c =
    let pairs = map pair_view c.args.pairs.now in
    let is = spelled_kind pairs (string_bytes c.in-Ok.kind) c.in-Ok.ensures in
    let kind = sym c.as_str.ensures.value ∙ c.in-DescribeCoverage.is in
    subst (λ x. Gives asks x c.read_description.result) (sym (is ∙ kind_known pairs _ (codes "DescribeCoverage") kind)) c.read_description.ensures

pub returns-in-ProcessCoverages : goal.returns-in-ProcessCoverages
returns-in-ProcessCoverages c =
    let pairs = map pair_view c.args.pairs.now in
    let is = spelled_kind pairs (string_bytes c.in-Ok.kind) c.in-Ok.ensures in
    let kind = sym c.as_str.ensures.value ∙ c.in-ProcessCoverages.is in
    subst (λ x. Gives asks x c.read_query.result) (sym (is ∙ kind_known pairs _ (codes "ProcessCoverages") kind)) c.read_query.ensures

pub returns-in-SubmitQuery : goal.returns-in-SubmitQuery
returns-in-SubmitQuery c =
    let pairs = map pair_view c.args.pairs.now in
    let is = spelled_kind pairs (string_bytes c.in-Ok.kind) c.in-Ok.ensures in
    let kind = sym c.as_str.ensures.value ∙ c.in-SubmitQuery.is in
    subst (λ x. Gives asks x c.read_submission.result) (sym (is ∙ kind_known pairs _ (codes "SubmitQuery") kind)) c.read_submission.ensures

pub returns-in-StepJob : goal.returns-in-StepJob
returns-in-StepJob c =
    let pairs = map pair_view c.args.pairs.now in
    let is = spelled_kind pairs (string_bytes c.in-Ok.kind) c.in-Ok.ensures in
    let kind = sym c.as_str.ensures.value ∙ c.in-StepJob.is in
    subst (λ x. Gives asks x c.read_stepping.result) (sym (is ∙ kind_known pairs _ (codes "StepJob") kind)) c.read_stepping.ensures

pub returns-in-FetchJob : goal.returns-in-FetchJob
returns-in-FetchJob c =
    let pairs = map pair_view c.args.pairs.now in
    let is = spelled_kind pairs (string_bytes c.in-Ok.kind) c.in-Ok.ensures in
    let kind = sym c.as_str.ensures.value ∙ c.in-FetchJob.is in
    subst (λ x. Gives asks x c.read_fetching.result) (sym (is ∙ kind_known pairs _ (codes "FetchJob") kind)) c.read_fetching.ensures

pub returns-in-CancelJob : goal.returns-in-CancelJob
returns-in-CancelJob c =
    let pairs = map pair_view c.args.pairs.now in
    let is = spelled_kind pairs (string_bytes c.in-Ok.kind) c.in-Ok.ensures in
    let kind = sym c.as_str.ensures.value ∙ c.in-CancelJob.is in
    subst (λ x. Gives asks x c.read_cancelling.result) (sym (is ∙ kind_known pairs _ (codes "CancelJob") kind)) c.read_cancelling.ensures

pub returns-in-ExpandTemplate : goal.returns-in-ExpandTemplate
returns-in-ExpandTemplate c =
    let pairs = map pair_view c.args.pairs.now in
    let is = spelled_kind pairs (string_bytes c.in-Ok.kind) c.in-Ok.ensures in
    let kind = sym c.as_str.ensures.value ∙ c.in-ExpandTemplate.is in
    subst (λ x. Gives asks x c.read_expansion.result) (sym (is ∙ kind_known pairs _ (codes "ExpandTemplate") kind)) c.read_expansion.ensures

pub returns-in-ProcessTemplate : goal.returns-in-ProcessTemplate
returns-in-ProcessTemplate c =
    let pairs = map pair_view c.args.pairs.now in
    let is = spelled_kind pairs (string_bytes c.in-Ok.kind) c.in-Ok.ensures in
    let kind = sym c.as_str.ensures.value ∙ c.in-ProcessTemplate.is in
    subst (λ x. Gives asks x c.read_processing.result) (sym (is ∙ kind_known pairs _ (codes "ProcessTemplate") kind)) c.read_processing.ensures

pub returns : goal.returns
returns c =
    let is = spelled_kind (map pair_view c.args.pairs.now) (string_bytes c.in-Ok.kind) c.in-Ok.ensures in
    let text = c.as_str.ensures.value in
    inl (is ∙ kind_unknown (map pair_view c.args.pairs.now) (string_bytes c.in-Ok.kind) (λ e. c.in_default.not-InsertCoverage (text ∙ e)) (λ e. c.in_default.not-UpdateCoverage (text ∙ e)) (λ e. c.in_default.not-DeleteCoverage (text ∙ e)) (λ e. c.in_default.not-ListCoverages (text ∙ e)) (λ e. c.in_default.not-DescribeCoverage (text ∙ e)) (λ e. c.in_default.not-ProcessCoverages (text ∙ e)) (λ e. c.in_default.not-SubmitQuery (text ∙ e)) (λ e. c.in_default.not-StepJob (text ∙ e)) (λ e. c.in_default.not-FetchJob (text ∙ e)) (λ e. c.in_default.not-CancelJob (text ∙ e)) (λ e. c.in_default.not-ExpandTemplate (text ∙ e)) (λ e. c.in_default.not-ProcessTemplate (text ∙ e)))
