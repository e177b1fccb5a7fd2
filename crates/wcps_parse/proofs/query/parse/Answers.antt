-- A query that is read is the only one spelled, bad syntax means that none is, and one too high is too deep.
use Rattle.std.proofs.lemmas.Result.{err_from_is_err_and}
use Rattle.wcps_parse.proofs.Outcomes.{fits_spelled, fits_only, high_deep, bad_none}
use Rattle.wcps_parse.proofs.query.parse.Goals as goal

pub returns-in_err-query-clause-no_query : goal.returns-in_err-query-clause-no_query
returns-in_err-query-clause-no_query c =
    let p = err_from_is_err_and c.from_residual.result c.from_residual.ensures.1 in
    rw (p.1, p.2) (bad_none _ c.in_err-query.field-0.0 c.in_err-query.ensures)

pub returns-in-Fits-clause-spelled : goal.returns-in-Fits-clause-spelled
returns-in-Fits-clause-spelled c = fits_spelled _ _ _ _ c.in_ok-query.ensures c.in-Fits.is

pub returns-in-Fits-clause-only : goal.returns-in-Fits-clause-only
returns-in-Fits-clause-only c = fits_only _ _ _ _ c.in_ok-query.ensures c.in-Fits.is

pub returns-in-High-clause-deep : goal.returns-in-High-clause-deep
returns-in-High-clause-deep c = λ e. high_deep _ _ c.in_ok-query.ensures c.in-High.is
