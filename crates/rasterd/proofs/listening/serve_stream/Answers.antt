-- One connection is served.
use Rattle.rasterd.proofs.ServingLemmas.{serves-one}
use Rattle.rasterd.proofs.listening.serve_stream.Goals as goal

pub returns-clause-served : goal.returns-clause-served
returns-clause-served g c =
    serves-one _ _ _ _ c.serve_connection-end.ensures.served c.serve_connection-end.ensures.told
