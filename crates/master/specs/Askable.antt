-- A request that 7 does not refuse, as it is passed on.
use Rattle.master.specs.Request.{Request, request_in}
use Rattle.master.specs.declared.request.Askable.{Askable}

abbrev pub asked_by : Askable → Request
asked_by request = request_in request.ia request.address request.ask
