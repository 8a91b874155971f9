-- A request in memory, as a session may keep it (this profile).
use Rattle.afp_base.specs.Cached as cached
use Rattle.afp_serial.specs.Answer.{request}
use Rattle.afp_core_dispatch.specs.declared.request.Request.{Request}

abbrev pub as_request : Request → cached.Request
as_request r = request r.id r.write r.offset r.payload
