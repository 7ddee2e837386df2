-- Which protocols a JOIN can list.
use Rattle.std.specs.Prelude.{Bool, List}
use Rattle.cg_record.specs.Distinct.{AreDistinct}
use Rattle.cg_request.specs.declared.protocol.Protocol.{Protocol}
use Rattle.cg_request.specs.declared.protocol.TheConstants.{PROTOCOLS_MAX}
use Rattle.cg_request.specs.Names.{is_same}

-- both protocols have one name
abbrev pub share_name : Protocol → Protocol → Bool
share_name a b = is_same a.name b.name

-- 1 to `PROTOCOLS_MAX` protocols, with different names
abbrev pub AreProtocols : List Protocol → Type 0
AreProtocols protocols = AreDistinct share_name 1 PROTOCOLS_MAX protocols
