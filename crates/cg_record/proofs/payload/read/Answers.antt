use Rattle.std.proofs.Common.{arith}
use Rattle.cg_record.proofs.CommandLaws.{is_found, is_only}
use Rattle.cg_record.proofs.payload.read.Goals as goal

pub returns-clause-found : goal.returns-clause-found
returns-clause-found c = is_found (λ v. v.items) c.read_or_tell.result c.args.bytes.now (λ i. omega (arith, c.type_inv.bytes i)) c.read_or_tell.ensures

pub returns-clause-only : goal.returns-clause-only
returns-clause-only c = λ commands are spelled. is_only (λ v. v.items) c.read_or_tell.result c.args.bytes.now commands are spelled c.read_or_tell.ensures
