use Rattle.std.proofs.Common.{Bool, Ok, ap, is_some, subst, sym}
use Rattle.cg_server.specs.Ending.{Serves}
use Rattle.cg_server.proofs.serve.serve_or_load.Goals as goal

pub returns-in_ok-served-in-Some : goal.returns-in_ok-served-in-Some
returns-in_ok-served-in-Some g c = subst (λ (b : Bool). Serves b (Ok c.in_ok-served-in-Some.served) (g.W.Write.contents c.args.writer.now) (g.W.Write.contents c.serve_connections.new.writer))
    (sym (ap is_some c.in-Some.is)) c.in_ok-served-in-Some.ensures
