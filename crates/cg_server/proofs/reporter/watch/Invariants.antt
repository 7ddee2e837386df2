use Rattle.cg_server.specs.Ending.{TellsStatuses}
use Rattle.cg_server.proofs.reporter.watch.Given as goal

abbrev pub invariant-loop : goal.invariant-loop
invariant-loop g l = TellsStatuses l.printed (g.W.Write.contents l.fn.writer) (g.W.Write.contents l.writer)
