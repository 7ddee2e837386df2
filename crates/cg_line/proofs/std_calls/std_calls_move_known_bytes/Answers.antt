use Rattle.cg_line.proofs.Calls.{std_end, std_read, std_written}
use Rattle.cg_line.proofs.std_calls.std_calls_move_known_bytes.Goals as goal

pub returns-clause-read : goal.returns-clause-read
returns-clause-read g c = std_read (λ t. g.R.Read.remaining t.reader) (λ t. g.W.Write.contents t.writer)

pub returns-clause-written : goal.returns-clause-written
returns-clause-written g c = std_written (λ t. g.R.Read.remaining t.reader) (λ t. g.W.Write.contents t.writer)

pub returns-clause-end : goal.returns-clause-end
returns-clause-end g c = std_end (λ t. g.R.Read.remaining t.reader) (λ t. g.W.Write.contents t.writer)
