use Rattle.std.proofs.Common.{List, ℕ, inl, subst, ◌∙◌}
use Rattle.std.specs.Io.KnownBytes.{Appends}
use Rattle.cg_server.proofs.output.print_status.Goals as goal

pub returns : goal.returns
returns g c =
    inl (subst (λ (l : List ℕ). Appends (g.W.Write.contents c.args.writer.now) (g.W.Write.contents c.print_line.new.writer) l) (c.as_bytes.ensures.value ∙ c.in-Ok.ensures) c.in_ok-print_line.ensures.ok)
