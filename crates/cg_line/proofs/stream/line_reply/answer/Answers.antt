use Rattle.std.proofs.Common.{Some}
use Rattle.cg_line.proofs.Streams.{answers_asked}
use Rattle.cg_line.proofs.stream.line_reply.answer.Goals as goal

pub returns-in-Request : goal.returns-in-Request
returns-in-Request g c line asks =
    let said = c.ask.ensures in
    let spelled = rw c.in-Request.is at asks in
    (Some (c.in-Request.request, said.0), said.1, answers_asked line c.in-Request.request said.0 c.ask.result c.ask.new.text.items spelled.0 spelled.1 said.2)
