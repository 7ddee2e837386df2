use Rattle.cg_line.specs.Stream.{refusal_line}
use Rattle.cg_line.proofs.stream.line_reply.reply.Goals as goal

pub returns-in-Ok : goal.returns-in-Ok
returns-in-Ok g c line asks =
    let said = c.in-Ok.ensures line asks in
    let put = c.put.ensures in (
      put.0,
      put.1,
      record {
        call = said.0;
        answer = said.2.0;
        is_answer = said.2.2;
        turns = said.1;
        put = rw (c.deref.ensures.value, said.2.1) at put.2;
      },
    )

pub returns-in-Err : goal.returns-in-Err
returns-in-Err g c line asks =
    let said = c.in-Err.ensures line asks in
    let put = c.put-in-Err.ensures in (
      put.0,
      put.1,
      record {
        call = said.0;
        answer = refusal_line c.in-Err.refusal;
        is_answer = said.2;
        turns = said.1;
        put = rw c.line.ensures at put.2;
      },
    )
