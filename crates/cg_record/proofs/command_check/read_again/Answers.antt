use Rattle.std.proofs.Common.{◌≡◌, Ok, rules}
use Rattle.cg_record.specs.Partitions.{topic_partition}
use Rattle.cg_record.specs.Reading.{key_at}
use Rattle.cg_record.proofs.Again.{again_found, again_kept}
use Rattle.cg_record.proofs.command_check.read_again.Goals as goal

pub returns-in-Ok : goal.returns-in-Ok
returns-in-Ok c = λ front e after h.
    let key = topic_partition c.in_ok-key.key.topic.now c.in_ok-key.key.partition in
    let read : key_at c.args.bytes.now ≡ Ok (key, c.in_ok-key.rest.now) = search rules in
    again_found front c.args.bytes.now e after key c.in_ok-key.rest.now c.in-Ok.kept.offset c.in-Ok.kept.metadata.now c.in-Ok.after.now h read c.in-Ok.ensures.gives

pub returns-in-Err : goal.returns-in-Err
returns-in-Err c = λ front e after h.
    let key = topic_partition c.in_ok-key.key.topic.now c.in_ok-key.key.partition in
    let read : key_at c.args.bytes.now ≡ Ok (key, c.in_ok-key.rest.now) = search rules in
    again_kept front c.args.bytes.now e after key c.in_ok-key.rest.now c.in-Err.field-0 h read c.in-Err.ensures.gives
