use Rattle.std.proofs.Common.{sym, ap, ◌∙◌}
use Rattle.std.specs.Prelude.{min}
use Rattle.cg_record.specs.declared.metadata.TheConstants.{METADATA_BYTES_MAX}
use Rattle.cg_record.specs.Partitions.{topic_partition}
use Rattle.cg_record.proofs.Again.{entry_reads}
use Rattle.cg_record.proofs.command_check.check_entry.Goals as goal

pub returns : goal.returns
returns c = λ front h.
    let key = c.in_ok-key.key in
    let kept = c.in_ok-rest.field-0-0 in
    let room = c.entry_room-room.ensures ∙ ap (min METADATA_BYTES_MAX) (c.room_left.ensures front c.args.bytes.now h) in (
      record { key = topic_partition key.topic.now key.partition; offset = kept.offset; metadata = kept.metadata.now },
      entry_reads front c.args.bytes.now (topic_partition key.topic.now key.partition) c.in_ok-key.rest.now c.entry_room-room.result kept.offset kept.metadata.now c.in_ok-rest.rest.now
          c.in_ok-key.ensures.gives (sym (c.is_repeated.ensures front c.args.bytes.now h) ∙ c.if-is_repeated.false) room c.in_ok-rest.ensures.gives,
    )
