use Rattle.std.proofs.Common.{sym, ◌∙◌}
use Rattle.std.specs.Option.{option_copied}
use Rattle.cg_record.specs.Members.{Profile, member_of}
use Rattle.cg_record.proofs.Again.{member_reads}
use Rattle.cg_record.proofs.group_check.check_member.Goals as goal

pub returns : goal.returns
returns c = λ front h.
    let id = c.in_ok-id.id.now in
    let instance = option_copied c.in_ok-instance.instance in
    let fields = c.in_ok-rest.field-0-0 in
    let profile : Profile = record { client = fields.client.now; session = fields.session; rebalance = fields.rebalance; subscription = fields.subscription.now; assignment = fields.assignment.now } in (
      member_of id instance profile,
      member_reads front c.args.bytes.now id c.in_ok-id.rest.now instance c.in_ok-instance.rest.now profile c.in_ok-rest.rest.now
          c.in_ok-id.ensures.gives (sym (c.is_id_repeated.ensures front c.args.bytes.now h) ∙ c.if-is_id_repeated.false)
          c.in_ok-instance.ensures.gives (sym (c.is_instance_repeated.ensures front c.args.bytes.now h) ∙ c.if-is_instance_repeated.false)
          c.in_ok-rest.ensures.gives,
    )
