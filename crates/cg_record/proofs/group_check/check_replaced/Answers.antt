use Rattle.std.proofs.Common.{Some, refl}
use Rattle.cg_record.specs.Members.{member_of}
use Rattle.cg_record.specs.Reading.{replaced_at}
use Rattle.cg_record.proofs.group_check.check_replaced.Goals as goal

pub returns : goal.returns
unfolding replaced_at
returns c =
    let profile = c.in_ok-rest-4.field-0-0 in (
      record {
        group = c.in_ok-rest.field-0-0.now;
        member = member_of c.in_ok-rest-2.field-0-0.now (Some c.in_ok-rest-3.field-0-0.now) (record { client = profile.client.now; session = profile.session; rebalance = profile.rebalance; subscription = profile.subscription.now; assignment = profile.assignment.now });
      },
      rw (c.in_ok-rest.ensures.gives, c.in_ok-rest-2.ensures.gives, c.in_ok-rest-3.ensures.gives, c.in_ok-rest-4.ensures.gives) refl,
    )
