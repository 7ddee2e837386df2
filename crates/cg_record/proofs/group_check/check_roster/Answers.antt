use Rattle.std.proofs.Common.{refl, sym, ◌∙◌}
use Rattle.cg_record.specs.Rosters.{roster_of}
use Rattle.cg_record.specs.Reading.{listed_at, roster_at}
use Rattle.cg_record.proofs.group_check.check_roster.Goals as goal

pub returns-then-is_id_repeated : goal.returns-then-is_id_repeated
unfolding roster_at listed_at
returns-then-is_id_repeated c =
    let members = c.in_ok-rest-2.ensures.0 in
    let led = sym (c.is_id_repeated.ensures members c.in_ok-rest-2.rest.now c.in_ok-rest-2.ensures.1) ∙ c.if-is_id_repeated.true in (
      roster_of c.in_ok-rest.field-0-0.now c.in_ok-leader.leader.now members,
      rw (c.in_ok-rest.ensures.gives, c.in_ok-leader.ensures.gives, c.in_ok-count.ensures.gives, c.in_ok-rest-2.ensures.1, led) refl,
    )

pub returns-else-is_id_repeated : goal.returns-else-is_id_repeated
unfolding roster_at listed_at
returns-else-is_id_repeated c =
    let members = c.in_ok-rest-2.ensures.0 in
    let none = sym (c.is_id_repeated.ensures members c.in_ok-rest-2.rest.now c.in_ok-rest-2.ensures.1) ∙ c.if-is_id_repeated.false in
    rw (c.in_ok-rest.ensures.gives, c.in_ok-leader.ensures.gives, c.in_ok-count.ensures.gives, c.in_ok-rest-2.ensures.1, none) refl
