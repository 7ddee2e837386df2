use Rattle.std.proofs.Common.{◌≡◌, ap, arith, length, ◌∙◌}
use Rattle.std.specs.Map.{values_of}
use Rattle.indexmap.specs.IndexMap.{values}
use Rattle.cg_group_state.specs.Membership.{seating}
use Rattle.cg_group_state.proofs.Seats.{as_many}
use Rattle.cg_group_state.proofs.members.Members.replace.Goals as goal

pub returns-clause-room : goal.returns-clause-room
returns-clause-room c =
    let ms = values c.reserve.new.self in
    let seated : length (values c.swap.new.x) ≡ length (seating c.sharing-member.result ms) = ap (λ m. length (values m)) c.swap.ensures.x_after ∙ ap length c.seat_in-id.ensures.seated in
    omega (arith, seated, as_many c.sharing-member.result ms, ap length c.self.view_is, c.len-places.ensures, ap (λ es. length (values_of es)) c.reserve.ensures.entries)
