-- The parked requests, member by member and group by group.
use Rattle.std.proofs.Common.{◌≡◌, ℕ, suc, ◌+◌, ◌<◌, List, [], ◌∷◌, ◌++◌, length, get_or, map, drop, refl, ap, sym, ◌∙◌, add-one, drop-cons}
use Rattle.std.specs.Prelude.{Option, None, Some, option_to_list}
use Rattle.std.specs.List.{cons_option, filter_map, flat_map}
use Rattle.std.proofs.lemmas.List.{map-append}
use Rattle.std.proofs.lemmas.List.Elements.{filter_map-append}
use Rattle.cg_group_state.specs.Waiting.{called, waiting_calls}
use Rattle.cg_group_state.specs.declared.calls.Calls.TheVariants.{Any}
use Rattle.cg_group_state.specs.declared.group.Group.{Group}
use Rattle.cg_group_state.specs.declared.member.Member.{Member}
use Rattle.cg_request.specs.declared.ticket.Ticket.{Ticket}
use Rattle.cg_desk.specs.Answering.{refusal}

-- the requests that these members wait for
abbrev pub parked_in : List Member → List Ticket
parked_in members = filter_map (λ (m : Member). called Any m.waits) members

in_front : (one : Option Ticket) (tickets : List Ticket) → cons_option one tickets ≡ option_to_list one ++ tickets
in_front None tickets = refl
in_front (Some t) tickets = refl

pub member_first : (m : Member) (members : List Member) → parked_in (m ∷ members) ≡ option_to_list (called Any m.waits) ++ parked_in members
member_first m members = in_front (called Any m.waits) (parked_in members)

pub no_groups : waiting_calls [] ≡ []
unfolding waiting_calls
no_groups = refl

pub group_first : (g : Group) (groups : List Group) → waiting_calls (g ∷ groups) ≡ parked_in g.members ++ waiting_calls groups
unfolding waiting_calls
group_first g groups = filter_map-append (λ (m : Member). called Any m.waits) g.members (flat_map (λ (g : Group). g.members) groups)

-- the refusals from a member on begin with its own
pub refused_from : (members : List Member) (n : ℕ) (m : Member) → n < length members → m ≡ get_or members n m
    → map refusal (parked_in (drop n members)) ≡ map refusal (option_to_list (called Any m.waits)) ++ map refusal (parked_in (drop (n + 1) members))
refused_from members n m within here =
    ap (λ (ms : List Member). map refusal (parked_in ms))
    (drop-cons members n m within ∙ ap (λ (x : Member). x ∷ drop (suc n) members) (sym here) ∙ ap (λ k. m ∷ drop k members) (sym (add-one n)))
    ∙ ap (map refusal) (member_first m (drop (n + 1) members))
    ∙ map-append refusal (option_to_list (called Any m.waits)) (parked_in (drop (n + 1) members))

-- the refusals of these groups begin with those of the first
pub refused_first : (items groups : List Group) (g : Group) → items ≡ g ∷ groups → map refusal (waiting_calls items) ≡ map refusal (parked_in g.members) ++ map refusal (waiting_calls groups)
refused_first items groups g is =
    ap (λ (gs : List Group). map refusal (waiting_calls gs)) is
    ∙ ap (map refusal) (group_first g groups)
    ∙ map-append refusal (parked_in g.members) (waiting_calls groups)
