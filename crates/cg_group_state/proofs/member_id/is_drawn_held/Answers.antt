use Rattle.std.proofs.Common.{◌≡◌, ◌∷◌, ◌++◌, find, is_some, refl, sym, ap, ◌∙◌, Option, Some, None}
use Rattle.std.specs.Option.{option_copied}
use Rattle.uuid.specs.Text.{hyphenated_text, lower}
use Rattle.cg_group_state.specs.declared.member.Member.{Member}
use Rattle.cg_group_state.specs.MemberId.{drawn, own_name}
use Rattle.cg_group_state.specs.Membership.{find_member, is_same}
use Rattle.cg_group_state.proofs.member_id.is_drawn_held.Goals as goal
use denote.Bor.{Bor}

some_copied : {T : Type 0} (o : Option (Bor T)) → is_some (option_copied o) ≡ is_some o
some_copied None = refl
some_copied (Some b) = refl

pub returns : goal.returns
unfolding drawn find_member
returns c =
    let found : option_copied c.found_among.result ≡ find (λ (m : Member). is_same m.id (c.own_name.result.now ++ 45 ∷ c.as_bytes.result.now)) c.as_slice.result.now = c.found_among.ensures in
    let text : c.as_bytes.result.now ≡ hyphenated_text lower c.args.fresh = c.as_bytes.ensures.value ∙ c.encode_lower-text.ensures.text ∙ ap (hyphenated_text lower) c.hyphenated.ensures in
    let id : c.own_name.result.now ++ 45 ∷ c.as_bytes.result.now ≡ drawn (own_name c.args.r.now) c.args.fresh = ap (λ xs. xs ++ 45 ∷ c.as_bytes.result.now) c.own_name.ensures.value ∙ ap (λ xs. own_name c.args.r.now ++ 45 ∷ xs) text in
    c.is_some.ensures ∙ sym (some_copied c.found_among.result) ∙ ap is_some found
    ∙ ap (λ xs. is_some (find (λ (m : Member). is_same m.id xs) c.as_slice.result.now)) id
    ∙ ap (λ ms. is_some (find_member (drawn (own_name c.args.r.now) c.args.fresh) ms)) c.as_slice.ensures.value
