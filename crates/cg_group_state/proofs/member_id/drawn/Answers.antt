use Rattle.std.proofs.Common.{ℕ, List, sym, ◌∙◌, subst}
use Rattle.cg_names.specs.Grammar.{IsName}
use Rattle.cg_names.specs.declared.name.TheConstants.{MEMBER_ID_BYTES_MAX}
use Rattle.cg_group_state.proofs.DrawnIds.{drawn_is_name}
use Rattle.cg_group_state.proofs.member_id.drawn.Goals as goal

pub member_id-requires : goal.member_id-requires
member_id-requires c =
    let P : List ℕ → Type 0 = λ xs. IsName MEMBER_ID_BYTES_MAX xs in
    subst P (sym (c.as_slice.ensures.value ∙ c.in_ok-bytes.ensures))
    (drawn_is_name c.own_name.result.now c.args.fresh c.own_name.ensures.name)
