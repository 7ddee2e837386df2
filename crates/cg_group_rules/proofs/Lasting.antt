-- The greatest rebalance timeout of the members that stay.
use Rattle.std.proofs.Common.{◌≡◌, ℕ, true, false, List, [], ◌∷◌, cond, map, fold, refl}
use Rattle.std.specs.Prelude.{max, if◌then◌else◌}
use Rattle.cg_group_state.specs.declared.member.Member.{Member}
use Rattle.cg_group_state.specs.declared.who_stays.Staying.{Staying}
use Rattle.cg_group_state.specs.Staying.{remaining, stays}
use Rattle.cg_group_rules.specs.Tick.{greatest_rebalance}

-- the greatest so far, with one member more
abbrev pub raised : Staying → ℕ → Member → ℕ
raised who greatest m = if stays who m then max greatest m.rebalance else greatest

raised_from : (who : Staying) (ms : List Member) (a : ℕ) → fold (raised who) a ms ≡ fold max a (map (λ m. m.rebalance) (remaining who ms))
raised_from who [] a = refl
raised_from who (m ∷ ms) a =
    elim (stays who m) as (λ b. fold (raised who) (if b then max a m.rebalance else a) ms ≡ fold max a (map (λ x. x.rebalance) (cond b (m ∷ remaining who ms) (remaining who ms)))) [
      | true ↦ raised_from who ms (max a m.rebalance)
      | false ↦ raised_from who ms a
    ]

pub greatest_staying : (who : Staying) (ms : List Member) → fold (raised who) 0 ms ≡ greatest_rebalance (remaining who ms)
unfolding greatest_rebalance
greatest_staying who ms = raised_from who ms 0
