-- What a poke leaves on a disk.
use Rattle.std.proofs.Common.{◌≡◌, ◌≢◌, ℕ, ◌+◌, true, false, eqb, List, [], ◌∷◌, length, refl, subst, ap, ◌∙◌, inl, inr, arith, take_all}
use Rattle.std.proofs.lemmas.Bool.{cases_lt, eqb-false, eqb-true}
use Rattle.cg_disk.specs.Disk.{Changes, History, Holds, IsDisturbed, IsSynced, Stays, present, sector, sector_count}
use Rattle.cg_disk.proofs.Moments.{Changes-present, Stays-content}
use Rattle.cg_sim.specs.Poking.{IsPoked, content_of, poked_by, sector_of}
use Rattle.cg_sim.specs.declared.poke.Poke.{Poke}

-- one sector of bytes is those bytes
whole-sector : (bytes : List ℕ) → length bytes ≡ 512 → sector bytes 0 ≡ bytes
unfolding sector
whole-sector bytes long = take_all 512 bytes (omega (arith, long))

-- a write of the sector and then a sync
pub IsPoked-written : (p : Poke) (old mid new : History) → length (content_of p) ≡ 512 → Holds (present mid).content (sector_of p) 1 (content_of p)
    → Changes (sector_of p) 1 old mid → Stays mid new → IsSynced (present new) → IsPoked (p ∷ []) (present old).content (present new)
IsPoked-written p old mid new long holds changes stays synced = record { content = content; synced = synced }
  where
    disturbed : IsDisturbed (sector_of p) 1 (present old) (present mid)
    disturbed = Changes-present (sector_of p) 1 old mid changes

    written : (present mid).content (sector_of p) ≡ content_of p
    written = let first : sector_of p ≡ sector_of p + 0 = omega arith in ap (present mid).content first ∙ holds 0 (omega arith) ∙ whole-sector (content_of p) long

    apart : (s : ℕ) → s ≢ sector_of p → (present mid).content s ≡ (present old).content s
    apart s other = elim (cases_lt s (sector_of p)) [
      | inl below ↦ (disturbed.below s below).content
      | inr above ↦ (disturbed.above s (omega (arith, above, other))).content
    ]

    content : (s : ℕ) → (present new).content s ≡ poked_by (p ∷ []) (present old).content s
    content s = Stays-content mid new stays s ∙ go (eqb s (sector_of p)) refl
      where
        go : (t : _) → eqb s (sector_of p) ≡ t → (present mid).content s ≡ poked_by (p ∷ []) (present old).content s
        go true same = let is : s ≡ sector_of p = eqb-true _ _ same in rw (same) (rw is written)
        go false other = rw other (apart s (eqb-false s (sector_of p) other))

-- the same, for the bytes that a call was given
pub IsPoked-given : (p : Poke) (bytes : List ℕ) (old mid new : History) → bytes ≡ content_of p → length (content_of p) ≡ 512
    → Holds (present mid).content (sector_of p) (sector_count bytes) bytes → Changes (sector_of p) (sector_count bytes) old mid
    → Stays mid new → IsSynced (present new) → IsPoked (p ∷ []) (present old).content (present new)
IsPoked-given p bytes old mid new same long holds changes stays synced =
    let one : sector_count bytes ≡ 1 = omega (arith, ap length same, long) in
    let held = subst (λ n. Holds (present mid).content (sector_of p) n bytes) one holds in
    let alone = subst (λ n. Changes (sector_of p) n old mid) one changes in
    IsPoked-written p old mid new long (subst (Holds (present mid).content (sector_of p) 1) same held) alone stays synced
