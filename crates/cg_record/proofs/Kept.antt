-- What a list starts with stays at its front.
use Rattle.std.proofs.Common.{◌≡◌, ℕ, List, ◌++◌, length, take, drop, ap, sym, ◌∙◌, append_assoc, take-append-drop}
use Rattle.std.proofs.Math.Seq.{take-append_seam}

-- what starts with two lists starts with the first
pub front_kept : (old part new : List ℕ) → take (length (old ++ part)) new ≡ old ++ part → take (length old) new ≡ old
front_kept old part new starts =
    let behind = drop (length (old ++ part)) new in
    let is : new ≡ old ++ (part ++ behind) = sym (take-append-drop (length (old ++ part)) new) ∙ ap (λ l. l ++ behind) starts ∙ append_assoc old part behind in
    ap (λ l. take (length old) l) is ∙ take-append_seam old (part ++ behind)
