-- Commands that begin with others.
use Rattle.std.proofs.Common.{◌≡◌, ◌↔◌, List, [], ◌∷◌, ◌++◌, length, ap, refl, subst, sym}
use Rattle.std.proofs.Math.Seq.{take-length}
use Rattle.cg_store.specs.Carried.{joined}
use Rattle.cg_record.specs.declared.command.Command.{Command}
use Rattle.cg_trail.specs.Trails.{BeginsWith}

-- after the same first commands
pub begins-after : (batch left others : List Command) → BeginsWith (batch ++ left) (batch ++ others) → BeginsWith left others
begins-after [] left others h = h
begins-after (x ∷ xs) left others h = begins-after xs left others (cc)

pub begins-before : (batch left others : List Command) → BeginsWith left others → BeginsWith (batch ++ left) (batch ++ others)
begins-before [] left others h = h
begins-before (x ∷ xs) left others h = ap (λ l. x ∷ l) (begins-before xs left others h)

-- commands that begin with more begin with less
pub begins-fewer : (made batch others : List Command) → BeginsWith made (batch ++ others) → BeginsWith made batch
begins-fewer made [] others h = refl
begins-fewer [] (x ∷ xs) others h = absurd (cc)
begins-fewer (y ∷ ys) (x ∷ xs) others h =
    let same : y ≡ x = cc in
    let rest : BeginsWith ys (xs ++ others) = cc in
    let less = begins-fewer ys xs others rest in
    cc

-- as many commands, which begin with these, are these
pub begins_same : (a b : List Command) → length a ≡ length b → BeginsWith a b → a ≡ b
begins_same a b long h = let all = take-length a in cc

pub same_begins : (a b : List Command) → a ≡ b → BeginsWith a b
same_begins a b same = let all = take-length b in cc

-- a batch that does not come next
pub begins-stop : (P : Type 0) (left batch : List Command) (rest others : List (List Command)) → rest ≡ batch ∷ others → ¬ BeginsWith left batch → BeginsWith left (joined rest) ↔ P → P → ⊥
begins-stop P left batch rest others is not same p = not (begins-fewer left batch (joined others) (subst (λ (r : List (List Command)). BeginsWith left (joined r)) is (same.1 p)))

-- past a batch that comes next
pub begins-past : (P : Type 0) (left after batch : List Command) (rest others : List (List Command)) → rest ≡ batch ∷ others → left ≡ batch ++ after → BeginsWith left (joined rest) ↔ P → BeginsWith after (joined others) ↔ P
begins-past P left after batch rest others is next same = (
  λ h. same.0 (coe 0 1 (i. BeginsWith (sym next i) (joined (sym is i))) (begins-before batch after (joined others) h)),
  λ p. begins-after batch after (joined others) (coe 0 1 (i. BeginsWith (next i) (joined (is i))) (same.1 p)),
)
