-- A payload that grows by commands, and when it is full.
use Rattle.std.proofs.Common.{◌≡◌, ℕ, suc, ◌+◌, ◌<◌, ◌≤◌, Bool, true, false, List, [], ◌∷◌, ◌++◌, length, get_or, take, drop, cond, leb, refl, ap, ◌∙◌, subst, append-nil, arith}
use Rattle.std.proofs.lemmas.Bool.{leb-true, leb-false}
use Rattle.std.proofs.Math.Seq.{take-append_seam, drop-append_seam}
use Rattle.std.specs.List.{flat_map}
use Rattle.cg_frame.specs.declared.segment.TheConstants.{LARGEST_PAYLOAD_BYTES}
use Rattle.cg_record.specs.declared.command.Command.{Command}
use Rattle.cg_record.specs.Spelling.{command_text, spelling}
use Rattle.cg_record.proofs.Lengths.{text_len, text_len-cons, spelling-len}
use Rattle.cg_desk.specs.Fronts.{fitting, in_frame}

-- a command that does not fit ends the prefix that fits
stops-at : (b : Bool) (n : ℕ) → b ≡ false → cond b (suc n) 0 ≡ 0
stops-at true n is = absurd (cc)
stops-at false n is = refl

no_leb : (a b : ℕ) (c : Bool) → leb a b ≡ c → b < a → c ≡ false
no_leb a b true is less = absurd (let le = leb-true a b is in omega arith)
no_leb a b false is less = refl

pub no_more : (used : ℕ) (c : Command) (cs : List Command) → LARGEST_PAYLOAD_BYTES < used + length (command_text c) → fitting used (c ∷ cs) ≡ 0
unfolding fitting
no_more used c cs past =
    stops-at (leb (used + length (command_text c)) LARGEST_PAYLOAD_BYTES) (fitting (used + length (command_text c)) cs) (no_leb (used + length (command_text c)) LARGEST_PAYLOAD_BYTES (leb (used + length (command_text c)) LARGEST_PAYLOAD_BYTES) refl past)

-- commands that fit, before one that does not, are the whole prefix that fits
goes-at : (b : Bool) (n m : ℕ) → b ≡ true → n ≡ m → cond b (suc n) 0 ≡ suc m
goes-at true n m is same = ap suc same
goes-at false n m is same = absurd (cc)

yes_leb : (a b : ℕ) (c : Bool) → leb a b ≡ c → a ≤ b → c ≡ true
yes_leb a b true is le = refl
yes_leb a b false is le = absurd (let less = leb-false a b is in omega arith)

fitting-all : (used : ℕ) (cs rest : List Command) → used + text_len cs ≤ LARGEST_PAYLOAD_BYTES → fitting (used + text_len cs) rest ≡ 0 → fitting used (cs ++ rest) ≡ length cs
unfolding fitting
fitting-all used [] rest fits full = subst (λ (n : ℕ). fitting n rest ≡ 0) (omega arith) full
fitting-all used (c ∷ cs) rest fits full =
    let one = text_len-cons c cs in
    let more = fitting-all (used + length (command_text c)) cs rest (omega (arith, one, fits)) (subst (λ (n : ℕ). fitting n rest ≡ 0) (omega (arith, one)) full) in
    goes-at (leb (used + length (command_text c)) LARGEST_PAYLOAD_BYTES) (fitting (used + length (command_text c)) (cs ++ rest)) (length cs) (yes_leb (used + length (command_text c)) LARGEST_PAYLOAD_BYTES (leb (used + length (command_text c)) LARGEST_PAYLOAD_BYTES) refl (omega (arith, one, fits))) more

pub all_in_frame : (cs rest : List Command) → length (spelling cs) ≤ LARGEST_PAYLOAD_BYTES → fitting (length (spelling cs)) rest ≡ 0 → in_frame (cs ++ rest) ≡ length cs
all_in_frame cs rest fits full =
    let len = spelling-len cs in
    fitting-all 1 cs rest (omega (arith, len, fits)) (subst (λ (n : ℕ). fitting n rest ≡ 0) len full)

pub full_before : (used : ℕ) (next : Command) (cs : List Command) → 0 < length cs → next ≡ get_or cs 0 next → LARGEST_PAYLOAD_BYTES < used + length (command_text next) → fitting used cs ≡ 0
full_before used next [] some is past = absurd (omega arith)
full_before used next (c ∷ cs) some is past = no_more used c cs (subst (λ (k : Command). LARGEST_PAYLOAD_BYTES < used + length (command_text k)) is past)

pub full_empty : (used : ℕ) (cs : List Command) → length cs ≤ 0 → fitting used cs ≡ 0
unfolding fitting
full_empty used [] none = refl
full_empty used (c ∷ cs) none = absurd (omega arith)

-- a full draft has as many of the commands as one frame holds
is_front : (all cs rest : List Command) → all ≡ cs ++ rest → length (spelling cs) ≤ LARGEST_PAYLOAD_BYTES → fitting (length (spelling cs)) rest ≡ 0
    → (take (in_frame all) all ≡ cs) × (drop (in_frame all) all ≡ rest)
is_front all cs rest is fits full =
    let count = all_in_frame cs rest fits full in
    let at : in_frame all ≡ length cs = ap in_frame is ∙ count in (
      ap (λ (n : ℕ). take n all) at ∙ ap (take (length cs)) is ∙ take-append_seam cs rest,
      ap (λ (n : ℕ). drop n all) at ∙ ap (drop (length cs)) is ∙ drop-append_seam cs rest,
    )

pub draft_is_front : (all draft front : List Command) (lists : List (List Command)) → all ≡ draft ++ (front ++ flat_map (λ (l : List Command). l) lists) → length (spelling draft) ≤ LARGEST_PAYLOAD_BYTES → lists ≡ [] → fitting (length (spelling draft)) front ≡ 0
    → (take (in_frame all) all ≡ draft) × (drop (in_frame all) all ≡ front ++ flat_map (λ (l : List Command). l) lists)
draft_is_front all draft front lists is fits none full =
    let alone : front ++ flat_map (λ (l : List Command). l) lists ≡ front = ap (λ (ls : List (List Command)). front ++ flat_map (λ (l : List Command). l) ls) none ∙ append-nil front in
    is_front all draft (front ++ flat_map (λ (l : List Command). l) lists) is fits (ap (fitting (length (spelling draft))) alone ∙ full)
