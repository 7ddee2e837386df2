-- Sequences of disk calls, with one lemma for each call, for the crates above.
use Rattle.std.proofs.Common.{◌≡◌, ◌⊎◌, ℕ, zero, suc, ◌+◌, ◌*◌, ◌<◌, ◌≤◌, false, cond, ◌&&◌, leb, ltb, List, ◌++◌, length, take, drop, refl, sym, ◌∙◌, ap, subst, zero-add, add-zero, suc-add, append_assoc, inl, inr, arith}
use Rattle.std.proofs.lemmas.Bool.{cases_lt}
use Rattle.std.proofs.lemmas.Bool.Decides.{nat_tests}
use Rattle.std.proofs.lemmas.List.{length-take, length-drop, nil_from_length, drop-drop, take-append-drop}
use Rattle.cg_disk.proofs.Bytes.{sector-part}
use Rattle.cg_disk.specs.Disk.{Image, Moment, History, Changes, Stays, IsDisturbed, IsKept, IsImage, IsSynced, AllBut, LeavesOnly, Holds, present, sector, span}

-- IsKept and IsDisturbed

pub IsKept-refl : (m : Moment) (s : ℕ) → IsKept m m s
IsKept-refl m s = record { content = refl; synced = λ e. e }

pub IsKept-then : (a b c : Moment) (s : ℕ) → IsKept a b s → IsKept b c s → IsKept a c s
IsKept-then a b c s ab bc = record { content = bc.content ∙ ab.content; synced = λ e. bc.synced (ab.synced e) }

-- the same for a larger range of sectors
pub IsDisturbed-wider : (at n at' n' : ℕ) (a b : Moment) → at' ≤ at → at + n ≤ at' + n' → IsDisturbed at n a b → IsDisturbed at' n' a b
IsDisturbed-wider at n at' n' a b low high d = record { below = λ s lt. d.below s (omega arith); above = λ s le. d.above s (omega arith) }

pub IsDisturbed-then : (at n : ℕ) (a b c : Moment) → IsDisturbed at n a b → IsDisturbed at n b c → IsDisturbed at n a c
IsDisturbed-then at n a b c ab bc = record {
  below = λ s lt. IsKept-then a b c s (ab.below s lt) (bc.below s lt);
  above = λ s le. IsKept-then a b c s (ab.above s le) (bc.above s le);
}

-- Changes

pub Changes-refl : (at n : ℕ) (h : History) → Changes at n h h
Changes-refl at n h = record { later = omega arith; keeps = λ k le. refl; each = λ k lt le. absurd (omega arith) }

-- the present differs as each new moment does
pub Changes-present : (at n : ℕ) (old new : History) → Changes at n old new → IsDisturbed at n (present old) (present new)
Changes-present at n old new c = elim (cases_lt old.now new.now) [
  | inl lt ↦ c.each new.now lt (omega arith)
  | inr le ↦
      let same : new.now ≡ old.now = omega (arith, c.later) in
      let now : new.at new.now ≡ old.at old.now = ap new.at same ∙ c.keeps old.now (omega arith) in
      subst (λ (m : Moment). IsDisturbed at n (present old) m) (sym now) record { below = λ s lt. IsKept-refl (present old) s; above = λ s ge. IsKept-refl (present old) s }
]

pub Changes-wider : (at n at' n' : ℕ) (old new : History) → at' ≤ at → at + n ≤ at' + n' → Changes at n old new → Changes at' n' old new
Changes-wider at n at' n' old new low high c = record { later = c.later; keeps = c.keeps; each = λ k lt le. IsDisturbed-wider at n at' n' _ _ low high (c.each k lt le) }

pub Changes-then : (at n : ℕ) (old mid new : History) → Changes at n old mid → Changes at n mid new → Changes at n old new
Changes-then at n old mid new a b = record {
  later = omega (arith, a.later, b.later);
  keeps = λ k le. b.keeps k (omega (arith, a.later)) ∙ a.keeps k le;
  each = λ k lt le. elim (cases_lt mid.now k) [
    | inl after ↦ IsDisturbed-then at n (present old) (present mid) (new.at k) (Changes-present at n old mid a) (b.each k after le)
    | inr before ↦ subst (λ (m : Moment). IsDisturbed at n (present old) m) (sym (b.keeps k before)) (a.each k lt before)
  ];
}

-- a history without changes keeps the content, and no sector becomes unsynced
pub Stays-content : (old new : History) → Stays old new → (s : ℕ) → (present new).content s ≡ (present old).content s
Stays-content old new c s = ((Changes-present 0 0 old new c).above s (omega arith)).content

pub Stays-synced : (old new : History) → Stays old new → (s : ℕ) → (present old).unsynced s ≡ false → (present new).unsynced s ≡ false
Stays-synced old new c s = ((Changes-present 0 0 old new c).above s (omega arith)).synced

-- Images

-- the content is an image
pub IsImage-content : (m : Moment) → IsImage m m.content
IsImage-content m s e = refl

-- a synced disk has one image, sector by sector
pub IsSynced-image : (m : Moment) (image : Image) → IsSynced m → IsImage m image → (s : ℕ) → image s ≡ m.content s
IsSynced-image m image synced is s = is s (synced s)

-- an image of the later moment is one of the earlier moment, except for the changed sectors
pub AllBut-disturbed : (at n : ℕ) (a b : Moment) (image : Image) → IsDisturbed at n a b → IsImage b image → AllBut at n a image
AllBut-disturbed at n a b image d is = record {
  base = base;
  was = was;
  below = λ s lt. sym (outside s (inl lt));
  above = λ s le. sym (outside s (inr le));
}
  where
    base : Image
    base s = cond (leb at s && ltb s (at + n)) (a.content s) (image s)

    outside : (s : ℕ) → (s < at) ⊎ (at + n ≤ s) → base s ≡ image s
    outside s (inl lt) = grind (arith, nat_tests)
    outside s (inr le) = grind (arith, nat_tests)

    within : (s : ℕ) → at ≤ s → s < at + n → base s ≡ a.content s
    within s le lt = grind (arith, nat_tests)

    was : (s : ℕ) → a.unsynced s ≡ false → base s ≡ a.content s
    was s e = elim (cases_lt s at) [
      | inl lt ↦ outside s (inl lt) ∙ is s ((d.below s lt).synced e) ∙ (d.below s lt).content
      | inr ge ↦ elim (cases_lt s (at + n)) [
        | inl lt ↦ within s ge lt
        | inr past ↦ outside s (inr past) ∙ is s ((d.above s past).synced e) ∙ (d.above s past).content
      ]
    ]

-- the same for a larger range of sectors
pub AllBut-wider : (at n at' n' : ℕ) (m : Moment) (image : Image) → at' ≤ at → at + n ≤ at' + n' → AllBut at n m image → AllBut at' n' m image
AllBut-wider at n at' n' m image low high a = record { base = a.base; was = a.was; below = λ s lt. a.below s (omega arith); above = λ s le. a.above s (omega arith) }

-- an image is one except for no sectors
pub AllBut-image : (at n : ℕ) (m : Moment) (image : Image) → IsImage m image → AllBut at n m image
AllBut-image at n m image is = record { base = image; was = is; below = λ s lt. refl; above = λ s le. refl }

-- two changes of the same range in sequence
pub AllBut-then : (at n : ℕ) (a b : Moment) (image : Image) → IsDisturbed at n a b → AllBut at n b image → AllBut at n a image
AllBut-then at n a b image d but =
    let first = AllBut-disturbed at n a b but.base d but.was in
    record { base = first.base; was = first.was; below = λ s lt. but.below s lt ∙ first.below s lt; above = λ s le. but.above s le ∙ first.above s le }

-- LeavesOnly

-- before the first call
pub LeavesOnly-starts : (h : History) (P : Image → Type 0) → ((image : Image) → IsImage (present h) image → P image) → LeavesOnly h h P
LeavesOnly-starts h P here = record {
  later = omega arith;
  keeps = λ k le. refl;
  each = λ k lt le image is. here image (subst (λ (j : ℕ). IsImage (h.at j) image) (let same : k ≡ h.now = omega arith in same) is);
}

-- one more call, after which each image has P
pub LeavesOnly-goes_on : (at n : ℕ) (old mid new : History) (P : Image → Type 0) → LeavesOnly old mid P → Changes at n mid new → ((image : Image) → AllBut at n (present mid) image → P image) → LeavesOnly old new P
LeavesOnly-goes_on at n old mid new P so_far c here = record {
  later = omega (arith, so_far.later, c.later);
  keeps = λ k le. c.keeps k (omega (arith, so_far.later)) ∙ so_far.keeps k le;
  each = λ k ge le image is. elim (cases_lt mid.now k) [
    | inl after ↦ here image (AllBut-disturbed at n (present mid) (new.at k) image (c.each k after le) is)
    | inr before ↦ so_far.each k ge before image (subst (λ (m : Moment). IsImage m image) (c.keeps k before) is)
  ];
}

-- a read or a sync leaves no other image
pub LeavesOnly-stays : (old mid new : History) (P : Image → Type 0) → LeavesOnly old mid P → Stays mid new → LeavesOnly old new P
LeavesOnly-stays old mid new P so_far c = record {
  later = omega (arith, so_far.later, c.later);
  keeps = λ k le. c.keeps k (omega (arith, so_far.later)) ∙ so_far.keeps k le;
  each = λ k ge le image is. elim (cases_lt mid.now k) [
    | inl after ↦ so_far.each mid.now so_far.later (omega arith) image (λ s e. let kept = (c.each k after le).above s (omega arith) in is s (kept.synced e) ∙ kept.content)
    | inr before ↦ so_far.each k ge before image (subst (λ (m : Moment). IsImage m image) (c.keeps k before) is)
  ];
}

-- two sequences in a row
pub LeavesOnly-then : (old mid new : History) (P : Image → Type 0) → LeavesOnly old mid P → LeavesOnly mid new P → LeavesOnly old new P
LeavesOnly-then old mid new P a b = record {
  later = omega (arith, a.later, b.later);
  keeps = λ k le. b.keeps k (omega (arith, a.later)) ∙ a.keeps k le;
  each = λ k ge le image is. elim (cases_lt k mid.now) [
    | inl before ↦ a.each k ge (omega arith) image (subst (λ (m : Moment). IsImage m image) (b.keeps k (omega arith)) is)
    | inr after ↦ b.each k after le image is
  ];
}

-- a weaker property
pub LeavesOnly-weaker : (old new : History) (P Q : Image → Type 0) → ((image : Image) → P image → Q image) → LeavesOnly old new P → LeavesOnly old new Q
LeavesOnly-weaker old new P Q less run = record { later = run.later; keeps = run.keeps; each = λ k ge le image is. less image (run.each k ge le image is) }

-- both properties
pub LeavesOnly-both : (old new : History) (P Q : Image → Type 0) → LeavesOnly old new P → LeavesOnly old new Q → LeavesOnly old new (λ image. P image × Q image)
LeavesOnly-both old new P Q p q = record { later = p.later; keeps = p.keeps; each = λ k ge le image is. (p.each k ge le image is, q.each k ge le image is) }

-- the property of each image of the present
pub LeavesOnly-present : (old new : History) (P : Image → Type 0) → LeavesOnly old new P → (image : Image) → IsImage (present new) image → P image
LeavesOnly-present old new P run image is = run.each new.now run.later (omega arith) image is

-- a call that changes some sectors keeps each image except for these
pub LeavesOnly-changes : (at n : ℕ) (old new : History) → Changes at n old new → LeavesOnly old new (AllBut at n (present old))
LeavesOnly-changes at n old new c =
    LeavesOnly-goes_on at n old old new (AllBut at n (present old)) (LeavesOnly-starts old (AllBut at n (present old)) (AllBut-image at n (present old))) c (λ image but. but)

-- a synced disk without changes has its content as its only image
pub LeavesOnly-synced : (old new : History) → IsSynced (present old) → Stays old new → LeavesOnly old new (λ image. (s : ℕ) → image s ≡ (present old).content s)
LeavesOnly-synced old new synced c =
    LeavesOnly-stays old old new (λ image. (s : ℕ) → image s ≡ (present old).content s) (LeavesOnly-starts old _ (λ image is s. is s (synced s))) c

-- span and Holds

pub span-same : (a b : Image) (at n : ℕ) → ((s : ℕ) → at ≤ s → s < at + n → a s ≡ b s) → span a at n ≡ span b at n
span-same a b at zero same = refl
span-same a b at (suc n) same =
    ap (λ (l : List ℕ). l ++ span a (suc at) n) (same at (omega arith) (omega arith))
    ∙ ap (λ (l : List ℕ). b at ++ l) (span-same a b (suc at) n (λ s ge lt. same s (omega arith) (omega arith)))

pub span-stays : (old new : History) (at n : ℕ) → Stays old new → span (present new).content at n ≡ span (present old).content at n
span-stays old new at n c = span-same (present new).content (present old).content at n (λ s ge lt. Stays-content old new c s)

-- a span is its parts in sequence
pub span-add : (image : Image) (at m n : ℕ) → span image at (m + n) ≡ span image at m ++ span image (at + m) n
span-add image at zero n = ap (span image at) (zero-add n) ∙ ap (λ (k : ℕ). span image k n) (sym (add-zero at))
span-add image at (suc m) n =
    ap (span image at) (suc-add m n) ∙ ap (λ (l : List ℕ). image at ++ l) (span-add image (suc at) m n)
    ∙ sym (append_assoc (image at) (span image (suc at) m) (span image (suc at + m) n))
    ∙ ap (λ (k : ℕ). image at ++ span image (suc at) m ++ span image k n) (let e : suc at + m ≡ at + suc m = omega arith in e)

-- if sectors hold these bytes, so does their span
pub span-holds : (image : Image) (at n : ℕ) (bytes : List ℕ) → length bytes ≡ 512 * n → Holds image at n bytes → span image at n ≡ bytes
unfolding sector
span-holds image at zero bytes long holds = sym (nil_from_length bytes (omega arith))
span-holds image at (suc n) bytes long holds =
    let first : image at ≡ take 512 bytes = ap image (sym (add-zero at)) ∙ holds 0 (omega arith) in
    let rest : span image (suc at) n ≡ drop 512 bytes =
    span-holds image (suc at) n (drop 512 bytes) (simp length-drop (omega arith))
    (λ i lt. ap image (let e : suc at + i ≡ at + suc i = omega arith in e) ∙ holds (suc i) (omega arith)
    ∙ ap (λ (k : ℕ). take 512 (drop k bytes)) (let e : 512 * suc i ≡ 512 + 512 * i = omega arith in e) ∙ ap (take 512) (sym (drop-drop (512 * i) 512 bytes))) in
    ap (λ (l : List ℕ). l ++ span image (suc at) n) first ∙ ap (λ (l : List ℕ). take 512 bytes ++ l) rest ∙ take-append-drop 512 bytes

-- a prefix of the sectors
pub Holds-front : (image : Image) (at n m : ℕ) (bytes : List ℕ) → m ≤ n → Holds image at n bytes → Holds image at m (take (512 * m) bytes)
Holds-front image at n m bytes le holds i lt =
    holds i (omega arith) ∙ ap (sector bytes) (sym (zero-add i)) ∙ sector-part bytes (take (512 * m) bytes) 0 0 (512 * m) i refl refl (omega arith)

pub span-holds_front : (image : Image) (at n m : ℕ) (bytes : List ℕ) → length bytes ≡ 512 * n → m ≤ n → Holds image at n bytes → span image at m ≡ take (512 * m) bytes
span-holds_front image at n m bytes long le holds = span-holds image at m (take (512 * m) bytes) (simp length-take (omega arith)) (Holds-front image at n m bytes le holds)
