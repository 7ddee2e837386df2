-- Segments with their frames: lists of them, and images that agree on their sectors.
use Rattle.std.proofs.Common.{◌≡◌, ◌⊎◌, inl, inr, ℕ, zero, suc, ◌+◌, ◌-◌, ◌<◌, ◌≤◌, List, [], ◌∷◌, ◌++◌, length, get_or, take, sym, ap, ◌∙◌, subst, refl, arith}
use Rattle.std.proofs.lemmas.Grind.{flat_map-append}
use Rattle.std.proofs.lemmas.List.{append-nil, take_all, take_more, length-append, length-map, map-append}
use Rattle.std.proofs.Math.Seq.{get_or-append_seam}
use Rattle.std.specs.List.{AllByRecursion}
use Rattle.cg_disk.specs.Disk.{Image}
use Rattle.cg_frame.specs.Frames.{Chain, HasFrames, HasFramesTo, next_gate}
use Rattle.cg_frame.specs.declared.segment.Segment.{Segment}
use Rattle.cg_frame.proofs.Standing.{Chain-same, HasFrames-unique}
use Rattle.cg_gate.specs.Layout.{first_sector}
use Rattle.cg_log.specs.Ready.{last_id}
use Rattle.cg_log.specs.Segments.{Frames, Filled, segment_of, ids_of, frames_of, end_of_frames, AreStored}

-- The end of frames

pub Chain-end : (image : Image) (segment : Segment) (pos : ℕ) (frames : Frames) (end : ℕ) → Chain image segment pos frames end → end ≡ end_of_frames pos frames
Chain-end image segment pos [] end is = sym is
Chain-end image segment pos (f ∷ frames) end chain = Chain-end image segment (next_gate pos (length f.1)) frames end chain.1

-- frames end inside their segment
pub Chain-inside : (image : Image) (segment : Segment) (pos : ℕ) (frames : Frames) (end : ℕ) → pos < segment.sectors → Chain image segment pos frames end → end < segment.sectors
Chain-inside image segment pos [] end lt is = omega arith
Chain-inside image segment pos (f ∷ frames) end lt chain = Chain-inside image segment (next_gate pos (length f.1)) frames end chain.0.fits chain.1

pub HasFramesTo-end : (image : Image) (segment : Segment) (frames : Frames) → HasFrames image segment frames → HasFramesTo image segment frames (end_of_frames 0 frames)
HasFramesTo-end image segment frames has = subst (HasFramesTo image segment frames) (Chain-end image segment 0 frames has.0 has.1.chain) has.1

-- Images that agree on a segment

-- two images have the same sectors there
abbrev pub SameSectors : Image → Image → ℕ → ℕ → Type 0
SameSectors a b at n = (s : ℕ) → at ≤ s → s < at + n → b s ≡ a s

HasFramesTo-same : (a b : Image) (segment : Segment) (frames : Frames) (end : ℕ) → 0 < segment.sectors → SameSectors a b segment.first segment.sectors → HasFramesTo a segment frames end → HasFramesTo b segment frames end
HasFramesTo-same a b segment frames end some same has =
    let inside : end < segment.sectors = Chain-inside a segment 0 frames end some has.chain in
    record {
      chain = Chain-same a b segment 0 frames end (λ s ge lt. same s (omega arith) (omega arith)) has.chain;
      closed = λ opened. has.closed (ap (λ (l : List ℕ). get_or l 0 0) (sym (same (segment.first + end) (omega arith) (omega arith))) ∙ opened);
    }

pub HasFrames-same : (a b : Image) (id : ℕ) (frames : Frames) → SameSectors a b (first_sector id) 2048 → HasFrames a (segment_of id) frames → HasFrames b (segment_of id) frames
HasFrames-same a b id frames same has = (has.0, HasFramesTo-same a b (segment_of id) frames has.0 (omega arith) same has.1)

-- these segments have no sector among the n from `at` on
abbrev pub AreApart : ℕ → ℕ → List Filled → Type 0
AreApart at n segments = AllByRecursion (λ (s : Filled). (first_sector s.0 + 2048 ≤ at) ⊎ (at + n ≤ first_sector s.0)) segments

same_apart : (a b : Image) (at n id : ℕ) → ((s : ℕ) → s < at → b s ≡ a s) → ((s : ℕ) → at + n ≤ s → b s ≡ a s) → (first_sector id + 2048 ≤ at) ⊎ (at + n ≤ first_sector id) → SameSectors a b (first_sector id) 2048
same_apart a b at n id below above (inl le) s ge lt = below s (omega arith)
same_apart a b at n id below above (inr le) s ge lt = above s (omega arith)

-- images that agree elsewhere have the same frames there
pub AreStored-apart : (a b : Image) (at n : ℕ) (segments : List Filled) → ((s : ℕ) → s < at → b s ≡ a s) → ((s : ℕ) → at + n ≤ s → b s ≡ a s) → AreApart at n segments → AreStored a segments → AreStored b segments
AreStored-apart a b at n [] below above apart are = tt
AreStored-apart a b at n (s ∷ segments) below above apart are = (HasFrames-same a b s.0 s.1 (same_apart a b at n s.0 below above apart.0) are.0, AreStored-apart a b at n segments below above apart.1 are.1)

pub AreStored-same : (a b : Image) (segments : List Filled) → ((s : ℕ) → b s ≡ a s) → AreStored a segments → AreStored b segments
AreStored-same a b [] same are = tt
AreStored-same a b (s ∷ segments) same are = (HasFrames-same a b s.0 s.1 (λ k _ _. same k) are.0, AreStored-same a b segments same are.1)

-- the root slots lie before every segment
pub AreApart-slots : (at n : ℕ) (segments : List Filled) → at + n ≤ 4 → AreApart at n segments
AreApart-slots at n [] le = tt
AreApart-slots at n (s ∷ segments) le = (inr (omega arith), AreApart-slots at n segments le)

-- Lists

pub AreStored-append : (image : Image) (xs ys : List Filled) → AreStored image xs → AreStored image ys → AreStored image (xs ++ ys)
AreStored-append image [] ys a b = b
AreStored-append image (x ∷ xs) ys a b = (a.0, AreStored-append image xs ys a.1 b)

pub AreStored-front : (image : Image) (xs ys : List Filled) → AreStored image (xs ++ ys) → AreStored image xs
AreStored-front image [] ys are = tt
AreStored-front image (x ∷ xs) ys are = (are.0, AreStored-front image xs ys are.1)

pub AreStored-back : (image : Image) (xs ys : List Filled) → AreStored image (xs ++ ys) → AreStored image ys
AreStored-back image [] ys are = are
AreStored-back image (x ∷ xs) ys are = AreStored-back image xs ys are.1

pub AreStored-at : (image : Image) (segments : List Filled) (i d : ℕ) → i < length (ids_of segments) → AreStored image segments → (frames : Frames) × HasFrames image (segment_of (get_or (ids_of segments) i d)) frames
AreStored-at image [] i d lt are = absurd (omega arith)
AreStored-at image (s ∷ segments) zero d lt are = (s.1, are.0)
AreStored-at image (s ∷ segments) (suc i) d lt are = AreStored-at image segments i d (omega arith) are.1

-- segments of these ids have one list of frames each
pub AreStored-unique : (image : Image) (xs ys : List Filled) → ids_of xs ≡ ids_of ys → AreStored image xs → AreStored image ys → xs ≡ ys
AreStored-unique image [] [] same a b = refl
AreStored-unique image [] (y ∷ ys) same a b = absurd cc
AreStored-unique image (x ∷ xs) [] same a b = absurd cc
AreStored-unique image (x ∷ xs) (y ∷ ys) same a b =
    let id : x.0 ≡ y.0 = cc in
    let rest : ids_of xs ≡ ids_of ys = cc in
    let frames : x.1 ≡ y.1 = HasFrames-unique image (segment_of y.0) x.1 y.1 (omega arith) (subst (λ (k : ℕ). HasFrames image (segment_of k) x.1) id a.0) b.0 in
    λ i. (id i, frames i) ∷ AreStored-unique image xs ys rest a.1 b.1 i

pub frames_of-append : (xs ys : List Filled) → frames_of (xs ++ ys) ≡ frames_of xs ++ frames_of ys
frames_of-append xs ys = flat_map-append (λ (s : Filled). s.1) xs ys

pub frames_of-push : (xs : List Filled) (id : ℕ) (frames : Frames) → frames_of (xs ++ (id, frames) ∷ []) ≡ frames_of xs ++ frames
frames_of-push xs id frames = frames_of-append xs ((id, frames) ∷ []) ∙ ap (λ (l : Frames). frames_of xs ++ l) (append-nil frames)

pub ids_of-push : (xs : List Filled) (id : ℕ) (frames : Frames) → ids_of (xs ++ (id, frames) ∷ []) ≡ ids_of xs ++ id ∷ []
ids_of-push xs id frames = map-append (λ (s : Filled). s.0) xs ((id, frames) ∷ [])

pub length-ids : (segments : List Filled) → length (ids_of segments) ≡ length segments
length-ids segments = length-map segments (λ (s : Filled). s.0)

-- The last of several segments

pub split_last : (xs : List ℕ) (n : ℕ) → n ≡ length xs → 1 ≤ n → xs ≡ take (n - 1) xs ++ get_or xs (n - 1) 0 ∷ []
split_last xs n is some =
    let whole : take (n - 1 + 1) xs ≡ xs = take_all (n - 1 + 1) xs (omega arith) in
    sym whole ∙ take_more xs (n - 1) 0 (omega arith)

pub last_id-push : (xs : List ℕ) (x : ℕ) → last_id (xs ++ x ∷ []) ≡ x
last_id-push xs x =
    let long : length (xs ++ x ∷ []) - 1 ≡ length xs = omega (arith, length-append xs (x ∷ [])) in
    ap (λ (i : ℕ). get_or (xs ++ x ∷ []) i 0) long ∙ get_or-append_seam xs x [] 0
