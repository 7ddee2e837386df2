-- Frames and the chains that they make: for the crates above.
use Rattle.std.proofs.Common.{◌≡◌, ℕ, ◌+◌, ◌-◌, ◌^◌, ◌<◌, ◌≤◌, List, [], ◌∷◌, ◌++◌, length, take, drop, get_or, refl, sym, ◌∙◌, ap, subst, inl, inr, arith}
use Rattle.std.proofs.lemmas.Bool.{cases_lt}
use Rattle.std.proofs.lemmas.List.{length-take, length-append, take-take, take-append-le, take_at, drop_at, append_cancel_left}
use Rattle.cg_disk.specs.Disk.{Image, Moment, AllBut, span}
use Rattle.cg_disk.proofs.Moments.{span-same, span-add}
use Rattle.cg_frame.specs.Frames.{IsOpen, IsClosed, FrameAt, Chain, HasFrames, HasFramesTo, body, body_sectors, next_gate, word}
use Rattle.cg_frame.specs.Outcomes.{Appended, StandsLast, KeepsFramesTo, IsBeforeOrAfter}
use Rattle.cg_frame.specs.declared.segment.Segment.{Segment}
use Rattle.cg_frame.proofs.Words.{length-word, word_injective}

-- each image with the same sectors there has the frame
pub FrameAt-same : (a b : Image) (segment : Segment) (pos count : ℕ) (payload : List ℕ) → ((s : ℕ) → segment.first + pos ≤ s → s < segment.first + next_gate pos (length payload) → b s ≡ a s) → FrameAt a segment pos count payload → FrameAt b segment pos count payload
FrameAt-same a b segment pos count payload same frame = record {
  is_open = ap (λ (l : List ℕ). get_or l 0 0) (same (segment.first + pos) (omega arith) (omega arith)) ∙ frame.is_open;
  body_is = ap (take (16 + length payload)) (span-same b a (segment.first + pos + 1) (body_sectors (length payload)) (λ s ge lt. same s (omega arith) (omega arith))) ∙ frame.body_is;
  counted = frame.counted;
  fits_word = frame.fits_word;
  fits = frame.fits;
}

-- a chain goes on
pub Chain-le : (image : Image) (segment : Segment) (pos : ℕ) (frames : List (ℕ × List ℕ)) (end : ℕ) → Chain image segment pos frames end → pos ≤ end
Chain-le image segment pos [] end is = omega arith
Chain-le image segment pos (f ∷ frames) end chain = omega (arith, Chain-le image segment (next_gate pos (length f.1)) frames end chain.1)

pub Chain-same : (a b : Image) (segment : Segment) (pos : ℕ) (frames : List (ℕ × List ℕ)) (end : ℕ) → ((s : ℕ) → segment.first + pos ≤ s → s < segment.first + end → b s ≡ a s) → Chain a segment pos frames end → Chain b segment pos frames end
Chain-same a b segment pos [] end same is = is
Chain-same a b segment pos (f ∷ frames) end same chain =
    let le = Chain-le a segment (next_gate pos (length f.1)) frames end chain.1 in (
      FrameAt-same a b segment pos f.0 f.1 (λ s ge lt. same s ge (omega arith)) chain.0,
      Chain-same a b segment (next_gate pos (length f.1)) frames end (λ s ge lt. same s (omega arith) lt) chain.1,
    )

-- one frame more behind a chain
pub Chain-push : (image : Image) (segment : Segment) (pos : ℕ) (frames : List (ℕ × List ℕ)) (end count : ℕ) (payload : List ℕ) → Chain image segment pos frames end → FrameAt image segment end count payload → Chain image segment pos (frames ++ (count, payload) ∷ []) (next_gate end (length payload))
Chain-push image segment pos [] end count payload is frame = (subst (λ (p : ℕ). FrameAt image segment p count payload) (sym is) frame, ap (λ (p : ℕ). next_gate p (length payload)) is)
Chain-push image segment pos (f ∷ frames) end count payload chain frame = (chain.0, Chain-push image segment (next_gate pos (length f.1)) frames end count payload chain.1 frame)

-- An append

-- what it leaves has the chain before it
pub Chain-appended : (m : Moment) (segment : Segment) (pos n : ℕ) (frames : List (ℕ × List ℕ)) (image : Image) → AllBut (segment.first + pos) n m image → KeepsFramesTo m segment frames pos → Chain image segment 0 frames pos
Chain-appended m segment pos n frames image but keeps = Chain-same but.base image segment 0 frames pos (λ s ge lt. but.below s lt) (keeps but.base but.was).chain

-- the frames before it, with the new one or without
pub IsBeforeOrAfter-appended : (m : Moment) (segment : Segment) (pos count : ℕ) (payload : List ℕ) (frames : List (ℕ × List ℕ)) (image : Image) → KeepsFramesTo m segment frames pos → Appended m segment pos count payload image → IsBeforeOrAfter segment frames count payload image
IsBeforeOrAfter-appended m segment pos count payload frames image keeps appended =
    let chain = Chain-appended m segment pos _ frames image appended.elsewhere keeps in
    elim appended.outcome [
      | inl closed ↦ inl (pos, record { chain = chain; closed = closed })
      | inr stands ↦ inr (next_gate pos (length payload), record { chain = Chain-push image segment 0 frames pos count payload chain stands.frame; closed = stands.closed })
    ]

-- and with it where it stands
pub HasFramesTo-appended : (m : Moment) (segment : Segment) (pos count : ℕ) (payload : List ℕ) (frames : List (ℕ × List ℕ)) (image : Image) → KeepsFramesTo m segment frames pos → Appended m segment pos count payload image → StandsLast image segment pos count payload → HasFramesTo image segment (frames ++ (count, payload) ∷ []) (next_gate pos (length payload))
HasFramesTo-appended m segment pos count payload frames image keeps appended stands = record {
  chain = Chain-push image segment 0 frames pos count payload (Chain-appended m segment pos _ frames image appended.elsewhere keeps) stands.frame;
  closed = stands.closed;
}

-- A segment has at most one list of frames

length-body : (count : ℕ) (payload : List ℕ) → length (body count payload) ≡ 16 + length payload
length-body count payload = simp (length-append, length-word) (omega arith)

-- the head of a frame is the front of its body
pub head_is : (image : Image) (at b count : ℕ) (payload : List ℕ) → take (16 + length payload) (span image at b) ≡ body count payload → take 16 (span image at b) ≡ word count ++ word (length payload)
head_is image at b count payload is =
    sym (take-take 16 (16 + length payload) (span image at b) (omega arith)) ∙ ap (take 16) is
    ∙ take_at (word count ++ word (length payload)) payload 16 (simp (length-append, length-word) refl)

long : (image : Image) (at b count : ℕ) (payload : List ℕ) → take (16 + length payload) (span image at b) ≡ body count payload → 16 ≤ length (span image at b)
long image at b count payload is = omega (arith, ap length is, length-body count payload, length-take (16 + length payload) (span image at b))

-- a longer span has the same head
same_head : (image : Image) (at b b' : ℕ) → b ≤ b' → 16 ≤ length (span image at b) → take 16 (span image at b') ≡ take 16 (span image at b)
same_head image at b b' le more =
    ap (λ (n : ℕ). take 16 (span image at n)) (let e : b' ≡ b + (b' - b) = omega arith in e) ∙ ap (take 16) (span-add image at b (b' - b)) ∙ take-append-le 16 (span image at b) (span image (at + b) (b' - b)) more

heads_equal : (image : Image) (at b b' : ℕ) → 16 ≤ length (span image at b) → 16 ≤ length (span image at b') → take 16 (span image at b) ≡ take 16 (span image at b')
heads_equal image at b b' l l' = elim (cases_lt b b') [ inl lt ↦ sym (same_head image at b b' (omega arith) l) | inr ge ↦ same_head image at b' b ge l' ]

pub words_equal : (a b c d : ℕ) → word a ++ word b ≡ word c ++ word d → (word a ≡ word c) × (word b ≡ word d)
words_equal a b c d same =
    let front : word a ≡ word c = sym (take_at (word a) (word b) 8 (length-word a)) ∙ ap (take 8) same ∙ take_at (word c) (word d) 8 (length-word c) in
    let back : word b ≡ word d = sym (drop_at (word a) (word b) 8 (length-word a)) ∙ ap (drop 8) same ∙ drop_at (word c) (word d) 8 (length-word c) in
    (front, back)

-- a gate has at most one frame
pub FrameAt-unique : (image : Image) (segment : Segment) (pos count count' : ℕ) (payload payload' : List ℕ) → segment.sectors < 2 ^ 54 → FrameAt image segment pos count payload → FrameAt image segment pos count' payload' → (count ≡ count') × (payload ≡ payload')
FrameAt-unique image segment pos count count' payload payload' small f f' =
    let at = segment.first + pos + 1 in
    let b = body_sectors (length payload) in
    let b' = body_sectors (length payload') in
    let heads : word count ++ word (length payload) ≡ word count' ++ word (length payload') =
    sym (head_is image at b count payload f.body_is) ∙ heads_equal image at b b' (long image at b count payload f.body_is) (long image at b' count' payload' f'.body_is) ∙ head_is image at b' count' payload' f'.body_is in
    let words = words_equal count (length payload) count' (length payload') heads in
    let counts : count ≡ count' = word_injective count count' f.fits_word f'.fits_word words.0 in
    let lengths : length payload ≡ length payload' = word_injective (length payload) (length payload') (omega (arith, f.fits, small)) (omega (arith, f'.fits, small)) words.1 in
    let bodies : body count payload ≡ body count' payload' = sym f.body_is ∙ ap (λ (n : ℕ). take (16 + n) (span image at (body_sectors n))) lengths ∙ f'.body_is in
    (counts, append_cancel_left (word count ++ word (length payload)) payload payload' (bodies ∙ ap (λ (l : List ℕ). l ++ payload') (sym heads)))

-- a closed gate ends a chain
pub Chain-ends : (image : Image) (segment : Segment) (pos : ℕ) (frames : List (ℕ × List ℕ)) (end : ℕ) → Chain image segment pos frames end → IsClosed image (segment.first + pos) → (frames ≡ []) × (pos ≡ end)
Chain-ends image segment pos [] end is closed = (refl, is)
Chain-ends image segment pos (f ∷ frames) end chain closed = absurd (closed chain.0.is_open)

-- before the end of a chain there is a frame, and the chain goes on after it
pub Chain-goes_on : (image : Image) (segment : Segment) (pos : ℕ) (frames : List (ℕ × List ℕ)) (end count : ℕ) (payload : List ℕ) → segment.sectors < 2 ^ 54 → Chain image segment pos frames end → IsClosed image (segment.first + end) → FrameAt image segment pos count payload → (rest : List (ℕ × List ℕ)) × (frames ≡ (count, payload) ∷ rest) × Chain image segment (next_gate pos (length payload)) rest end
Chain-goes_on image segment pos [] end count payload small is closed frame = absurd (closed (subst (λ (p : ℕ). IsOpen image (segment.first + p)) is frame.is_open))
Chain-goes_on image segment pos (f ∷ frames) end count payload small chain closed frame =
    let same = FrameAt-unique image segment pos f.0 count f.1 payload small chain.0 frame in (
      frames,
      (λ i. (same.0 i, same.1 i) ∷ frames),
      subst (λ (l : List ℕ). Chain image segment (next_gate pos (length l)) frames end) same.1 chain.1,
    )

-- behind an open gate in a chain a frame stands
pub Chain-open : (image : Image) (segment : Segment) (pos : ℕ) (frames : List (ℕ × List ℕ)) (end : ℕ) → Chain image segment pos frames end → IsClosed image (segment.first + end) → IsOpen image (segment.first + pos) → (f : ℕ × List ℕ) × FrameAt image segment pos f.0 f.1
Chain-open image segment pos [] end is closed opened = absurd (closed (subst (λ (p : ℕ). IsOpen image (segment.first + p)) is opened))
Chain-open image segment pos (f ∷ frames) end chain closed opened = (f, chain.0)

-- the frames from a gate on are one list, up to one closed gate
pub Chain-unique : (image : Image) (segment : Segment) (pos : ℕ) (frames frames' : List (ℕ × List ℕ)) (end end' : ℕ) → segment.sectors < 2 ^ 54 → Chain image segment pos frames end → IsClosed image (segment.first + end) → Chain image segment pos frames' end' → IsClosed image (segment.first + end') → (frames ≡ frames') × (end ≡ end')
Chain-unique image segment pos [] frames' end end' small is closed chain' closed' =
    let ends = Chain-ends image segment pos frames' end' chain' (subst (λ (p : ℕ). IsClosed image (segment.first + p)) (sym is) closed) in
    (sym ends.0, sym is ∙ ends.1)
Chain-unique image segment pos (f ∷ frames) frames' end end' small chain closed chain' closed' =
    let next = Chain-goes_on image segment pos frames' end' f.0 f.1 small chain' closed' chain.0 in
    let rest = Chain-unique image segment (next_gate pos (length f.1)) frames next.0 end end' small chain.1 closed next.2 closed' in
    (ap (λ (l : List (ℕ × List ℕ)). f ∷ l) rest.0 ∙ sym next.1, rest.1)

pub HasFrames-unique : (image : Image) (segment : Segment) (frames frames' : List (ℕ × List ℕ)) → segment.sectors < 2 ^ 54 → HasFrames image segment frames → HasFrames image segment frames' → frames ≡ frames'
HasFrames-unique image segment frames frames' small has has' = (Chain-unique image segment 0 frames frames' has.0 has'.0 small has.1.chain has.1.closed has'.1.chain has'.1.closed).0
