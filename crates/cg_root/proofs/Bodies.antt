-- The body of a root, and the root of a body.
use Rattle.std.proofs.Common.{◌≡◌, ℕ, ◌+◌, ◌*◌, ◌^◌, ◌<◌, ◌≤◌, List, ◌++◌, length, take, drop, get_or, refl, sym, ◌∙◌, ap, subst, arith}
use Rattle.std.specs.Int.{w16, w32, w64}
use Rattle.std.specs.List.{flat_map}
use Rattle.std.proofs.lemmas.Grind.{flat_map-append}
use Rattle.std.proofs.lemmas.List.{length-take, length-drop, length-append, take-take, drop-take, drop-drop, take-append-drop, take_at, drop_at}
use Rattle.cg_gate.specs.Layout.{segment_count}
use Rattle.cg_root.specs.Roots.{two_bytes, four_bytes, eight_bytes, root_ids, root_head, root_body, AreSegments, HasBody, IsLawful}
use Rattle.cg_root.specs.Decoding.{number_at, ids_in, root_in, IsRootBody}
use Rattle.cg_root.specs.declared.root.Root.{Root}
use Rattle.cg_root.specs.declared.slot.Slot.{Slot}
use Rattle.cg_root.proofs.Words.{front_fits, back_fits, AreBytes, AreBytes-part, length-flat_map_two, length-ids_in, ids_in-append, ids_in-flat_map_two, flat_map_two-ids_in, two_bytes-number_at, four_bytes-number_at, eight_bytes-number_at, number_at-two, number_at-four, number_at-eight}
use Rattle.cg_root.proofs.Segments.{length-segments, segment_count-le, segment_fits}

pub length-root_head : (version epoch base_number base tail : ℕ) → length (root_head version epoch base_number base tail) ≡ 24
unfolding two_bytes four_bytes eight_bytes
length-root_head version epoch base_number base tail = refl

pub length-root_body : (root : Root) → length (root_body root) ≡ 24 + 2 * length (root_ids root)
length-root_body root =
    omega (arith, length-append (root_head 1 root.epoch root.base_number (length root.base) (length root.tail)) (flat_map two_bytes (root_ids root)), length-root_head 1 root.epoch root.base_number (length root.base) (length root.tail), length-flat_map_two (root_ids root))

-- the body of a lawful root fits its sector
pub length-lawful : (sectors : ℕ) (root : Root) → IsLawful sectors root → length (root_ids root) ≤ 200
length-lawful sectors root lawful = length-segments sectors (root_ids root) lawful.ids

-- the fields of a head

-- a part of the bytes that these begin with
part : (xs ys : List ℕ) (n at w : ℕ) → take n xs ≡ ys → at + w ≤ n → take w (drop at xs) ≡ take w (drop at ys)
part xs ys n at w is le =
    sym (drop-take at w xs) ∙ ap (drop at) (sym (take-take (at + w) n xs le)) ∙ ap (λ (l : List ℕ). drop at (take (at + w) l)) is ∙ drop-take at w ys

module _ (xs : List ℕ) (version epoch base_number base tail : ℕ) (is : take 24 xs ≡ root_head version epoch base_number base tail) where
  version_of_head : version < 2 ^ 32 → number_at w32 0 xs ≡ version
  unfolding two_bytes four_bytes eight_bytes
  version_of_head fits = number_at-four xs 0 version fits (part xs _ 24 0 4 is (omega arith))

  epoch_of_head : epoch < 2 ^ 64 → number_at w64 4 xs ≡ epoch
  unfolding two_bytes four_bytes eight_bytes
  epoch_of_head fits = number_at-eight xs 4 epoch fits (part xs _ 24 4 8 is (omega arith))

  base_number_of_head : base_number < 2 ^ 64 → number_at w64 12 xs ≡ base_number
  unfolding two_bytes four_bytes eight_bytes
  base_number_of_head fits = number_at-eight xs 12 base_number fits (part xs _ 24 12 8 is (omega arith))

  base_of_head : base < 2 ^ 16 → number_at w16 20 xs ≡ base
  unfolding two_bytes four_bytes eight_bytes
  base_of_head fits = number_at-two xs 20 base fits (part xs _ 24 20 2 is (omega arith))

  tail_of_head : tail < 2 ^ 16 → number_at w16 22 xs ≡ tail
  unfolding two_bytes four_bytes eight_bytes
  tail_of_head fits = number_at-two xs 22 tail fits (part xs _ 24 22 2 is (omega arith))

-- the head of a body that was read
head_of_body : (xs : List ℕ) → 24 ≤ length xs → AreBytes xs → root_head (number_at w32 0 xs) (number_at w64 4 xs) (number_at w64 12 xs) (number_at w16 20 xs) (number_at w16 22 xs) ≡ take 24 xs
head_of_body xs long are =
    let a = four_bytes-number_at xs 0 (omega arith) are in
    let b = eight_bytes-number_at xs 4 (omega arith) are in
    let c = eight_bytes-number_at xs 12 (omega arith) are in
    let d = two_bytes-number_at xs 20 (omega arith) are in
    let e = two_bytes-number_at xs 22 (omega arith) are in
    (λ i. a i ++ b i ++ c i ++ d i ++ e i) ∙ joined
  where
    more : (m n : ℕ) → take m xs ++ take n (drop m xs) ≡ take (m + n) xs
    more m n =
        ap (λ (l : List ℕ). take m xs ++ l) (sym (drop-take m n xs)) ∙ ap (λ (l : List ℕ). l ++ drop m (take (m + n) xs)) (sym (take-take m (m + n) xs (omega arith)))
        ∙ take-append-drop m (take (m + n) xs)

    joined : take 4 (drop 0 xs) ++ take 8 (drop 4 xs) ++ take 8 (drop 12 xs) ++ take 2 (drop 20 xs) ++ take 2 (drop 22 xs) ≡ take 24 xs
    joined =
        ap (λ (l : List ℕ). l ++ take 8 (drop 12 xs) ++ take 2 (drop 20 xs) ++ take 2 (drop 22 xs)) (more 4 8)
        ∙ ap (λ (l : List ℕ). l ++ take 2 (drop 20 xs) ++ take 2 (drop 22 xs)) (more 12 8)
        ∙ ap (λ (l : List ℕ). l ++ take 2 (drop 22 xs)) (more 20 2)
        ∙ more 22 2

-- A stored root is the one that is read

module _ (sectors : ℕ) (xs : List ℕ) (root : Root) (has : HasBody sectors xs root) where
  abbrev b : ℕ
  b = length root.base

  abbrev t : ℕ
  t = length root.tail

  few : b + t ≤ 200
  few = omega (arith, length-lawful sectors root has.lawful, length-append root.base root.tail)

  count : length (root_ids root) ≡ b + t
  count = length-append root.base root.tail

  abbrev head : List ℕ
  head = root_head 1 root.epoch root.base_number b t

  whole : take (24 + 2 * (b + t)) xs ≡ head ++ flat_map two_bytes (root_ids root)
  whole = ap (λ (n : ℕ). take n xs) (let e : 24 + 2 * (b + t) ≡ length (root_body root) = omega (arith, length-root_body root, count) in e) ∙ has.body_is

  head_is : take 24 xs ≡ head
  head_is = sym (take-take 24 (24 + 2 * (b + t)) xs (omega arith)) ∙ ap (take 24) whole ∙ take_at head (flat_map two_bytes (root_ids root)) 24 (length-root_head 1 root.epoch root.base_number b t)

  ids_are : take (2 * (b + t)) (drop 24 xs) ≡ flat_map two_bytes root.base ++ flat_map two_bytes root.tail
  ids_are =
      sym (drop-take 24 (2 * (b + t)) xs) ∙ ap (drop 24) whole ∙ drop_at head (flat_map two_bytes (root_ids root)) 24 (length-root_head 1 root.epoch root.base_number b t)
      ∙ flat_map-append two_bytes root.base root.tail

  base_count : number_at w16 20 xs ≡ b
  base_count = base_of_head xs 1 root.epoch root.base_number b t head_is (omega (arith, few))

  tail_count : number_at w16 22 xs ≡ t
  tail_count = tail_of_head xs 1 root.epoch root.base_number b t head_is (omega (arith, few))

  version_is : number_at w32 0 xs ≡ 1
  version_is = version_of_head xs 1 root.epoch root.base_number b t head_is (omega arith)

  epoch_is : number_at w64 4 xs ≡ root.epoch
  epoch_is = epoch_of_head xs 1 root.epoch root.base_number b t head_is (omega (arith, has.lawful.epoch_to))

  base_number_is : number_at w64 12 xs ≡ root.base_number
  base_number_is = base_number_of_head xs 1 root.epoch root.base_number b t head_is (omega (arith, has.lawful.base_number))

  all_fit : (i : ℕ) → get_or (root_ids root) i 0 < 2 ^ 16
  all_fit = segment_fits (segment_count sectors) (root_ids root) (segment_count-le sectors) has.lawful.ids

  base_bytes : take (2 * b) (drop 24 xs) ≡ flat_map two_bytes root.base
  base_bytes =
      sym (take-take (2 * b) (2 * (b + t)) (drop 24 xs) (omega arith)) ∙ ap (take (2 * b)) ids_are
      ∙ take_at (flat_map two_bytes root.base) (flat_map two_bytes root.tail) (2 * b) (length-flat_map_two root.base)

  tail_bytes : take (2 * t) (drop (24 + 2 * b) xs) ≡ flat_map two_bytes root.tail
  tail_bytes =
      ap (take (2 * t)) (sym (drop-drop (2 * b) 24 xs))
      ∙ sym (drop-take (2 * b) (2 * t) (drop 24 xs))
      ∙ ap (λ (n : ℕ). drop (2 * b) (take n (drop 24 xs))) (let e : 2 * b + 2 * t ≡ 2 * (b + t) = omega arith in e)
      ∙ ap (drop (2 * b)) ids_are
      ∙ drop_at (flat_map two_bytes root.base) (flat_map two_bytes root.tail) (2 * b) (length-flat_map_two root.base)

  base_fits : (i : ℕ) → get_or root.base i 0 < 2 ^ 16
  base_fits i = front_fits root.base root.tail all_fit i

  tail_fits : (i : ℕ) → get_or root.tail i 0 < 2 ^ 16
  tail_fits i = back_fits root.base root.tail all_fit i

  base_is : ids_in (take (2 * number_at w16 20 xs) (drop 24 xs)) ≡ root.base
  base_is =
      ap (λ (n : ℕ). ids_in (take (2 * n) (drop 24 xs))) base_count ∙ ap ids_in base_bytes ∙ ids_in-flat_map_two root.base base_fits

  tail_is : ids_in (take (2 * number_at w16 22 xs) (drop (24 + 2 * number_at w16 20 xs) xs)) ≡ root.tail
  tail_is =
      (λ i. ids_in (take (2 * tail_count i) (drop (24 + 2 * base_count i) xs))) ∙ ap ids_in tail_bytes ∙ ids_in-flat_map_two root.tail tail_fits

  -- the root is the one that its bytes encode
  pub root_in-stored : root ≡ root_in root.slot xs
  root_in-stored = λ i. record { slot = root.slot; epoch = sym epoch_is i; base_number = sym base_number_is i; base = sym base_is i; tail = sym tail_is i }

  all_ids : ids_in (take (2 * (number_at w16 20 xs + number_at w16 22 xs)) (drop 24 xs)) ≡ root_ids root
  all_ids =
      (λ i. ids_in (take (2 * (base_count i + tail_count i)) (drop 24 xs))) ∙ ap ids_in (ids_are ∙ sym (flat_map-append two_bytes root.base root.tail))
      ∙ ids_in-flat_map_two (root_ids root) all_fit

  -- and they pass the rules
  pub IsRootBody-stored : IsRootBody sectors xs
  IsRootBody-stored = record {
    head = record {
      version = version_is;
      epoch_from = omega (arith, epoch_is, has.lawful.epoch_from);
      epoch_to = omega (arith, epoch_is, has.lawful.epoch_to);
      base_number = omega (arith, base_number_is, has.lawful.base_number);
      tail = omega (arith, tail_count, has.lawful.tail);
      fits = omega (arith, base_count, tail_count, few);
    };
    ids = subst (AreSegments (segment_count sectors)) (sym all_ids) has.lawful.ids;
  }

-- A body that passes the rules is that of a root

module _ (sectors : ℕ) (slot : Slot) (xs : List ℕ) (long : length xs ≡ 512) (are : AreBytes xs) (is : IsRootBody sectors xs) where
  abbrev b' : ℕ
  b' = number_at w16 20 xs

  abbrev t' : ℕ
  t' = number_at w16 22 xs

  abbrev base_part : List ℕ
  base_part = take (2 * b') (drop 24 xs)

  abbrev tail_part : List ℕ
  tail_part = take (2 * t') (drop (24 + 2 * b') xs)

  length_base : length base_part ≡ 2 * b'
  length_base = simp (length-take, length-drop) (omega (arith, is.head.fits))

  length_tail : length tail_part ≡ 2 * t'
  length_tail = simp (length-take, length-drop) (omega (arith, is.head.fits))

  parts : base_part ++ tail_part ≡ take (2 * (b' + t')) (drop 24 xs)
  parts =
      ap (λ (l : List ℕ). base_part ++ take (2 * t') l) (sym (drop-drop (2 * b') 24 xs))
      ∙ ap (λ (l : List ℕ). base_part ++ l) (sym (drop-take (2 * b') (2 * t') (drop 24 xs)))
      ∙ ap (λ (l : List ℕ). l ++ drop (2 * b') (take (2 * b' + 2 * t') (drop 24 xs))) (sym (take-take (2 * b') (2 * b' + 2 * t') (drop 24 xs) (omega arith)))
      ∙ take-append-drop (2 * b') (take (2 * b' + 2 * t') (drop 24 xs))
      ∙ ap (λ (n : ℕ). take n (drop 24 xs)) (let e : 2 * b' + 2 * t' ≡ 2 * (b' + t') = omega arith in e)

  -- the ids of the root
  ids_split : ids_in (take (2 * (b' + t')) (drop 24 xs)) ≡ ids_in base_part ++ ids_in tail_part
  ids_split = ap ids_in (sym parts) ∙ ids_in-append base_part tail_part b' length_base

  ids_back : flat_map two_bytes (ids_in base_part ++ ids_in tail_part) ≡ take (2 * (b' + t')) (drop 24 xs)
  ids_back =
      flat_map-append two_bytes (ids_in base_part) (ids_in tail_part)
      ∙ ap (λ (l : List ℕ). l ++ flat_map two_bytes (ids_in tail_part)) (flat_map_two-ids_in base_part b' length_base (AreBytes-part xs (2 * b') 24 are))
      ∙ ap (λ (l : List ℕ). base_part ++ l) (flat_map_two-ids_in tail_part t' length_tail (AreBytes-part xs (2 * t') (24 + 2 * b') are))
      ∙ parts

  base_length : length (ids_in base_part) ≡ b'
  base_length = length-ids_in base_part b' length_base

  tail_length : length (ids_in tail_part) ≡ t'
  tail_length = length-ids_in tail_part t' length_tail

  body_back : root_body (root_in slot xs) ≡ take (24 + 2 * (b' + t')) xs
  body_back =
      (λ i. root_head (sym is.head.version i) (number_at w64 4 xs) (number_at w64 12 xs) (base_length i) (tail_length i) ++ ids_back i)
      ∙ ap (λ (l : List ℕ). l ++ take (2 * (b' + t')) (drop 24 xs)) (head_of_body xs (omega arith) are)
      ∙ more 24 (2 * (b' + t'))
    where
      more : (m n : ℕ) → take m xs ++ take n (drop m xs) ≡ take (m + n) xs
      more m n =
          ap (λ (l : List ℕ). take m xs ++ l) (sym (drop-take m n xs)) ∙ ap (λ (l : List ℕ). l ++ drop m (take (m + n) xs)) (sym (take-take m (m + n) xs (omega arith)))
          ∙ take-append-drop m (take (m + n) xs)

  pub HasBody-read : HasBody sectors xs (root_in slot xs)
  HasBody-read = record {
    body_is =
        let size : length (root_body (root_in slot xs)) ≡ 24 + 2 * (b' + t') =
        omega (arith, length-root_body (root_in slot xs), length-append (ids_in base_part) (ids_in tail_part), base_length, tail_length) in
        ap (λ (n : ℕ). take n xs) size ∙ sym body_back;
    lawful = record {
      epoch_from = is.head.epoch_from;
      epoch_to = is.head.epoch_to;
      base_number = is.head.base_number;
      tail = omega (arith, tail_length, is.head.tail);
      ids = subst (AreSegments (segment_count sectors)) ids_split is.ids;
    };
  }
