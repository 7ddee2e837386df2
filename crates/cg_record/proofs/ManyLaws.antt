-- The law of a list of values: its decoder accepts exactly the encodings in their order.
use Rattle.std.proofs.Common.{◌≡◌, ℕ, zero, suc, ◌<◌, ◌≤◌, List, [], ◌∷◌, ◌++◌, length, Ok, refl, sym, ap, subst, ◌∙◌, append_assoc, arith}
use Rattle.std.specs.List.{flat_map, AllByRecursion}
use Rattle.std.proofs.lemmas.List.{append-nil}
use Rattle.std.proofs.lemmas.List.Concat.{flat_map-cons}
use Rattle.cg_record.specs.declared.fault.RecordFault.TheVariants.{BadLength}
use Rattle.cg_record.specs.Fields.{Read, ◌>>=◌, only, is_from_to, byte_at, many_at}
use Rattle.cg_record.proofs.Laws.{IsBytes, bind_ok, ok_is, Takes, Takes-one, Takes-then, Anything, Reads, reads_only, reads_then, reads_as, reads_known}
use Rattle.cg_record.proofs.FieldLaws.{reads_byte, from_to-true, is_from_to-true}

-- a property of a list that each new element preserves
pub record Grows {X : Type 0} (Apart : List X → Type 0) (IsNew : List X → X → Type 0) : Type 0 where
  pub nil : Apart []
  pub push : (front : List X) (x : X) → Apart front → IsNew front x → Apart (front ++ x ∷ [])
  pub middle : (front : List X) (x : X) (more : List X) → Apart (front ++ x ∷ more) → IsNew front x

-- n values were decoded after others
pub record Took {X : Type 0} (text : X → List ℕ) (Is : X → Type 0) (Apart : List X → Type 0) (n : ℕ) (front : List X) (bytes : List ℕ) (all : List X) (rest : List ℕ) (xs : List X) : Type 0 where
  pub all_is : all ≡ front ++ xs
  pub taken : Takes bytes (flat_map text xs) rest
  pub count : length xs ≡ n
  pub each : AllByRecursion Is xs
  pub distinct : Apart all

pub record AreRead {X : Type 0} (Is : X → Type 0) (Apart : List X → Type 0) (n : ℕ) (xs : List X) : Type 0 where
  pub count : length xs ≡ n
  pub distinct : Apart xs
  pub each : AllByRecursion Is xs

-- at least one value, and at most `max`
pub record AreCounted {X : Type 0} (Is : X → Type 0) (Apart : List X → Type 0) (max : ℕ) (xs : List X) : Type 0 where
  pub some : 1 ≤ length xs
  pub few : length xs ≤ max
  pub distinct : Apart xs
  pub each : AllByRecursion Is xs

regroup : {X : Type 0} (front : List X) (x : X) (xs : List X) → (front ++ x ∷ []) ++ xs ≡ front ++ x ∷ xs
regroup front x xs = append_assoc front (x ∷ []) xs

module _ {X : Type 0} (at : List X → List ℕ → Read X) (text : X → List ℕ) (Is : X → Type 0) (Apart : List X → Type 0) (IsNew : List X → X → Type 0) (grows : Grows Apart IsNew) (reader : (front : List X) → Reads (at front) text (λ x. Is x × IsNew front x)) where
  many_take : (n : ℕ) (front : List X) (bytes : List ℕ) (all : List X) (rest : List ℕ) → IsBytes bytes → Apart front → many_at at n front bytes ≡ Ok (all, rest) → (xs : List X) × Took text Is Apart n front bytes all rest xs
  unfolding many_at
  many_take zero front bytes all rest fits apart e =
      let same = ok_is (front, bytes) (all, rest) e in
      let all_is : all ≡ front = ap (λ (y : List X × List ℕ). y.0) (sym same) in
      let rest_is : bytes ≡ rest = ap (λ (y : List X × List ℕ). y.1) same in
      ([], record { all_is = all_is ∙ sym (append-nil front); taken = Takes-one bytes [] rest fits rest_is; count = refl; each = tt; distinct = subst Apart (sym all_is) apart })
  many_take (suc n) front bytes all rest fits apart e =
      let b = bind_ok (at front bytes) (λ next. many_at at n (front ++ next.0 ∷ []) next.1) (all, rest) e in
      let first = b.0.0 in
      let t = (reader front).takes bytes first b.0.1 fits b.1 in
      let u = many_take n (front ++ first ∷ []) b.0.1 all rest t.0.rest_fits (grows.push front first apart t.2.1) b.2 in (
        first ∷ u.0,
        record {
          all_is = u.1.all_is ∙ regroup front first u.0;
          taken = rw flat_map-cons (Takes-then bytes (text first) b.0.1 (flat_map text u.0) rest t.0 u.1.taken);
          count = ap suc u.1.count;
          each = (t.2.0, u.1.each);
          distinct = u.1.distinct;
        },
      )

  many_again : (xs front : List X) (rest : List ℕ) → AllByRecursion Is xs → Apart (front ++ xs) → many_at at (length xs) front (flat_map text xs ++ rest) ≡ Ok (front ++ xs, rest)
  unfolding many_at
  many_again [] front rest each apart = ap (λ (all : List X). Ok (all, rest)) (sym (append-nil front))
  many_again (x ∷ xs) front rest each apart =
      let spelled : flat_map text (x ∷ xs) ++ rest ≡ text x ++ (flat_map text xs ++ rest) = ap (λ (l : List ℕ). l ++ rest) (flat_map-cons text x xs) ∙ append_assoc (text x) (flat_map text xs) rest in
      let new = grows.middle front x xs apart in
      let one = (reader front).again x (flat_map text xs ++ rest) tt (each.0, new) in
      let others = many_again xs (front ++ x ∷ []) rest each.1 (subst Apart (sym (regroup front x xs)) apart) in
      ap (many_at at (suc (length xs)) front) spelled ∙ rw one (others ∙ ap (λ (all : List X). Ok (all, rest)) (regroup front x xs))

  pub reads_many : (n : ℕ) → Reads (many_at at n []) (flat_map text) (AreRead Is Apart n)
  reads_many n = record {
    takes = λ bytes all rest fits e.
        let t = many_take n [] bytes all rest fits grows.nil e in
        let same : t.0 ≡ all = sym t.1.all_is in (
          subst (λ (xs : List X). Takes bytes (flat_map text xs) rest) same t.1.taken,
          tt,
          record { count = ap length (sym same) ∙ t.1.count; distinct = t.1.distinct; each = subst (AllByRecursion Is) same t.1.each },
        );
    again = λ xs rest known is.
        ap (λ k. many_at at k [] (flat_map text xs ++ rest)) (sym is.count) ∙ many_again xs [] rest is.each is.distinct;
  }

  -- with their number before them
  pub reads_numbered : {at_count : List ℕ → Read ℕ} {count_text : ℕ → List ℕ} {IsCount : ℕ → Type 0} → Reads at_count count_text IsCount
      → Reads (λ bytes. at_count bytes >>= λ count. many_at at count.0 [] count.1) (λ xs. count_text (length xs) ++ flat_map text xs) (λ xs. IsCount (length xs) × (Apart xs × AllByRecursion Is xs))
  reads_numbered counted =
      reads_then length counted (λ count is_count.
      reads_known {Known = λ xs. Anything xs × (length xs ≡ count)} {Other = λ xs. Apart xs × AllByRecursion Is xs}
      (reads_many count)
      (λ xs is. ((tt, is.count), (is.distinct, is.each)))
      (λ xs known is. record { count = known.1; distinct = is.0; each = is.1 }))

  -- with one byte of count before them
  pub reads_counted : (max : ℕ) → max < 256 → Reads (λ bytes. only (is_from_to 1 max) BadLength (byte_at bytes) >>= λ count. many_at at count.0 [] count.1) (λ xs. length xs ∷ flat_map text xs) (AreCounted Is Apart max)
  reads_counted max below =
      reads_as
      (reads_then length (reads_only (is_from_to 1 max) BadLength reads_byte) (λ count is_count.
      reads_known {Known = λ xs. Anything xs × (length xs ≡ count)} {Other = λ xs. Apart xs × AllByRecursion Is xs}
      (reads_many count)
      (λ xs is. ((tt, is.count), (is.distinct, is.each)))
      (λ xs known is. record { count = known.1; distinct = is.0; each = is.1 })))
      (λ xs. refl)
      (λ xs known is.
      let range = from_to-true 1 max (length xs) is.0.1 in
      record { some = range.0; few = range.1; distinct = is.1.0; each = is.1.1 })
      (λ xs known is.
      let few : length xs ≤ max = is.few in
      ((omega arith, is_from_to-true 1 max (length xs) is.some few), (is.distinct, is.each)))
