-- The law of a decoder: it accepts exactly the encoding. The law of a value is built from those of its fields.
use Rattle.std.proofs.Common.{◌≡◌, ℕ, ◌+◌, ◌<◌, Bool, true, false, cond, List, [], ◌++◌, length, get_or, drop, Result, Ok, Err, refl, sym, ap, subst, ◌∙◌, append_assoc}
use Rattle.std.proofs.lemmas.List.{get_or-drop, drop_at}
use Rattle.cg_record.specs.declared.fault.RecordFault.{RecordFault}
use Rattle.cg_record.specs.Fields.{Read, ◌>>=◌, only}

-- each element is a byte
abbrev pub IsBytes : List ℕ → Type 0
IsBytes bytes = (i : ℕ) → get_or bytes i 0 < 256

IsBytes-drop : (n : ℕ) (bytes : List ℕ) → IsBytes bytes → IsBytes (drop n bytes)
IsBytes-drop n bytes h i = rw get_or-drop (h (n + i))

IsBytes-behind : (front rest : List ℕ) → IsBytes (front ++ rest) → IsBytes rest
IsBytes-behind front rest h = subst IsBytes (drop_at front rest (length front) refl) (IsBytes-drop (length front) (front ++ rest) h)

-- the value of a step that did not fail
pub bind_ok : {A B : Type 0} (r : Result A RecordFault) (f : A → Result B RecordFault) (y : B) → (r >>= f) ≡ Ok y → (x : A) × (r ≡ Ok x) × (f x ≡ Ok y)
bind_ok (Ok x) f y e = (x, refl, e)
bind_ok (Err d) f y e = absurd cc

-- a check that passed
pub test_ok : {A : Type 0} (b : Bool) (fault : RecordFault) (x y : A) → cond b (Ok x) (Err fault) ≡ Ok y → (b ≡ true) × (x ≡ y)
test_ok true fault x y e = (refl, cc)
test_ok false fault x y e = absurd cc

abbrev done : {A : Type 0} → A → Result A RecordFault
done x = Ok x

pub ok_is : {A : Type 0} (x y : A) → done x ≡ done y → x ≡ y
ok_is x y e = cc

-- the prefix that a decoder accepted
pub record Takes (bytes text rest : List ℕ) : Type 0 where
  pub parts : bytes ≡ text ++ rest
  pub rest_fits : IsBytes rest

pub Takes-one : (bytes text rest : List ℕ) → IsBytes bytes → bytes ≡ text ++ rest → Takes bytes text rest
Takes-one bytes text rest fits e = record { parts = e; rest_fits = IsBytes-behind text rest (subst IsBytes e fits) }

pub Takes-then : (a x b y c : List ℕ) → Takes a x b → Takes b y c → Takes a (x ++ y) c
Takes-then a x b y c p q = record { parts = p.parts ∙ ap (λ (t : List ℕ). x ++ t) q.parts ∙ sym (append_assoc x y c); rest_fits = q.rest_fits }

-- The decoder of the remaining fields of a value: it accepts exactly their encoding.
pub record ReadsRest {X : Type 0} (at : List ℕ → Read X) (Known : X → Type 0) (text : X → List ℕ) (Is : X → Type 0) : Type 0 where
  pub takes : (bytes : List ℕ) (x : X) (rest : List ℕ) → IsBytes bytes → at bytes ≡ Ok (x, rest) → Takes bytes (text x) rest × Known x × Is x
  pub again : (x : X) (rest : List ℕ) → Known x → Is x → at (text x ++ rest) ≡ Ok (x, rest)

abbrev pub Anything : {X : Type 0} → X → Type 0
Anything x = Unit {0}

-- The decoder of a value: it accepts exactly the encoding.
abbrev pub Reads : {X : Type 0} → (List ℕ → Read X) → (X → List ℕ) → (X → Type 0) → Type 0
Reads at text Is = ReadsRest at Anything text Is

-- a test of the decoded value
pub reads_only : {X : Type 0} {at : List ℕ → Read X} {text : X → List ℕ} {Is : X → Type 0} → (passes : X → Bool) (fault : RecordFault) → Reads at text Is
    → Reads (λ bytes. only passes fault (at bytes)) text (λ x. Is x × (passes x ≡ true))
reads_only {X} {at} {text} {Is} passes fault reader = record {
  takes = λ bytes x rest fits e.
      let b = bind_ok (at bytes) (λ y. cond (passes y.0) (Ok y) (Err fault)) (x, rest) e in
      let g = test_ok (passes b.0.0) fault b.0 (x, rest) b.2 in
      let t = reader.takes bytes b.0.0 b.0.1 fits b.1 in
      subst (λ (y : X × List ℕ). Takes bytes (text y.0) y.1 × Anything y.0 × (Is y.0 × (passes y.0 ≡ true))) g.1 (t.0, tt, (t.2, g.0));
  again = λ x rest known is. rw (reader.again x rest tt is.0, is.1) refl;
}

-- a field, and then the remaining fields
pub reads_then : {A X : Type 0} {at : List ℕ → Read A} {text : A → List ℕ} {Is : A → Type 0} {next : A → List ℕ → Read X} (field : X → A) {Known : X → Type 0} {more : X → List ℕ} {More : X → Type 0}
    → Reads at text Is → ((a : A) → Is a → ReadsRest (next a) (λ x. Known x × (field x ≡ a)) more More)
    → ReadsRest (λ bytes. at bytes >>= λ a. next a.0 a.1) Known (λ x. text (field x) ++ more x) (λ x. Is (field x) × More x)
reads_then {A} {X} {at} {text} {Is} {next} field {Known} {more} {More} first others = record {
  takes = λ bytes x rest fits e.
      let b = bind_ok (at bytes) (λ a. next a.0 a.1) (x, rest) e in
      let t = first.takes bytes b.0.0 b.0.1 fits b.1 in
      let u = (others b.0.0 t.2).takes b.0.1 x rest t.0.rest_fits b.2 in
      let same : b.0.0 ≡ field x = sym u.1.1 in
      let front : Takes bytes (text (field x)) b.0.1 = subst (λ (a : A). Takes bytes (text a) b.0.1) same t.0 in
      let is : Is (field x) = subst Is same t.2 in
      (Takes-then bytes (text (field x)) b.0.1 (more x) rest front u.0, u.1.0, (is, u.2));
  again = λ x rest known is.
      let regrouped : (text (field x) ++ more x) ++ rest ≡ text (field x) ++ (more x ++ rest) = append_assoc (text (field x)) (more x) rest in
      let one : (at (text (field x) ++ (more x ++ rest)) >>= λ a. next a.0 a.1) ≡ Ok (x, rest) = rw (first.again (field x) (more x ++ rest) tt is.0) ((others (field x) is.0).again x rest (known, refl) is.1) in
      ap (λ (b : List ℕ). at b >>= λ a. next a.0 a.1) regrouped ∙ one;
}

-- the end of a value, all of whose fields are known
pub reads_end : {X : Type 0} (y : X) {Known : X → Type 0} → Known y → ((x : X) → Known x → y ≡ x) → ReadsRest (λ bytes. Ok (y, bytes)) Known (λ x. []) Anything
reads_end {X} y {Known} known only_one = record {
  takes = λ bytes x rest fits e.
      let same : (y, bytes) ≡ (x, rest) = ok_is (y, bytes) (x, rest) e in
      subst (λ (z : X × List ℕ). Takes bytes [] z.1 × Known z.0 × Anything z.0) same (Takes-one bytes [] bytes fits refl, known, tt);
  again = λ x rest is_known is. ap (λ (z : X). Ok (z, rest)) (only_one x is_known);
}

-- the same decoder under an equal encoding and an equal law
pub reads_as : {X : Type 0} {at : List ℕ → Read X} {Known : X → Type 0} {text other : X → List ℕ} {Is Other : X → Type 0} → ReadsRest at Known text Is → ((x : X) → text x ≡ other x) → ((x : X) → Known x → Is x → Other x) → ((x : X) → Known x → Other x → Is x) → ReadsRest at Known other Other
reads_as {X} {at} {Known} {text} {other} {Is} {Other} reader same there back = record {
  takes = λ bytes x rest fits e.
      let t = reader.takes bytes x rest fits e in
      (subst (λ (l : List ℕ). Takes bytes l rest) (same x) t.0, t.1, there x t.1 t.2);
  again = λ x rest known is. ap (λ (l : List ℕ). at (l ++ rest)) (sym (same x)) ∙ reader.again x rest known (back x known is);
}

-- the same decoder where a part of the law is known
pub reads_known : {X : Type 0} {at : List ℕ → Read X} {text : X → List ℕ} {Is Known Other : X → Type 0} → Reads at text Is → ((x : X) → Is x → Known x × Other x) → ((x : X) → Known x → Other x → Is x) → ReadsRest at Known text Other
reads_known {X} {at} {text} {Is} {Known} {Other} reader split join = record {
  takes = λ bytes x rest fits e.
      let t = reader.takes bytes x rest fits e in
      let s = split x t.2 in
      (t.0, s.0, s.1);
  again = λ x rest known is. reader.again x rest tt (join x known is);
}
