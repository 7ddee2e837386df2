-- The law of a member: its decoder accepts exactly its encoding.
use Rattle.std.proofs.Common.{◌≡◌, ℕ, ◌<◌, ◌≤◌, true, false, cond, eqb, List, [], ◌∷◌, ◌++◌, length, Option, Some, None, Ok, refl, sym, ap, subst, ◌∙◌, append_assoc, arith}
use Rattle.std.specs.Prelude.{IfSome, IsSome, is_none, not}
use Rattle.std.specs.List.{list_any}
use Rattle.std.proofs.lemmas.Bool.{leb-true, le-leb, eqb-true, ne_eqb, not-true}
use Rattle.std.proofs.lemmas.List.{append-nil}
use Rattle.cg_names.specs.Grammar.{IsName, fault_of}
use Rattle.cg_names.proofs.Names.{length_from_name}
use Rattle.cg_names.specs.declared.name.TheConstants.{NAME_BYTES_MAX, MEMBER_ID_BYTES_MAX}
use Rattle.cg_record.specs.declared.millis.TheConstants.{SESSION_MS_MIN, SESSION_MS_MAX, REBALANCE_MS_MAX}
use Rattle.cg_record.specs.declared.opaque.TheConstants.{SUBSCRIPTION_BYTES_MAX, ASSIGNMENT_BYTES_MAX}
use Rattle.cg_record.specs.declared.fault.RecordFault.TheVariants.{BadName, BadLength, Repeated}
use Rattle.cg_record.specs.declared.member_record.MemberRecord.{MemberRecord}
use Rattle.cg_record.specs.declared.replaced.Replaced.{Replaced}
use Rattle.cg_record.specs.Rosters.{has_id, has_instance, have_one_name}
use Rattle.cg_record.specs.Texts.{four, name_text, optional_text, bytes_text}
use Rattle.cg_record.specs.Fields.{only, made, at_most, is_from_to, is_name, bytes_at, name_at, named_at, optional_name_at}
use Rattle.cg_record.specs.Members.{Profile, IsProfile, profile_of, IsMember, profile_text, member_text, profile_at, is_new_id, is_new_instance, member_of, member_at}
use Rattle.cg_record.specs.Lawful.{IsReplaced}
use Rattle.cg_record.specs.Spelling.{replaced_text}
use Rattle.cg_record.specs.Reading.{replaced_at}
use Rattle.cg_record.proofs.Keys.{neither, neither_parts}
use Rattle.cg_record.proofs.Laws.{IsBytes, bind_ok, ok_is, Takes, Takes-one, ReadsRest, Anything, Reads, reads_only, reads_then, reads_end, reads_as}
use Rattle.cg_record.proofs.FieldLaws.{reads_byte, reads_bytes, none_is, reads_four, reads_name, reads_text, from_to-true, is_from_to-true}

regrouped : (a b c d e : List ℕ) → a ++ (b ++ (c ++ (d ++ (e ++ [])))) ≡ (((a ++ b) ++ c) ++ d) ++ e
regrouped a b c d e = simp (append-nil, append_assoc)

abbrev pub profile_from : List ℕ → ℕ → ℕ → List ℕ → List ℕ → Profile
profile_from client session rebalance subscription assignment =
    record { client = client; session = session; rebalance = rebalance; subscription = subscription; assignment = assignment }

pub reads_profile : Reads profile_at profile_text IsProfile
unfolding profile_at profile_text
reads_profile =
    reads_as
    (reads_then (λ (p : Profile). p.client) (reads_name NAME_BYTES_MAX (omega arith)) (λ client is_client.
    reads_then (λ (p : Profile). p.session) (reads_only (is_from_to SESSION_MS_MIN SESSION_MS_MAX) BadLength reads_four) (λ session is_session.
    reads_then (λ (p : Profile). p.rebalance) (reads_only (at_most REBALANCE_MS_MAX) BadLength reads_four) (λ rebalance is_rebalance.
    reads_then (λ (p : Profile). p.subscription) (reads_text SUBSCRIPTION_BYTES_MAX (omega arith)) (λ subscription is_subscription.
    reads_then (λ (p : Profile). p.assignment) (reads_text ASSIGNMENT_BYTES_MAX (omega arith)) (λ assignment is_assignment.
    reads_end (profile_from client session rebalance subscription assignment) (((((tt, refl), refl), refl), refl), refl)
    (λ p known. let same : profile_from client session rebalance subscription assignment ≡ profile_from p.client p.session p.rebalance p.subscription p.assignment = cc in same)))))))
    (λ p. regrouped (name_text p.client) (four p.session) (four p.rebalance) (bytes_text p.subscription) (bytes_text p.assignment))
    (λ p known is.
    let session = from_to-true SESSION_MS_MIN SESSION_MS_MAX p.session is.1.0.1 in
    record { client = is.0; shortest = session.0; longest = session.1; rebalance = leb-true _ _ is.1.1.0.1; subscription = is.1.1.1.0; assignment = is.1.1.1.1.0 })
    (λ p known is. (
      is.client,
      (
        (omega (arith, is.longest), is_from_to-true SESSION_MS_MIN SESSION_MS_MAX p.session is.shortest is.longest),
        ((omega (arith, is.rebalance), le-leb _ _ is.rebalance), (is.subscription, (is.assignment, tt))),
      ),
    ))

-- ---- an optional name

-- the length of an optional name, or 0
abbrev size_of : Option (List ℕ) → ℕ
size_of None = 0
size_of (Some name) = length name

-- the bytes after the length
abbrev letters_of : Option (List ℕ) → List ℕ
letters_of None = []
letters_of (Some name) = name

abbrev pub IsOptional : ℕ → Option (List ℕ) → Type 0
IsOptional max o = IfSome o (IsName max)

named_takes : (max size : ℕ) (bytes : List ℕ) (o : Option (List ℕ)) (rest : List ℕ) → IsBytes bytes → named_at max size bytes ≡ Ok (o, rest) → Takes bytes (letters_of o) rest × (size_of o ≡ size) × IsOptional max o
named_takes max size bytes o rest fits e =
    elim (eqb size 0) as (λ b. eqb size 0 ≡ b → cond b (Ok (None, bytes)) (made Some (only (is_name max) BadName (bytes_at size bytes))) ≡ Ok (o, rest) → Takes bytes (letters_of o) rest × (size_of o ≡ size) × IsOptional max o) [
      | true ↦ λ is got.
          subst (λ (y : Option (List ℕ) × List ℕ). Takes bytes (letters_of y.0) y.1 × (size_of y.0 ≡ size) × IsOptional max y.0) (ok_is (None, bytes) (o, rest) got)
          (Takes-one bytes [] bytes fits refl, sym (eqb-true _ _ is), tt)
      | false ↦ λ is got.
          let b = bind_ok (only (is_name max) BadName (bytes_at size bytes)) (λ y. Ok (Some y.0, y.1)) (o, rest) got in
          let t = (reads_only (is_name max) BadName (reads_bytes size)).takes bytes b.0.0 b.0.1 fits b.1 in
          subst (λ (y : Option (List ℕ) × List ℕ). Takes bytes (letters_of y.0) y.1 × (size_of y.0 ≡ size) × IsOptional max y.0) (ok_is (Some b.0.0, b.0.1) (o, rest) b.2)
          (t.0, t.2.0, none_is (fault_of max b.0.0) t.2.1)
    ] refl e

named_again : (max : ℕ) (o : Option (List ℕ)) (rest : List ℕ) → IsOptional max o → named_at max (size_of o) (letters_of o ++ rest) ≡ Ok (o, rest)
named_again max None rest is = refl
named_again max (Some name) rest is =
    let long = length_from_name max name is in
    let other : eqb (length name) 0 ≡ false = ne_eqb (length name) 0 (λ e. absurd (omega arith)) in
    rw (other, (reads_only (is_name max) BadName (reads_bytes (length name))).again name rest tt (refl, ap is_none is)) refl

reads_named : (max size : ℕ) → ReadsRest (named_at max size) (λ o. Anything o × (size_of o ≡ size)) letters_of (IsOptional max)
reads_named max size = record {
  takes = λ bytes o rest fits e. let t = named_takes max size bytes o rest fits e in (t.0, (tt, t.1), t.2);
  again = λ o rest known is. ap (λ n. named_at max n (letters_of o ++ rest)) (sym known.1) ∙ named_again max o rest is;
}

optional_text_is : (o : Option (List ℕ)) → (size_of o ∷ []) ++ letters_of o ≡ optional_text o
optional_text_is None = refl
optional_text_is (Some name) = refl

size_fits : (max : ℕ) (o : Option (List ℕ)) → IsOptional max o → size_of o ≤ max
size_fits max None is = omega arith
size_fits max (Some name) is = (length_from_name max name is).1

pub reads_optional : (max : ℕ) → max < 256 → Reads (optional_name_at max) optional_text (IsOptional max)
unfolding optional_name_at
reads_optional max below =
    reads_as
    (reads_then size_of (reads_only (at_most max) BadName reads_byte) (λ size is_size. reads_named max size))
    optional_text_is
    (λ o known is. is.1)
    (λ o known is. let fits = size_fits max o is in ((omega arith, le-leb _ _ fits), is))

-- ---- a member

-- neither the id nor the instance is one of those before it
abbrev pub IsNext : List MemberRecord → MemberRecord → Type 0
IsNext front m = list_any (λ other. have_one_name other m) front ≡ false

pub reads_member : (front : List MemberRecord) → Reads (member_at front) member_text (λ m. IsMember m × IsNext front m)
unfolding member_at member_text
reads_member front =
    reads_as
    (reads_then (λ (m : MemberRecord). m.id) (reads_only (is_new_id front) Repeated (reads_name MEMBER_ID_BYTES_MAX (omega arith))) (λ id is_id.
    reads_then (λ (m : MemberRecord). m.instance) (reads_only (is_new_instance front) Repeated (reads_optional NAME_BYTES_MAX (omega arith))) (λ instance is_instance.
    reads_then profile_of reads_profile (λ profile is_profile.
    reads_end (member_of id instance profile) (((tt, refl), refl), refl)
    (λ m known. sym (ap (λ (i : List ℕ). member_of i m.instance (profile_of m)) known.0.0.1 ∙ ap (λ (o : Option (List ℕ)). member_of id o (profile_of m)) known.0.1 ∙ ap (member_of id instance) known.1))))))
    (λ m. ap (λ (more : List ℕ). name_text m.id ++ (optional_text m.instance ++ more)) (append-nil (profile_text (profile_of m))) ∙ sym (append_assoc (name_text m.id) (optional_text m.instance) (profile_text (profile_of m))))
    (λ m known is. (record { id = is.0.0; instance = is.1.0.0; profile = is.1.1.0 }, neither (has_id m.id) (has_instance m.instance) front (not-true _ is.0.1) (not-true _ is.1.0.1)))
    (λ m known is.
    let new = neither_parts (has_id m.id) (has_instance m.instance) front is.1 in
    ((is.0.id, ap not new.0), ((is.0.instance, ap not new.1), (is.0.profile, tt))))

-- ---- a replaced member

-- a name that is given
abbrev pub IsRequired : ℕ → Option (List ℕ) → Type 0
IsRequired max o = IsSome o × IsOptional max o

required_again : (max : ℕ) → max < 256 → (o : Option (List ℕ)) (rest : List ℕ) → IsRequired max o → made Some (name_at max (optional_text o ++ rest)) ≡ Ok (o, rest)
required_again max below None rest is = absurd (cc is.0)
required_again max below (Some name) rest is = rw ((reads_name max below).again name rest tt is.1) refl

required_takes : (max : ℕ) → max < 256 → (bytes : List ℕ) (o : Option (List ℕ)) (rest : List ℕ) → IsBytes bytes → made Some (name_at max bytes) ≡ Ok (o, rest) → Takes bytes (optional_text o) rest × Anything o × IsRequired max o
required_takes max below bytes o rest fits e =
    let b = bind_ok (name_at max bytes) (λ y. Ok (Some y.0, y.1)) (o, rest) e in
    let t = (reads_name max below).takes bytes b.0.0 b.0.1 fits b.1 in
    subst (λ (y : Option (List ℕ) × List ℕ). Takes bytes (optional_text y.0) y.1 × Anything y.0 × IsRequired max y.0) (ok_is (Some b.0.0, b.0.1) (o, rest) b.2) (t.0, tt, (refl, t.2))

reads_required : (max : ℕ) → max < 256 → Reads (λ bytes. made Some (name_at max bytes)) optional_text (IsRequired max)
reads_required max below = record { takes = required_takes max below; again = λ o rest known is. required_again max below o rest is }

grouped : (a b c d : List ℕ) → a ++ (b ++ (c ++ (d ++ []))) ≡ a ++ ((b ++ c) ++ d)
grouped a b c d = simp (append-nil, append_assoc)

abbrev pub replaced_of : List ℕ → MemberRecord → Replaced
replaced_of group member = record { group = group; member = member }

pub reads_replaced : Reads replaced_at replaced_text IsReplaced
unfolding replaced_at replaced_text member_text
reads_replaced =
    reads_as
    (reads_then (λ (r : Replaced). r.group) (reads_name NAME_BYTES_MAX (omega arith)) (λ group is_group.
    reads_then (λ (r : Replaced). r.member.id) (reads_name MEMBER_ID_BYTES_MAX (omega arith)) (λ id is_id.
    reads_then (λ (r : Replaced). r.member.instance) (reads_required NAME_BYTES_MAX (omega arith)) (λ instance is_instance.
    reads_then (λ (r : Replaced). profile_of r.member) reads_profile (λ profile is_profile.
    reads_end (replaced_of group (member_of id instance profile)) ((((tt, refl), refl), refl), refl)
    (λ r known. sym (ap (λ (g : List ℕ). replaced_of g (member_of r.member.id r.member.instance (profile_of r.member))) known.0.0.0.1
    ∙ ap (λ (i : List ℕ). replaced_of group (member_of i r.member.instance (profile_of r.member))) known.0.0.1
    ∙ ap (λ (o : Option (List ℕ)). replaced_of group (member_of id o (profile_of r.member))) known.0.1
    ∙ ap (λ (p : Profile). replaced_of group (member_of id instance p)) known.1)))))))
    (λ r. grouped (name_text r.group) (name_text r.member.id) (optional_text r.member.instance) (profile_text (profile_of r.member)))
    (λ r known is. record { group = is.0; member = record { id = is.1.0; instance = is.1.1.0.1; profile = is.1.1.1.0 }; instance = is.1.1.0.0 })
    (λ r known is. (is.group, (is.member.id, ((is.instance, is.member.instance), (is.member.profile, tt)))))
