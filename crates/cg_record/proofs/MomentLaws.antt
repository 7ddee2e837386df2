-- The law of a moment: its decoder accepts exactly its encoding.
use Rattle.std.proofs.Common.{◌≡◌, ℕ, zero, suc, ◌≤◌, Bool, true, false, cond, List, [], ◌∷◌, ◌++◌, Option, Some, None, Ok, refl, sym, ap, subst, ◌∙◌, arith}
use Rattle.std.specs.Prelude.{IfSome}
use Rattle.std.proofs.lemmas.Bool.{leb-true}
use Rattle.cg_record.specs.declared.format.Version.{Version}
use Rattle.cg_record.specs.declared.fault.RecordFault.TheVariants.{BadLength}
use Rattle.cg_record.specs.Fields.{Read, at_most, eight_at}
use Rattle.cg_record.specs.Texts.{eight}
use Rattle.cg_record.specs.Moments.{IsMoment, stamp_text, moment_text, stamped_at, stamp_at, moment_at}
use Rattle.cg_record.specs.Saying.{CanSayMoment}
use Rattle.cg_record.specs.Versions.{has_moments}
use Rattle.cg_record.proofs.Laws.{IsBytes, bind_ok, ok_is, Takes, Takes-one, ReadsRest, Anything, Reads, reads_only, reads_then, reads_as}
use Rattle.cg_record.proofs.FieldLaws.{IsByte, reads_byte, reads_eight}

-- the byte that says whether the moment is known
abbrev known_of : Option ℕ → ℕ
known_of None = 0
known_of (Some m) = 1

-- the bytes after it
abbrev millis_of : Option ℕ → List ℕ
millis_of None = []
millis_of (Some m) = eight m

stamped_takes : (known : ℕ) → known ≤ 1 → (bytes : List ℕ) (o : Option ℕ) (rest : List ℕ) → IsBytes bytes → stamped_at known bytes ≡ Ok (o, rest) → Takes bytes (millis_of o) rest × (known_of o ≡ known) × IsMoment o
stamped_takes zero le bytes o rest fits e =
    subst (λ (y : Option ℕ × List ℕ). Takes bytes (millis_of y.0) y.1 × (known_of y.0 ≡ zero) × IsMoment y.0) (ok_is (None, bytes) (o, rest) e)
    (Takes-one bytes [] bytes fits refl, refl, tt)
stamped_takes (suc zero) le bytes o rest fits e =
    let b = bind_ok (eight_at bytes) (λ y. Ok (Some y.0, y.1)) (o, rest) e in
    let t = reads_eight.takes bytes b.0.0 b.0.1 fits b.1 in
    subst (λ (y : Option ℕ × List ℕ). Takes bytes (millis_of y.0) y.1 × (known_of y.0 ≡ suc zero) × IsMoment y.0) (ok_is (Some b.0.0, b.0.1) (o, rest) b.2)
    (t.0, refl, t.2)
stamped_takes (suc (suc k)) le bytes o rest fits e = absurd (omega arith)

stamped_again : (o : Option ℕ) (rest : List ℕ) → IsMoment o → stamped_at (known_of o) (millis_of o ++ rest) ≡ Ok (o, rest)
stamped_again None rest is = refl
stamped_again (Some m) rest is = rw (reads_eight.again m rest tt is) refl

reads_stamped : (known : ℕ) → known ≤ 1 → ReadsRest (stamped_at known) (λ o. Anything o × (known_of o ≡ known)) millis_of IsMoment
reads_stamped known le = record {
  takes = λ bytes o rest fits e. let t = stamped_takes known le bytes o rest fits e in (t.0, (tt, t.1), t.2);
  again = λ o rest known_is is. ap (λ n. stamped_at n (millis_of o ++ rest)) (sym known_is.1) ∙ stamped_again o rest is;
}

stamp_text_is : (o : Option ℕ) → (known_of o ∷ []) ++ millis_of o ≡ stamp_text o
stamp_text_is None = refl
stamp_text_is (Some m) = refl

known_small : (o : Option ℕ) → IsByte (known_of o) × (at_most 1 (known_of o) ≡ true)
known_small None = (omega arith, refl)
known_small (Some m) = (omega arith, refl)

reads_stamp : Reads stamp_at stamp_text IsMoment
unfolding stamp_at
reads_stamp =
    reads_as
    (reads_then known_of (reads_only (at_most 1) BadLength reads_byte) (λ known is_known. reads_stamped known (leb-true _ _ is_known.1)))
    stamp_text_is
    (λ o known is. is.1)
    (λ o known is. (known_small o, is))

pub true_said : (o : Option ℕ) → IfSome o (λ m. true ≡ true)
true_said None = tt
true_said (Some m) = refl

abbrev read_of : Option ℕ → List ℕ → Read (Option ℕ)
read_of o rest = Ok (o, rest)

unknown_again : (o : Option ℕ) (rest : List ℕ) → IfSome o (λ m. false ≡ true) → read_of None rest ≡ read_of o rest
unknown_again None rest is = refl
unknown_again (Some m) rest is = absurd (cc)

reads_if : (stamped : Bool) → Reads (λ bytes. cond stamped (stamp_at bytes) (Ok (None, bytes))) (λ o. cond stamped (stamp_text o) []) (λ o. IsMoment o × IfSome o (λ m. stamped ≡ true))
reads_if true = reads_as reads_stamp (λ o. refl) (λ o known is. (is, true_said o)) (λ o known is. is.0)
reads_if false = record {
  takes = λ bytes o rest fits e.
      subst (λ (y : Option ℕ × List ℕ). Takes bytes [] y.1 × Anything y.0 × (IsMoment y.0 × IfSome y.0 (λ m. false ≡ true))) (ok_is (None, bytes) (o, rest) e)
      (Takes-one bytes [] bytes fits refl, tt, (tt, tt));
  again = λ o rest known is. unknown_again o rest is.1;
}

pub reads_moment : (version : Version) → Reads (moment_at version) (moment_text version) (λ o. IsMoment o × CanSayMoment version o)
unfolding moment_at moment_text
reads_moment version = reads_if (has_moments version)
