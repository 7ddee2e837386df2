-- What the checks of a request establish, where they pass.
use Rattle.std.proofs.Common.{◌≡◌, ℕ, Bool, true, false, List, refl, subst, Option, Some, None, Result, Ok, Err, ok_or}
use Rattle.cg_names.specs.declared.code.Code.{Code}
use Rattle.cg_names.specs.declared.code.Code.TheVariants.{UnknownMemberId}
use Rattle.cg_group_state.specs.declared.member.Member.{Member}
use Rattle.cg_group_state.specs.Checks.{◌>>=◌, refused_if}
use Rattle.cg_group_state.specs.MemberCheck.{fencing, validate_current_member}
use Rattle.cg_group_state.specs.Membership.{find_member}

-- the condition of a check that passed, and what is left of the checks
pub tested : {A : Type 0} (b : Bool) (code : Code) (rest : Unit {0} → Result A Code) (x : A) → (refused_if b code >>= rest) ≡ Ok x → (b ≡ false) × (rest tt ≡ Ok x)
tested true code rest x e = cc
tested false code rest x e = (refl, e)

pub given_by : {A B : Type 0} (o : Option B) (code : Code) (rest : B → Result A Code) (x : A) → (ok_or o code >>= rest) ≡ Ok x → (y : B) × (o ≡ Some y) × (rest y ≡ Ok x)
given_by None code rest x e = cc
given_by (Some y) code rest x e = (y, refl, e)

pub passed_by : {A B : Type 0} (o : Result B Code) (rest : B → Result A Code) (x : A) → (o >>= rest) ≡ Ok x → (y : B) × (o ≡ Ok y) × (rest y ≡ Ok x)
passed_by (Ok y) rest x e = (y, refl, e)
passed_by (Err code) rest x e = cc

-- a caller that passes the member check is the member with the given id
pub check_parts : (instance member : Option (List ℕ)) (ms : List Member) (who : List ℕ × Member) → validate_current_member instance member ms ≡ Ok who → (member ≡ Some who.0) × (find_member who.0 ms ≡ Some who.1)
unfolding validate_current_member
check_parts instance member ms who e =
    let from = passed_by (fencing instance member ms) (λ _. ok_or member UnknownMemberId >>= λ id. ok_or (find_member id ms) UnknownMemberId >>= λ m. Ok (id, m)) who e in
    let named = given_by member UnknownMemberId (λ id. ok_or (find_member id ms) UnknownMemberId >>= λ m. Ok (id, m)) who from.2 in
    let found = given_by (find_member named.0 ms) UnknownMemberId (λ m. Ok (named.0, m)) who named.2 in
    let same : (named.0, found.0) ≡ who = cc in
    let Q : List ℕ × Member → Type 0 = λ w. (member ≡ Some w.0) × (find_member w.0 ms ≡ Some w.1) in
    subst Q same (named.1, found.1)

-- no other member has the given instance
pub unfenced_by : (instance member : Option (List ℕ)) (ms : List Member) (who : List ℕ × Member) → validate_current_member instance member ms ≡ Ok who → fencing instance member ms ≡ Ok tt
unfolding validate_current_member
unfenced_by instance member ms who e =
    (passed_by (fencing instance member ms) (λ _. ok_or member UnknownMemberId >>= λ id. ok_or (find_member id ms) UnknownMemberId >>= λ m. Ok (id, m)) who e).1
