-- A COMMIT to a group with members: its checks, and the member that is heard.
use Rattle.std.proofs.Common.{◌≡◌, ℕ, Bool, true, false, not, List, is_some, option_map, Option, Some, None, Result, Ok, Err, ok_or, refl, ap, ◌∙◌}
use Rattle.std.proofs.lemmas.Bool.{false≢true}
use Rattle.std.specs.Ordering.{int_eq}
use Rattle.std.specs.Prelude.{pos, if◌then◌else◌}
use Rattle.cg_names.specs.declared.code.Code.{Code}
use Rattle.cg_names.specs.declared.code.Code.TheVariants.{IllegalGeneration, OffsetMetadataTooLarge, RebalanceInProgress, UnknownMemberId}
use Rattle.cg_group_state.specs.declared.group.Group.{Group}
use Rattle.cg_group_state.specs.declared.member.Member.{Member}
use Rattle.cg_group_state.specs.declared.turn.Turn.{Turn}
use Rattle.cg_group_state.specs.MemberCheck.{validate_current_member}
use Rattle.cg_group_state.specs.Membership.{find_member, heard, hearing, is_empty}
use Rattle.cg_group_state.specs.Checks.{◌>>=◌, refused_if}
use Rattle.cg_group_state.proofs.MemberChecks.{check_parts}
use Rattle.cg_group_state.proofs.Recalling.{taken_back}
use Rattle.cg_request.specs.Commits.{is_too_large}
use Rattle.cg_request.specs.declared.request_fields.CommitRequest.{CommitRequest}
use Rattle.cg_request.specs.declared.ticket.Ticket.{Ticket}
use Rattle.cg_group_rules.specs.OffsetCommit.{IsCommit, IsCommitRefused, commit_by, commit_held, commit_of_member, commit_of_none, committed, committer, heard_at, hearing_committer, is_completing, is_negative, late_refusal, simple_refusal}

-- the checks after the member check, each by the outcome of its test
checked : Bool → Bool → Bool → Option (List ℕ) → (Option (List ℕ) → Turn) → Result Turn Code
checked a b c who step = (refused_if a IllegalGeneration >>= λ _. refused_if b RebalanceInProgress >>= λ _. Ok who) >>= λ w. refused_if c OffsetMetadataTooLarge >>= λ _. Ok (step w)

or_code : Option Code → Turn → Result Turn Code
or_code None t = Ok t
or_code (Some code) t = Err code

checked_is : (a b c : Bool) (who : Option (List ℕ)) (step : Option (List ℕ) → Turn)
    → checked a b c who step ≡ or_code (if a then Some IllegalGeneration else (if b then Some RebalanceInProgress else (if c then Some OffsetMetadataTooLarge else None))) (step who)
unfolding checked or_code
checked_is true b c who step = refl
checked_is false true c who step = refl
checked_is false false true who step = refl
checked_is false false false who step = refl

too_large_by : (a b c : Bool) → (if a then Some IllegalGeneration else (if b then Some RebalanceInProgress else (if c then Some OffsetMetadataTooLarge else None))) ≡ None → c ≡ false
too_large_by true b c e = cc
too_large_by false true c e = cc
too_large_by false false true e = cc
too_large_by false false false e = refl

module _ (r : CommitRequest) (g : Group) (some : is_empty g.members ≡ false) where
  by_check : (now : ℕ) (ticket : Ticket) (o : Result (List ℕ × Member) Code) → validate_current_member r.instance r.member g.members ≡ o
      → commit_held now r.generation r.instance r.member r.entries ticket g ≡ ((o >>= λ who. refused_if (not (int_eq r.generation (pos g.generation))) IllegalGeneration >>= λ _. refused_if (is_completing g.phase) RebalanceInProgress >>= λ _. Ok (Some who.0)) >>= λ who. commit_by now who r.entries ticket g)
  unfolding commit_held committer commit_of_member
  by_check now ticket o e =
      ap (λ b. (if b then commit_of_none r.generation else commit_of_member r.generation r.instance r.member g) >>= λ who. commit_by now who r.entries ticket g) some
      ∙ ap (λ k. (k >>= λ who. refused_if (not (int_eq r.generation (pos g.generation))) IllegalGeneration >>= λ _. refused_if (is_completing g.phase) RebalanceInProgress >>= λ _. Ok (Some who.0)) >>= λ who. commit_by now who r.entries ticket g) e

  -- the member check refuses the COMMIT
  pub commit_unchecked : (code : Code) → validate_current_member r.instance r.member g.members ≡ Err code → IsCommitRefused r g code
  commit_unchecked code e now ticket = by_check now ticket (Err code) e

  module _ (id : List ℕ) (check : validate_current_member r.instance r.member g.members ≡ ok_or (option_map (λ m. (id, m)) (find_member id g.members)) UnknownMemberId) where
    -- no member has the id
    pub commit_stranger : find_member id g.members ≡ None → IsCommitRefused r g UnknownMemberId
    commit_stranger none = commit_unchecked UnknownMemberId (check ∙ ap (λ o. ok_or (option_map (λ m. (id, m)) o) UnknownMemberId) none)

    module _ (m : Member) (found : find_member id g.members ≡ Some m) where
      passed : validate_current_member r.instance r.member g.members ≡ Ok (id, m)
      passed = check ∙ ap (λ o. ok_or (option_map (λ m. (id, m)) o) UnknownMemberId) found

      comes_to : (now : ℕ) (ticket : Ticket) → commit_held now r.generation r.instance r.member r.entries ticket g ≡ or_code (late_refusal r g) (committed now r.entries ticket (hearing now id g))
      unfolding checked
      comes_to now ticket =
          by_check now ticket (Ok (id, m)) passed
          ∙ checked_is (not (int_eq r.generation (pos g.generation))) (is_completing g.phase) (is_too_large r.entries) (Some id) (λ who. committed now r.entries ticket (hearing_committer now who g))

      pub commit_late : (code : Code) → late_refusal r g ≡ Some code → IsCommitRefused r g code
      unfolding or_code
      commit_late code e now ticket = comes_to now ticket ∙ ap (λ o. or_code o (committed now r.entries ticket (hearing now id g))) e

      pub commit_heard : (now : ℕ) → late_refusal r g ≡ None → IsCommit now r g (hearing now id g) (Some m.heard)
      unfolding or_code hearing
      commit_heard now e = record {
        who = Some id;
        heard = refl;
        taken = λ ticket. comes_to now ticket ∙ ap (λ o. or_code o (committed now r.entries ticket (hearing now id g))) e;
        small = too_large_by (not (int_eq r.generation (pos g.generation))) (is_completing g.phase) (is_too_large r.entries) e;
        back =
            ap (λ o. heard_at o (Some m.heard) (hearing now id g)) (check_parts r.instance r.member g.members (id, m) passed).0
            ∙ ap (λ (ms : List Member). record g { members = ms }) (taken_back id (heard now) (heard m.heard) (λ _. refl) g.members m found refl);
      }

-- a COMMIT to a group without members

simply_checked : (a c : Bool) (step : Option (List ℕ) → Turn)
    → ((refused_if a UnknownMemberId >>= λ _. Ok None) >>= λ w. refused_if c OffsetMetadataTooLarge >>= λ _. Ok (step w)) ≡ or_code (if a then Some UnknownMemberId else (if c then Some OffsetMetadataTooLarge else None)) (step None)
unfolding or_code
simply_checked true c step = refl
simply_checked false true step = refl
simply_checked false false step = refl

simply_small : (a c : Bool) → (if a then Some UnknownMemberId else (if c then Some OffsetMetadataTooLarge else None)) ≡ None → c ≡ false
simply_small true c e = cc
simply_small false true e = cc
simply_small false false e = refl

not_heard : (member : Option (List ℕ)) (g : Group) → heard_at member None g ≡ g
not_heard None g = refl
not_heard (Some id) g = refl

module _ (r : CommitRequest) (g : Group) (none : is_empty g.members ≡ true) where
  simply_comes_to : (now : ℕ) (ticket : Ticket) → commit_held now r.generation r.instance r.member r.entries ticket g ≡ or_code (simple_refusal r) (committed now r.entries ticket g)
  unfolding commit_held committer
  simply_comes_to now ticket =
      ap (λ b. (if b then commit_of_none r.generation else commit_of_member r.generation r.instance r.member g) >>= λ who. commit_by now who r.entries ticket g) none
      ∙ simply_checked (not (is_negative r.generation)) (is_too_large r.entries) (λ who. committed now r.entries ticket (hearing_committer now who g))

  pub simply_refused : (code : Code) → simple_refusal r ≡ Some code → IsCommitRefused r g code
  unfolding or_code
  simply_refused code e now ticket = simply_comes_to now ticket ∙ ap (λ o. or_code o (committed now r.entries ticket g)) e

  pub simply_taken : (now : ℕ) → simple_refusal r ≡ None → IsCommit now r g g None
  unfolding or_code
  simply_taken now e = record {
    who = None;
    heard = refl;
    taken = λ ticket. simply_comes_to now ticket ∙ ap (λ o. or_code o (committed now r.entries ticket g)) e;
    small = simply_small (not (is_negative r.generation)) (is_too_large r.entries) e;
    back = not_heard r.member g;
  }

-- the member that a search found, and what was read of it
pub found_some : {X : Type 0} (o : Option X) → is_some o ≡ true → (x : X) × (o ≡ Some x)
found_some None e = absurd (false≢true e)
found_some (Some x) e = (x, refl)

pub read_of : {X Y : Type 0} (f : X → Y) (o : Option X) (y : Y) → Some y ≡ option_map f o → (x : X) × (o ≡ Some x) × (f x ≡ y)
read_of f None y e = cc
read_of f (Some x) y e = (x, refl, cc)
