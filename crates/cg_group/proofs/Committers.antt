-- A COMMIT in a loaded group: the member that is heard, the commit that is stored, and a commit that is not.
use Rattle.std.proofs.Common.{◌≡◌, ℕ, true, List, map, inl, inr, Option, Some, None, Result, Ok, Err, MatchOption, MatchResult, refl, sym, ap, ◌∙◌, subst}
use Rattle.std.specs.Prelude.{◌⊎◌, is_ok}
use Rattle.cg_names.specs.declared.code.Code.{Code}
use Rattle.cg_group_state.specs.declared.effects.Effects.{Effects}
use Rattle.cg_group_state.specs.declared.group.Group.{Group}
use Rattle.cg_group_state.specs.Membership.{hearing}
use Rattle.cg_request.specs.Commits.{kept_entry}
use Rattle.cg_request.specs.declared.request_fields.CommitRequest.{CommitRequest}
use Rattle.cg_request.specs.declared.ticket.Ticket.{Ticket}
use Rattle.cg_group_rules.specs.OffsetCommit.{IsCommit, IsCommitRefused, commit_at, commit_effects, heard_at, hearing_committer, keeping_entries}
use Rattle.cg_group.specs.InPlace.{IsCommitIn}
use Rattle.cg_group.specs.Machine.{commit, concluded}
use Rattle.cg_group_table.specs.GroupChanges.{IsChanged, OnlyHears}
use Rattle.cg_group_table.specs.GroupTable.{InOrder, at_moment, find_group, outcome, with_group}
use Rattle.cg_group_table.specs.SessionIndex.{StayParked}
use Rattle.cg_group_table.proofs.Finding.{find-own}
use Rattle.cg_group_table.proofs.InOrder.{found_named, with_group-again, with_group-found}
use Rattle.cg_group_table.proofs.KeptLists.{ascending-with_group}
use Rattle.cg_group_table.proofs.Mapped.{id-hearing}
use Rattle.cg_group_table.proofs.Tight.{stay_heard, stay_same}
use Rattle.cg_group.proofs.InPlace.{commit_here}

-- what the checks of a COMMIT make of its group
abbrev pub Checked : ℕ → CommitRequest → Group → Group → Result (Option ℕ) Code → Type 0
Checked now r g after x = MatchResult x (IsCommit now r g after) (λ code. IsCommitRefused r g code × (after ≡ g))

pub checks_hear : (now : ℕ) (r : CommitRequest) → OnlyHears now (Checked now r)
checks_hear now r g after (Ok before) h = by_who h.who h.heard
  where
    by_who : (who : Option (List ℕ)) → after ≡ hearing_committer now who g → (after ≡ g) ⊎ ((id : List ℕ) × (after ≡ hearing now id g))
    by_who None same = inl same
    by_who (Some id) heard = inr (id, heard)
checks_hear now r g after (Err code) h = inl h.1

-- the outcome of the checks among all groups
pub checked_in : (now : ℕ) (r : CommitRequest) (groups later : List Group) (own : List ℕ) → r.group ≡ Some own → InOrder groups → (g : Group) → find_group own groups ≡ Some g → (x : Result (Option ℕ) Code) → IsChanged (Checked now r) groups later g x
    → MatchResult x (IsCommitIn now r groups later own) (λ code. ((now : ℕ) (ticket : Ticket) → commit now r ticket groups ≡ Err code) × (later ≡ groups))
checked_in now r groups later own named o g found (Ok before) c = record {
  group = g;
  after = c.after;
  named = record { named = named; found = found };
  in_order = o;
  commit = c.became;
  put = c.put;
}
checked_in now r groups later own named o g found (Err code) c = (
  λ now ticket. commit_here now r ticket groups own g (record { named = named; found = found }) ∙ c.became.0 now ticket,
  c.put ∙ ap (λ k. with_group k groups) c.became.1 ∙ with_group-found own groups g o found,
)

-- the same, by what the look-up of the group comes to
abbrev pub Outcome : ℕ → CommitRequest → List Group → List Group → List ℕ → Option (Result (Option ℕ) Code) → Type 0
Outcome now r groups later own o =
    MatchOption o ((find_group own groups ≡ None) × (later ≡ groups))
    (λ x. MatchResult x (IsCommitIn now r groups later own) (λ code. ((now : ℕ) (ticket : Ticket) → commit now r ticket groups ≡ Err code) × (later ≡ groups)))

pub checked_found : (now : ℕ) (r : CommitRequest) (groups later : List Group) (own : List ℕ) → r.group ≡ Some own → InOrder groups → (g : Group) → find_group own groups ≡ Some g → (o : Option (Result (Option ℕ) Code)) → MatchOption o ⊥ (IsChanged (Checked now r) groups later g)
    → Outcome now r groups later own o
checked_found now r groups later own named o g found None h = absurd h
checked_found now r groups later own named o g found (Some x) h = checked_in now r groups later own named o g found x h

id-committer : (now : ℕ) (who : Option (List ℕ)) (g : Group) → (hearing_committer now who g).id ≡ g.id
id-committer now None g = refl
id-committer now (Some id) g = id-hearing now id g

stay_committer : (now : ℕ) (who : Option (List ℕ)) (own : List ℕ) (groups after : List Group) (g : Group) → find_group own groups ≡ Some g → after ≡ with_group (hearing_committer now who g) groups → StayParked groups after
stay_committer now None own groups after g found put = stay_same own groups after g g found refl (λ q h. h) put
stay_committer now (Some id) own groups after g found put = stay_heard now id own groups after g found put

module _ (now : ℕ) (r : CommitRequest) (groups later : List Group) (own : List ℕ) (before : Option ℕ) (at : IsCommitIn now r groups later own before) where
  own_id : at.after.id ≡ own
  own_id = ap (λ (k : Group). k.id) at.commit.heard ∙ id-committer now at.commit.who at.group ∙ found_named own groups at.group at.named.found

  pub commit_is_taken : (ticket : Ticket) → is_ok (commit now r ticket groups) ≡ true
  commit_is_taken ticket = ap is_ok (commit_here now r ticket groups own at.group at.named ∙ at.commit.taken ticket)

  -- the outcome of a COMMIT that is stored
  pub commit_stored : (ticket : Ticket) (e : Effects) → e ≡ commit_effects (commit_at now (map kept_entry r.entries) own) ticket → concluded (at_moment now groups) ticket (commit now r ticket groups) ≡ outcome (at_moment now later) e
  unfolding concluded keeping_entries
  commit_stored ticket e made =
      ap (concluded (at_moment now groups) ticket) (commit_here now r ticket groups own at.group at.named ∙ at.commit.taken ticket)
      ∙ ap (λ gs. outcome (at_moment now gs) (commit_effects (commit_at now (map kept_entry r.entries) at.after.id) ticket)) (sym at.put)
      ∙ ap (λ i. outcome (at_moment now later) (commit_effects (commit_at now (map kept_entry r.entries) i) ticket)) own_id
      ∙ ap (outcome (at_moment now later)) (sym made)

  pub stay_committed : StayParked groups later
  stay_committed = stay_committer now at.commit.who own groups later at.group at.named.found (at.put ∙ ap (λ k. with_group k groups) at.commit.heard)

  pub heard_in_order : InOrder later
  heard_in_order = let P : List Group → Type 0 = λ gs. InOrder gs in subst P (sym at.put) (ascending-with_group at.after groups at.in_order)

  -- a COMMIT that is not stored changes nothing
  pub unheard_again : (last : List Group) → ((k : Group) → find_group own later ≡ Some k → last ≡ with_group (heard_at r.member before k) later) → last ≡ groups
  unheard_again last put =
      let there : find_group own later ≡ Some at.after = ap (find_group own) at.put ∙ ap (λ i. find_group i (with_group at.after groups)) (sym own_id) ∙ find-own at.after groups in
      let level : at.after.id ≡ at.group.id = own_id ∙ sym (found_named own groups at.group at.named.found) in
      put at.after there
      ∙ ap (λ k. with_group k later) at.commit.back
      ∙ ap (with_group at.group) at.put
      ∙ with_group-again at.group at.after groups level
      ∙ with_group-found own groups at.group at.in_order at.named.found
