-- A group keeps its offsets until it is deleted, and a commit gives its group an offset.
use Rattle.std.proofs.Common.{◌≡◌, ℕ, Bool, true, false, not, List, [], ◌∷◌, map, cond, is_some, refl, sym, ap, ◌∙◌, Option, Some, None, Result, Ok, Err}
use Rattle.std.specs.List.{fold, list_any}
use Rattle.std.specs.Cmp.{eq_by_cmp_equiv}
use Rattle.std.specs.Ordering.{eq_by_cmp}
use Rattle.std.specs.FinMap as finmap
use Rattle.std.specs.FinMap.{get-insert, get-retain_keys}
use Rattle.std.proofs.lemmas.Bool.{false≢true}
use Rattle.std.proofs.lemmas.Cmp.{nat_list_eq_equiv}
use Rattle.cg_names.specs.declared.code.Code.{Code}
use Rattle.cg_record.specs.declared.command.Command.TheVariants as command
use Rattle.cg_record.specs.declared.entry.Entry.{Entry}
use Rattle.cg_fold.specs.declared.stored_offset.StoredOffset.{StoredOffset}
use Rattle.cg_fold.specs.Durable.{effect, is_of_other, with_entry}
use Rattle.cg_fold.specs.Key.{key_cmp, kept_of}
use Rattle.cg_fold.proofs.KeyOrder.{key_same, key_total}
use Rattle.cg_request.specs.Commits.{kept_entry}
use Rattle.cg_request.specs.declared.commit_entry.CommitEntry.{CommitEntry}
use Rattle.cg_request.specs.declared.request_fields.CommitRequest.{CommitRequest}
use Rattle.cg_request.specs.declared.ticket.Ticket.{Ticket}
use Rattle.cg_group_state.specs.declared.group.Group.{Group}
use Rattle.cg_group_state.specs.declared.turn.Turn.{Turn}
use Rattle.cg_group_state.specs.Membership.{is_same}
use Rattle.cg_group_state.specs.Offsets.{OffsetMap, offsets_after}
use Rattle.cg_group_rules.specs.OffsetCommit.{keeping_entries}
use Rattle.cg_group_table.specs.GroupTable.{Machine}
use Rattle.cg_group_table.specs.Kept.{HasOffset}
use Rattle.cg_group.specs.Machine.{commit, concluded}
use Rattle.cg_group.proofs.Requests.{Fine, fine-commit}

more_is_some : (b : Bool) (new : StoredOffset) (o : Option StoredOffset) → is_some o ≡ true → is_some (cond b (Some new) o) ≡ true
more_is_some true new o e = refl
more_is_some false new o e = e

has-entries : (group : List ℕ) (moment : Option ℕ) (entries : List Entry) (offsets : OffsetMap) (id : List ℕ) → HasOffset offsets id → HasOffset (fold (with_entry group moment) offsets entries) id
has-entries group moment [] offsets id h = h
has-entries group moment (x ∷ xs) offsets id h =
    let new = kept_of group moment x in
    has-entries group moment xs (with_entry group moment offsets x) id (record {
      key = h.key;
      own = h.own;
      stored = ap is_some (get-insert key_total offsets new.0 new.1 h.key) ∙ more_is_some (eq_by_cmp key_cmp h.key new.0) new.1 (finmap.get offsets h.key) h.stored;
    })

has-own_entries : (group : List ℕ) (moment : Option ℕ) (entries : List Entry) (offsets : OffsetMap) → list_any (λ e. true) entries ≡ true → HasOffset (fold (with_entry group moment) offsets entries) group
has-own_entries group moment [] offsets e = absurd (false≢true e)
has-own_entries group moment (x ∷ xs) offsets e =
    let new = kept_of group moment x in
    has-entries group moment xs (with_entry group moment offsets x) group (record {
      key = new.0;
      own = refl;
      stored = ap is_some (get-insert key_total offsets new.0 new.1 new.0) ∙ ap (λ b. is_some (cond b (Some new.1) (finmap.get offsets new.0))) ((eq_by_cmp_equiv key_total).refl new.0);
    })

some_kept : (es : List CommitEntry) → list_any (λ e. true) es ≡ true → list_any (λ e. true) (map kept_entry es) ≡ true
some_kept [] e = e
some_kept (x ∷ xs) e = refl

-- the step of a commit leaves the offsets of all groups, and its own group has one
pub record Stores (offsets : OffsetMap) (t : Turn) : Type 0 where
  pub others : (id : List ℕ) → HasOffset offsets id → HasOffset (offsets_after offsets t.commands) id
  pub own : HasOffset (offsets_after offsets t.commands) t.group.id

stores-keeping : (offsets : OffsetMap) (now : ℕ) (entries : List Entry) (ticket : Ticket) (g : Group) → list_any (λ e. true) entries ≡ true → Stores offsets (keeping_entries now entries ticket g)
unfolding keeping_entries effect
stores-keeping offsets now entries ticket g some = record { others = λ id h. has-entries g.id (Some now) entries offsets id h; own = has-own_entries g.id (Some now) entries offsets some }

pub stores-commit : (now : ℕ) (r : CommitRequest) (ticket : Ticket) (s : Machine) → list_any (λ e. true) r.entries ≡ true → Fine (Stores s.offsets) (commit now r ticket s.groups)
stores-commit now r ticket s some =
    fine-commit (Stores s.offsets) now r ticket s.groups (λ id _. stores-keeping s.offsets now _ ticket _ (some_kept r.entries some)) (λ id g who _ _. stores-keeping s.offsets now _ ticket _ (some_kept r.entries some))

pub others-concluded : (s : Machine) (ticket : Ticket) (o : Result Turn Code) → Fine (Stores s.offsets) o → (id : List ℕ) → HasOffset s.offsets id → HasOffset (offsets_after s.offsets (concluded s ticket o).effects.commands) id
unfolding concluded
others-concluded s ticket (Ok t) f id h = f.others id h
others-concluded s ticket (Err code) f id h = h

pub own-concluded : (s : Machine) (ticket : Ticket) (o : Result Turn Code) → Fine (Stores s.offsets) o → Fine (λ t. HasOffset (offsets_after s.offsets (concluded s ticket o).effects.commands) t.group.id) o
unfolding concluded
own-concluded s ticket (Ok t) f = f.own
own-concluded s ticket (Err code) f = tt

-- the other groups keep their offsets when one is deleted
pub has-deleted : (offsets : OffsetMap) (id other : List ℕ) → is_same id other ≡ false → HasOffset offsets other → HasOffset (offsets_after offsets (command.Deleted (record { group = id }) ∷ [])) other
unfolding effect
has-deleted offsets id other d h =
    let got = get-retain_keys offsets (is_of_other id) h.key (λ x t. ap (is_of_other id) (sym (key_same h.key x t))) in
    let apart : is_same h.key.group id ≡ false = ap (λ x. is_same x id) h.own ∙ nat_list_eq_equiv.symm other id ∙ d in
    record {
      key = h.key;
      own = h.own;
      stored = ap is_some got ∙ ap (λ b. is_some (cond (not b) (finmap.get offsets h.key) None)) apart ∙ h.stored;
    }
