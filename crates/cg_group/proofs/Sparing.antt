-- Which offsets are left after commands that set none.
use Rattle.std.proofs.Common.{◌≡◌, ℕ, Bool, true, false, not, ◌&&◌, ◌||◌, List, [], ◌∷◌, cond, is_some, refl, sym, ap, ◌∙◌, Option, Some, None}
use Rattle.std.specs.List.{list_all}
use Rattle.std.specs.FinMap as finmap
use Rattle.std.specs.FinMap.{find, get-retain_keys}
use Rattle.std.proofs.lemmas.Bool.{and_from, false≢true}
use Rattle.std.proofs.lemmas.Cmp.{nat_list_eq_equiv}
use Rattle.cg_record.specs.declared.command.Command.{Command}
use Rattle.cg_record.specs.declared.command.Command.TheVariants.{Assigned, Emptied, Replaced, Committed, Deleted, Dropped, Expired}
use Rattle.cg_record.specs.declared.member_record.MemberRecord.{MemberRecord}
use Rattle.cg_record.specs.Partitions.{partition_cmp}
use Rattle.cg_fold.specs.declared.group_record.GroupRecord.{GroupRecord}
use Rattle.cg_fold.specs.declared.stored_offset.StoredOffset.{StoredOffset}
use Rattle.cg_fold.specs.Durable.{State, after, effect, is_beside, is_of_other, with_member}
use Rattle.cg_fold.specs.Key.{KeptRow, OffsetKey, is_among}
use Rattle.cg_fold.specs.Snapshot.{offsets_in}
use Rattle.cg_fold.proofs.KeyOrder.{key_same}
use Rattle.cg_fold.proofs.Stock.{find-offsets_in}
use Rattle.cg_group_table.specs.Expiry.{is_bare, is_nil, is_taking}
use Rattle.cg_group_table.specs.Kept.{Each}
use Rattle.cg_group_table.proofs.Framed.{OfGroup}
use Rattle.cg_group_table.proofs.Kept.{group_of}
use Rattle.cg_group_state.specs.Membership.{is_same}
use Rattle.cg_group_state.specs.Offsets.{OffsetMap, offsets_after}

-- the command leaves the offset with this key
abbrev pub spares : OffsetKey → Command → Bool
spares key (Assigned a) = true
spares key (Emptied e) = true
spares key (Replaced r) = true
spares key (Committed c) = true
spares key (Deleted d) = is_of_other d.group key
spares key (Expired e) = is_beside e.group e.partitions key
spares key (Dropped d) = is_beside d.group d.partitions key

abbrev pub IsTaking : Command → Type 0
IsTaking c = is_taking c ≡ true

abbrev left : Bool → Option StoredOffset → Option StoredOffset
left spared held = cond spared held None

same-member : (state : State) (group : List ℕ) (new : MemberRecord) (held : Option GroupRecord) → (with_member state group new held).offsets ≡ state.offsets
same-member state group new None = refl
same-member state group new (Some r) = refl

get-effect : (state : State) (c : Command) (key : OffsetKey) → is_taking c ≡ true → finmap.get (effect state c).offsets key ≡ left (spares key c) (finmap.get state.offsets key)
unfolding effect
get-effect state (Assigned a) key takes = refl
get-effect state (Emptied e) key takes = refl
get-effect state (Replaced r) key takes = ap (λ o. finmap.get o key) (same-member state r.group r.member (finmap.get state.records r.group))
get-effect state (Committed c) key takes = absurd (false≢true takes)
get-effect state (Deleted d) key takes = get-retain_keys state.offsets (is_of_other d.group) key (λ x t. ap (is_of_other d.group) (sym (key_same key x t)))
get-effect state (Expired e) key takes = get-retain_keys state.offsets (is_beside e.group e.partitions) key (λ x t. ap (is_beside e.group e.partitions) (sym (key_same key x t)))
get-effect state (Dropped d) key takes = get-retain_keys state.offsets (is_beside d.group d.partitions) key (λ x t. ap (is_beside d.group d.partitions) (sym (key_same key x t)))

twice : (a b : Bool) (held : Option StoredOffset) → left b (left a held) ≡ left (a && b) held
twice true b held = refl
twice false true held = refl
twice false false held = refl

get-after : (cs : List Command) (state : State) (key : OffsetKey) → Each IsTaking cs → finmap.get (after state cs).offsets key ≡ left (list_all (spares key) cs) (finmap.get state.offsets key)
get-after [] state key takes = refl
get-after (c ∷ cs) state key takes =
    get-after cs (effect state c) key takes.1
    ∙ ap (left (list_all (spares key) cs)) (get-effect state c key takes.0)
    ∙ twice (spares key c) (list_all (spares key) cs) (finmap.get state.offsets key)

-- the offset that is left after commands that set none: the old one, if each of them spares it
pub get-taken : (offsets : OffsetMap) (cs : List Command) (key : OffsetKey) → Each IsTaking cs → finmap.get (offsets_after offsets cs) key ≡ cond (list_all (spares key) cs) (finmap.get offsets key) None
get-taken offsets cs key takes = get-after cs (record { records = finmap.empty; offsets = offsets }) key takes

pub left_parts : (b : Bool) (held : Option StoredOffset) → is_some (cond b held None) ≡ true → (b ≡ true) × (is_some held ≡ true)
left_parts true held e = (refl, e)
left_parts false held e = absurd (false≢true e)

-- a key that is left is spared by each command, and was there
pub spared : (offsets : OffsetMap) (cs : List Command) (key : OffsetKey) → Each IsTaking cs → is_some (finmap.get (offsets_after offsets cs) key) ≡ true → (list_all (spares key) cs ≡ true) × (is_some (finmap.get offsets key) ≡ true)
spared offsets cs key takes e = left_parts (list_all (spares key) cs) (finmap.get offsets key) (ap is_some (sym (get-taken offsets cs key takes)) ∙ e)

-- a key that each command spares is left
pub stays_spared : (offsets : OffsetMap) (cs : List Command) (key : OffsetKey) → Each IsTaking cs → list_all (spares key) cs ≡ true → is_some (finmap.get offsets key) ≡ true → is_some (finmap.get (offsets_after offsets cs) key) ≡ true
stays_spared offsets cs key takes all there = ap is_some (get-taken offsets cs key takes ∙ ap (λ b. cond b (finmap.get offsets key) None) all) ∙ there

-- a group without offsets has none with its id
pub bare-none : (offsets : OffsetMap) (key : OffsetKey) → is_bare offsets key.group ≡ true → finmap.get offsets key ≡ None
bare-none offsets key e = sym (find-offsets_in key offsets) ∙ by_rows (offsets_in offsets key.group) e
  where
    by_rows : (rows : List KeptRow) → is_nil rows ≡ true → find {X = StoredOffset} partition_cmp key.partition rows ≡ None
    by_rows [] e = refl
    by_rows (row ∷ rows) e = absurd (false≢true e)

-- commands of a group spare the offsets of the others
spares-other : (id : List ℕ) (key : OffsetKey) (c : Command) → group_of c ≡ id → is_same id key.group ≡ false → spares key c ≡ true
spares-other id key (Assigned a) own d = refl
spares-other id key (Emptied e) own d = refl
spares-other id key (Replaced r) own d = refl
spares-other id key (Committed c) own d = refl
spares-other id key (Deleted x) own d = ap not (nat_list_eq_equiv.symm key.group x.group ∙ ap (λ i. is_same i key.group) own ∙ d)
spares-other id key (Expired x) own d = ap (λ b. not b || not (is_among x.partitions key.partition)) (nat_list_eq_equiv.symm key.group x.group ∙ ap (λ i. is_same i key.group) own ∙ d)
spares-other id key (Dropped x) own d = ap (λ b. not b || not (is_among x.partitions key.partition)) (nat_list_eq_equiv.symm key.group x.group ∙ ap (λ i. is_same i key.group) own ∙ d)

pub spared-other : (id : List ℕ) (key : OffsetKey) (cs : List Command) → OfGroup id cs → is_same id key.group ≡ false → list_all (spares key) cs ≡ true
spared-other id key [] own d = refl
spared-other id key (c ∷ cs) own d = and_from (spares key c) (list_all (spares key) cs) (spares-other id key c own.0 d) (spared-other id key cs own.1 d)
