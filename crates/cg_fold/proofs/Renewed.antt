-- Changes of offsets in place.
use Rattle.std.proofs.Common.{◌≡◌, ℕ, ◌+◌, Bool, true, false, cond, Option, Some, List, [], ◌∷◌, ◌++◌, length, map as each, get_or, set, ap, sym, ◌∙◌, refl, subst, arith}
use Rattle.std.proofs.Math.ListN.{get_or-map, length-set}
use Rattle.std.proofs.Math.Seq.{map-set_same}
use Rattle.std.proofs.lemmas.List.{length-map}
use Rattle.std.specs.Prelude.{is_some}
use Rattle.std.specs.FinMap.{find}
use Rattle.std.specs.List.{fold, prefix_len}
use Rattle.std.specs.Ordering.{is_eq, is_lt}
use Rattle.cg_record.specs.declared.entry.Entry.{Entry}
use Rattle.cg_fold.specs.declared.stored_offset.StoredOffset.{StoredOffset}
use Rattle.cg_record.specs.declared.topic_partition.TopicPartition.{TopicPartition}
use Rattle.cg_fold.specs.declared.renewals.Renewal.{Renewal}
use Rattle.cg_record.specs.Partitions.{partition_cmp, topic_partition}
use Rattle.cg_fold.specs.Key.{IsOwn, KeptRow, is_below, put_row}
use Rattle.cg_fold.specs.Renewed.{AreBelow, AreRenewals, IsRenewal, has_row, renewed}
use Rattle.cg_fold.proofs.KeyOrder.{partition_total}
use Rattle.cg_fold.proofs.Place.{put-same}

-- a change in place equals the insertion of the entry
pub renewed_is_put : (rows deref : List KeptRow) (kept : KeptRow) (renewal : Renewal) → deref ≡ rows → IsRenewal deref kept renewal → renewed rows renewal ≡ put_row rows kept
renewed_is_put rows deref kept renewal same is =
    let here : IsRenewal rows kept renewal = subst (λ l. IsRenewal l kept renewal) same is in
    let none : KeptRow = (topic_partition [] 0, renewal.stored) in
    ap (λ v. set rows renewal.at ((get_or rows renewal.at none).0, v)) here.stored ∙ sym (put-same partition_total kept.0 kept.1 rows renewal.at none here.at here.own.0 (here.own.1 none))

-- ---- several entries

abbrev keys : List KeptRow → List TopicPartition
keys rows = each (λ row. row.0) rows

keys-renewed : (rows : List KeptRow) (renewal : Renewal) → keys (renewed rows renewal) ≡ keys rows
keys-renewed rows renewal = map-set_same (λ (row : KeptRow). row.0) rows renewal.at _ (topic_partition [] 0, renewal.stored) refl

prefix_len-keys : (key : TopicPartition) (rows : List KeptRow) → prefix_len (is_below key) rows ≡ prefix_len (λ k. is_lt (partition_cmp k key)) (keys rows)
prefix_len-keys key [] = refl
prefix_len-keys key (row ∷ rows) = ap (λ n. cond (is_lt (partition_cmp row.0 key)) (1 + n) 0) (prefix_len-keys key rows)

-- the index of a key depends on the keys alone
renewal_stays : (old new : List KeptRow) (kept : KeptRow) (renewal : Renewal) → keys new ≡ keys old → IsRenewal old kept renewal → IsRenewal new kept renewal
renewal_stays old new kept renewal same is = record {
  at = is.at ∙ prefix_len-keys kept.0 old ∙ ap (prefix_len (λ k. is_lt (partition_cmp k kept.0))) (sym same) ∙ sym (prefix_len-keys kept.0 new);
  own = (
    omega (arith, is.own.0, length-map old (λ (row : KeptRow). row.0), length-map new (λ (row : KeptRow). row.0), ap length same),
    λ d. ap (λ k. partition_cmp k kept.0) (sym (get_or-map (λ (row : KeptRow). row.0) new renewal.at d) ∙ ap (λ l. get_or l renewal.at d.0) same ∙ get_or-map (λ (row : KeptRow). row.0) old renewal.at d)
        ∙ is.own.1 d,
  );
  stored = is.stored;
}

renewals_stay : (old new kept : List KeptRow) (renewals : List Renewal) → keys new ≡ keys old → AreRenewals old kept renewals → AreRenewals new kept renewals
renewals_stay old new [] [] same are = tt
renewals_stay old new [] (renewal ∷ renewals) same are = absurd are
renewals_stay old new (k ∷ kept) [] same are = absurd are
renewals_stay old new (k ∷ kept) (renewal ∷ renewals) same are = (renewal_stays old new k renewal same are.0, renewals_stay old new kept renewals same are.1)

-- changes in place equal the insertion of the entries
fold-renewed : (rows kept : List KeptRow) (renewals : List Renewal) → AreRenewals rows kept renewals → fold renewed rows renewals ≡ fold put_row rows kept
fold-renewed rows [] [] are = refl
fold-renewed rows [] (renewal ∷ renewals) are = absurd are
fold-renewed rows (k ∷ kept) [] are = absurd are
fold-renewed rows (k ∷ kept) (renewal ∷ renewals) are =
    fold-renewed (renewed rows renewal) kept renewals (renewals_stay rows (renewed rows renewal) kept renewals (keys-renewed rows renewal) are.1)
    ∙ ap (λ l. fold put_row l kept) (renewed_is_put rows rows k renewal refl are.0)

length-fold_renewed : (rows : List KeptRow) (renewals : List Renewal) → length (fold renewed rows renewals) ≡ length rows
length-fold_renewed rows [] = refl
length-fold_renewed rows (renewal ∷ renewals) = length-fold_renewed (renewed rows renewal) renewals ∙ simp length-set

are_below : (rows kept : List KeptRow) (renewals : List Renewal) → AreRenewals rows kept renewals → AreBelow (length rows) renewals
are_below rows [] [] are = tt
are_below rows [] (renewal ∷ renewals) are = absurd are
are_below rows (k ∷ kept) [] are = absurd are
are_below rows (k ∷ kept) (renewal ∷ renewals) are = (are.0.own.0, are_below rows kept renewals are.1)

-- facts about renewals that were found in the rows
pub renewals_below : (rows deref kept : List KeptRow) (renewals : List Renewal) → deref ≡ rows → AreRenewals deref kept renewals → AreBelow (length rows) renewals
renewals_below rows deref kept renewals same are = are_below rows kept renewals (subst (λ l. AreRenewals l kept renewals) same are)

pub renewals_are_puts : (rows deref kept : List KeptRow) (renewals : List Renewal) → deref ≡ rows → AreRenewals deref kept renewals
    → (fold renewed rows renewals ≡ fold put_row rows kept) × (length (fold renewed rows renewals) ≡ length rows)
renewals_are_puts rows deref kept renewals same are =
    (fold-renewed rows kept renewals (subst (λ l. AreRenewals l kept renewals) same are), length-fold_renewed rows renewals)

pub renewals-more : (rows kept : List KeptRow) (renewals : List Renewal) (new : KeptRow) (renewal : Renewal)
    → AreRenewals rows kept renewals → IsRenewal rows new renewal → AreRenewals rows (kept ++ new ∷ []) (renewals ++ renewal ∷ [])
renewals-more rows [] [] new renewal are is = (is, tt)
renewals-more rows [] (r ∷ renewals) new renewal are is = absurd are
renewals-more rows (k ∷ kept) [] new renewal are is = absurd are
renewals-more rows (k ∷ kept) (r ∷ renewals) new renewal are is = (are.0, renewals-more rows kept renewals new renewal are.1 is)

-- ---- values that are moved

-- the renewal of the row that was found
pub renewal-at : (items deref deref' : List KeptRow) (kept : KeptRow) (at : ℕ) → deref ≡ items → deref' ≡ items
    → at ≡ prefix_len (is_below kept.0) deref → IsOwn deref' at kept.0 → IsRenewal items kept (record { at = at; stored = kept.1 })
renewal-at items deref deref' kept at same same' place own = record {
  at = place ∙ ap (prefix_len (is_below kept.0)) same;
  own = subst (λ l. IsOwn l at kept.0) same' own;
  stored = refl;
}

-- whether a partition has a row depends on the keys alone
abbrev any_key : TopicPartition → List TopicPartition → Bool
any_key key [] = false
any_key key (k ∷ ks) = cond (is_eq (partition_cmp key k)) true (any_key key ks)

is_some-cond : (b : Bool) (x : StoredOffset) (found : Option StoredOffset) → is_some (cond b (Some x) found) ≡ cond b true (is_some found)
is_some-cond true x found = refl
is_some-cond false x found = refl

has-key : (key : TopicPartition) (rows : List KeptRow) → is_some (find partition_cmp key rows) ≡ any_key key (keys rows)
has-key key [] = refl
has-key key (row ∷ rows) = is_some-cond (is_eq (partition_cmp key row.0)) row.1 (find partition_cmp key rows) ∙ ap (cond (is_eq (partition_cmp key row.0)) true) (has-key key rows)

pub has_row-renewed : (rows new : List KeptRow) (renewal : Renewal) (entry : Entry) → new ≡ renewed rows renewal → has_row new entry ≡ has_row rows entry
has_row-renewed rows new renewal entry is =
    let key = entry.key in
    has-key key new ∙ ap (λ l. any_key key (keys l)) is ∙ ap (any_key key) (keys-renewed rows renewal) ∙ sym (has-key key rows)
