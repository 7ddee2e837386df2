-- The replacement of a member in the record of a group.
use Rattle.std.proofs.Common.{◌≡◌, ℕ, List, Option, Some, None, ap, sym, ◌∙◌, refl, subst}
use Rattle.std.specs.Prelude.{IsTrue}
use Rattle.std.specs.BTreeMap.{is_at}
use Rattle.std.specs.Map.{lookup, set_value}
use Rattle.std.specs.Option.{option_map}
use Rattle.std.specs.FinMap.{find, is_sorted, put}
use Rattle.cg_record.specs.declared.member_record.MemberRecord.{MemberRecord}
use Rattle.cg_fold.specs.declared.group_record.GroupRecord.{GroupRecord}
use Rattle.cg_fold.specs.Key.{name_cmp}
use Rattle.cg_fold.specs.Record.{KeptRecord, replaced_record, put_found, replaced_among}
use Rattle.cg_fold.proofs.KeyOrder.{name_total}
use Rattle.cg_fold.proofs.Maps.{lookup-find, set_value-put}
use Rattle.cg_fold.proofs.Put.{tested, put_keeps_order}

-- the group has a record
pub replace_found : (records after : List KeptRecord) (group : List ℕ) (held : GroupRecord) (new : MemberRecord) → IsTrue (is_sorted name_cmp records)
    → lookup (is_at (name_cmp group)) records ≡ Some held → after ≡ set_value (is_at (name_cmp group)) records (replaced_record new held) → after ≡ replaced_among group new records
replace_found records after group held new sorted there stored =
    let found : find name_cmp group records ≡ Some held = sym (lookup-find name_cmp group records) ∙ there in
    stored ∙ set_value-put name_total group held (replaced_record new held) records (tested sorted) found
    ∙ sym (ap (λ f. put_found group (option_map (replaced_record new) f) records) found)

found_keeps_order : (group : List ℕ) (found : Option GroupRecord) (records : List KeptRecord) → IsTrue (is_sorted name_cmp records) → IsTrue (is_sorted name_cmp (put_found group found records))
found_keeps_order group None records sorted = sorted
found_keeps_order group (Some r) records sorted = put_keeps_order name_total group r records (put name_cmp group r records) refl sorted

pub replaced_keeps_order : (group : List ℕ) (new : MemberRecord) (records after : List KeptRecord) → after ≡ replaced_among group new records → IsTrue (is_sorted name_cmp records) → IsTrue (is_sorted name_cmp after)
replaced_keeps_order group new records after is sorted =
    subst (λ l. IsTrue (is_sorted name_cmp l)) (sym is) (found_keeps_order group (option_map (replaced_record new) (find name_cmp group records)) records sorted)
