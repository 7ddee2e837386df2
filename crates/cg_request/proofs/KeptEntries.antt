-- The entries of a COMMIT whose metadata is within its limits are lawful entries of a command.
use Rattle.std.proofs.Common.{◌≡◌, ℕ, ◌+◌, ◌≤◌, false, List, [], ◌∷◌, length, map, refl, sym, subst, ap, ◌∙◌}
use Rattle.std.specs.Prelude.{nat_lt}
use Rattle.std.specs.List.{AllByRecursion, IsDistinct, list_any}
use Rattle.std.proofs.lemmas.Bool.{ltb-false, or_parts}
use Rattle.std.proofs.lemmas.List.{length-map}
use Rattle.std.proofs.lemmas.List.Sums.{sum_by-cons}
use Rattle.cg_record.specs.declared.entries.TheConstants.{COMMIT_METADATA_BYTES_MAX, ENTRIES_MAX}
use Rattle.cg_record.specs.declared.entry.Entry.{Entry}
use Rattle.cg_record.specs.Keys as keys
use Rattle.cg_record.specs.Keys.{AreEntries, HasDistinctKeys, have_one_key}
use Rattle.cg_request.specs.declared.commit_entry.CommitEntry.{CommitEntry}
use Rattle.cg_request.specs.Commits.{AreCommits, is_long, is_too_large, kept_entry, metadata_bytes, share_partition}

no_other : (c : CommitEntry) (cs : List CommitEntry) → AllByRecursion (λ d. share_partition c d ≡ false) cs → AllByRecursion (λ e. have_one_key (kept_entry c) e ≡ false) (map kept_entry cs)
no_other c [] other = tt
no_other c (d ∷ ds) other = (other.0, no_other c ds other.1)

kept_apart : (cs : List CommitEntry) → IsDistinct share_partition cs → HasDistinctKeys (map kept_entry cs)
unfolding IsDistinct
kept_apart [] apart = tt
kept_apart (c ∷ cs) apart = (no_other c cs apart.0, kept_apart cs apart.1)

kept_metadata : (cs : List CommitEntry) → keys.metadata_bytes (map kept_entry cs) ≡ metadata_bytes cs
kept_metadata [] = refl
kept_metadata (c ∷ cs) = sum_by-cons (λ (e : Entry). length e.metadata) (kept_entry c) (map kept_entry cs) ∙ ap (λ n. length c.metadata + n) (kept_metadata cs)

pub entries_of_commits : (cs : List CommitEntry) (es : List Entry) → es ≡ map kept_entry cs → AreCommits cs → is_too_large cs ≡ false → AreEntries es
entries_of_commits cs es e are small =
    let short = or_parts (list_any is_long cs) (nat_lt COMMIT_METADATA_BYTES_MAX (metadata_bytes cs)) small in
    subst (λ (xs : List Entry). AreEntries xs) (sym e) record {
      distinct = record {
        some = subst (λ (n : ℕ). 1 ≤ n) (sym (length-map cs kept_entry)) are.some;
        few = subst (λ (n : ℕ). n ≤ ENTRIES_MAX) (sym (length-map cs kept_entry)) are.few;
        distinct = kept_apart cs are.distinct;
      };
      metadata = subst (λ (n : ℕ). n ≤ COMMIT_METADATA_BYTES_MAX) (sym (kept_metadata cs)) (ltb-false COMMIT_METADATA_BYTES_MAX (metadata_bytes cs) short.1);
    }
