-- The laws of group commands: each decoder accepts exactly the encoding.
use Rattle.std.proofs.Common.{◌≡◌, ℕ, ◌≤◌, List, [], ◌++◌, Option, refl, append_assoc, arith}
use Rattle.std.proofs.lemmas.List.{append-nil}
use Rattle.cg_names.specs.declared.name.TheConstants.{NAME_BYTES_MAX}
use Rattle.cg_names.specs.declared.generation.TheConstants.{GENERATION_MAX}
use Rattle.cg_record.specs.declared.format.Version.{Version}
use Rattle.cg_record.specs.declared.fault.RecordFault.TheVariants.{BadLength}
use Rattle.cg_record.specs.declared.emptied.Emptied.{Emptied}
use Rattle.cg_record.specs.declared.deleted.Deleted.{Deleted}
use Rattle.cg_record.specs.Lawful.{IsEmptied, IsDeleted}
use Rattle.cg_record.specs.Texts.{four, name_text}
use Rattle.cg_record.specs.Spelling.{emptied_text, deleted_text}
use Rattle.cg_record.specs.Fields.{is_from_to}
use Rattle.cg_record.specs.Moments.{moment_text}
use Rattle.cg_record.specs.Saying.{CanSayMoment}
use Rattle.cg_record.specs.Reading.{emptied_at, deleted_at}
use Rattle.cg_record.proofs.Laws.{Reads, reads_only, reads_then, reads_end, reads_as}
use Rattle.cg_record.proofs.MomentLaws.{reads_moment}
use Rattle.cg_record.proofs.FieldLaws.{reads_four, reads_name, from_to-true, is_from_to-true}

abbrev pub emptied_of : List ℕ → ℕ → List ℕ → Option ℕ → Emptied
emptied_of group generation kind moment = record { group = group; generation = generation; kind = kind; moment = moment }

regrouped : (a b c d : List ℕ) → a ++ (b ++ (c ++ (d ++ []))) ≡ ((a ++ b) ++ c) ++ d
regrouped a b c d = simp (append-nil, append_assoc)

pub reads_emptied : (version : Version) → Reads (emptied_at version) (emptied_text version) (λ e. IsEmptied e × CanSayMoment version e.moment)
unfolding emptied_at emptied_text
reads_emptied version =
    reads_as
    (reads_then (λ (e : Emptied). e.group) (reads_name NAME_BYTES_MAX (omega arith)) (λ group is_group.
    reads_then (λ (e : Emptied). e.generation) (reads_only (is_from_to 1 GENERATION_MAX) BadLength reads_four) (λ generation is_generation.
    reads_then (λ (e : Emptied). e.kind) (reads_name NAME_BYTES_MAX (omega arith)) (λ kind is_kind.
    reads_then (λ (e : Emptied). e.moment) (reads_moment version) (λ moment is_moment.
    reads_end (emptied_of group generation kind moment) ((((tt, refl), refl), refl), refl)
    (λ e known. let same : emptied_of group generation kind moment ≡ emptied_of e.group e.generation e.kind e.moment = cc in same))))))
    (λ e. regrouped (name_text e.group) (four e.generation) (name_text e.kind) (moment_text version e.moment))
    (λ e known is.
    let range = from_to-true 1 GENERATION_MAX e.generation is.1.0.1 in
    (record { group = is.0; started = range.0; generation = range.1; kind = is.1.1.0; moment = is.1.1.1.0.0 }, is.1.1.1.0.1))
    (λ e known is.
    let most : e.generation ≤ GENERATION_MAX = is.0.generation in
    (is.0.group, ((omega (arith, most), is_from_to-true 1 GENERATION_MAX e.generation is.0.started most), (is.0.kind, ((is.0.moment, is.1), tt)))))

abbrev pub deleted_of : List ℕ → Deleted
deleted_of group = record { group = group }

pub reads_deleted : Reads deleted_at deleted_text IsDeleted
unfolding deleted_at deleted_text
reads_deleted =
    reads_as
    (reads_then (λ (d : Deleted). d.group) (reads_name NAME_BYTES_MAX (omega arith)) (λ group is_group.
    reads_end (deleted_of group) (tt, refl) (λ d known. let same : deleted_of group ≡ deleted_of d.group = cc in same)))
    (λ d. append-nil (name_text d.group))
    (λ d known is. record { group = is.0 })
    (λ d known is. (is.group, tt))
