-- The processing of an event does not read the offsets, except for FETCH, and changes them only by its commands.
use Rattle.std.proofs.Common.{◌≡◌, ℕ, List, refl, sym, ap, subst, ◌∙◌, Result, Ok, Err}
use Rattle.cg_names.specs.declared.code.Code.{Code}
use Rattle.cg_record.specs.declared.command.Command.{Command}
use Rattle.cg_group_state.specs.declared.effects.Effects.{Effects}
use Rattle.cg_group_state.specs.declared.group.Group.{Group}
use Rattle.cg_request.specs.declared.ticket.Ticket.{Ticket}
use Rattle.cg_group_state.specs.declared.turn.Turn.{Turn}
use Rattle.cg_group.specs.Machine.{concluded, deleted}
use Rattle.cg_group_table.specs.GroupTable.{Outcome, at_moment, everywhere, outcome, standing}
use Rattle.cg_group_state.specs.Offsets.{OffsetMap, offsets_after}
use Rattle.cg_group.proofs.OffsetsKept.{AreQuiet, quiet-offsets}
use Rattle.cg_group.proofs.Quiet.{Quiet, quiet-all, quiet-concluded}
use Rattle.cg_group.proofs.Requests.{Fine}

-- the outcome with these offsets and this moment of loading
abbrev beside : ℕ → OffsetMap → Outcome → Outcome
beside loaded offsets o = record o { after = record o.after { offsets = offsets; loaded = loaded } }

abbrev commands_in : Outcome → List Command
commands_in o = o.effects.commands

concluded_with : (loaded now : ℕ) (groups : List Group) (offsets : OffsetMap) (ticket : Ticket) (o : Result Turn Code) → concluded (standing loaded now groups offsets) ticket o ≡ beside loaded offsets (concluded (at_moment now groups) ticket o)
unfolding concluded
concluded_with loaded now groups offsets ticket (Ok t) = refl
concluded_with loaded now groups offsets ticket (Err code) = refl

deleted_with : (loaded now : ℕ) (groups : List Group) (offsets : OffsetMap) (ticket : Ticket) (o : Result (List ℕ) Code) → deleted (standing loaded now groups offsets) ticket o ≡ beside loaded offsets (deleted (at_moment now groups) ticket o)
unfolding deleted
deleted_with loaded now groups offsets ticket (Ok id) = refl
deleted_with loaded now groups offsets ticket (Err code) = refl

pub concluded_beside : (loaded now : ℕ) (groups after : List Group) (offsets : OffsetMap) (ticket : Ticket) (o : Result Turn Code) (e : Effects) → concluded (at_moment now groups) ticket o ≡ outcome (at_moment now after) e → concluded (standing loaded now groups offsets) ticket o ≡ outcome (standing loaded now after offsets) e
concluded_beside loaded now groups after offsets ticket o e h = concluded_with loaded now groups offsets ticket o ∙ ap (beside loaded offsets) h

pub deleted_beside : (loaded now : ℕ) (groups after : List Group) (offsets : OffsetMap) (ticket : Ticket) (o : Result (List ℕ) Code) (e : Effects) → deleted (at_moment now groups) ticket o ≡ outcome (at_moment now after) e → deleted (standing loaded now groups offsets) ticket o ≡ outcome (standing loaded now after offsets) e
deleted_beside loaded now groups after offsets ticket o e h = deleted_with loaded now groups offsets ticket o ∙ ap (beside loaded offsets) h

pub everywhere_beside : (loaded now : ℕ) (groups after : List Group) (offsets : OffsetMap) (turn : Group → Turn) (e : Effects) → everywhere turn (at_moment now groups) ≡ outcome (at_moment now after) e → everywhere turn (standing loaded now groups offsets) ≡ outcome (standing loaded now after offsets) e
unfolding everywhere
everywhere_beside loaded now groups after offsets turn e h = ap (beside loaded offsets) h

still : (offsets : OffsetMap) (made now : List Command) → AreQuiet made → made ≡ now → offsets ≡ offsets_after offsets now
still offsets made now q same = let P : List Command → Type 0 = λ cs. AreQuiet cs in sym (quiet-offsets offsets now (subst P same q))

pub concluded_still : (now : ℕ) (groups after : List Group) (offsets : OffsetMap) (ticket : Ticket) (o : Result Turn Code) (e : Effects) → Fine Quiet o → concluded (at_moment now groups) ticket o ≡ outcome (at_moment now after) e → offsets ≡ offsets_after offsets e.commands
concluded_still now groups after offsets ticket o e fine h =
    still offsets (concluded (at_moment now groups) ticket o).effects.commands e.commands (quiet-concluded (at_moment now groups) ticket o fine) (ap commands_in h)

pub everywhere_still : (now : ℕ) (groups after : List Group) (offsets : OffsetMap) (turn : Group → Turn) (e : Effects) → ((g : Group) → Quiet (turn g)) → everywhere turn (at_moment now groups) ≡ outcome (at_moment now after) e → offsets ≡ offsets_after offsets e.commands
unfolding everywhere
everywhere_still now groups after offsets turn e quiet h =
    still offsets (everywhere turn (at_moment now groups)).effects.commands e.commands (quiet-all turn quiet groups) (ap commands_in h)
