-- A BEAT with an id that no member has.
use Rattle.std.proofs.Common.{◌≡◌, ℕ, false, not, List, is_some, option_map, Option, Some, None, Ok, ok_or, refl, sym, ap, ◌∙◌}
use Rattle.std.proofs.lemmas.Bool.{false≢true}
use Rattle.std.specs.Ordering.{int_eq}
use Rattle.std.specs.Prelude.{pos}
use Rattle.cg_names.specs.declared.code.Code.TheVariants.{IllegalGeneration, UnknownMemberId}
use Rattle.cg_group_state.specs.declared.group.Group.{Group}
use Rattle.cg_group_state.specs.declared.member.Member.{Member}
use Rattle.cg_group_state.specs.MemberCheck.{validate_current_member}
use Rattle.cg_group_state.specs.Membership.{find_member, heard, with_member}
use Rattle.cg_group_state.specs.Checks.{◌>>=◌, refused_if}
use Rattle.cg_group_state.proofs.Recalling.{with_member_none}
use Rattle.cg_request.specs.declared.request_fields.BeatRequest.{BeatRequest}
use Rattle.cg_group_rules.specs.Heartbeat.{IsBeatRefused, beat_held, beat_taken}
use Rattle.cg_group_rules.proofs.Entering.{is_none}

pub is_some-map : {X Y : Type 0} (f : X → Y) (o : Option X) (r : Option Y) → r ≡ option_map f o → is_some r ≡ false → is_some o ≡ false
is_some-map f None r e h = refl
is_some-map f (Some x) r e h = absurd (false≢true (sym h ∙ ap is_some e))

module _ (r : BeatRequest) (g : Group) (id : List ℕ) (missing : is_some (find_member id g.members) ≡ false) where
  -- the BEAT is refused
  pub beat_stranger : validate_current_member r.instance r.member g.members ≡ ok_or (option_map (λ m. (id, m)) (find_member id g.members)) UnknownMemberId → IsBeatRefused r g UnknownMemberId
  unfolding beat_held
  beat_stranger check now ticket =
      ap (λ o. o >>= λ who. refused_if (not (int_eq r.generation (pos g.generation))) IllegalGeneration >>= λ _. Ok (beat_taken now who.0 ticket g))
      (check ∙ ap (λ o. ok_or (option_map (λ m. (id, m)) o) UnknownMemberId) (is_none (find_member id g.members) missing))

  -- no member is heard
  pub unheard : (now : ℕ) (after : List Member) → after ≡ with_member id (heard now) g.members → after ≡ g.members
  unheard now after e = e ∙ with_member_none id (heard now) g.members (is_none (find_member id g.members) missing)
