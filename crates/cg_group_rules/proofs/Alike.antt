-- A rebalance completes alike where its members differ in nothing that this reads: not in when they were heard, nor in parked SYNCs.
use Rattle.std.proofs.Common.{◌≡◌, ◌⊎◌, inl, inr, ℕ, ◌+◌, Bool, true, false, nat_lt, not, ◌&&◌, ◌||◌, List, [], ◌∷◌, ◌++◌, cond, map, filter, find, is_some, Option, Some, None, refl, subst, sym, ap, ◌∙◌}
use Rattle.std.specs.Prelude.{◌==◌, count_by, option_map, option_to_list, if◌then◌else◌}
use Rattle.std.specs.List.{flat_map, list_all, list_any}
use Rattle.std.specs.Ordering.{nat_cmp, is_lt}
use Rattle.std.specs.Cmp.Lexicographic.{slice_cmp}
use Rattle.std.proofs.lemmas.Bool.{false≢true}
use Rattle.std.proofs.lemmas.List.Folds.{flat_map-map, fold-map, list_all-map}
use Rattle.cg_request.specs.Names.{is_same}
use Rattle.cg_request.specs.declared.protocol.Protocol.{Protocol}
use Rattle.cg_request.specs.declared.ticket.Ticket.{Ticket}
use Rattle.cg_group_state.specs.declared.calls.Calls.TheVariants.{Joins}
use Rattle.cg_group_state.specs.declared.effects.Effects.{Effects}
use Rattle.cg_group_state.specs.declared.group.Group.{Group}
use Rattle.cg_group_state.specs.declared.group.Phase.{Phase}
use Rattle.cg_group_state.specs.declared.member.Member.{Member}
use Rattle.cg_group_state.specs.declared.reply.JoinedMember.{JoinedMember}
use Rattle.cg_group_state.specs.declared.reply.Reply.{Reply}
use Rattle.cg_group_state.specs.declared.reply.Reply.TheVariants as reply
use Rattle.cg_group_state.specs.declared.turn.Turn.{Turn}
use Rattle.cg_group_state.specs.Membership.{is_empty, is_named, leader_among}
use Rattle.cg_group_rules.specs.Rebalance.{complete_join, emptied, emptied_command, joined_member, joined_members, joined_reply, next_leader, init_next_generation, subscription_for, reply_to_joins, turned}
use Rattle.cg_group_state.specs.Vote.{ballot, beats, candidate_protocols, select_protocol, is_among, is_beaten, is_common, offers, votes}
use Rattle.cg_group_state.specs.Waiting.{after_answers, answer, answers, called, is_waiting}
use Rattle.cg_group_rules.specs.declared.rebalance.Round.{Round}
use Rattle.cg_group_rules.proofs.Rounds.{nobody, unled}
use Rattle.cg_group_rules.specs.RebalancePlan.{rounded}

-- the leader of these members, or nobody if it is not among them
abbrev pub IsLead : Option (List ℕ) → List Member → Option (List ℕ) → Type 0
IsLead leader ms kept = (kept ≡ leader) ⊎ ((kept ≡ None) × (list_any (λ m. is_named leader m.id) ms ≡ false))

pub lead_among : (leader : Option (List ℕ)) (ms : List Member) → IsLead leader ms (leader_among ms leader)
lead_among leader ms =
    (elim (list_any (λ m. is_named leader m.id) ms) as (λ b. list_any (λ m. is_named leader m.id) ms ≡ b → IsLead leader ms (if b then leader else None)) [
      | true ↦ λ e. inl refl
      | false ↦ λ e. inr (refl, e)
    ]) refl

leader_by : Bool → Option (List ℕ) → Option (List ℕ)
leader_by b l = if b then l else None

nobody_among : (ms : List Member) → leader_among ms None ≡ None
unfolding leader_by
nobody_among ms = elim (list_any (λ m. is_named None m.id) ms) as (λ b. leader_by b None ≡ None) [ true ↦ refl | false ↦ refl ]

-- a leader that was kept among more members is kept among these, or gone
pub lead_again : (leader kept : Option (List ℕ)) (more ms : List Member) → (list_any (λ m. is_named leader m.id) more ≡ false → list_any (λ m. is_named leader m.id) ms ≡ false) → IsLead leader more kept → IsLead leader ms (leader_among ms kept)
lead_again leader kept more ms fewer (inl same) =
    let P : Option (List ℕ) → Type 0 = λ k. IsLead leader ms (leader_among ms k) in
    subst P (sym same) (lead_among leader ms)
lead_again leader kept more ms fewer (inr (gone, none)) = inr (ap (leader_among ms) gone ∙ nobody_among ms, fewer none)

pub empty_alike : (f : Member → Member) (ms : List Member) → is_empty (map f ms) ≡ is_empty ms
empty_alike f [] = refl
empty_alike f (m ∷ ms) = refl

pub any_alike : (f : Member → Member) (p q : Member → Bool) → ((m : Member) → p (f m) ≡ q m) → (ms : List Member) → list_any p (map f ms) ≡ list_any q ms
any_alike f p q h [] = refl
any_alike f p q h (m ∷ ms) = ap (λ b. b || list_any p (map f ms)) (h m) ∙ ap (λ b. q m || b) (any_alike f p q h ms)

module _ (f : Member → Member) (same_id : (m : Member) → (f m).id ≡ m.id) (same_instance : (m : Member) → (f m).instance ≡ m.instance)
    (same_protocols : (m : Member) → (f m).protocols ≡ m.protocols) (same_call : (m : Member) → called Joins (f m).waits ≡ called Joins m.waits) where
  -- the vote reads the protocols alone
  common_alike : (name : List ℕ) (ms : List Member) → is_common (map f ms) name ≡ is_common ms name
  unfolding is_common
  common_alike name ms =
      list_all-map (offers name) f ms
      ∙ ap (λ (p : Member → Bool). list_all p ms) (λ i m. list_any (λ (x : Protocol). is_same x.name name) (same_protocols m i))

  candidates_alike : (ms : List Member) → candidate_protocols (map f ms) ≡ candidate_protocols ms
  unfolding candidate_protocols
  candidates_alike [] = refl
  candidates_alike (m ∷ ms) =
      ap (λ (ps : List Protocol). filter (is_common (map f (m ∷ ms))) (map (λ p. p.name) ps)) (same_protocols m)
      ∙ ap (λ (p : List ℕ → Bool). filter p (map (λ x. x.name) m.protocols)) (λ i name. common_alike name (m ∷ ms) i)

  votes_alike : (names : List (List ℕ)) (ms : List Member) (name : List ℕ) → votes names (map f ms) name ≡ votes names ms name
  unfolding votes ballot
  votes_alike names ms name =
      fold-map (λ a m. a + cond (is_named (ballot names m) name) 1 0) f 0 ms
      ∙ ap (λ (p : Member → Bool). count_by p ms) (λ i m. is_named (option_map (λ (p : Protocol). p.name) (find (λ p. is_among names p.name) (same_protocols m i))) name)

  -- the winner by these votes
  abbrev winner : List (List ℕ) → (List ℕ → ℕ) → Option (List ℕ)
  winner names count = find (λ name. not (list_any (λ other. nat_lt (count name) (count other) || (count other == count name && is_lt (slice_cmp nat_cmp other name))) names)) names

  elected_alike : (ms : List Member) → select_protocol (map f ms) ≡ select_protocol ms
  unfolding select_protocol is_beaten beats
  elected_alike ms =
      ap (λ names. winner names (votes names (map f ms))) (candidates_alike ms)
      ∙ ap (λ (count : List ℕ → ℕ). winner (candidate_protocols ms) count) (λ i name. votes_alike (candidate_protocols ms) ms name i)

  -- the first member with a parked JOIN
  first_alike : (ms : List Member) → option_map (λ m. m.id) (find (is_waiting Joins) (map f ms)) ≡ option_map (λ m. m.id) (find (is_waiting Joins) ms)
  first_alike [] = refl
  first_alike (m ∷ ms) =
      let rest : Option (List ℕ) = option_map (λ m. m.id) (find (is_waiting Joins) ms) in
      out (is_waiting Joins (f m)) (f m) (find (is_waiting Joins) (map f ms))
      ∙ ap (λ o. cond (is_some o) (Some (f m).id) (option_map (λ m. m.id) (find (is_waiting Joins) (map f ms)))) (same_call m)
      ∙ ap (λ i. cond (is_waiting Joins m) (Some i) (option_map (λ m. m.id) (find (is_waiting Joins) (map f ms)))) (same_id m)
      ∙ ap (λ o. cond (is_waiting Joins m) (Some m.id) o) (first_alike ms)
      ∙ sym (out (is_waiting Joins m) m (find (is_waiting Joins) ms))
    where
      out : (b : Bool) (x : Member) (o : Option Member) → option_map (λ (m : Member). m.id) (cond b (Some x) o) ≡ cond b (Some x.id) (option_map (λ (m : Member). m.id) o)
      out true x o = refl
      out false x o = refl

  leader_alike : (g : Group) (leader : Option (List ℕ)) → IsLead g.leader g.members leader → next_leader (record g { leader = leader; members = map f g.members }) ≡ next_leader g
  unfolding next_leader
  leader_alike g leader (inl same) =
      ap (λ l. if list_any (λ m. is_named l m.id && is_waiting Joins m) (map f g.members) then l else option_map (λ m. m.id) (find (is_waiting Joins) (map f g.members))) same
      ∙ ap (λ b. if b then g.leader else option_map (λ m. m.id) (find (is_waiting Joins) (map f g.members)))
      (any_alike f (λ m. is_named g.leader m.id && is_waiting Joins m) (λ m. is_named g.leader m.id && is_waiting Joins m) (λ m. ap (λ i. is_named g.leader i && is_waiting Joins (f m)) (same_id m) ∙ ap (λ o. is_named g.leader m.id && is_some o) (same_call m)) g.members)
      ∙ ap (λ o. if list_any (λ m. is_named g.leader m.id && is_waiting Joins m) g.members then g.leader else o) (first_alike g.members)
  leader_alike g leader (inr (gone, none)) =
      ap (λ l. if list_any (λ m. is_named l m.id && is_waiting Joins m) (map f g.members) then l else option_map (λ m. m.id) (find (is_waiting Joins) (map f g.members))) gone
      ∙ ap (λ b. if b then None else option_map (λ m. m.id) (find (is_waiting Joins) (map f g.members))) (unled (λ m. is_named None m.id) (is_waiting Joins) (map f g.members) (nobody (map f g.members)))
      ∙ first_alike g.members
      ∙ sym (ap (λ b. if b then g.leader else option_map (λ m. m.id) (find (is_waiting Joins) g.members)) (unled (λ m. is_named g.leader m.id) (is_waiting Joins) g.members none))

  -- the replies to JOINs
  told_alike : (protocol : Option (List ℕ)) (ms : List Member) → map (joined_member protocol) (map f ms) ≡ map (joined_member protocol) ms
  told_alike protocol [] = refl
  told_alike protocol (m ∷ ms) =
      ap (λ (x : JoinedMember). x ∷ map (joined_member protocol) (map f ms))
      (ap (λ i. made i (f m).instance (subscription_for protocol (f m).protocols)) (same_id m)
      ∙ ap (λ i. made m.id i (subscription_for protocol (f m).protocols)) (same_instance m)
      ∙ ap (λ ps. made m.id m.instance (subscription_for protocol ps)) (same_protocols m))
      ∙ ap (λ xs. joined_member protocol m ∷ xs) (told_alike protocol ms)
    where
      made : List ℕ → Option (List ℕ) → List ℕ → JoinedMember
      made i n s = record { id = i; instance = n; subscription = s }

  reply_alike : (g : Group) (m : Member) → joined_reply (record g { members = map f g.members }) (f m) ≡ joined_reply g m
  unfolding joined_reply joined_members
  reply_alike g m =
      ap (λ i. made i (if is_named g.leader i then map (joined_member g.protocol) (map f g.members) else [])) (same_id m)
      ∙ ap (λ xs. made m.id (if is_named g.leader m.id then xs else [])) (told_alike g.protocol g.members)
    where
      made : List ℕ → List JoinedMember → Reply
      made i xs = reply.Joined (record { generation = g.generation; kind = g.kind; protocol = g.protocol; leader = g.leader; member = i; members = xs })

  answers_alike : (g : Group) (tells : Member → Reply) → ((m : Member) → tells (f m) ≡ joined_reply g m) → (ms : List Member) → answers Joins tells (map f ms) ≡ answers Joins (joined_reply g) ms
  unfolding answers
  answers_alike g tells h ms =
      flat_map-map (answer Joins tells) f ms
      ∙ ap (λ (a : Member → List (Ticket × Reply)). flat_map a ms)
      (λ i m. option_to_list (option_map (λ t. (t, h m i)) (same_call m i)))

  empty_stays : (now : ℕ) (ms : List Member) → is_empty ms ≡ true → after_answers Joins now ms ≡ ms
  unfolding after_answers
  empty_stays now [] h = refl
  empty_stays now (m ∷ ms) h = absurd (false≢true h)

  module _ (now started : ℕ) (phase : Phase) (leader : Option (List ℕ)) (g : Group) (e : Effects) (lead : IsLead g.leader g.members leader) where
    abbrev pub changed : Group
    changed = record g { phase = phase; started = started; leader = leader; members = map f g.members }

    swapped : Turn → Turn
    swapped t = record t { group = record t.group { started = started; members = after_answers Joins now (map f g.members) } }

    alike_empty : is_empty g.members ≡ true → complete_join now (turned changed e) ≡ swapped (complete_join now (turned g e))
    unfolding complete_join emptied emptied_command swapped
    alike_empty none =
        let gone : Turn = emptied now (turned changed e) in
        ap (λ b. if b then emptied now (turned changed e) else reply_to_joins now (turned (init_next_generation changed) e)) (empty_alike f g.members ∙ none)
        ∙ ap (λ ms. record gone { group = record gone.group { members = ms } }) (sym (empty_stays now (map f g.members) (empty_alike f g.members ∙ none)))
        ∙ ap swapped (sym (ap (λ b. if b then emptied now (turned g e) else reply_to_joins now (turned (init_next_generation g) e)) none))

    alike_told : is_empty g.members ≡ false → complete_join now (turned changed e) ≡ swapped (complete_join now (turned g e))
    unfolding complete_join reply_to_joins init_next_generation next_leader joined_reply joined_members swapped
    alike_told some =
        let replies : Option (List ℕ) → Option (List ℕ) → List (Ticket × Reply) = λ p l. answers Joins (joined_reply (record (init_next_generation changed) { protocol = p; leader = l })) (map f g.members) in
        let made : Option (List ℕ) → Option (List ℕ) → List (Ticket × Reply) → Turn = λ p l rs.
        record { group = record (init_next_generation changed) { protocol = p; leader = l; members = after_answers Joins now (map f g.members) }; replies = e.replies ++ rs; commands = e.commands } in
        ap (λ b. if b then emptied now (turned changed e) else reply_to_joins now (turned (init_next_generation changed) e)) (empty_alike f g.members ∙ some)
        ∙ ap (λ p. made p (next_leader changed) (replies p (next_leader changed))) (elected_alike g.members)
        ∙ ap (λ l. made (select_protocol g.members) l (replies (select_protocol g.members) l)) (leader_alike g leader lead)
        ∙ ap (made (select_protocol g.members) (next_leader g)) (answers_alike (init_next_generation g) (joined_reply (record (init_next_generation g) { members = map f g.members })) (reply_alike (init_next_generation g)) g.members)
        ∙ ap swapped (sym (ap (λ b. if b then emptied now (turned g e) else reply_to_joins now (turned (init_next_generation g) e)) some))

    -- a rebalance of members that differ in nothing that it reads, where a leader that is none of them may be gone
    pub completed_alike : (after : Effects) (r : Round) → complete_join now (turned g e) ≡ turned (rounded now (Some r) g) after → complete_join now (turned changed e) ≡ turned (rounded now (Some r) changed) after
    unfolding swapped
    completed_alike after r by =
        (elim (is_empty g.members) as (λ b. is_empty g.members ≡ b → complete_join now (turned changed e) ≡ swapped (complete_join now (turned g e))) [ true ↦ alike_empty | false ↦ alike_told ]) refl
        ∙ ap swapped by
