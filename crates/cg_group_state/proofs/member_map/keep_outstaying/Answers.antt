use Rattle.std.proofs.Common.{◌≡◌, ℕ, List, filter, rules}
use Rattle.indexmap.proofs.CallerLemmas.{filter-RetainsPairs}
use Rattle.cg_group_state.specs.declared.member.Member.{Member}
use Rattle.cg_group_state.specs.Staying.{outstays}
use Rattle.cg_group_state.proofs.Keyed.{kept_keys, kept_values}
use Rattle.cg_group_state.proofs.member_map.keep_outstaying.Goals as goal

kept : (c : goal.After-retain) → c.retain.new.self.entries ≡ filter (λ (e : List ℕ × Member). outstays e.1) c.args.members.now.entries
kept c = filter-RetainsPairs _ (λ (e : List ℕ × Member). outstays e.1) _ (λ k v b w g call. search rules) _ _ c.retain.ensures.filtered

pub returns-clause-keyed : goal.returns-clause-keyed
returns-clause-keyed c = kept_keys (λ m. outstays m) c.args.members.now.entries c.retain.new.self.entries (kept c) c.requires.keyed

pub returns-clause-kept : goal.returns-clause-kept
returns-clause-kept c = kept_values (λ m. outstays m) c.args.members.now.entries c.retain.new.self.entries (kept c)
