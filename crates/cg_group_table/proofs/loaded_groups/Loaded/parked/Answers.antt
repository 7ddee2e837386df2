use Rattle.std.proofs.Common.{rules, tests, List, sym, ap, ◌∙◌}
use Rattle.std.proofs.lemmas.Iterator.{YieldsList-from_slice}
use Rattle.std.proofs.lemmas.Iterator.Adapters.{YieldsList-from_flat_map, option_map_id}
use Rattle.std.proofs.lemmas.Iterator.Consumers.{nth_from_yields_List, YieldsList-from_filter_map, YieldsList-at, YieldsList-from_rest}
use Rattle.std.specs.Prelude.{slice_get}
use Rattle.std.specs.List.{filter_map, flat_map}
use Rattle.cg_group_state.specs.declared.group.Group.{Group}
use Rattle.cg_group_state.specs.Waiting.{waiting_calls, called}
use Rattle.cg_group_state.specs.declared.calls.Calls.TheVariants.{Any}
use Rattle.cg_group_table.proofs.loaded_groups.Loaded.parked.Goals as goal

pub returns : goal.returns
unfolding waiting_calls
returns c =
    sym (option_map_id c.nth.result)
    ∙ nth_from_yields_List c.nth.result _ c.args.i c.nth.ensures.ran
    (YieldsList-from_filter_map _ (λ m. called Any m.waits)
    (YieldsList-at c.filter_map.ensures.source
    (YieldsList-from_flat_map _ _ _ (λ m. m.now) (λ (g : Group). g.members) _ (λ x u q k. (search (rules, tests), λ j e. YieldsList-from_slice x.now.members (search (rules, tests)))) (YieldsList-at c.flat_map.ensures.source (YieldsList-from_rest _ c.values.ensures.rest)) c.flat_map.ensures.closure c.flat_map.ensures.front c.flat_map.ensures.back c.flat_map.ensures.done))
    c.filter_map.ensures.closure (λ x r q k. search (rules, tests)))
    ∙ ap (λ (gs : List Group). slice_get (filter_map (λ m. called Any m.waits) (flat_map (λ g. g.members) gs)) c.args.i) c.self.view_is
