use Rattle.std.proofs.Common.{◌≡◌, get_or, ◌∙◌, arith, rules}
use Rattle.std.specs.List.{insert}
use Rattle.cg_fold.proofs.KeyOrder.{partition_total}
use Rattle.cg_fold.proofs.Put.{put_over, put_between, put_keeps_order}
use Rattle.cg_fold.proofs.rows.put_row.Goals as goal

pub insert-requires : goal.insert-requires
insert-requires c = omega (arith, c.place-at.ensures.within, c.deref.ensures.len)

pub returns-then-is_at-clause-rows : goal.returns-then-is_at-clause-rows
returns-then-is_at-clause-rows c =
    let found : c.index_mut.result.now ≡ get_or c.args.rows.now.items c.place-at.result c.index_mut.result.now = search rules in
    put_over partition_total c.args.rows.now.items c.deref.result.now c.deref-2.result.now c.place-at.result c.args.row.0 c.args.row.1 c.index_mut.result.now
    c.deref.ensures.value c.deref-2.ensures.value c.place-at.ensures.value c.if-is_at.ensures.own found

pub returns-then-is_at-clause-sorted : goal.returns-then-is_at-clause-sorted
returns-then-is_at-clause-sorted c = put_keeps_order partition_total c.args.row.0 c.args.row.1 c.args.rows.now.items _ (returns-then-is_at-clause-rows c) c.requires.sorted

pub returns-else-is_at-clause-rows : goal.returns-else-is_at-clause-rows
returns-else-is_at-clause-rows c =
    let inserted : c.insert.new.self.items ≡ insert c.args.rows.now.items c.place-at.result (c.args.row.0, c.args.row.1) = search rules in
    inserted ∙ put_between partition_total c.args.rows.now.items c.deref.result.now c.deref-2.result.now c.place-at.result c.args.row.0 c.args.row.1
    c.deref.ensures.value c.deref-2.ensures.value c.place-at.ensures.value c.if-is_at.ensures.other

pub returns-else-is_at-clause-sorted : goal.returns-else-is_at-clause-sorted
returns-else-is_at-clause-sorted c = put_keeps_order partition_total c.args.row.0 c.args.row.1 c.args.rows.now.items _ (returns-else-is_at-clause-rows c) c.requires.sorted
