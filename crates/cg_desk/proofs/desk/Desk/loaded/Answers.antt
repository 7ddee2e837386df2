use Rattle.cg_desk.proofs.Keeping.{loaded-stays}
use Rattle.cg_desk.proofs.desk.Desk.loaded.Goals as goal

pub invariant_of-self : goal.invariant_of-self
invariant_of-self c = record {
  balanced = loaded-stays c.args.number c.args.durable c.args.now c.in_ok-groups.groups c.new-serving.result c.replace.new.dest c.requires.lawful c.in_ok-groups.ensures.ok c.new-serving.ensures c.replace.ensures.after;
}
