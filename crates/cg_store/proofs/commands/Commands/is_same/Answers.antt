use Rattle.std.proofs.Common.{◌≡◌, ◌∙◌, ap, sym, rules}
use Rattle.cg_record.specs.Spelling.{spelling}
use Rattle.cg_record.proofs.Longer.{commands-unique}
use Rattle.cg_store.proofs.commands.Commands.is_same.Goals as goal

pub returns : goal.returns
returns c =
    let one = c.as_bytes.ensures in
    let two = c.as_bytes-2.ensures in (
      (λ is. let bytes : c.as_bytes.result.now ≡ c.as_bytes-2.result.now = search rules in commands-unique c.args.self.now c.args.other.now one.lawful two.lawful (sym one.spelled ∙ bytes ∙ two.spelled)),
      (λ same. let bytes : c.as_bytes.result.now ≡ c.as_bytes-2.result.now = one.spelled ∙ ap spelling same ∙ sym two.spelled in search rules),
    )
