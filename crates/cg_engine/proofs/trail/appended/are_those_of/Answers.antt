use Rattle.std.proofs.Common.{◌≡◌, ◌∙◌, Ok, ap, sym, rules}
use Rattle.cg_record.specs.Reading.{commands_of}
use Rattle.cg_record.specs.Spelling.{spelling}
use Rattle.cg_engine.proofs.trail.appended.are_those_of.Goals as goal

pub returns : goal.returns
returns c =
    let one = c.in_ok-encoded.ensures in
    let two = c.as_bytes.ensures in (
      (λ is.
          let bytes : c.as_slice.result.now ≡ c.as_bytes.result.now = search rules in
          let both : Ok c.args.commands.now ≡ Ok c.args.batch.now = sym one.reads_back ∙ ap commands_of (sym c.as_slice.ensures.value ∙ bytes) ∙ two.decoded in
          cc),
      (λ same.
          let bytes : c.as_slice.result.now ≡ c.as_bytes.result.now = c.as_slice.ensures.value ∙ one.spelled ∙ ap spelling same ∙ sym two.spelled in
          search rules),
    )
