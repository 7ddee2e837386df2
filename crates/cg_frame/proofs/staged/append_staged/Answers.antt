use Rattle.cg_frame.proofs.Encoded.{staged-frame}
use Rattle.cg_frame.proofs.Laid.{StandsLast-laid, Appended-run}
use Rattle.cg_frame.proofs.staged.append_staged.Goals as goal

pub returns-in_err-write_guarded-clause-any_moment : goal.returns-in_err-write_guarded-clause-any_moment
returns-in_err-write_guarded-clause-any_moment g c honest =
    let staged = staged-frame c.deref.result.now c.frame.inside.buffer.items c.frame.inside.count c.frame.inside.bytes c.args.frame.now c.deref.ensures.value c.frame.invariant c.frame.view_is c.requires.counted in
    Appended-run c.args.segment c.args.pos c.args.frame.now.0 c.args.frame.now.1 c.deref.result.now staged.0 c.requires.counted staged.1 c.requires.fits _ _ (c.write_guarded.ensures.any_moment honest)

pub returns-clause-any_moment : goal.returns-clause-any_moment
returns-clause-any_moment g c honest =
    let staged = staged-frame c.deref.result.now c.frame.inside.buffer.items c.frame.inside.count c.frame.inside.bytes c.args.frame.now c.deref.ensures.value c.frame.invariant c.frame.view_is c.requires.counted in
    Appended-run c.args.segment c.args.pos c.args.frame.now.0 c.args.frame.now.1 c.deref.result.now staged.0 c.requires.counted staged.1 c.requires.fits _ _ (c.write_guarded.ensures.any_moment honest)

pub returns-clause-stands : goal.returns-clause-stands
returns-clause-stands g c honest image is =
    let staged = staged-frame c.deref.result.now c.frame.inside.buffer.items c.frame.inside.count c.frame.inside.bytes c.args.frame.now c.deref.ensures.value c.frame.invariant c.frame.view_is c.requires.counted in
    StandsLast-laid c.args.segment c.args.pos c.args.frame.now.0 c.args.frame.now.1 c.deref.result.now staged.0 c.requires.counted staged.1 c.requires.fits image (c.in_ok-write_guarded.ensures.guarded honest image is)
