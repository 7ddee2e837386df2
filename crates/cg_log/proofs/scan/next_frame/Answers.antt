use Rattle.cg_log.proofs.scan.next_frame.Goals as goal

pub scan-requires-clause-on_disk : goal.scan-requires-clause-on_disk
scan-requires-clause-on_disk g c = rw c.segment.ensures.segment (c.segment.ensures.on_disk (g.D.SectorDisk.size c.args.disk.now) c.requires.on_disk)
