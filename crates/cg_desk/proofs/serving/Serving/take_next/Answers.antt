use Rattle.std.proofs.Common.{◌≡◌, ◌+◌, [], sym, ap, ◌∙◌, rules}
use Rattle.cg_desk.specs.Books.{next_batch}
use Rattle.cg_desk.specs.Flights.{Course, Idle, Away, course_of}
use Rattle.cg_desk.specs.Queues.{commands_of}
use Rattle.cg_desk.specs.Serving.{books}
use Rattle.cg_desk.proofs.Taken.{idle, taken_again, taken_new}
use Rattle.cg_desk.proofs.serving.Serving.take_next.Goals as goal

pub returns-in-Some-clause-ok : goal.returns-in-Some-clause-ok
returns-in-Some-clause-ok c =
    let is = c.in-Some.ensures.batch in (
      sym (c.in-Some.ensures.first (c.args.self.now.settled + 1)) ∙ c.args.self.now.first,
      ap (λ (k : Course). next_batch k (commands_of c.args.self.now.queue)) (sym is),
      taken_again (books c.args.self.now) c.in-Some.batch.commands (course_of c.leave_again.new.flight) is c.in-Some.ensures.flight,
    )

pub returns-in-Some-2-clause-ok : goal.returns-in-Some-2-clause-ok
returns-in-Some-2-clause-ok c =
    let home : course_of c.args.self.now.flight ≡ Idle = idle (course_of c.args.self.now.flight) c.requires (search rules) in
    let made = rw c.in-Some-2.is at c.in_ok-take_front.ensures.batch in (
      made.0,
      made.1 ∙ ap (λ (k : Course). next_batch k (commands_of c.args.self.now.queue)) (sym home),
      taken_new (books c.args.self.now) (Away c.in-Some-2.taken.1) (commands_of c.take_front.new.queue) home (ap Away made.2) (search rules),
    )

pub returns-in-None-clause-ok : goal.returns-in-None-clause-ok
returns-in-None-clause-ok c =
    let home : course_of c.args.self.now.flight ≡ Idle = idle (course_of c.args.self.now.flight) c.requires (search rules) in
    let none : commands_of c.args.self.now.queue ≡ [] = search rules in
    (home, none, search rules)
