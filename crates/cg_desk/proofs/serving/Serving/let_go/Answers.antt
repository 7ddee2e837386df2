use Rattle.std.proofs.Common.{◌≡◌, List, true, ap, sym, ◌∙◌, rules}
use Rattle.cg_desk.specs.Books.{Served}
use Rattle.cg_desk.specs.Held.{is_waiting}
use Rattle.cg_desk.specs.Serving.{books}
use Rattle.cg_desk.specs.declared.outgoing.Outgoing.{Outgoing}
use Rattle.cg_desk.proofs.Leaving.{nothing_leaves}
use Rattle.cg_desk.proofs.serving.Serving.let_go.Goals as goal

pub returns-then-are_waiting : goal.returns-then-are_waiting
returns-then-are_waiting c =
    let waits : is_waiting c.args.self.now.settled c.args.self.now.held.items ≡ true = search rules in
    nothing_leaves (books c.args.self.now) waits
    ∙ ap (λ (out : List Outgoing). let s : Served = record { books = books c.args.self.now; out = out } in s) (sym c.requires.empty)
