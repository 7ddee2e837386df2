use Rattle.std.proofs.Common.{◌≡◌, [], true, refl, map, subst}
use Rattle.clap.specs.Words.{App, HasKind, HasMatchesOf, fault_of, is_simple, is_simple_and_free}
use Rattle.cg_server.specs.CommandLine.{rows_in, server_app}
use Rattle.cg_server.proofs.Asked.{fails_by}
use Rattle.cg_server.proofs.command_line.matched.Goals as goal

pub returns-clause-rows : goal.returns-clause-rows
unfolding rows_in
returns-clause-rows g c =
    let simple : is_simple server_app ≡ true = refl in
    let has = subst (λ (a : App). HasMatchesOf a (map g.S.AsStr.text c.args.words.now) c.in_ok-matches.matches) c.in_ok-command.ensures c.in_ok-matches.ensures.matches in
    (has simple).0

pub returns-clause-fails : goal.returns-clause-fails
returns-clause-fails g c =
    let free : is_simple_and_free server_app ≡ true = refl in
    subst (λ (a : App). is_simple_and_free a ≡ true → fault_of a (map g.S.AsStr.text c.args.words.now) ≡ []) c.in_ok-command.ensures c.in_ok-matches.ensures.kinds free

pub returns-in_err-matches-clause-fails : goal.returns-in_err-matches-clause-fails
returns-in_err-matches-clause-fails g c =
    let free : is_simple_and_free server_app ≡ true = refl in
    let words = map g.S.AsStr.text c.args.words.now in
    let has = subst (λ (a : App). is_simple_and_free a ≡ true → HasKind (fault_of a words) c.in_err-matches.field-0.0) c.in_ok-command.ensures c.in_err-matches.ensures.kinds free in
    fails_by c.from_residual-in_err-matches.result (fault_of server_app words) c.in_err-matches.field-0.0 c.from_residual-in_err-matches.ensures.1 has
