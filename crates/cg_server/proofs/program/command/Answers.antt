use Rattle.std.proofs.Common.{map, subst}
use Rattle.cg_server.specs.CommandLine.{faults_of}
use Rattle.cg_server.specs.Refusing.{RefusesFor}
use Rattle.cg_server.specs.declared.command_line.Refusal.{Refusal}
use Rattle.cg_server.proofs.Accounts.{refused_words}
use Rattle.cg_server.proofs.program.command.Goals as goal

pub returns-in-Err-Words-clause-serves : goal.returns-in-Err-Words-clause-serves
returns-in-Err-Words-clause-serves g c = λ none _.
    let kinds = faults_of (map g.S.AsStr.text c.args.words.now) in
    let has = subst (λ (r : Refusal). RefusesFor kinds r) c.in-Err-Words.field-0-is c.in-Err-Words.ensures.refuses in
    refused_words _ _ kinds c.in-Err-Words.error _ none has c.refuse_words.ensures
