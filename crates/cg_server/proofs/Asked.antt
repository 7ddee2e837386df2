-- What clap finds, seen as rows.
use Rattle.std.proofs.Common.{◌≡◌, ◌∙◌, ℕ, List, Option, Result, Ok, Err, ap, subst, sym, codes}
use Rattle.std.specs.Result.{IsErrAnd}
use Rattle.clap.specs.Walk.{first_of}
use Rattle.clap.specs.Words.{FailsBy, HasKind, Kinds, Text, first_value, one_of, one_text, rows_of}
use Rattle.clap.specs.declared.error.Error.{Error}
use Rattle.clap.proofs.WalkLemmas.{first_value-rows, one_text-rows}
use Rattle.clap.specs.declared.parser.matches.Found.{Found}
use Rattle.cg_server.specs.CommandLine.{AreAsked, AsksFor, HasNumbers, asked_port, port_in, rows_in}
use Rattle.cg_server.specs.Places.{ChoosesPlace, PlaceFor}
use Rattle.cg_server.specs.declared.command_line.Arguments.{Arguments}
use Rattle.cg_server.specs.declared.command_line.LogPlace.{LogPlace}

pub port_rows : (f : Found) (words : List Text) → rows_of f ≡ rows_in words → asked_port (first_value f (codes "listen")) ≡ port_in words
port_rows f words e = ap asked_port (first_value-rows f (codes "listen") ∙ ap (first_of (codes "listen")) e)

pub place_rows : (f : Found) (words : List Text) (at : LogPlace) → rows_of f ≡ rows_in words
    → PlaceFor (first_value f (codes "disk")) (one_text f (codes "overwrite")) (one_text f (codes "format")) at → ChoosesPlace words at
place_rows f words at e chosen =
    let disk = first_value-rows f (codes "disk") ∙ ap (first_of (codes "disk")) e in
    let overwrite = one_text-rows f (codes "overwrite") ∙ ap (one_of (codes "overwrite")) e in
    let format = one_text-rows f (codes "format") ∙ ap (one_of (codes "format")) e in
    subst (λ (t : Option Text). PlaceFor t (one_of (codes "overwrite") (rows_in words)) (one_of (codes "format") (rows_in words)) at) disk
    (subst (λ (t : Option Text). PlaceFor (first_value f (codes "disk")) t (one_of (codes "format") (rows_in words)) at) overwrite
    (subst (λ (t : Option Text). PlaceFor (first_value f (codes "disk")) (one_text f (codes "overwrite")) t at) format chosen))

number_rows : (f : Found) (words : List Text) (id : Text) (default number : ℕ) → rows_of f ≡ rows_in words
    → AsksFor default (one_text f id) number → AsksFor default (one_of id (rows_in words)) number
number_rows f words id default number e = subst (λ (t : Option Text). AsksFor default t number) (one_text-rows f id ∙ ap (one_of id) e)

pub numbers_rows : (f : Found) (words : List Text) (a : Arguments) → rows_of f ≡ rows_in words → HasNumbers (one_text f) a → AreAsked words a
numbers_rows f words a e (segments, tick, free, status) =
    (number_rows f words (codes "segments") _ _ e segments, number_rows f words (codes "tick-ms") _ _ e tick, number_rows f words (codes "compact-free") _ _ e free, number_rows f words (codes "status-seconds") _ _ e status)

-- an error that has one of these kinds
pub fails_by : {T : Type 0} (r : Result T Error) (kinds : Kinds) (error : Error) → IsErrAnd r (λ e. e ≡ error) → HasKind kinds error → FailsBy kinds r
fails_by (Ok taken) kinds error is has = absurd is
fails_by (Err e) kinds error is has = subst (λ (e : Error). HasKind kinds e) (sym is) has
