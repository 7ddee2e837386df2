-- What a server printed, put together from what its parts printed.
use Rattle.std.proofs.Common.{◌≡◌, ◌⊎◌, inl, inr, ℕ, Bool, true, false, List, [], ◌∷◌, ◌++◌, flat_map, Option, Result, Ok, Err, is_ok, refl, sym, subst, ap, ◌∙◌, append_assoc, append-nil}
use Rattle.std.proofs.lemmas.Bool.{false≢true}
use Rattle.std.specs.Io.KnownBytes.{Appends}
use Rattle.clap.specs.Words.{HasKind, Kinds, kind_of}
use Rattle.clap.specs.declared.error.Error.{Error}
use Rattle.clap.specs.declared.error.kind.ErrorKind.{ErrorKind}
use Rattle.clap.specs.declared.error.kind.ErrorKind.TheVariants as kind
use Rattle.cg_server.specs.Ending.{AreStatuses, Broke, Closes, Ends, EndsSomehow, IsAccount, IsAlarm, IsNotice, IsReport, PrintsAll, Refuses, RefusesWords, TellsStatuses, closed_text, listening_text, loaded_text, status_of, status_text, stop_text}
use Rattle.cg_server.specs.declared.status.Status.{Status}
use Rattle.cg_server.specs.declared.stop.Stop.{Stop}
use Rattle.cg_server.specs.declared.stop.Stop.TheVariants as stop
use Rattle.cg_server.specs.declared.stop.ServerEnd.{ServerEnd}
use Rattle.cg_server.specs.declared.stop.ServerEnd.TheVariants as end
use Rattle.cg_server.proofs.Written.{appends_then}

pub report_then : (a b c : Option (List ℕ)) (found : ℕ × ℕ × ℕ) (end : ServerEnd) (notice : List ℕ) → Appends a b (loaded_text found) → IsNotice end notice → Appends b c notice
    → (said : List ℕ) × IsReport end said × Appends a c said
report_then a b c found end notice loaded is more = (loaded_text found ++ notice, (found, notice, is, refl), appends_then a b c _ _ loaded more)

-- no status
pub no_statuses : AreStatuses []
no_statuses = ([], refl)

-- one status after the other
statuses_append : (xs ys : List Status) → flat_map status_text (xs ++ ys) ≡ flat_map status_text xs ++ flat_map status_text ys
statuses_append [] ys = refl
statuses_append (x ∷ xs) ys = ap (λ l. status_text x ++ l) (statuses_append xs ys) ∙ sym (append_assoc (status_text x) (flat_map status_text xs) (flat_map status_text ys))

pub statuses_then : (a b c : Option (List ℕ)) (xs ys : List ℕ) → AreStatuses xs → Appends a b xs → AreStatuses ys → Appends b c ys
    → (said : List ℕ) × AreStatuses said × Appends a c said
statuses_then a b c xs ys (first, is) before (second, is_too) more =
    (xs ++ ys, (first ++ second, ap (λ l. l ++ ys) is ∙ ap (λ l. flat_map status_text first ++ l) is_too ∙ sym (statuses_append first second)), appends_then a b c xs ys before more)

-- a status by itself
pub one_status : (s : Status) → AreStatuses (status_text s)
one_status s = (s ∷ [], sym (append-nil (status_text s)))

-- one status was printed, or nothing
pub tells_one : (a b : Option (List ℕ)) (s : Status) → Appends a b (status_text s) ⊎ Appends a b [] → (said : List ℕ) × AreStatuses said × Appends a b said
tells_one a b s (inl more) = (status_text s, one_status s, more)
tells_one a b s (inr nothing) = ([], no_statuses, nothing)

-- statuses, and then statuses or a line that could not be written
pub tells_then : {T : Type 0} (a b c : Option (List ℕ)) (first second : Result T Stop) → is_ok first ≡ true → TellsStatuses first a b → TellsStatuses second b c → TellsStatuses second a c
tells_then a b c (Ok u) (Ok v) is (xs, are, before) (ys, are_too, more) = statuses_then a b c xs ys are before are_too more
tells_then a b c (Ok u) (Err cause) is before write = write
tells_then a b c (Err u) second is before more = absurd (false≢true is)

pub alarm_then : (a b c : Option (List ℕ)) (before after : List ℕ) → AreStatuses before → Appends a b before → AreStatuses after
    → Appends b c (stop_text stop.Device ++ after) → (said : List ℕ) × IsAlarm said × Appends a c said
alarm_then a b c before after are first are_too more = (before ++ (stop_text stop.Device ++ after), (before, after, are, are_too, refl), appends_then a b c _ _ first more)

pub account_then : (a b c : Option (List ℕ)) (address : List ℕ) (end : ServerEnd) (report : List ℕ) → Appends a b (listening_text address) → IsReport end report → Appends b c report
    → (said : List ℕ) × IsAccount true end said × Appends a c said
account_then a b c address end report greeted is more =
    (listening_text address ++ report, (listening_text address, report, (address, refl), is, refl), appends_then a b c _ _ greeted more)

-- a disk that is only loaded
pub account_alone : (a b : Option (List ℕ)) (found : ℕ × ℕ × ℕ) → Appends a b (loaded_text found) → (said : List ℕ) × IsAccount false end.Over said × Appends a b said
account_alone a b found loaded = (loaded_text found, ([], loaded_text found, refl, (found, [], inl ([], refl), sym (append-nil (loaded_text found))), refl), loaded)

pub broke_then : (a b c : Option (List ℕ)) (text : List ℕ) (cause : Stop) → Appends a b text → Broke cause b c → Broke cause a c
broke_then a b c text cause before (inl write) = inl write
broke_then a b c text cause before (inr more) = inr (text ++ more.0, appends_then a b c _ _ before more.1)

pub all_then : (a b c : Option (List ℕ)) (listens : Bool) (said : List ℕ) (front : ℕ) → IsAccount listens end.Over said → Appends a b said → Appends b c (closed_text front) → PrintsAll listens a c
all_then a b c listens said front is before more = (said, front, is, appends_then a b c _ _ before more)

pub closes_over : (a b c : Option (List ℕ)) (listens : Bool) (e : ServerEnd) (front : ℕ) → e ≡ end.Over → (said : List ℕ) × IsAccount listens e said × Appends a b said
    → Appends b c (closed_text front) → Closes listens (Ok e) a c
closes_over a b c listens e front is served more =
    let all = subst (λ (x : ServerEnd). (said : List ℕ) × IsAccount listens x said × Appends a b said) is served in
    subst (λ (x : ServerEnd). Closes listens (Ok x) a c) (sym is) (all_then a b c listens all.0 front all.1 all.2 more)

pub closes_failed : (a b : Option (List ℕ)) (listens : Bool) (e : ServerEnd) → e ≡ end.Failed → (said : List ℕ) × IsAccount listens e said × Appends a b said → Closes listens (Ok e) a b
closes_failed a b listens e is served = subst (λ (x : ServerEnd). Closes listens (Ok x) a b) (sym is) (subst (λ (x : ServerEnd). (said : List ℕ) × IsAccount listens x said × Appends a b said) is served)

pub ends_early : (a b c : Option (List ℕ)) (listens : Bool) (cause : Stop) (status : ℕ) → Broke cause a b → Refuses cause status b c → Ends listens status a c
ends_early a b c listens cause status (inl write) (inl refused) = inr (inr (inr (refused.0 ∙ ap status_of write)))
ends_early a b c listens cause status (inr before) (inl refused) = inr (inr (inl (cause, before.0, refused.0, appends_then a b c _ _ before.1 refused.1)))
ends_early a b c listens cause status broke (inr net) = inr (inr (inr net))

-- a server that was refused before it began
pub ends_refused : (a b : Option (List ℕ)) (listens : Bool) (cause : Stop) (status : ℕ) → Refuses cause status a b → Ends listens status a b
ends_refused a b listens cause status (inl refused) = inr (inr (inl (cause, [], refused.0, refused.1)))
ends_refused a b listens cause status (inr net) = inr (inr (inr net))

pub refused_somehow : (a b : Option (List ℕ)) (cause : Stop) (status : ℕ) → Refuses cause status a b → EndsSomehow status a b
refused_somehow a b cause status refused = (false, ends_refused a b false cause status refused)

only_memory : (error : Error) → HasKind [] error → kind_of error ≡ kind.OutOfMemory
only_memory error (inl is) = is
only_memory error (inr none) = absurd none

-- words that clap takes are refused only where an allocation fails
pub refused_words : (a b : Option (List ℕ)) (kinds : Kinds) (error : Error) (status : ℕ) → kinds ≡ [] → HasKind kinds error
    → RefusesWords (kind_of error) status a b → EndsSomehow status a b
refused_words a b kinds error status none has refused = refused_somehow a b stop.Memory status
    (subst (λ (k : ErrorKind). RefusesWords k status a b) (only_memory error (subst (λ (ks : Kinds). HasKind ks error) none has)) refused)
