-- Calls that are undone, the last one first.
use Rattle.std.proofs.Common.{◌≡◌, ℕ, Bool, true, false, List, [], ◌∷◌, ◌++◌, sym, ◌∙◌, ap, append_assoc}
use Rattle.std.specs.List.{list_all}
use Rattle.std.proofs.Math.Bool.{and-true}
use Rattle.std.proofs.lemmas.Bool.{and_parts}
use Rattle.std.proofs.lemmas.List.Folds.{list_all-append}
use Rattle.cg_disk.specs.Record.{GoesBack, GoesBackToSync, before_call, is_unsynced, is_unsynced_call}
use Rattle.cg_disk.specs.declared.record.Call.{Call}
use Rattle.cg_disk.specs.declared.record.Call.TheVariants.{Sync}
use Rattle.cg_disk.proofs.Recorded.{is_unsynced-append}

-- one more undone call
pub GoesBack-further : (bytes b b' : List ℕ) (calls cs cs' : List Call) (call : Call) → GoesBack bytes calls b cs → cs ≡ cs' ++ call ∷ [] → is_unsynced_call call ≡ true → b' ≡ before_call call b → GoesBack bytes calls b' cs'
GoesBack-further bytes b b' calls cs cs' call back last unsynced is = record {
  undone_calls = call ∷ back.undone_calls;
  split = back.split ∙ ap (λ (l : List Call). l ++ back.undone_calls) last ∙ append_assoc cs' (call ∷ []) back.undone_calls;
  undoes = is ∙ ap (before_call call) back.undoes;
  no_sync = rw unsynced back.no_sync;
}

-- back to a sync
pub GoesBackToSync-sync : (bytes b : List ℕ) (calls cs cs' : List Call) → GoesBack bytes calls b cs → cs ≡ cs' ++ Sync ∷ [] → GoesBackToSync bytes calls b
GoesBackToSync-sync bytes b calls cs cs' back last = record {
  now_calls = cs;
  back = back;
  synced = λ s. ap (λ (l : List Call). is_unsynced l s false) last ∙ is_unsynced-append cs' (Sync ∷ []) s false;
}

-- a property of all calls holds for the last one and for those before it
pub within-last : (p : Call → Bool) (cs cs' : List Call) (call : Call) → list_all p cs ≡ true → cs ≡ cs' ++ call ∷ [] → (list_all p cs' ≡ true) × (p call ≡ true)
within-last p cs cs' call all last = and_parts (list_all p cs') (p call) (rw (list_all-append p cs' (call ∷ []), and-true (p call)) at (ap (list_all p) (sym last) ∙ all))
