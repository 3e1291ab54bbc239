-- One thing more that was done with a disk's storage.
use Rattle.std.proofs.Common.{◌≡◌, List, [], ◌∷◌, ◌++◌, refl}
use Rattle.block_store.specs.Storage.{Storage, Dealing, Ledger, dealt, all_dealt, opening, storage_by, and_then}

pub last_dealt : (ds : List Dealing) (d : Dealing) (s : Storage) → all_dealt (ds ++ d ∷ []) s ≡ dealt d (all_dealt ds s)
last_dealt [] d s = refl
last_dealt (e ∷ more) d s = last_dealt more d (dealt e s)

pub storage_then : (d : Dealing) (l : Ledger) → storage_by (and_then d l) ≡ dealt d (storage_by l)
storage_then d l = last_dealt l.dealings d (opening l.content)
