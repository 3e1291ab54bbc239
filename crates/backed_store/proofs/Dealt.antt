-- One thing more that was done, and what the host's storage has by all that was.
use Rattle.std.proofs.Common.{◌≡◌, List, [], ◌∷◌, ◌++◌, map, refl, sym, ◌∙◌, ap}
use Rattle.backed_store.specs.declared.dealing.Dealing.{Dealing}
use Rattle.backed_store.specs.declared.backed.BackedStore.{BackedStore}
use Rattle.block_store.specs.Storage as storage
use Rattle.block_store.specs.Storage.{Storage, Ledger, all_dealt, dealt, and_then, opening, storage_by}
use Rattle.backed_store.specs.Backing.{plain, after, after_all}
use Rattle.backed_store.specs.Stores.{storage_of, ledger_of}

pub after-last : (ds : List Dealing) (d : Dealing) (h : Storage) → after_all (ds ++ d ∷ []) h ≡ after d (after_all ds h)
after-last [] d h = refl
after-last (e ∷ more) d h = after-last more d (after e h)

pub plain-last : (ds : List Dealing) (d : Dealing) → map plain (ds ++ d ∷ []) ≡ map plain ds ++ plain d ∷ []
plain-last [] d = refl
plain-last (e ∷ more) d = ap (λ l. plain e ∷ l) (plain-last more d)

all-plain : (ds : List Dealing) (h : Storage) → after_all ds h ≡ all_dealt (map plain ds) h
all-plain [] h = refl
all-plain (d ∷ more) h = all-plain more (after d h)

all-last : (ds : List storage.Dealing) (d : storage.Dealing) (h : Storage) → all_dealt (ds ++ d ∷ []) h ≡ dealt d (all_dealt ds h)
all-last [] d h = refl
all-last (e ∷ more) d h = all-last more d (dealt e h)

-- as its ledger says
pub by-ledger : (s : BackedStore) → storage_of s ≡ storage_by (ledger_of s)
by-ledger s = all-plain s.dealings.items (opening s.content.items)

-- and by one thing more
pub dealt-by : (old new : BackedStore) (d : storage.Dealing) → ledger_of new ≡ and_then d (ledger_of old) →
    storage_of new ≡ dealt d (storage_of old)
dealt-by old new d is =
    by-ledger new ∙ ap storage_by is ∙ all-last (ledger_of old).dealings d (opening (ledger_of old).content)
    ∙ ap (λ (h : Storage). dealt d h) (sym (by-ledger old))
