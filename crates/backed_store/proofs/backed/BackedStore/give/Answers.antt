use Rattle.std.proofs.Common.{◌≡◌, ℕ, ◌+◌, ◌*◌, IsTrue, List, length, sym, ◌∙◌, ap}
use Rattle.block_store.specs.Blocks.{nth_block}
use Rattle.block_store.specs.Storage.{Storage, with_page, opening}
use Rattle.backed_store.specs.Caches.{state_at, bytes_at}
use Rattle.backed_store.specs.Slots.{slot_at}
use Rattle.backed_store.specs.Stores.{contents, backing_of, storage_of}
use Rattle.backed_store.proofs.Over.{and-left, held-same, given-clean, given-steady, given-page, given-bytes, all-bytes, copy-page, copy-given}
use Rattle.backed_store.proofs.backed.BackedStore.give.Goals as goal

pub invariant_of-self-3 : goal.invariant_of-self-3
invariant_of-self-3 c =
    let old = c.args.self.now in
    let new = c.next_unwritten.new.self in
    let page = c.in-Some.page in
    let e = c.in-Some.ensures in
    let host = c.record.ensures.storage (opening old.content.items) in
    let there : IsTrue (state_at new page).held =
    held-same (state_at old.cache) (state_at new) (bytes_at old.cache) (bytes_at new) page e.states e.bytes page ∙ and-left _ _ e.dirty.0 in
    let copy = c.copied-bytes.ensures there in
    let size = ap length copy ∙ all-bytes (slot_at new.slots page) there in
    record {
      counted = old.counted;
      clean = λ b is.
          ap (λ (h : Storage). h.kept b) host
          ∙ given-clean (state_at old.cache) (state_at new) (bytes_at old.cache) (bytes_at new) page e.states e.bytes (backing_of old) old.clean b is;
      steady = λ b is.
          ap (λ (h : Storage). h.given b) host
          ∙ given-steady (state_at old.cache) (state_at new) (bytes_at old.cache) (bytes_at new) page e.states e.bytes (storage_of old).given c.copied-bytes.result.items
          copy size old.steady b is;
      lost = λ p is. c.record.ensures.lost p ∙ old.lost p is;
      denied = λ p is. c.record.ensures.denied p ∙ old.denied p is;
    }

pub returns-in-Given-clause-bytes : goal.returns-in-Given-clause-bytes
returns-in-Given-clause-bytes c = λ k below.
    let old = c.args.self.now in
    let new = c.next_unwritten.new.self in
    let page = c.in-Some.page in
    let e = c.in-Some.ensures in
    let was : IsTrue (state_at old.cache page).held = and-left _ _ e.dirty.0 in
    let there : IsTrue (state_at new page).held =
    held-same (state_at old.cache) (state_at new) (bytes_at old.cache) (bytes_at new) page e.states e.bytes page ∙ was in
    let copy = c.copied-bytes.ensures there ∙ e.bytes page was in
    let bytes : c.copied-bytes.result.items ≡ c.in-Given.given.bytes.items = ap given-bytes c.in-Given.is in
    let number : page ≡ c.in-Given.given.page = ap given-page c.in-Given.is in
    ap (λ (l : List ℕ). nth_block l k) (sym bytes)
    ∙ copy-page (state_at old.cache) (bytes_at old.cache) (backing_of old) c.copied-bytes.result.items page copy was k below
    ∙ ap (λ (p : ℕ). contents old (8 * p + k)) number

pub returns-in-Given-clause-given : goal.returns-in-Given-clause-given
returns-in-Given-clause-given c = λ b.
    let old = c.args.self.now in
    let new = c.next_unwritten.new.self in
    let page = c.in-Some.page in
    let e = c.in-Some.ensures in
    let host = c.record.ensures.storage (opening old.content.items) in
    let was : IsTrue (state_at old.cache page).held = and-left _ _ e.dirty.0 in
    let there : IsTrue (state_at new page).held =
    held-same (state_at old.cache) (state_at new) (bytes_at old.cache) (bytes_at new) page e.states e.bytes page ∙ was in
    let copy = c.copied-bytes.ensures there in
    let size = ap length copy ∙ all-bytes (slot_at new.slots page) there in
    let number : page ≡ c.in-Given.given.page = ap given-page c.in-Given.is in
    ap (λ (h : Storage). h.given b) host
    ∙ copy-given (state_at old.cache) (bytes_at old.cache) (backing_of old) (storage_of old).given c.copied-bytes.result.items page (copy ∙ e.bytes page was) size was b
    ∙ ap (λ (p : ℕ). with_page p (contents old) (storage_of old).given b) number
