use Rattle.std.proofs.Common.{◌∙◌, ◌&&◌, Bool, ap, sym, rules}
use Rattle.block_store.specs.Storage.{Storage, opening}
use Rattle.backed_store.specs.Caches.{state_at, bytes_at}
use Rattle.backed_store.specs.Stores.{backing_of}
use Rattle.backed_store.specs.Noted.{is_noted}
use Rattle.backed_store.proofs.CutOff.{cut-stored, page-below, still-denied}
use Rattle.backed_store.proofs.Parted.{stored}
use Rattle.backed_store.proofs.backed.BackedStore.resize.Goals as goal

pub returns-clause-blocks : goal.returns-clause-blocks
returns-clause-blocks c = λ b.
    let old = c.args.self.now in
    let cut = rw c.min-left.ensures at c.cut.ensures in
    let host = rw c.min-left.ensures at c.record.ensures.storage (opening old.content.items) in
    ap (λ (h : Storage). stored (state_at c.cut.new.self) (bytes_at c.cut.new.self) h.kept b) host
    ∙ cut-stored (state_at old.cache) (state_at c.cut.new.self) (bytes_at old.cache) (bytes_at c.cut.new.self) (backing_of old) _ cut.states cut.blocks b

pub invariant_of-self : goal.invariant_of-self
invariant_of-self c =
    let old = c.args.self.now in
    record {
      counted = search rules;
      clean = search rules;
      steady = search rules;
      lost = search rules;
      denied = λ p is.
          c.record.ensures.denied p
          ∙ still-denied p c.pages_of-end.result c.min-left.result (is_noted old.denied_pages p) _ c.pages_of-end.ensures
          (sym (c.cut-3.ensures p) ∙ is) (old.denied p);
    }

pub returns-clause-noted : goal.returns-clause-noted
returns-clause-noted c = λ p.
    let old = c.args.self.now in
    c.cut-2.ensures p
    ∙ ap (λ (t : Bool). t && is_noted old.lost_pages p) (page-below p c.pages_of-end.result c.min-left.result _ c.pages_of-end.ensures c.min-left.ensures)

pub returns-clause-noted_denied : goal.returns-clause-noted_denied
returns-clause-noted_denied c = λ p.
    let old = c.args.self.now in
    c.cut-3.ensures p
    ∙ ap (λ (t : Bool). t && is_noted old.denied_pages p) (page-below p c.pages_of-end.result c.min-left.result _ c.pages_of-end.ensures c.min-left.ensures)
