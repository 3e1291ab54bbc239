use Rattle.std.proofs.Common.{◌≡◌, refl, ◌∙◌, ◌+◌, ◌++◌, ap, sym, length, length-append, append_assoc, arith, List, ℕ}
use Rattle.responses.proofs.InPages.{fits_so, wrote_first, wrote_more, stores_first, stores_more}
use Rattle.responses.proofs.writing.write_pages.Goals as goal

pub write-requires-clause-fits : goal.write-requires-clause-fits
write-requires-clause-fits g c =
    fits_so (g.M.Memory.extent c.args.memory.now) c.args.chain.now.memory c.new-cursor.result.parts c.args.chain.now.parts
    c.requires.fits c.new-cursor.ensures.parts c.parts-parts.ensures.fit

pub write-requires-2-clause-fits : goal.write-requires-2-clause-fits
write-requires-2-clause-fits g c =
    fits_so (g.M.Memory.extent c.write.new.memory) c.args.chain.now.memory c.write.new.self.parts c.args.chain.now.parts
    (c.write.ensures.size ∙ c.requires.fits) (c.write.ensures.parts ∙ c.new-cursor.ensures.parts) c.parts-parts.ensures.fit

pub loop-cursor-init : goal.loop-cursor-init
loop-cursor-init g c =
    let before = c.args.memory.now in
    let between = c.write.new.memory in
    let after = c.write-2.new.memory in
    let parts = c.args.chain.now.parts in
    let head = c.args.head.now in
    let first = c.args.first.now in
    let items : c.and_all-written.result.items ≡ first = c.and_all-written.ensures ∙ ap (λ (l : List ℕ). l ++ first) c.new.ensures in
    let there : c.write.new.self.at ≡ length head = omega (arith, c.write.ensures.at, c.new-cursor.ensures.start) in
    let whole : head ++ first ≡ head ++ c.and_all-written.result.items = ap (λ (l : List ℕ). head ++ l) (sym items) in
    let same : c.write.new.self.parts ≡ parts = c.write.ensures.parts ∙ c.new-cursor.ensures.parts in
    record {
      split = ap (λ (l : List ℕ). l ++ c.args.rest) (sym items);
      parts = c.write-2.ensures.parts ∙ same;
      at = omega (arith, c.write-2.ensures.at, there, length-append head first) ∙ ap length whole;
      done = wrote_more (g.M.Memory.may_be before) (g.M.Memory.may_be between) (g.M.Memory.may_be after) (g.M.Memory.extent before) parts
          c.write.new.self.parts c.write.new.self.at head first (head ++ c.and_all-written.result.items) (g.met.M.Memory.sized before)
          (fits_so (g.M.Memory.extent before) c.args.chain.now.memory parts parts c.requires.fits refl c.parts-parts.ensures.fit)
          same there whole
          (wrote_first (g.M.Memory.may_be before) (g.M.Memory.may_be between) parts c.new-cursor.result.parts c.new-cursor.result.at head
          c.new-cursor.ensures.parts c.new-cursor.ensures.start c.write.ensures.memory)
          c.write-2.ensures.memory;
      stores = stores_more g.M.Memory.storing g.met.M.Memory.both (g.M.Memory.stored before) (g.M.Memory.stored between)
          (g.M.Memory.stored after) parts c.write.new.self.parts c.write.new.self.at head first (head ++ c.and_all-written.result.items)
          same there whole
          (stores_first g.M.Memory.storing g.met.M.Memory.both (g.M.Memory.stored before) (g.M.Memory.stored between) parts
          c.new-cursor.result.parts c.new-cursor.result.at head c.new-cursor.ensures.parts c.new-cursor.ensures.start c.write.ensures.stores)
          c.write-2.ensures.stores;
      size = c.write-2.ensures.size ∙ c.write.ensures.size;
    }

pub write-requires-in-loop-cursor-clause-fits : goal.write-requires-in-loop-cursor-clause-fits
write-requires-in-loop-cursor-clause-fits g c =
    fits_so (g.M.Memory.extent c.loop-cursor.memory) c.args.chain.now.memory c.loop-cursor.cursor.parts c.args.chain.now.parts
    (c.loop-cursor.invariant.size ∙ c.requires.fits) c.loop-cursor.invariant.parts c.parts-parts.ensures.fit

pub loop-cursor-preserved : goal.loop-cursor-preserved
loop-cursor-preserved g c =
    let before = c.args.memory.now in
    let between = c.loop-cursor.memory in
    let after = c.write-in-loop-cursor.new.memory in
    let parts = c.args.chain.now.parts in
    let head = c.args.head.now in
    let items = c.loop-cursor.written.items in
    let page = c.take_page-page.result.now in
    let rest = c.take_page-page.new.self in
    let i = c.loop-cursor.invariant in
    let more = c.extend_from_slice.new.self.items in
    let whole : (head ++ items) ++ page ≡ head ++ more =
    append_assoc head items page ∙ ap (λ (l : List ℕ). head ++ l) (sym c.extend_from_slice.ensures) in
    record {
      split = i.split ∙ ap (λ (l : List ℕ). items ++ l) c.take_page-page.ensures.split ∙ sym (append_assoc items page rest)
          ∙ ap (λ (l : List ℕ). l ++ rest) (sym c.extend_from_slice.ensures);
      parts = c.write-in-loop-cursor.ensures.parts ∙ i.parts;
      at = omega (arith, c.write-in-loop-cursor.ensures.at, i.at, length-append (head ++ items) page) ∙ ap length whole;
      done = wrote_more (g.M.Memory.may_be before) (g.M.Memory.may_be between) (g.M.Memory.may_be after) (g.M.Memory.extent before) parts
          c.loop-cursor.cursor.parts c.loop-cursor.cursor.at (head ++ items) page (head ++ more) (g.met.M.Memory.sized before)
          (fits_so (g.M.Memory.extent before) c.args.chain.now.memory parts parts c.requires.fits refl c.parts-parts.ensures.fit)
          i.parts i.at whole i.done c.write-in-loop-cursor.ensures.memory;
      stores = stores_more g.M.Memory.storing g.met.M.Memory.both (g.M.Memory.stored before) (g.M.Memory.stored between)
          (g.M.Memory.stored after) parts c.loop-cursor.cursor.parts c.loop-cursor.cursor.at (head ++ items) page (head ++ more)
          i.parts i.at whole i.stores c.write-in-loop-cursor.ensures.stores;
      size = c.write-in-loop-cursor.ensures.size ∙ i.size;
    }
