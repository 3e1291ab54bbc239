use Rattle.std.proofs.Common.{◌≡◌, ◌<◌, ◌++◌, ◌∷◌, [], Some, None, length, map, sym, ap, ◌∙◌, subst, arith, length-append}
use Rattle.std.specs.Prelude.{slice_get, slice_set, slice_index_or}
use Rattle.std.proofs.lemmas.List.{length-map}
use Rattle.c_calls.specs.Kept.{disk_at, disks_at}
use Rattle.c_calls.proofs.Taking.{Taken, reads, map_set, set_length, next_there, take_next}
use Rattle.c_calls.proofs.handing.take_out.Goals as goal

clash : {X : Type 0} {x : X} → Some x ≡ None → ⊥
clash e = cc

pub unreachable-requires : goal.unreachable-requires
unreachable-requires c =
    let disks = c.loop-unit_index.disks in
    let stores = c.loop-unit_index.stores.items in
    let before : length stores < length (disks_at disks) =
    omega (arith, c.loop-unit_index.invariant.many, c.loop-unit_index.invariant.all, c.loop-unit_index-test.true, length-map disks disk_at) in
    let next = next_there _ _ stores c.loop-unit_index.invariant.taken before in
    let at : slice_get (disks_at disks) c.loop-unit_index.unit_index ≡ Some (Some next.0) =
    ap (λ k. slice_get (disks_at disks) k) (sym c.loop-unit_index.invariant.many) ∙ next.1 in
    clash (sym (reads disk_at disks c.loop-unit_index.unit_index c.index-disks-unit_index.result (Some next.0) at) ∙ c.in-None.ensures.taken)

pub loop-unit_index-preserved : goal.loop-unit_index-preserved
loop-unit_index-preserved c =
    let disks = c.loop-unit_index.disks in
    let stores = c.loop-unit_index.stores.items in
    let store = c.in-Some.store.value in
    let many = c.loop-unit_index.invariant.many in
    let before : length stores < length (disks_at disks) =
    omega (arith, many, c.loop-unit_index.invariant.all, c.loop-unit_index-test.true, length-map disks disk_at) in
    let next = next_there _ _ stores c.loop-unit_index.invariant.taken before in
    let there : slice_get (disks_at disks) c.loop-unit_index.unit_index ≡ Some (Some next.0) =
    ap (λ k. slice_get (disks_at disks) k) (sym many) ∙ next.1 in
    let is : Some next.0 ≡ Some store =
    sym (reads disk_at disks c.loop-unit_index.unit_index c.index-disks-unit_index.result (Some next.0) there) ∙ c.in-Some.ensures.taken in
    let at : slice_get (disks_at disks) (length stores) ≡ Some (Some store) = next.1 ∙ ap (λ o. Some o) is in
    let items : c.push_reserved.new.self.items ≡ stores ++ store ∷ [] =
    c.push_reserved.ensures.items ∙ ap (λ s. stores ++ s ∷ []) c.into_inner.ensures in
    let set : disks_at (slice_set disks c.loop-unit_index.unit_index c.take.new.self) ≡ slice_set (disks_at disks) (length stores) None =
    map_set disk_at disks c.loop-unit_index.unit_index c.take.new.self
    ∙ ap (λ k. slice_set (disks_at disks) k (disk_at c.take.new.self)) (sym many)
    ∙ ap (λ o. slice_set (disks_at disks) (length stores) o) c.take.ensures.after in
    record {
      taken =
          subst (λ xs. Taken (disks_at c.args.disks.now) xs c.push_reserved.new.self.items) (sym set)
          (subst (λ ys. Taken (disks_at c.args.disks.now) (slice_set (disks_at disks) (length stores) None) ys) (sym items)
          (take_next _ _ stores c.loop-unit_index.invariant.taken store at));
      many = omega (arith, many, ap (λ xs. length xs) items, length-append stores (store ∷ []));
      all = c.loop-unit_index.invariant.all ∙ sym (set_length disks c.loop-unit_index.unit_index c.take.new.self);
      room =
          omega (
            arith,
            c.loop-unit_index.invariant.room,
            c.push_reserved.ensures.capacity,
            set_length disks c.loop-unit_index.unit_index c.take.new.self,
          );
    }
