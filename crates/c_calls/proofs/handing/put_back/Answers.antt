use Rattle.std.proofs.Common.{◌≡◌, ◌<◌, ◌++◌, ◌∷◌, [], Some, None, length, map, sym, ap, ◌∙◌, arith, length-append}
use Rattle.std.specs.Prelude.{slice_get, slice_set}
use Rattle.std.specs.Option.{option_to_list}
use Rattle.std.proofs.lemmas.List.{append_assoc, length-map}
use Rattle.c_calls.specs.Kept.{disk_at, disks_at}
use Rattle.c_calls.proofs.Taking.{reads, map_set, behind, set_behind, one_more, none_there, end}
use Rattle.c_calls.proofs.handing.put_back.Goals as goal

pub loop-store-init : goal.loop-store-init
loop-store-init c =
    record {
      done = [];
      split = sym (end c.args.stores.items);
      are =
          none_there (disks_at c.args.disks.now) c.args.stores.items c.requires.none
          (length-map c.args.disks.now disk_at ∙ c.requires.slots)
          ∙ sym (end (map (λ s. None) c.args.stores.items));
      boxes = c.requires.boxes;
    }

pub put-requires : goal.put-requires
put-requires c =
    let rest = c.pop.new.self.items in
    let done = map (λ s. Some s) c.loop-store.invariant.done in
    let gone : c.loop-store.stores.items ≡ rest ++ c.in-Some.store ∷ [] =
    c.pop.ensures.items ∙ ap (λ r. rest ++ option_to_list r) c.in-Some.is in
    let are : disks_at c.loop-store.disks ≡ map (λ s. None) rest ++ None ∷ done =
    c.loop-store.invariant.are ∙ ap (λ ss. map (λ s. None) ss ++ done) gone ∙ one_more (λ s. None) rest c.in-Some.store done in
    let is : c.len.result ≡ length rest = omega (arith, c.len.ensures, c.pop.new.self.ok.0) in
    reads disk_at c.loop-store.disks c.len.result c.index-disks-len.result None
    (ap (λ xs. slice_get xs c.len.result) are
    ∙ ap (λ k. slice_get (map (λ s. None) rest ++ None ∷ done) k) is
    ∙ behind (λ s. None) rest None done)

pub loop-store-smaller : goal.loop-store-smaller
loop-store-smaller c =
    let rest = c.pop.new.self.items in
    let gone : c.loop-store.stores.items ≡ rest ++ c.in-Some.store ∷ [] =
    c.pop.ensures.items ∙ ap (λ r. rest ++ option_to_list r) c.in-Some.is in
    let fewer : length rest < length c.loop-store.stores.items =
    omega (arith, ap (λ ss. length ss) gone, length-append rest (c.in-Some.store ∷ [])) in
    fewer

pub loop-store-preserved : goal.loop-store-preserved
loop-store-preserved c =
    let rest = c.pop.new.self.items in
    let store = c.in-Some.store in
    let before = c.loop-store.invariant.done in
    let done = map (λ s. Some s) before in
    let gone : c.loop-store.stores.items ≡ rest ++ store ∷ [] =
    c.pop.ensures.items ∙ ap (λ r. rest ++ option_to_list r) c.in-Some.is in
    let are : disks_at c.loop-store.disks ≡ map (λ s. None) rest ++ None ∷ done =
    c.loop-store.invariant.are ∙ ap (λ ss. map (λ s. None) ss ++ done) gone ∙ one_more (λ s. None) rest store done in
    let is : c.len.result ≡ length rest = omega (arith, c.len.ensures, c.pop.new.self.ok.0) in
    let one : disk_at c.put.new.self ≡ Some store = c.put.ensures ∙ ap (λ s. Some s) c.replace.ensures.after in
    let fewer : c.loop-store.boxes.items ≡ c.pop-in-Some.new.self.items ++ c.in-Some-pop.one ∷ [] =
    c.pop-in-Some.ensures.items ∙ ap (λ r. c.pop-in-Some.new.self.items ++ option_to_list r) c.in-Some-pop.is in
    record {
      done = store ∷ before;
      split = c.loop-store.invariant.split ∙ ap (λ ss. ss ++ before) gone ∙ append_assoc rest (store ∷ []) before;
      are =
          map_set disk_at c.loop-store.disks c.len.result c.put.new.self
          ∙ ap (λ xs. slice_set xs c.len.result (disk_at c.put.new.self)) are
          ∙ ap (λ k. slice_set (map (λ s. None) rest ++ None ∷ done) k (disk_at c.put.new.self)) is
          ∙ ap (λ o. slice_set (map (λ s. None) rest ++ None ∷ done) (length rest) o) one
          ∙ set_behind (λ s. None) rest None (Some store) done;
      boxes =
          omega (
            arith,
            c.loop-store.invariant.boxes,
            ap (λ ss. length ss) gone,
            length-append rest (store ∷ []),
            ap (λ bs. length bs) fewer,
            length-append c.pop-in-Some.new.self.items (c.in-Some-pop.one ∷ []),
          );
    }
