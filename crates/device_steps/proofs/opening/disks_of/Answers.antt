use Rattle.std.proofs.Common.{◌≡◌, ◌++◌, ◌∷◌, [], length, sym, ap, ◌∙◌, subst, arith, length-append}
use Rattle.std.specs.Option.{option_to_list}
use Rattle.std.specs.Vec.Iter.{into_iter_items}
use Rattle.std.proofs.lemmas.List.{append_assoc}
use Rattle.device_steps.specs.Opening.{AreDisksOf}
use Rattle.device_steps.proofs.Making.{disks_more}
use Rattle.device_steps.proofs.opening.disks_of.Goals as goal

pub loop-unit-preserved : goal.loop-unit-preserved
loop-unit-preserved c =
    let seen = c.loop-unit.invariant.seen in
    let u = c.in-Some.unit in
    let gone : into_iter_items c.loop-unit.units ≡ u ∷ into_iter_items c.next.new.self =
    c.next.ensures.items ∙ ap (λ r. option_to_list r ++ into_iter_items c.next.new.self) c.in-Some.is in
    record {
      seen = seen ++ u ∷ [];
      split = c.loop-unit.invariant.split ∙ ap (λ us. seen ++ us) gone ∙ sym (append_assoc seen (u ∷ []) (into_iter_items c.next.new.self));
      kept = subst (λ ds. AreDisksOf (seen ++ u ∷ []) ds) (sym c.push_reserved.ensures.items)
          (disks_more seen c.loop-unit.disks.items u c.into_disk.result c.loop-unit.invariant.kept c.into_disk.ensures);
      room =
          omega (
            arith,
            c.loop-unit.invariant.room,
            c.in-Some.ensures.cases.1,
            c.push_reserved.ensures.capacity,
            ap (λ ds. length ds) c.push_reserved.ensures.items,
            length-append c.loop-unit.disks.items (c.into_disk.result ∷ []),
          );
    }
