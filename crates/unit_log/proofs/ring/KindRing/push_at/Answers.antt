use Rattle.std.proofs.Common.{◌≡◌, ◌%◌, length, refl, sym, ap, ◌∙◌, subst}
use Rattle.unit_model.specs.Base.{most_kept}
use Rattle.unit_log.specs.Slots.{Ringed}
use Rattle.unit_log.proofs.Slots.{slots_more, calm_more}
use Rattle.unit_log.proofs.ring.KindRing.push_at.Goals as goal

pub invariant_of-self : goal.invariant_of-self
invariant_of-self c =
    let u = c.self.inside in
    let at = subst (λ (r : Ringed). c.args.index ≡ length r.kinds % most_kept) (sym c.self.view_is) c.requires.index in
    record {
      slots_are = slots_more u.len u.slots.items u.all.items c.args.kind c.self.invariant.slots_are _ _ _ _ refl
          (at ∙ ap (λ n. n % most_kept) (sym c.self.invariant.slots_are.counted)) c.put.ensures.items c.push.ensures;
      calm_from = calm_more u.len u.calm _ u.all.items _ c.args.kind c.self.invariant.slots_are.counted c.self.invariant.calm_from c.calm_with-self-inside.ensures c.push.ensures;
    }
