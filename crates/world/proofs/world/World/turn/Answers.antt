use Rattle.std.proofs.Common.{List, ℕ, false, refl, sym, subst}
use Rattle.guest_mem.specs.Stores.{all_stored}
use Rattle.device_steps.specs.Apart.{standing, Stored}
use Rattle.device_steps.specs.Sound.{IsWhole}
use Rattle.device_steps.specs.Inner.Cursors.{NoneBefore}
use Rattle.device_steps.specs.Settling.{asks}
use Rattle.device_steps.proofs.InMemory.{sound_own, has_few}
use Rattle.world.proofs.OwnTurn.{next_own}
use Rattle.world.proofs.Reaching.{steady_by_next}
use Rattle.world.proofs.world.World.turn.Goals as goal

pub turn-requires : goal.turn-requires
turn-requires c =
    let m = c.self.inside.memory in
    let d = c.self.inside.device in
    let w = standing false m d in
    let before = subst (NoneBefore c.args.cursor) (sym c.self.view_is) c.requires.before in
    record {
      most = c.requires.most;
      room = tt;
      ready = record {
        reading = tt;
        some = (m, refl);
        whole = λ k is. subst (λ z. IsWhole (standing false z d)) (sym is) c.self.invariant.whole;
        sound = sound_own m d (c.all_are_sound.ensures w c.self.invariant.whole.reached);
        fits = c.self.invariant.fits;
        few = has_few false m d c.self.invariant.whole.few;
      };
      before = λ k is. subst (λ z. NoneBefore c.args.cursor (standing false z d)) (sym is) before;
    }

pub returns : goal.returns
returns c =
    rw (← c.self.view_is)
    (next_own (Stored (λ (m : List ℕ). m) all_stored) (asks c.args.queues) c.args.most c.self.inside.memory c.self.inside.device c.turn.result c.turn.new.memory
    c.turn.new.self c.turn.ensures.turns)

pub invariant_of-self : goal.invariant_of-self
invariant_of-self c =
    steady_by_next (asks c.args.queues) c.args.most (standing false c.self.inside.memory c.self.inside.device) c.turn.result
    (standing false c.turn.new.memory c.turn.new.self) c.turn.ensures.size c.self.invariant
    (next_own (Stored (λ (m : List ℕ). m) all_stored) (asks c.args.queues) c.args.most c.self.inside.memory c.self.inside.device c.turn.result c.turn.new.memory
    c.turn.new.self c.turn.ensures.turns)
