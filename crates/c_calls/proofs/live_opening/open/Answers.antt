use Rattle.std.proofs.Common.{◌≡◌, ◌^◌, sym, ap, ◌∙◌, subst}
use Rattle.std.specs.Prelude.{true}
use Rattle.config.specs.Config.{is_config_for}
use Rattle.host_bus.specs.Map.{map_of}
use Rattle.live_mem.specs.Live.{bus_of}
use Rattle.device_steps.specs.Opening.{IsOpeningApart}
use Rattle.world.specs.LiveWorld.{OpensIn, BeginsIn}
use Rattle.c_calls.specs.Live.{MakesLive}
use Rattle.c_calls.proofs.Queues.{few}
use Rattle.c_calls.proofs.live_opening.open.Goals as goal

pub of-rings-requires : goal.of-rings-requires
of-rings-requires c = record { few = few _ c.args.config c.requires }

pub returns-in-Ok-new-2 : goal.returns-in-Ok-new-2
returns-in-Ok-new-2 c =
    let w = c.in-Ok-new.world in
    let memory = c.in-Ok-new.ensures.opening.1 in
    let here : w.memory.size ≡ 2 ^ 52 = ap (λ m. m.size) memory ∙ c.in-Ok.ensures.size in
    subst (λ d. MakesLive c.args.map c.args.config d) (sym c.in-Ok-new-2.ensures.ok) (record {
      over = ap (λ m. map_of (bus_of m)) memory ∙ ap map_of c.in-Ok.ensures.bus ∙ c.new.ensures;
      taken = subst (λ n. is_config_for n c.args.config ≡ true) c.in-Ok.ensures.size c.in-Ok-new.ensures.opening.0;
      size = here;
      opening = subst (λ n. IsOpeningApart n c.args.config w.device) c.in-Ok.ensures.size c.in-Ok-new.ensures.opening.2;
      opens = subst (λ n. OpensIn true n w.device) here c.in-Ok-new.ensures.opens;
      reaches = subst (λ n. BeginsIn true n w.device) here c.in-Ok-new.ensures.reaches;
      told = c.new-told.ensures;
      rings = c.of-rings.ensures;
    })
