-- At most 64 tasks of a unit are alive.
use Rattle.std.proofs.Common.{◌≤◌, true, false, cond, List, [], ◌∷◌, length, arith, suc}
use Rattle.std.proofs.lemmas.List.{length_push}
use Rattle.ring_core.specs.declared.log.Ticket.{Ticket}
use Rattle.unit_model.specs.Tasks.{Entry, same_ticket, without}
use Rattle.unit_model.specs.Steps.{Step, alive}
use Rattle.unit_model.specs.Contents.{Opening}
use Rattle.unit_model.specs.Lawful.{IsLawful}

length_without : (t : Ticket) (es : List Entry) → length (without t es) ≤ length es
length_without t [] = omega arith
length_without t (e ∷ es) =
    elim (same_ticket e.ticket t) as (λ b. length (cond b es (e ∷ without t es)) ≤ suc (length es)) [ true ↦ omega arith | false ↦ let h = length_without t es in omega (arith, h) ]

pub alive_few : (o : Opening) (h : List Step) → IsLawful o h → length (alive h) ≤ 64
alive_few o [] l = omega arith
alive_few o (Step.Enter e ∷ past) l = let lt = l.1.0 in omega (arith, length_push (alive past) e, lt)
alive_few o (Step.Full t ∷ past) l = alive_few o past l.0
alive_few o (Step.Resize blocks ∷ past) l = alive_few o past l.0
alive_few o (Step.Commit t r ∷ past) l = alive_few o past l.0
alive_few o (Step.Busy t ∷ past) l = alive_few o past l.0
alive_few o (Step.Abort rule ∷ past) l = alive_few o past l.0
alive_few o (Step.Reset c ∷ past) l = alive_few o past l.0
alive_few o (Step.Leave t ∷ past) l = let le = alive_few o past l.0 in omega (arith, length_without t (alive past), le)
