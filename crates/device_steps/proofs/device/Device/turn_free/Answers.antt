use Rattle.std.proofs.Common.{◌≡◌, ◌<◌, refl, sym, subst, length, inl, inr}
use Rattle.device_steps.specs.Apart.{PlainDevice, standing}
use Rattle.device_model.specs.Order.{of_seat}
use Rattle.device_model.specs.Events.{Event}
use Rattle.device_steps.proofs.EachTurn.{alone_idle, alone_by, alone_taken}
use Rattle.device_steps.proofs.Stages as stages
use Rattle.device_steps.proofs.device.Device.turn_free.Goals as goal

pub put-requires : goal.put-requires
put-requires c = record { lists = c.requires.sound.1.1.room.lists }

pub take-requires : goal.take-requires
take-requires c =
    let d = c.args.self.now in
    let k = c.args.number in
    let known = c.requires.sound in
    let p = alone_idle known.0 known.1.0 d d (Event.Put k) c.put.result c.put.new.self c.if-put.false refl known.1.1
    c.put.ensures in
    let q = alone_idle known.0 known.1.0 d c.put.new.self (Event.Resume k) c.resume.result c.resume.new.self c.if-resume.false p.0
    known.1.1 c.resume.ensures in
    record {
      lists = subst (λ (z : PlainDevice). length z.handed_off ≡ length z.seats) (sym q.0) known.1.1.room.lists;
    }

pub returns-then-put : goal.returns-then-put
returns-then-put c =
    let d = c.args.self.now in
    let k = c.args.number in
    alone_taken (of_seat k) (Event.Put k) d d c.put.result c.put.new.self c.if-put.true refl tt
    (λ shared m sound a.
    let none = stages.free (standing shared m d) k c.requires.free in
    inr (none.leave, inr (none.answer, inr (none.commit, inl (a, refl))))) c.put.ensures

pub returns-then-resume : goal.returns-then-resume
returns-then-resume c =
    let d = c.args.self.now in
    let u = c.put.new.self in
    let k = c.args.number in
    let known = c.requires.sound in
    let same = (alone_idle known.0 known.1.0 d d (Event.Put k) c.put.result u c.if-put.false refl known.1.1 c.put.ensures).0 in
    alone_taken (of_seat k) (Event.Resume k) d u c.resume.result c.resume.new.self c.if-resume.true same tt
    (λ shared m sound a.
    let none = stages.free (standing shared m d) k c.requires.free in
    let p = (alone_idle shared m d d (Event.Put k) c.put.result u c.if-put.false refl sound c.put.ensures).1 in
    inr (none.leave, inr (none.answer, inr (none.commit, inr (p, inl (a, refl)))))) c.resume.ensures

pub returns : goal.returns
returns c =
    let d = c.args.self.now in
    let u = c.put.new.self in
    let v = c.resume.new.self in
    let k = c.args.number in
    let known = c.requires.sound in
    let same = (alone_idle known.0 known.1.0 d d (Event.Put k) c.put.result u c.if-put.false refl known.1.1 c.put.ensures).0 in
    let still = (alone_idle known.0 known.1.0 d u (Event.Resume k) c.resume.result v c.if-resume.false same known.1.1
    c.resume.ensures).0 in
    alone_by (of_seat k) (Event.Take k) d v c.take.result c.take.new.self still tt
    (λ shared m sound.
    let none = stages.free (standing shared m d) k c.requires.free in
    let p = (alone_idle shared m d d (Event.Put k) c.put.result u c.if-put.false refl sound c.put.ensures).1 in
    let q = (alone_idle shared m d u (Event.Resume k) c.resume.result v c.if-resume.false same sound c.resume.ensures).1 in (
      (λ a. inr (none.leave, inr (none.answer, inr (none.commit, inr (p, inr (q, inl (a, refl))))))),
      (λ never. (none.leave, (none.answer, (none.commit, (p, (q, (never, tt))))))),
    )) c.take.ensures
