-- A number for each part, of rows of ten.
use Rattle.std.specs.Prelude.{ℕ, ◌≡◌, ◌+◌, ◌*◌, ◌<◌, zero, suc, false, [], refl}
use Rattle.std.proofs.Common.{ap, sym, ◌∙◌, arith, None}
use Rattle.device_model.specs.World.{PlainWorld}
use Rattle.host_trace.specs.Parts.{Part}

abbrev pub kind_of : Part → ℕ
kind_of Part.Memory = 0
kind_of Part.HandOff = 1
kind_of Part.Function = 2
kind_of Part.Buffers = 3
kind_of Part.Waiting = 4
kind_of (Part.Ring i) = 5
kind_of (Part.Slot i) = 6
kind_of (Part.UnitAt i) = 7
kind_of (Part.SeatAt i) = 8
kind_of Part.Aside = 9

abbrev pub index_of : Part → ℕ
index_of (Part.Ring i) = i
index_of (Part.Slot i) = i
index_of (Part.UnitAt i) = i
index_of (Part.SeatAt i) = i
index_of p = 0

abbrev pub number : Part → ℕ
number p = 10 * index_of p + kind_of p

abbrev back : ℕ → ℕ → Part
back zero i = Part.Memory
back (suc zero) i = Part.HandOff
back (suc (suc zero)) i = Part.Function
back (suc (suc (suc zero))) i = Part.Buffers
back (suc (suc (suc (suc zero)))) i = Part.Waiting
back (suc (suc (suc (suc (suc zero))))) i = Part.Ring i
back (suc (suc (suc (suc (suc (suc zero)))))) i = Part.Slot i
back (suc (suc (suc (suc (suc (suc (suc zero))))))) i = Part.UnitAt i
back (suc (suc (suc (suc (suc (suc (suc (suc zero)))))))) i = Part.SeatAt i
back (suc (suc (suc (suc (suc (suc (suc (suc (suc n))))))))) i = Part.Aside

is_back : (p : Part) → back (kind_of p) (index_of p) ≡ p
is_back Part.Memory = refl
is_back Part.HandOff = refl
is_back Part.Function = refl
is_back Part.Buffers = refl
is_back Part.Waiting = refl
is_back (Part.Ring i) = refl
is_back (Part.Slot i) = refl
is_back (Part.UnitAt i) = refl
is_back (Part.SeatAt i) = refl
is_back Part.Aside = refl

small : (p : Part) → kind_of p < 10
small Part.Memory = omega arith
small Part.HandOff = omega arith
small Part.Function = omega arith
small Part.Buffers = omega arith
small Part.Waiting = omega arith
small (Part.Ring i) = omega arith
small (Part.Slot i) = omega arith
small (Part.UnitAt i) = omega arith
small (Part.SeatAt i) = omega arith
small Part.Aside = omega arith

kinds : (i k j l : ℕ) → k < 10 → l < 10 → 10 * i + k ≡ 10 * j + l → k ≡ l
kinds i k j l a b e = omega (arith, a, b, e)

rows : (i k j l : ℕ) → k < 10 → l < 10 → 10 * i + k ≡ 10 * j + l → i ≡ j
rows i k j l a b e = omega (arith, a, b, e)

-- no two parts have the same number
pub apart : (p q : Part) → number p ≡ number q → p ≡ q
apart p q e =
    let k = kinds (index_of p) (kind_of p) (index_of q) (kind_of q) (small p) (small q) e in
    let i = rows (index_of p) (kind_of p) (index_of q) (kind_of q) (small p) (small q) e in
    sym (is_back p) ∙ ap (λ n. back n (index_of p)) k ∙ ap (λ n. back (kind_of q) n) i ∙ is_back q

-- a device of no queue, unit or seat
abbrev pub bare : PlainWorld
bare =
    record {
      memory = [];
      shared = false;
      inventory = record { addresses = []; profiles = [] };
      queues = [];
      units = [];
      seats = [];
      workers = 0;
      aside = [];
      woken = [];
      handed_off = [];
      limit = 0;
      function = None;
      buffers = [];
      missed = false;
      waiting = [];
      tells_changes = false;
    }
