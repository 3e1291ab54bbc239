-- The fields that decide what a CDB of the wide profile means.
use Rattle.std.proofs.Common.{◌≡◌, ℕ, List, [], ◌∷◌, refl, sym, ap, ◌∙◌}
use Rattle.cdb.specs.Fields.{bits, byte, number}
use Rattle.cdb.specs.Decoding.{command, command_by, row_of}
use Rattle.cdb.specs.Usage.{Field, Agree, OfEach, PlainDecides, ActionDecides, plain_commands, action_commands}
use Rattle.cdb.specs.declared.profile.Profile.TheVariants.{Wide}

decides_00 : (a b : List ℕ) → byte 0 a ≡ 0x00 → byte 0 b ≡ 0x00 → Agree (Field.Bits 5 2 2 ∷ []) a b → command Wide a ≡ command Wide b
unfolding command
decides_00 a b is_a is_b h =
    let e0 : bits 5 2 2 a ≡ bits 5 2 2 b = h.0 in
    let same : command_by (row_of Wide 0x00) a ≡ command_by (row_of Wide 0x00) b = rw (e0) refl in
    ap (λ x. command_by (row_of Wide x) a) is_a ∙ same ∙ sym (ap (λ x. command_by (row_of Wide x) b) is_b)

decides_03 : (a b : List ℕ) → byte 0 a ≡ 0x03 → byte 0 b ≡ 0x03 → Agree (Field.Bits 5 2 2 ∷ Field.Bits 1 0 0 ∷ Field.Whole 4 ∷ []) a b → command Wide a ≡ command Wide b
unfolding command
decides_03 a b is_a is_b h =
    let e0 : bits 5 2 2 a ≡ bits 5 2 2 b = h.0 in
    let e1 : bits 1 0 0 a ≡ bits 1 0 0 b = h.1.0 in
    let e2 : byte 4 a ≡ byte 4 b = h.1.1.0 in
    let same : command_by (row_of Wide 0x03) a ≡ command_by (row_of Wide 0x03) b = rw (e0, e1, e2) refl in
    ap (λ x. command_by (row_of Wide x) a) is_a ∙ same ∙ sym (ap (λ x. command_by (row_of Wide x) b) is_b)

decides_04 : (a b : List ℕ) → byte 0 a ≡ 0x04 → byte 0 b ≡ 0x04 → Agree (Field.Bits 5 2 2 ∷ Field.Bits 1 7 6 ∷ Field.Bits 1 5 5 ∷ Field.Bits 1 4 4 ∷ Field.Bits 1 2 0 ∷ []) a b → command Wide a ≡ command Wide b
unfolding command
decides_04 a b is_a is_b h =
    let e0 : bits 5 2 2 a ≡ bits 5 2 2 b = h.0 in
    let e1 : bits 1 7 6 a ≡ bits 1 7 6 b = h.1.0 in
    let e2 : bits 1 5 5 a ≡ bits 1 5 5 b = h.1.1.0 in
    let e3 : bits 1 4 4 a ≡ bits 1 4 4 b = h.1.1.1.0 in
    let e4 : bits 1 2 0 a ≡ bits 1 2 0 b = h.1.1.1.1.0 in
    let same : command_by (row_of Wide 0x04) a ≡ command_by (row_of Wide 0x04) b = rw (e0, e1, e2, e3, e4) refl in
    ap (λ x. command_by (row_of Wide x) a) is_a ∙ same ∙ sym (ap (λ x. command_by (row_of Wide x) b) is_b)

decides_08 : (a b : List ℕ) → byte 0 a ≡ 0x08 → byte 0 b ≡ 0x08 → Agree (Field.Bits 5 2 2 ∷ Field.Bits 1 4 0 ∷ Field.Number 2 3 ∷ Field.Whole 4 ∷ []) a b → command Wide a ≡ command Wide b
unfolding command
decides_08 a b is_a is_b h =
    let e0 : bits 5 2 2 a ≡ bits 5 2 2 b = h.0 in
    let e1 : bits 1 4 0 a ≡ bits 1 4 0 b = h.1.0 in
    let e2 : number 2 3 a ≡ number 2 3 b = h.1.1.0 in
    let e3 : byte 4 a ≡ byte 4 b = h.1.1.1.0 in
    let same : command_by (row_of Wide 0x08) a ≡ command_by (row_of Wide 0x08) b = rw (e0, e1, e2, e3) refl in
    ap (λ x. command_by (row_of Wide x) a) is_a ∙ same ∙ sym (ap (λ x. command_by (row_of Wide x) b) is_b)

decides_0a : (a b : List ℕ) → byte 0 a ≡ 0x0a → byte 0 b ≡ 0x0a → Agree (Field.Bits 5 2 2 ∷ Field.Bits 1 4 0 ∷ Field.Number 2 3 ∷ Field.Whole 4 ∷ []) a b → command Wide a ≡ command Wide b
unfolding command
decides_0a a b is_a is_b h =
    let e0 : bits 5 2 2 a ≡ bits 5 2 2 b = h.0 in
    let e1 : bits 1 4 0 a ≡ bits 1 4 0 b = h.1.0 in
    let e2 : number 2 3 a ≡ number 2 3 b = h.1.1.0 in
    let e3 : byte 4 a ≡ byte 4 b = h.1.1.1.0 in
    let same : command_by (row_of Wide 0x0a) a ≡ command_by (row_of Wide 0x0a) b = rw (e0, e1, e2, e3) refl in
    ap (λ x. command_by (row_of Wide x) a) is_a ∙ same ∙ sym (ap (λ x. command_by (row_of Wide x) b) is_b)

decides_12 : (a b : List ℕ) → byte 0 a ≡ 0x12 → byte 0 b ≡ 0x12 → Agree (Field.Bits 5 2 2 ∷ Field.Bits 1 0 0 ∷ Field.Whole 2 ∷ Field.Number 3 4 ∷ []) a b → command Wide a ≡ command Wide b
unfolding command
decides_12 a b is_a is_b h =
    let e0 : bits 5 2 2 a ≡ bits 5 2 2 b = h.0 in
    let e1 : bits 1 0 0 a ≡ bits 1 0 0 b = h.1.0 in
    let e2 : byte 2 a ≡ byte 2 b = h.1.1.0 in
    let e3 : number 3 4 a ≡ number 3 4 b = h.1.1.1.0 in
    let same : command_by (row_of Wide 0x12) a ≡ command_by (row_of Wide 0x12) b = rw (e0, e1, e2, e3) refl in
    ap (λ x. command_by (row_of Wide x) a) is_a ∙ same ∙ sym (ap (λ x. command_by (row_of Wide x) b) is_b)

decides_15 : (a b : List ℕ) → byte 0 a ≡ 0x15 → byte 0 b ≡ 0x15 → Agree (Field.Bits 5 2 2 ∷ Field.Bits 1 4 4 ∷ Field.Bits 1 0 0 ∷ Field.Whole 4 ∷ []) a b → command Wide a ≡ command Wide b
unfolding command
decides_15 a b is_a is_b h =
    let e0 : bits 5 2 2 a ≡ bits 5 2 2 b = h.0 in
    let e1 : bits 1 4 4 a ≡ bits 1 4 4 b = h.1.0 in
    let e2 : bits 1 0 0 a ≡ bits 1 0 0 b = h.1.1.0 in
    let e3 : byte 4 a ≡ byte 4 b = h.1.1.1.0 in
    let same : command_by (row_of Wide 0x15) a ≡ command_by (row_of Wide 0x15) b = rw (e0, e1, e2, e3) refl in
    ap (λ x. command_by (row_of Wide x) a) is_a ∙ same ∙ sym (ap (λ x. command_by (row_of Wide x) b) is_b)

decides_1a : (a b : List ℕ) → byte 0 a ≡ 0x1a → byte 0 b ≡ 0x1a → Agree (Field.Bits 5 2 2 ∷ Field.Bits 1 3 3 ∷ Field.Bits 2 7 6 ∷ Field.Bits 2 5 0 ∷ Field.Whole 3 ∷ Field.Whole 4 ∷ []) a b → command Wide a ≡ command Wide b
unfolding command
decides_1a a b is_a is_b h =
    let e0 : bits 5 2 2 a ≡ bits 5 2 2 b = h.0 in
    let e1 : bits 1 3 3 a ≡ bits 1 3 3 b = h.1.0 in
    let e2 : bits 2 7 6 a ≡ bits 2 7 6 b = h.1.1.0 in
    let e3 : bits 2 5 0 a ≡ bits 2 5 0 b = h.1.1.1.0 in
    let e4 : byte 3 a ≡ byte 3 b = h.1.1.1.1.0 in
    let e5 : byte 4 a ≡ byte 4 b = h.1.1.1.1.1.0 in
    let same : command_by (row_of Wide 0x1a) a ≡ command_by (row_of Wide 0x1a) b = rw (e0, e1, e2, e3, e4, e5) refl in
    ap (λ x. command_by (row_of Wide x) a) is_a ∙ same ∙ sym (ap (λ x. command_by (row_of Wide x) b) is_b)

decides_1b : (a b : List ℕ) → byte 0 a ≡ 0x1b → byte 0 b ≡ 0x1b → Agree (Field.Bits 5 2 2 ∷ Field.Bits 4 7 4 ∷ Field.Bits 4 1 1 ∷ Field.Bits 4 0 0 ∷ []) a b → command Wide a ≡ command Wide b
unfolding command
decides_1b a b is_a is_b h =
    let e0 : bits 5 2 2 a ≡ bits 5 2 2 b = h.0 in
    let e1 : bits 4 7 4 a ≡ bits 4 7 4 b = h.1.0 in
    let e2 : bits 4 1 1 a ≡ bits 4 1 1 b = h.1.1.0 in
    let e3 : bits 4 0 0 a ≡ bits 4 0 0 b = h.1.1.1.0 in
    let same : command_by (row_of Wide 0x1b) a ≡ command_by (row_of Wide 0x1b) b = rw (e0, e1, e2, e3) refl in
    ap (λ x. command_by (row_of Wide x) a) is_a ∙ same ∙ sym (ap (λ x. command_by (row_of Wide x) b) is_b)

decides_1d : (a b : List ℕ) → byte 0 a ≡ 0x1d → byte 0 b ≡ 0x1d → Agree (Field.Bits 5 2 2 ∷ Field.Bits 1 7 5 ∷ Field.Number 3 4 ∷ []) a b → command Wide a ≡ command Wide b
unfolding command
decides_1d a b is_a is_b h =
    let e0 : bits 5 2 2 a ≡ bits 5 2 2 b = h.0 in
    let e1 : bits 1 7 5 a ≡ bits 1 7 5 b = h.1.0 in
    let e2 : number 3 4 a ≡ number 3 4 b = h.1.1.0 in
    let same : command_by (row_of Wide 0x1d) a ≡ command_by (row_of Wide 0x1d) b = rw (e0, e1, e2) refl in
    ap (λ x. command_by (row_of Wide x) a) is_a ∙ same ∙ sym (ap (λ x. command_by (row_of Wide x) b) is_b)

decides_1e : (a b : List ℕ) → byte 0 a ≡ 0x1e → byte 0 b ≡ 0x1e → Agree (Field.Bits 5 2 2 ∷ Field.Bits 4 1 0 ∷ []) a b → command Wide a ≡ command Wide b
unfolding command
decides_1e a b is_a is_b h =
    let e0 : bits 5 2 2 a ≡ bits 5 2 2 b = h.0 in
    let e1 : bits 4 1 0 a ≡ bits 4 1 0 b = h.1.0 in
    let same : command_by (row_of Wide 0x1e) a ≡ command_by (row_of Wide 0x1e) b = rw (e0, e1) refl in
    ap (λ x. command_by (row_of Wide x) a) is_a ∙ same ∙ sym (ap (λ x. command_by (row_of Wide x) b) is_b)

decides_25 : (a b : List ℕ) → byte 0 a ≡ 0x25 → byte 0 b ≡ 0x25 → Agree (Field.Bits 9 2 2 ∷ []) a b → command Wide a ≡ command Wide b
unfolding command
decides_25 a b is_a is_b h =
    let e0 : bits 9 2 2 a ≡ bits 9 2 2 b = h.0 in
    let same : command_by (row_of Wide 0x25) a ≡ command_by (row_of Wide 0x25) b = rw (e0) refl in
    ap (λ x. command_by (row_of Wide x) a) is_a ∙ same ∙ sym (ap (λ x. command_by (row_of Wide x) b) is_b)

decides_28 : (a b : List ℕ) → byte 0 a ≡ 0x28 → byte 0 b ≡ 0x28 → Agree (Field.Bits 9 2 2 ∷ Field.Bits 1 7 5 ∷ Field.Number 2 5 ∷ Field.Number 7 8 ∷ []) a b → command Wide a ≡ command Wide b
unfolding command
decides_28 a b is_a is_b h =
    let e0 : bits 9 2 2 a ≡ bits 9 2 2 b = h.0 in
    let e1 : bits 1 7 5 a ≡ bits 1 7 5 b = h.1.0 in
    let e2 : number 2 5 a ≡ number 2 5 b = h.1.1.0 in
    let e3 : number 7 8 a ≡ number 7 8 b = h.1.1.1.0 in
    let same : command_by (row_of Wide 0x28) a ≡ command_by (row_of Wide 0x28) b = rw (e0, e1, e2, e3) refl in
    ap (λ x. command_by (row_of Wide x) a) is_a ∙ same ∙ sym (ap (λ x. command_by (row_of Wide x) b) is_b)

decides_2a : (a b : List ℕ) → byte 0 a ≡ 0x2a → byte 0 b ≡ 0x2a → Agree (Field.Bits 9 2 2 ∷ Field.Bits 1 7 5 ∷ Field.Number 2 5 ∷ Field.Number 7 8 ∷ []) a b → command Wide a ≡ command Wide b
unfolding command
decides_2a a b is_a is_b h =
    let e0 : bits 9 2 2 a ≡ bits 9 2 2 b = h.0 in
    let e1 : bits 1 7 5 a ≡ bits 1 7 5 b = h.1.0 in
    let e2 : number 2 5 a ≡ number 2 5 b = h.1.1.0 in
    let e3 : number 7 8 a ≡ number 7 8 b = h.1.1.1.0 in
    let same : command_by (row_of Wide 0x2a) a ≡ command_by (row_of Wide 0x2a) b = rw (e0, e1, e2, e3) refl in
    ap (λ x. command_by (row_of Wide x) a) is_a ∙ same ∙ sym (ap (λ x. command_by (row_of Wide x) b) is_b)

decides_2e : (a b : List ℕ) → byte 0 a ≡ 0x2e → byte 0 b ≡ 0x2e → Agree (Field.Bits 9 2 2 ∷ Field.Bits 1 2 1 ∷ Field.Bits 1 7 5 ∷ Field.Number 2 5 ∷ Field.Number 7 8 ∷ []) a b → command Wide a ≡ command Wide b
unfolding command
decides_2e a b is_a is_b h =
    let e0 : bits 9 2 2 a ≡ bits 9 2 2 b = h.0 in
    let e1 : bits 1 2 1 a ≡ bits 1 2 1 b = h.1.0 in
    let e2 : bits 1 7 5 a ≡ bits 1 7 5 b = h.1.1.0 in
    let e3 : number 2 5 a ≡ number 2 5 b = h.1.1.1.0 in
    let e4 : number 7 8 a ≡ number 7 8 b = h.1.1.1.1.0 in
    let same : command_by (row_of Wide 0x2e) a ≡ command_by (row_of Wide 0x2e) b = rw (e0, e1, e2, e3, e4) refl in
    ap (λ x. command_by (row_of Wide x) a) is_a ∙ same ∙ sym (ap (λ x. command_by (row_of Wide x) b) is_b)

decides_2f : (a b : List ℕ) → byte 0 a ≡ 0x2f → byte 0 b ≡ 0x2f → Agree (Field.Bits 9 2 2 ∷ Field.Bits 1 2 1 ∷ Field.Bits 1 7 5 ∷ Field.Number 2 5 ∷ Field.Number 7 8 ∷ []) a b → command Wide a ≡ command Wide b
unfolding command
decides_2f a b is_a is_b h =
    let e0 : bits 9 2 2 a ≡ bits 9 2 2 b = h.0 in
    let e1 : bits 1 2 1 a ≡ bits 1 2 1 b = h.1.0 in
    let e2 : bits 1 7 5 a ≡ bits 1 7 5 b = h.1.1.0 in
    let e3 : number 2 5 a ≡ number 2 5 b = h.1.1.1.0 in
    let e4 : number 7 8 a ≡ number 7 8 b = h.1.1.1.1.0 in
    let same : command_by (row_of Wide 0x2f) a ≡ command_by (row_of Wide 0x2f) b = rw (e0, e1, e2, e3, e4) refl in
    ap (λ x. command_by (row_of Wide x) a) is_a ∙ same ∙ sym (ap (λ x. command_by (row_of Wide x) b) is_b)

decides_34 : (a b : List ℕ) → byte 0 a ≡ 0x34 → byte 0 b ≡ 0x34 → Agree (Field.Bits 9 2 2 ∷ Field.Number 2 5 ∷ Field.Number 7 8 ∷ []) a b → command Wide a ≡ command Wide b
unfolding command
decides_34 a b is_a is_b h =
    let e0 : bits 9 2 2 a ≡ bits 9 2 2 b = h.0 in
    let e1 : number 2 5 a ≡ number 2 5 b = h.1.0 in
    let e2 : number 7 8 a ≡ number 7 8 b = h.1.1.0 in
    let same : command_by (row_of Wide 0x34) a ≡ command_by (row_of Wide 0x34) b = rw (e0, e1, e2) refl in
    ap (λ x. command_by (row_of Wide x) a) is_a ∙ same ∙ sym (ap (λ x. command_by (row_of Wide x) b) is_b)

decides_35 : (a b : List ℕ) → byte 0 a ≡ 0x35 → byte 0 b ≡ 0x35 → Agree (Field.Bits 9 2 2 ∷ Field.Number 2 5 ∷ Field.Number 7 8 ∷ []) a b → command Wide a ≡ command Wide b
unfolding command
decides_35 a b is_a is_b h =
    let e0 : bits 9 2 2 a ≡ bits 9 2 2 b = h.0 in
    let e1 : number 2 5 a ≡ number 2 5 b = h.1.0 in
    let e2 : number 7 8 a ≡ number 7 8 b = h.1.1.0 in
    let same : command_by (row_of Wide 0x35) a ≡ command_by (row_of Wide 0x35) b = rw (e0, e1, e2) refl in
    ap (λ x. command_by (row_of Wide x) a) is_a ∙ same ∙ sym (ap (λ x. command_by (row_of Wide x) b) is_b)

decides_37 : (a b : List ℕ) → byte 0 a ≡ 0x37 → byte 0 b ≡ 0x37 → Agree (Field.Bits 9 2 2 ∷ Field.Bits 2 4 4 ∷ Field.Bits 2 3 3 ∷ Field.Bits 2 2 0 ∷ Field.Number 7 8 ∷ []) a b → command Wide a ≡ command Wide b
unfolding command
decides_37 a b is_a is_b h =
    let e0 : bits 9 2 2 a ≡ bits 9 2 2 b = h.0 in
    let e1 : bits 2 4 4 a ≡ bits 2 4 4 b = h.1.0 in
    let e2 : bits 2 3 3 a ≡ bits 2 3 3 b = h.1.1.0 in
    let e3 : bits 2 2 0 a ≡ bits 2 2 0 b = h.1.1.1.0 in
    let e4 : number 7 8 a ≡ number 7 8 b = h.1.1.1.1.0 in
    let same : command_by (row_of Wide 0x37) a ≡ command_by (row_of Wide 0x37) b = rw (e0, e1, e2, e3, e4) refl in
    ap (λ x. command_by (row_of Wide x) a) is_a ∙ same ∙ sym (ap (λ x. command_by (row_of Wide x) b) is_b)

decides_41 : (a b : List ℕ) → byte 0 a ≡ 0x41 → byte 0 b ≡ 0x41 → Agree (Field.Bits 9 2 2 ∷ Field.Bits 1 7 5 ∷ Field.Bits 1 4 4 ∷ Field.Bits 1 2 1 ∷ Field.Number 2 5 ∷ Field.Number 7 8 ∷ []) a b → command Wide a ≡ command Wide b
unfolding command
decides_41 a b is_a is_b h =
    let e0 : bits 9 2 2 a ≡ bits 9 2 2 b = h.0 in
    let e1 : bits 1 7 5 a ≡ bits 1 7 5 b = h.1.0 in
    let e2 : bits 1 4 4 a ≡ bits 1 4 4 b = h.1.1.0 in
    let e3 : bits 1 2 1 a ≡ bits 1 2 1 b = h.1.1.1.0 in
    let e4 : number 2 5 a ≡ number 2 5 b = h.1.1.1.1.0 in
    let e5 : number 7 8 a ≡ number 7 8 b = h.1.1.1.1.1.0 in
    let same : command_by (row_of Wide 0x41) a ≡ command_by (row_of Wide 0x41) b = rw (e0, e1, e2, e3, e4, e5) refl in
    ap (λ x. command_by (row_of Wide x) a) is_a ∙ same ∙ sym (ap (λ x. command_by (row_of Wide x) b) is_b)

decides_42 : (a b : List ℕ) → byte 0 a ≡ 0x42 → byte 0 b ≡ 0x42 → Agree (Field.Bits 9 2 2 ∷ Field.Bits 1 0 0 ∷ Field.Number 7 8 ∷ []) a b → command Wide a ≡ command Wide b
unfolding command
decides_42 a b is_a is_b h =
    let e0 : bits 9 2 2 a ≡ bits 9 2 2 b = h.0 in
    let e1 : bits 1 0 0 a ≡ bits 1 0 0 b = h.1.0 in
    let e2 : number 7 8 a ≡ number 7 8 b = h.1.1.0 in
    let same : command_by (row_of Wide 0x42) a ≡ command_by (row_of Wide 0x42) b = rw (e0, e1, e2) refl in
    ap (λ x. command_by (row_of Wide x) a) is_a ∙ same ∙ sym (ap (λ x. command_by (row_of Wide x) b) is_b)

decides_55 : (a b : List ℕ) → byte 0 a ≡ 0x55 → byte 0 b ≡ 0x55 → Agree (Field.Bits 9 2 2 ∷ Field.Bits 1 4 4 ∷ Field.Bits 1 0 0 ∷ Field.Number 7 8 ∷ []) a b → command Wide a ≡ command Wide b
unfolding command
decides_55 a b is_a is_b h =
    let e0 : bits 9 2 2 a ≡ bits 9 2 2 b = h.0 in
    let e1 : bits 1 4 4 a ≡ bits 1 4 4 b = h.1.0 in
    let e2 : bits 1 0 0 a ≡ bits 1 0 0 b = h.1.1.0 in
    let e3 : number 7 8 a ≡ number 7 8 b = h.1.1.1.0 in
    let same : command_by (row_of Wide 0x55) a ≡ command_by (row_of Wide 0x55) b = rw (e0, e1, e2, e3) refl in
    ap (λ x. command_by (row_of Wide x) a) is_a ∙ same ∙ sym (ap (λ x. command_by (row_of Wide x) b) is_b)

decides_5a : (a b : List ℕ) → byte 0 a ≡ 0x5a → byte 0 b ≡ 0x5a → Agree (Field.Bits 9 2 2 ∷ Field.Bits 1 4 4 ∷ Field.Bits 1 3 3 ∷ Field.Bits 2 7 6 ∷ Field.Bits 2 5 0 ∷ Field.Whole 3 ∷ Field.Number 7 8 ∷ []) a b → command Wide a ≡ command Wide b
unfolding command
decides_5a a b is_a is_b h =
    let e0 : bits 9 2 2 a ≡ bits 9 2 2 b = h.0 in
    let e1 : bits 1 4 4 a ≡ bits 1 4 4 b = h.1.0 in
    let e2 : bits 1 3 3 a ≡ bits 1 3 3 b = h.1.1.0 in
    let e3 : bits 2 7 6 a ≡ bits 2 7 6 b = h.1.1.1.0 in
    let e4 : bits 2 5 0 a ≡ bits 2 5 0 b = h.1.1.1.1.0 in
    let e5 : byte 3 a ≡ byte 3 b = h.1.1.1.1.1.0 in
    let e6 : number 7 8 a ≡ number 7 8 b = h.1.1.1.1.1.1.0 in
    let same : command_by (row_of Wide 0x5a) a ≡ command_by (row_of Wide 0x5a) b = rw (e0, e1, e2, e3, e4, e5, e6) refl in
    ap (λ x. command_by (row_of Wide x) a) is_a ∙ same ∙ sym (ap (λ x. command_by (row_of Wide x) b) is_b)

decides_88 : (a b : List ℕ) → byte 0 a ≡ 0x88 → byte 0 b ≡ 0x88 → Agree (Field.Bits 15 2 2 ∷ Field.Bits 1 7 5 ∷ Field.Number 2 9 ∷ Field.Number 10 13 ∷ []) a b → command Wide a ≡ command Wide b
unfolding command
decides_88 a b is_a is_b h =
    let e0 : bits 15 2 2 a ≡ bits 15 2 2 b = h.0 in
    let e1 : bits 1 7 5 a ≡ bits 1 7 5 b = h.1.0 in
    let e2 : number 2 9 a ≡ number 2 9 b = h.1.1.0 in
    let e3 : number 10 13 a ≡ number 10 13 b = h.1.1.1.0 in
    let same : command_by (row_of Wide 0x88) a ≡ command_by (row_of Wide 0x88) b = rw (e0, e1, e2, e3) refl in
    ap (λ x. command_by (row_of Wide x) a) is_a ∙ same ∙ sym (ap (λ x. command_by (row_of Wide x) b) is_b)

decides_89 : (a b : List ℕ) → byte 0 a ≡ 0x89 → byte 0 b ≡ 0x89 → Agree (Field.Bits 15 2 2 ∷ Field.Bits 1 7 5 ∷ Field.Number 2 9 ∷ Field.Whole 13 ∷ []) a b → command Wide a ≡ command Wide b
unfolding command
decides_89 a b is_a is_b h =
    let e0 : bits 15 2 2 a ≡ bits 15 2 2 b = h.0 in
    let e1 : bits 1 7 5 a ≡ bits 1 7 5 b = h.1.0 in
    let e2 : number 2 9 a ≡ number 2 9 b = h.1.1.0 in
    let e3 : byte 13 a ≡ byte 13 b = h.1.1.1.0 in
    let same : command_by (row_of Wide 0x89) a ≡ command_by (row_of Wide 0x89) b = rw (e0, e1, e2, e3) refl in
    ap (λ x. command_by (row_of Wide x) a) is_a ∙ same ∙ sym (ap (λ x. command_by (row_of Wide x) b) is_b)

decides_8a : (a b : List ℕ) → byte 0 a ≡ 0x8a → byte 0 b ≡ 0x8a → Agree (Field.Bits 15 2 2 ∷ Field.Bits 1 7 5 ∷ Field.Number 2 9 ∷ Field.Number 10 13 ∷ []) a b → command Wide a ≡ command Wide b
unfolding command
decides_8a a b is_a is_b h =
    let e0 : bits 15 2 2 a ≡ bits 15 2 2 b = h.0 in
    let e1 : bits 1 7 5 a ≡ bits 1 7 5 b = h.1.0 in
    let e2 : number 2 9 a ≡ number 2 9 b = h.1.1.0 in
    let e3 : number 10 13 a ≡ number 10 13 b = h.1.1.1.0 in
    let same : command_by (row_of Wide 0x8a) a ≡ command_by (row_of Wide 0x8a) b = rw (e0, e1, e2, e3) refl in
    ap (λ x. command_by (row_of Wide x) a) is_a ∙ same ∙ sym (ap (λ x. command_by (row_of Wide x) b) is_b)

decides_8b : (a b : List ℕ) → byte 0 a ≡ 0x8b → byte 0 b ≡ 0x8b → Agree (Field.Bits 15 2 2 ∷ Field.Bits 1 7 5 ∷ Field.Number 2 9 ∷ Field.Number 10 13 ∷ []) a b → command Wide a ≡ command Wide b
unfolding command
decides_8b a b is_a is_b h =
    let e0 : bits 15 2 2 a ≡ bits 15 2 2 b = h.0 in
    let e1 : bits 1 7 5 a ≡ bits 1 7 5 b = h.1.0 in
    let e2 : number 2 9 a ≡ number 2 9 b = h.1.1.0 in
    let e3 : number 10 13 a ≡ number 10 13 b = h.1.1.1.0 in
    let same : command_by (row_of Wide 0x8b) a ≡ command_by (row_of Wide 0x8b) b = rw (e0, e1, e2, e3) refl in
    ap (λ x. command_by (row_of Wide x) a) is_a ∙ same ∙ sym (ap (λ x. command_by (row_of Wide x) b) is_b)

decides_8e : (a b : List ℕ) → byte 0 a ≡ 0x8e → byte 0 b ≡ 0x8e → Agree (Field.Bits 15 2 2 ∷ Field.Bits 1 2 1 ∷ Field.Bits 1 7 5 ∷ Field.Number 2 9 ∷ Field.Number 10 13 ∷ []) a b → command Wide a ≡ command Wide b
unfolding command
decides_8e a b is_a is_b h =
    let e0 : bits 15 2 2 a ≡ bits 15 2 2 b = h.0 in
    let e1 : bits 1 2 1 a ≡ bits 1 2 1 b = h.1.0 in
    let e2 : bits 1 7 5 a ≡ bits 1 7 5 b = h.1.1.0 in
    let e3 : number 2 9 a ≡ number 2 9 b = h.1.1.1.0 in
    let e4 : number 10 13 a ≡ number 10 13 b = h.1.1.1.1.0 in
    let same : command_by (row_of Wide 0x8e) a ≡ command_by (row_of Wide 0x8e) b = rw (e0, e1, e2, e3, e4) refl in
    ap (λ x. command_by (row_of Wide x) a) is_a ∙ same ∙ sym (ap (λ x. command_by (row_of Wide x) b) is_b)

decides_8f : (a b : List ℕ) → byte 0 a ≡ 0x8f → byte 0 b ≡ 0x8f → Agree (Field.Bits 15 2 2 ∷ Field.Bits 1 2 1 ∷ Field.Bits 1 7 5 ∷ Field.Number 2 9 ∷ Field.Number 10 13 ∷ []) a b → command Wide a ≡ command Wide b
unfolding command
decides_8f a b is_a is_b h =
    let e0 : bits 15 2 2 a ≡ bits 15 2 2 b = h.0 in
    let e1 : bits 1 2 1 a ≡ bits 1 2 1 b = h.1.0 in
    let e2 : bits 1 7 5 a ≡ bits 1 7 5 b = h.1.1.0 in
    let e3 : number 2 9 a ≡ number 2 9 b = h.1.1.1.0 in
    let e4 : number 10 13 a ≡ number 10 13 b = h.1.1.1.1.0 in
    let same : command_by (row_of Wide 0x8f) a ≡ command_by (row_of Wide 0x8f) b = rw (e0, e1, e2, e3, e4) refl in
    ap (λ x. command_by (row_of Wide x) a) is_a ∙ same ∙ sym (ap (λ x. command_by (row_of Wide x) b) is_b)

decides_90 : (a b : List ℕ) → byte 0 a ≡ 0x90 → byte 0 b ≡ 0x90 → Agree (Field.Bits 15 2 2 ∷ Field.Number 2 9 ∷ Field.Number 10 13 ∷ []) a b → command Wide a ≡ command Wide b
unfolding command
decides_90 a b is_a is_b h =
    let e0 : bits 15 2 2 a ≡ bits 15 2 2 b = h.0 in
    let e1 : number 2 9 a ≡ number 2 9 b = h.1.0 in
    let e2 : number 10 13 a ≡ number 10 13 b = h.1.1.0 in
    let same : command_by (row_of Wide 0x90) a ≡ command_by (row_of Wide 0x90) b = rw (e0, e1, e2) refl in
    ap (λ x. command_by (row_of Wide x) a) is_a ∙ same ∙ sym (ap (λ x. command_by (row_of Wide x) b) is_b)

decides_91 : (a b : List ℕ) → byte 0 a ≡ 0x91 → byte 0 b ≡ 0x91 → Agree (Field.Bits 15 2 2 ∷ Field.Number 2 9 ∷ Field.Number 10 13 ∷ []) a b → command Wide a ≡ command Wide b
unfolding command
decides_91 a b is_a is_b h =
    let e0 : bits 15 2 2 a ≡ bits 15 2 2 b = h.0 in
    let e1 : number 2 9 a ≡ number 2 9 b = h.1.0 in
    let e2 : number 10 13 a ≡ number 10 13 b = h.1.1.0 in
    let same : command_by (row_of Wide 0x91) a ≡ command_by (row_of Wide 0x91) b = rw (e0, e1, e2) refl in
    ap (λ x. command_by (row_of Wide x) a) is_a ∙ same ∙ sym (ap (λ x. command_by (row_of Wide x) b) is_b)

decides_93 : (a b : List ℕ) → byte 0 a ≡ 0x93 → byte 0 b ≡ 0x93 → Agree (Field.Bits 15 2 2 ∷ Field.Bits 1 7 5 ∷ Field.Bits 1 4 4 ∷ Field.Bits 1 2 1 ∷ Field.Bits 1 0 0 ∷ Field.Number 2 9 ∷ Field.Number 10 13 ∷ []) a b → command Wide a ≡ command Wide b
unfolding command
decides_93 a b is_a is_b h =
    let e0 : bits 15 2 2 a ≡ bits 15 2 2 b = h.0 in
    let e1 : bits 1 7 5 a ≡ bits 1 7 5 b = h.1.0 in
    let e2 : bits 1 4 4 a ≡ bits 1 4 4 b = h.1.1.0 in
    let e3 : bits 1 2 1 a ≡ bits 1 2 1 b = h.1.1.1.0 in
    let e4 : bits 1 0 0 a ≡ bits 1 0 0 b = h.1.1.1.1.0 in
    let e5 : number 2 9 a ≡ number 2 9 b = h.1.1.1.1.1.0 in
    let e6 : number 10 13 a ≡ number 10 13 b = h.1.1.1.1.1.1.0 in
    let same : command_by (row_of Wide 0x93) a ≡ command_by (row_of Wide 0x93) b = rw (e0, e1, e2, e3, e4, e5, e6) refl in
    ap (λ x. command_by (row_of Wide x) a) is_a ∙ same ∙ sym (ap (λ x. command_by (row_of Wide x) b) is_b)

decides_a0 : (a b : List ℕ) → byte 0 a ≡ 0xa0 → byte 0 b ≡ 0xa0 → Agree (Field.Bits 11 2 2 ∷ Field.Whole 2 ∷ Field.Number 6 9 ∷ []) a b → command Wide a ≡ command Wide b
unfolding command
decides_a0 a b is_a is_b h =
    let e0 : bits 11 2 2 a ≡ bits 11 2 2 b = h.0 in
    let e1 : byte 2 a ≡ byte 2 b = h.1.0 in
    let e2 : number 6 9 a ≡ number 6 9 b = h.1.1.0 in
    let same : command_by (row_of Wide 0xa0) a ≡ command_by (row_of Wide 0xa0) b = rw (e0, e1, e2) refl in
    ap (λ x. command_by (row_of Wide x) a) is_a ∙ same ∙ sym (ap (λ x. command_by (row_of Wide x) b) is_b)

decides_a8 : (a b : List ℕ) → byte 0 a ≡ 0xa8 → byte 0 b ≡ 0xa8 → Agree (Field.Bits 11 2 2 ∷ Field.Bits 1 7 5 ∷ Field.Number 2 5 ∷ Field.Number 6 9 ∷ []) a b → command Wide a ≡ command Wide b
unfolding command
decides_a8 a b is_a is_b h =
    let e0 : bits 11 2 2 a ≡ bits 11 2 2 b = h.0 in
    let e1 : bits 1 7 5 a ≡ bits 1 7 5 b = h.1.0 in
    let e2 : number 2 5 a ≡ number 2 5 b = h.1.1.0 in
    let e3 : number 6 9 a ≡ number 6 9 b = h.1.1.1.0 in
    let same : command_by (row_of Wide 0xa8) a ≡ command_by (row_of Wide 0xa8) b = rw (e0, e1, e2, e3) refl in
    ap (λ x. command_by (row_of Wide x) a) is_a ∙ same ∙ sym (ap (λ x. command_by (row_of Wide x) b) is_b)

decides_aa : (a b : List ℕ) → byte 0 a ≡ 0xaa → byte 0 b ≡ 0xaa → Agree (Field.Bits 11 2 2 ∷ Field.Bits 1 7 5 ∷ Field.Number 2 5 ∷ Field.Number 6 9 ∷ []) a b → command Wide a ≡ command Wide b
unfolding command
decides_aa a b is_a is_b h =
    let e0 : bits 11 2 2 a ≡ bits 11 2 2 b = h.0 in
    let e1 : bits 1 7 5 a ≡ bits 1 7 5 b = h.1.0 in
    let e2 : number 2 5 a ≡ number 2 5 b = h.1.1.0 in
    let e3 : number 6 9 a ≡ number 6 9 b = h.1.1.1.0 in
    let same : command_by (row_of Wide 0xaa) a ≡ command_by (row_of Wide 0xaa) b = rw (e0, e1, e2, e3) refl in
    ap (λ x. command_by (row_of Wide x) a) is_a ∙ same ∙ sym (ap (λ x. command_by (row_of Wide x) b) is_b)

decides_ae : (a b : List ℕ) → byte 0 a ≡ 0xae → byte 0 b ≡ 0xae → Agree (Field.Bits 11 2 2 ∷ Field.Bits 1 2 1 ∷ Field.Bits 1 7 5 ∷ Field.Number 2 5 ∷ Field.Number 6 9 ∷ []) a b → command Wide a ≡ command Wide b
unfolding command
decides_ae a b is_a is_b h =
    let e0 : bits 11 2 2 a ≡ bits 11 2 2 b = h.0 in
    let e1 : bits 1 2 1 a ≡ bits 1 2 1 b = h.1.0 in
    let e2 : bits 1 7 5 a ≡ bits 1 7 5 b = h.1.1.0 in
    let e3 : number 2 5 a ≡ number 2 5 b = h.1.1.1.0 in
    let e4 : number 6 9 a ≡ number 6 9 b = h.1.1.1.1.0 in
    let same : command_by (row_of Wide 0xae) a ≡ command_by (row_of Wide 0xae) b = rw (e0, e1, e2, e3, e4) refl in
    ap (λ x. command_by (row_of Wide x) a) is_a ∙ same ∙ sym (ap (λ x. command_by (row_of Wide x) b) is_b)

decides_af : (a b : List ℕ) → byte 0 a ≡ 0xaf → byte 0 b ≡ 0xaf → Agree (Field.Bits 11 2 2 ∷ Field.Bits 1 2 1 ∷ Field.Bits 1 7 5 ∷ Field.Number 2 5 ∷ Field.Number 6 9 ∷ []) a b → command Wide a ≡ command Wide b
unfolding command
decides_af a b is_a is_b h =
    let e0 : bits 11 2 2 a ≡ bits 11 2 2 b = h.0 in
    let e1 : bits 1 2 1 a ≡ bits 1 2 1 b = h.1.0 in
    let e2 : bits 1 7 5 a ≡ bits 1 7 5 b = h.1.1.0 in
    let e3 : number 2 5 a ≡ number 2 5 b = h.1.1.1.0 in
    let e4 : number 6 9 a ≡ number 6 9 b = h.1.1.1.1.0 in
    let same : command_by (row_of Wide 0xaf) a ≡ command_by (row_of Wide 0xaf) b = rw (e0, e1, e2, e3, e4) refl in
    ap (λ x. command_by (row_of Wide x) a) is_a ∙ same ∙ sym (ap (λ x. command_by (row_of Wide x) b) is_b)

decides_b7 : (a b : List ℕ) → byte 0 a ≡ 0xb7 → byte 0 b ≡ 0xb7 → Agree (Field.Bits 11 2 2 ∷ Field.Bits 1 4 4 ∷ Field.Bits 1 3 3 ∷ Field.Bits 1 2 0 ∷ Field.Number 6 9 ∷ []) a b → command Wide a ≡ command Wide b
unfolding command
decides_b7 a b is_a is_b h =
    let e0 : bits 11 2 2 a ≡ bits 11 2 2 b = h.0 in
    let e1 : bits 1 4 4 a ≡ bits 1 4 4 b = h.1.0 in
    let e2 : bits 1 3 3 a ≡ bits 1 3 3 b = h.1.1.0 in
    let e3 : bits 1 2 0 a ≡ bits 1 2 0 b = h.1.1.1.0 in
    let e4 : number 6 9 a ≡ number 6 9 b = h.1.1.1.1.0 in
    let same : command_by (row_of Wide 0xb7) a ≡ command_by (row_of Wide 0xb7) b = rw (e0, e1, e2, e3, e4) refl in
    ap (λ x. command_by (row_of Wide x) a) is_a ∙ same ∙ sym (ap (λ x. command_by (row_of Wide x) b) is_b)

decides_9e_10 : (a b : List ℕ) → byte 0 a ≡ 0x9e → byte 0 b ≡ 0x9e → bits 1 4 0 a ≡ 0x10 → bits 1 4 0 b ≡ 0x10 → Agree (Field.Bits 15 2 2 ∷ Field.Number 10 13 ∷ []) a b → command Wide a ≡ command Wide b
unfolding command
decides_9e_10 a b is_a is_b action_a action_b h =
    let e0 : bits 15 2 2 a ≡ bits 15 2 2 b = h.0 in
    let e1 : number 10 13 a ≡ number 10 13 b = h.1.0 in
    let same : command_by (row_of Wide 0x9e) a ≡ command_by (row_of Wide 0x9e) b = rw (action_a, action_b, e0, e1) refl in
    ap (λ x. command_by (row_of Wide x) a) is_a ∙ same ∙ sym (ap (λ x. command_by (row_of Wide x) b) is_b)

decides_9e_12 : (a b : List ℕ) → byte 0 a ≡ 0x9e → byte 0 b ≡ 0x9e → bits 1 4 0 a ≡ 0x12 → bits 1 4 0 b ≡ 0x12 → Agree (Field.Bits 15 2 2 ∷ Field.Number 2 9 ∷ Field.Number 10 13 ∷ []) a b → command Wide a ≡ command Wide b
unfolding command
decides_9e_12 a b is_a is_b action_a action_b h =
    let e0 : bits 15 2 2 a ≡ bits 15 2 2 b = h.0 in
    let e1 : number 2 9 a ≡ number 2 9 b = h.1.0 in
    let e2 : number 10 13 a ≡ number 10 13 b = h.1.1.0 in
    let same : command_by (row_of Wide 0x9e) a ≡ command_by (row_of Wide 0x9e) b = rw (action_a, action_b, e0, e1, e2) refl in
    ap (λ x. command_by (row_of Wide x) a) is_a ∙ same ∙ sym (ap (λ x. command_by (row_of Wide x) b) is_b)

decides_a3_0c : (a b : List ℕ) → byte 0 a ≡ 0xa3 → byte 0 b ≡ 0xa3 → bits 1 4 0 a ≡ 0x0c → bits 1 4 0 b ≡ 0x0c → Agree (Field.Bits 11 2 2 ∷ Field.Bits 2 7 7 ∷ Field.Bits 2 2 0 ∷ Field.Whole 3 ∷ Field.Number 4 5 ∷ Field.Number 6 9 ∷ []) a b → command Wide a ≡ command Wide b
unfolding command
decides_a3_0c a b is_a is_b action_a action_b h =
    let e0 : bits 11 2 2 a ≡ bits 11 2 2 b = h.0 in
    let e1 : bits 2 7 7 a ≡ bits 2 7 7 b = h.1.0 in
    let e2 : bits 2 2 0 a ≡ bits 2 2 0 b = h.1.1.0 in
    let e3 : byte 3 a ≡ byte 3 b = h.1.1.1.0 in
    let e4 : number 4 5 a ≡ number 4 5 b = h.1.1.1.1.0 in
    let e5 : number 6 9 a ≡ number 6 9 b = h.1.1.1.1.1.0 in
    let same : command_by (row_of Wide 0xa3) a ≡ command_by (row_of Wide 0xa3) b = rw (action_a, action_b, e0, e1, e2, e3, e4, e5) refl in
    ap (λ x. command_by (row_of Wide x) a) is_a ∙ same ∙ sym (ap (λ x. command_by (row_of Wide x) b) is_b)

decides_a3_0d : (a b : List ℕ) → byte 0 a ≡ 0xa3 → byte 0 b ≡ 0xa3 → bits 1 4 0 a ≡ 0x0d → bits 1 4 0 b ≡ 0x0d → Agree (Field.Bits 11 2 2 ∷ Field.Bits 2 7 7 ∷ Field.Number 6 9 ∷ []) a b → command Wide a ≡ command Wide b
unfolding command
decides_a3_0d a b is_a is_b action_a action_b h =
    let e0 : bits 11 2 2 a ≡ bits 11 2 2 b = h.0 in
    let e1 : bits 2 7 7 a ≡ bits 2 7 7 b = h.1.0 in
    let e2 : number 6 9 a ≡ number 6 9 b = h.1.1.0 in
    let same : command_by (row_of Wide 0xa3) a ≡ command_by (row_of Wide 0xa3) b = rw (action_a, action_b, e0, e1, e2) refl in
    ap (λ x. command_by (row_of Wide x) a) is_a ∙ same ∙ sym (ap (λ x. command_by (row_of Wide x) b) is_b)

pub plain_decide : OfEach PlainDecides plain_commands
plain_decide = (decides_00, (decides_03, (decides_04, (decides_08, (decides_0a, (decides_12, (decides_15, (decides_1a, (decides_1b, (decides_1d, (decides_1e, (decides_25, (decides_28, (decides_2a, (decides_2e, (decides_2f, (decides_34, (decides_35, (decides_37, (decides_41, (decides_42, (decides_55, (decides_5a, (decides_88, (decides_89, (decides_8a, (decides_8b, (decides_8e, (decides_8f, (decides_90, (decides_91, (decides_93, (decides_a0, (decides_a8, (decides_aa, (decides_ae, (decides_af, (decides_b7, tt))))))))))))))))))))))))))))))))))))))

pub action_decide : OfEach ActionDecides action_commands
action_decide = (decides_9e_10, (decides_9e_12, (decides_a3_0c, (decides_a3_0d, tt))))
