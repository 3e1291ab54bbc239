-- Why a chain that is narrowed to its first writable bytes is written as before.
use Rattle.std.proofs.Common.{◌≡◌, ℕ, ◌+◌, ◌-◌, ◌<◌, ◌≤◌, ◌&&◌, List, [], ◌∷◌, Bool, true, false, length, take, drop, refl, sym, ap, ◌∙◌, arith, length-drop, ◌⊎◌, inl, inr, min, cond, nat_lt, subst}
use Rattle.std.proofs.lemmas.Bool.{cases_lt, lt-ltb, le-ltb}
use Rattle.std.proofs.lemmas.Bool.Decides.{nat_tests}
use Rattle.std.proofs.lemmas.Grind.{common_steps}
use Rattle.std.proofs.lemmas.List.{take_all, drop_all}
use Rattle.std.proofs.lemmas.List.Sums.{sum_by-cons}
use Rattle.std.proofs.lemmas.List.Elements.{All-head, All-tail, All-cons, All-nil}
use Rattle.std.specs.List.{AllPass}
use Rattle.ring_core.specs.Parts.{PartsFit, inside, readable_total, writable_total}
use Rattle.ring_core.specs.Writes.{Write, scatter_writes}
use Rattle.ring_core.specs.Inner.Narrow.{first_writable}
use Rattle.ring_core.specs.declared.descriptor.Part.{Part}
use Rattle.ring_core.proofs.Scattering.{no_writes}

-- A part is kept, or left out:
abbrev is_kept : ℕ → Part → Bool
is_kept most p = p.writable && nat_lt 0 p.len && nat_lt 0 most

-- the part with what is kept of it
abbrev pub cut : ℕ → Part → Part
cut most p = record p { len = min p.len most }

data Standing (most : ℕ) (p : Part) : Type 0 where
  Kept : p.writable ≡ true → 0 < p.len → 0 < most → Standing most p
  Over : p.writable ≡ false → Standing most p
  Empty : p.writable ≡ true → p.len ≡ 0 → Standing most p
  Behind : p.writable ≡ true → most ≡ 0 → Standing most p

true_or_false : (b : Bool) → (b ≡ true) ⊎ (b ≡ false)
true_or_false true = inl refl
true_or_false false = inr refl

standing : (most : ℕ) (p : Part) → Standing most p
standing most p =
    elim (true_or_false p.writable) [
      | inr r ↦ Over r
      | inl w ↦ elim (cases_lt 0 p.len) [
        | inr none ↦ Empty w (omega (arith, none))
        | inl some ↦ elim (cases_lt 0 most) [ inl left ↦ Kept w some left | inr done ↦ Behind w (omega (arith, done)) ]
      ]
    ]

pub keeps : (most : ℕ) (p : Part) (ps : List Part) → p.writable ≡ true → 0 < p.len → 0 < most
    → first_writable most (p ∷ ps) ≡ cut most p ∷ first_writable (most - p.len) ps
keeps most p ps w some left = rw (w, lt-ltb 0 p.len some, lt-ltb 0 most left) refl

over : (most : ℕ) (p : Part) (ps : List Part) → p.writable ≡ false → first_writable most (p ∷ ps) ≡ first_writable most ps
over most p ps r = rw r refl

empty : (most : ℕ) (p : Part) (ps : List Part) → p.writable ≡ true → p.len ≡ 0
    → first_writable most (p ∷ ps) ≡ first_writable most ps
empty most p ps w none = rw (w, le-ltb 0 p.len (omega (arith, none))) refl

behind : (most : ℕ) (p : Part) (ps : List Part) → p.writable ≡ true → most ≡ 0
    → first_writable most (p ∷ ps) ≡ first_writable most ps
behind most p ps w done =
    elim (cases_lt 0 p.len) [
      | inl some ↦ rw (w, lt-ltb 0 p.len some, le-ltb 0 most (omega (arith, done))) refl
      | inr none ↦ rw (w, le-ltb 0 p.len none) refl
    ]

-- What is kept:
-- no byte is in no part
pub none_first : (ps : List Part) → first_writable 0 ps ≡ []
none_first [] = refl
none_first (p ∷ ps) = elim (standing 0 p) [
  | Kept w some left ↦ absurd (omega (arith, left))
  | Over r ↦ over 0 p ps r ∙ none_first ps
  | Empty w none ↦ empty 0 p ps w none ∙ none_first ps
  | Behind w done ↦ behind 0 p ps w done ∙ none_first ps
]

-- there are no more parts than bytes
pub few_first : (most : ℕ) (ps : List Part) → length (first_writable most ps) ≤ most
few_first most [] = omega arith
few_first most (p ∷ ps) =
    let P : List Part → Type 0 = λ qs. length qs ≤ most in
    elim (standing most p) [
      | Kept w some left ↦ subst P (sym (keeps most p ps w some left)) (omega (arith, few_first (most - p.len) ps, some, left))
      | Over r ↦ subst P (sym (over most p ps r)) (few_first most ps)
      | Empty w none ↦ subst P (sym (empty most p ps w none)) (few_first most ps)
      | Behind w done ↦ subst P (sym (behind most p ps w done)) (few_first most ps)
    ]

-- the part as a number of bytes that are written, or read
writes_of : (p : Part) (ps : List Part) → p.writable ≡ true → writable_total (p ∷ ps) ≡ p.len + writable_total ps
writes_of p ps w = sum_by-cons (λ (q : Part). cond q.writable q.len 0) p ps ∙ rw w refl

no_writes_of : (p : Part) (ps : List Part) → p.writable ≡ false → writable_total (p ∷ ps) ≡ 0 + writable_total ps
no_writes_of p ps r = sum_by-cons (λ (q : Part). cond q.writable q.len 0) p ps ∙ rw r refl

reads_none : (p : Part) (ps : List Part) → p.writable ≡ true → readable_total (p ∷ ps) ≡ 0 + readable_total ps
reads_none p ps w = sum_by-cons (λ (q : Part). cond q.writable 0 q.len) p ps ∙ rw w refl

-- they are as many bytes as are wanted, or as there are
pub room_first : (most : ℕ) (ps : List Part) → writable_total (first_writable most ps) ≡ min most (writable_total ps)
room_first most [] = omega arith
room_first most (p ∷ ps) = elim (standing most p) [
  | Kept w some left ↦
      ap writable_total (keeps most p ps w some left)
      ∙ writes_of (cut most p) (first_writable (most - p.len) ps) w
      ∙ omega (arith, room_first (most - p.len) ps, writes_of p ps w, some, left)
  | Over r ↦ ap writable_total (over most p ps r) ∙ omega (arith, room_first most ps, no_writes_of p ps r)
  | Empty w none ↦ ap writable_total (empty most p ps w none) ∙ omega (arith, room_first most ps, writes_of p ps w, none)
  | Behind w done ↦ ap writable_total (behind most p ps w done) ∙ omega (arith, room_first most ps, done)
]

-- none is read
pub none_read : (most : ℕ) (ps : List Part) → readable_total (first_writable most ps) ≡ 0
none_read most [] = refl
none_read most (p ∷ ps) = elim (standing most p) [
  | Kept w some left ↦
      ap readable_total (keeps most p ps w some left)
      ∙ reads_none (cut most p) (first_writable (most - p.len) ps) w
      ∙ omega (arith, none_read (most - p.len) ps)
  | Over r ↦ ap readable_total (over most p ps r) ∙ none_read most ps
  | Empty w none ↦ ap readable_total (empty most p ps w none) ∙ none_read most ps
  | Behind w done ↦ ap readable_total (behind most p ps w done) ∙ none_read most ps
]

-- the parts stay in memory
cut_inside : (size most : ℕ) (p : Part) → inside size p ≡ true → inside size (cut most p) ≡ true
cut_inside size most p is = grind (arith, common_steps, nat_tests)

all_inside : (size most : ℕ) (ps : List Part) → AllPass (inside size) ps → AllPass (inside size) (first_writable most ps)
all_inside size most [] all = All-nil (λ (q : Part). inside size q ≡ true)
all_inside size most (p ∷ ps) all =
    let here : inside size p ≡ true = All-head (λ (q : Part). inside size q ≡ true) p ps all in
    let rest : AllPass (inside size) ps = All-tail (λ (q : Part). inside size q ≡ true) p ps all in
    let P : List Part → Type 0 = λ qs. AllPass (inside size) qs in
    elim (standing most p) [
      | Kept w some left ↦
          subst P (sym (keeps most p ps w some left))
          (All-cons (λ (q : Part). inside size q ≡ true) (cut most p) (first_writable (most - p.len) ps)
          (cut_inside size most p here) (all_inside size (most - p.len) ps rest))
      | Over r ↦ subst P (sym (over most p ps r)) (all_inside size most ps rest)
      | Empty w none ↦ subst P (sym (empty most p ps w none)) (all_inside size most ps rest)
      | Behind w done ↦ subst P (sym (behind most p ps w done)) (all_inside size most ps rest)
    ]

pub fit_first : (size most : ℕ) (ps : List Part) → PartsFit size ps → PartsFit size (first_writable most ps)
fit_first size most ps fit =
    record {
      inside = all_inside size most ps fit.inside;
      total = omega (arith, none_read most ps, room_first most ps, fit.total);
    }

-- Bytes over what is kept are the same writes. One part of the chain:
abbrev here_first : Part → List ℕ → Write
here_first p bs = record { addr = p.addr + 0; bytes = take (p.len - 0) bs }

written_into : (p : Part) (ps : List Part) (bs : List ℕ) → p.writable ≡ true → 0 < p.len → 0 < length bs
    → scatter_writes (p ∷ ps) 0 bs ≡ here_first p bs ∷ scatter_writes ps 0 (drop p.len bs)
written_into p ps bs w some more =
    let e : 0 - p.len ≡ 0 = omega arith in
    let f : p.len - 0 ≡ p.len = omega arith in
    rw (w, lt-ltb 0 p.len some, lt-ltb 0 (length bs) more, e, f) refl

written_over : (p : Part) (ps : List Part) (bs : List ℕ) → p.writable ≡ false → scatter_writes (p ∷ ps) 0 bs ≡ scatter_writes ps 0 bs
written_over p ps bs r = rw r refl

written_empty : (p : Part) (ps : List Part) (bs : List ℕ) → p.writable ≡ true → p.len ≡ 0 → scatter_writes (p ∷ ps) 0 bs ≡ scatter_writes ps 0 bs
written_empty p ps bs w none =
    let e : 0 - p.len ≡ 0 = omega arith in
    let f : p.len - 0 ≡ 0 = omega (arith, none) in
    rw (w, le-ltb 0 p.len (omega (arith, none)), e, f) refl

-- a part that is cut takes as many of few bytes
cut_take : (most len : ℕ) (bs : List ℕ) → length bs ≤ most → take (min len most) bs ≡ take len bs
cut_take most len bs le = elim (cases_lt most len) [
  | inl lt ↦
      ap (λ (k : ℕ). take k bs) (let e : min len most ≡ most = omega (arith, lt) in e)
      ∙ take_all most bs le ∙ sym (take_all len bs (omega (arith, lt, le)))
  | inr more ↦ ap (λ (k : ℕ). take k bs) (let e : min len most ≡ len = omega (arith, more) in e)
]

cut_drop : (most len : ℕ) (bs : List ℕ) → length bs ≤ most → drop (min len most) bs ≡ drop len bs
cut_drop most len bs le = elim (cases_lt most len) [
  | inl lt ↦
      ap (λ (k : ℕ). drop k bs) (let e : min len most ≡ most = omega (arith, lt) in e)
      ∙ drop_all most bs le ∙ sym (drop_all len bs (omega (arith, lt, le)))
  | inr more ↦ ap (λ (k : ℕ). drop k bs) (let e : min len most ≡ len = omega (arith, more) in e)
]

here_same : (most : ℕ) (p : Part) (bs : List ℕ) → length bs ≤ most → here_first (cut most p) bs ≡ here_first p bs
here_same most p bs le =
    let e : min p.len most - 0 ≡ min p.len most = omega arith in
    let f : p.len - 0 ≡ p.len = omega arith in
    ap (λ (xs : List ℕ). let w : Write = record { addr = p.addr + 0; bytes = xs } in w)
    (ap (λ (k : ℕ). take k bs) e ∙ cut_take most p.len bs le ∙ sym (ap (λ (k : ℕ). take k bs) f))

-- no bytes are no write, and some are the same
pub same_written : (most : ℕ) (ps : List Part) (bs : List ℕ) → length bs ≤ most
    → scatter_writes (first_writable most ps) 0 bs ≡ scatter_writes ps 0 bs
same_written most [] bs le = refl
same_written most (p ∷ ps) bs le = elim (cases_lt 0 (length bs)) [
  | inr none ↦
      let is : bs ≡ [] = sym (take_all 0 bs none) in
      ap (λ (xs : List ℕ). scatter_writes (first_writable most (p ∷ ps)) 0 xs) is
      ∙ no_writes (first_writable most (p ∷ ps)) 0
      ∙ sym (ap (λ (xs : List ℕ). scatter_writes (p ∷ ps) 0 xs) is ∙ no_writes (p ∷ ps) 0)
  | inl more ↦ elim (standing most p) [
    | Kept w some left ↦
        ap (λ (qs : List Part). scatter_writes qs 0 bs) (keeps most p ps w some left)
        ∙ written_into (cut most p) (first_writable (most - p.len) ps) bs w (omega (arith, some, left)) more
        ∙ ap (λ (x : Write). x ∷ scatter_writes (first_writable (most - p.len) ps) 0 (drop (min p.len most) bs)) (here_same most p bs le)
        ∙ ap (λ (xs : List ℕ). here_first p bs ∷ scatter_writes (first_writable (most - p.len) ps) 0 xs) (cut_drop most p.len bs le)
        ∙ ap (λ (xs : List Write). here_first p bs ∷ xs)
        (same_written (most - p.len) ps (drop p.len bs) (omega (arith, length-drop p.len bs, le)))
        ∙ sym (written_into p ps bs w some more)
    | Over r ↦
        ap (λ (qs : List Part). scatter_writes qs 0 bs) (over most p ps r)
        ∙ same_written most ps bs le ∙ sym (written_over p ps bs r)
    | Empty w none ↦
        ap (λ (qs : List Part). scatter_writes qs 0 bs) (empty most p ps w none)
        ∙ same_written most ps bs le ∙ sym (written_empty p ps bs w none)
    | Behind w done ↦ absurd (omega (arith, more, le, done))
  ]
]

-- what the chain knows of its parts stays right
pub stays_right : (size size' most writable readable' writable' : ℕ) (old new : List Part) → new ≡ first_writable most old
    → writable ≡ writable_total old → PartsFit size old
    → readable' ≡ 0 → writable' ≡ min writable most → size' ≡ size
    → (readable' ≡ readable_total new) × (writable' ≡ writable_total new) × PartsFit size' new
stays_right size size' most writable readable' writable' old new is had fit none least same = (
  none ∙ sym (ap readable_total is ∙ none_read most old),
  let e : min writable most ≡ min most (writable_total old) = omega (arith, had) in
      least ∙ e ∙ sym (ap writable_total is ∙ room_first most old),
  let f : PartsFit size (first_writable most old) = fit_first size most old fit in
      subst (λ (n : ℕ). PartsFit n new) (sym same) (subst (λ (ps : List Part). PartsFit size ps) (sym is) f),
)
