-- The bytes of a task management function, one field after the other, hold each field in its place.
use Rattle.std.proofs.Common.{◌≡◌, ℕ, ◌<◌, ◌^◌, List, [], ◌∷◌, ◌++◌, length, take, drop, sym, ◌∙◌, ap, subst, arith, length-append}
use Rattle.std.specs.Int.{w32, w64, to_le_bytes}
use Rattle.scsi_codec.specs.Lun.{IsAddress}
use Rattle.guest_driver.specs.Inner.Requests.{IsFunction}
use Rattle.guest_driver.proofs.Heads.{take_first, drop_first}
use Rattle.guest_driver.proofs.Numbers.{number_from, reads_4, reads_8}
use Rattle.script_syntax.specs.declared.send.TaskManagement.{TaskManagement}

module _ (bytes lun : List ℕ) (subtype id : ℕ) (eight : length lun ≡ 8)
    (is : bytes ≡ 0 ∷ 0 ∷ 0 ∷ 0 ∷ (to_le_bytes w32 subtype ++ (lun ++ to_le_bytes w64 id))) where
  whole : length bytes ≡ 24
  whole = ap length is ∙ omega (arith, eight, length-append lun (to_le_bytes w64 id))

  type_at_0 : number_from 0 4 bytes ≡ 0
  type_at_0 = ap (λ (xs : List ℕ). number_from 0 4 xs) is

  subtype_at_4 : subtype < 2 ^ 32 → subtype ≡ number_from 0 4 (drop 4 bytes)
  subtype_at_4 fits =
      sym (ap (λ (xs : List ℕ). number_from 0 4 (drop 4 xs)) is ∙ reads_4 subtype (lun ++ to_le_bytes w64 id) fits)

  lun_at_8 : take 8 (drop 8 bytes) ≡ lun
  lun_at_8 = ap (λ (xs : List ℕ). take 8 (drop 8 xs)) is ∙ take_first 8 lun (to_le_bytes w64 id) eight

  id_at_16 : id < 2 ^ 64 → id ≡ number_from 0 8 (drop 16 bytes)
  id_at_16 fits =
      sym (ap (λ (xs : List ℕ). number_from 0 8 (drop 16 xs)) is
      ∙ ap (λ (xs : List ℕ). number_from 0 8 xs) (drop_first 8 0 lun (to_le_bytes w64 id) eight)
      ∙ reads_8 id [] fits)

-- what still lies behind the address when that is written
abbrev zeros : List ℕ
zeros = 0 ∷ 0 ∷ 0 ∷ 0 ∷ 0 ∷ 0 ∷ 0 ∷ 0 ∷ []

-- 24 zeros with the subtype written over those from byte 4 on
abbrev with_subtype : List ℕ → List ℕ
with_subtype a = 0 ∷ 0 ∷ 0 ∷ 0 ∷ (a ++ (0 ∷ 0 ∷ 0 ∷ 0 ∷ 0 ∷ 0 ∷ 0 ∷ 0 ∷ 0 ∷ 0 ∷ 0 ∷ 0 ∷ 0 ∷ 0 ∷ 0 ∷ 0 ∷ []))

-- those with the address written over the bytes from 8 on
abbrev with_address : List ℕ → List ℕ → List ℕ
with_address a lun = take 8 (with_subtype a) ++ (lun ++ drop 8 (drop 8 (with_subtype a)))

-- those with the id written over the bytes from 16 on
abbrev pub written : List ℕ → List ℕ → List ℕ → List ℕ
written a lun d = take 16 (with_address a lun) ++ (d ++ drop 8 (drop 16 (with_address a lun)))

-- the type 0 and the subtype, and what lies behind them
abbrev with_front : ℕ → List ℕ → List ℕ
with_front subtype xs = 0 ∷ 0 ∷ 0 ∷ 0 ∷ (to_le_bytes w32 subtype ++ xs)

-- what is written so is four zeros and the fields, one after the other
in_a_row : (subtype id : ℕ) (lun : List ℕ) → length lun ≡ 8
    → written (to_le_bytes w32 subtype) lun (to_le_bytes w64 id)
    ≡ 0 ∷ 0 ∷ 0 ∷ 0 ∷ (to_le_bytes w32 subtype ++ (lun ++ to_le_bytes w64 id))
in_a_row subtype id lun eight =
    ap (λ (xs : List ℕ). with_front subtype (xs ++ (to_le_bytes w64 id ++ drop 8 (drop 8 (lun ++ zeros)))))
    (take_first 8 lun zeros eight)
    ∙ ap (λ (xs : List ℕ). with_front subtype (lun ++ (to_le_bytes w64 id ++ drop 8 xs)))
    (drop_first 8 0 lun zeros eight)

-- four zeros and the fields, one after the other, are read as the function
function_is : (bytes : List ℕ) (f : TaskManagement) → length f.lun ≡ 8 → f.subtype < 2 ^ 32 → f.id < 2 ^ 64
    → bytes ≡ 0 ∷ 0 ∷ 0 ∷ 0 ∷ (to_le_bytes w32 f.subtype ++ (f.lun ++ to_le_bytes w64 f.id)) → IsFunction bytes f
function_is bytes f eight small fits is =
    record {
      whole = whole bytes f.lun f.subtype f.id eight is;
      read = λ unit names. (
        (omega (arith, whole bytes f.lun f.subtype f.id eight is), type_at_0 bytes f.lun f.subtype f.id eight is),
        omega (arith, whole bytes f.lun f.subtype f.id eight is),
        subtype_at_4 bytes f.lun f.subtype f.id eight is small,
        subst (λ (xs : List ℕ). IsAddress xs unit) (sym (lun_at_8 bytes f.lun f.subtype f.id eight is)) names,
        id_at_16 bytes f.lun f.subtype f.id eight is fits,
      );
    }

-- bytes that are written so are read as the function
pub written_is : (a lun d : List ℕ) (f : TaskManagement) → length f.lun ≡ 8 → f.subtype < 2 ^ 32 → f.id < 2 ^ 64
    → a ≡ to_le_bytes w32 f.subtype → lun ≡ f.lun → d ≡ to_le_bytes w64 f.id → IsFunction (written a lun d) f
written_is a lun d f eight small fits first second third =
    function_is (written a lun d) f eight small fits
    (ap (λ (xs : List ℕ). written xs lun d) first
    ∙ ap (λ (xs : List ℕ). written (to_le_bytes w32 f.subtype) xs d) second
    ∙ ap (λ (xs : List ℕ). written (to_le_bytes w32 f.subtype) f.lun xs) third
    ∙ in_a_row f.subtype f.id f.lun eight)
